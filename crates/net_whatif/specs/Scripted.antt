-- What comes of a script's text on a valid certificate.
use Rattle.std.specs.Prelude.{◌≡◌, ℕ, List, map, length, Ok, Err}
use Rattle.flow_paths.specs.declared.certificate.Proof.{Proof}
use Rattle.sndlib_grammar.specs.Rows.{NetRows}
use Rattle.unit_scale.specs.Scaling.{ScaledNet}
use Rattle.script.specs.Reading.{script_of}
use Rattle.script.specs.Steps.{AreSteps, AreStepsOfCells}
use Rattle.whatif.specs.Planned.{Planned}
use Rattle.net_whatif.specs.declared.scripting.Scripted.{Scripted}
use Rattle.net_whatif.specs.declared.scripting.Scripted.TheVariants.{Refused, Ready}

-- the plan of a certificate, with the capacities of its network
abbrev pub start_of : ScaledNet → Proof → Planned
start_of net proof = record { net = net.net; proof = proof; caps = map (λ c. c.cap) net.net.cells }

-- the first refusal of the script; or its steps, of links as the network has them, with the plan of the certificate
abbrev pub IsScriptedText : NetRows → ScaledNet → Proof → List ℕ → Scripted → Type 0
IsScriptedText rows net proof text (Refused r) = script_of rows net text ≡ Err r
IsScriptedText rows net proof text (Ready plan script) =
    (script_of rows net text ≡ Ok script.steps) × (script.mode ≡ net.options.links) × (plan ≡ start_of net proof)
    × AreSteps (length rows.links) script.steps

-- the steps are of the plan's links
abbrev pub CanRun : Scripted → Type 0
CanRun (Refused r) = Unit {0}
CanRun (Ready plan script) = AreStepsOfCells script.mode (length plan.caps) script.steps
