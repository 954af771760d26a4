-- What `checkhops` says of what `hops` writes.
use Rattle.std.specs.Prelude.{◌≡◌, ◌↔◌, ◌≤◌, ℕ, List, Option}
use Rattle.flow_model.specs.Network.{IsNetwork}
use Rattle.flow_paths.specs.Certificate.{lower_of}
use Rattle.sndlib_grammar.specs.Rows.{NetRows, AreNetRows}
use Rattle.unit_scale.specs.declared.options.NetOptions.{NetOptions}
use Rattle.unit_scale.specs.Scaling.{ScaledNet}
use Rattle.cert_lines.specs.Sheet.{sheet_of}
use Rattle.cert_lines.specs.declared.net_line.TheConstants.{MAX_COUNT}
use Rattle.cert_judge.specs.declared.judged.Judged.{Judged}
use Rattle.cert_judge.specs.declared.judged.Judged.TheVariants.{Valid}
use Rattle.net_solve.specs.declared.asked.Asked.{Asked}
use Rattle.hop_check.specs.declared.hop_proof.HopProof.{HopProof}
use Rattle.hop_check.specs.Layers.{dual_of, hop_upper_of}
use Rattle.hop_check.specs.Limits.{limits_of}
use Rattle.kind_texts.specs.HopsText.{hops_text}
use Rattle.hops_cmd.specs.declared.solving.HopSolving.TheVariants.{Done}
use Rattle.hops_cmd.specs.Check.{IsHopsJudgement}
use Rattle.hops_cmd.specs.Hops.{IsHopSolving}

-- that it is valid, under the options of the network, with its verdict and both fractions
abbrev pub valid_of : ScaledNet → List (Option ℕ) → HopProof → Judged
valid_of net limits h = Valid net.options h.proof.closed (lower_of h.proof.routing) (hop_upper_of net.net limits (dual_of h))

-- of the text of what is solved of rows it is said on the same rows that it is valid, and nothing else
abbrev pub SolvedHopsCheck : Type 0
SolvedHopsCheck = (rows : NetRows) (o : NetOptions) (asked : Asked) (net : ScaledNet) (h : HopProof) (judged : Judged)
    → AreNetRows rows → rows.skipped ≤ MAX_COUNT
    → IsNetwork net.net → IsHopSolving rows o asked (Done net h)
    → IsHopsJudgement rows (hops_text (sheet_of rows net) h) judged ↔ (judged ≡ valid_of net (limits_of rows net) h)
