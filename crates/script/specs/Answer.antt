-- What the reader of scripts answers.
use Rattle.std.specs.Prelude.{◌≡◌, ℕ, ◌<◌, List, Result, Ok, Err}
use Rattle.script.specs.declared.refusal.ScriptRefusal.{ScriptRefusal}
use Rattle.script.specs.declared.refusal.ScriptEnd.{ScriptEnd}
use Rattle.script.specs.declared.refusal.ScriptEnd.TheVariants.{Refused, Memory}
use Rattle.script.specs.declared.step.Step.{Step}
use Rattle.script.specs.declared.word.Expected.{Expected}
use Rattle.script.specs.declared.word.Expected.TheVariants.{Command, Link, Closing, Number}
use Rattle.script.specs.declared.word.Meaning.{Meaning}
use Rattle.script.specs.declared.word.Meaning.TheVariants.{Expects, Edits, Shows}
use Rattle.script.specs.declared.reading.Reading.{Reading}
use Rattle.mcf_limits.specs.declared.TheConstants.{MAX_UNITS}
use Rattle.script.specs.Reading.{Sofar}
use Rattle.std.specs.Prelude.{◌≤◌}

-- the answer is what reading gives, unless memory ran out
abbrev pub Reads : {X : Type 0} → (X → List Step) → Result X ScriptEnd → Result (List Step) ScriptRefusal → Type 0
Reads view (Ok x) read = read ≡ Ok (view x)
Reads view (Err Memory) read = Unit {0}
Reads view (Err (Refused r)) read = read ≡ Err r

-- the link that is expected to change is one of `links` links
abbrev pub IsExpected : ℕ → Expected → Type 0
IsExpected links Command = Unit {0}
IsExpected links (Link change) = Unit {0}
IsExpected links Closing = Unit {0}
IsExpected links (Number change link) = link < links

-- the same of what a word means
abbrev pub IsMeant : ℕ → Meaning → Type 0
IsMeant links (Expects e) = IsExpected links e
IsMeant links (Edits link cap) = (link < links) × (cap ≤ MAX_UNITS)
IsMeant links Shows = Unit {0}

-- what the reader keeps, without where it lies in memory
abbrev pub sofar_of : Reading → Sofar
sofar_of r = record { expected = r.expected; caps = r.caps.items; steps = r.steps.items }
