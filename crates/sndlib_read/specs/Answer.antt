-- What the reader tells of a text.
use Rattle.std.specs.Prelude.{◌≡◌, ℕ, List, Result, Ok, Err}
use Rattle.sndlib_grammar.specs.declared.refusal.NetRefusal.{NetRefusal}
use Rattle.sndlib_grammar.specs.Net.{IsNetOf}
use Rattle.sndlib_grammar.specs.Rows.{NetRows}
use Rattle.sndlib_rows.specs.declared.refusal.ReadNetEnd.{ReadNetEnd}
use Rattle.sndlib_rows.specs.declared.refusal.ReadNetEnd.TheVariants.{Refused, Memory}

-- the grammar and the order of refusals give the text this answer, and no other
pub record IsAnswer (text : List ℕ) (answer : Result NetRows NetRefusal) : Type 0 where
  pub is : IsNetOf text answer
  pub only : (other : Result NetRows NetRefusal) → IsNetOf text other → other ≡ answer

-- these are the rows of the text, or this is its refusal; if memory ran out, nothing is said
abbrev pub Answers : List ℕ → Result NetRows ReadNetEnd → Type 0
Answers text (Ok rows) = IsAnswer text (Ok rows)
Answers text (Err (Refused r)) = IsAnswer text (Err r)
Answers text (Err Memory) = Unit {0}
