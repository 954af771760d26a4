-- Names of rows, kept in a set.
use Rattle.std.specs.Prelude.{◌≡◌, ℕ, List, [], map, Some, None, Result, Ok, Err}
use Rattle.std.specs.Borrow.{Bor}
use Rattle.indexmap.specs.IndexSet.{IndexSet}
use Rattle.sndlib_grammar.specs.declared.refusal.NetKind.TheVariants as netkinds
use Rattle.sndlib_grammar.specs.Grammar.{Word}
use Rattle.sndlib_grammar.specs.Faults.{texts, first_repeated, at_line, line_of}
use Rattle.sndlib_rows.specs.declared.refusal.ReadNetEnd.{ReadNetEnd}
use Rattle.sndlib_rows.specs.declared.refusal.ReadNetEnd.TheVariants.{Refused, Memory}

-- the bytes of the names, in order
abbrev pub names_of : {S : Type 0} → IndexSet (Bor (List ℕ)) S → List (List ℕ)
names_of set = map (λ k. k.now) set.keys

-- the set has these names in order, none of which stands twice; else the first that stands twice
abbrev pub AreNamed : {S : Type 0} → List Word → Result (IndexSet (Bor (List ℕ)) S) ReadNetEnd → Type 0
AreNamed ids (Ok set) = (first_repeated [] ids ≡ None) × (names_of set ≡ texts ids)
AreNamed ids (Err Memory) = Unit {0}
AreNamed ids (Err (Refused r)) = at_line netkinds.Duplicate (line_of (first_repeated [] ids)) ≡ Some r
