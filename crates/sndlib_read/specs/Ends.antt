-- Ends by their numbers, and the rows of demands that have them.
use Rattle.std.specs.Prelude.{◌≡◌, ℕ, List, map, Option, Some, None, Result, Ok, Err}
use Rattle.std.specs.declared.vec.Vec.{Vec}
use Rattle.std.specs.declared.alloc.Global.{Global}
use Rattle.sndlib_grammar.specs.declared.refusal.NetKind.TheVariants as netkinds
use Rattle.sndlib_grammar.specs.Grammar.{DemandEntry}
use Rattle.sndlib_grammar.specs.Faults.{first_of, at_line, unknown_of_demand}
use Rattle.sndlib_grammar.specs.Rows.{node_number}
use Rattle.sndlib_rows.specs.declared.ends.Ends.{Ends}
use Rattle.sndlib_rows.specs.declared.refusal.ReadNetEnd.{ReadNetEnd}
use Rattle.sndlib_rows.specs.declared.refusal.ReadNetEnd.TheVariants.{Refused, Memory}
use Rattle.sndlib_rows.specs.declared.row.DemandRow.{DemandRow}
use Rattle.sndlib_read.specs.declared.kept.DemandWords.{DemandWords}
use Rattle.sndlib_read.specs.Views.{demand_view}

-- the two numbers, or the line of the first end that is no node
abbrev pub IsEnds : Option ℕ → Ends → Result Ends ℕ → Type 0
IsEnds unknown ends (Ok e) = (unknown ≡ None) × (e ≡ ends)
IsEnds unknown ends (Err line) = unknown ≡ Some line

-- the ends of all rows, or the line of the first that is no node
abbrev pub AreEnds : {X : Type 0} → (X → Option ℕ) → (X → Ends) → List X → Result (Vec Ends Global) ReadNetEnd → Type 0
AreEnds unknown ends rows (Ok v) = (first_of unknown rows ≡ None) × (v.items ≡ map ends rows)
AreEnds unknown ends rows (Err Memory) = Unit {0}
AreEnds unknown ends rows (Err (Refused f)) = at_line netkinds.UnknownNode (first_of unknown rows) ≡ Some f

-- the numbers of the ends of a demand
abbrev pub demand_ends_of : List (List ℕ) → DemandEntry → Ends
demand_ends_of known d = record { source = node_number known d.source; target = node_number known d.target }

-- the row of a demand whose words these are
abbrev pub row_of : List (List ℕ) → DemandWords → DemandRow
row_of known d = record {
  id = d.id.text;
  source = (demand_ends_of known (demand_view d)).source;
  target = (demand_ends_of known (demand_view d)).target;
  unit = d.unit.text;
  value = d.value.text;
  longest = d.longest.text;
  line = d.id.line;
}

-- the rows of all demands, or the line of the first end that is no node
abbrev pub AreDemandRows : List (List ℕ) → List DemandWords → Result (Vec DemandRow Global) ReadNetEnd → Type 0
AreDemandRows known demands (Ok v) =
    (first_of (unknown_of_demand known) (map demand_view demands) ≡ None) × (v.items ≡ map (row_of known) demands)
AreDemandRows known demands (Err Memory) = Unit {0}
AreDemandRows known demands (Err (Refused f)) =
    at_line netkinds.UnknownNode (first_of (unknown_of_demand known) (map demand_view demands)) ≡ Some f
