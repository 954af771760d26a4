-- Turns, each a row of its own, and the rows that they come to.
use Rattle.std.specs.Prelude.{◌≡◌, ℕ, ◌*◌, ◌==◌, ◌&&◌, Bool, false, IsTrue, if◌then◌else◌, List, [], ◌∷◌, ◌++◌, All, AllPairs, count_by}
use Rattle.std.specs.List.{sum_by, list_any}
use Rattle.std.specs.Str.{bytes_eq}
use Rattle.flow_model.specs.Routing.{Row, carried, load_of}
use Rattle.flow_paths.specs.RowOrder.{row_lt}

-- whether both rows are of one commodity and one path
abbrev pub same_path : Row → Row → Bool
same_path a b = (a.commodity == b.commodity) && bytes_eq a.walk b.walk

-- all that the turns have routed for the row's commodity along its path
abbrev pub routed_along : List Row → Row → ℕ
routed_along turns row = sum_by (λ turn. if same_path turn row then turn.weight else 0) turns

-- one row for each commodity and path that some turn has, in any order, with all that was routed along it
pub record IsCollected (turns rows : List Row) : Type 0 where
  pub apart : AllPairs (λ a b. same_path a b ≡ false) rows
  pub each : All (λ turn. IsTrue (list_any (same_path turn) rows)) turns
  pub no_other : All (λ row. IsTrue (list_any (same_path row) turns)) rows
  pub weights : All (λ row. row.weight ≡ routed_along turns row) rows

-- one row for each commodity and path that some turn has, in ascending order, with all that was routed along it
pub record IsTally (turns rows : List Row) : Type 0 where
  pub ascending : AllPairs (λ a b. IsTrue (row_lt a b)) rows
  pub each : All (λ turn. IsTrue (list_any (same_path turn) rows)) turns
  pub no_other : All (λ row. IsTrue (list_any (same_path row) turns)) rows
  pub weights : All (λ row. row.weight ≡ routed_along turns row) rows

-- the new rows are those of the same turns and of this one
abbrev pub TakesTurn : List Row → List Row → Row → Type 0
TakesTurn old new turn = (turns : List Row) → IsCollected turns old → IsCollected (turns ++ turn ∷ []) new

-- ---- laws

-- a tally carries of every commodity, loads every cell with, and weighs in all what its turns do
abbrev pub TallyIsItsTurns : Type 0
TallyIsItsTurns = (turns rows : List Row) → IsTally turns rows
    → ((k : ℕ) → carried rows k ≡ carried turns k) × ((c : ℕ) → load_of rows c ≡ load_of turns c) × (sum_by (λ row. row.weight) rows ≡ sum_by (λ turn. turn.weight) turns)

-- so do rows in any order
abbrev pub RowsAreTheirTurns : Type 0
RowsAreTheirTurns = (turns rows : List Row) → IsCollected turns rows
    → ((k : ℕ) → carried rows k ≡ carried turns k) × ((c : ℕ) → load_of rows c ≡ load_of turns c) × (sum_by (λ row. row.weight) rows ≡ sum_by (λ turn. turn.weight) turns)

-- where each turn routes the same amount for its commodity, a row's weight is that amount for each turn along it
abbrev pub WeightsAreCounted : Type 0
WeightsAreCounted = (amount : ℕ → ℕ) (turns rows : List Row) → IsTally turns rows → All (λ turn. turn.weight ≡ amount turn.commodity) turns
    → All (λ row. row.weight ≡ amount row.commodity * count_by (λ turn. same_path turn row) turns) rows

-- turns have one tally
abbrev pub TallyIsUnique : Type 0
TallyIsUnique = (turns rows others : List Row) → IsTally turns rows → IsTally turns others → rows ≡ others
