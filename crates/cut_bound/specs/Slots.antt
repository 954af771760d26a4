-- A place for the first of the least fronts of each row of potentials, on the way to the best.
use Rattle.std.specs.Prelude.{◌≡◌, ℕ, ◌*◌, ◌<◌, ◌≤◌, nat_lt, List, All, Option, None, Some, IfSome, length, map, slice_index_or, if◌then◌else◌}
use Rattle.std.specs.List.{fold}
use Rattle.mcf_limits.specs.declared.TheConstants.{MAX_CELLS, MAX_UNITS}
use Rattle.flow_model.specs.declared.net.Cell.{Cell}
use Rattle.flow_model.specs.Network.{Network, IsCell}
use Rattle.flow_paths.specs.DualRows.{DualRows}
use Rattle.flow_paths.specs.Evaluation.{fraction_le}
use Rattle.cut_bound.specs.declared.choice.Best.{Best}
use Rattle.cut_bound.specs.declared.choice.RowPlace.{RowPlace}
use Rattle.cut_bound.specs.declared.choice.SummedCut.{SummedCut}
use Rattle.cut_bound.specs.declared.fronts.RowLeast.{RowLeast}
use Rattle.cut_bound.specs.Candidates.{AreLevels}
use Rattle.cut_bound.specs.Sums.{total_capacity}
use Rattle.cut_bound.specs.Search.{kept, level_cut, row_at, value_of, IsDualOf, IsRowPlace}

-- ---- the first of the least cuts

-- some commodity crosses
abbrev pub IsCrossed : SummedCut → Type 0
IsCrossed cut = 0 < cut.crossing

-- the smaller of two cuts; the first where they are equal
abbrev pub lesser : SummedCut → SummedCut → SummedCut
lesser first second = if fraction_le (value_of first) (value_of second) then first else second

-- the least so far and a cut that some commodity crosses
abbrev pub least_and : Option SummedCut → SummedCut → SummedCut
least_and None cut = cut
least_and (Some first) cut = lesser first cut

-- the least so far with one cut more, which counts where some commodity crosses it
abbrev pub least_with : Option SummedCut → SummedCut → Option SummedCut
least_with least cut = if nat_lt 0 cut.crossing then Some (least_and least cut) else least

-- of the cuts that some commodity crosses the first of the least
abbrev pub least_of : List SummedCut → Option SummedCut
least_of cuts = fold least_with None cuts

-- the best so far and a cut, where there is one
abbrev pub kept_some : Best → Option SummedCut → Best
kept_some best None = best
kept_some best (Some cut) = kept best cut

-- ---- rows

abbrev pub place_in : List RowPlace → ℕ → RowPlace
place_in rows i = slice_index_or rows i (record { dual = 0; row = 0 })

-- there is a row of that number, and its fronts can be summed up
pub record IsRow (net : Network) (demands : List Cell) (own : List DualRows) (rows : List RowPlace) (i : ℕ) : Type 0 where
  pub total : total_capacity demands ≤ MAX_CELLS * MAX_UNITS
  pub cells : All (IsCell net.nodes) demands
  pub fits : All (IsDualOf net) own
  pub there : i < length rows
  pub places : All (IsRowPlace own) rows

-- of the fronts of the row that some commodity crosses the first of the least
pub record IsLeastFront (cells demands : List Cell) (own : List DualRows) (row : RowPlace) (least : RowLeast) : Type 0 where
  pub levels : List ℕ
  pub are_levels : AreLevels (row_at own row).values levels
  pub cut : least.cut ≡ least_of (map (level_cut cells demands row (row_at own row).values) levels)

-- that of the row of that number, or nothing
pub record IsFilled (cells demands : List Cell) (own : List DualRows) (rows : List RowPlace) (i : ℕ) (slot : Option RowLeast) : Type 0 where
  pub least : IfSome slot (IsLeastFront cells demands own (place_in rows i))

-- the best so far and the least front of a row
abbrev pub kept_least : Best → RowLeast → Best
kept_least best least = kept_some best least.cut

-- what stands in the slots was considered, one after the other
pub record AreConsidered (slots : List (Option RowLeast)) (old new : Best) : Type 0 where
  pub leasts : List RowLeast
  pub are_all : map Some leasts ≡ slots
  pub new_is : new ≡ fold kept_least old leasts
