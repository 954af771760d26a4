-- How the best cut is looked for: cuts with what leaves them and who crosses, and the best so far.
use Rattle.std.specs.Prelude.{◌≡◌, ℕ, ◌<◌, ◌&&◌, nat_lt, Bool, false, true, List, [], ◌∷◌, All, length, map, take, slice_index_or, if◌then◌else◌}
use Rattle.std.specs.Borrow.{Bor}
use Rattle.std.specs.List.{flat_map, fold, zip, AllZip}
use Rattle.flow_model.specs.declared.net.Cell.{Cell}
use Rattle.flow_model.specs.Network.{Network}
use Rattle.gap_fraction.specs.Fraction.{Fraction}
use Rattle.flow_paths.specs.DualRows.{Potential, DualRows, potential_at}
use Rattle.flow_paths.specs.Certificate.{upper_of, CellsHaveLengths, SourcesHaveRows, DistanceDivides, IsPotentialOf}
use Rattle.flow_paths.specs.Evaluation.{fraction_le}
use Rattle.cut_bound.specs.declared.choice.Best.{Best}
use Rattle.cut_bound.specs.declared.choice.Choice.{Choice}
use Rattle.cut_bound.specs.declared.choice.Choice.TheVariants.{Own, Cut as ByCut}
use Rattle.cut_bound.specs.declared.choice.Place.{Place}
use Rattle.cut_bound.specs.declared.choice.Place.TheVariants.{Node, Front}
use Rattle.cut_bound.specs.declared.choice.RowPlace.{RowPlace}
use Rattle.cut_bound.specs.declared.choice.SummedCut.{SummedCut}
use Rattle.cut_bound.specs.Cuts.{Side, cut_dual}
use Rattle.cut_bound.specs.Candidates.{front, no_dual, rows_in, with_cuts, AreLevels}
use Rattle.flow_paths.specs.Least.{least_by}
use Rattle.cut_bound.specs.Sums.{leaving, node_side}

-- the lengths and potentials of a certificate of the network
pub record IsDualOf (net : Network) (dual : DualRows) : Type 0 where
  pub cells : CellsHaveLengths net dual
  pub sources : SourcesHaveRows net dual
  pub distance : DistanceDivides net dual
  pub numbers : All (λ r. r.cell < length net.cells) dual.lengths
  pub rows : All (IsPotentialOf net) dual.potentials

-- the duals behind the references
abbrev pub seen : List (Bor DualRows) → List DualRows
seen own = map (λ (d : Bor DualRows). d.now) own

-- the dual of that number
abbrev pub own_at : List DualRows → ℕ → DualRows
own_at own i = slice_index_or own i no_dual

-- the row of potentials at the place
abbrev pub row_at : List DualRows → RowPlace → Potential
row_at own place = potential_at (own_at own place.dual).potentials place.row

-- the side at the place
abbrev pub side_at : List DualRows → Place → Side
side_at own (Node node into) = node_side into node
side_at own (Front row level) = front (row_at own row).values level

-- the dual that was chosen
abbrev pub chosen : Network → Bool → List DualRows → Choice → DualRows
chosen net both own (Own i) = own_at own i
chosen net both own (ByCut place) = cut_dual net both (side_at own place)

-- the dual and its row are there
pub record IsRowPlace (own : List DualRows) (place : RowPlace) : Type 0 where
  pub dual : place.dual < length own
  pub row : place.row < length (own_at own place.dual).potentials

-- the node is there, or the row, with a potential for each node
abbrev pub IsPlace : ℕ → List DualRows → Place → Type 0
IsPlace nodes own (Node node into) = node < nodes
IsPlace nodes own (Front row level) = IsRowPlace own row × (length (row_at own row).values ≡ nodes)

abbrev pub IsChoice : ℕ → List DualRows → Choice → Type 0
IsChoice nodes own (Own i) = i < length own
IsChoice nodes own (ByCut place) = IsPlace nodes own place

-- the cut at a place with its sums
abbrev pub summed : List Cell → List Cell → List DualRows → Place → SummedCut
summed cells demands own place = record {
  place = place;
  leaving = leaving (side_at own place) cells;
  crossing = leaving (side_at own place) demands;
}

abbrev pub value_of : SummedCut → Fraction
value_of cut = record { num = cut.leaving; den = cut.crossing }

-- the cut where some commodity crosses and its value is below the best so far, which else stays
abbrev pub kept : Best → SummedCut → Best
kept best cut =
    if nat_lt 0 cut.crossing
    then (if fraction_le best.value (value_of cut) then best else record { value = value_of cut; choice = ByCut cut.place })
    else best

-- the places round one node
abbrev pub node_places : Bool → ℕ → List Place
node_places both v = if both then Node v false ∷ [] else Node v false ∷ Node v true ∷ []

-- the places of fronts
abbrev pub front_places : List RowPlace → List (List ℕ) → List Place
front_places rows levels = flat_map (λ r. map (Front r.0) r.1) (zip rows levels)

-- the best of the duals that are there and of the cuts that some commodity crosses
pub record IsBest (net : Network) (both : Bool) (own : List DualRows) (sides : List Side) (best : Best) : Type 0 where
  pub value : best.value ≡ upper_of net (chosen net both own best.choice)
  pub least : chosen net both own best.choice ≡ least_by (upper_of net) no_dual (with_cuts net both own sides)
  pub place : IsChoice net.nodes own best.choice

-- of the first n duals the first of the least, with its number
pub record IsBestOwn (net : Network) (own : List DualRows) (n : ℕ) (best : Best) : Type 0 where
  pub at : ℕ
  pub is : best.choice ≡ Own at
  pub inside : at < length own
  pub value : best.value ≡ upper_of net (own_at own at)
  pub least : own_at own at ≡ least_by (upper_of net) no_dual (take n own)

-- the fronts of these rows were considered, row after row
pub record Went (cells demands : List Cell) (own : List DualRows) (rows : List RowPlace) (old new : Best) : Type 0 where
  pub levels : List (List ℕ)
  pub are_levels : AllZip (λ (row : RowPlace) (ts : List ℕ). AreLevels (row_at own row).values ts) rows levels
  pub new_is : new ≡ fold kept old (map (summed cells demands own) (front_places rows levels))

-- those of all rows were
pub record Considers (cells demands : List Cell) (own : List DualRows) (old new : Best) : Type 0 where
  pub rows : List RowPlace
  pub are_rows : map (row_at own) rows ≡ rows_in own
  pub places : All (IsRowPlace own) rows
  pub went : Went cells demands own rows old new

-- the cut round a node with its sums
abbrev pub node_cut : List Cell → List Cell → Bool → ℕ → SummedCut
node_cut cells demands into v = record {
  place = Node v into;
  leaving = leaving (node_side into v) cells;
  crossing = leaving (node_side into v) demands;
}

-- those round one node
abbrev pub node_cuts : List Cell → List Cell → Bool → ℕ → List SummedCut
node_cuts cells demands both v =
    if both then node_cut cells demands false v ∷ [] else node_cut cells demands false v ∷ node_cut cells demands true v ∷ []

-- one of the first, one of the second, and so on
abbrev pub woven : List SummedCut → List SummedCut → List SummedCut
woven [] ys = []
woven (x ∷ xs) [] = []
woven (x ∷ xs) (y ∷ ys) = x ∷ y ∷ woven xs ys

-- the front of the row at the level, with these sums
abbrev pub front_cut : RowPlace → ℕ → ℕ → ℕ → SummedCut
front_cut row level out over = record { place = Front row level; leaving = out; crossing = over }

-- the front at the level with its sums
abbrev pub level_cut : List Cell → List Cell → RowPlace → List ℕ → ℕ → SummedCut
level_cut cells demands row values level =
    front_cut row level (leaving (front values level) cells) (leaving (front values level) demands)

-- ---- duals that are made

-- the nodes that are marked
abbrev pub marked : List Bool → Side
marked marks = λ v. slice_index_or marks v false

-- the potential by whether the source and the node are on the side
abbrev pub potential_by : (both from_side on_side : Bool) → ℕ
potential_by both from_side on_side = if from_side then (if on_side then 0 else 1) else (if both && on_side then 1 else 0)
