-- The duals that rows and layers make, and that their value can be taken.
use Rattle.std.proofs.Common.{◌≡◌, inl, inr, ℕ, ◌≤◌, List, [], ◌∷◌, Bool, true, false, cond, eqb, length, get_or, map, Option, Some, None, refl, ap, ◌∙◌, arith}
use Rattle.std.specs.Prelude.{All}
use Rattle.std.specs.List.{filter, range_with_len}
use Rattle.std.proofs.lemmas.List.{length-map}
use Rattle.std.proofs.lemmas.List.Elements.{All-map, All-weaker}
use Rattle.mcf_limits.specs.declared.TheConstants.{MAX_LENGTH}
use Rattle.flow_model.specs.declared.net.Cell.{Cell}
use Rattle.flow_model.specs.Network.{Network, IsNetwork}
use Rattle.flow_model.specs.Lengths.{AreLengths}
use Rattle.fixed_exp.specs.Far.{EmptyAreFar}
use Rattle.flow_paths.specs.DualRows.{Potential}
use Rattle.dual_bound.specs.declared.rows.Row.{Row}
use Rattle.dual_bound.specs.Bounds.{IsRowWith, IsDistance, IsCutPotential, cut_lengths}
use Rattle.dual_bound.specs.Rows.{potential_of, potentials_of, dual_of, sources_of, IsFilledWith}
use Rattle.dual_bound.proofs.Bounding.{lengths-small}
use Rattle.hop_paths.specs.Allowed.{AreLimits, is_unlimited, IsShortWalk, IsLeastOf}
use Rattle.hop_check.specs.LayerRows.{Layer}
use Rattle.hop_check.specs.Layers.{HopDual}
use Rattle.hop_solve.specs.declared.layering.Numbers.TheVariants.{Lengths, Marks}
use Rattle.hop_solve.specs.Run.{layers_asked, IsLayerWith, IsHopDualWith, IsHopBoundOf, IsCutLayer, IsHopCutDual, HasHopCut}
use Rattle.hop_solve.specs.Numbers.{number_of, IsNumber, CanWeigh}
use Rattle.hop_solve.proofs.Shows.{ShowsHops, bound-shows, cut-shows}

nodes-are : (rows : List Row) → map (λ (r : Potential). r.node) (potentials_of rows) ≡ sources_of rows
nodes-are [] = refl
nodes-are (r ∷ rows) = ap (λ (ns : List ℕ). r.source ∷ ns) (nodes-are rows)

rows-with : (nodes : ℕ) (P : ℕ → ℕ → ℕ → Type 0) (rows : List Row) → All (IsFilledWith nodes P) rows → All (IsRowWith nodes P) (potentials_of rows)
rows-with nodes P rows h = All-map (IsRowWith nodes P) potential_of rows (All-weaker (IsFilledWith nodes P) (λ row. IsRowWith nodes P (potential_of row)) (λ row f. record { count = f.count; each = f.each }) rows h)

-- rows of potentials and layers for those that are asked for
pub record AreMade (net : Network) (limits : List (Option ℕ)) (P : ℕ → ℕ → ℕ → Type 0) (Q : ℕ → ℕ → ℕ → ℕ → Type 0) (rows : List Row) (layers : List Layer) : Type 0 where
  pub sources : sources_of rows ≡ filter (is_unlimited net limits) (range_with_len 0 net.nodes)
  pub filled : All (IsFilledWith net.nodes P) rows
  pub places : map (λ (r : Layer). (r.node, r.index)) layers ≡ layers_asked net limits
  pub layered : All (IsLayerWith net.nodes Q) layers

abbrev pub made_dual : List ℕ → List Row → List Layer → HopDual
made_dual lengths rows layers = record { dual = dual_of lengths rows; layers = layers }

dual-with : (net : Network) (limits : List (Option ℕ)) (lengths : List ℕ) (P : ℕ → ℕ → ℕ → Type 0) (Q : ℕ → ℕ → ℕ → ℕ → Type 0) (rows : List Row) (layers : List Layer) → AreMade net limits P Q rows layers → IsHopDualWith net limits lengths P Q (made_dual lengths rows layers)
dual-with net limits lengths P Q rows layers m = record { lengths_are = refl; sources = nodes-are rows ∙ m.sources; potentials = rows-with net.nodes P rows m.filled; places = m.places; layers = m.layered }

-- the marks of layers
as-mark : (cells : List Cell) (lengths : List ℕ) (s i v n : ℕ) (d : Option ℕ) → IsLeastOf (IsShortWalk cells s v i) lengths d → n ≡ number_of Marks d → IsCutLayer cells s i v n
as-mark cells lengths s i v n None p e = inr (p, e)
as-mark cells lengths s i v n (Some d) p e = inl ((p.0.0, p.0.1), e)

pub marked-layers : (net : Network) (lengths : List ℕ) (layers : List Layer) → All (IsLayerWith net.nodes (IsNumber Marks net.cells lengths)) layers → All (IsLayerWith net.nodes (IsCutLayer net.cells)) layers
marked-layers net lengths layers h = All-weaker (IsLayerWith net.nodes (IsNumber Marks net.cells lengths)) (IsLayerWith net.nodes (IsCutLayer net.cells))
    (λ r w. record { count = w.count; each = λ v l. let x = w.each v l in as-mark net.cells lengths r.node r.index v (get_or r.values v 0) x.0 x.1 x.2 }) layers h

weighs : (net : Network) (limits : List (Option ℕ)) (lengths : List ℕ) (d : HopDual) → length lengths ≡ length net.cells → All (λ n. n ≤ MAX_LENGTH) lengths → ShowsHops net limits lengths d → CanWeigh net limits lengths d
weighs net limits lengths d size small s = record {
  lengths_are = s.lengths_are;
  sizes = size;
  size_limit = small;
  potentials = s.rows;
  layers = s.layer_rows;
  asked = s.asked;
  asked_layers = s.asked_layers;
  positive = s.positive;
}

pub bound-made : (net : Network) (limits : List (Option ℕ)) (lengths : List ℕ) (rows : List Row) (layers : List Layer) → AreMade net limits (IsDistance net.cells lengths) (IsNumber Lengths net.cells lengths) rows layers → IsHopBoundOf net limits lengths (made_dual lengths rows layers)
bound-made net limits lengths rows layers m = dual-with net limits lengths (IsDistance net.cells lengths) (IsNumber Lengths net.cells lengths) rows layers m

pub bound-weighs : (net : Network) (limits : List (Option ℕ)) (lengths : List ℕ) (rows : List Row) (layers : List Layer) → IsNetwork net → AreLimits net limits → AreLengths net.cells lengths → EmptyAreFar net.cells lengths
    → AreMade net limits (IsDistance net.cells lengths) (IsNumber Lengths net.cells lengths) rows layers → CanWeigh net limits lengths (made_dual lengths rows layers)
bound-weighs net limits lengths rows layers n are long far m =
    weighs net limits lengths (made_dual lengths rows layers) long.count (lengths-small net.cells lengths long far) (bound-shows net limits lengths (made_dual lengths rows layers) n are long far (bound-made net limits lengths rows layers m))

pub cut-made : (net : Network) (limits : List (Option ℕ)) (rows : List Row) (layers : List Layer) → AreMade net limits (IsCutPotential net.cells) (IsCutLayer net.cells) rows layers → IsHopCutDual net limits (made_dual (cut_lengths net.cells) rows layers)
cut-made net limits rows layers m = dual-with net limits (cut_lengths net.cells) (IsCutPotential net.cells) (IsCutLayer net.cells) rows layers m

cond-small : (b : Bool) → cond {A = ℕ} b 1 0 ≤ 1
cond-small true = omega arith
cond-small false = omega arith

cut-small : (cells : List Cell) → All (λ n. n ≤ MAX_LENGTH) (cut_lengths cells)
cut-small cells = All-map (λ n. n ≤ MAX_LENGTH) (λ (cell : Cell). cond {A = ℕ} (eqb cell.cap 0) 1 0) cells (λ k d l. omega (arith, cond-small (eqb (get_or cells k d).cap 0)))

pub cut-weighs : (net : Network) (limits : List (Option ℕ)) (rows : List Row) (layers : List Layer) → IsNetwork net → AreLimits net limits → HasHopCut net limits → AreMade net limits (IsCutPotential net.cells) (IsCutLayer net.cells) rows layers
    → CanWeigh net limits (cut_lengths net.cells) (made_dual (cut_lengths net.cells) rows layers)
cut-weighs net limits rows layers n are cut m =
    weighs net limits (cut_lengths net.cells) (made_dual (cut_lengths net.cells) rows layers) (length-map net.cells (λ (cell : Cell). cond {A = ℕ} (eqb cell.cap 0) 1 0)) (cut-small net.cells)
    (cut-shows net limits (made_dual (cut_lengths net.cells) rows layers) n are cut (cut-made net limits rows layers m))
