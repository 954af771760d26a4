-- The path that a search gives is a least path.
use Rattle.std.proofs.Common.{◌≡◌, ℕ, ◌<◌, ◌≤◌, List, get_or, length, sym, ap, ◌∙◌, subst, refl, arith}
use Rattle.std.specs.Prelude.{Option, Some, None, slice_get}
use Rattle.std.proofs.lemmas.Option.{get_or_from_slice_get}
use Rattle.flow_model.specs.declared.net.Cell.{Cell}
use Rattle.flow_model.specs.declared.net.Commodity.{Commodity}
use Rattle.flow_model.specs.declared.setting.Setting.{Setting}
use Rattle.flow_model.specs.Network.{Network}
use Rattle.flow_model.specs.Bound.{walk_length}
use Rattle.flow_model.specs.Lengths.{lengths_of}
use Rattle.flow_model.specs.Least.{IsLeast, IsLeastWalk, AreDifferent}
use Rattle.dijkstra_paths.specs.Searched.{IsPath}
use Rattle.solve_tests.specs.Routed.{IsLeastPath}

least-walk : (cells : List Cell) (lengths : List ℕ) (nodes from v : ℕ) (d : Option ℕ) (p : Option (List ℕ)) (walk : List ℕ) → IsLeast cells lengths from v d → IsPath cells lengths nodes from v d p → Some walk ≡ p
    → IsLeastWalk cells lengths from v walk × AreDifferent walk
least-walk cells lengths nodes from v None p walk least path is = absurd (let none : Some walk ≡ None = is ∙ path in cc)
least-walk cells lengths nodes from v (Some d) p walk least path is =
    let h = subst (IsPath cells lengths nodes from v (Some d)) (sym is) path in
    (record { walks = h.0; least = λ other w. let a = least.1 other w in let b : walk_length lengths walk ≡ d = h.1 in omega arith }, h.2)

pub path-is : (net graph : Network) (setting : Setting) (loads lengths : List ℕ) (k : ℕ) (d commodity : Commodity) (nodes : ℕ) (dist : Option ℕ) (p : Option (List ℕ)) (walk : List ℕ)
    → graph ≡ net → lengths ≡ lengths_of net setting loads → commodity ≡ get_or net.commodities k d
    → IsLeast graph.cells lengths commodity.from commodity.to dist → IsPath graph.cells lengths nodes commodity.from commodity.to dist p → Some walk ≡ p → IsLeastPath net setting loads k walk
path-is net graph setting loads lengths k d commodity nodes dist p walk g l c least path is =
    let L : Network × List ℕ → Type 0 = λ x. IsLeast x.0.cells x.1 commodity.from commodity.to dist in
    let P : Network × List ℕ → Type 0 = λ x. IsPath x.0.cells x.1 nodes commodity.from commodity.to dist p in
    let both = least-walk net.cells (lengths_of net setting loads) nodes commodity.from commodity.to dist p walk (subst L (λ i. (g i, l i)) least) (subst P (λ i. (g i, l i)) path) is in
    record {
      least = λ other at. let same : commodity ≡ other = c ∙ get_or_from_slice_get net.commodities k other d at in subst (λ (x : Commodity). IsLeastWalk net.cells (lengths_of net setting loads) x.from x.to walk) same both.0;
      different = both.1;
    }
