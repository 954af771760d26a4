use Rattle.std.specs.Prelude.{IfSome, IsSomeAnd}
use Rattle.std.specs.Option.{option_map}
use Rattle.std.proofs.Common.{◌≡◌, ◌+◌, ◌*◌, ◌<◌, ◌≤◌, ℕ, suc, List, Option, None, length, map, get_or, arith, ap, sym, subst, ◌∙◌}
use Rattle.std.proofs.Math.Nat.{mul-le-mul_right, suc-mul}
use Rattle.std.specs.Vec.{with_items}
use Rattle.std.proofs.lemmas.List.{with_items_is}
use Rattle.dijkstra_paths.specs.Searched.{known}
use Rattle.dijkstra_paths.proofs.Seen.{known-at}
use Rattle.hop_paths.specs.Allowed.{IsShortWalk, IsLeastOf}
use Rattle.hop_paths.specs.declared.search.HopStep.{HopStep}
use Rattle.hop_paths.specs.Searched.{HopSearched, hop_trail, IsShortPath}
use Rattle.hop_paths.proofs.LeastOf.{AreFound, num, least-found, path-found}
use Rattle.hop_paths.proofs.scratch.HopScratch.search.Goals as goal

-- what is said of a number and a walk, once they stand in a scratch
abbrev Has : (ℕ → ℕ → ℕ → List ℕ → Type 0) → ℕ → ℕ → ℕ → Option ℕ → List (Option HopStep) → Type 0
Has Is n k v o steps = IfSome o (λ d. IsSomeAnd (option_map (λ _. hop_trail steps n k v) o) (Is k v d))

pub returns-clause-least : goal.returns-clause-least
returns-clause-least c =
    let i = c.self.inside in
    let n = i.nodes in
    let cells = c.args.graph.now.cells in
    let lengths = c.args.lengths.now in
    let from = c.args.from in
    let dist = c.search.new.dist in
    let steps = c.search.new.steps in
    let size : n ≡ c.args.graph.now.nodes = ap (λ (s : HopSearched). s.nodes) c.self.view_is ∙ c.requires.nodes in
    let many : i.layers ≡ c.args.self.now.layers = ap (λ (s : HopSearched). s.layers) c.self.view_is in
    let small : c.args.layers ≤ i.layers = omega (arith, many, c.requires.layers) in
    let found : AreFound c.args.graph.now lengths from dist steps c.args.layers = record {
      fits = c.nodes-nodes.ensures.net;
      long = c.requires.lengths;
      first = omega (arith, c.requires.nodes, c.requires.from);
      searched = c.search.ensures;
    } in
    let whole : length dist ≡ i.dist.len = omega arith in
    let same = with_items_is i.dist dist whole in
    λ k v l lv.
    let up : suc k * n ≤ (i.layers + 1) * n = mul-le-mul_right n (omega (arith, small, l)) in
    let inside : k * n + v < length dist = omega (arith, up, suc-mul k n, c.self.invariant.count, lv) in
    let least = least-found c.args.graph.now lengths from dist steps c.args.layers found (omega (arith, small, c.self.invariant.small)) k v l (omega (arith, size, lv)) in
    let sized : IsLeastOf (IsShortWalk cells from v k) lengths (known (get_or dist (k * n + v) 0)) =
    subst (λ (j : ℕ). IsLeastOf (IsShortWalk cells from v k) lengths (known (num dist j k v))) (sym size) least in
    let seen : IsLeastOf (IsShortWalk cells from v k) lengths (get_or (map known dist) (k * n + v) None) =
    subst (λ (d : Option ℕ). IsLeastOf (IsShortWalk cells from v k) lengths d) (sym (known-at dist (k * n + v) inside)) sized in
    subst (λ (xs : List ℕ). IsLeastOf (IsShortWalk cells from v k) lengths (get_or (map known xs) (k * n + v) None)) (sym same) seen

pub returns-clause-paths : goal.returns-clause-paths
returns-clause-paths c =
    let i = c.self.inside in
    let n = i.nodes in
    let cells = c.args.graph.now.cells in
    let lengths = c.args.lengths.now in
    let from = c.args.from in
    let dist = c.search.new.dist in
    let steps = c.search.new.steps in
    let size : n ≡ c.args.graph.now.nodes = ap (λ (s : HopSearched). s.nodes) c.self.view_is ∙ c.requires.nodes in
    let many : i.layers ≡ c.args.self.now.layers = ap (λ (s : HopSearched). s.layers) c.self.view_is in
    let small : c.args.layers ≤ i.layers = omega (arith, many, c.requires.layers) in
    let found : AreFound c.args.graph.now lengths from dist steps c.args.layers = record {
      fits = c.nodes-nodes.ensures.net;
      long = c.requires.lengths;
      first = omega (arith, c.requires.nodes, c.requires.from);
      searched = c.search.ensures;
    } in
    let whole : length dist ≡ i.dist.len = omega arith in
    let beside : length steps ≡ i.steps.len = omega arith in
    let same = with_items_is i.dist dist whole in
    let same_steps = with_items_is i.steps steps beside in
    let Is : ℕ → ℕ → ℕ → List ℕ → Type 0 = λ k v d walk. IsShortPath cells lengths from v k d walk in
    λ k v l lv.
    let up : suc k * n ≤ (i.layers + 1) * n = mul-le-mul_right n (omega (arith, small, l)) in
    let inside : k * n + v < length dist = omega (arith, up, suc-mul k n, c.self.invariant.count, lv) in
    let path : Has Is c.args.graph.now.nodes k v (known (num dist c.args.graph.now.nodes k v)) steps = path-found c.args.graph.now lengths from dist steps c.args.layers found k v l (omega (arith, size, lv)) in
    let sized : Has Is n k v (known (num dist n k v)) steps = subst (λ (j : ℕ). Has Is j k v (known (num dist j k v)) steps) (sym size) path in
    let seen : Has Is n k v (get_or (map known dist) (k * n + v) None) steps = subst (λ (o : Option ℕ). Has Is n k v o steps) (sym (known-at dist (k * n + v) inside)) sized in
    let first = subst (λ (xs : List ℕ). Has Is n k v (get_or (map known xs) (k * n + v) None) steps) (sym same) seen in
    subst (λ (ss : List (Option HopStep)). Has Is n k v (get_or (map known (with_items i.dist dist).items) (k * n + v) None) ss) (sym same_steps) first
