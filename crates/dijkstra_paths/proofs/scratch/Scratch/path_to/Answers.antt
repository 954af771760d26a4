use Rattle.std.proofs.Common.{◌≡◌, ◌<◌, ◌≤◌, ℕ, List, length, get_or, drop, arith, ap, subst, refl, ◌∙◌}
use Rattle.std.proofs.lemmas.List.{with_items_is}
use Rattle.dijkstra_paths.specs.declared.search.Step.{Step}
use Rattle.dijkstra_paths.specs.Searched.{Searched, path_at, trail}
use Rattle.dijkstra_paths.proofs.Pathed.{path-far, path-near}
use Rattle.dijkstra_paths.proofs.scratch.Scratch.path_to.Goals as goal
use Rattle.mcf_limits.specs.declared.TheConstants.{MAX_LENGTH}

pub returns-then-as_slice-to-ge-MAX_LENGTH : goal.returns-then-as_slice-to-ge-MAX_LENGTH
returns-then-as_slice-to-ge-MAX_LENGTH c =
    let i = c.self.inside in
    let size : i.nodes ≡ c.args.self.now.nodes = ap (λ (s : Searched). s.nodes) c.self.view_is in
    let far : MAX_LENGTH ≤ get_or i.front.dist.items c.args.to 0 = subst (λ (xs : List ℕ). MAX_LENGTH ≤ get_or xs c.args.to 0) c.as_slice.ensures.value c.if-as_slice-to-ge-MAX_LENGTH.true in
    ((refl, (λ _. tt), c.self.view_is), record { keeps = tt; value = path-far i.front.steps.items i.from i.nodes i.front.dist.items c.args.to (omega (arith, size, c.self.invariant.fits.dists)) far ∙ ap (λ (s : Searched). path_at s c.args.to) c.self.view_is })

pub returns : goal.returns
returns c =
    let i = c.self.inside in
    let size : i.nodes ≡ c.args.self.now.nodes = ap (λ (s : Searched). s.nodes) c.self.view_is in
    let near : get_or i.front.dist.items c.args.to 0 < MAX_LENGTH = subst (λ (xs : List ℕ). get_or xs c.args.to 0 < MAX_LENGTH) c.as_slice.ensures.value c.if-as_slice-to-ge-MAX_LENGTH.false in
    let via : c.as_slice-2.result.now ≡ i.front.steps.items = c.as_slice-2.ensures.value in
    let whole : length c.trace-start.new.list ≡ i.path.len = omega arith in
    let path : c.deref.result.now ≡ c.trace-start.new.list = c.deref.ensures.value ∙ with_items_is i.path c.trace-start.new.list whole in
    let many : length i.front.steps.items ≡ i.nodes = c.self.invariant.fits.steps in
    let walk : c.rest.result.now ≡ trail i.front.steps.items i.from i.nodes c.args.to =
    c.rest.ensures ∙ (ap (λ (xs : List ℕ). drop c.trace-start.result xs) path ∙ (c.trace-start.ensures.value
    ∙ (ap (λ (ss : List Step). trail ss i.from (length ss) c.args.to) via ∙ ap (λ (n : ℕ). trail i.front.steps.items i.from n c.args.to) many))) in
    ((refl, (λ _. tt), c.self.view_is), record { keeps = tt; value = path-near i.front.steps.items i.from i.nodes i.front.dist.items c.args.to c.rest.result.now (omega (arith, size, c.self.invariant.fits.dists)) near walk ∙ ap (λ (s : Searched). path_at s c.args.to) c.self.view_is })
