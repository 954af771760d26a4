use Rattle.std.proofs.Common.{ℕ, ◌≤◌, List, length, sym, ap, subst, ◌∙◌}
use Rattle.std.specs.Prelude.{All}
use Rattle.mcf_limits.specs.declared.TheConstants.{MAX_LENGTH}
use Rattle.flow_model.specs.declared.net.Cell.{Cell}
use Rattle.throughput.proofs.Loading.{cells-long, gates-long, cells-small, gates-small}
use Rattle.throughput.proofs.phases.begun.Goals as goal

pub greatest_of-requires-clause-loads : goal.greatest_of-requires-clause-loads
greatest_of-requires-clause-loads c =
    let has = c.requires.loaded in
    ap (λ (xs : List ℕ). length xs) c.deref.ensures.value ∙ (cells-long c.args.on.now.net.now has.0 c.args.loaded.now has.1 ∙ sym (ap (λ (xs : List Cell). length xs) c.cells-cells.ensures.value))

pub greatest_of-requires-clause-small : goal.greatest_of-requires-clause-small
greatest_of-requires-clause-small c =
    subst (λ (xs : List ℕ). All (λ (x : ℕ). x ≤ MAX_LENGTH) xs) (sym c.deref.ensures.value) (cells-small c.args.on.now.net.now c.args.loaded.now MAX_LENGTH c.requires.loaded c.requires.small)

pub greatest_of-requires-2-clause-loads : goal.greatest_of-requires-2-clause-loads
greatest_of-requires-2-clause-loads c =
    let has = c.requires.loaded in
    ap (λ (xs : List ℕ). length xs) c.deref-2.ensures.value ∙ (gates-long c.args.on.now.net.now has.0 c.args.loaded.now has.1 ∙ sym c.requires.on.gates_are.count)

pub greatest_of-requires-2-clause-small : goal.greatest_of-requires-2-clause-small
greatest_of-requires-2-clause-small c =
    subst (λ (xs : List ℕ). All (λ (x : ℕ). x ≤ MAX_LENGTH) xs) (sym c.deref-2.ensures.value) (gates-small c.args.on.now.net.now c.args.loaded.now MAX_LENGTH c.requires.loaded c.requires.small)

pub put_lengths-requires-clause-loads : goal.put_lengths-requires-clause-loads
put_lengths-requires-clause-loads c =
    let has = c.requires.loaded in
    ap (λ (xs : List ℕ). length xs) c.deref-3.ensures.value ∙ (cells-long c.args.on.now.net.now has.0 c.args.loaded.now has.1 ∙ sym (ap (λ (xs : List Cell). length xs) c.cells-cells.ensures.value))

pub put_lengths-requires-clause-small : goal.put_lengths-requires-clause-small
put_lengths-requires-clause-small c =
    subst (λ (xs : List ℕ). All (λ (x : ℕ). x ≤ MAX_LENGTH) xs) (sym c.deref-3.ensures.value) (cells-small c.args.on.now.net.now c.args.loaded.now MAX_LENGTH c.requires.loaded c.requires.small)
