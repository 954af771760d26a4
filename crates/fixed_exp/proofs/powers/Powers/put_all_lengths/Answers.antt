use Rattle.std.proofs.Common.{◌≡◌, ◌∙◌, get_or, arith, ap}
use Rattle.flow_model.specs.Lengths.{exponent}
use Rattle.fixed_exp.specs.Kept.{cell_at, length_from}
use Rattle.fixed_exp.proofs.Passes.{all_put}
use Rattle.fixed_exp.proofs.powers.Powers.put_all_lengths.Goals as goal

pub returns-then-top-from : goal.returns-then-top-from
returns-then-top-from c =
    let s = c.args.rated.now.scale.now.setting in
    let top = c.args.top in
    let cells = c.args.rated.now.cells.now in
    let loads = c.args.loads.now in
    all_put s top c.args.rated.now.least cells loads c.put_near_lengths.new.into c.requires.loads (omega arith)
    (λ k l.
    let kept : get_or c.args.kept.now k 0 ≡ exponent s (cell_at cells k) (get_or loads k 0) = omega (arith, c.requires.kept k l, c.requires.greatest k l, c.if-top-from.true, c.from.ensures) in
    c.put_near_lengths.ensures k l ∙ ap (length_from top c.args.rated.now.least (cell_at cells k)) kept)
