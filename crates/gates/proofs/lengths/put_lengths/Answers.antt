use Rattle.std.proofs.Common.{◌≡◌, ◌<◌, ℕ, length, get_or, arith}
use Rattle.flow_model.specs.Lengths.{length_at}
use Rattle.fixed_exp.specs.Kept.{cell_at}
use Rattle.fixed_exp.proofs.Passes.{least_bounds, greatest_bounds, put_more, all_put}
use Rattle.gates.proofs.lengths.put_lengths.Goals as goal

pub length_of-requires-clause-least : goal.length_of-requires-clause-least
length_of-requires-clause-least c = λ p.
    let inside : c.loop-i.i < length c.args.cells.now = omega arith in
    omega (arith, c.requires.least, least_bounds c.args.cells.now c.loop-i.i inside p)

pub length_of-requires-clause-top : goal.length_of-requires-clause-top
length_of-requires-clause-top c =
    let inside : c.loop-i.i < length c.args.cells.now = omega arith in
    omega (arith, c.requires.top, greatest_bounds c.args.under.now.setting c.args.cells.now c.args.loads.now c.loop-i.i c.requires.loads inside)

pub loop-i-preserved : goal.loop-i-preserved
loop-i-preserved c =
    let u = c.args.under.now in
    let inside : c.loop-i.i < length c.loop-i.into = omega arith in
    put_more u.setting u.top u.least c.args.cells.now c.args.loads.now c.loop-i.into c.loop-i.i c.length_of.result inside c.length_of.ensures c.loop-i.invariant

pub returns : goal.returns
returns c =
    let u = c.args.under.now in
    let cells = c.args.cells.now in
    let loads = c.args.loads.now in
    let long : length c.loop-i.into ≡ length cells = omega arith in
    let each : (k : ℕ) → k < length cells → get_or c.loop-i.into k 0 ≡ length_at u.setting u.top u.least (cell_at cells k) (get_or loads k 0) = λ k lt. c.loop-i.invariant k (omega arith) in
    all_put u.setting u.top u.least cells loads c.loop-i.into c.requires.loads long each
