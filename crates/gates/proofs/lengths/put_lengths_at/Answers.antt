use Rattle.std.proofs.Common.{◌≡◌, ◌<◌, ℕ, length, get_or, arith, refl}
use Rattle.flow_model.specs.Lengths.{length_at}
use Rattle.fixed_exp.specs.Kept.{cell_at}
use Rattle.fixed_exp.proofs.Passes.{least_bounds, greatest_bounds, changed_put, all_put, not_once}
use Rattle.gates.proofs.lengths.put_lengths_at.Goals as goal

pub length_of-requires-clause-least : goal.length_of-requires-clause-least
length_of-requires-clause-least c = λ p.
    let i = get_or c.args.places.now c.loop-j.j 0 in
    let inside : i < length c.args.cells.now = c.requires.within c.loop-j.j 0 (omega arith) in
    omega (arith, c.requires.least, least_bounds c.args.cells.now i inside p)

pub length_of-requires-clause-top : goal.length_of-requires-clause-top
length_of-requires-clause-top c =
    let i = get_or c.args.places.now c.loop-j.j 0 in
    let inside : i < length c.args.cells.now = c.requires.within c.loop-j.j 0 (omega arith) in
    omega (arith, c.requires.top, greatest_bounds c.args.under.now.setting c.args.cells.now c.args.loads.now i c.requires.loads inside)

pub loop-j-init : goal.loop-j-init
loop-j-init c = λ k l none. c.requires.stands k l (not_once c.args.places.now k none)

pub loop-j-preserved : goal.loop-j-preserved
loop-j-preserved c =
    let u = c.args.under.now in
    let cells = c.args.cells.now in
    let loads = c.args.loads.now in
    let places = c.args.places.now in
    let i = get_or places c.loop-j.j 0 in
    let inside : i < length c.args.cells.now = c.requires.within c.loop-j.j 0 (omega arith) in
    changed_put (λ k v. v ≡ length_at u.setting u.top u.least (cell_at cells k) (get_or loads k 0)) (length places) (length cells) places c.loop-j.into c.loop-j.j i c.length_of.result refl (omega (arith, inside)) c.length_of.ensures c.loop-j.invariant

pub returns : goal.returns
returns c =
    let u = c.args.under.now in
    let cells = c.args.cells.now in
    let loads = c.args.loads.now in
    let long : length c.loop-j.into ≡ length cells = omega arith in
    let each : (k : ℕ) → k < length cells → get_or c.loop-j.into k 0 ≡ length_at u.setting u.top u.least (cell_at cells k) (get_or loads k 0) = λ k lt. c.loop-j.invariant k lt (record { each = λ m le l. absurd (omega arith) }) in
    all_put u.setting u.top u.least cells loads c.loop-j.into c.requires.loads long each
