use Rattle.std.proofs.Common.{◌≡◌, length, arith, get_or, refl}
use Rattle.flow_model.specs.Lengths.{length_at}
use Rattle.fixed_exp.specs.Kept.{cell_at}
use Rattle.fixed_exp.proofs.Passes.{changed_put, all_put}
use Rattle.fixed_exp.proofs.powers.Powers.put_changed_lengths.Goals as goal

pub loop-j-preserved : goal.loop-j-preserved
loop-j-preserved c =
    let s = c.args.rated.now.scale.now.setting in
    let cells = c.args.rated.now.cells.now in
    let loads = c.args.loads.now in
    let places = c.args.changed.now.places.now in
    let i = get_or places c.loop-j.j 0 in
    record {
      done = changed_put (λ k v. v ≡ length_at s c.args.top c.args.rated.now.least (cell_at cells k) (get_or loads k 0)) c.args.changed.now.count (length cells) places c.loop-j.into c.loop-j.j i c.cell_length_by_rate.result refl (omega (arith, c.requires.places.each c.loop-j.j (omega arith))) c.cell_length_by_rate.ensures c.loop-j.invariant.done;
    }

pub returns : goal.returns
returns c = all_put c.args.rated.now.scale.now.setting c.args.top c.args.rated.now.least c.args.rated.now.cells.now c.args.loads.now c.loop-j.into c.requires.loads (omega arith)
    (λ k l. c.loop-j.invariant.done k l (record { each = λ m le lt. absurd (omega arith) }))
