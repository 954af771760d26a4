use Rattle.std.proofs.Common.{◌≡◌, ◌-◌, ◌^◌, length, arith, min, max, get_or, set, refl}
use Rattle.flow_model.specs.Lengths.{exponent}
use Rattle.fixed_exp.specs.Kept.{cell_at, greatest}
use Rattle.fixed_exp.proofs.Passes.{changed_put, greatest_set}
use Rattle.fixed_exp.proofs.follow.put_exponents.Goals as goal

pub loop-j-preserved : goal.loop-j-preserved
loop-j-preserved c =
    let s = c.args.rated.now.scale.now.setting in
    let cells = c.args.rated.now.cells.now in
    let loads = c.args.loads.now in
    let places = c.args.changed.now.places.now in
    let i = get_or places c.loop-j.j 0 in
    let put : c.min-exponent.result ≡ min (exponent s (cell_at cells i) (get_or loads i 0)) (2 ^ 64 - 1) = cc in
    record {
      kept = changed_put (λ k v. v ≡ min (exponent s (cell_at cells k) (get_or loads k 0)) (2 ^ 64 - 1)) c.args.changed.now.count (length cells) places c.loop-j.kept c.loop-j.j i c.min-exponent.result refl (omega (arith, c.requires.places.each c.loop-j.j (omega arith))) put c.loop-j.invariant.kept;
      top = λ none.
          let both = c.falls_too-falls.ensures none in
          let more : greatest (set c.loop-j.kept i c.min-exponent.result) ≡ max c.min-exponent.result (greatest c.loop-j.kept) = greatest_set c.loop-j.kept i c.min-exponent.result (omega (arith, c.requires.places.each c.loop-j.j (omega arith))) both.1 in
          omega (arith, more, c.loop-j.invariant.top both.0);
    }
