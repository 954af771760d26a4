use Rattle.std.proofs.Common.{◌+◌, get_or, refl, subst, sym}
use Rattle.sndlib_rows.specs.RowViews.{demand_row_view}
use Rattle.unit_scale.specs.Stages.{KeptSofar, kept_view}
use Rattle.unit_scale.proofs.Keeping.{InKept, kept_step, kept_found, no_amount}
use Rattle.unit_scale.proofs.commodities.kept_demands.Goals as goal

pub returns-in-None : goal.returns-in-None
returns-in-None c =
    kept_found c.args.decimals c.args.raw.now.demands c.args.sizes.now c.loop-i.i c.demands-i-end.result c.unit_of-unit.result c.loop-i.total (kept_view c.loop-i.kept) (get_or c.args.sizes.now c.loop-i.i no_amount) (demand_row_view c.demand-row.result) c.refused.result c.loop-i.invariant c.loop-i-test.true refl c.demand-row.ensures c.in-None.ensures c.refused.ensures

pub loop-i-preserved : goal.loop-i-preserved
loop-i-preserved c =
    let z = get_or c.args.sizes.now c.loop-i.i no_amount in
    subst (λ (k : KeptSofar). InKept c.args.decimals c.args.raw.now.demands c.args.sizes.now (c.loop-i.i + 1) c.demands-i-end.result c.unit_of-unit.result (c.loop-i.total + c.in-Some.amount) k) (sym c.in-Ok.ensures)
    (kept_step c.args.decimals c.args.raw.now.demands c.args.sizes.now c.loop-i.i c.demands-i-end.result c.unit_of-unit.result c.loop-i.total c.in-Some.amount (kept_view c.loop-i.kept) z (demand_row_view c.demand-row.result) c.loop-i.invariant c.loop-i-test.true refl c.demand-row.ensures c.in-Some.ensures.0 c.in-Some.ensures.1 c.in-Some.ensures.2)
