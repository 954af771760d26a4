use Rattle.claimed_calls.proofs.Claiming.{claimed_more}
use Rattle.claimed_calls.proofs.claims.claim.Goals as goal

pub claims-preserved : goal.claims-preserved
claims-preserved g c = claimed_more g.F.Fn c.args.work.now c.fetch_add-number.result c.work.result c.claims.entries.items c.keep.new.entries.items c.claims.invariant (record { met = c.work.ensures }) c.keep.ensures
