use Rattle.std.proofs.Common.{◌≡◌, Some, None, ap, sym, ◌∙◌, map}
use Rattle.sndlib_grammar.specs.Faults.{first_of, bad_of_demand}
use Rattle.matrix_batch.specs.ReadViews.{demand_view}
use Rattle.matrix_batch.proofs.AllDemands.{first_left}
use Rattle.matrix_batch.proofs.faults.bad_number.Goals as goal

pub returns-in-Some : goal.returns-in-Some
returns-in-Some c =
    let own : first_of bad_of_demand (map demand_view c.matrix-item.result.demands.items) ≡ Some c.in-Some.line = ap (λ l. first_of bad_of_demand (map demand_view l)) (sym c.deref.ensures.value) ∙ sym c.bad_in_demands.ensures ∙ c.in-Some.is in
    sym (sym c.loop-matrix.invariant ∙ first_left bad_of_demand c.args.matrices.now c.loop-matrix.matrix-index c.matrix-item.result (Some c.in-Some.line) c.loop-matrix-test.true c.matrix-item.is own)

pub loop-matrix-preserved : goal.loop-matrix-preserved
loop-matrix-preserved c =
    let own : first_of bad_of_demand (map demand_view c.matrix-item.result.demands.items) ≡ None = ap (λ l. first_of bad_of_demand (map demand_view l)) (sym c.deref.ensures.value) ∙ sym c.bad_in_demands.ensures ∙ c.in_default.is in
    sym (first_left bad_of_demand c.args.matrices.now c.loop-matrix.matrix-index c.matrix-item.result None c.loop-matrix-test.true c.matrix-item.is own) ∙ c.loop-matrix.invariant
