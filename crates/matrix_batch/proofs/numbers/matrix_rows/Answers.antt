use Rattle.std.proofs.Common.{List, None, Ok, Err, ap, sym, subst, ◌∙◌, map}
use Rattle.sndlib_grammar.specs.Grammar.{Word}
use Rattle.sndlib_grammar.specs.Faults.{unknown_of_demand}
use Rattle.sndlib_grammar.specs.Rows.{NetDemand, names_of_nodes}
use Rattle.matrix_batch.specs.declared.kept.DemandWords.{DemandWords}
use Rattle.matrix_batch.specs.Names.{AreRows}
use Rattle.matrix_batch.specs.ReadViews.{word_view, demand_view}
use Rattle.matrix_batch.proofs.AllDemands.{first_left, unknown_end, more_rows}
use Rattle.matrix_batch.proofs.numbers.matrix_rows.Goals as goal

pub returns-in-Err : goal.returns-in-Err
returns-in-Err c =
    unknown_end c.args.raw.now c.args.matrices.now c.loop-matrix.matrix-index c.matrix-item.result c.in-Err.e c.loop-matrix-test.true c.matrix-item.is c.loop-matrix.invariant.0
    (subst (λ (l : List DemandWords). AreRows c.args.raw.now (map demand_view l) (Err c.in-Err.e)) c.deref.ensures.value c.in-Err.ensures)

pub loop-matrix-preserved : goal.loop-matrix-preserved
loop-matrix-preserved c =
    let rows = c.args.raw.now in
    let m = c.matrix-item.result in
    let are = subst (λ (l : List DemandWords). AreRows rows (map demand_view l) (Ok c.in-Ok.rows)) c.deref.ensures.value c.in-Ok.ensures in
    let name : Word = word_view m.name in (
      sym (first_left (unknown_of_demand (names_of_nodes rows)) c.args.matrices.now c.loop-matrix.matrix-index m None c.loop-matrix-test.true c.matrix-item.is are.0) ∙ c.loop-matrix.invariant.0,
      more_rows rows c.args.matrices.now c.loop-matrix.matrix-index m c.loop-matrix.read.items c.push.new.self.items _ c.loop-matrix-test.true c.matrix-item.is c.loop-matrix.invariant.1 c.in-Ok-push.ensures.items
          (ap (λ (ds : List NetDemand). record { name = name; demands = ds }) are.1),
    )
