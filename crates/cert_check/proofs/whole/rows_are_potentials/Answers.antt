use Rattle.std.proofs.Common.{◌≡◌, take, All, rules, arith}
use Rattle.std.proofs.lemmas.List.{take_all}
use Rattle.std.proofs.lemmas.List.Elements.{All-more}
use Rattle.flow_model.specs.Bound.{IsPotential}
use Rattle.flow_paths.specs.DualRows.{no_potential}
use Rattle.flow_paths.specs.Certificate.{lengths_in, RowsArePotentials}
use Rattle.cert_check.proofs.whole.rows_are_potentials.Goals as goal

pub loop-i-preserved : goal.loop-i-preserved
loop-i-preserved c =
    All-more (λ r. IsPotential c.args.net.now.cells (lengths_in c.args.net.now c.args.dual.now) r.values) c.args.dual.now.potentials c.loop-i.i no_potential (omega arith) c.loop-i.invariant (c.row_is_potential.ensures.0 c.if-not-row_is_potential.false)

pub returns : goal.returns
returns c =
    let rows = c.args.dual.now.potentials in
    let whole : take c.loop-i.i rows ≡ rows = take_all c.loop-i.i rows (omega arith) in
    let all : All (λ r. IsPotential c.args.net.now.cells (lengths_in c.args.net.now c.args.dual.now) r.values) rows = rw whole at c.loop-i.invariant in
    let h : RowsArePotentials c.args.net.now c.args.dual.now = record { each = all } in
    search rules
