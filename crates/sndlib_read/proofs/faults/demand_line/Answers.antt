use Rattle.sndlib_grammar.specs.Grammar.{DemandEntry}
use Rattle.sndlib_read.specs.Views.{demand_view}
use Rattle.sndlib_read.proofs.RowLines.{row_line, no_row_line}
use Rattle.sndlib_read.proofs.faults.demand_line.Goals as goal

pub returns-then-at-demands : goal.returns-then-at-demands
returns-then-at-demands c = row_line (λ (r : DemandEntry). r.id) demand_view c.args.demands.now c.args.at _ c.if-at-demands.true

pub returns-else-at-demands : goal.returns-else-at-demands
returns-else-at-demands c = no_row_line (λ (r : DemandEntry). r.id) demand_view c.args.demands.now c.args.at c.if-at-demands.false
