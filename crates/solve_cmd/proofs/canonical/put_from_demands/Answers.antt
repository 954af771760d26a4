use Rattle.text_lines.specs.Lines.{spelled}
use Rattle.sndlib_grammar.specs.Canonical.{closing_line}
use Rattle.solve_cmd.proofs.Steps.{first_stops, second_stops, three_put, opens_demands, demand_lines}
use Rattle.solve_cmd.proofs.canonical.put_from_demands.Goals as goal

pub returns-in-Err : goal.returns-in-Err
returns-in-Err g c = first_stops _ _ _ _ c.in-Err.fault opens_demands (demand_lines c.args.raw.now) (spelled closing_line) c.in-Err.ensures

pub returns-in-Err-put_demands : goal.returns-in-Err-put_demands
returns-in-Err-put_demands g c = second_stops _ _ _ _ _ _ c.in-Err-put_demands.fault opens_demands (demand_lines c.args.raw.now) (spelled closing_line) c.in-Ok.ensures c.in-Err-put_demands.ensures

pub returns : goal.returns
returns g c = three_put _ _ _ _ _ _ _ _ c.put-2.result opens_demands (demand_lines c.args.raw.now) (spelled closing_line) c.in-Ok.ensures c.in-Ok-put_demands.ensures c.put-2.ensures
