use Rattle.solve_cmd.proofs.Steps.{first_stops, second_stops, three_put, opens_links, link_lines, from_demands}
use Rattle.solve_cmd.proofs.canonical.put_from_links.Goals as goal

pub returns-in-Err : goal.returns-in-Err
returns-in-Err g c = first_stops _ _ _ _ c.in-Err.fault opens_links (link_lines c.args.raw.now) (from_demands c.args.raw.now) c.in-Err.ensures

pub returns-in-Err-put_links : goal.returns-in-Err-put_links
returns-in-Err-put_links g c = second_stops _ _ _ _ _ _ c.in-Err-put_links.fault opens_links (link_lines c.args.raw.now) (from_demands c.args.raw.now) c.in-Ok.ensures c.in-Err-put_links.ensures

pub returns : goal.returns
returns g c = three_put _ _ _ _ _ _ _ _ c.put_from_demands.result opens_links (link_lines c.args.raw.now) (from_demands c.args.raw.now) c.in-Ok.ensures c.in-Ok-put_links.ensures c.put_from_demands.ensures
