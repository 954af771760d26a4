use Rattle.solve_cmd.proofs.Steps.{text_first_stops, text_second_stops, text_put}
use Rattle.solve_cmd.proofs.canonical.put_all.Goals as goal

pub returns-in-Err : goal.returns-in-Err
returns-in-Err g c = text_first_stops c.args.raw.now _ _ _ _ c.in-Err.fault c.in-Err.ensures

pub returns-in-Err-put_nodes : goal.returns-in-Err-put_nodes
returns-in-Err-put_nodes g c = text_second_stops c.args.raw.now _ _ _ _ _ _ c.in-Err-put_nodes.fault c.in-Ok.ensures c.in-Err-put_nodes.ensures

pub returns : goal.returns
returns g c = text_put c.args.raw.now _ _ _ _ _ _ _ _ c.put_from_links.result c.in-Ok.ensures c.in-Ok-put_nodes.ensures c.put_from_links.ensures
