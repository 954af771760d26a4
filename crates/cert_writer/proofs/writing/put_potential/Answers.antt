use Rattle.std.proofs.Common.{◌∷◌, [], map}
use Rattle.std.specs.Prelude.{codes}
use Rattle.std.specs.Fmt.{decimal}
use Rattle.cert_lines.specs.Sheet.{node_word}
use Rattle.flow_paths.specs.DualRows.{potential_at}
use Rattle.cert_writer.proofs.LinePuts.{row_front_stops, row_more_stops, row_put}
use Rattle.cert_writer.proofs.writing.put_potential.Goals as goal

pub returns-in-Err : goal.returns-in-Err
returns-in-Err g c = row_front_stops _ _ _ _ c.in-Err.fault (codes "potential") (node_word c.args.names.now (potential_at c.args.dual.now.potentials c.args.row).node ∷ []) (map decimal (potential_at c.args.dual.now.potentials c.args.row).values) (rw (c.node_word.ensures, c.row_node.ensures) at c.in-Err.ensures)

pub returns-in-Err-put_numbers : goal.returns-in-Err-put_numbers
returns-in-Err-put_numbers g c = row_more_stops _ _ _ _ _ _ c.in-Err-put_numbers.fault (codes "potential") (node_word c.args.names.now (potential_at c.args.dual.now.potentials c.args.row).node ∷ []) (map decimal (potential_at c.args.dual.now.potentials c.args.row).values) (rw (c.node_word.ensures, c.row_node.ensures) at c.in-Ok.ensures) (rw c.row.ensures.value at c.in-Err-put_numbers.ensures)

pub returns : goal.returns
returns g c = row_put _ _ _ _ _ _ _ _ c.put.result (codes "potential") (node_word c.args.names.now (potential_at c.args.dual.now.potentials c.args.row).node ∷ []) (map decimal (potential_at c.args.dual.now.potentials c.args.row).values) (rw (c.node_word.ensures, c.row_node.ensures) at c.in-Ok.ensures) (rw c.row.ensures.value at c.in-Ok-put_numbers.ensures) c.put.ensures
