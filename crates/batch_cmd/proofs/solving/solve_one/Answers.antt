use Rattle.batch_cmd.proofs.Gathering.{options_of_one, solved_by}
use Rattle.batch_cmd.proofs.solving.solve_one.Goals as goal

pub solve_in-requires-after_bounds : goal.solve_in-requires-after_bounds
solve_in-requires-after_bounds g c κs within = options_of_one c.args.nets.now c.args.options.now c.args.at c.index-nets-at.result c.requires c.index-nets-at.is

pub returns : goal.returns
returns g c = solved_by c.args.nets.now c.args.options.now c.args.at c.index-nets-at.result c.in_ok-solved.solved c.requires.few c.index-nets-at.is c.in_ok-solved.ensures.solved
