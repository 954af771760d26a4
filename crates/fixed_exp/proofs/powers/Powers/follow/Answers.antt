use Rattle.fixed_exp.proofs.Tables.{greatest-above}
use Rattle.fixed_exp.proofs.powers.Powers.follow.Goals as goal

pub put_changed_lengths-requires-clause-greatest : goal.put_changed_lengths-requires-clause-greatest
put_changed_lengths-requires-clause-greatest c =
    greatest-above c.args.rated.now.scale.now.setting c.args.rated.now.cells.now c.args.loads.now c.follow_exponents-top.result c.requires.loads c.follow_exponents-top.ensures.greatest

pub put_all_lengths-requires-clause-greatest : goal.put_all_lengths-requires-clause-greatest
put_all_lengths-requires-clause-greatest c =
    greatest-above c.args.rated.now.scale.now.setting c.args.rated.now.cells.now c.args.loads.now c.follow_exponents-top.result c.requires.loads c.follow_exponents-top.ensures.greatest
