use Rattle.net_gen.proofs.Differing.{all_links_differ, all_demands_differ}
use Rattle.net_gen.proofs.laws.drawn_ends_differ.Goals as goal

pub returns-clause-links : goal.returns-clause-links
returns-clause-links c = all_links_differ

pub returns-clause-demands : goal.returns-clause-demands
returns-clause-demands c = all_demands_differ
