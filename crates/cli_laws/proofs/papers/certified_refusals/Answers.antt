use Rattle.cli_laws.proofs.Certified.{same_chain, routing_chain, refused_same}
use Rattle.cli_laws.proofs.papers.certified_refusals.Goals as goal

pub returns : goal.returns
returns c = record { routings = routing_chain; others = same_chain; judged = refused_same }
