use Rattle.dijkstra_paths.proofs.Seen.{blank_view}
use Rattle.dijkstra_paths.proofs.scratch.Scratch.new.Goals as goal

pub returns-clause-blank : goal.returns-clause-blank
returns-clause-blank c = blank_view c.in_ok-new_front.field-0.steps.items 0 c.args.nodes c.in_ok-new_front.field-0.dist.items c.in_ok-new_front.ensures.blank
