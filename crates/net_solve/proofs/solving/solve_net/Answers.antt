use Rattle.std.proofs.Common.{rules}
use Rattle.net_solve.proofs.solving.solve_net.Goals as goal

pub returns : goal.returns
returns g c = λ rows o well counted scaled. record {
  network = scaled;
  named = record { well = well; options = o; scaled = scaled };
  sound = rw (c.net-2.ensures.value) at c.nodes-nodes.ensures.net;
  facts = c.net-2.ensures.facts;
  counted = counted;
  work = search rules;
  options = search rules;
  solved = search rules;
}
