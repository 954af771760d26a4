use Rattle.solve_cmd.proofs.solve.tell_solved.Goals as goal

pub write_solved-requires-clause-fits : goal.write_solved-requires-clause-fits
write_solved-requires-clause-fits g c =
    c.solved_can_be_written.ensures c.args.raw.now c.args.net.now c.requires.solved.0 c.args.solved c.requires.of c.net.ensures.facts (rw (c.net.ensures.value) at c.nodes-nodes.ensures.net) c.requires.solved.1
