use Rattle.hops_cmd.proofs.writing.write_solved.Goals as goal

pub write_fitting-requires-clause-fits : goal.write_fitting-requires-clause-fits
write_fitting-requires-clause-fits g c =
    c.hops_can_be_written.ensures c.args.rows.now c.args.net.now c.requires.solved.0 c.requires.solved.1 c.args.h c.requires.of (rw (c.net.ensures.value) at c.nodes-nodes.ensures.net) c.requires.solved.2
