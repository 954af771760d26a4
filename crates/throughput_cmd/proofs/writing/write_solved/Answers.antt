use Rattle.throughput_cmd.proofs.writing.write_solved.Goals as goal

pub write_fitting-requires-clause-fits : goal.write_fitting-requires-clause-fits
write_fitting-requires-clause-fits g c =
    c.parts_can_be_written.ensures c.args.rows.now c.args.net.now c.requires.solved.0 c.args.p c.requires.of (rw (c.net.ensures.value) at c.nodes-nodes.ensures.net) c.requires.solved.1
