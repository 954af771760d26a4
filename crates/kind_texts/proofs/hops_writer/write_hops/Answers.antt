use Rattle.kind_texts.proofs.Writable.{is_hops_writable}
use Rattle.kind_texts.proofs.hops_writer.write_hops.Goals as goal

pub put_whole-requires-clause-proof : goal.put_whole-requires-clause-proof
put_whole-requires-clause-proof g c = is_hops_writable c.args.names.now c.args.proof.now c.requires
