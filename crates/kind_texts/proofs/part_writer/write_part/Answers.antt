use Rattle.kind_texts.proofs.Writable.{is_part_writable}
use Rattle.kind_texts.proofs.part_writer.write_part.Goals as goal

pub put_whole-requires-clause-proof : goal.put_whole-requires-clause-proof
put_whole-requires-clause-proof g c = is_part_writable c.args.names.now c.args.proof.now c.requires
