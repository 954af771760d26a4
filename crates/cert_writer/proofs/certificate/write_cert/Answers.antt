use Rattle.cert_writer.proofs.TextPuts.{is_writable}
use Rattle.cert_writer.proofs.certificate.write_cert.Goals as goal

pub put_whole-requires-clause-proof : goal.put_whole-requires-clause-proof
put_whole-requires-clause-proof g c = is_writable c.args.names.now c.args.proof.now c.requires.fits
