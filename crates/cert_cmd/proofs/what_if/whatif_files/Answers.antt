use Rattle.std.proofs.Common.{rules}
use Rattle.net_whatif.specs.declared.scripting.Scripted.TheVariants.{Refused}
use Rattle.cert_cmd.specs.WhatIf.{OfWhatIf, scripted_answer}
use Rattle.cert_cmd.proofs.what_if.whatif_files.Goals as goal

pub returns-in-Ok-Refused : goal.returns-in-Ok-Refused
returns-in-Ok-Refused g c =
    let answer = scripted_answer (Refused c.in-Ok-Refused.refusal) in
    let of : OfWhatIf c.args.net.now c.args.cert.now c.args.script.now (g.F.Shelf.seen c.args.shelf.now) (g.F.Shelf.seen c.scripted_files.new.shelf) answer = search rules in
    (answer, of, c.tell.ensures)
