use Rattle.cert_cmd.specs.Check.{OfCheck}
use Rattle.cert_cmd.specs.Tighten.{OfTighten}
use Rattle.batch_cmd.specs.Batch.{OfBatch}
use Rattle.cert_cmd.specs.Upgrade.{OfUpgrade}
use Rattle.cert_cmd.specs.WhatIf.{OfWhatIf}
use Rattle.sweep_cmd.specs.Sweep.{OfSweep}
use Rattle.hops_cmd.specs.Check.{OfCheckHops}
use Rattle.throughput_cmd.specs.Check.{OfCheckThroughput}
use Rattle.mcf_cli.specs.Run.{file_at, file_if}
use Rattle.mcf_cli.proofs.run_words.run_command.Goals as goal

pub returns-in-Check : goal.returns-in-Check
returns-in-Check g c =
    let told = c.check.ensures in
    let of : OfCheck (file_at c.args.request.now 0) (file_at c.args.request.now 1) (g.F.Shelf.seen c.args.shelf.now) (g.F.Shelf.seen c.check.new.shelf) told.0 =
    rw (c.file-net.ensures, c.file-second.ensures) at told.1 in
    rw c.in-Check.is (told.0, of, told.2)

pub returns-in-Upgrade : goal.returns-in-Upgrade
returns-in-Upgrade g c =
    let told = c.upgrade.ensures in
    let of : OfUpgrade (file_at c.args.request.now 0) (file_at c.args.request.now 1) (g.F.Shelf.seen c.args.shelf.now) (g.F.Shelf.seen c.upgrade.new.shelf) told.0 =
    rw (c.file-net.ensures, c.file-second.ensures) at told.1 in
    rw c.in-Upgrade.is (told.0, of, told.2)

pub returns-in-Tighten : goal.returns-in-Tighten
returns-in-Tighten g c =
    let told = c.tighten.ensures in
    let of : OfTighten (file_at c.args.request.now 0) (file_at c.args.request.now 1) (file_if c.args.request.now 2) (g.F.Shelf.seen c.args.shelf.now) (g.F.Shelf.seen c.tighten.new.shelf) told.0 =
    rw (c.file-net.ensures, c.file-second.ensures, c.get.ensures) at told.1 in
    rw c.in-Tighten.is (told.0, of, told.2)

pub returns-in-Batch : goal.returns-in-Batch
returns-in-Batch g c =
    let told = c.batch.ensures in
    let of : OfBatch (file_at c.args.request.now 0) (file_at c.args.request.now 1) c.args.request.now (g.F.Shelf.seen c.args.shelf.now) (g.F.Shelf.seen c.batch.new.shelf) told.0 =
    rw (c.file-net.ensures, c.file-second.ensures) at told.1 in
    rw c.in-Batch.is (told.0, of, told.2)

pub returns-in-Sweep : goal.returns-in-Sweep
returns-in-Sweep g c =
    let told = c.sweep.ensures in
    let of : OfSweep (file_at c.args.request.now 0) (file_at c.args.request.now 1) (g.F.Shelf.seen c.args.shelf.now) (g.F.Shelf.seen c.sweep.new.shelf) told.0 =
    rw (c.file-net.ensures, c.file-second.ensures) at told.1 in
    rw c.in-Sweep.is (told.0, of, told.2)

pub returns-in-CheckHops : goal.returns-in-CheckHops
returns-in-CheckHops g c =
    let told = c.checkhops.ensures in
    let of : OfCheckHops (file_at c.args.request.now 0) (file_at c.args.request.now 1) (g.F.Shelf.seen c.args.shelf.now) (g.F.Shelf.seen c.checkhops.new.shelf) told.0 =
    rw (c.file-net.ensures, c.file-second.ensures) at told.1 in
    rw c.in-CheckHops.is (told.0, of, told.2)

pub returns-in-CheckThroughput : goal.returns-in-CheckThroughput
returns-in-CheckThroughput g c =
    let told = c.checkthroughput.ensures in
    let of : OfCheckThroughput (file_at c.args.request.now 0) (file_at c.args.request.now 1) (g.F.Shelf.seen c.args.shelf.now) (g.F.Shelf.seen c.checkthroughput.new.shelf) told.0 =
    rw (c.file-net.ensures, c.file-second.ensures) at told.1 in
    rw c.in-CheckThroughput.is (told.0, of, told.2)

pub returns-in-WhatIf : goal.returns-in-WhatIf
returns-in-WhatIf g c =
    let told = c.whatif_files.ensures in
    let of : OfWhatIf (file_at c.args.request.now 0) (file_at c.args.request.now 1) (file_at c.args.request.now 2) (g.F.Shelf.seen c.args.shelf.now) (g.F.Shelf.seen c.whatif_files.new.shelf) told.0 =
    rw (c.file-net.ensures, c.file-second.ensures, c.file.ensures) at told.1 in
    rw c.in-WhatIf.is (told.0, of, told.2)
