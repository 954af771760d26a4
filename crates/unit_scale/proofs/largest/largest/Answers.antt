use Rattle.std.proofs.Common.{◌+◌, drop, get_or}
use Rattle.unit_scale.specs.Seen.{bytes_of}
use Rattle.unit_scale.proofs.Modules.{front_slice, none_left, no_slice, largest_fine, largest_step, largest_ends}
use Rattle.unit_scale.proofs.largest.largest.Goals as goal

pub returns-in-None : goal.returns-in-None
returns-in-None c =
    let ms = c.args.modules.now in
    largest_fine c.modules.best (bytes_of ms) (drop c.modules.at (bytes_of ms)) (drop (c.modules.at + 2) (bytes_of ms)) (get_or ms c.modules.at no_slice).now c.modules.invariant (front_slice ms c.modules.at c.modules-test.true) c.in-None.ensures

pub modules-preserved : goal.modules-preserved
modules-preserved c =
    let ms = c.args.modules.now in
    let e = c.in-Some.ensures in
    largest_step c.modules.best c.in-Some.best (bytes_of ms) (drop c.modules.at (bytes_of ms)) (drop (c.modules.at + 2) (bytes_of ms)) (get_or ms c.modules.at no_slice).now c.modules.invariant (front_slice ms c.modules.at c.modules-test.true) e.0 e.1 e.2 e.3

pub returns : goal.returns
returns c =
    let ms = c.args.modules.now in
    largest_ends c.modules.best (bytes_of ms) (drop c.modules.at (bytes_of ms)) c.modules.invariant (none_left ms c.modules.at c.modules-test.false)
