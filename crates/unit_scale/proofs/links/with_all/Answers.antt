use Rattle.std.proofs.Common.{◌+◌, drop, get_or}
use Rattle.unit_scale.specs.Seen.{bytes_of}
use Rattle.unit_scale.proofs.Modules.{front_slice, none_left, no_slice, sum_fine, sum_step, sum_ends}
use Rattle.unit_scale.proofs.links.with_all.Goals as goal

pub returns-in-None : goal.returns-in-None
returns-in-None c =
    let ms = c.args.modules.now in
    sum_fine c.args.start c.modules.size (bytes_of ms) (drop c.modules.at (bytes_of ms)) (drop (c.modules.at + 2) (bytes_of ms)) (get_or ms c.modules.at no_slice).now c.modules.invariant (front_slice ms c.modules.at c.modules-test.true) c.in-None.ensures.value

pub modules-preserved : goal.modules-preserved
modules-preserved c =
    let ms = c.args.modules.now in
    let e = c.in-Some.ensures in
    sum_step c.args.start c.modules.size c.in-Some.size (bytes_of ms) (drop c.modules.at (bytes_of ms)) (drop (c.modules.at + 2) (bytes_of ms)) (get_or ms c.modules.at no_slice).now c.modules.invariant (front_slice ms c.modules.at c.modules-test.true) e.value.0 e.value.1 e.bound

pub returns : goal.returns
returns c =
    let ms = c.args.modules.now in
    sum_ends c.args.start c.modules.size (bytes_of ms) (drop c.modules.at (bytes_of ms)) c.modules.invariant (none_left ms c.modules.at c.modules-test.false)
