use Rattle.std.proofs.Common.{refl}
use Rattle.unit_scale.specs.Sizes.{millionths}
use Rattle.unit_scale.proofs.Adding.{word-add}
use Rattle.unit_scale.proofs.links.with_word.Goals as goal

pub returns-clause-value : goal.returns-clause-value
returns-clause-value c =
    let w = word-add (millionths c.args.word.now) c.in-Some.more c.args.size.over c.args.size.millionths c.in-Some.ensures in
    rw c.either.ensures (w.0, w.1 c.args.size.over c.args.size.millionths refl)
