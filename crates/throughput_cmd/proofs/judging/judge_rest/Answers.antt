use Rattle.std.proofs.Common.{subst}
use Rattle.cert_lines.specs.Sheet.{Sheet}
use Rattle.kind_texts.specs.PartText.{FitsPart}
use Rattle.throughput_cmd.proofs.judging.judge_rest.Goals as goal

pub say_part-requires : goal.say_part-requires
say_part-requires c =
    c.parts_are_of_the_network.ensures c.args.rows.now c.args.net.now c.in-Ok.p c.requires.of (subst (λ (s : Sheet). FitsPart s c.in-Ok.p) c.new.ensures c.in-Ok.ensures.fits)
