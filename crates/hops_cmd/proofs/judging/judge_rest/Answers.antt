use Rattle.std.proofs.Common.{subst}
use Rattle.cert_lines.specs.Sheet.{Sheet}
use Rattle.kind_texts.specs.HopsText.{FitsHops}
use Rattle.hops_cmd.proofs.judging.judge_rest.Goals as goal

pub say_hops-requires-clause-proof : goal.say_hops-requires-clause-proof
say_hops-requires-clause-proof c =
    c.hops_are_of_the_network.ensures c.args.rows.now c.args.net.now c.in-Ok.h c.requires.of (subst (λ (s : Sheet). FitsHops s c.in-Ok.h) c.new.ensures c.in-Ok.ensures.fits)
