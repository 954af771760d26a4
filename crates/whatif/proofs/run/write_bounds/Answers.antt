use Rattle.std.proofs.Common.{◌∙◌, subst, List, ℕ}
use Rattle.mcf_base.specs.Sink.{Wrote}
use Rattle.whatif.proofs.Lines.{words_same, fraction_same}
use Rattle.whatif.proofs.run.write_bounds.Goals as goal

pub returns : goal.returns
returns g c =
    let lower = c.bytes.ensures ∙ (c.fraction-lower.ensures ∙ fraction_same _ _ _ _ c.num.ensures.value c.den.ensures.value) in
    let lower_value = c.bytes-2.ensures ∙ c.value_down-lower_value.ensures in
    let upper = c.bytes-3.ensures ∙ (c.fraction-upper.ensures ∙ fraction_same _ _ _ _ c.num-2.ensures.value c.den-2.ensures.value) in
    let upper_value = c.bytes-4.ensures ∙ c.value_up-upper_value.ensures in
    subst (λ (l : List ℕ). Wrote (g.K.Sink.seen c.args.out.now) (g.K.Sink.seen c.write_line.new.out) c.write_line.result l) (words_same _ _ _ _ _ _ _ _ lower lower_value upper upper_value) c.write_line.ensures
