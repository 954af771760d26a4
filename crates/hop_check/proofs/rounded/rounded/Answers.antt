use Rattle.std.proofs.Common.{◌-◌, ◌≤◌, min, ℕ, sym, ap, ◌∙◌, arith}
use Rattle.sndlib_grammar.specs.Views.{number_view}
use Rattle.unit_scale.specs.Units.{digits, places}
use Rattle.hop_check.proofs.Capped.{two_parts, raised_whole}
use Rattle.hop_check.proofs.Cutting.{over-less, over-more}
use Rattle.hop_check.proofs.rounded.rounded.Goals as goal

pub returns-then-places-raise : goal.returns-then-places-raise
returns-then-places-raise c =
    let n = number_view c.args.number.now in
    let l : places n ≤ n.up = omega arith in
    let all = two_parts c.followed.result c.followed-all.result n.whole n.fraction c.followed.ensures c.followed-all.ensures in
    c.raised.ensures ∙ raised_whole c.followed-all.result (digits n) (n.up - places n) all ∙ ap (λ (k : ℕ). min k 1000) (sym (over-less (digits n) n.up (places n) l))

pub returns-else-places-raise : goal.returns-else-places-raise
returns-else-places-raise c =
    let n = number_view c.args.number.now in
    let l : n.up ≤ places n = omega arith in
    c.cut.ensures ∙ ap (λ (k : ℕ). min k 1000) (sym (over-more (digits n) n.up (places n) l))
