use Rattle.std.proofs.Common.{◌≡◌, ◌-◌, min, length, take, ℕ, sym, ap, ◌∙◌, arith}
use Rattle.std.specs.Str.Parse.{digits_value}
use Rattle.unit_scale.proofs.DigitLaws.{AllDigits-take}
use Rattle.hop_check.proofs.Capped.{two_parts}
use Rattle.hop_check.proofs.Cutting.{cut-behind, cut-front}
use Rattle.hop_check.proofs.rounded.cut.Goals as goal

pub followed-requires-then-cut-fraction-clause-digits : goal.followed-requires-then-cut-fraction-clause-digits
followed-requires-then-cut-fraction-clause-digits c = AllDigits-take _ c.args.fraction.now c.requires.fraction

pub followed-requires-2-clause-digits : goal.followed-requires-2-clause-digits
followed-requires-2-clause-digits c = AllDigits-take _ c.args.whole.now c.requires.whole

pub returns-then-cut-fraction : goal.returns-then-cut-fraction
returns-then-cut-fraction c =
    let w = c.args.whole.now in
    let f = c.args.fraction.now in
    let k = length f - c.args.cut in
    two_parts c.followed.result c.followed-then-cut-fraction.result w (take k f) c.followed.ensures c.followed-then-cut-fraction.ensures
    ∙ ap (λ (n : ℕ). min n 1000) (sym (cut-behind w f c.args.cut c.requires.fraction c.if-cut-fraction.true))

pub returns : goal.returns
returns c =
    let w = c.args.whole.now in
    let f = c.args.fraction.now in
    let kept : c.saturating_sub-kept.result ≡ length w - (c.args.cut - length f) = omega (arith, c.saturating_sub-kept.ensures) in
    c.followed-2.ensures ∙ ap (λ (n : ℕ). min (digits_value 10 (take n w)) 1000) kept ∙ ap (λ (n : ℕ). min n 1000) (sym (cut-front w f c.args.cut c.requires.whole c.requires.fraction c.if-cut-fraction.false))
