use Rattle.std.proofs.Common.{◌≡◌, ◌+◌, ◌*◌, refl}
use Rattle.throughput.proofs.Within.{within_by_order}
use Rattle.throughput.proofs.fractions.is_within.Goals as goal

pub returns-in-Greater : goal.returns-in-Greater
returns-in-Greater c =
    let lower = c.args.lower.now in
    let upper = c.args.upper.now in
    let gap = c.args.gap in
    let above : c.new-above.result ≡ record { num = upper.num; den = upper.den * (1000000 + gap) } = (let first = c.num.ensures.value in let second = c.den.ensures.value in let third = c.new-above.ensures in cc) in
    let below : c.new-below.result ≡ record { num = lower.num; den = lower.den * 1000000 } = (let first = c.num-2.ensures.value in let second = c.den-2.ensures.value in let third = c.new-below.ensures in cc) in
    let order = within_by_order lower upper c.new-above.result c.new-below.result gap above below in
    (λ t. absurd cc, λ w. absurd (c.cmp.ensures.at_most.1 (order.1 w) c.in-Greater.is))

pub returns-in_default : goal.returns-in_default
returns-in_default c =
    let lower = c.args.lower.now in
    let upper = c.args.upper.now in
    let gap = c.args.gap in
    let above : c.new-above.result ≡ record { num = upper.num; den = upper.den * (1000000 + gap) } = (let first = c.num.ensures.value in let second = c.den.ensures.value in let third = c.new-above.ensures in cc) in
    let below : c.new-below.result ≡ record { num = lower.num; den = lower.den * 1000000 } = (let first = c.num-2.ensures.value in let second = c.den-2.ensures.value in let third = c.new-below.ensures in cc) in
    let order = within_by_order lower upper c.new-above.result c.new-below.result gap above below in
    (λ t. order.0 (c.cmp.ensures.at_most.0 (λ e. absurd (c.in_default.not-Greater e))), λ w. refl)
