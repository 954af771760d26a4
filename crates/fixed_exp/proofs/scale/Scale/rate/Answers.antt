use Rattle.std.proofs.Common.{rules, ◌≡◌, ◌*◌, ◌/◌, ◌^◌, ℕ, ◌+◌, ◌-◌, ◌%◌, refl, ◌∙◌}
use Rattle.fixed_exp.proofs.Guess.{rate_made}
use Rattle.fixed_exp.proofs.scale.Scale.rate.Goals as goal

pub returns-clause-exponent : goal.returns-clause-exponent
returns-clause-exponent c some =
    let below : ℕ = c.from-3.result * c.from-4.result in
    let over : ℕ = c.args.self.now.over in
    let whole : ℕ = over / below in
    let part : ℕ = c.from-5.result * 18446744073709551616 % 340282366920938463463374607431768211456 / c.from-6.result in
    let is : part ≡ (over - whole * below) * 2 ^ 64 / below = search rules in
    let value : whole * 2 ^ 64 + part ≡ over * 2 ^ 64 / below = rate_made over below whole part some refl is in
    record {
      below = search rules;
      small = search rules;
      value = value ∙ (λ i. c.args.self.now.over_is i * 2 ^ 64 / below);
    }
