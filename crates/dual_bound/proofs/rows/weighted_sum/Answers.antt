use Rattle.std.proofs.Common.{◌≡◌, ◌+◌, ◌-◌, ◌*◌, ◌≤◌, ◌<◌, ℕ, length, get_or, take, ap, ◌∙◌, arith}
use Rattle.std.specs.List.{sum_by}
use Rattle.std.proofs.lemmas.List.Sums.{sum_by_more}
use Rattle.std.proofs.Math.Nat.{mul-le-mul}
use Rattle.mcf_limits.specs.declared.TheConstants.{MAX_LENGTH}
use Rattle.dual_bound.specs.declared.rows.Target.{Target}
use Rattle.dual_bound.specs.Rows.{weighted_from}
use Rattle.dual_bound.proofs.rows.weighted_sum.Goals as goal

abbrev no_target : Target
no_target = record { to = 0; amount = 0 }

pub loop-target-preserved : goal.loop-target-preserved
loop-target-preserved c =
    let source = c.args.source in
    let values = c.args.values.now in
    let targets = c.args.targets.now in
    let i = c.loop-target.target-index in
    let t = get_or targets i no_target in
    let inside : i < length targets = c.loop-target-test.true in
    let far : ℕ = get_or values t.to 0 - get_or values source 0 in
    let amount : c.from.result ≡ t.amount = c.from.ensures in
    let apart : c.from-in-loop-target.result ≡ far = c.from-in-loop-target.ensures ∙ c.saturating_sub-far.ensures in
    let product : c.from.result * c.from-in-loop-target.result ≡ t.amount * far = ap (λ (n : ℕ). n * c.from-in-loop-target.result) amount ∙ ap (λ (n : ℕ). t.amount * n) apart in
    let value : weighted_from source values (take (i + 1) targets) ≡ weighted_from source values (take i targets) + t.amount * far
    = sum_by_more (λ (x : Target). x.amount * (get_or values x.to 0 - get_or values source 0)) targets i no_target inside in
    let amounts : sum_by (λ (x : Target). x.amount) (take (i + 1) targets) ≡ sum_by (λ (x : Target). x.amount) (take i targets) + t.amount = sum_by_more (λ (x : Target). x.amount) targets i no_target inside in
    let small : t.amount * far ≤ t.amount * MAX_LENGTH =
    let same : t.amount ≤ t.amount = omega arith in
    let least : far ≤ MAX_LENGTH = omega (arith, c.requires.small t.to 0 (c.requires.targets i no_target inside)) in
    mul-le-mul same least in
    record {
      value = omega (arith, c.loop-target.invariant.value, product, value);
      bound = omega (arith, c.loop-target.invariant.bound, product, small, amounts);
    }
