use Rattle.std.proofs.Common.{ℕ, ◌-◌, ◌*◌, sym, ap, ◌∙◌, arith}
use Rattle.std.specs.List.{sum_by}
use Rattle.std.proofs.lemmas.List.{take_all}
use Rattle.flow_paths.specs.Certificate.{distance_of}
use Rattle.throughput.proofs.Excess.{excess_sum}
use Rattle.throughput.proofs.bound.weighted_excess.Goals as goal

pub returns-clause-value : goal.returns-clause-value
returns-clause-value c =
    let rows = c.args.bound.now.dual.potentials in
    let t = c.args.bound.now.threshold in
    let commodities = c.args.commodities.now in
    c.loop-k.invariant.value ∙ ap (sum_by (λ k. k.amount * (t - distance_of rows k))) (take_all c.loop-k.k-index commodities (omega arith)) ∙ sym (excess_sum (λ k. k.amount) (distance_of rows) (λ (d : ℕ). t - d) commodities)
