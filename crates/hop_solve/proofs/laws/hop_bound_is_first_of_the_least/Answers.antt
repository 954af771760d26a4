use Rattle.std.proofs.Common.{◌≡◌, ℕ, ◌+◌, ◌≤◌, List, length, get_or, take, Option, sym, ap, subst, ◌∙◌, arith}
use Rattle.std.specs.Prelude.{All}
use Rattle.std.proofs.lemmas.List.{take_all}
use Rattle.std.proofs.lemmas.List.Elements.{All-from_get_or}
use Rattle.flow_paths.specs.Least.{least_by, IsFirstLeast}
use Rattle.flow_paths.proofs.Least.{least-first}
use Rattle.route_tally.specs.Asked.{later_setting}
use Rattle.hop_check.specs.Layers.{HopDual, hop_upper_of}
use Rattle.hop_solve.specs.Run.{fill_after, no_hop_dual, turns_after}
use Rattle.hop_solve.proofs.Reaching.{bound-divides}
use Rattle.hop_solve.proofs.laws.hop_bound_is_first_of_the_least.Goals as goal

pub returns : goal.returns
returns c = λ net limits o h n are r.
    let divide : All (λ (d : HopDual). 1 ≤ (hop_upper_of net limits d).den) r.bounds =
    All-from_get_or (λ (d : HopDual). 1 ≤ (hop_upper_of net limits d).den) r.bounds no_hop_dual (λ p l. (
    let next = r.each p (omega (arith, r.count, l)) in
    bound-divides net limits (later_setting o.step (fill_after net r.phases 1)) (turns_after r.phases (p + 1)) (get_or r.bounds p no_hop_dual) n are next.bound
    )) in
    let whole : take (length r.phases) r.bounds ≡ r.bounds = take_all (length r.phases) r.bounds (omega (arith, r.count)) in
    let kept = r.proof.dual ∙ ap (least_by (hop_upper_of net limits) no_hop_dual) whole in
    subst (λ (d : HopDual). IsFirstLeast (hop_upper_of net limits) r.bounds d) (sym kept)
    (least-first (hop_upper_of net limits) no_hop_dual r.bounds (omega (arith, r.count, r.some)) divide)
