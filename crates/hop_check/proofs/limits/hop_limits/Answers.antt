use Rattle.std.proofs.Common.{◌≡◌, ◌<◌, ◌≤◌, ◌∷◌, ◌++◌, [], ℕ, true, false, List, Option, Some, length, map, take, get_or, sym, ap, subst, ◌∙◌, arith, rules}
use Rattle.std.specs.Prelude.{All, MatchOption}
use Rattle.std.proofs.lemmas.List.{take_all, length-map}
use Rattle.mcf_limits.specs.declared.TheConstants.{MAX_HOPS}
use Rattle.sndlib_grammar.specs.Rows.{NetDemand, demand_at}
use Rattle.sndlib_grammar.specs.declared.refusal.NetKind.TheVariants.{HopTooFar}
use Rattle.sndlib_rows.specs.RowViews.{demand_row_view}
use Rattle.unit_scale.specs.Scaling.{first_line, refused}
use Rattle.hop_check.specs.Limits.{limit_of, is_far}
use Rattle.hop_check.proofs.FarLimits.{far_by, near_by, map-more, All-push}
use Rattle.hop_check.proofs.KeptDemands.{kept_is_first, kept_within, none-more, found_first}
use Rattle.hop_check.proofs.limits.hop_limits.Goals as goal

pub demand-row-requires : goal.demand-row-requires
demand-row-requires c =
    let inside = kept_within c.args.raw.now.demands c.args.scaled.now.kept c.loop-k.k c.requires (omega (arith, c.commodities-k-end.ensures)) in
    omega (arith, inside, c.demand_of.ensures.value)

pub returns-in-None : goal.returns-in-None
returns-in-None c =
    let rows = c.args.raw.now in
    let kept = c.args.scaled.now.kept in
    let k = c.loop-k.k in
    let n = length rows.nodes in
    let lt : k < length kept = omega (arith, c.commodities-k-end.ensures) in
    let row : demand_row_view c.demand-row.result ≡ demand_at rows (get_or kept k 0) = c.demand-row.ensures ∙ ap (demand_at rows) c.demand_of.ensures.value in
    let is : c.limit.result ≡ limit_of n (demand_at rows (get_or kept k 0)) =
    c.limit.ensures ∙ ap (λ (m : ℕ). limit_of m (demand_row_view c.demand-row.result)) c.nodes-nodes.ensures.value ∙ ap (limit_of n) row in
    let far : is_far n (demand_at rows (get_or kept k 0)) ≡ true = far_by (limit_of n (demand_at rows (get_or kept k 0))) (subst (λ (o : Option ℕ). MatchOption o ⊥ (λ m. MAX_HOPS < m)) is c.in-None.ensures) in
    let found = found_first (is_far n) (λ d. demand_at rows d) kept k lt far c.loop-k.invariant.none in
    let first = kept_is_first (is_far n) rows.demands kept c.requires in
    let line : c.demand-row.result.line ≡ (demand_at rows (get_or kept k 0)).line = ap (λ (d : NetDemand). d.line) row in
    ap (refused HopTooFar) (sym first ∙ found) ∙ ap (λ (m : ℕ). Some (record { line = m; kind = HopTooFar })) (sym line)

pub loop-k-preserved : goal.loop-k-preserved
loop-k-preserved c =
    let rows = c.args.raw.now in
    let kept = c.args.scaled.now.kept in
    let k = c.loop-k.k in
    let n = length rows.nodes in
    let lt : k < length kept = omega (arith, c.commodities-k-end.ensures) in
    let row : demand_row_view c.demand-row.result ≡ demand_at rows (get_or kept k 0) = c.demand-row.ensures ∙ ap (demand_at rows) c.demand_of.ensures.value in
    let is : c.limit.result ≡ limit_of n (demand_at rows (get_or kept k 0)) =
    c.limit.ensures ∙ ap (λ (m : ℕ). limit_of m (demand_row_view c.demand-row.result)) c.nodes-nodes.ensures.value ∙ ap (limit_of n) row in
    let value : c.in-Some.limit ≡ limit_of n (demand_at rows (get_or kept k 0)) = c.in-Some.ensures.0 ∙ is in
    let near : is_far n (demand_at rows (get_or kept k 0)) ≡ false = near_by (limit_of n (demand_at rows (get_or kept k 0))) c.in-Some.limit value c.in-Some.ensures.1 in
    let pushed : c.push.new.self.items ≡ c.loop-k.limits.items ++ c.in-Some.limit ∷ [] = search rules in
    record {
      value = pushed ∙ map-more (λ d. limit_of n (demand_at rows d)) kept k 0 c.loop-k.limits.items c.in-Some.limit lt c.loop-k.invariant.value value;
      none = none-more (is_far n) (λ d. demand_at rows d) kept k lt near c.loop-k.invariant.none;
      small = subst (λ (l : List (Option ℕ)). All (λ limit. MatchOption limit (Unit {0}) (λ m. m ≤ MAX_HOPS)) l) (sym pushed)
          (All-push (λ limit. MatchOption limit (Unit {0}) (λ m. m ≤ MAX_HOPS)) c.loop-k.limits.items c.in-Some.limit c.loop-k.invariant.small c.in-Some.ensures.1);
    }

pub returns : goal.returns
returns c =
    let rows = c.args.raw.now in
    let kept = c.args.scaled.now.kept in
    let n = length rows.nodes in
    let whole : take c.loop-k.k kept ≡ kept = take_all c.loop-k.k kept (omega (arith, c.commodities-k-end.ensures)) in
    let value = c.loop-k.invariant.value ∙ ap (map (λ (d : ℕ). limit_of n (demand_at rows d))) whole in
    let none = ap (λ (l : List ℕ). first_line (is_far n) (λ d. d.line) (map (λ d. demand_at rows d) l)) (sym whole) ∙ c.loop-k.invariant.none in
    let first = kept_is_first (is_far n) rows.demands kept c.requires in (
      value,
      ap (refused HopTooFar) (sym first ∙ none),
      record {
        count = ap length value ∙ length-map kept (λ (d : ℕ). limit_of n (demand_at rows d)) ∙ c.net-net.ensures.facts.count;
        small = c.loop-k.invariant.small;
      },
    )
