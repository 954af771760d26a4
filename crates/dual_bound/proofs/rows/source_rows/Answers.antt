use Rattle.std.proofs.Common.{◌≡◌, ◌<◌, ◌≤◌, ◌∙◌, ℕ, List, eqb, length, get_or, map, sym, ap, subst, arith}
use Rattle.std.specs.Prelude.{All}
use Rattle.std.proofs.lemmas.List.Elements.{All-push}
use Rattle.flow_model.specs.declared.net.Commodity.{Commodity}
use Rattle.flow_model.specs.Network.{Network}
use Rattle.flow_model.specs.Groups.{group_count, group_sources, members_of}
use Rattle.mcf_limits.specs.declared.TheConstants.{MAX_TOTAL}
use Rattle.std.specs.List.{sum_by}
use Rattle.dual_bound.specs.declared.rows.Row.{Row}
use Rattle.dual_bound.specs.declared.rows.Target.{Target}
use Rattle.dual_bound.specs.Rows.{IsBlank, demands_of, target_at}
use Rattle.dual_bound.proofs.Demands.{demands-all, demands-more, members-below, members-targets, source-below, targets-fit}
use Rattle.dual_bound.proofs.rows.source_rows.Goals as goal

pub targets_at-requires : goal.targets_at-requires
targets_at-requires c =
    let net = c.args.net.now in
    let members : c.members.result.now ≡ members_of net c.loop-g.g = c.members.ensures ∙ ap (λ (n : Network). members_of n c.loop-g.g) c.in_ok-groups.ensures in
    subst (λ (ks : List ℕ). All (λ k. k < length c.commodities-commodities.result.now) ks) (sym members)
    (subst (λ (cs : List Commodity). All (λ k. k < length cs) (members_of net c.loop-g.g)) (sym c.commodities-commodities.ensures.value) (members-below net c.loop-g.g))

pub row_with-requires-clause-source : goal.row_with-requires-clause-source
row_with-requires-clause-source c =
    let net = c.args.net.now in
    let within : c.loop-g.g < group_count net = omega (arith, c.loop-g-test.true, c.count-g-end.ensures, ap group_count c.in_ok-groups.ensures) in
    let is : c.source.result ≡ get_or (group_sources net) c.loop-g.g 0 = c.source.ensures ∙ ap (λ (n : Network). get_or (group_sources n) c.loop-g.g 0) c.in_ok-groups.ensures in
    omega (arith, is, source-below net c.loop-g.g within, c.nodes.ensures.value)

pub row_with-requires-clause-targets : goal.row_with-requires-clause-targets
row_with-requires-clause-targets c =
    let net = c.args.net.now in
    let g = c.loop-g.g in
    let within : g < group_count net = omega (arith, c.loop-g-test.true, c.count-g-end.ensures, ap group_count c.in_ok-groups.ensures) in
    let members : c.members.result.now ≡ members_of net g = c.members.ensures ∙ ap (λ (n : Network). members_of n g) c.in_ok-groups.ensures in
    let is : c.in_ok-targets.targets.items ≡ map (target_at net.commodities) (members_of net g)
    = c.in_ok-targets.ensures ∙ (ap (λ (cs : List Commodity). map (target_at cs) c.members.result.now) c.commodities-commodities.ensures.value ∙ ap (map (target_at net.commodities)) members) in
    let fits = targets-fit net (λ k. eqb k.from (get_or (group_sources net) g 0)) c.commodities-commodities.ensures.net in
    subst (λ (n : ℕ). All (λ (t : Target). t.to < n) c.in_ok-targets.targets.items) (sym c.nodes.ensures.value)
    (subst (λ (ts : List Target). All (λ (t : Target). t.to < net.nodes) ts) (sym (is ∙ members-targets net g within)) fits.nodes_are)

pub row_with-requires-clause-total : goal.row_with-requires-clause-total
row_with-requires-clause-total c =
    let net = c.args.net.now in
    let g = c.loop-g.g in
    let within : g < group_count net = omega (arith, c.loop-g-test.true, c.count-g-end.ensures, ap group_count c.in_ok-groups.ensures) in
    let members : c.members.result.now ≡ members_of net g = c.members.ensures ∙ ap (λ (n : Network). members_of n g) c.in_ok-groups.ensures in
    let is : c.in_ok-targets.targets.items ≡ map (target_at net.commodities) (members_of net g)
    = c.in_ok-targets.ensures ∙ (ap (λ (cs : List Commodity). map (target_at cs) c.members.result.now) c.commodities-commodities.ensures.value ∙ ap (map (target_at net.commodities)) members) in
    let fits = targets-fit net (λ k. eqb k.from (get_or (group_sources net) g 0)) c.commodities-commodities.ensures.net in
    subst (λ (ts : List Target). sum_by (λ (t : Target). t.amount) ts ≤ MAX_TOTAL) (sym (is ∙ members-targets net g within)) fits.total

pub loop-g-preserved : goal.loop-g-preserved
loop-g-preserved c =
    let net = c.args.net.now in
    let g = c.loop-g.g in
    let rows = c.loop-g.rows.items in
    let row = c.in_ok-row_with.field-0 in
    let within : g < group_count net = omega (arith, c.loop-g-test.true, c.count-g-end.ensures, ap group_count c.in_ok-groups.ensures) in
    let members : c.members.result.now ≡ members_of net g = c.members.ensures ∙ ap (λ (n : Network). members_of n g) c.in_ok-groups.ensures in
    let targets : row.targets.items ≡ map (target_at net.commodities) (members_of net g)
    = c.in_ok-row_with.ensures.targets ∙ (c.in_ok-targets.ensures ∙ (ap (λ (cs : List Commodity). map (target_at cs) c.members.result.now) c.commodities-commodities.ensures.value ∙ ap (map (target_at net.commodities)) members)) in
    let source : row.source ≡ get_or (group_sources net) g 0 = c.in_ok-row_with.ensures.source ∙ (c.source.ensures ∙ ap (λ (n : Network). get_or (group_sources n) g 0) c.in_ok-groups.ensures) in
    let blank : IsBlank net.nodes row = subst (λ (n : ℕ). IsBlank n row) c.nodes.ensures.value c.in_ok-row_with.ensures.blank in
    record {
      demands = ap demands_of c.in_ok-push.ensures.items ∙ demands-more net rows g row within c.loop-g.invariant.demands source targets;
      blank = subst (λ (rs : List Row). All (IsBlank net.nodes) rs) (sym c.in_ok-push.ensures.items) (All-push (IsBlank net.nodes) rows row c.loop-g.invariant.blank blank);
    }

pub returns-clause-demands : goal.returns-clause-demands
returns-clause-demands c = demands-all c.args.net.now c.loop-g.rows.items c.loop-g.g (omega (arith, c.loop-g-test.false, c.count-g-end.ensures, ap group_count c.in_ok-groups.ensures)) c.loop-g.invariant.demands
