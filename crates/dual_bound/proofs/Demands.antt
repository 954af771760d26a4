-- The demands of a network, source by source.
use Rattle.std.proofs.Common.{Vec, ◌≡◌, ℕ, suc, ◌+◌, ◌<◌, ◌≤◌, List, [], ◌∷◌, ◌++◌, Bool, true, false, cond, eqb, length, get_or, map, take, refl, sym, ap, subst, ◌∙◌, arith}
use Rattle.std.specs.Prelude.{All, filter}
use Rattle.std.specs.List.{range_with_len, sum_by}
use Rattle.std.proofs.lemmas.List.{get_or-map, length-map, map-append, take_all, take_more}
use Rattle.std.proofs.lemmas.List.Elements.{All-filter, All-map, All-weaker}
use Rattle.std.proofs.lemmas.List.FromFn.{get_or-range_with_len, length-range_with_len}
use Rattle.std.proofs.lemmas.List.Sums.{sum_by-cons}
use Rattle.flow_model.specs.declared.net.Commodity.{Commodity}
use Rattle.flow_model.specs.Network.{Network, IsNetwork, IsCommodity}
use Rattle.flow_model.specs.Groups.{group_count, group_in, group_sources, is_source, members_of}
use Rattle.flow_model.specs.Grouped.{members_from}
use Rattle.flow_model.proofs.Grouping.{members-are}
use Rattle.mcf_limits.specs.declared.TheConstants.{MAX_TOTAL}
use Rattle.dual_bound.specs.declared.rows.Row.{Row}
use Rattle.dual_bound.specs.declared.rows.Target.{Target}
use Rattle.dual_bound.specs.Rows.{AreRoom, Demands, IsFilledWith, IsRoom, KeepsRoom, demand_of, demands_from, demands_in, demands_of, no_commodity, sources_of, target_at, target_of}

no_demands : Demands
no_demands = record { source = 0; targets = [] }

sources-of : (rows : List Row) → map (λ (d : Demands). d.source) (demands_of rows) ≡ sources_of rows
sources-of [] = refl
sources-of (r ∷ rows) = ap (λ (vs : List ℕ). r.source ∷ vs) (sources-of rows)

sources-from : (cs : List Commodity) (vs : List ℕ) → map (λ (d : Demands). d.source) (map (demands_from cs) vs) ≡ vs
sources-from cs [] = refl
sources-from cs (v ∷ vs) = ap (λ (us : List ℕ). v ∷ us) (sources-from cs vs)

-- rows with the demands of a network are those of its sources
pub sources-in : (net : Network) (rows : List Row) → demands_of rows ≡ demands_in net → sources_of rows ≡ group_sources net
sources-in net rows e = sym (sources-of rows) ∙ (ap (map (λ (d : Demands). d.source)) e ∙ sources-from net.commodities (group_sources net))

-- and have the targets of their source
pub targets-in : (net : Network) (rows : List Row) → demands_of rows ≡ demands_in net → All (λ (row : Row). row.targets.items ≡ map target_of (filter (λ k. eqb k.from row.source) net.commodities)) rows
targets-in net rows e k d l =
    let cs = net.commodities in
    let vs = group_sources net in
    let many : length (demands_of rows) ≡ length rows = length-map rows demand_of in
    let few : length (demands_in net) ≡ length vs = length-map vs (demands_from cs) in
    let same : length (demands_of rows) ≡ length (demands_in net) = ap (λ (ds : List Demands). length ds) e in
    let row : get_or (demands_of rows) k no_demands ≡ demand_of (get_or rows k d) = get_or-map demand_of rows k d no_demands l in
    let from : get_or (demands_in net) k no_demands ≡ demands_from cs (get_or vs k 0) = get_or-map (demands_from cs) vs k 0 no_demands (omega arith) in
    let is : demand_of (get_or rows k d) ≡ demands_from cs (get_or vs k 0) = sym row ∙ (ap (λ (ds : List Demands). get_or ds k no_demands) e ∙ from) in
    let source : (get_or rows k d).source ≡ get_or vs k 0 = ap (λ (x : Demands). x.source) is in
    subst (λ (v : ℕ). (get_or rows k d).targets.items ≡ map target_of (filter (λ c. eqb c.from v) cs)) (sym source) (ap (λ (x : Demands). x.targets) is)

pub demands-kept : (old new : List Row) → length new ≡ length old → ((k : ℕ) (d : Row) → k < length old → (get_or new k d).source ≡ (get_or old k d).source) → ((k : ℕ) (d : Row) → k < length old → (get_or new k d).targets ≡ (get_or old k d).targets)
    → demands_of new ≡ demands_of old
demands-kept [] [] e h t = refl
demands-kept [] (y ∷ new) e h t = absurd (omega arith)
demands-kept (x ∷ old) [] e h t = absurd (omega arith)
demands-kept (x ∷ old) (y ∷ new) e h t =
    rw (h 0 x (omega arith), t 0 x (omega arith)) (ap (λ (ds : List Demands). demand_of x ∷ ds) (demands-kept old new (omega arith) (λ k d l. h (suc k) d (omega arith)) (λ k d l. t (suc k) d (omega arith))))

-- the members of a source, by their numbers or one after the other
targets-from : (all cs : List Commodity) (i v : ℕ) → ((j : ℕ) → j < length cs → get_or all (i + j) no_commodity ≡ get_or cs j no_commodity)
    → map (target_at all) (members_from cs i v) ≡ map target_of (filter (λ k. eqb k.from v) cs)
targets-from all [] i v h = refl
targets-from all (k ∷ ks) i v h =
    let zeroth : i + 0 ≡ i = omega arith in
    let here : get_or all i no_commodity ≡ k = ap (λ (n : ℕ). get_or all n no_commodity) (sym zeroth) ∙ h 0 (omega arith) in
    let rest = targets-from all ks (suc i) v (λ j l. let next : suc i + j ≡ i + suc j = omega arith in ap (λ (n : ℕ). get_or all n no_commodity) next ∙ h (suc j) (omega arith)) in
    step (eqb k.from v) here rest
  where
    step : (b : Bool) → get_or all i no_commodity ≡ k → map (target_at all) (members_from ks (suc i) v) ≡ map target_of (filter (λ c. eqb c.from v) ks)
        → map (target_at all) (cond b (i ∷ members_from ks (suc i) v) (members_from ks (suc i) v)) ≡ map target_of (cond b (k ∷ filter (λ c. eqb c.from v) ks) (filter (λ c. eqb c.from v) ks))
    step true here rest = ap (λ (c : Commodity). target_of c ∷ map (target_at all) (members_from ks (suc i) v)) here ∙ ap (λ (ts : List Target). target_of k ∷ ts) rest
    step false here rest = rest

pub members-targets : (net : Network) (g : ℕ) → g < group_count net → map (target_at net.commodities) (members_of net g) ≡ map target_of (filter (λ k. eqb k.from (get_or (group_sources net) g 0)) net.commodities)
members-targets net g l =
    ap (map (target_at net.commodities)) (sym (members-are net g l))
    ∙ targets-from net.commodities net.commodities 0 (get_or (group_sources net) g 0) (λ j m. let n : 0 + j ≡ j = omega arith in ap (λ (x : ℕ). get_or net.commodities x no_commodity) n)

-- the members of a group are commodities
pub members-below : (net : Network) (g : ℕ) → All (λ k. k < length net.commodities) (members_of net g)
members-below net g = All-filter (λ k. eqb (group_in net k) g) (λ k. k < length net.commodities) (range_with_len 0 (length net.commodities))
    (λ k d l. let n : length (range_with_len 0 (length net.commodities)) ≡ length net.commodities = length-range_with_len 0 (length net.commodities) in rw (get_or-range_with_len 0 (length net.commodities) k d (omega arith)) (omega arith))

pub sum-map : (f : Target → ℕ) (ks : List Commodity) → sum_by f (map target_of ks) ≡ sum_by (λ k. f (target_of k)) ks
sum-map f [] = refl
sum-map f (k ∷ ks) = sum_by-cons f (target_of k) (map target_of ks) ∙ (ap (λ (n : ℕ). f (target_of k) + n) (sum-map f ks) ∙ sym (sum_by-cons (λ c. f (target_of c)) k ks))

sum-part : (f : Commodity → ℕ) (p : Commodity → Bool) (ks : List Commodity) → sum_by f (filter p ks) ≤ sum_by f ks
sum-part f p [] = omega arith
sum-part f p (k ∷ ks) = step (p k) (sum-part f p ks)
  where
    step : (b : Bool) → sum_by f (filter p ks) ≤ sum_by f ks → sum_by f (cond b (k ∷ filter p ks) (filter p ks)) ≤ sum_by f (k ∷ ks)
    step true rest = omega (arith, sum_by-cons f k (filter p ks), sum_by-cons f k ks, rest)
    step false rest = omega (arith, sum_by-cons f k ks, rest)

-- targets are nodes, and their amounts are within the limit
pub record Fits (nodes : ℕ) (targets : List Target) : Type 0 where
  pub nodes_are : All (λ (t : Target). t.to < nodes) targets
  pub total : sum_by (λ (t : Target). t.amount) targets ≤ MAX_TOTAL

pub targets-fit : (net : Network) (p : Commodity → Bool) → IsNetwork net → Fits net.nodes (map target_of (filter p net.commodities))
targets-fit net p n = record {
  nodes_are = All-map (λ (t : Target). t.to < net.nodes) target_of (filter p net.commodities)
      (All-filter p (λ (k : Commodity). k.to < net.nodes) net.commodities (All-weaker (IsCommodity net.nodes) (λ (k : Commodity). k.to < net.nodes) (λ k fits. fits.to) net.commodities n.commodities));
  total = omega (arith, sum-map (λ (t : Target). t.amount) (filter p net.commodities), sum-part (λ (k : Commodity). k.amount) p net.commodities, n.total);
}

-- one row more
pub demands-more : (net : Network) (rows : List Row) (g : ℕ) (row : Row) → g < group_count net → demands_of rows ≡ take g (demands_in net) → row.source ≡ get_or (group_sources net) g 0 → row.targets.items ≡ map (target_at net.commodities) (members_of net g)
    → demands_of (rows ++ row ∷ []) ≡ take (g + 1) (demands_in net)
unfolding group_count
demands-more net rows g row l e source targets =
    let cs = net.commodities in
    let v = get_or (group_sources net) g 0 in
    let many : length (demands_in net) ≡ length (group_sources net) = length-map (group_sources net) (demands_from cs) in
    let at : get_or (demands_in net) g no_demands ≡ demands_from cs v = get_or-map (demands_from cs) (group_sources net) g 0 no_demands l in
    let made : demand_of row ≡ demands_from cs v = ap (λ (u : ℕ). demands u row.targets.items) source ∙ ap (demands v) (targets ∙ members-targets net g l) in
    map-append demand_of rows (row ∷ []) ∙ (ap (λ (ds : List Demands). ds ++ demand_of row ∷ []) e
    ∙ (ap (λ (d : Demands). take g (demands_in net) ++ d ∷ []) (made ∙ sym at) ∙ sym (take_more (demands_in net) g no_demands (omega arith))))
  where
    demands : ℕ → List Target → Demands
    demands u ts = record { source = u; targets = ts }

pub source-below : (net : Network) (g : ℕ) → g < group_count net → get_or (group_sources net) g 0 < net.nodes
unfolding group_count
source-below net g l = (All-filter (is_source net.commodities) (λ v. v < net.nodes) (range_with_len 0 net.nodes)
    (λ k d m. let n : length (range_with_len 0 net.nodes) ≡ net.nodes = length-range_with_len 0 net.nodes in rw (get_or-range_with_len 0 net.nodes k d (omega arith)) (omega arith))) g 0 l

-- all rows
pub demands-all : (net : Network) (rows : List Row) (g : ℕ) → group_count net ≤ g → demands_of rows ≡ take g (demands_in net) → demands_of rows ≡ demands_in net
unfolding group_count
demands-all net rows g l e = let many : length (demands_in net) ≡ length (group_sources net) = length-map (group_sources net) (demands_from net.commodities) in e ∙ take_all g (demands_in net) (omega arith)

-- filled rows of a network are room for it
pub filled-room : (net : Network) (rows : List Row) (P : ℕ → ℕ → ℕ → Type 0) → IsNetwork net → demands_of rows ≡ demands_in net → All (IsFilledWith net.nodes P) rows → All (IsRoom net.nodes) rows
filled-room net rows P n e filled = λ k d l.
    let row = get_or rows k d in
    let f = filled k d l in
    let fits = targets-fit net (λ c. eqb c.from row.source) n in
    let is = targets-in net rows e k d l in
    record {
      source = f.node;
      count = f.count;
      targets = subst (λ (ts : List Target). All (λ (t : Target). t.to < net.nodes) ts) (sym is) fits.nodes_are;
      total = subst (λ (ts : List Target). sum_by (λ (t : Target). t.amount) ts ≤ MAX_TOTAL) (sym is) fits.total;
    }

-- rows that keep their room are room as before
pub room-kept : (net : Network) (old new : List Row) → length new ≡ length old → ((k : ℕ) (d : Row) → k < length old → KeepsRoom (get_or old k d) (get_or new k d)) → AreRoom net old → AreRoom net new
room-kept net old new e given room = record {
  demands = demands-kept old new e (λ k d l. (given k d l).source) (λ k d l. (given k d l).targets) ∙ room.demands;
  each = λ k d l.
      let before : k < length old = omega arith in
      let g = given k d before in
      let r = room.each k d before in
      let is : (get_or new k d).targets.items ≡ (get_or old k d).targets.items = ap (λ (v : Vec Target _). v.items) g.targets in
      record {
        source = omega (arith, g.source, r.source);
        count = g.count ∙ r.count;
        targets = subst (λ (ts : List Target). All (λ (t : Target). t.to < net.nodes) ts) (sym is) r.targets;
        total = subst (λ (ts : List Target). sum_by (λ (t : Target). t.amount) ts ≤ MAX_TOTAL) (sym is) r.total;
      };
}
