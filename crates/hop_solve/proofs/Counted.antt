-- How often a source, and a source's layer, is among those that are asked for.
use Rattle.std.proofs.Common.{◌≡◌, inl, inr, ℕ, zero, suc, ◌+◌, ◌<◌, ◌≤◌, List, [], ◌∷◌, ◌++◌, Bool, true, false, ◌&&◌, ◌||◌, cond, eqb, leb, eq-eqb, length, get_or, map, Option, Some, None, refl, sym, ap, subst, ◌∙◌, arith}
use Rattle.std.specs.Prelude.{All, MatchOption, count_by, find, flat_map}
use Rattle.std.specs.Option.{option_map_or}
use Rattle.std.specs.List.{filter, range_with_len, list_any, enumerate_from}
use Rattle.std.proofs.lemmas.Bool.{cases_eq, cases_lt, ne_eqb, lt-leb}
use Rattle.std.proofs.lemmas.List.{get_or_past}
use Rattle.std.proofs.lemmas.List.Elements.{All-head, All-tail}
use Rattle.std.proofs.lemmas.List.Sums.{sum_by-cons, sum_by-append}
use Rattle.mcf_limits.specs.declared.TheConstants.{MAX_HOPS}
use Rattle.flow_model.specs.declared.net.Commodity.{Commodity}
use Rattle.flow_model.specs.Network.{Network}
use Rattle.flow_paths.specs.DualRows.{Potential}
use Rattle.hop_paths.specs.Allowed.{limit_at, is_unlimited, has_layer, AreLimits}
use Rattle.hop_check.specs.LayerRows.{Layer}
use Rattle.hop_check.specs.Layers.{layer_in}
use Rattle.hop_check.specs.Tables.{PotentialsAreAsked, LayersAreAsked}
use Rattle.hop_solve.specs.Run.{layers_asked, IsLayerWith}
use Rattle.hop_solve.specs.Numbers.{asked_of}

-- how often the number is among these
abbrev hits : ℕ → List ℕ → ℕ
hits v xs = count_by (λ n. eqb n v) xs

cond-none : (b : Bool) → cond {A = ℕ} b 0 0 ≡ 0
cond-none true = refl
cond-none false = refl

hits-keep : (b : Bool) (a v : ℕ) (xs : List ℕ) → hits v (cond b (a ∷ xs) xs) ≡ cond b (cond (eqb a v) 1 0) 0 + hits v xs
hits-keep true a v xs = sum_by-cons (λ n. cond (eqb n v) 1 0) a xs
hits-keep false a v xs = omega arith

hits-below : (p : ℕ → Bool) (a n v : ℕ) → v < a → hits v (filter p (range_with_len a n)) ≡ 0
hits-below p a zero v l = refl
hits-below p a (suc n) v l =
    let test : eqb a v ≡ false = ne_eqb a v (λ e. absurd (omega arith)) in
    let rest = hits-below p (a + 1) n v (omega arith) in
    hits-keep (p a) a v (filter p (range_with_len (a + 1) n)) ∙ rw test (omega (arith, cond-none (p a), rest))

hits-above : (p : ℕ → Bool) (a n v : ℕ) → a + n ≤ v → hits v (filter p (range_with_len a n)) ≡ 0
hits-above p a zero v l = refl
hits-above p a (suc n) v l =
    let test : eqb a v ≡ false = ne_eqb a v (λ e. absurd (omega arith)) in
    let rest = hits-above p (a + 1) n v (omega arith) in
    hits-keep (p a) a v (filter p (range_with_len (a + 1) n)) ∙ rw test (omega (arith, cond-none (p a), rest))

hits-in : (p : ℕ → Bool) (a n v : ℕ) → a ≤ v → v < a + n → hits v (filter p (range_with_len a n)) ≡ cond (p v) 1 0
hits-in p a zero v l m = absurd (omega arith)
hits-in p a (suc n) v l m = elim (cases_eq a v) [
  | inl e ↦
      let test : eqb a v ≡ true = eq-eqb a v e in
      let rest = hits-below p (a + 1) n v (omega arith) in
      let here : cond {A = ℕ} (p a) 1 0 ≡ cond {A = ℕ} (p v) 1 0 = ap (λ (x : ℕ). cond {A = ℕ} (p x) 1 0) e in
      hits-keep (p a) a v (filter p (range_with_len (a + 1) n)) ∙ rw test (omega (arith, here, rest))
  | inr ne ↦
      let test : eqb a v ≡ false = ne_eqb a v ne in
      let rest = hits-in p (a + 1) n v (omega arith) (omega arith) in
      hits-keep (p a) a v (filter p (range_with_len (a + 1) n)) ∙ rw test (omega (arith, cond-none (p a), rest))
]

-- potentials

count-nodes : (rows : List Potential) (v : ℕ) → count_by (λ r. eqb r.node v) rows ≡ hits v (map (λ (r : Potential). r.node) rows)
count-nodes [] v = refl
count-nodes (r ∷ rows) v =
    sum_by-cons (λ (x : Potential). cond (eqb x.node v) 1 0) r rows ∙ (ap (λ (n : ℕ). cond (eqb r.node v) 1 0 + n) (count-nodes rows v)
    ∙ sym (sum_by-cons (λ (n : ℕ). cond (eqb n v) 1 0) r.node (map (λ (x : Potential). x.node) rows)))

pub potentials-asked : (net : Network) (limits : List (Option ℕ)) (rows : List Potential) → map (λ (r : Potential). r.node) rows ≡ filter (is_unlimited net limits) (range_with_len 0 net.nodes) → PotentialsAreAsked net limits rows
potentials-asked net limits rows e v l = count-nodes rows v ∙ (ap (hits v) e ∙ hits-in (is_unlimited net limits) 0 net.nodes v (omega arith) (omega arith))

-- layers

-- how often the source and the index are among these
abbrev pairs : ℕ → ℕ → List (ℕ × ℕ) → ℕ
pairs s j ks = count_by (λ p. eqb p.0 s && eqb p.1 j) ks

keyed-step : (a b : Bool) (m r : ℕ) → r ≡ cond a m 0 → cond {A = ℕ} (a && b) 1 0 + r ≡ cond a (cond {A = ℕ} b 1 0 + m) 0
keyed-step true b m r e = ap (λ n. cond {A = ℕ} b 1 0 + n) e
keyed-step false b m r e = omega arith

keyed : (s j v : ℕ) (xs : List ℕ) → pairs s j (map (λ i. (v, i)) xs) ≡ cond (eqb v s) (hits j xs) 0
keyed s j v [] = sym (cond-none (eqb v s))
keyed s j v (x ∷ xs) =
    let split = sum_by-cons (λ (p : ℕ × ℕ). cond {A = ℕ} (eqb p.0 s && eqb p.1 j) 1 0) (v, x) (map (λ i. (v, i)) xs) in
    let step = keyed-step (eqb v s) (eqb x j) (hits j xs) (pairs s j (map (λ i. (v, i)) xs)) (keyed s j v xs) in
    split ∙ step ∙ ap (λ n. cond (eqb v s) n 0) (sym (sum_by-cons (λ n. cond {A = ℕ} (eqb n j) 1 0) x xs))

abbrev indices : Network → List (Option ℕ) → ℕ → List ℕ
indices net limits v = filter (has_layer net limits v) (range_with_len 0 (MAX_HOPS + 1))

pairs-one : (net : Network) (limits : List (Option ℕ)) (s j a : ℕ) (rest : List (ℕ × ℕ)) → pairs s j (asked_of net limits a ++ rest) ≡ cond (eqb a s) (hits j (indices net limits a)) 0 + pairs s j rest
pairs-one net limits s j a rest = sum_by-append (λ (p : ℕ × ℕ). cond {A = ℕ} (eqb p.0 s && eqb p.1 j) 1 0) (asked_of net limits a) rest ∙ ap (λ n. n + pairs s j rest) (keyed s j a (indices net limits a))

pairs-below : (net : Network) (limits : List (Option ℕ)) (s j a n : ℕ) → s < a → pairs s j (flat_map (asked_of net limits) (range_with_len a n)) ≡ 0
pairs-below net limits s j a zero l = refl
pairs-below net limits s j a (suc n) l =
    let test : eqb a s ≡ false = ne_eqb a s (λ e. absurd (omega arith)) in
    let rest = pairs-below net limits s j (a + 1) n (omega arith) in
    pairs-one net limits s j a (flat_map (asked_of net limits) (range_with_len (a + 1) n)) ∙ rw test (omega (arith, rest))

pairs-in : (net : Network) (limits : List (Option ℕ)) (s j a n : ℕ) → a ≤ s → s < a + n → pairs s j (flat_map (asked_of net limits) (range_with_len a n)) ≡ hits j (indices net limits s)
pairs-in net limits s j a zero l m = absurd (omega arith)
pairs-in net limits s j a (suc n) l m = elim (cases_eq a s) [
  | inl e ↦
      let test : eqb a s ≡ true = eq-eqb a s e in
      let rest = pairs-below net limits s j (a + 1) n (omega arith) in
      let here : hits j (indices net limits a) ≡ hits j (indices net limits s) = ap (λ (x : ℕ). hits j (indices net limits x)) e in
      pairs-one net limits s j a (flat_map (asked_of net limits) (range_with_len (a + 1) n)) ∙ rw test (omega (arith, here, rest))
  | inr ne ↦
      let test : eqb a s ≡ false = ne_eqb a s ne in
      let rest = pairs-in net limits s j (a + 1) n (omega arith) (omega arith) in
      pairs-one net limits s j a (flat_map (asked_of net limits) (range_with_len (a + 1) n)) ∙ rw test (omega (arith, rest))
]

any-none : {X : Type 0} (p : X → Bool) (xs : List X) → ((x : X) → p x ≡ false) → list_any p xs ≡ false
any-none p [] h = refl
any-none p (x ∷ xs) h = ap (λ (b : Bool). b || list_any p xs) (h x) ∙ any-none p xs h

-- the limit of a commodity is no greater than the greatest
pub limit-small : (net : Network) (limits : List (Option ℕ)) (k : ℕ) → AreLimits net limits → MatchOption (limit_at limits k) (Unit {0}) (λ n. n ≤ MAX_HOPS)
limit-small net limits k are = elim (cases_lt k (length limits)) [
  | inl l ↦ are.small k None l
  | inr far ↦ subst (λ (o : Option ℕ). MatchOption o (Unit {0}) (λ n. n ≤ MAX_HOPS)) (sym (get_or_past limits k None far)) tt
]

-- no layer over the greatest limit is asked for
far-none : (net : Network) (limits : List (Option ℕ)) (s j : ℕ) → AreLimits net limits → MAX_HOPS < j → has_layer net limits s j ≡ false
far-none net limits s j are far = any-none (λ (k : ℕ × Commodity). eqb k.1.from s && option_map_or (leb j) (limit_at limits k.0) false) (enumerate_from 0 net.commodities)
    (λ k. both (eqb k.1.from s) (option_map_or (leb j) (limit_at limits k.0) false) (over (limit_at limits k.0) (limit-small net limits k.0 are)))
  where
    both : (a b : Bool) → b ≡ false → (a && b) ≡ false
    both true b e = e
    both false b e = refl

    over : (o : Option ℕ) → MatchOption o (Unit {0}) (λ n. n ≤ MAX_HOPS) → option_map_or (leb j) o false ≡ false
    over None h = refl
    over (Some n) h = lt-leb j n (omega arith)

-- each index that is asked for once
hits-asked : (net : Network) (limits : List (Option ℕ)) (s j : ℕ) → AreLimits net limits → hits j (indices net limits s) ≡ cond (has_layer net limits s j) 1 0
hits-asked net limits s j are = elim (cases_lt MAX_HOPS j) [
  | inl far ↦ hits-above (has_layer net limits s) 0 (MAX_HOPS + 1) j (omega arith) ∙ sym (ap (λ (b : Bool). cond {A = ℕ} b 1 0) (far-none net limits s j are far))
  | inr near ↦ hits-in (has_layer net limits s) 0 (MAX_HOPS + 1) j (omega arith) (omega arith)
]

count-places : (rows : List Layer) (s j : ℕ) → count_by (λ r. eqb r.node s && eqb r.index j) rows ≡ pairs s j (map (λ (r : Layer). (r.node, r.index)) rows)
count-places [] s j = refl
count-places (r ∷ rows) s j =
    sum_by-cons (λ (x : Layer). cond {A = ℕ} (eqb x.node s && eqb x.index j) 1 0) r rows ∙ (ap (λ (n : ℕ). cond {A = ℕ} (eqb r.node s && eqb r.index j) 1 0 + n) (count-places rows s j)
    ∙ sym (sum_by-cons (λ (p : ℕ × ℕ). cond {A = ℕ} (eqb p.0 s && eqb p.1 j) 1 0) (r.node, r.index) (map (λ (x : Layer). (x.node, x.index)) rows)))

pub layers-asked : (net : Network) (limits : List (Option ℕ)) (rows : List Layer) → AreLimits net limits → map (λ (r : Layer). (r.node, r.index)) rows ≡ layers_asked net limits → LayersAreAsked net limits rows
layers-asked net limits rows are e v i l =
    count-places rows v i ∙ (ap (pairs v i) e ∙ (pairs-in net limits v i 0 net.nodes (omega arith) (omega arith) ∙ hits-asked net limits v i are))

-- the layer of a source and an index that has one
pub record HasLayer (nodes : ℕ) (Q : ℕ → ℕ → ℕ → ℕ → Type 0) (rows : List Layer) (v i : ℕ) : Type 0 where
  pub long : length (layer_in rows v i) ≡ nodes
  pub each : (w : ℕ) → w < nodes → Q v i w (get_or (layer_in rows v i) w 0)

parts : (r : Layer) (v i : ℕ) → (eqb r.node v && eqb r.index i) ≡ true → (r.node ≡ v) × (r.index ≡ i)
parts r v i h = elim (cases_eq r.node v) [
  | inl e ↦ elim (cases_eq r.index i) [
    | inl f ↦ (e, f)
    | inr n ↦ let off : (eqb r.node v && eqb r.index i) ≡ false = rw (eq-eqb r.node v e, ne_eqb r.index i n) refl in absurd cc
  ]
  | inr n ↦ let off : (eqb r.node v && eqb r.index i) ≡ false = rw (ne_eqb r.node v n) refl in absurd cc
]

pub layer-found : (nodes : ℕ) (Q : ℕ → ℕ → ℕ → ℕ → Type 0) (rows : List Layer) (v i : ℕ) → All (IsLayerWith nodes Q) rows → count_by (λ r. eqb r.node v && eqb r.index i) rows ≡ 1 → HasLayer nodes Q rows v i
layer-found nodes Q [] v i h e = absurd (omega arith)
layer-found nodes Q (r ∷ rows) v i h e = by_test (eqb r.node v && eqb r.index i) refl (λ one. layer-found nodes Q rows v i (All-tail (IsLayerWith nodes Q) r rows h) one)
  where
    by_test : (t : Bool) → (eqb r.node v && eqb r.index i) ≡ t → (count_by (λ r. eqb r.node v && eqb r.index i) rows ≡ 1 → HasLayer nodes Q rows v i) → HasLayer nodes Q (r ∷ rows) v i
    by_test true t later =
        let p = parts r v i t in
        let row = All-head (IsLayerWith nodes Q) r rows h in
        let is : layer_in (r ∷ rows) v i ≡ r.values = ap (λ (b : Bool). option_map_or (λ (x : Layer). x.values) (cond b (Some r) (find (λ x. eqb x.node v && eqb x.index i) rows)) []) t in
        record {
          long = ap length is ∙ row.count;
          each = λ w l. subst (λ (ns : List ℕ). Q v i w (get_or ns w 0)) (sym is) (subst (λ (n : ℕ). Q n i w (get_or r.values w 0)) p.0 (subst (λ (n : ℕ). Q r.node n w (get_or r.values w 0)) p.1 (row.each w l)));
        }
    by_test false t later =
        let split = sum_by-cons (λ (x : Layer). cond {A = ℕ} (eqb x.node v && eqb x.index i) 1 0) r rows in
        let part : cond {A = ℕ} (eqb r.node v && eqb r.index i) 1 0 ≡ 0 = ap (λ (b : Bool). cond {A = ℕ} b 1 0) t in
        let f = later (omega (arith, split, part, e)) in
        let is : layer_in (r ∷ rows) v i ≡ layer_in rows v i = ap (λ (b : Bool). option_map_or (λ (x : Layer). x.values) (cond b (Some r) (find (λ x. eqb x.node v && eqb x.index i) rows)) []) t in
        record {
          long = ap length is ∙ f.long;
          each = λ w l. subst (λ (ns : List ℕ). Q v i w (get_or ns w 0)) (sym is) (f.each w l);
        }
