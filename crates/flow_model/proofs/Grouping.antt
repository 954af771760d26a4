-- Laws of chains and groups.
use Rattle.std.proofs.Common.{◌≡◌, inl, inr, ℕ, zero, suc, ◌+◌, ◌-◌, ◌*◌, ◌<◌, ◌≤◌, List, [], ◌∷◌, ◌++◌, Bool, true, false, cond, length, get_or, drop, refl, sym, ap, subst, ◌∙◌, arith, add-one, add-suc, add-zero, length-append, append_assoc, drop-cons, eqb, append-nil, length-drop}
use Rattle.std.specs.Prelude.{slice_range, map, All}
use lib.Dec.{ltb}
use Rattle.std.proofs.Common.{below_more, zero-add}
use Rattle.std.proofs.lemmas.List.{drop-drop, get_or-drop, drop-map, get_or-map, get_or_append_left}
use Rattle.std.proofs.lemmas.List.Elements.{All-filter, filter-append}
use Rattle.std.proofs.Math.Seq.{get_or-append_seam}
use Rattle.std.proofs.Math.ListN.{set, length-set}
use Rattle.std.proofs.lemmas.List.{get_or-set_other}
use Rattle.mcf_limits.specs.declared.TheConstants.{MAX_DEMANDS, MAX_NODES}
use Rattle.std.specs.List.{filter, range_with_len, list_any, position_or_len}
use Rattle.std.specs.List.Sorted.{IsStrictlyIncreasing}
use Rattle.std.proofs.lemmas.Bool.{cases_eq, eq-eqb, ne_eqb, eqb-true, lt-ltb, le-ltb}
use Rattle.std.proofs.lemmas.List.Kept.{IsStrictlyIncreasing-filter, AllPairs-from_increasing}
use Rattle.std.proofs.lemmas.List.FromFn.{get_or-range_with_len, length-range_with_len}
use Rattle.std.proofs.lemmas.List.Sums.{position_or_len_is, passes_at_first}
use Rattle.std.proofs.lemmas.Grind.{common_steps, get_or-set_at}
use Rattle.std.proofs.Math.Nat.{mul-le-mul}
use Rattle.flow_model.specs.declared.net.Commodity.{Commodity}
use Rattle.flow_model.specs.Network.{Network}
use Rattle.flow_model.specs.Groups.{group_in, group_sources, group_count, is_source, members_of}
use Rattle.flow_model.specs.Grouped.{from_at, first_from, members_from, members_below, AreGroups}

-- from a source's first commodity on, the members are the same
skip : (cs : List Commodity) (i v : ℕ) → (d : ℕ) × (first_from cs i v ≡ i + d) × (d ≤ length cs) × (members_from cs i v ≡ members_from (drop d cs) (i + d) v)
skip [] i v = (0, sym (add-zero i), omega arith, refl)
skip (c ∷ cs) i v =
    elim (cases_eq c.from v) [
      | inl e ↦ (0, rw (eq-eqb c.from v e) (sym (add-zero i)), omega arith, rw (add-zero i) refl)
      | inr n ↦
          let r = skip cs (suc i) v in
          let s : suc i + r.0 ≡ i + suc r.0 = omega arith in
          (suc r.0, rw (ne_eqb c.from v n) (r.1 ∙ s), omega (arith, r.2), rw (ne_eqb c.from v n) (r.3 ∙ ap (λ (k : ℕ). members_from (drop r.0 cs) k v) s))
    ]

-- the first commodity of a source is one of it, where it isn't past the end
hit : (cs : List Commodity) (i v : ℕ) (d : ℕ) → first_from cs i v ≡ i + d → d < length cs → get_or (map (λ (c : Commodity). c.from) cs) d 0 ≡ v
hit [] i v d e l = absurd (omega arith)
hit (c ∷ cs) i v zero e l =
    elim (cases_eq c.from v) [
      | inl p ↦ p
      | inr n ↦
          let r = skip cs (suc i) v in
          let f : first_from cs (suc i) v ≡ i + 0 = rw (ne_eqb c.from v n) at e in
          absurd (omega (arith, r.1, f))
    ]
hit (c ∷ cs) i v (suc d) e l =
    elim (cases_eq c.from v) [
      | inl p ↦ let f : i ≡ i + suc d = rw (eq-eqb c.from v p) at e in absurd (omega arith)
      | inr n ↦ let f : first_from cs (suc i) v ≡ i + suc d = rw (ne_eqb c.from v n) at e in hit cs (suc i) v d (omega (arith, f)) (omega arith)
    ]

from-drop : (cs : List Commodity) (i d : ℕ) → get_or (map (λ (c : Commodity). c.from) (drop i cs)) d 0 ≡ from_at cs (i + d)
from-drop cs i d = ap (λ xs. get_or xs d 0) (sym (drop-map (λ (c : Commodity). c.from) i cs)) ∙ get_or-drop i (map (λ (c : Commodity). c.from) cs) d 0

-- what a place in a chain is: past the end, or of the source, with the members that are left from there on
pub record IsNext (cs : List Commodity) (i v j : ℕ) : Type 0 where
  pub onward : i ≤ j
  pub within : j ≤ length cs
  pub of : j < length cs → from_at cs j ≡ v
  pub rest : members_from (drop i cs) i v ≡ members_from (drop j cs) j v

pub next-is : (cs : List Commodity) (i v j : ℕ) → i ≤ length cs → j ≡ first_from (drop i cs) i v → IsNext cs i v j
next-is cs i v j l e =
    let r = skip (drop i cs) i v in
    let at : j ≡ i + r.0 = e ∙ r.1 in
    let n : length (drop i cs) + i ≡ length cs = omega (arith, length-drop i cs) in
    record {
      onward = omega arith;
      within = omega (arith, r.2);
      of = λ less. rw at (sym (from-drop cs i r.0) ∙ hit (drop i cs) i v r.0 r.1 (omega arith));
      rest = rw at (r.3 ∙ ap (λ xs. members_from xs (i + r.0) v) (drop-drop r.0 i cs));
    }

-- the commodity at a place of its source's chain
pub member-at : (cs : List Commodity) (k v : ℕ) → k < length cs → from_at cs k ≡ v → members_from (drop k cs) k v ≡ k ∷ members_from (drop (k + 1) cs) (k + 1) v
member-at cs k v l e =
    let d : Commodity = record { from = 0; to = 0; amount = 0 } in
    let f : (get_or cs k d).from ≡ v = sym (get_or-map (λ (c : Commodity). c.from) cs k d 0 l) ∙ e in
    rw (drop-cons cs k d l, add-one, eq-eqb (get_or cs k d).from v f) refl

-- a chain that begins one place earlier
pub first-at : (cs : List Commodity) (k v : ℕ) → k < length cs → from_at cs k ≡ v → first_from (drop k cs) k v ≡ k
first-at cs k v l e =
    let d : Commodity = record { from = 0; to = 0; amount = 0 } in
    let f : (get_or cs k d).from ≡ v = sym (get_or-map (λ (c : Commodity). c.from) cs k d 0 l) ∙ e in
    rw (drop-cons cs k d l, eq-eqb (get_or cs k d).from v f) refl

pub first-past : (cs : List Commodity) (k v : ℕ) → k < length cs → (from_at cs k ≡ v → ⊥) → first_from (drop k cs) k v ≡ first_from (drop (k + 1) cs) (k + 1) v
first-past cs k v l n =
    let d : Commodity = record { from = 0; to = 0; amount = 0 } in
    let f : (get_or cs k d).from ≡ v → ⊥ = λ e. n (get_or-map (λ (c : Commodity). c.from) cs k d 0 l ∙ e) in
    rw (drop-cons cs k d l, ne_eqb (get_or cs k d).from v f, add-one) refl

-- a node has a first commodity where it is a source
first-any : (cs : List Commodity) (i v : ℕ) → ltb (first_from cs i v) (i + length cs) ≡ list_any (λ (c : Commodity). eqb c.from v) cs
first-any [] i v = rw (add-zero i) (le-ltb i i (omega arith))
first-any (c ∷ cs) i v =
    elim (cases_eq c.from v) [
      | inl e ↦ rw (eq-eqb c.from v e) (lt-ltb i (i + suc (length cs)) (omega arith))
      | inr n ↦ let e : i + suc (length cs) ≡ suc i + length cs = omega arith in rw (ne_eqb c.from v n, e) (first-any cs (suc i) v)
    ]

pub source-is : (cs : List Commodity) (v : ℕ) → ltb (first_from cs 0 v) (length cs) ≡ is_source cs v
source-is cs v = ap (ltb (first_from cs 0 v)) (sym (zero-add (length cs))) ∙ first-any cs 0 v

-- members node after node
from-le : (cs : List Commodity) (i v : ℕ) → length (members_from cs i v) ≤ length cs
from-le [] i v = omega arith
from-le (c ∷ cs) i v =
    elim (cases_eq c.from v) [
      | inl e ↦ rw (eq-eqb c.from v e) (omega (arith, from-le cs (suc i) v))
      | inr n ↦ rw (ne_eqb c.from v n) (omega (arith, from-le cs (suc i) v))
    ]

below-le : (cs : List Commodity) (n : ℕ) → length (members_below cs n) ≤ n * length cs
unfolding members_below
below-le cs zero = omega arith
below-le cs (suc n) = omega (arith, length-append (members_below cs n) (members_from cs 0 n), below-le cs n, from-le cs 0 n)

pub below-fits : (cs : List Commodity) (n : ℕ) → length cs ≤ MAX_DEMANDS → n ≤ MAX_NODES → length (members_below cs n) ≤ MAX_NODES * MAX_DEMANDS
below-fits cs n h l = omega (arith, below-le cs n, mul-le-mul l h)

pub below-zero : (cs : List Commodity) → members_below cs 0 ≡ []
unfolding members_below
below-zero cs = refl

pub below-suc : (cs : List Commodity) (v : ℕ) → members_below cs (v + 1) ≡ members_below cs v ++ members_from cs 0 v
unfolding members_below
below-suc cs v = rw add-one refl

below-further : (cs : List Commodity) (v more : ℕ) → (rest : List ℕ) × (members_below cs (v + more) ≡ members_below cs v ++ rest)
unfolding members_below
below-further cs v zero = ([], rw add-zero (sym (append-nil (members_below cs v))))
below-further cs v (suc more) =
    let front = below-further cs v more in
    (front.0 ++ members_from cs 0 (v + more), rw (add-suc, front.1) (append_assoc (members_below cs v) front.0 (members_from cs 0 (v + more))))

middle : (a b d : List ℕ) → slice_range (a ++ (b ++ d)) (length a) (length (a ++ b)) ≡ b
middle a b d = grind (arith, common_steps)

below-range : (cs : List Commodity) (n v : ℕ) → v < n
    → slice_range (members_below cs n) (length (members_below cs v)) (length (members_below cs (v + 1))) ≡ members_from cs 0 v
below-range cs n v l =
    let front = below-further cs (v + 1) (n - (v + 1)) in
    let e : v + 1 + (n - (v + 1)) ≡ n = omega arith in
    let e' : members_below cs n ≡ members_below cs (v + 1) ++ front.0 = subst (λ (n : ℕ). members_below cs n ≡ members_below cs (v + 1) ++ front.0) e front.1 in
    let parts : members_below cs n ≡ members_below cs v ++ (members_from cs 0 v ++ front.0) = rw (e', below-suc cs v) (append_assoc (members_below cs v) (members_from cs 0 v) front.0) in
    rw (parts, below-suc cs v) (middle (members_below cs v) (members_from cs 0 v) front.0)

below-mono : (cs : List Commodity) (u v : ℕ) → u ≤ v → length (members_below cs u) ≤ length (members_below cs v)
below-mono cs u v l =
    let front = below-further cs u (v - u) in
    let e : u + (v - u) ≡ v = omega arith in
    let e' : members_below cs v ≡ members_below cs u ++ front.0 = subst (λ (n : ℕ). members_below cs n ≡ members_below cs u ++ front.0) e front.1 in
    rw e' (omega (arith, length-append (members_below cs u) front.0))

pub begins-more : (cs : List Commodity) (starts : List ℕ) (v x : ℕ) → length starts ≡ v → x ≡ length (members_below cs v)
    → ((k : ℕ) → k < v → get_or starts k 0 ≡ length (members_below cs k)) → (k : ℕ) → k < v + 1 → get_or (starts ++ x ∷ []) k 0 ≡ length (members_below cs k)
begins-more cs starts v x e p h = below_more (λ (k : ℕ). get_or (starts ++ x ∷ []) k 0 ≡ length (members_below cs k)) v
    (λ k l. let inside : k < length starts = omega arith in rw (get_or_append_left starts (x ∷ []) 0 k inside) (h k l))
    (subst (λ (k : ℕ). get_or (starts ++ x ∷ []) k 0 ≡ length (members_below cs v)) e (rw (get_or-append_seam starts x [] 0) p))

-- the members of a node are those commodities whose source it is
members-filter : (test : ℕ → Bool) (cs : List Commodity) (i v : ℕ) → ((k : ℕ) → k < length cs → test (i + k) ≡ eqb (from_at cs k) v)
    → members_from cs i v ≡ filter test (range_with_len i (length cs))
members-filter test [] i v same = refl
members-filter test (c ∷ cs) i v same =
    let here : test i ≡ eqb c.from v = ap test (sym (add-zero i)) ∙ same 0 (omega arith) in
    let next : i + 1 ≡ suc i = add-one i in
    let rest : members_from cs (suc i) v ≡ filter test (range_with_len (suc i) (length cs)) =
    members-filter test cs (suc i) v (λ k l. let e : suc i + k ≡ i + suc k = omega arith in ap test e ∙ same (suc k) (omega arith)) in
    rw (here, next, rest) refl

increasing-range : (a n : ℕ) → IsStrictlyIncreasing (range_with_len a n)
increasing-range a n = λ k l. let n' : length (range_with_len a n) ≡ n = length-range_with_len a n in
    rw (get_or-range_with_len a n k 0 (omega arith), get_or-range_with_len a n (k + 1) 0 (omega arith)) (omega arith)

place : (xs : List ℕ) (y g : ℕ) → IsStrictlyIncreasing xs → g < length xs → eqb (position_or_len (λ v. eqb v y) xs) g ≡ eqb y (get_or xs g 0)
place xs y g up l =
    elim (cases_eq y (get_or xs g 0)) [
      | inl e ↦
          let pairs = AllPairs-from_increasing xs up in
          let p : position_or_len (λ v. eqb v y) xs ≡ g = position_or_len_is (λ v. eqb v y) xs g 0 (omega arith)
          (λ k less. let below : get_or xs k 0 < get_or xs g 0 = pairs k g 0 less l in ne_eqb (get_or xs k 0) y (λ (z : get_or xs k 0 ≡ y). absurd (omega arith)))
          (λ less. eq-eqb (get_or xs g 0) y (sym e)) in
          rw (p, eq-eqb g g refl) (sym (eq-eqb y (get_or xs g 0) e))
      | inr n ↦
          rw (ne_eqb y (get_or xs g 0) n) (ne_eqb (position_or_len (λ v. eqb v y) xs) g (λ (z : position_or_len (λ v. eqb v y) xs ≡ g).
          let inside : position_or_len (λ v. eqb v y) xs < length xs = omega arith in
          let found : eqb (get_or xs (position_or_len (λ v. eqb v y) xs) 0) y ≡ true = passes_at_first (λ v. eqb v y) xs 0 inside in
          n (sym (eqb-true (get_or xs g 0) y (subst (λ (k : ℕ). eqb (get_or xs k 0) y ≡ true) z found)))))
    ]

-- the members of a group are those of its source
pub members-are : (net : Network) (g : ℕ) → g < group_count net → members_from net.commodities 0 (get_or (group_sources net) g 0) ≡ members_of net g
unfolding group_in group_count
members-are net g l =
    let up = IsStrictlyIncreasing-filter (is_source net.commodities) (range_with_len 0 net.nodes) (increasing-range 0 net.nodes) in
    members-filter (λ k. eqb (group_in net k) g) net.commodities 0 (get_or (group_sources net) g 0)
    (λ k less. let e : 0 + k ≡ k = zero-add k in rw e (place (group_sources net) (from_at net.commodities k) g up l))

source-below : (net : Network) (g : ℕ) → g < length (group_sources net) → get_or (group_sources net) g 0 < net.nodes
source-below net g l =
    let each : All (λ v. v < net.nodes) (group_sources net) = All-filter (is_source net.commodities) (λ v. v < net.nodes) (range_with_len 0 net.nodes)
    (λ k d less. let n : length (range_with_len 0 net.nodes) ≡ net.nodes = length-range_with_len 0 net.nodes in rw (get_or-range_with_len 0 net.nodes k d (omega arith)) (omega arith)) in
    each g 0 l

pub record FoundMembers (net : Network) (sources starts members : List ℕ) (g : ℕ) : Type 0 where
  pub group : g < length sources
  pub count : length starts ≡ net.nodes + 1
  pub source : get_or sources g 0 < net.nodes
  pub start : get_or starts (get_or sources g 0) 0 ≤ get_or starts (get_or sources g 0 + 1) 0
  pub end : get_or starts (get_or sources g 0 + 1) 0 ≤ length members
  pub value : slice_range members (get_or starts (get_or sources g 0) 0) (get_or starts (get_or sources g 0 + 1) 0) ≡ members_of net g

pub found-members : (net : Network) (sources starts members : List ℕ) (g : ℕ) → AreGroups net sources starts members → g < group_count net → FoundMembers net sources starts members g
unfolding group_count
found-members net sources starts members g a l =
    let s : get_or sources g 0 ≡ get_or (group_sources net) g 0 = ap (λ (xs : List ℕ). get_or xs g 0) a.sources_are in
    let v = get_or (group_sources net) g 0 in
    let less : v < net.nodes = source-below net g l in
    let p : get_or starts v 0 ≡ length (members_below net.commodities v) = a.begins v (omega arith) in
    let q : get_or starts (v + 1) 0 ≡ length (members_below net.commodities (v + 1)) = a.begins (v + 1) (omega arith) in
    record {
      group = rw a.sources_are l;
      count = a.count;
      source = rw s less;
      start = rw (s, p, q) (below-mono net.commodities v (v + 1) (omega arith));
      end = rw (s, q, a.all) (below-mono net.commodities (v + 1) net.nodes (omega arith));
      value = rw (s, p, q, a.all) (below-range net.commodities net.nodes v less ∙ members-are net g l);
    }

range-more : (a n : ℕ) → range_with_len a (n + 1) ≡ range_with_len a n ++ (a + n) ∷ []
range-more a zero = rw (add-zero a) refl
range-more a (suc n) =
    let e : a + 1 + n ≡ a + suc n = omega arith in
    let one : n + 1 ≡ suc n = add-one n in
    let r : range_with_len (a + 1) (suc n) ≡ range_with_len (a + 1) n ++ (a + suc n) ∷ [] =
    subst (λ (k : ℕ). range_with_len (a + 1) (suc n) ≡ range_with_len (a + 1) n ++ k ∷ []) e
    (subst (λ (k : ℕ). range_with_len (a + 1) k ≡ range_with_len (a + 1) n ++ (a + 1 + n) ∷ []) one (range-more (a + 1) n)) in
    rw (add-one (suc n), r) refl

pub sources-more : (test : ℕ → Bool) (v : ℕ) → filter test (range_with_len 0 (v + 1)) ≡ filter test (range_with_len 0 v) ++ cond (test v) (v ∷ []) []
sources-more test v = rw (range-more 0 v, zero-add v) (filter-append test (range_with_len 0 v) (v ∷ []))

-- one commodity more is linked
pub link-first : (cs : List Commodity) (first : List ℕ) (i k f : ℕ) → k ≡ i + 1 → i < length cs → from_at cs i ≡ f → f < length first
    → ((v : ℕ) → v < length first → get_or first v 0 ≡ first_from (drop k cs) k v) → (v : ℕ) → v < length (set first f i) → get_or (set first f i) v 0 ≡ first_from (drop i cs) i v
link-first cs first i k f e l at inside is v less =
    let less' : v < length first = omega (arith, length-set first f i) in
    elim (cases_eq v f) [
      | inl p ↦ rw (get_or-set_at first f v i 0 p inside) (sym (first-at cs i v l (at ∙ sym p)))
      | inr n ↦ rw (get_or-set_other first f v i 0 n, is v less', e) (sym (first-past cs i v l (λ z. n (sym z ∙ at))))
    ]

pub link-next : (cs : List Commodity) (first next : List ℕ) (i k f : ℕ) → k ≡ i + 1 → i < length cs → length next ≡ length cs → from_at cs i ≡ f → f < length first
    → ((v : ℕ) → v < length first → get_or first v 0 ≡ first_from (drop k cs) k v)
    → ((j : ℕ) → k ≤ j → j < length cs → get_or next j 0 ≡ first_from (drop (j + 1) cs) (j + 1) (from_at cs j))
    → (j : ℕ) → i ≤ j → j < length cs → get_or (set next i (get_or first f 0)) j 0 ≡ first_from (drop (j + 1) cs) (j + 1) (from_at cs j)
link-next cs first next i k f e l nexts at inside is before j low less =
    elim (cases_eq j i) [
      | inl p ↦ rw (get_or-set_at next i j (get_or first f 0) 0 p (omega arith), p, at, is f inside, e) refl
      | inr n ↦ rw (get_or-set_other next i j (get_or first f 0) 0 n) (before j (omega arith) less)
    ]

pub facts-at : (net seen : Network) (sources sources' starts starts' members members' : List ℕ) (g : ℕ) → AreGroups net sources starts members → net ≡ seen → g < group_count seen
    → sources' ≡ sources → starts' ≡ starts → members' ≡ members → FoundMembers seen sources' starts' members' g
facts-at net seen sources sources' starts starts' members members' g a n l e f h =
    let a' : AreGroups seen sources starts members = subst (λ (m : Network). AreGroups m sources starts members) n a in
    rw (e, f, h) (found-members seen sources starts members g a' l)

pick-le : (b : Bool) (x : ℕ) (xs : List ℕ) (n : ℕ) → length xs ≤ n → length (cond b (x ∷ xs) xs) ≤ suc n
pick-le true x xs n l = omega arith
pick-le false x xs n l = omega arith

filter-le : (test : ℕ → Bool) (xs : List ℕ) → length (filter test xs) ≤ length xs
filter-le test [] = omega arith
filter-le test (x ∷ xs) = pick-le (test x) x (filter test xs) (length xs) (filter-le test xs)

pub record Counted (net : Network) (sources : List ℕ) : Type 0 where
  pub count : length sources ≡ group_count net
  pub few : length sources ≤ MAX_NODES

pub counted : (net seen : Network) (sources starts members : List ℕ) → AreGroups net sources starts members → net ≡ seen → Counted seen sources
unfolding group_count
counted net seen sources starts members a n =
    let few : length (group_sources net) ≤ net.nodes = omega (arith, filter-le (is_source net.commodities) (range_with_len 0 net.nodes), length-range_with_len 0 net.nodes) in
    subst (λ (m : Network). Counted m sources) n (record { count = ap length a.sources_are; few = rw a.sources_are (omega (arith, a.net_is.nodes)) })

pub source-facts : (net seen : Network) (sources sources' starts members : List ℕ) (g : ℕ) → AreGroups net sources starts members → net ≡ seen → sources' ≡ sources → g < group_count seen
    → (g < length sources') × (get_or sources' g 0 ≡ get_or (group_sources seen) g 0)
unfolding group_count
source-facts net seen sources sources' starts members g a n e l =
    let s : sources' ≡ group_sources seen = e ∙ (a.sources_are ∙ ap group_sources n) in
    (rw s l, ap (λ (xs : List ℕ). get_or xs g 0) s)
