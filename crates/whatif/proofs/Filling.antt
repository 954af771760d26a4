-- The fullest cell, and the ratios of cells.
use Rattle.std.proofs.Common.{◌≡◌, ◌≢◌, ◌⊎◌, ℕ, zero, suc, ◌+◌, ◌*◌, ◌<◌, ◌≤◌, Bool, true, false, cond, eqb, List, [], ◌∷◌, ◌++◌, length, take, get_or, inl, inr, sym, ap, subst, ◌∙◌, arith, refl, add-one}
use Rattle.std.specs.Prelude.{nat_le}
use Rattle.std.proofs.lemmas.Bool.{cases_lt}
use Rattle.std.proofs.Math.Nat.{mul-le-mul_left}
use Rattle.std.proofs.lemmas.Bool.Decides.{eqb_tells, nat_tests}
use Rattle.flow_model.specs.declared.net.Cell.{Cell}
use Rattle.flow_paths.specs.Evaluation.{fill, fraction_le}
use Rattle.gap_fraction.specs.Fraction.{Fraction}
use Rattle.whatif.specs.declared.ratio.Ratio.{Ratio}
use Rattle.whatif.specs.Ratios.{ratio_of, ratios, Precedes}
use Rattle.whatif.specs.Tournament.{node, IsFirstLeast}
use Rattle.whatif.proofs.Trees.{le_trans}

-- ---- ratios of cells

pub ratios-length : (n : ℕ) (cells : List Cell) (loads : List ℕ) → length loads ≡ length cells → length (ratios n cells loads) ≡ length cells
ratios-length n [] loads e = refl
ratios-length n (x ∷ xs) [] e = absurd (omega arith)
ratios-length n (x ∷ xs) (l ∷ ls) e = ap suc (ratios-length (n + 1) xs ls (omega arith))

cell_is : (cap load n : ℕ) → (ratio_of cap load n).cell ≡ n
cell_is cap load n = elim (eqb_tells load 0) as (λ _. (ratio_of cap load n).cell ≡ n) [ inl p ↦ rw p.0 refl | inr p ↦ rw p.0 refl ]

load_is : (cap load n : ℕ) → (ratio_of cap load n).load ≡ load
load_is cap load n = elim (eqb_tells load 0) as (λ _. (ratio_of cap load n).load ≡ load) [ inl p ↦ rw p.0 (sym p.1) | inr p ↦ rw p.0 refl ]

cap_is : (cap load n : ℕ) → load ≢ 0 → (ratio_of cap load n).cap ≡ cap
cap_is cap load n ne = elim (eqb_tells load 0) as (λ _. (ratio_of cap load n).cap ≡ cap) [ inl p ↦ absurd (ne p.1) | inr p ↦ rw p.0 refl ]

pub ratios-cell : (n : ℕ) (cells : List Cell) (loads : List ℕ) (d : ℕ) → length loads ≡ length cells → d < length cells → (node (ratios n cells loads) d).cell ≡ n + d
ratios-cell n [] loads d e lt = absurd (omega arith)
ratios-cell n (x ∷ xs) [] d e lt = absurd (omega arith)
ratios-cell n (x ∷ xs) (l ∷ ls) zero e lt = cell_is x.cap l n ∙ omega arith
ratios-cell n (x ∷ xs) (l ∷ ls) (suc d) e lt = ratios-cell (n + 1) xs ls d (omega arith) (omega arith) ∙ omega arith

pub ratios-load : (n : ℕ) (cells : List Cell) (loads : List ℕ) (d : ℕ) → length loads ≡ length cells → d < length cells → (node (ratios n cells loads) d).load ≡ get_or loads d 0
ratios-load n [] loads d e lt = absurd (omega arith)
ratios-load n (x ∷ xs) [] d e lt = absurd (omega arith)
ratios-load n (x ∷ xs) (l ∷ ls) zero e lt = load_is x.cap l n
ratios-load n (x ∷ xs) (l ∷ ls) (suc d) e lt = ratios-load (n + 1) xs ls d (omega arith) (omega arith)

-- one cell more
more_at : (n : ℕ) (cells : List Cell) (loads : List ℕ) (i : ℕ) (d : Cell) → i < length cells → i < length loads → ratios n (take (suc i) cells) loads ≡ ratios n (take i cells) loads ++ ratio_of (get_or cells i d).cap (get_or loads i 0) (n + i) ∷ []
more_at n [] loads i d lt lt' = absurd (omega arith)
more_at n (x ∷ xs) [] i d lt lt' = absurd (omega arith)
more_at n (x ∷ xs) (l ∷ ls) zero d lt lt' = ap (λ k. ratio_of x.cap l k ∷ []) (plus n)
  where
    plus : (n : ℕ) → n ≡ n + 0
    plus n = omega arith
more_at n (x ∷ xs) (l ∷ ls) (suc i) d lt lt' =
    ap (λ (rs : List Ratio). ratio_of x.cap l n ∷ rs) (more_at (n + 1) xs ls i d (omega arith) (omega arith) ∙ ap (λ k. ratios (n + 1) (take i xs) ls ++ ratio_of (get_or xs i d).cap (get_or ls i 0) k ∷ []) (plus n i))
  where
    plus : (n i : ℕ) → n + 1 + i ≡ n + suc i
    plus n i = omega arith

pub ratios-more : (cells : List Cell) (loads : List ℕ) (i : ℕ) (d : Cell) → i < length cells → i < length loads → ratios 0 (take (i + 1) cells) loads ≡ ratios 0 (take i cells) loads ++ ratio_of (get_or cells i d).cap (get_or loads i 0) i ∷ []
ratios-more cells loads i d lt lt' = rw add-one (more_at 0 cells loads i d lt lt' ∙ ap (λ k. ratios 0 (take i cells) loads ++ ratio_of (get_or cells i d).cap (get_or loads i 0) k ∷ []) (none i))
  where
    none : (i : ℕ) → 0 + i ≡ i
    none i = omega arith

-- ---- the first of least value

abbrev value : Ratio → Fraction
value x = record { num = x.cap; den = x.load }

abbrev infinite : Fraction
infinite = record { num = 1; den = 0 }

-- `fill` over ratios
abbrev least : List Ratio → Fraction
least [] = infinite
least (x ∷ xs) = cond (eqb x.load 0) (least xs) (cond (fraction_le (value x) (least xs)) (value x) (least xs))

fill_is : (n : ℕ) (cells : List Cell) (loads : List ℕ) → length loads ≡ length cells → fill cells loads ≡ least (ratios n cells loads)
fill_is n [] loads e = refl
fill_is n (x ∷ xs) [] e = absurd (omega arith)
fill_is n (x ∷ xs) (l ∷ ls) e =
    let rest = fill_is (n + 1) xs ls (omega arith) in
    elim (eqb_tells l 0) as (λ _. fill (x ∷ xs) (l ∷ ls) ≡ least (ratios n (x ∷ xs) (l ∷ ls))) [
      | inl p ↦ rw p.0 rest
      | inr p ↦ rw (p.0, p.0, rest) refl
    ]

-- what is least is 1/0, or the value of a ratio with a load
abbrev IsOne : List Ratio → Fraction → Type 0
IsOne xs f = (f ≡ infinite) ⊎ ((d : ℕ) × (d < length xs) × ((node xs d).load ≢ 0) × (f ≡ value (node xs d)))

one_later : (x : Ratio) (xs : List Ratio) (f : Fraction) → IsOne xs f → IsOne (x ∷ xs) f
one_later x xs f (inl e) = inl e
one_later x xs f (inr (d, lt, some, e)) = inr (suc d, omega arith, some, e)

least_one : (xs : List Ratio) → IsOne xs (least xs)
least_one [] = inl refl
least_one (x ∷ xs) =
    let rest = one_later x xs (least xs) (least_one xs) in
    elim (eqb_tells x.load 0) as (λ _. IsOne (x ∷ xs) (least (x ∷ xs))) [
      | inl p ↦ rw p.0 rest
      | inr p ↦ rw p.0 (chosen p.1 rest (fraction_le (value x) (least xs)))
    ]
  where
    chosen : x.load ≢ 0 → IsOne (x ∷ xs) (least xs) → (b : Bool) → IsOne (x ∷ xs) (cond b (value x) (least xs))
    chosen some rest true = inr (0, omega arith, some, refl)
    chosen some rest false = rest

le_true : (a b : ℕ) → a ≤ b → nat_le a b ≡ true
le_true a b h = grind (arith, nat_tests)

le_false : (a b : ℕ) → b < a → nat_le a b ≡ false
le_false a b h = grind (arith, nat_tests)

first_is : (x : Ratio) (xs : List Ratio) → IsOne xs (least xs) → ((d : ℕ) → d < length xs → (node xs d).load ≢ 0 → x.cap * (node xs d).load ≤ (node xs d).cap * x.load) → fraction_le (value x) (least xs) ≡ true
first_is x xs one h = elim one as (λ _. fraction_le (value x) (least xs) ≡ true) [
  | inl e ↦ rw e (le_true (x.cap * 0) (1 * x.load) (omega arith))
  | inr (d, lt, some, e) ↦ rw e (le_true (x.cap * (node xs d).load) ((node xs d).cap * x.load) (h d lt some))
]

-- the ratio at a place is least where none is less, and none before it is as little
least_at : (xs : List Ratio) (p : ℕ) → p < length xs → (node xs p).load ≢ 0
    → ((d : ℕ) → d < length xs → (node xs d).load ≢ 0 → (node xs p).cap * (node xs d).load ≤ (node xs d).cap * (node xs p).load)
    → ((d : ℕ) → d < p → (node xs d).load ≢ 0 → (node xs p).cap * (node xs d).load < (node xs d).cap * (node xs p).load)
    → least xs ≡ value (node xs p)
least_at [] p lt some le before = absurd (omega arith)
least_at (x ∷ xs) zero lt some le before =
    let e = first_is x xs (least_one xs) (λ d lt' some'. le (suc d) (omega arith) some') in
    elim (eqb_tells x.load 0) as (λ _. least (x ∷ xs) ≡ value x) [ inl p ↦ absurd (some p.1) | inr p ↦ rw (p.0, e) refl ]
least_at (x ∷ xs) (suc p) lt some le before =
    let rest = least_at xs p (omega arith) some (λ d lt' some'. le (suc d) (omega arith) some') (λ d lt' some'. before (suc d) (omega arith) some') in
    elim (eqb_tells x.load 0) as (λ _. least (x ∷ xs) ≡ value (node xs p)) [
      | inl q ↦ rw q.0 rest
      | inr q ↦
          let n = le_false (x.cap * (node xs p).load) ((node xs p).cap * x.load) (before 0 (omega arith) q.1) in
          rw (q.0, rest, n) refl
    ]

-- the first ratio of least value is what `fill` gives, where it has a load
pub top_fills : (cells : List Cell) (loads : List ℕ) (r : Ratio) → length loads ≡ length cells → IsFirstLeast (ratios 0 cells loads) r → r.load ≢ 0 → fill cells loads ≡ record { num = r.cap; den = r.load }
top_fills cells loads r e first some =
    let xs = ratios 0 cells loads in
    let size = ratios-length 0 cells loads e in
    let p = first.place in
    let here = first.here in
    let within = first.within in
    let loaded : (node xs p).load ≢ 0 = subst (λ (x : Ratio). x.load ≢ 0) (sym here) some in
    let precedes : (d : ℕ) → d < length xs → Precedes (node xs p) (node xs d) = λ d lt. subst (λ (x : Ratio). Precedes x (node xs d)) (sym here) (first.before d lt) in
    fill_is 0 cells loads e ∙ (least_at xs p within loaded (λ d lt some'. (precedes d lt).value) (λ d lt some'. strict xs p d (precedes d (omega arith)) (places e size p within) (places e size d (omega arith)) lt) ∙ ap value here)
  where
    places : length loads ≡ length cells → length (ratios 0 cells loads) ≡ length cells → (d : ℕ) → d < length (ratios 0 cells loads) → (node (ratios 0 cells loads) d).cell ≡ d
    places e size d lt = ratios-cell 0 cells loads d e (omega arith) ∙ omega arith

    strict : (xs : List Ratio) (p d : ℕ) → Precedes (node xs p) (node xs d) → (node xs p).cell ≡ p → (node xs d).cell ≡ d → d < p → (node xs p).cap * (node xs d).load < (node xs d).cap * (node xs p).load
    strict xs p d q at_p at_d lt = elim (cases_lt ((node xs p).cap * (node xs d).load) ((node xs d).cap * (node xs p).load)) as (λ _. (node xs p).cap * (node xs d).load < (node xs d).cap * (node xs p).load) [
      | inl less ↦ less
      | inr ge ↦ absurd (late (q.first ge))
    ]
      where
        late : (node xs p).cell ≤ (node xs d).cell → ⊥
        late le = omega arith

-- ---- `fill` is below every cell

fill_some : (cells : List Cell) (loads : List ℕ) → (fill cells loads).den ≡ 0 → 1 ≤ (fill cells loads).num
fill_some [] loads e = omega arith
fill_some (x ∷ xs) [] e = omega arith
fill_some (x ∷ xs) (l ∷ ls) e = whole (eqb_tells l 0) (fill_some xs ls) e
  where
    chosen : l ≢ 0 → (b : Bool) → ((fill xs ls).den ≡ 0 → 1 ≤ (fill xs ls).num) → (cond {A = Fraction} b (record { num = x.cap; den = l }) (fill xs ls)).den ≡ 0 → 1 ≤ (cond {A = Fraction} b (record { num = x.cap; den = l }) (fill xs ls)).num
    chosen some true rest z = absurd (some z)
    chosen some false rest z = rest z

    whole : ((eqb l 0 ≡ true) × (l ≡ 0)) ⊎ ((eqb l 0 ≡ false) × (l ≢ 0)) → ((fill xs ls).den ≡ 0 → 1 ≤ (fill xs ls).num) → (fill (x ∷ xs) (l ∷ ls)).den ≡ 0 → 1 ≤ (fill (x ∷ xs) (l ∷ ls)).num
    whole (inl p) rest = rw p.0 rest
    whole (inr p) rest = rw p.0 (chosen p.1 (fraction_le (record { num = x.cap; den = l }) (fill xs ls)) rest)

abbrev pub cap_at : List Cell → ℕ → ℕ
cap_at cells c = (get_or cells c (record { tail = 0; head = 0; both = false; cap = 0 })).cap

le_from : (a b : ℕ) → nat_le a b ≡ true → a ≤ b
le_from a b e = grind (arith, nat_tests)

gt_from : (a b : ℕ) → nat_le a b ≡ false → b ≤ a
gt_from a b e = grind (arith, nat_tests)

abbrev Below : List Cell → List ℕ → Fraction → ℕ → Type 0
Below cells loads f c = f.num * get_or loads c 0 ≤ cap_at cells c * f.den

pub fill_below : (cells : List Cell) (loads : List ℕ) (c : ℕ) → c < length cells → c < length loads → Below cells loads (fill cells loads) c
fill_below [] loads c lt lt' = absurd (omega arith)
fill_below (x ∷ xs) [] c lt lt' = absurd (omega arith)
fill_below (x ∷ xs) (l ∷ ls) c lt lt' = whole (eqb_tells l 0) (λ d p q. fill_below xs ls d p q) c lt lt'
  where
    without : l ≡ 0 → ((d : ℕ) → d < length xs → d < length ls → Below xs ls (fill xs ls) d) → (c : ℕ) → c < length (x ∷ xs) → c < length (l ∷ ls) → Below (x ∷ xs) (l ∷ ls) (fill xs ls) c
    without z rest zero lt lt' = rw z (omega arith)
    without z rest (suc c) lt lt' = rest c (omega arith) (omega arith)

    chosen : (b : Bool) → fraction_le (record { num = x.cap; den = l }) (fill xs ls) ≡ b → ((d : ℕ) → d < length xs → d < length ls → Below xs ls (fill xs ls) d) → (c : ℕ) → c < length (x ∷ xs) → c < length (l ∷ ls)
        → Below (x ∷ xs) (l ∷ ls) (cond b (record { num = x.cap; den = l }) (fill xs ls)) c
    chosen true e rest zero lt lt' = omega arith
    chosen true e rest (suc c) lt lt' =
        le_trans x.cap l (fill xs ls).num (fill xs ls).den (cap_at xs c) (get_or ls c 0) (fill_some xs ls) (le_from (x.cap * (fill xs ls).den) ((fill xs ls).num * l) e) (rest c (omega arith) (omega arith))
    chosen false e rest zero lt lt' = gt_from (x.cap * (fill xs ls).den) ((fill xs ls).num * l) e
    chosen false e rest (suc c) lt lt' = rest c (omega arith) (omega arith)

    whole : ((eqb l 0 ≡ true) × (l ≡ 0)) ⊎ ((eqb l 0 ≡ false) × (l ≢ 0)) → ((d : ℕ) → d < length xs → d < length ls → Below xs ls (fill xs ls) d) → (c : ℕ) → c < length (x ∷ xs) → c < length (l ∷ ls)
        → Below (x ∷ xs) (l ∷ ls) (fill (x ∷ xs) (l ∷ ls)) c
    whole (inl p) rest = rw p.0 (without p.1 rest)
    whole (inr p) rest = rw p.0 (chosen (fraction_le (record { num = x.cap; den = l }) (fill xs ls)) refl rest)

-- a cell with a load gives it a load
pub fill_positive : (cells : List Cell) (loads : List ℕ) (c : ℕ) → c < length cells → c < length loads → get_or loads c 0 ≢ 0 → 1 ≤ (fill cells loads).den
fill_positive cells loads c lt lt' some = elim (cases_lt 0 (fill cells loads).den) as (λ _. 1 ≤ (fill cells loads).den) [
  | inl h ↦ h
  | inr h ↦ absurd (never (zero_of h) (fill_some cells loads (zero_of h)) (fill_below cells loads c lt lt'))
]
  where
    zero_of : {n : ℕ} → n ≤ 0 → n ≡ 0
    zero_of le = omega arith

    never : (fill cells loads).den ≡ 0 → 1 ≤ (fill cells loads).num → (fill cells loads).num * get_or loads c 0 ≤ cap_at cells c * (fill cells loads).den → ⊥
    never z one le =
        let q : (fill cells loads).num * get_or loads c 0 ≤ cap_at cells c * 0 = subst (λ (n : ℕ). (fill cells loads).num * get_or loads c 0 ≤ cap_at cells c * n) z le in
        let m : get_or loads c 0 * 1 ≤ get_or loads c 0 * (fill cells loads).num = mul-le-mul_left (get_or loads c 0) one in
        some (omega arith)
