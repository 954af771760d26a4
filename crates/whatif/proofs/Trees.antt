-- The tree: a node that is played, and the root.
use Rattle.std.proofs.Common.{◌≡◌, ◌≢◌, ℕ, zero, suc, ◌+◌, ◌-◌, ◌*◌, ◌/◌, ◌<◌, ◌≤◌, List, length, drop, inl, inr, sym, ap, subst, ◌∙◌, arith, refl}
use Rattle.std.proofs.Math.Nat.{mul-le-mul_left}
use Rattle.std.proofs.lemmas.Bool.{cases_lt}
use Rattle.std.proofs.lemmas.Bool.Decides.{eqb_tells}
use Rattle.std.proofs.lemmas.List.{get_or-set_other, get_or-drop, length-drop, length-set, drop-set-lt}
use Rattle.whatif.specs.declared.ratio.Ratio.{Ratio}
use Rattle.whatif.specs.Ratios.{IsRatio, Precedes}
use Rattle.whatif.specs.Tournament.{no_ratio, node, IsWinner, IsWon, IsTournament, IsPlayed, IsFirstLeast}

-- ---- nodes that are played

kept : (old new : List Ratio) (i j : ℕ) → IsPlayed old new i → j ≢ i → node new j ≡ node old j
kept old new i j p ne = ap (λ (l : List Ratio). node l j) p.same ∙ get_or-set_other old i j (node new i) no_ratio ne

winner_same : (r x y r' x' y' : Ratio) → r' ≡ r → x' ≡ x → y' ≡ y → IsWinner r x y → IsWinner r' x' y'
winner_same r x y r' x' y' e f g w = subst (λ (z : Ratio). IsWinner z x' y') (sym e) (subst (λ (z : Ratio). IsWinner r z y') (sym f) (subst (λ (z : Ratio). IsWinner r x z) (sym g) w))

won_other : (old new : List Ratio) (i j : ℕ) → IsPlayed old new i → j ≢ i → 2 * j ≢ i → 2 * j + 1 ≢ i → IsWon old j → IsWon new j
won_other old new i j p here left right w =
    winner_same (node old j) (node old (2 * j)) (node old (2 * j + 1)) (node new j) (node new (2 * j)) (node new (2 * j + 1))
    (kept old new i j p here) (kept old new i (2 * j) p left) (kept old new i (2 * j + 1) p right) w

won_here : (old new : List Ratio) (i : ℕ) → 1 ≤ i → IsPlayed old new i → IsWon new i
won_here old new i low p =
    winner_same (node new i) (node old (2 * i)) (node old (2 * i + 1)) (node new i) (node new (2 * i)) (node new (2 * i + 1))
    refl (kept old new i (2 * i) p (λ e. absurd (omega arith))) (kept old new i (2 * i + 1) p (λ e. absurd (omega arith))) p.won

won_at : (old new : List Ratio) (i j : ℕ) → 1 ≤ i → IsPlayed old new i → i ≡ j → IsWon new j
won_at old new i j low p e = subst (IsWon new) e (won_here old new i low p)

pub leaves_kept : (old new : List Ratio) (leaves i : ℕ) → i < leaves → IsPlayed old new i → drop leaves new ≡ drop leaves old
leaves_kept old new leaves i lt p = ap (drop leaves) p.same ∙ drop-set-lt leaves old i (node new i) lt

pub count_kept : (old new : List Ratio) (i : ℕ) → IsPlayed old new i → length new ≡ length old
count_kept old new i p = ap length p.same ∙ length-set old i (node new i)

-- from the last node to the first
pub settle_won : (leaves k : ℕ) (old new : List Ratio) → 1 ≤ k → k < leaves → IsPlayed old new (leaves - k) → ((i : ℕ) → 1 ≤ i → i < leaves → leaves < i + k → IsWon old i)
    → (i : ℕ) → 1 ≤ i → i < leaves → leaves < i + (k + 1) → IsWon new i
settle_won leaves k old new low high p h i a b c = elim (eqb_tells i (leaves - k)) as (λ _. IsWon new i) [
  | inl e ↦ won_at old new (leaves - k) i (omega arith) p (sym e.1)
  | inr e ↦ won_other old new (leaves - k) i p e.1 (λ x. absurd (omega arith)) (λ x. absurd (omega arith)) (h i a b (beyond i e.1 c))
]
  where
    beyond : (i : ℕ) → i ≢ leaves - k → leaves < i + (k + 1) → leaves < i + k
    beyond i ne lt = omega arith

-- from a leaf up to the root
pub mend_won : (leaves at : ℕ) (old new : List Ratio) → 1 < at → at < 2 * leaves → IsPlayed old new (at / 2) → ((i : ℕ) → 1 ≤ i → i < leaves → 2 * i ≢ at → 2 * i + 1 ≢ at → IsWon old i)
    → (i : ℕ) → 1 ≤ i → i < leaves → 2 * i ≢ at / 2 → 2 * i + 1 ≢ at / 2 → IsWon new i
mend_won leaves at old new low high p h i a b left right = elim (eqb_tells i (at / 2)) as (λ _. IsWon new i) [
  | inl e ↦ won_at old new (at / 2) i (omega arith) p (sym e.1)
  | inr e ↦ won_other old new (at / 2) i p e.1 left right (h i a b (even i e.1) (odd i e.1))
]
  where
    even : (i : ℕ) → i ≢ at / 2 → 2 * i ≢ at
    even i ne = omega arith

    odd : (i : ℕ) → i ≢ at / 2 → 2 * i + 1 ≢ at
    odd i ne = omega arith

-- ---- the order of ratios

-- a / b is at most c / d, and that at most e / f; where d is 0, c is not
pub le_trans : (a b c d e f : ℕ) → (d ≡ 0 → 1 ≤ c) → a * d ≤ c * b → c * f ≤ e * d → a * f ≤ e * b
le_trans a b c zero e f some x y = rw (nothing f (some refl) y) (omega arith)
  where
    nothing : (f : ℕ) → 1 ≤ c → c * f ≤ e * 0 → f ≡ 0
    nothing f low le = omega (arith, mul-le-mul_left f low)
le_trans a b c (suc d) e f some x y = elim (cases_lt (e * b) (a * f)) as (λ _. a * f ≤ e * b) [
  | inl lt ↦
      let p : f * (a * suc d) ≤ f * (c * b) = mul-le-mul_left f x in
      let q : b * (c * f) ≤ b * (e * suc d) = mul-le-mul_left b y in
      let r : suc d * (e * b + 1) ≤ suc d * (a * f) = mul-le-mul_left (suc d) (up lt) in
      absurd (omega arith)
  | inr le ↦ le
]
  where
    up : {m n : ℕ} → m < n → m + 1 ≤ n
    up lt = omega arith

same_precedes : (x : Ratio) → Precedes x x
same_precedes x = record { value = omega arith; first = λ _. omega arith }

pub precedes_trans : (x y z : Ratio) → IsRatio x → IsRatio y → IsRatio z → Precedes x y → Precedes y z → Precedes x z
precedes_trans x y z rx ry rz p q = record {
  value = le_trans x.cap x.load y.cap y.load z.cap z.load ry.some p.value q.value;
  first = λ back.
      let xy : y.cap * x.load ≤ x.cap * y.load = le_trans y.cap y.load z.cap z.load x.cap x.load rz.some q.value back in
      let yz : z.cap * y.load ≤ y.cap * z.load = le_trans z.cap z.load x.cap x.load y.cap y.load rx.some back p.value in
      omega (arith, p.first xy, q.first yz);
}

-- ---- the root

ratio_at : (leaves : ℕ) (nodes : List Ratio) → IsTournament leaves nodes → (i : ℕ) → i < 2 * leaves → IsRatio (node nodes i)
ratio_at leaves nodes t i lt = t.ratios i no_ratio (omega (arith, t.count))

below : (leaves : ℕ) (nodes : List Ratio) (j : ℕ) → IsTournament leaves nodes → 2 ≤ j → j < 2 * leaves → Precedes (node nodes (j / 2)) (node nodes j)
below leaves nodes j t low high =
    let w = t.won (j / 2) (omega arith) (omega arith) in
    elim (eqb_tells j (2 * (j / 2))) as (λ _. Precedes (node nodes (j / 2)) (node nodes j)) [
      | inl e ↦ subst (λ (i : ℕ). Precedes (node nodes (j / 2)) (node nodes i)) (sym e.1) w.left
      | inr e ↦ subst (λ (i : ℕ). Precedes (node nodes (j / 2)) (node nodes i)) (odd e.1) w.right
    ]
  where
    odd : j ≢ 2 * (j / 2) → 2 * (j / 2) + 1 ≡ j
    odd ne = omega arith

root_before : (leaves : ℕ) (nodes : List Ratio) → IsTournament leaves nodes → (fuel j : ℕ) → j ≤ fuel → 1 ≤ j → j < 2 * leaves → Precedes (node nodes 1) (node nodes j)
root_before leaves nodes t zero j le low high = absurd (omega arith)
root_before leaves nodes t (suc fuel) j le low high = elim (cases_lt 1 j) as (λ _. Precedes (node nodes 1) (node nodes j)) [
  | inl lt ↦
      let up = root_before leaves nodes t fuel (j / 2) (omega arith) (omega arith) (omega arith) in
      precedes_trans (node nodes 1) (node nodes (j / 2)) (node nodes j) (ratio_at leaves nodes t 1 (omega arith)) (ratio_at leaves nodes t (j / 2) (omega arith)) (ratio_at leaves nodes t j high)
      up (below leaves nodes j t (omega arith) high)
  | inr ge ↦ let one : 1 ≡ j = omega arith in subst (λ (i : ℕ). Precedes (node nodes 1) (node nodes i)) one (same_precedes (node nodes 1))
]

-- the leaf that has won a node
record IsLeafOf (leaves : ℕ) (nodes : List Ratio) (i : ℕ) : Type 0 where
  place : ℕ
  low : leaves ≤ place
  high : place < 2 * leaves
  same : node nodes place ≡ node nodes i

leaf_as : (leaves : ℕ) (nodes : List Ratio) (i j : ℕ) → node nodes j ≡ node nodes i → IsLeafOf leaves nodes i → IsLeafOf leaves nodes j
leaf_as leaves nodes i j e l = record { place = l.place; low = l.low; high = l.high; same = l.same ∙ sym e }

leaf_of : (leaves : ℕ) (nodes : List Ratio) → IsTournament leaves nodes → (fuel i : ℕ) → 2 * leaves ≤ i + fuel → 1 ≤ i → i < 2 * leaves → IsLeafOf leaves nodes i
leaf_of leaves nodes t zero i le low high = absurd (omega arith)
leaf_of leaves nodes t (suc fuel) i le low high = elim (cases_lt i leaves) as (λ _. IsLeafOf leaves nodes i) [
  | inl lt ↦ elim (t.won i low lt).one as (λ _. IsLeafOf leaves nodes i) [
    | inl e ↦ leaf_as leaves nodes (2 * i) i e (leaf_of leaves nodes t fuel (2 * i) (omega arith) (omega arith) (omega arith))
    | inr e ↦ leaf_as leaves nodes (2 * i + 1) i e (leaf_of leaves nodes t fuel (2 * i + 1) (omega arith) (omega arith) (omega arith))
  ]
  | inr ge ↦ record { place = i; low = ge; high = high; same = refl }
]

pub root_least : (leaves : ℕ) (nodes : List Ratio) → IsTournament leaves nodes → 0 < length (drop leaves nodes) → IsFirstLeast (drop leaves nodes) (node nodes 1)
root_least leaves nodes t some =
    let size : length (drop leaves nodes) ≡ leaves = length-drop leaves nodes ∙ omega (arith, t.count) in
    let l = leaf_of leaves nodes t (2 * leaves) 1 (omega arith) (omega arith) (omega arith) in
    let low = l.low in
    let high = l.high in
    record {
      place = l.place - leaves;
      within = omega arith;
      here = get_or-drop leaves nodes (l.place - leaves) no_ratio ∙ (ap (node nodes) (again leaves l.place low) ∙ l.same);
      before = λ d lt. subst (Precedes (node nodes 1)) (sym (get_or-drop leaves nodes d no_ratio)) (root_before leaves nodes t (leaves + d) (leaves + d) (omega arith) (omega arith) (omega arith));
    }
  where
    again : (m n : ℕ) → m ≤ n → m + (n - m) ≡ n
    again m n le = omega arith
