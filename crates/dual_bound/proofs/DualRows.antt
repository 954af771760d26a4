-- What rows of a dual say: a length for each cell, a row for each source.
use Rattle.std.proofs.Common.{◌≡◌, ◌≢◌, inl, inr, ℕ, zero, suc, ◌+◌, ◌<◌, ◌≤◌, List, [], ◌∷◌, Bool, true, false, cond, eqb, length, get_or, map, Some, refl, sym, ap, subst, ◌∙◌, arith}
use Rattle.std.specs.Prelude.{All, count_by, find}
use Rattle.std.specs.List.{filter, range_with_len}
use Rattle.std.proofs.lemmas.List.Sums.{sum_by-cons}
use Rattle.std.proofs.lemmas.List.FromFn.{fill_by_all}
use Rattle.std.proofs.lemmas.Bool.{cases_eq, eq-eqb, ne_eqb}
use Rattle.flow_model.specs.Network.{Network}
use Rattle.flow_model.specs.Groups.{is_source, group_sources}
use Rattle.flow_paths.specs.DualRows.{Length, Potential, DualRows}
use Rattle.flow_paths.specs.Certificate.{CellsHaveLengths, length_of, lengths_in}
use Rattle.dual_bound.specs.Bounds.{length_rows}

-- how often the number is among these
abbrev hits : ℕ → List ℕ → ℕ
hits v xs = count_by (λ n. eqb n v) xs

cond-none : (b : Bool) → cond {A = ℕ} b 0 0 ≡ 0
cond-none true = refl
cond-none false = refl

hits-keep : (b : Bool) (a v : ℕ) (xs : List ℕ) → hits v (cond b (a ∷ xs) xs) ≡ cond b (cond (eqb a v) 1 0) 0 + hits v xs
hits-keep true a v xs = sum_by-cons (λ n. cond (eqb n v) 1 0) a xs
hits-keep false a v xs = omega arith

hits-below : (p : ℕ → Bool) (a n v : ℕ) → v < a → hits v (filter p (range_with_len a n)) ≡ 0
hits-below p a zero v l = refl
hits-below p a (suc n) v l =
    let test : eqb a v ≡ false = ne_eqb a v (λ e. absurd (omega arith)) in
    let rest = hits-below p (a + 1) n v (omega arith) in
    hits-keep (p a) a v (filter p (range_with_len (a + 1) n)) ∙ rw test (omega (arith, cond-none (p a), rest))

hits-in : (p : ℕ → Bool) (a n v : ℕ) → a ≤ v → v < a + n → hits v (filter p (range_with_len a n)) ≡ cond (p v) 1 0
hits-in p a zero v l m = absurd (omega arith)
hits-in p a (suc n) v l m = elim (cases_eq a v) [
  | inl e ↦
      let test : eqb a v ≡ true = eq-eqb a v e in
      let rest = hits-below p (a + 1) n v (omega arith) in
      let here : cond {A = ℕ} (p a) 1 0 ≡ cond {A = ℕ} (p v) 1 0 = ap (λ (x : ℕ). cond {A = ℕ} (p x) 1 0) e in
      hits-keep (p a) a v (filter p (range_with_len (a + 1) n)) ∙ rw test (omega (arith, here, rest))
  | inr ne ↦
      let test : eqb a v ≡ false = ne_eqb a v ne in
      let rest = hits-in p (a + 1) n v (omega arith) (omega arith) in
      hits-keep (p a) a v (filter p (range_with_len (a + 1) n)) ∙ rw test (omega (arith, cond-none (p a), rest))
]

count-nodes : (rows : List Potential) (v : ℕ) → count_by (λ r. eqb r.node v) rows ≡ hits v (map (λ (r : Potential). r.node) rows)
count-nodes [] v = refl
count-nodes (r ∷ rows) v =
    sum_by-cons (λ (x : Potential). cond (eqb x.node v) 1 0) r rows ∙ (ap (λ (n : ℕ). cond (eqb r.node v) 1 0 + n) (count-nodes rows v)
    ∙ sym (sum_by-cons (λ (n : ℕ). cond (eqb n v) 1 0) r.node (map (λ (x : Potential). x.node) rows)))

-- each source has its row, and no other node has one
pub source-count : (net : Network) (rows : List Potential) (v : ℕ) → map (λ (r : Potential). r.node) rows ≡ group_sources net → v < net.nodes → count_by (λ r. eqb r.node v) rows ≡ cond (is_source net.commodities v) 1 0
source-count net rows v e l = count-nodes rows v ∙ (ap (hits v) e ∙ hits-in (is_source net.commodities) 0 net.nodes v (omega arith) (omega arith))

-- each number from a on has its row
rows-below : (a c : ℕ) (xs : List ℕ) → c < a → count_by (λ r. eqb r.cell c) (length_rows a xs) ≡ 0
rows-below a c [] l = refl
rows-below a c (x ∷ xs) l =
    let test : eqb a c ≡ false = ne_eqb a c (λ e. absurd (omega arith)) in
    sum_by-cons (λ (r : Length). cond (eqb r.cell c) 1 0) (record { cell = a; value = x }) (length_rows (a + 1) xs) ∙ rw test (omega (arith, rows-below (a + 1) c xs (omega arith)))

rows-in : (a c : ℕ) (xs : List ℕ) → a ≤ c → c < a + length xs → count_by (λ r. eqb r.cell c) (length_rows a xs) ≡ 1
rows-in a c [] l m = absurd (omega arith)
rows-in a c (x ∷ xs) l m = elim (cases_eq a c) [
  | inl e ↦
      let test : eqb a c ≡ true = eq-eqb a c e in
      sum_by-cons (λ (r : Length). cond (eqb r.cell c) 1 0) (record { cell = a; value = x }) (length_rows (a + 1) xs) ∙ rw test (omega (arith, rows-below (a + 1) c xs (omega arith)))
  | inr ne ↦
      let test : eqb a c ≡ false = ne_eqb a c ne in
      sum_by-cons (λ (r : Length). cond (eqb r.cell c) 1 0) (record { cell = a; value = x }) (length_rows (a + 1) xs) ∙ rw test (omega (arith, rows-in (a + 1) c xs (omega arith) (omega arith)))
]

pub cells-have : (net : Network) (lengths : List ℕ) (dual : DualRows) → length lengths ≡ length net.cells → dual.lengths ≡ length_rows 0 lengths → CellsHaveLengths net dual
cells-have net lengths dual e is = record { each = λ c l. ap (count_by (λ r. eqb r.cell c)) is ∙ rows-in 0 c lengths (omega arith) (omega arith) }

-- the row of a cell has its length
length-found : (a k : ℕ) (xs : List ℕ) → k < length xs → length_of (length_rows a xs) (a + k) ≡ get_or xs k 0
length-found a k [] l = absurd (omega arith)
length-found a zero (x ∷ xs) l = let e : a ≡ a + 0 = omega arith in rw (eq-eqb a (a + 0) e) refl
length-found a (suc k) (x ∷ xs) l =
    let apart : a ≢ a + suc k = λ e. absurd (omega arith) in
    let e : a + 1 + k ≡ a + suc k = omega arith in
    rw (ne_eqb a (a + suc k) apart) (subst (λ (n : ℕ). length_of (length_rows (a + 1) xs) n ≡ get_or xs k 0) e (length-found (a + 1) k xs (omega arith)))

pub lengths-found : (net : Network) (lengths : List ℕ) (dual : DualRows) → length lengths ≡ length net.cells → dual.lengths ≡ length_rows 0 lengths → lengths_in net dual ≡ lengths
lengths-found net lengths dual e is = sym (fill_by_all (length_of dual.lengths) lengths (length net.cells) 0 e (λ k l.
    let zeroth : 0 + k ≡ k = omega arith in
    let found : length_of (length_rows 0 lengths) k ≡ get_or lengths k 0 = subst (λ (n : ℕ). length_of (length_rows 0 lengths) n ≡ get_or lengths k 0) zeroth (length-found 0 k lengths (omega arith)) in
    sym (ap (λ (rows : List Length). length_of rows k) is ∙ found)))

All-tail : (P : Potential → Type 0) (r : Potential) (rows : List Potential) → All P (r ∷ rows) → All P rows
All-tail P r rows h = λ k d l. h (suc k) d (omega arith)

count-rest : (r : Potential) (rows : List Potential) (v : ℕ) → eqb r.node v ≡ false → count_by (λ x. eqb x.node v) (r ∷ rows) ≡ 1 → count_by (λ x. eqb x.node v) rows ≡ 1
count-rest r rows v test e =
    let split = sum_by-cons (λ (x : Potential). cond {A = ℕ} (eqb x.node v) 1 0) r rows in
    let part : cond {A = ℕ} (eqb r.node v) 1 0 ≡ 0 = ap (λ (b : Bool). cond {A = ℕ} b 1 0) test in
    omega arith

-- the row of a node that has one
pub row-found : (P : Potential → Type 0) (rows : List Potential) (v : ℕ) → All P rows → count_by (λ r. eqb r.node v) rows ≡ 1 → (r : Potential) × (find (λ r. eqb r.node v) rows ≡ Some r) × (r.node ≡ v) × P r
row-found P [] v h e = absurd (omega arith)
row-found P (r ∷ rows) v h e = elim (cases_eq r.node v) [
  | inl is ↦ (r, rw (eq-eqb r.node v is) refl, is, h 0 r (omega arith))
  | inr ne ↦
      let test : eqb r.node v ≡ false = ne_eqb r.node v ne in
      let found = row-found P rows v (All-tail P r rows h) (count-rest r rows v test e) in
      (found.0, rw test found.1, found.2, found.3)
]
