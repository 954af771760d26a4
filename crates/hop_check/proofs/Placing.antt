-- A layer's place tells its source and index.
use Rattle.std.proofs.Common.{◌≡◌, ℕ, ◌+◌, ◌*◌, ◌<◌, ◌≤◌, Bool, ◌&&◌, cond, eqb, eq-eqb, List, [], ◌∷◌, get_or, Option, Some, inl, inr, sym, ap, ◌∙◌, arith, refl}
use Rattle.std.specs.Prelude.{All, count_by, find}
use Rattle.std.proofs.lemmas.Bool.{ne_eqb}
use Rattle.std.proofs.lemmas.Bool.Decides.{eqb_tells}
use Rattle.std.proofs.lemmas.List.Elements.{All-head, All-tail}
use Rattle.std.proofs.lemmas.List.Sums.{sum_by-cons}
use Rattle.mcf_limits.specs.declared.TheConstants.{MAX_HOPS}
use Rattle.hop_check.specs.LayerRows.{Layer}
use Rattle.hop_check.specs.Tables.{place_of}

same_place : (v j s i : ℕ) → j ≤ MAX_HOPS → i ≤ MAX_HOPS → eqb (place_of v j) (place_of s i) ≡ (eqb v s && eqb j i)
same_place v j s i lj li = elim (eqb_tells v s) as (λ _. eqb (place_of v j) (place_of s i) ≡ (eqb v s && eqb j i)) [
  | inl p ↦ elim (eqb_tells j i) as (λ _. eqb (place_of v j) (place_of s i) ≡ (eqb v s && eqb j i)) [
    | inl q ↦ let is : place_of v j ≡ place_of s i = omega arith in rw (p.0, q.0) (eq-eqb (place_of v j) (place_of s i) is)
    | inr q ↦ rw (p.0, q.0) (ne_eqb (place_of v j) (place_of s i) (λ e. q.1 (omega arith)))
  ]
  | inr p ↦ rw p.0 (ne_eqb (place_of v j) (place_of s i) (λ e. p.1 (omega arith)))
]

count-same : {X : Type 0} (p q : X → Bool) (xs : List X) → All (λ x. p x ≡ q x) xs → count_by p xs ≡ count_by q xs
count-same p q [] all = refl
count-same p q (x ∷ xs) all =
    let here : p x ≡ q x = All-head (λ y. p y ≡ q y) x xs all in
    let rest = count-same p q xs (All-tail (λ y. p y ≡ q y) x xs all) in
    sum_by-cons (λ y. cond {A = ℕ} (p y) 1 0) x xs ∙ ap (λ (b : Bool). cond {A = ℕ} b 1 0 + count_by p xs) here ∙ ap (λ (n : ℕ). cond {A = ℕ} (q x) 1 0 + n) rest ∙ sym (sum_by-cons (λ y. cond {A = ℕ} (q y) 1 0) x xs)

find-same : {X : Type 0} (p q : X → Bool) (xs : List X) → All (λ x. p x ≡ q x) xs → find p xs ≡ find q xs
find-same p q [] all = refl
find-same {X = X} p q (x ∷ xs) all =
    let here : p x ≡ q x = All-head (λ y. p y ≡ q y) x xs all in
    let rest = find-same p q xs (All-tail (λ y. p y ≡ q y) x xs all) in
    ap (λ (b : Bool). cond b (Some x) (find p xs)) here ∙ ap (λ (o : Option X). cond (q x) (Some x) o) rest

-- rows of nodes and indices within the limits
abbrev pub AreNamed : ℕ → List Layer → Type 0
AreNamed nodes rows = All (λ r. (r.node < nodes) × (r.index ≤ MAX_HOPS)) rows

same_rows : (nodes : ℕ) (rows : List Layer) (s i : ℕ) → AreNamed nodes rows → i ≤ MAX_HOPS → All (λ r. eqb (place_of r.node r.index) (place_of s i) ≡ (eqb r.node s && eqb r.index i)) rows
same_rows nodes rows s i named li = λ k d lt. same_place (get_or rows k d).node (get_or rows k d).index s i (named k d lt).1 li

pub counts-placed : (nodes : ℕ) (rows : List Layer) (s i : ℕ) → AreNamed nodes rows → i ≤ MAX_HOPS → count_by (λ r. eqb (place_of r.node r.index) (place_of s i)) rows ≡ count_by (λ r. eqb r.node s && eqb r.index i) rows
counts-placed nodes rows s i named li = count-same (λ r. eqb (place_of r.node r.index) (place_of s i)) (λ r. eqb r.node s && eqb r.index i) rows (same_rows nodes rows s i named li)

pub finds-placed : (nodes : ℕ) (rows : List Layer) (s i : ℕ) → AreNamed nodes rows → i ≤ MAX_HOPS → find (λ r. eqb (place_of r.node r.index) (place_of s i)) rows ≡ find (λ r. eqb r.node s && eqb r.index i) rows
finds-placed nodes rows s i named li = find-same (λ r. eqb (place_of r.node r.index) (place_of s i)) (λ r. eqb r.node s && eqb r.index i) rows (same_rows nodes rows s i named li)

pub place_within : (nodes s i : ℕ) → s < nodes → i ≤ MAX_HOPS → place_of s i < nodes * (MAX_HOPS + 1)
place_within nodes s i ls li = omega arith
