-- The first of the demands that are kept, and of all.
use Rattle.std.proofs.Common.{◌≡◌, ℕ, zero, suc, ◌+◌, ◌<◌, ◌≤◌, Bool, true, false, ◌&&◌, List, [], ◌∷◌, ◌++◌, Option, Some, None, cond, length, map, take, drop, get_or, refl, sym, ap, ◌∙◌, arith, append_assoc, length-append}
use Rattle.std.specs.Prelude.{All, not}
use Rattle.std.proofs.Math.Seq.{get_or-append_seam}
use Rattle.std.proofs.lemmas.List.{take_more, drop_more, take-append-drop, map-append}
use Rattle.std.specs.Prelude.{Ok}
use Rattle.sndlib_grammar.specs.Rows.{NetDemand, NetRows, no_demand}
use Rattle.sndlib_grammar.specs.declared.refusal.NetRefusal.{NetRefusal}
use Rattle.unit_scale.specs.declared.options.NetOptions.{NetOptions}
use Rattle.unit_scale.specs.Sizes.{is_left_out, decimals_of, sizes}
use Rattle.unit_scale.specs.Scaling.{ScaledNet, first_line, kept_from, scaled_of, scaled_with, refusal, unless_refused}

one_more : (q p : NetDemand → Bool) (g : ℕ → NetDemand) (n : ℕ) (ks : List ℕ) (d : NetDemand) (ds : List NetDemand) (b : Bool) → g n ≡ d → first_line q (λ x. x.line) (map g ks) ≡ first_line p (λ x. x.line) ds
    → first_line q (λ x. x.line) (map g (cond b ks (n ∷ ks))) ≡ cond (not b && q d) (Some d.line) (first_line p (λ x. x.line) ds)
one_more q p g n ks d ds true is h = h
one_more q p g n ks d ds false is h =
    ap (λ (x : NetDemand). cond (q x) (Some x.line) (first_line q (λ y. y.line) (map g ks))) is ∙ ap (λ (o : Option ℕ). cond (q d) (Some d.line) o) h

-- the first of what is kept, in a list before which others stand
kept_first : (q : NetDemand → Bool) (before ds : List NetDemand) → first_line q (λ d. d.line) (map (λ i. get_or (before ++ ds) i no_demand) (kept_from (length before) ds)) ≡ first_line (λ d. not (is_left_out d) && q d) (λ d. d.line) ds
kept_first q before [] = refl
kept_first q before (d ∷ ds) =
    let n = length before in
    let whole : (before ++ d ∷ []) ++ ds ≡ before ++ d ∷ ds = append_assoc before (d ∷ []) ds in
    let many : length (before ++ d ∷ []) ≡ n + 1 = omega (arith, length-append before (d ∷ [])) in
    let rest = kept_first q (before ++ d ∷ []) ds in
    let first = ap (λ (l : List NetDemand). first_line q (λ x. x.line) (map (λ i. get_or l i no_demand) (kept_from (length (before ++ d ∷ [])) ds))) (sym whole) in
    let second = ap (λ (m : ℕ). first_line q (λ x. x.line) (map (λ i. get_or (before ++ d ∷ ds) i no_demand) (kept_from m ds))) (sym many) in
    one_more q (λ x. not (is_left_out x) && q x) (λ i. get_or (before ++ d ∷ ds) i no_demand) n (kept_from (n + 1) ds) d ds (is_left_out d) (get_or-append_seam before d ds no_demand) (second ∙ first ∙ rest)

pub kept_is_first : (q : NetDemand → Bool) (ds : List NetDemand) (ks : List ℕ) → ks ≡ kept_from 0 ds → first_line q (λ d. d.line) (map (λ i. get_or ds i no_demand) ks) ≡ first_line (λ d. not (is_left_out d) && q d) (λ d. d.line) ds
kept_is_first q ds ks e = ap (λ (l : List ℕ). first_line q (λ d. d.line) (map (λ i. get_or ds i no_demand) l)) e ∙ kept_first q [] ds

below_by : (n m : ℕ) (ks : List ℕ) (b : Bool) → n < m → All (λ i. i < m) ks → All (λ i. i < m) (cond b ks (n ∷ ks))
below_by n m ks true l all k d lt = all k d lt
below_by n m ks false l all zero d lt = l
below_by n m ks false l all (suc k) d lt = all k d (omega arith)

kept_below : (n m : ℕ) (ds : List NetDemand) → n + length ds ≤ m → All (λ i. i < m) (kept_from n ds)
kept_below n m [] l k d lt = absurd (omega arith)
kept_below n m (x ∷ ds) l k d lt = below_by n m (kept_from (n + 1) ds) (is_left_out x) (omega arith) (kept_below (n + 1) m ds (omega arith)) k d lt

-- what is kept is there
pub kept_within : (ds : List NetDemand) (ks : List ℕ) (k : ℕ) → ks ≡ kept_from 0 ds → k < length ks → get_or ks k 0 < length ds
kept_within ds ks k e l =
    let lt : k < length (kept_from 0 ds) = omega (arith, ap length e) in
    let here = kept_below 0 (length ds) ds (omega arith) k 0 lt in
    omega (arith, ap (λ (xs : List ℕ). get_or xs k 0) e, here)

skipped : (q : NetDemand → Bool) (xs ys : List NetDemand) → first_line q (λ d. d.line) xs ≡ None → first_line q (λ d. d.line) (xs ++ ys) ≡ first_line q (λ d. d.line) ys
skipped q [] ys h = refl
skipped q (x ∷ xs) ys h = by (q x) h (skipped q xs ys)
  where
    by : (b : Bool) → cond b (Some x.line) (first_line q (λ d. d.line) xs) ≡ None → (first_line q (λ d. d.line) xs ≡ None → first_line q (λ d. d.line) (xs ++ ys) ≡ first_line q (λ d. d.line) ys)
        → cond b (Some x.line) (first_line q (λ d. d.line) (xs ++ ys)) ≡ first_line q (λ d. d.line) ys
    by true h rest = absurd cc
    by false h rest = rest h

-- one more that does not pass
pub none-more : (q : NetDemand → Bool) (g : ℕ → NetDemand) (ks : List ℕ) (k : ℕ) → k < length ks → q (g (get_or ks k 0)) ≡ false → first_line q (λ d. d.line) (map g (take k ks)) ≡ None → first_line q (λ d. d.line) (map g (take (k + 1) ks)) ≡ None
none-more q g ks k lt fails h =
    let x = g (get_or ks k 0) in
    ap (λ (l : List ℕ). first_line q (λ d. d.line) (map g l)) (take_more ks k 0 lt) ∙ ap (first_line q (λ d. d.line)) (map-append g (take k ks) (get_or ks k 0 ∷ []))
    ∙ skipped q (map g (take k ks)) (x ∷ []) h ∙ ap (λ (b : Bool). cond b (Some x.line) None) fails

-- the first that passes
pub found_first : (q : NetDemand → Bool) (g : ℕ → NetDemand) (ks : List ℕ) (k : ℕ) → k < length ks → q (g (get_or ks k 0)) ≡ true → first_line q (λ d. d.line) (map g (take k ks)) ≡ None → first_line q (λ d. d.line) (map g ks) ≡ Some (g (get_or ks k 0)).line
found_first q g ks k lt passes h =
    let x = g (get_or ks k 0) in
    let rest = map g (drop (k + 1) ks) in
    ap (λ (l : List ℕ). first_line q (λ d. d.line) (map g l)) (sym (take-append-drop k ks)) ∙ ap (first_line q (λ d. d.line)) (map-append g (take k ks) (drop k ks))
    ∙ skipped q (map g (take k ks)) (map g (drop k ks)) h ∙ ap (λ (l : List ℕ). first_line q (λ d. d.line) (map g l)) (drop_more ks k 0 lt) ∙ ap (λ (b : Bool). cond b (Some x.line) (first_line q (λ d. d.line) rest)) passes

-- a network in units keeps the demands that are not left out
pub scaled_keeps : (rows : NetRows) (o : NetOptions) (net : ScaledNet) → scaled_of rows o ≡ Ok net → net.kept ≡ kept_from 0 rows.demands
scaled_keeps rows o net e =
    let s = decimals_of (sizes o.modules rows) in
    ap (λ (n : ScaledNet). n.kept) (sym (accepted (scaled_with o s rows) (refusal o.modules s rows) e))
  where
    accepted : (a : ScaledNet) (r : Option NetRefusal) → unless_refused a r ≡ Ok net → a ≡ net
    accepted a None h = cc
    accepted a (Some r) h = absurd cc
