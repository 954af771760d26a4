-- The levels of a row, and fronts by rank.
use Rattle.std.proofs.Common.{◌≡◌, inl, inr, ℕ, zero, suc, ◌+◌, ◌<◌, ◌≤◌, Bool, true, false, cond, eqb, ltb, List, [], ◌∷◌, ◌++◌, length, get_or, map, take, refl, sym, ap, subst, ◌∙◌, append_assoc, add-one, arith}
use Rattle.std.specs.Prelude.{◌⊎◌, ◌↔◌, ◌&&◌, ◌||◌, not, All, Any, Contains}
use Rattle.std.specs.List.{dedup, filter, flat_map, range_with_len, remove, sum_by}
use Rattle.std.specs.List.Sorted.{IsPermutation, IsSorted, IsStrictlyIncreasing}
use Rattle.std.specs.Ordering.{nat_cmp}
use Rattle.std.proofs.lemmas.Bool.{cases_eq, cases_lt, lt-ltb, le-ltb}
use Rattle.std.proofs.lemmas.List.{get_or-map, get_or_append_left, get_or_default, get_or_push, length-map, same_lists}
use Rattle.std.proofs.lemmas.List.Elements.{All-head, All-push, All-tail}
use Rattle.std.proofs.lemmas.List.FromFn.{map-range_with_len_more}
use Rattle.std.proofs.lemmas.List.Kept.{AllPairs-from_increasing, Contains-dedup_nat, Contains-from_dedup}
use Rattle.std.proofs.lemmas.List.Sorted.{Contains-permutation, IsPermutation-sym}
use Rattle.std.proofs.lemmas.Map.Keys.{IsStrictlyIncreasing-dedup}
use Rattle.std.proofs.lemmas.List.Sums.{sum_by-cons}
use Rattle.flow_model.specs.declared.net.Cell.{Cell}
use Rattle.flow_model.specs.Network.{IsCell}
use Rattle.cut_bound.specs.declared.choice.Place.TheVariants.{Node}
use Rattle.cut_bound.specs.declared.choice.RowPlace.{RowPlace}
use Rattle.cut_bound.specs.declared.choice.SummedCut.{SummedCut}
use Rattle.cut_bound.specs.Cuts.{Side, leaves}
use Rattle.cut_bound.specs.Candidates.{front, AreLevels}
use Rattle.cut_bound.specs.Search.{front_cut, level_cut, node_cut, node_cuts, woven}
use Rattle.cut_bound.specs.Sums.{leaving, node_side, rank_front}

-- ---- levels

later : (d : ℕ) (ds : List ℕ) (t : ℕ) → Contains ds t → Contains (d ∷ ds) t
later d ds t (k, l, e) = (suc k, omega arith, e)

-- what is above the least of numbers that ascend
pub levels-are : (values ds : List ℕ) → IsStrictlyIncreasing ds → ((t : ℕ) → Contains values t → Contains ds t) → ((t : ℕ) → Contains ds t → Contains values t) → AreLevels values (remove ds 0)
levels-are values [] up keeps adds = record {
  ascending = λ k l. absurd (omega arith);
  each = λ t. (λ h. absurd (none t h), λ h. absurd (none t (keeps t h.0)));
}
  where
    none : (t : ℕ) → Contains [] t → ⊥
    none t (k, l, e) = absurd (omega arith)
levels-are values (d ∷ ds) up keeps adds = record {
  ascending = λ k l. let e : suc k + 1 ≡ suc (k + 1) = omega arith in subst (λ (n : ℕ). get_or ds k 0 < get_or (d ∷ ds) n 0) e (up (suc k) (omega arith));
  each = λ t. (λ h. (adds t (later d ds t h), least t h), λ h. above t h.1 (keeps t h.0));
}
  where
    pairs : (k : ℕ) → k < length ds → d < get_or ds k 0
    pairs k l = AllPairs-from_increasing (d ∷ ds) up 0 (suc k) 0 (omega arith) (omega arith)

    at : (k t : ℕ) → k < length ds → get_or ds k t ≡ t → get_or ds k 0 ≡ t
    at k t l e = get_or_default ds k 0 t l ∙ e

    least : (t : ℕ) → Contains ds t → Any (λ x. x < t) values
    least t (k, l, e) =
        let first : Contains values d = adds d (0, omega arith, refl) in
        let below = pairs k l in
        let is = at k t l e in
        (first.0, d, first.1, first.2, omega arith)

    not-below : (x : ℕ) → Contains (d ∷ ds) x → d ≤ x
    not-below x (zero, l, e) = omega arith
    not-below x (suc k, l, e) = let below = pairs k (omega arith) in let is = at k x (omega arith) e in omega arith

    above : (t : ℕ) → Any (λ x. x < t) values → Contains (d ∷ ds) t → Contains ds t
    above t (i, x, il, ie, lt) (zero, l, e) = let low = not-below x (keeps x (i, il, ie)) in absurd (omega arith)
    above t a (suc k, l, e) = (k, omega arith, e)

-- after a sort and without repetitions
pub levels-made : (values start sorted ds : List ℕ) → start ≡ values → IsPermutation start sorted → IsSorted nat_cmp sorted → ds ≡ dedup eqb sorted → AreLevels values (remove ds 0)
levels-made values start sorted ds s moved up is =
    levels-are values ds (subst (λ (xs : List ℕ). IsStrictlyIncreasing xs) (sym is) (IsStrictlyIncreasing-dedup sorted up))
    (λ t h. subst (λ (xs : List ℕ). Contains xs t) (sym is) (Contains-dedup_nat sorted t (Contains-permutation start sorted t moved (subst (λ (xs : List ℕ). Contains xs t) (sym s) h))))
    (λ t h. subst (λ (xs : List ℕ). Contains xs t) s (Contains-permutation sorted start t (IsPermutation-sym start sorted moved) (Contains-from_dedup eqb sorted t (subst (λ (xs : List ℕ). Contains xs t) is h))))

pub levels-none : (values ds : List ℕ) → length ds ≡ 0 → AreLevels values (remove ds 0) → AreLevels values ds
levels-none values [] e h = h
levels-none values (d ∷ ds) e h = absurd (omega arith)

-- ---- the same front by rank

leaves-same : (side other : Side) (nodes : ℕ) (cell : Cell) → ((v : ℕ) → v < nodes → side v ≡ other v) → IsCell nodes cell → leaves side cell ≡ leaves other cell
leaves-same side other nodes cell same fits =
    ap (λ (x : Bool). (x && not (side cell.head)) || (cell.both && (side cell.head && not x))) (same cell.tail fits.tail)
    ∙ ap (λ (y : Bool). (other cell.tail && not y) || (cell.both && (y && not (other cell.tail)))) (same cell.head fits.head)

pub leaving-same : (side other : Side) (nodes : ℕ) (cells : List Cell) → ((v : ℕ) → v < nodes → side v ≡ other v) → All (IsCell nodes) cells → leaving side cells ≡ leaving other cells
leaving-same side other nodes [] same fits = refl
leaving-same side other nodes (c ∷ cells) same fits =
    let here = leaves-same side other nodes c same (All-head (IsCell nodes) c cells fits) in
    let rest = leaving-same side other nodes cells same (All-tail (IsCell nodes) c cells fits) in
    ap (λ (b : Bool). sum_by (λ (x : Cell). x.cap) (cond b (c ∷ filter (leaves side) cells) (filter (leaves side) cells))) here ∙ step (leaves other c) rest
  where
    step : (b : Bool) → leaving side cells ≡ leaving other cells
        → sum_by (λ (x : Cell). x.cap) (cond b (c ∷ filter (leaves side) cells) (filter (leaves side) cells)) ≡ sum_by (λ (x : Cell). x.cap) (cond b (c ∷ filter (leaves other) cells) (filter (leaves other) cells))
    step true rest = sum_by-cons (λ (x : Cell). x.cap) c (filter (leaves side) cells) ∙ (ap (λ n. c.cap + n) rest ∙ sym (sum_by-cons (λ (x : Cell). x.cap) c (filter (leaves other) cells)))
    step false rest = rest

same-test : (r j x t : ℕ) → ((r < j) ↔ (x < t)) → ltb r j ≡ ltb x t
same-test r j x t h = elim (cases_lt r j) [
  | inl l ↦ lt-ltb r j l ∙ sym (lt-ltb x t (h.0 l))
  | inr g ↦ le-ltb r j g ∙ sym (le-ltb x t (not-less g))
]
  where
    not-less : j ≤ r → t ≤ x
    not-less g = elim (cases_lt x t) [ inl l ↦ absurd (let m = h.1 l in omega arith) | inr k ↦ k ]

-- the front at a level by the ranks of the nodes
pub front-is : (values ranks levels : List ℕ) (nodes i : ℕ) (cells : List Cell) → All (IsCell nodes) cells → length values ≡ nodes → i < length levels
    → ((v : ℕ) → v < length values → (i : ℕ) → i < length levels → (get_or ranks v 0 < i + 1) ↔ (get_or values v 0 < get_or levels i 0))
    → leaving (rank_front (λ v. get_or ranks v 0) (i + 1)) cells ≡ leaving (front values (get_or levels i 0)) cells
front-is values ranks levels nodes i cells fits wide l below =
    leaving-same (rank_front (λ v. get_or ranks v 0) (i + 1)) (front values (get_or levels i 0)) nodes cells
    (λ v m. same-test (get_or ranks v 0) (i + 1) (get_or values v 0) (get_or levels i 0) (below v (omega arith) i l)) fits

mk : RowPlace → ℕ → ℕ → ℕ → SummedCut
mk row t a b = front_cut row t a b

-- the cuts of a row are those at its levels
pub cuts-are : (cells demands : List Cell) (row : RowPlace) (values ranks levels out over : List ℕ) (nodes : ℕ) (cuts : List SummedCut) → All (IsCell nodes) cells → All (IsCell nodes) demands → length values ≡ nodes
    → ((v : ℕ) → v < length values → (i : ℕ) → i < length levels → (get_or ranks v 0 < i + 1) ↔ (get_or values v 0 < get_or levels i 0))
    → ((j : ℕ) → j < length levels + 1 → get_or out j 0 ≡ leaving (rank_front (λ v. get_or ranks v 0) j) cells)
    → ((j : ℕ) → j < length levels + 1 → get_or over j 0 ≡ leaving (rank_front (λ v. get_or ranks v 0) j) demands)
    → length cuts ≡ length levels
    → ((i : ℕ) (d : SummedCut) → i < length levels → get_or cuts i d ≡ front_cut row (get_or levels i 0) (get_or out (i + 1) 0) (get_or over (i + 1) 0))
    → cuts ≡ map (level_cut cells demands row values) levels
unfolding mk
cuts-are cells demands row values ranks levels out over nodes cuts fits fit wide below outs overs len each =
    same_lists cuts (map (level_cut cells demands row values) levels) (len ∙ sym (length-map levels (level_cut cells demands row values))) (λ i d l.
    let inside : i < length levels = omega arith in
    let left = outs (i + 1) (omega arith) ∙ front-is values ranks levels nodes i cells fits wide inside below in
    let right = overs (i + 1) (omega arith) ∙ front-is values ranks levels nodes i demands fit wide inside below in
    each i d inside
    ∙ (ap (λ (n : ℕ). mk row (get_or levels i 0) n (get_or over (i + 1) 0)) left
    ∙ (ap (λ (n : ℕ). mk row (get_or levels i 0) (leaving (front values (get_or levels i 0)) cells) n) right
    ∙ sym (get_or-map (level_cut cells demands row values) levels i 0 d inside))))

-- ---- ranks

far : (levels : List ℕ) → IsStrictlyIncreasing levels → (i j : ℕ) → i < j → j < length levels → get_or levels i 0 < get_or levels j 0
far levels up i j l m = AllPairs-from_increasing levels up i j 0 l m

pub not-falling : (levels : List ℕ) → IsStrictlyIncreasing levels → (i j : ℕ) → i ≤ j → j < length levels → get_or levels i 0 ≤ get_or levels j 0
not-falling levels up i j l m = elim (cases_eq i j) [
  | inl e ↦ let is : get_or levels i 0 ≡ get_or levels j 0 = ap (λ (k : ℕ). get_or levels k 0) e in omega arith
  | inr ne ↦ let lt = far levels up i j (omega arith) m in omega arith
]

-- the rank of a number that is a level
pub rank-found : (levels : List ℕ) (x i r : ℕ) → IsStrictlyIncreasing levels → get_or levels i 0 ≡ x → i < length levels → r ≡ i + 1 → (k : ℕ) → k < length levels → (r < k + 1) ↔ (x < get_or levels k 0)
rank-found levels x i r up at l is k m = (λ lt. let above = far levels up i k (omega arith) m in omega arith, λ lt. below (cases_lt i k) lt)
  where
    below : (i < k) ⊎ (k ≤ i) → x < get_or levels k 0 → r < k + 1
    below (inl lt) h = omega arith
    below (inr le) h = let low = not-falling levels up k i le l in absurd (omega arith)

-- that of one between levels
pub rank-between : (levels : List ℕ) (x i r : ℕ) → ((k : ℕ) → k < i → get_or levels k 0 < x) → ((k : ℕ) → i ≤ k → k < length levels → x < get_or levels k 0) → r ≡ i → (k : ℕ) → k < length levels → (r < k + 1) ↔ (x < get_or levels k 0)
rank-between levels x i r before behind is k m = (λ lt. behind k (omega arith) m, λ lt. below (cases_lt k i) lt)
  where
    below : (k < i) ⊎ (i ≤ k) → x < get_or levels k 0 → r < k + 1
    below (inl lt) h = let low = before k lt in absurd (omega arith)
    below (inr le) h = omega arith

-- one rank more
pub ranks-more : (levels values ranks new : List ℕ) (n r d : ℕ) → n < length values → new ≡ ranks ++ r ∷ [] → length ranks ≡ n
    → ((i : ℕ) → i < length levels → (r < i + 1) ↔ (get_or values n d < get_or levels i 0))
    → ((v : ℕ) → v < n → (i : ℕ) → i < length levels → (get_or ranks v 0 < i + 1) ↔ (get_or values v 0 < get_or levels i 0))
    → (v : ℕ) → v < n + 1 → (i : ℕ) → i < length levels → (get_or new v 0 < i + 1) ↔ (get_or values v 0 < get_or levels i 0)
ranks-more levels values ranks new n r d inside e len here before v l i m = elim (cases_eq v n) [
  | inl at ↦
      let rank : get_or new v 0 ≡ r = ap (λ (xs : List ℕ). get_or xs v 0) e ∙ (ap (λ (k : ℕ). get_or (ranks ++ r ∷ []) k 0) at ∙ get_or_push ranks r 0 n len) in
      let value : get_or values v 0 ≡ get_or values n d = ap (λ (k : ℕ). get_or values k 0) at ∙ get_or_default values n 0 d inside in
      subst (λ (a : ℕ). (a < i + 1) ↔ (get_or values v 0 < get_or levels i 0)) (sym rank) (subst (λ (b : ℕ). (r < i + 1) ↔ (b < get_or levels i 0)) (sym value) (here i m))
  | inr off ↦
      let rank : get_or new v 0 ≡ get_or ranks v 0 = ap (λ (xs : List ℕ). get_or xs v 0) e ∙ get_or_append_left ranks (r ∷ []) 0 v (omega arith) in
      subst (λ (a : ℕ). (a < i + 1) ↔ (get_or values v 0 < get_or levels i 0)) (sym rank) (before v (omega arith) i m)
]

pub within-more : (most : ℕ) (ranks new : List ℕ) (r : ℕ) → new ≡ ranks ++ r ∷ [] → All (λ x. x < most) ranks → r < most → All (λ x. x < most) new
within-more most ranks new r e h l = subst (λ (xs : List ℕ). All (λ x. x < most) xs) (sym e) (All-push (λ x. x < most) ranks r h l)

-- ---- cuts round nodes

woven-suc : (xs ys : List SummedCut) (i : ℕ) (d e : SummedCut) → i < length xs → i < length ys → woven (take (suc i) xs) (take (suc i) ys) ≡ woven (take i xs) (take i ys) ++ get_or xs i d ∷ get_or ys i e ∷ []
woven-suc [] ys i d e l m = absurd (omega arith)
woven-suc (x ∷ xs) [] i d e l m = absurd (omega arith)
woven-suc (x ∷ xs) (y ∷ ys) zero d e l m = refl
woven-suc (x ∷ xs) (y ∷ ys) (suc i) d e l m = ap (λ (cs : List SummedCut). x ∷ y ∷ cs) (woven-suc xs ys i d e (omega arith) (omega arith))

-- one more of both
pub woven-more : (xs ys : List SummedCut) (i : ℕ) (d e : SummedCut) (cuts one two : List SummedCut) → i < length xs → i < length ys → cuts ≡ woven (take i xs) (take i ys)
    → one ≡ cuts ++ get_or xs i d ∷ [] → two ≡ one ++ get_or ys i e ∷ [] → two ≡ woven (take (i + 1) xs) (take (i + 1) ys)
woven-more xs ys i d e cuts one two l m is f g =
    g ∙ (ap (λ (cs : List SummedCut). cs ++ get_or ys i e ∷ []) f ∙ (append_assoc cuts (get_or xs i d ∷ []) (get_or ys i e ∷ [])
    ∙ (ap (λ (cs : List SummedCut). cs ++ get_or xs i d ∷ get_or ys i e ∷ []) is ∙ rw add-one (sym (woven-suc xs ys i d e l m)))))

pub nodes-both : (cells demands : List Cell) (both : Bool) (vs : List ℕ) → both ≡ true → map (node_cut cells demands false) vs ≡ flat_map (node_cuts cells demands both) vs
nodes-both cells demands true [] e = refl
nodes-both cells demands true (v ∷ vs) e = ap (λ (cs : List SummedCut). node_cut cells demands false v ∷ cs) (nodes-both cells demands true vs e)
nodes-both cells demands false vs e = absurd (let f : false ≡ true = e in cc)

pub nodes-woven : (cells demands : List Cell) (both : Bool) (vs : List ℕ) → both ≡ false → woven (map (node_cut cells demands false) vs) (map (node_cut cells demands true) vs) ≡ flat_map (node_cuts cells demands both) vs
nodes-woven cells demands false [] e = refl
nodes-woven cells demands false (v ∷ vs) e = ap (λ (cs : List SummedCut). node_cut cells demands false v ∷ node_cut cells demands true v ∷ cs) (nodes-woven cells demands false vs e)
nodes-woven cells demands true vs e = absurd (let f : true ≡ false = e in cc)

at-node : Bool → ℕ → ℕ → ℕ → SummedCut
at-node into v a b = record { place = Node v into; leaving = a; crossing = b }

-- one node more
pub nodes-more : (cells demands : List Cell) (into : Bool) (v a b : ℕ) (cuts new : List SummedCut) → a ≡ leaving (node_side into v) cells → b ≡ leaving (node_side into v) demands
    → cuts ≡ map (node_cut cells demands into) (range_with_len 0 v) → new ≡ cuts ++ record { place = Node v into; leaving = a; crossing = b } ∷ [] → new ≡ map (node_cut cells demands into) (range_with_len 0 (v + 1))
unfolding at-node
nodes-more cells demands into v a b cuts new a-is b-is e n =
    let item : at-node into v a b ≡ node_cut cells demands into v = ap (λ (m : ℕ). at-node into v m b) a-is ∙ ap (at-node into v (leaving (node_side into v) cells)) b-is in
    n ∙ (ap (λ (cs : List SummedCut). cs ++ at-node into v a b ∷ []) e ∙ (ap (λ (c : SummedCut). map (node_cut cells demands into) (range_with_len 0 v) ++ c ∷ []) item
    ∙ sym (map-range_with_len_more (node_cut cells demands into) 0 v v (omega arith))))
