-- Cells with other capacities, and their sum with lengths.
use Rattle.std.proofs.Common.{◌≡◌, ℕ, zero, suc, ◌+◌, ◌*◌, ◌^◌, ◌<◌, ◌≤◌, List, [], ◌∷◌, length, get_or, set, map, sym, ap, ◌∙◌, arith, refl, All, Some}
use Rattle.std.specs.Prelude.{slice_get}
use Rattle.std.proofs.lemmas.Nat.{mul-le}
use Rattle.std.proofs.lemmas.List.Elements.{All-head, All-tail}
use Rattle.mcf_limits.specs.declared.TheConstants.{MAX_LENGTH, MAX_UNITS}
use Rattle.flow_model.specs.declared.net.Cell.{Cell}
use Rattle.flow_model.specs.Bound.{volume}
use Rattle.flow_paths.specs.Evaluation.{with_caps}
use Rattle.whatif.specs.declared.ratio.Ratio.{Ratio}
use Rattle.whatif.specs.Ratios.{ratio_of, ratios}

pub with_caps-length : (cells : List Cell) (caps : List ℕ) → length (with_caps cells caps) ≡ length cells
with_caps-length [] caps = refl
with_caps-length (x ∷ xs) [] = refl
with_caps-length (x ∷ xs) (n ∷ ns) = ap suc (with_caps-length xs ns)

-- their own capacities change nothing
pub with_caps-own : (cells : List Cell) → with_caps cells (map (λ c. c.cap) cells) ≡ cells
with_caps-own [] = refl
with_caps-own (x ∷ xs) = ap (λ (l : List Cell). x ∷ l) (with_caps-own xs)

-- ---- one capacity set

pub volume-set : (cells : List Cell) (caps lengths : List ℕ) (c cap : ℕ) → c < length caps → length caps ≡ length cells → length lengths ≡ length cells
    → volume (with_caps cells (set caps c cap)) lengths + get_or caps c 0 * get_or lengths c 0 ≡ volume (with_caps cells caps) lengths + cap * get_or lengths c 0
volume-set [] caps lengths c cap lt e f = absurd (omega arith)
volume-set (x ∷ xs) [] lengths c cap lt e f = absurd (omega arith)
volume-set (x ∷ xs) (n ∷ ns) [] c cap lt e f = absurd (omega arith)
volume-set (x ∷ xs) (n ∷ ns) (l ∷ ls) zero cap lt e f = omega arith
volume-set (x ∷ xs) (n ∷ ns) (l ∷ ls) (suc c) cap lt e f =
    let rest = volume-set xs ns ls c cap (omega arith) (omega arith) (omega arith) in
    omega arith

-- one part of the sum
pub part-le : (cells : List Cell) (caps lengths : List ℕ) (c : ℕ) → c < length caps → length caps ≡ length cells → length lengths ≡ length cells → get_or caps c 0 * get_or lengths c 0 ≤ volume (with_caps cells caps) lengths
part-le [] caps lengths c lt e f = absurd (omega arith)
part-le (x ∷ xs) [] lengths c lt e f = absurd (omega arith)
part-le (x ∷ xs) (n ∷ ns) [] c lt e f = absurd (omega arith)
part-le (x ∷ xs) (n ∷ ns) (l ∷ ls) zero lt e f = omega arith
part-le (x ∷ xs) (n ∷ ns) (l ∷ ls) (suc c) lt e f =
    let rest = part-le xs ns ls c (omega arith) (omega arith) (omega arith) in
    omega arith

-- the sum is within the limits
pub volume-le : (cells : List Cell) (caps lengths : List ℕ) → length caps ≡ length cells → All (λ n. n ≤ MAX_UNITS) caps → All (λ n. n ≤ MAX_LENGTH) lengths → volume (with_caps cells caps) lengths ≤ length cells * 2 ^ 106
volume-le [] caps lengths e h k = omega arith
volume-le (x ∷ xs) [] lengths e h k = absurd (omega arith)
volume-le (x ∷ xs) (n ∷ ns) [] e h k = omega arith
volume-le (x ∷ xs) (n ∷ ns) (l ∷ ls) e h k =
    let rest = volume-le xs ns ls (omega arith) (All-tail (λ n. n ≤ MAX_UNITS) n ns h) (All-tail (λ n. n ≤ MAX_LENGTH) l ls k) in
    let part = mul-le n l MAX_UNITS MAX_LENGTH (All-head (λ n. n ≤ MAX_UNITS) n ns h) (All-head (λ n. n ≤ MAX_LENGTH) l ls k) in
    omega arith

-- one ratio set
set_at : (n : ℕ) (cells : List Cell) (caps loads : List ℕ) (c cap : ℕ) → c < length caps → length caps ≡ length cells → length loads ≡ length cells
    → ratios n (with_caps cells (set caps c cap)) loads ≡ set (ratios n (with_caps cells caps) loads) c (ratio_of cap (get_or loads c 0) (n + c))
set_at n [] caps loads c cap lt e f = absurd (omega arith)
set_at n (x ∷ xs) [] loads c cap lt e f = absurd (omega arith)
set_at n (x ∷ xs) (m ∷ ns) [] c cap lt e f = absurd (omega arith)
set_at n (x ∷ xs) (m ∷ ns) (l ∷ ls) zero cap lt e f = ap (λ k. ratio_of cap l k ∷ ratios (n + 1) (with_caps xs ns) ls) (plus n)
  where
    plus : (n : ℕ) → n ≡ n + 0
    plus n = omega arith
set_at n (x ∷ xs) (m ∷ ns) (l ∷ ls) (suc c) cap lt e f =
    ap (λ (rs : List Ratio). ratio_of m l n ∷ rs) (set_at (n + 1) xs ns ls c cap (omega arith) (omega arith) (omega arith) ∙ ap (λ k. set (ratios (n + 1) (with_caps xs ns) ls) c (ratio_of cap (get_or ls c 0) k)) (plus n c))
  where
    plus : (n c : ℕ) → n + 1 + c ≡ n + suc c
    plus n c = omega arith

pub ratios-set : (cells : List Cell) (caps loads : List ℕ) (c cap : ℕ) → c < length caps → length caps ≡ length cells → length loads ≡ length cells
    → ratios 0 (with_caps cells (set caps c cap)) loads ≡ set (ratios 0 (with_caps cells caps) loads) c (ratio_of cap (get_or loads c 0) c)
ratios-set cells caps loads c cap lt e f = set_at 0 cells caps loads c cap lt e f ∙ ap (λ k. set (ratios 0 (with_caps cells caps) loads) c (ratio_of cap (get_or loads c 0) k)) (none c)
  where
    none : (i : ℕ) → 0 + i ≡ i
    none i = omega arith

-- ---- a cell with another capacity has the ends that it had

pub record IsEditOf (cells : List Cell) (c : ℕ) (new : Cell) : Type 0 where
  pub old : Cell
  pub here : slice_get cells c ≡ Some old
  pub tail : new.tail ≡ old.tail
  pub head : new.head ≡ old.head
  pub both : new.both ≡ old.both

pub edit_of : (cells : List Cell) (caps : List ℕ) (c : ℕ) (new : Cell) → slice_get (with_caps cells caps) c ≡ Some new → IsEditOf cells c new
edit_of [] caps c new e = absurd cc
edit_of (x ∷ xs) [] c new e = record { old = new; here = e; tail = refl; head = refl; both = refl }
edit_of (x ∷ xs) (n ∷ ns) zero new e = edited x n new e
  where
    edited : (x : Cell) (n : ℕ) (new : Cell) → Some (record x { cap = n }) ≡ Some new → IsEditOf (x ∷ xs) 0 new
    edited x n new e =
        let is : record x { cap = n } ≡ new = cc in
        record { old = x; here = refl; tail = ap (λ (c : Cell). c.tail) (sym is); head = ap (λ (c : Cell). c.head) (sym is); both = ap (λ (c : Cell). c.both) (sym is) }
edit_of (x ∷ xs) (n ∷ ns) (suc c) new e =
    let rest = edit_of xs ns c new e in
    record { old = rest.old; here = rest.here; tail = rest.tail; head = rest.head; both = rest.both }

-- and each cell has such a one
pub record HasEdit (cells : List Cell) (c : ℕ) (old : Cell) : Type 0 where
  pub new : Cell
  pub here : slice_get cells c ≡ Some new
  pub tail : new.tail ≡ old.tail
  pub head : new.head ≡ old.head
  pub both : new.both ≡ old.both

pub has_edit : (cells : List Cell) (caps : List ℕ) (c : ℕ) (old : Cell) → slice_get cells c ≡ Some old → HasEdit (with_caps cells caps) c old
has_edit [] caps c old e = absurd cc
has_edit (x ∷ xs) [] c old e = record { new = old; here = e; tail = refl; head = refl; both = refl }
has_edit (x ∷ xs) (n ∷ ns) zero old e = edited x n old e
  where
    edited : (x : Cell) (n : ℕ) (old : Cell) → Some x ≡ Some old → HasEdit (record x { cap = n } ∷ with_caps xs ns) 0 old
    edited x n old e =
        let is : x ≡ old = cc in
        record { new = record x { cap = n }; here = refl; tail = ap (λ (c : Cell). c.tail) is; head = ap (λ (c : Cell). c.head) is; both = ap (λ (c : Cell). c.both) is }
has_edit (x ∷ xs) (n ∷ ns) (suc c) old e =
    let rest = has_edit xs ns c old e in
    record { new = rest.new; here = rest.here; tail = rest.tail; head = rest.head; both = rest.both }
