-- Loops over modules, a capacity and a cost at a time.
use Rattle.std.proofs.Common.{◌≡◌, ℕ, ◌+◌, ◌*◌, ◌%◌, ◌^◌, ◌≤◌, ◌<◌, max, List, [], ◌∷◌, length, drop, get_or, zero, suc, map, sum, true, false, Bool, arith, refl, ap, sym, subst, ◌∙◌, ◌||◌, if◌then◌else◌, nat_lt, Bor}
use Rattle.std.specs.List.{list_any}
use Rattle.std.proofs.Math.Nat.{add-mod}
use Rattle.std.proofs.lemmas.List.Sums.{sum_by-cons}
use Rattle.unit_scale.specs.Short.{short}
use Rattle.unit_scale.specs.Seen.{Seen, seen, seen_size, bytes_of}
use Rattle.unit_scale.specs.Sizes.{is_fine, is_over, value, every_other, greatest}
use Rattle.unit_scale.specs.Largest.{best_amount, IsBest}
use Rattle.unit_scale.proofs.Greatest.{best_short}
use Rattle.unit_scale.proofs.ShortLaws.{short_low}
use Rattle.unit_scale.proofs.Adding.{six-short}
use Rattle.std.proofs.lemmas.Bool.{ltb-false}
use Rattle.std.proofs.lemmas.List.{length-map, drop_all}
use Rattle.std.proofs.Math.ListN.{get_or-map}
use Rattle.unit_scale.specs.declared.links.LinkSize.{LinkSize}
use Rattle.unit_scale.specs.declared.largest.Greatest.{Greatest}

abbrev capacities : List (List ℕ) → List (List ℕ)
capacities words = every_other words

-- ---- sums

seen_eq : (a b : Bool) (k l x y : ℕ) → a ≡ b → k ≡ l → x ≡ y → (let s : Seen = record { over = a; last = k; exact = x } in s) ≡ record { over = b; last = l; exact = y }
seen_eq a b k l x y p q r = rw (p, q, r) refl

exact_plus : (a b c : Bool) (m n v : ℕ) → a ≡ b → (if a then 0 else m) ≡ (if b then 0 else n) → (if a || c then 0 else m + v) ≡ (if b || c then 0 else n + v)
exact_plus true true c m n v e f = refl
exact_plus true false c m n v e f = cc
exact_plus false true c m n v e f = cc
exact_plus false false true m n v e f = refl
exact_plus false false false m n v e f = ap (λ x. x + v) f

mod_plus : (a b v m : ℕ) → a % m ≡ b % m → (a + v) % m ≡ (b + v) % m
mod_plus a b v m e = add-mod a v m ∙ ap (λ x. (x + v % m) % m) e ∙ sym (add-mod b v m)

-- the same more on both sides
pub seen-plus : (a b c : Bool) (m n v : ℕ) → seen a m ≡ seen b n → seen (a || c) (m + v) ≡ seen (b || c) (n + v)
seen-plus a b c m n v e =
    let o : a ≡ b = ap (λ (s : Seen). s.over) e in
    seen_eq (a || c) (b || c) ((m + v) % 1000000) ((n + v) % 1000000) (if a || c then 0 else m + v) (if b || c then 0 else n + v)
    (ap (λ x. x || c) o) (mod_plus m n v 1000000 (ap (λ (s : Seen). s.last) e)) (exact_plus a b c m n v o (ap (λ (s : Seen). s.exact) e))

or_assoc : (a b c : Bool) → ((a || b) || c) ≡ (a || (b || c))
or_assoc true b c = refl
or_assoc false b c = refl

or_none : (a : Bool) → (a || false) ≡ a
or_none true = refl
or_none false = refl

-- the size with what is left is that with all, and none so far was too fine
pub record InSum (start size : LinkSize) (all rest : List (List ℕ)) : Type 0 where
  pub same : seen (size.over || list_any is_over (every_other rest)) (size.millionths + sum (map value (every_other rest))) ≡ seen (start.over || list_any is_over (every_other all)) (start.millionths + sum (map value (every_other all)))
  pub fine : list_any is_fine (every_other rest) ≡ list_any is_fine (every_other all)
  pub bound : size.millionths + length rest * 2 ^ 64 ≤ start.millionths + length all * 2 ^ 64

pub sum_begins : (start : LinkSize) (all : List (List ℕ)) → InSum start start all all
sum_begins start all = record { same = refl; fine = refl; bound = omega arith }

-- a capacity with what stands behind it
pub record IsFront (rest : List (List ℕ)) (word : List ℕ) (more : List (List ℕ)) : Type 0 where
  pub is : every_other rest ≡ word ∷ every_other more
  pub shorter : length more + 1 ≤ length rest

pub sum_step : (start size next : LinkSize) (all rest more : List (List ℕ)) (word : List ℕ) → InSum start size all rest → IsFront rest word more → is_fine word ≡ false → seen_size next ≡ seen (size.over || is_over word) (size.millionths + value word) → next.millionths < size.millionths + 2 ^ 64 → InSum start next all more
sum_step start size next all rest more word h front fine is bound =
    let any = list_any is_over (every_other more) in
    let total = sum (map value (every_other more)) in
    let plus = seen-plus next.over (size.over || is_over word) any next.millionths (size.millionths + value word) total is in
    let add : size.millionths + value word + total ≡ size.millionths + (value word + total) = omega arith in
    let cons : size.millionths + (value word + total) ≡ size.millionths + sum (map value (word ∷ every_other more)) = ap (λ n. size.millionths + n) (sym (sum_by-cons (λ (n : ℕ). n) (value word) (map value (every_other more)))) in
    let whole : seen (size.over || (is_over word || any)) (size.millionths + sum (map value (word ∷ every_other more))) ≡ seen (size.over || list_any is_over (every_other rest)) (size.millionths + sum (map value (every_other rest))) = ap (λ (ws : List (List ℕ)). seen (size.over || list_any is_over ws) (size.millionths + sum (map value ws))) (sym front.is) in
    record {
      same = plus ∙ ap (λ (b : Bool). seen b (size.millionths + value word + total)) (or_assoc size.over (is_over word) any) ∙ ap (λ (n : ℕ). seen (size.over || (is_over word || any)) n) (add ∙ cons) ∙ whole ∙ h.same;
      fine = ap (λ (b : Bool). b || list_any is_fine (every_other more)) (sym fine) ∙ ap (list_any is_fine) (sym front.is) ∙ h.fine;
      bound = omega (arith, h.bound, front.shorter);
    }

pub sum_fine : (start size : LinkSize) (all rest more : List (List ℕ)) (word : List ℕ) → InSum start size all rest → IsFront rest word more → is_fine word ≡ true → list_any is_fine (every_other all) ≡ true
sum_fine start size all rest more word h front fine = sym h.fine ∙ ap (list_any is_fine) front.is ∙ ap (λ (b : Bool). b || list_any is_fine (every_other more)) fine

pub sum_ends : (start size : LinkSize) (all rest : List (List ℕ)) → InSum start size all rest → rest ≡ [] → (list_any is_fine (every_other all) ≡ false) × (seen_size size ≡ seen (start.over || list_any is_over (every_other all)) (start.millionths + sum (map value (every_other all))))
sum_ends start size all rest h none =
    let zero : size.millionths + 0 ≡ size.millionths = omega arith in
    let e : seen (size.over || list_any is_over (every_other rest)) (size.millionths + sum (map value (every_other rest))) ≡ seen (size.over || false) (size.millionths + 0) = ap (λ (ws : List (List ℕ)). seen (size.over || list_any is_over (every_other ws)) (size.millionths + sum (map value (every_other ws)))) none in (
      sym h.fine ∙ ap (λ (ws : List (List ℕ)). list_any is_fine (every_other ws)) none,
      sym (ap (λ (b : Bool). seen b (size.millionths + 0)) (or_none size.over) ∙ ap (λ (n : ℕ). seen size.over n) zero) ∙ sym e ∙ h.same,
    )

-- ---- the greatest

max_assoc : (a b c : ℕ) → max (max a b) c ≡ max a (max b c)
max_assoc a b c = omega arith

max_none : (a : ℕ) → max a 0 ≡ a
max_none a = omega arith

pub record InLargest (best : Greatest) (all rest : List (List ℕ)) : Type 0 where
  pub same : max (best_amount best.number) (greatest (map value (every_other rest))) ≡ greatest (map value (every_other all))
  pub over : (best.over || list_any is_over (every_other rest)) ≡ list_any is_over (every_other all)
  pub fine : list_any is_fine (every_other rest) ≡ list_any is_fine (every_other all)
  pub is : IsBest best.number best.size

pub largest_step : (best next : Greatest) (all rest more : List (List ℕ)) (word : List ℕ) → InLargest best all rest → IsFront rest word more → is_fine word ≡ false → best_amount next.number ≡ max (best_amount best.number) (value word) → next.over ≡ (best.over || is_over word) → IsBest next.number next.size → InLargest next all more
largest_step best next all rest more word h front fine amount over is =
    let top = greatest (map value (every_other more)) in
    record {
      same = ap (λ (n : ℕ). max n top) amount ∙ max_assoc (best_amount best.number) (value word) top ∙ ap (λ (ws : List (List ℕ)). max (best_amount best.number) (greatest (map value ws))) (sym front.is) ∙ h.same;
      over = ap (λ (b : Bool). b || list_any is_over (every_other more)) over ∙ or_assoc best.over (is_over word) (list_any is_over (every_other more)) ∙ ap (λ (ws : List (List ℕ)). best.over || list_any is_over ws) (sym front.is) ∙ h.over;
      fine = ap (λ (b : Bool). b || list_any is_fine (every_other more)) (sym fine) ∙ ap (list_any is_fine) (sym front.is) ∙ h.fine;
      is = is;
    }

pub largest_fine : (best : Greatest) (all rest more : List (List ℕ)) (word : List ℕ) → InLargest best all rest → IsFront rest word more → is_fine word ≡ true → list_any is_fine (every_other all) ≡ true
largest_fine best all rest more word h front fine = sym h.fine ∙ ap (list_any is_fine) front.is ∙ ap (λ (b : Bool). b || list_any is_fine (every_other more)) fine

pub largest_ends : (best : Greatest) (all rest : List (List ℕ)) → InLargest best all rest → rest ≡ [] → (list_any is_fine (every_other all) ≡ false) × (best.size ≡ short (greatest (map value (every_other all)))) × (best.over ≡ list_any is_over (every_other all))
largest_ends best all rest h none =
    let top : best_amount best.number ≡ greatest (map value (every_other all)) = sym (max_none (best_amount best.number)) ∙ ap (λ (ws : List (List ℕ)). max (best_amount best.number) (greatest (map value (every_other ws)))) (sym none) ∙ h.same in (
      sym h.fine ∙ ap (λ (ws : List (List ℕ)). list_any is_fine (every_other ws)) none,
      best_short best.number best.size h.is ∙ ap short top,
      sym (or_none best.over) ∙ ap (λ (ws : List (List ℕ)). best.over || list_any is_over (every_other ws)) (sym none) ∙ h.over,
    )

-- ---- a capacity at a place

pub front_at : (words : List (List ℕ)) (at : ℕ) (d : List ℕ) → at < length words → IsFront (drop at words) (get_or words at d) (drop (at + 2) words)
front_at [] at d h = absurd (omega arith)
front_at (w ∷ []) zero d h = record { is = refl; shorter = omega arith }
front_at (w ∷ c ∷ words) zero d h = record { is = refl; shorter = omega arith }
front_at (w ∷ words) (suc at) d h =
    let less : at < length words = omega arith in
    let e : suc at + 2 ≡ suc (at + 2) = omega arith in
    let f = front_at words at d less in
    record { is = f.is ∙ ap (λ n. get_or words at d ∷ every_other (drop n (w ∷ words))) (sym e); shorter = omega (arith, f.shorter, ap (λ n. length (drop n (w ∷ words))) e) }

abbrev pub no_slice : Bor (List ℕ)
no_slice = record { ref_ptr = (0, 0); now = [] }

pub front_slice : (ms : List (Bor (List ℕ))) (at : ℕ) → at < length ms → IsFront (drop at (bytes_of ms)) (get_or ms at no_slice).now (drop (at + 2) (bytes_of ms))
front_slice ms at h =
    let within : at < length (bytes_of ms) = omega (arith, length-map ms (λ (w : Bor (List ℕ)). w.now)) in
    subst (λ (word : List ℕ). IsFront (drop at (bytes_of ms)) word (drop (at + 2) (bytes_of ms))) (get_or-map (λ (w : Bor (List ℕ)). w.now) ms at no_slice) (front_at (bytes_of ms) at [] within)

pub none_left : (ms : List (Bor (List ℕ))) (at : ℕ) → length ms ≤ at → drop at (bytes_of ms) ≡ []
none_left ms at h = let past : length (bytes_of ms) ≤ at = omega (arith, length-map ms (λ (w : Bor (List ℕ)). w.now)) in drop_all at (bytes_of ms) past

-- ---- the greatest in short

or_parts : (a b : Bool) → (a || b) ≡ false → (a ≡ false) × (b ≡ false)
or_parts true b h = cc
or_parts false b h = (refl, h)

not_over : (n : ℕ) → nat_lt 17592186044416000000 n ≡ false → n ≤ 17592186044416000000
not_over n h = ltb-false 17592186044416000000 n h

greatest_low : (ws : List (List ℕ)) → list_any is_over ws ≡ false → greatest (map value ws) ≤ 17592186044416000000
greatest_low [] h = omega arith
greatest_low (w ∷ ws) h =
    let both = or_parts (is_over w) (list_any is_over ws) h in
    let rest = greatest_low ws both.1 in
    let here = not_over (value w) both.0 in
    omega arith

exact_short : (a b : Bool) (m g : ℕ) → (b ≡ false → short g ≡ g) → (if a || b then 0 else m + short g) ≡ (if a || b then 0 else m + g)
exact_short true b m g f = refl
exact_short false true m g f = refl
exact_short false false m g f = ap (λ x. m + x) (f refl)

pub largest_seen : (a over : Bool) (m size : ℕ) (ws : List (List ℕ)) → size ≡ short (greatest (map value ws)) → over ≡ list_any is_over ws → seen (a || over) (m + size) ≡ seen (a || list_any is_over ws) (m + greatest (map value ws))
largest_seen a over m size ws is any =
    let g = greatest (map value ws) in
    let b = list_any is_over ws in
    let last : (m + short g) % 1000000 ≡ (m + g) % 1000000 = add-mod m (short g) 1000000 ∙ ap (λ x. (m % 1000000 + x) % 1000000) (six-short g) ∙ sym (add-mod m g 1000000) in
    ap (λ (x : Bool). seen (a || x) (m + size)) any ∙ ap (λ (x : ℕ). seen (a || b) (m + x)) is
    ∙ seen_eq (a || b) (a || b) ((m + short g) % 1000000) ((m + g) % 1000000) (if a || b then 0 else m + short g) (if a || b then 0 else m + g) refl last (exact_short a b m g (λ h. short_low g (greatest_low ws h)))
