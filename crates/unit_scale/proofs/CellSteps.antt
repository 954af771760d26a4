-- The loop over links that makes the cells.
use Rattle.std.proofs.Common.{◌≡◌, ℕ, ◌+◌, ◌-◌, ◌/◌, ◌^◌, ◌≤◌, ◌<◌, List, [], ◌∷◌, ◌++◌, length, take, drop, get_or, map, Some, None, true, false, Bool, arith, refl, ap, sym, ◌∙◌, zero, suc, if◌then◌else◌, ◌||◌, nat_lt}
use Rattle.std.specs.List.{flat_map}
use Rattle.std.proofs.lemmas.List.{take_all, length-map, take_more, append-nil}
use Rattle.std.proofs.lemmas.List.Concat.{flat_map-append}
use Rattle.std.proofs.Math.ListN.{get_or-map}
use Rattle.flow_model.specs.declared.net.Cell.{Cell}
use Rattle.sndlib_grammar.specs.Rows.{NetLink, no_link}
use Rattle.sndlib_grammar.specs.declared.refusal.NetKind.TheVariants.{TooLarge}
use Rattle.unit_scale.specs.Scaling.{first_line, is_large_link, cells_of_link, link_cells}
use Rattle.unit_scale.specs.Sizes.{capacity, in_units}
use Rattle.unit_scale.specs.Seen.{Seen, seen, seen_size, seen_link, link_over}
use Rattle.unit_scale.specs.Stages.{Faulted, AreLinkSizes}
use Rattle.unit_scale.specs.declared.options.NetOptions.{NetOptions}
use Rattle.unit_scale.specs.declared.links.LinkSize.{LinkSize}
use Rattle.unit_scale.specs.declared.refusal.ScaleEnd.{ScaleEnd}
use Rattle.unit_scale.specs.declared.refusal.ScaleEnd.TheVariants.{Refused}
use Rattle.unit_scale.proofs.RowSteps.{passed, found, ended}

pub in_range : {X : Type 0} (xs : List X) (i : ℕ) (a b : X) → i < length xs → get_or xs i a ≡ get_or xs i b
in_range [] i a b h = absurd (omega arith)
in_range (x ∷ xs) zero a b h = refl
in_range (x ∷ xs) (suc i) a b h = in_range xs i a b (omega arith)

pub same_length : {X Y Z : Type 0} (f : X → Z) (g : Y → Z) (xs : List X) (ys : List Y) → map f xs ≡ map g ys → length xs ≡ length ys
same_length f g xs ys e = sym (length-map xs f) ∙ ap length e ∙ length-map ys g

pub seen_at : {X Y Z : Type 0} (f : X → Z) (g : Y → Z) (xs : List X) (ys : List Y) (i : ℕ) (x : X) (y : Y) → map f xs ≡ map g ys → i < length ys → f (get_or xs i x) ≡ g (get_or ys i y)
seen_at f g xs ys i x y e h =
    let l : i < length (map g ys) = omega (arith, length-map ys g) in
    sym (get_or-map f xs i x) ∙ ap (λ zs. get_or zs i (f x)) e ∙ in_range (map g ys) i (f x) (g y) l ∙ get_or-map g ys i y

exact_div : (a b : Bool) (m n u : ℕ) → a ≡ b → (if a then 0 else m) ≡ (if b then 0 else n) → (a || nat_lt 17592186044416 (m / u)) ≡ (b || nat_lt 17592186044416 (n / u))
exact_div true true m n u e f = refl
exact_div true false m n u e f = cc
exact_div false true m n u e f = cc
exact_div false false m n u e f = ap (λ x. nat_lt 17592186044416 (x / u)) f

exact_when : (a b : Bool) (m n u : ℕ) → (a || nat_lt 17592186044416 (m / u)) ≡ false → a ≡ b → (if a then 0 else m) ≡ (if b then 0 else n) → m ≡ n
exact_when true b m n u h e f = cc
exact_when false true m n u h e f = cc
exact_when false false m n u h e f = f

pub same_large : (a b : Bool) (m n u : ℕ) → seen a m ≡ seen b n → (a || nat_lt 17592186044416 (m / u)) ≡ (b || nat_lt 17592186044416 (n / u))
same_large a b m n u e = exact_div a b m n u (ap (λ (s : Seen). s.over) e) (ap (λ (s : Seen). s.exact) e)

pub same_exact : (a b : Bool) (m n u : ℕ) → seen a m ≡ seen b n → (a || nat_lt 17592186044416 (m / u)) ≡ false → m ≡ n
same_exact a b m n u e h = exact_when a b m n u h (ap (λ (s : Seen). s.over) e) (ap (λ (s : Seen). s.exact) e)

pub record InCells (o : NetOptions) (s : ℕ) (links : List NetLink) (zs : List LinkSize) (i end unit : ℕ) (cs : List Cell) : Type 0 where
  pub all : end ≡ length links
  pub unit_is : unit ≡ 10 ^ (6 - s)
  pub sizes : AreLinkSizes o.modules links zs
  pub count : length zs ≡ length links
  pub passed : first_line (is_large_link o.modules s) (λ l. l.line) links ≡ first_line (is_large_link o.modules s) (λ l. l.line) (drop i links)
  pub cells : cs ≡ flat_map (cells_of_link o s) (take i links)

abbrev pub no_size : LinkSize
no_size = record { millionths = 0; over = false }

large_is : (o : NetOptions) (s unit : ℕ) (z : LinkSize) (l : NetLink) → unit ≡ 10 ^ (6 - s) → seen_size z ≡ seen_link o.modules l → (z.over || nat_lt 17592186044416 (z.millionths / unit)) ≡ is_large_link o.modules s l
large_is o s unit z l u e = rw u (same_large z.over (link_over o.modules l) z.millionths (capacity o.modules l) (10 ^ (6 - s)) e)

pub cells_step : (o : NetOptions) (s : ℕ) (links : List NetLink) (zs : List LinkSize) (i end unit : ℕ) (cs : List Cell) (z : LinkSize) (l : NetLink) (cap : ℕ) → InCells o s links zs i end unit cs → i < end → z ≡ get_or zs i no_size → get_or links i no_link ≡ l → (z.over || nat_lt 17592186044416 (z.millionths / unit)) ≡ false → cap ≡ z.millionths / unit → InCells o s links zs (i + 1) end unit (cs ++ link_cells o.links l.source l.target cap)
cells_step o s links zs i end unit cs z l cap v h ez el n is =
    let lt : i < length links = omega (arith, v.all, h) in
    let e : seen_size z ≡ seen_link o.modules l = ap seen_size ez ∙ seen_at seen_size (seen_link o.modules) zs links i no_size no_link v.sizes.seen lt ∙ ap (seen_link o.modules) el in
    let x : z.millionths ≡ capacity o.modules l = same_exact z.over (link_over o.modules l) z.millionths (capacity o.modules l) unit e n in
    let c : cap ≡ in_units s (capacity o.modules l) = is ∙ ap (λ y. y / unit) x ∙ ap (λ u. capacity o.modules l / u) v.unit_is in
    let k : link_cells o.links l.source l.target cap ≡ cells_of_link o s (get_or links i no_link) = ap (link_cells o.links l.source l.target) c ∙ ap (cells_of_link o s) (sym el) in
    let all : flat_map (cells_of_link o s) (take (i + 1) links) ≡ flat_map (cells_of_link o s) (take i links) ++ (cells_of_link o s (get_or links i no_link) ++ []) = ap (flat_map (cells_of_link o s)) (take_more links i no_link lt) ∙ flat_map-append (cells_of_link o s) (take i links) (get_or links i no_link ∷ []) in
    record {
      all = v.all;
      unit_is = v.unit_is;
      sizes = v.sizes;
      count = v.count;
      passed = v.passed ∙ passed (is_large_link o.modules s) (λ l. l.line) links i no_link lt (ap (is_large_link o.modules s) el ∙ sym (large_is o s unit z l v.unit_is e) ∙ n);
      cells = ap (λ (xs : List Cell). xs ++ link_cells o.links l.source l.target cap) v.cells ∙ ap (λ (ys : List Cell). flat_map (cells_of_link o s) (take i links) ++ ys) (k ∙ sym (append-nil (cells_of_link o s (get_or links i no_link)))) ∙ sym all;
    }

pub cells_found : (o : NetOptions) (s : ℕ) (links : List NetLink) (zs : List LinkSize) (i end unit : ℕ) (cs : List Cell) (z : LinkSize) (l : NetLink) (n : ℕ) (r : ScaleEnd) → InCells o s links zs i end unit cs → i < end → z ≡ get_or zs i no_size → get_or links i no_link ≡ l → (z.over || nat_lt 17592186044416 (z.millionths / unit)) ≡ true → l.line ≡ n → r ≡ Refused (record { line = n; kind = TooLarge }) → Faulted TooLarge (first_line (is_large_link o.modules s) (λ l. l.line) links) r
cells_found o s links zs i end unit cs z l n r v h ez el t m is =
    let lt : i < length links = omega (arith, v.all, h) in
    let e : seen_size z ≡ seen_link o.modules l = ap seen_size ez ∙ seen_at seen_size (seen_link o.modules) zs links i no_size no_link v.sizes.seen lt ∙ ap (seen_link o.modules) el in
    let k : first_line (is_large_link o.modules s) (λ l. l.line) links ≡ Some n = v.passed ∙ found (is_large_link o.modules s) (λ l. l.line) links i no_link lt (ap (is_large_link o.modules s) el ∙ sym (large_is o s unit z l v.unit_is e) ∙ t) ∙ ap Some (ap (λ (l : NetLink). l.line) el ∙ m) in
    rw (is, k) refl

pub cells_end : (o : NetOptions) (s : ℕ) (links : List NetLink) (zs : List LinkSize) (i end unit : ℕ) (cs : List Cell) → InCells o s links zs i end unit cs → end ≤ i → (first_line (is_large_link o.modules s) (λ l. l.line) links ≡ None) × (cs ≡ flat_map (cells_of_link o s) links)
cells_end o s links zs i end unit cs v h =
    let le : length links ≤ i = omega (arith, v.all, h) in
    (v.passed ∙ ended (is_large_link o.modules s) (λ l. l.line) links i le, rw (take_all i links le) at v.cells)
