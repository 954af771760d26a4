-- What holds of each row, whatever line it stands in, holds of all.
use Rattle.std.proofs.Common.{cond, ◌≡◌, ℕ, zero, suc, ◌+◌, ◌*◌, ◌<◌, ◌≤◌, Bool, true, false, List, [], ◌∷◌, length, map, nat_lt, refl, ap, arith}
use Rattle.std.specs.Prelude.{Option, Some, None, count_by}
use Rattle.std.specs.List.{list_all, flat_map, filter_map, range_with_len}
use Rattle.std.proofs.lemmas.List.Sums.{sum_by-cons}
use Rattle.mcf_limits.specs.declared.TheConstants.{MAX_TOTAL}
use Rattle.unit_scale.specs.declared.modes.ModuleMode.{ModuleMode}
use Rattle.unit_scale.specs.declared.modes.ModuleMode.TheVariants.{Ignore, Largest, Sum}
use Rattle.sndlib_grammar.specs.Rows.{NetLink, NetDemand}
use Rattle.sndlib_grammar.specs.Canonical.{link_without_line, demand_without_line}
use Rattle.unit_scale.specs.Units.{most}
use Rattle.unit_scale.specs.Sizes.{capacity, counted, serves, is_fine_link, is_fine_demand, is_left_out}
use Rattle.unit_scale.specs.Scaling.{first_line, first_large, is_large_link, counted_units, kept_from, has_hops}
use Rattle.net_gen.proofs.Words.{nat_lt-false}
use Rattle.net_gen.proofs.Rows.{IsWholeLink, IsWholeDemand}

abbrev pub Each : {X : Type 0} → (X → Type 0) → List X → Type 0
Each P [] = Unit {0}
Each P (x ∷ xs) = P x × Each P xs

pub each_back : {X : Type 0} (P : X → Type 0) (f : X → X) → ((x : X) → P (f x) → P x) → (xs : List X) → Each P (map f xs) → Each P xs
each_back P f back [] e = tt
each_back P f back (x ∷ xs) e = (back x e.0, each_back P f back xs e.1)

pub each_along : {X : Type 0} (P : X → Type 0) (f : X → X) → ((x : X) → P x → P (f x)) → (xs : List X) → Each P xs → Each P (map f xs)
each_along P f along [] e = tt
each_along P f along (x ∷ xs) e = (along x e.0, each_along P f along xs e.1)

pub each_drawn : {X : Type 0} (P : X → Type 0) (row : ℕ → X) (a n : ℕ) → ((i : ℕ) → i < a + n → P (row i)) → Each P (map row (range_with_len a n))
each_drawn P row a zero each = tt
each_drawn P row a (suc n) each = (each a (omega arith), each_drawn P row (a + 1) n (λ i lt. each i (omega (arith, lt))))

-- ---- links

pub fine_links : (mode : ModuleMode) (ls : List NetLink) → Each (IsWholeLink mode) ls → first_line (is_fine_link mode) (λ l. l.line) ls ≡ None
fine_links mode [] e = refl
fine_links mode (l ∷ ls) e = rw (e.0.fine) (fine_links mode ls e.1)

pub small_links : (mode : ModuleMode) (ls : List NetLink) → Each (IsWholeLink mode) ls → first_line (is_large_link mode 0) (λ l. l.line) ls ≡ None
small_links mode [] e = refl
small_links mode (l ∷ ls) e = rw (e.0.large) (small_links mode ls e.1)

pub whole_links : (mode : ModuleMode) (ls : List NetLink) → Each (IsWholeLink mode) ls → list_all (serves 0) (map (capacity mode) ls) ≡ true
whole_links mode [] e = refl
whole_links mode (l ∷ ls) e = rw (e.0.whole) (whole_links mode ls e.1)

-- ---- demands

pub fine_demands : (ds : List NetDemand) → Each IsWholeDemand ds → first_line is_fine_demand (λ d. d.line) ds ≡ None
fine_demands [] e = refl
fine_demands (d ∷ ds) e = rw (e.0.fine) (fine_demands ds e.1)

pub whole_demands : (ds : List NetDemand) → Each IsWholeDemand ds → list_all (serves 0) (map counted ds) ≡ true
whole_demands [] e = refl
whole_demands (d ∷ ds) e = rw (e.0.whole) (whole_demands ds e.1)

-- as long as ten for each demand that is left are within the limit of the total
pub small_demands : (ds : List NetDemand) (total : ℕ) → Each IsWholeDemand ds → total + 10 * length ds ≤ MAX_TOTAL → first_large 0 total ds ≡ None
small_demands [] total e room = refl
small_demands (d ∷ ds) total e room =
    let amount : nat_lt most (counted_units 0 d) ≡ false = nat_lt-false most (counted_units 0 d) (omega (arith, e.0.few)) in
    let sum : nat_lt MAX_TOTAL (total + counted_units 0 d) ≡ false = nat_lt-false MAX_TOTAL (total + counted_units 0 d) (omega (arith, e.0.few)) in
    let rest = small_demands ds (total + counted_units 0 d) e.1 (omega (arith, e.0.few)) in
    rw (e.0.over, amount, sum) rest

pub some_kept : (ds : List NetDemand) → Each IsWholeDemand ds → 1 ≤ length ds → list_all is_left_out ds ≡ false
some_kept [] e some = absurd (omega arith)
some_kept (d ∷ ds) e some = rw (e.0.kept) refl

pub all_kept : (ds : List NetDemand) (n : ℕ) → Each IsWholeDemand ds → kept_from n ds ≡ range_with_len n (length ds)
all_kept [] n e = refl
all_kept (d ∷ ds) n e = rw (e.0.kept) (ap (λ (ks : List ℕ). n ∷ ks) (all_kept ds (n + 1) e.1))

none_counted : {X : Type 0} (p : X → Bool) (x : X) (xs : List X) → p x ≡ false → count_by p xs ≡ 0 → count_by p (x ∷ xs) ≡ 0
none_counted p x xs not none = let here : cond {A = ℕ} (p x) 1 0 ≡ 0 = ap (λ (b : Bool). cond {A = ℕ} b 1 0) not in omega (arith, here, none, sum_by-cons (λ y. cond {A = ℕ} (p y) 1 0) x xs)

pub none_left : (ds : List NetDemand) → Each IsWholeDemand ds → count_by is_left_out ds ≡ 0
none_left [] e = refl
none_left (d ∷ ds) e = none_counted is_left_out d ds e.0.kept (none_left ds e.1)

pub none_bound : (ds : List NetDemand) → Each IsWholeDemand ds → count_by has_hops ds ≡ 0
none_bound [] e = refl
none_bound (d ∷ ds) e = none_counted has_hops d ds e.0.free (none_bound ds e.1)

-- ---- lines

pub link_back : (mode : ModuleMode) (l : NetLink) → IsWholeLink mode (link_without_line l) → IsWholeLink mode l
link_back Ignore l w = record { fine = w.fine; large = w.large; whole = w.whole }
link_back Largest l w = record { fine = w.fine; large = w.large; whole = w.whole }
link_back Sum l w = record { fine = w.fine; large = w.large; whole = w.whole }

pub link_along : (mode : ModuleMode) (l : NetLink) → IsWholeLink mode l → IsWholeLink mode (link_without_line l)
link_along Ignore l w = record { fine = w.fine; large = w.large; whole = w.whole }
link_along Largest l w = record { fine = w.fine; large = w.large; whole = w.whole }
link_along Sum l w = record { fine = w.fine; large = w.large; whole = w.whole }

pub demand_back : (d : NetDemand) → IsWholeDemand (demand_without_line d) → IsWholeDemand d
demand_back d w = record { fine = w.fine; over = w.over; few = w.few; kept = w.kept; whole = w.whole; free = w.free }

pub demand_along : (d : NetDemand) → IsWholeDemand d → IsWholeDemand (demand_without_line d)
demand_along d w = record { fine = w.fine; over = w.over; few = w.few; kept = w.kept; whole = w.whole; free = w.free }

-- ---- one row for each

pub flat_along : {X Y : Type 0} (f : X → List Y) (w : X → X) → ((x : X) → f (w x) ≡ f x) → (xs : List X) → flat_map f (map w xs) ≡ flat_map f xs
flat_along f w same [] = refl
flat_along f w same (x ∷ xs) = rw (same x, flat_along f w same xs) refl

pub filter_along : {X Y : Type 0} (f : X → Option Y) (w : X → X) → ((x : X) → f (w x) ≡ f x) → (xs : List X) → filter_map f (map w xs) ≡ filter_map f xs
filter_along f w same [] = refl
filter_along f w same (x ∷ xs) = rw (same x, filter_along f w same xs) refl

pub flat_drawn : {X Y : Type 0} (f : X → List Y) (row : ℕ → X) (ys : ℕ → List Y) (a n : ℕ) → ((i : ℕ) → i < a + n → f (row i) ≡ ys i)
    → flat_map f (map row (range_with_len a n)) ≡ flat_map ys (range_with_len a n)
flat_drawn f row ys a zero is = refl
flat_drawn f row ys a (suc n) is = rw (is a (omega arith), flat_drawn f row ys (a + 1) n (λ i lt. is i (omega (arith, lt)))) refl

pub filter_drawn : {X Y : Type 0} (f : X → Option Y) (row : ℕ → X) (y : ℕ → Y) (a n : ℕ) → ((i : ℕ) → i < a + n → f (row i) ≡ Some (y i)) → filter_map f (map row (range_with_len a n)) ≡ map y (range_with_len a n)
filter_drawn f row y a zero is = refl
filter_drawn f row y a (suc n) is = rw (is a (omega arith), filter_drawn f row y (a + 1) n (λ i lt. is i (omega (arith, lt)))) refl
