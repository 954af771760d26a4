-- The network of rows and options, computed.
use Rattle.std.proofs.Common.{◌≡◌, ◌≢◌, ℕ, ◌+◌, ◌≤◌, ◌<◌, List, [], ◌∷◌, length, get_or, Option, Some, None, Result, Ok, Err, true, false, Bool, arith, refl, ap, sym, subst, ◌∙◌, ◌==◌, if◌then◌else◌, nat_lt, inl, inr}
use Rattle.std.specs.Prelude.{position}
use Rattle.std.specs.List.{list_all}
use Rattle.std.proofs.lemmas.List.Sums.{position_or_len_is}
use Rattle.std.proofs.lemmas.Bool.{cases_lt}
use Rattle.std.proofs.lemmas.Bool.Decides.{nat_tests}
use Rattle.sndlib_grammar.specs.Rows.{NetRows}
use Rattle.flow_model.specs.Network.{Network}
use Rattle.std.specs.Ordering.{nat_cmp}
use Rattle.std.specs.List.Sorted.{IsBinarySearchResult}
use Rattle.std.proofs.lemmas.List.Sorted.{searched}
use Rattle.unit_scale.specs.ScaledFacts.{AreKeptRows}
use Rattle.unit_scale.specs.declared.options.NetOptions.{NetOptions}
use Rattle.std.specs.Option.{option_map}
use Rattle.sndlib_grammar.specs.declared.refusal.NetRefusal.{NetRefusal}
use Rattle.sndlib_grammar.specs.declared.refusal.NetKind.{NetKind}
use Rattle.sndlib_grammar.specs.declared.refusal.NetKind.TheVariants.{TooFine, TooLarge, NoDemand}
use Rattle.unit_scale.specs.declared.modes.ModuleMode.{ModuleMode}
use Rattle.unit_scale.specs.declared.refusal.RowSort.{RowSort}
use Rattle.unit_scale.specs.declared.refusal.RowSort.TheVariants.{Link, Demand, End}
use Rattle.unit_scale.specs.declared.refusal.RowRefusal.{RowRefusal}
use Rattle.unit_scale.specs.declared.refusal.RowEnd.{RowEnd}
use Rattle.unit_scale.specs.declared.refusal.RowEnd.TheVariants.{Refused, Memory}
use Rattle.unit_scale.specs.Sizes.{serves, sizes, first_serving, decimals_of, AreDecimals, is_fine_link, is_fine_demand}
use Rattle.unit_scale.specs.Scaling.{ScaledNet, net_of, scaled_with, scaled_of, unless_refused, refusal, refused, first_line, first_large, is_large_link, no_demand, or_else}
use Rattle.unit_scale.specs.Sorts.{sorted, refused_row, unless_refused_row, scaled_at, ScalesAt, ScalesByParts}
use Rattle.unit_scale.proofs.Decimals.{six_serves}
use Rattle.unit_scale.proofs.Composition.{decimals_one}

-- none below a number serves
abbrev NoneBelow : List ℕ → ℕ → Type 0
NoneBelow all s = (t : ℕ) → t < s → list_all (serves t) all ≡ false

one_more : (all : List ℕ) (s : ℕ) → NoneBelow all s → list_all (serves s) all ≡ false → NoneBelow all (s + 1)
one_more all s h e t lt = elim (cases_lt t s) [ inl below ↦ h t below | inr same ↦ (let is : s ≡ t = omega arith in subst (λ n. list_all (serves n) all ≡ false) is e) ]

tries : (all : List ℕ) (s : ℕ) (more : List ℕ) → s ≤ 6 → NoneBelow all s → (NoneBelow all (s + 1) → AreDecimals all (first_serving more all)) → AreDecimals all (first_serving (s ∷ more) all)
tries all s more le h rest =
    let go = elim (list_all (serves s) all) as (λ (b : Bool). list_all (serves s) all ≡ b → AreDecimals all (if b then s else first_serving more all))
    [ true ↦ λ e. record { within = le; serve = e; least = h } | false ↦ λ e. rest (one_more all s h e) ] in
    go refl

pub decimals_are : (all : List ℕ) → AreDecimals all (decimals_of all)
decimals_are all =
    tries all 0 (1 ∷ 2 ∷ 3 ∷ 4 ∷ 5 ∷ []) (omega arith) (λ t lt. absurd (omega arith)) (λ h0.
    tries all 1 (2 ∷ 3 ∷ 4 ∷ 5 ∷ []) (omega arith) h0 (λ h1.
    tries all 2 (3 ∷ 4 ∷ 5 ∷ []) (omega arith) h1 (λ h2.
    tries all 3 (4 ∷ 5 ∷ []) (omega arith) h2 (λ h3.
    tries all 4 (5 ∷ []) (omega arith) h3 (λ h4.
    tries all 5 [] (omega arith) h4 (λ h5. record { within = omega arith; serve = six_serves all; least = h5 }))))))

pub decimals_unique : (all : List ℕ) (s : ℕ) → AreDecimals all s → s ≡ decimals_of all
decimals_unique all s h = decimals_one all s (decimals_of all) h (decimals_are all)

scaled_is : (rows : NetRows) (o : NetOptions) (n : ScaledNet) (s : ℕ) → n.options ≡ o → n.net ≡ net_of o s rows → n.decimals ≡ s → n.kept ≡ (scaled_with o s rows).kept → n.left ≡ (scaled_with o s rows).left → n.hops ≡ (scaled_with o s rows).hops → n ≡ scaled_with o s rows
scaled_is rows o n s a b c d e f =
    let m = scaled_with o s rows in
    ap (λ (x : NetOptions). record { options = x; net = n.net; decimals = n.decimals; kept = n.kept; left = n.left; hops = n.hops }) a
    ∙ ap (λ (x : Network). record { options = m.options; net = x; decimals = n.decimals; kept = n.kept; left = n.left; hops = n.hops }) b
    ∙ ap (λ (x : ℕ). record { options = m.options; net = m.net; decimals = x; kept = n.kept; left = n.left; hops = n.hops }) c
    ∙ ap (λ (x : List ℕ). record { options = m.options; net = m.net; decimals = m.decimals; kept = x; left = n.left; hops = n.hops }) d
    ∙ ap (λ (x : ℕ). record { options = m.options; net = m.net; decimals = m.decimals; kept = m.kept; left = x; hops = n.hops }) e
    ∙ ap (λ (x : ℕ). record { options = m.options; net = m.net; decimals = m.decimals; kept = m.kept; left = m.left; hops = x }) f

-- ---- with the sort of row, and without

without_sort : (sort : RowSort) (x : Option NetRefusal) (y : Option NetRefusal) (z : Option RowRefusal) → y ≡ option_map (λ (r : RowRefusal). r.refusal) z → or_else x y ≡ option_map (λ (r : RowRefusal). r.refusal) (or_else (sorted sort x) z)
without_sort sort None y z e = e
without_sort sort (Some f) y z e = refl

both_rows : (kind : NetKind) (x y : Option ℕ) (z : Option NetRefusal) → or_else (refused kind (or_else x y)) z ≡ or_else (refused kind x) (or_else (refused kind y) z)
both_rows kind None y z = refl
both_rows kind (Some n) y z = refl

end_sort : (x : Option NetRefusal) → x ≡ option_map (λ (r : RowRefusal). r.refusal) (sorted End x)
end_sort None = refl
end_sort (Some f) = refl

-- the refusal is that of the row
refusal-row : (mode : ModuleMode) (s : ℕ) (rows : NetRows) → refusal mode s rows ≡ option_map (λ (r : RowRefusal). r.refusal) (refused_row mode s rows)
refusal-row mode s rows =
    let fl = first_line (is_fine_link mode) (λ l. l.line) rows.links in
    let fd = first_line is_fine_demand (λ d. d.line) rows.demands in
    let ll = first_line (is_large_link mode s) (λ l. l.line) rows.links in
    let ld = first_large s 0 rows.demands in
    let last = refused NoDemand (no_demand rows) in
    let end = end_sort last in
    let d = without_sort Demand (refused TooLarge ld) last (sorted End last) end in
    let l = both_rows TooLarge ll ld last ∙ without_sort Link (refused TooLarge ll) (or_else (refused TooLarge ld) last) (or_else (sorted Demand (refused TooLarge ld)) (sorted End last)) d in
    let large = or_else (refused TooLarge (or_else ll ld)) last in
    let rest = or_else (sorted Link (refused TooLarge ll)) (or_else (sorted Demand (refused TooLarge ld)) (sorted End last)) in
    both_rows TooFine fl fd large ∙ without_sort Link (refused TooFine fl) (or_else (refused TooFine fd) large) (or_else (sorted Demand (refused TooFine fd)) rest) (without_sort Demand (refused TooFine fd) large rest l)

none_row : (z : Option RowRefusal) → option_map (λ (r : RowRefusal). r.refusal) z ≡ None → z ≡ None
none_row None e = refl
none_row (Some r) e = cc

some_row : (n : ScaledNet) (z : Option RowRefusal) (r : RowRefusal) → unless_refused_row n z ≡ Err r → z ≡ Some r
some_row n None r e = cc
some_row n (Some f) r e = (let same : f ≡ r = cc in ap (λ (x : RowRefusal). Some x) same)

no_row : (n m : ScaledNet) (z : Option RowRefusal) → unless_refused_row n z ≡ Ok m → (z ≡ None) × (n ≡ m)
no_row n m None e = (refl, cc)
no_row n m (Some f) e = cc

pub scales : (rows : NetRows) (o : NetOptions) (r : Result ScaledNet RowEnd) → ScalesByParts rows o r → ScalesAt rows o r
scales rows o (Ok n) h =
    let s = decimals_of (sizes o.modules rows) in
    let is : n.decimals ≡ s = decimals_unique (sizes o.modules rows) n.decimals h.decimals in
    let fine : refusal o.modules s rows ≡ None = subst (λ k. refusal o.modules k rows ≡ None) is h.accepted in
    let none : refused_row o.modules s rows ≡ None = none_row (refused_row o.modules s rows) (sym (refusal-row o.modules s rows) ∙ fine) in
    let net : n ≡ scaled_with o s rows = scaled_is rows o n s h.options (h.net ∙ ap (λ k. net_of o k rows) is) is h.kept h.left h.hops in
    ap (unless_refused_row (scaled_with o s rows)) none ∙ ap (λ (m : ScaledNet). Ok m) (sym net)
scales rows o (Err Memory) h = tt
scales rows o (Err (Refused r)) h =
    let s = decimals_of (sizes o.modules rows) in
    ap (unless_refused_row (scaled_with o s rows)) (h s (decimals_are (sizes o.modules rows)))

-- what is scaled with the sort of its row is scaled without it
pub accepted_at : (rows : NetRows) (o : NetOptions) (n : ScaledNet) → scaled_at rows o ≡ Ok n → scaled_of rows o ≡ Ok n
accepted_at rows o n h =
    let s = decimals_of (sizes o.modules rows) in
    let is = no_row (scaled_with o s rows) n (refused_row o.modules s rows) h in
    ap (unless_refused (scaled_with o s rows)) (refusal-row o.modules s rows ∙ ap (option_map (λ (r : RowRefusal). r.refusal)) is.0) ∙ ap (λ (m : ScaledNet). Ok m) is.1

pub refused_at_row : (rows : NetRows) (o : NetOptions) (r : RowRefusal) (found : Result ScaledNet RowEnd) → ScalesAt rows o found → found ≡ Err (Refused r) → scaled_of rows o ≡ Err r.refusal
refused_at_row rows o r found has e =
    let h : scaled_at rows o ≡ Err r = subst (ScalesAt rows o) e has in
    let s = decimals_of (sizes o.modules rows) in
    let is = some_row (scaled_with o s rows) (refused_row o.modules s rows) r h in
    ap (unless_refused (scaled_with o s rows)) (refusal-row o.modules s rows ∙ ap (option_map (λ (x : RowRefusal). x.refusal)) is)

-- ---- a commodity by its demand

not_same : (a b : ℕ) → a ≢ b → (a == b) ≡ false
not_same a b h = grind (arith, nat_tests)

same : (a b : ℕ) → a ≡ b → (a == b) ≡ true
same a b h = grind (arith, nat_tests)

is_below : (a b : ℕ) → a < b → nat_lt a b ≡ true
is_below a b h = grind (arith, nat_tests)

is_not_below : (a : ℕ) → nat_lt a a ≡ false
is_not_below a = grind (arith, nat_tests)

pub found_at : (xs : List ℕ) (x i : ℕ) → i < length xs → get_or xs i 0 ≡ x → ((k : ℕ) → k < i → get_or xs k 0 < get_or xs i 0) → Some i ≡ position (λ row. row == x) xs
found_at xs x i h is before =
    let p = position_or_len_is (λ row. row == x) xs i 0 (omega arith) (λ k lt. not_same (get_or xs k 0) x (apart k (before k lt))) (λ lt. same (get_or xs i 0) x is) in
    sym (ap (λ n. if nat_lt n (length xs) then Some n else None) p ∙ ap (λ (b : Bool). if b then Some i else None) (is_below i (length xs) h))
  where
    apart : (k : ℕ) → get_or xs k 0 < get_or xs i 0 → get_or xs k 0 ≢ x
    apart k lt e = absurd (omega arith)

pub not_found : (xs : List ℕ) (x : ℕ) → ((k : ℕ) → k < length xs → get_or xs k 0 ≢ x) → None ≡ position (λ row. row == x) xs
not_found xs x none =
    let p = position_or_len_is (λ row. row == x) xs (length xs) 0 (omega arith) (λ k lt. not_same (get_or xs k 0) x (none k lt)) (λ lt. absurd (omega arith)) in
    sym (ap (λ n. if nat_lt n (length xs) then Some n else None) p ∙ ap (λ (b : Bool). if b then Some (length xs) else None) (is_not_below (length xs)))

rise_le : (xs : List ℕ) → AreKeptRows xs → (i j : ℕ) → i ≤ j → j < length xs → get_or xs i 0 ≤ get_or xs j 0
rise_le xs h i j le lt = elim (cases_lt i j) [ inl below ↦ (let up = h.rise i j below lt in omega arith) | inr above ↦ (let is : i ≡ j = omega arith in let e = ap (λ k. get_or xs k 0) is in omega arith) ]

pub commodity_found : (xs : List ℕ) (x i : ℕ) → AreKeptRows xs → IsBinarySearchResult (λ y. nat_cmp y x) xs (Ok i) → Some i ≡ position (λ row. row == x) xs
commodity_found xs x i h r =
    let at = searched xs x (Ok i) r (rise_le xs h) in
    found_at xs x i at.0 at.1 (λ k lt. h.rise k i lt at.0)

pub commodity_none : (xs : List ℕ) (x i : ℕ) → AreKeptRows xs → IsBinarySearchResult (λ y. nat_cmp y x) xs (Err i) → None ≡ position (λ row. row == x) xs
commodity_none xs x i h r =
    let at = searched xs x (Err i) r (rise_le xs h) in
    not_found xs x (λ k lt. other k lt at.1 at.2)
  where
    other : (k : ℕ) → k < length xs → ((k : ℕ) → k < i → get_or xs k 0 < x) → ((k : ℕ) → i ≤ k → k < length xs → x < get_or xs k 0) → get_or xs k 0 ≢ x
    other k lt low high e = elim (cases_lt k i) [ inl below ↦ (let b = low k below in absurd (omega arith)) | inr above ↦ (let b = high k above lt in absurd (omega arith)) ]
