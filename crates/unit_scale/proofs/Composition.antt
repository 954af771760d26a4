-- From the stages to the whole.
use Rattle.std.proofs.Common.{◌≡◌, ◌⊎◌, inl, inr, ℕ, ◌+◌, ◌-◌, ◌*◌, ◌/◌, ◌%◌, ◌^◌, ◌≤◌, List, [], ◌∷◌, ◌++◌, map, Option, Some, None, true, false, Bool, arith, refl, ap, sym, subst, ◌∙◌, ◌==◌, ◌&&◌, if◌then◌else◌, length, Err}
use Rattle.std.specs.List.{list_all, filter_map}
use Rattle.std.proofs.lemmas.List.{map-append}
use Rattle.std.proofs.lemmas.Nat.{pow-add}
use Rattle.std.proofs.Math.Nat.{add-mul-mod_self_left, mod-add-div'}
use Rattle.std.proofs.lemmas.Bool.{cases_lt}
use Rattle.std.proofs.lemmas.Bool.Decides.{nat_tests}
use Rattle.flow_model.specs.declared.net.Cell.{Cell}
use Rattle.flow_model.specs.declared.net.Commodity.{Commodity}
use Rattle.flow_model.specs.Network.{Network}
use Rattle.sndlib_grammar.specs.Rows.{NetLink, NetDemand, NetRows}
use Rattle.sndlib_grammar.specs.declared.refusal.NetRefusal.{NetRefusal}
use Rattle.sndlib_grammar.specs.declared.refusal.NetKind.TheVariants.{TooFine, TooLarge, NoDemand}
use Rattle.unit_scale.specs.declared.options.NetOptions.{NetOptions}
use Rattle.unit_scale.specs.declared.modes.ModuleMode.{ModuleMode}
use Rattle.unit_scale.specs.declared.links.LinkSize.{LinkSize}
use Rattle.unit_scale.specs.declared.demands.DemandSize.{DemandSize}
use Rattle.unit_scale.specs.Sizes.{serves, AreDecimals, sizes, capacity, counted, amount, is_left_out, is_fine_link, is_fine_demand}
use Rattle.unit_scale.specs.Seen.{Seen, SeenDemand, seen_size, seen_link, seen_amount, seen_demand}
use Rattle.unit_scale.specs.Stages.{Faulted, AreLinkSizes, AreDemandSizes}
use Rattle.unit_scale.specs.Sorts.{sorted, refused_row, IsRefusedRow, ScalesByParts as Scales, end_at}
use Rattle.unit_scale.specs.declared.refusal.RowSort.{RowSort}
use Rattle.unit_scale.specs.declared.refusal.RowSort.TheVariants.{Link, Demand, End}
use Rattle.unit_scale.specs.declared.refusal.RowRefusal.{RowRefusal}
use Rattle.unit_scale.specs.declared.refusal.ScaleEnd.{ScaleEnd}
use Rattle.unit_scale.specs.declared.refusal.ScaleEnd.TheVariants.{Refused, Memory}
use Rattle.unit_scale.specs.Scaling.{first_line, first_large, is_large_link, refused, refusal, no_demand, or_else, commodity_of}

-- a rest by a factor is told by the rest
rest_of_rest : (n a b : ℕ) → n % (a * b) % a ≡ n % a
rest_of_rest n a b =
    let e : n ≡ n % (a * b) + a * (b * (n / (a * b))) = omega (arith, mod-add-div' n (a * b)) in
    sym (add-mul-mod_self_left (n % (a * b)) a (b * (n / (a * b)))) ∙ ap (λ x. x % a) (sym e)

serves_last : (s n : ℕ) → s ≤ 6 → serves s (n % 1000000) ≡ serves s n
serves_last s n h =
    let six : 6 ≡ 6 - s + s = omega arith in
    let e : 1000000 ≡ 10 ^ (6 - s) * 10 ^ s = ap (λ x. 10 ^ x) six ∙ pow-add 10 (6 - s) s in
    ap (λ x. x == 0) (ap (λ m. n % m % 10 ^ (6 - s)) e ∙ rest_of_rest n (10 ^ (6 - s)) (10 ^ s))

all_serve_last : (s : ℕ) (xs : List ℕ) → s ≤ 6 → list_all (serves s) (map (λ n. n % 1000000) xs) ≡ list_all (serves s) xs
all_serve_last s [] h = refl
all_serve_last s (x ∷ xs) h = ap (λ b. b && list_all (serves s) (map (λ n. n % 1000000) xs)) (serves_last s x h) ∙ ap (λ b. serves s x && b) (all_serve_last s xs h)

serve_same : (s : ℕ) (xs ys : List ℕ) → s ≤ 6 → map (λ n. n % 1000000) xs ≡ map (λ n. n % 1000000) ys → list_all (serves s) xs ≡ list_all (serves s) ys
serve_same s xs ys h e = sym (all_serve_last s xs h) ∙ ap (list_all (serves s)) e ∙ all_serve_last s ys h

decimals_same : (xs ys : List ℕ) (s : ℕ) → map (λ n. n % 1000000) xs ≡ map (λ n. n % 1000000) ys → AreDecimals xs s → AreDecimals ys s
decimals_same xs ys s e d = record {
  within = d.within;
  serve = sym (serve_same s xs ys d.within e) ∙ d.serve;
  least = λ t h. sym (serve_same t xs ys (omega (arith, d.within, h)) e) ∙ d.least t h;
}

links_last : (mode : ModuleMode) (zs : List LinkSize) → map (λ n. n % 1000000) (map (λ z. z.millionths) zs) ≡ map (λ (z : Seen). z.last) (map seen_size zs)
links_last mode [] = refl
links_last mode (z ∷ zs) = ap (λ xs. (z.millionths % 1000000) ∷ xs) (links_last mode zs)

links_last_of : (mode : ModuleMode) (ls : List NetLink) → map (λ n. n % 1000000) (map (capacity mode) ls) ≡ map (λ (z : Seen). z.last) (map (seen_link mode) ls)
links_last_of mode [] = refl
links_last_of mode (l ∷ ls) = ap (λ xs. (capacity mode l % 1000000) ∷ xs) (links_last_of mode ls)

abbrev last_of : SeenDemand → ℕ
last_of z = if z.left then 0 else z.size.last

choice_last : (left : Bool) (n : ℕ) → (if left then 0 else n) % 1000000 ≡ (if left then 0 else n % 1000000)
choice_last true n = refl
choice_last false n = refl

demands_last : (zs : List DemandSize) → map (λ n. n % 1000000) (map (λ z. if z.left then 0 else z.millionths) zs) ≡ map last_of (map seen_amount zs)
demands_last [] = refl
demands_last (z ∷ zs) = ap (λ x. x ∷ map (λ n. n % 1000000) (map (λ z. if z.left then 0 else z.millionths) zs)) (choice_last z.left z.millionths) ∙ ap (λ xs. last_of (seen_amount z) ∷ xs) (demands_last zs)

demands_last_of : (ds : List NetDemand) → map (λ n. n % 1000000) (map counted ds) ≡ map last_of (map seen_demand ds)
demands_last_of [] = refl
demands_last_of (d ∷ ds) = ap (λ x. x ∷ map (λ n. n % 1000000) (map counted ds)) (choice_last (is_left_out d) (amount d)) ∙ ap (λ xs. last_of (seen_demand d) ∷ xs) (demands_last_of ds)

-- the decimals of the kept sizes are those of the rows
pub decimals_of_rows : (mode : ModuleMode) (rows : NetRows) (zs : List LinkSize) (ws : List DemandSize) (s : ℕ) → AreLinkSizes mode rows.links zs → AreDemandSizes rows.demands ws → AreDecimals (map (λ z. z.millionths) zs ++ map (λ z. if z.left then 0 else z.millionths) ws) s → AreDecimals (sizes mode rows) s
decimals_of_rows mode rows zs ws s a b d =
    let l = links_last mode zs ∙ ap (map (λ (z : Seen). z.last)) a.seen ∙ sym (links_last_of mode rows.links) in
    let r = demands_last ws ∙ ap (map last_of) b.seen ∙ sym (demands_last_of rows.demands) in
    let left = map-append (λ n. n % 1000000) (map (λ z. z.millionths) zs) (map (λ z. if z.left then 0 else z.millionths) ws) in
    let right = map-append (λ n. n % 1000000) (map (capacity mode) rows.links) (map counted rows.demands) in
    decimals_same _ _ s (left ∙ ap (λ x. x ++ map (λ n. n % 1000000) (map (λ z. if z.left then 0 else z.millionths) ws)) l ∙ ap (λ x. map (λ n. n % 1000000) (map (capacity mode) rows.links) ++ x) r ∙ sym right) d

true_false : (b : Bool) → b ≡ true → b ≡ false → ⊥
true_false b p q = cc

-- there is one least number of decimals
pub decimals_one : (xs : List ℕ) (s t : ℕ) → AreDecimals xs s → AreDecimals xs t → s ≡ t
decimals_one xs s t a b = elim (cases_lt s t) [
  | inl below ↦ absurd (true_false _ a.serve (b.least s below))
  | inr other ↦ elim (cases_lt t s) [
    | inl above ↦ absurd (true_false _ b.serve (a.least t above))
    | inr same ↦ omega arith
  ]
]

-- what is refused with these decimals is refused
pub refused_at : (rows : NetRows) (o : NetOptions) (r : RowRefusal) (s : ℕ) → AreDecimals (sizes o.modules rows) s → refused_row o.modules s rows ≡ Some r → IsRefusedRow rows o r
refused_at rows o r s d e t f = subst (λ x. refused_row o.modules x rows ≡ Some r) (decimals_one (sizes o.modules rows) s t d f) e

-- no row has the fault of an earlier stage
pub record AreFine (mode : ModuleMode) (rows : NetRows) : Type 0 where
  pub links : first_line (is_fine_link mode) (λ l. l.line) rows.links ≡ None
  pub demands : first_line is_fine_demand (λ d. d.line) rows.demands ≡ None

abbrev at_sort : RowSort → NetRefusal → RowRefusal
at_sort sort f = record { sort = sort; refusal = f }

-- what is refused first
first_row : (sort : RowSort) (x : Option NetRefusal) (z : Option RowRefusal) (f : NetRefusal) → x ≡ Some f → or_else (sorted sort x) z ≡ Some (at_sort sort f)
first_row sort x z f e = ap (λ (o : Option NetRefusal). or_else (sorted sort o) z) e

fine_link : (mode : ModuleMode) (rows : NetRows) (s : ℕ) (f : NetRefusal) → refused TooFine (first_line (is_fine_link mode) (λ l. l.line) rows.links) ≡ Some f → refused_row mode s rows ≡ Some (at_sort Link f)
fine_link mode rows s f e = first_row Link _ _ f e

fine_demand : (mode : ModuleMode) (rows : NetRows) (s : ℕ) (f : NetRefusal) → first_line (is_fine_link mode) (λ l. l.line) rows.links ≡ None → refused TooFine (first_line is_fine_demand (λ d. d.line) rows.demands) ≡ Some f → refused_row mode s rows ≡ Some (at_sort Demand f)
fine_demand mode rows s f n e = rw n (first_row Demand _ _ f e)

large_link : (mode : ModuleMode) (rows : NetRows) (s : ℕ) (f : NetRefusal) → AreFine mode rows → refused TooLarge (first_line (is_large_link mode s) (λ l. l.line) rows.links) ≡ Some f → refused_row mode s rows ≡ Some (at_sort Link f)
large_link mode rows s f fine e = rw (fine.links, fine.demands) (first_row Link _ _ f e)

large_demand : (mode : ModuleMode) (rows : NetRows) (s : ℕ) (f : NetRefusal) → AreFine mode rows → first_line (is_large_link mode s) (λ l. l.line) rows.links ≡ None → refused TooLarge (first_large s 0 rows.demands) ≡ Some f → refused_row mode s rows ≡ Some (at_sort Demand f)
large_demand mode rows s f fine n e = rw (fine.links, fine.demands, n) (first_row Demand _ _ f e)

none_kept_row : (mode : ModuleMode) (rows : NetRows) (s : ℕ) → AreFine mode rows → first_line (is_large_link mode s) (λ l. l.line) rows.links ≡ None → first_large s 0 rows.demands ≡ None → refused_row mode s rows ≡ sorted End (refused NoDemand (no_demand rows))
none_kept_row mode rows s f n m = rw (f.links, f.demands, n, m) refl

-- nothing is refused before the end
pub none_large : (mode : ModuleMode) (rows : NetRows) (s : ℕ) → AreFine mode rows → first_line (is_large_link mode s) (λ l. l.line) rows.links ≡ None → first_large s 0 rows.demands ≡ None → refusal mode s rows ≡ refused NoDemand (no_demand rows)
none_large mode rows s f n m = rw (f.links, f.demands, n, m) refl

pub links_end : (rows : NetRows) (o : NetOptions) (end : ScaleEnd) → Faulted TooFine (first_line (is_fine_link o.modules) (λ l. l.line) rows.links) end → Scales rows o (Err (end_at Link end))
links_end rows o Memory e = tt
links_end rows o (Refused f) e = λ s d. fine_link o.modules rows s f e

pub fine_end : (rows : NetRows) (o : NetOptions) (end : ScaleEnd) → first_line (is_fine_link o.modules) (λ l. l.line) rows.links ≡ None → Faulted TooFine (first_line is_fine_demand (λ d. d.line) rows.demands) end → Scales rows o (Err (end_at Demand end))
fine_end rows o Memory n e = tt
fine_end rows o (Refused f) n e = λ s d. fine_demand o.modules rows s f n e

pub cells_end : (rows : NetRows) (o : NetOptions) (s : ℕ) (end : ScaleEnd) → AreFine o.modules rows → AreDecimals (sizes o.modules rows) s → Faulted TooLarge (first_line (is_large_link o.modules s) (λ l. l.line) rows.links) end → Scales rows o (Err (end_at Link end))
cells_end rows o s Memory f d e = tt
cells_end rows o s (Refused r) f d e = refused_at rows o (at_sort Link r) s d (large_link o.modules rows s r f e)

pub demands_end : (rows : NetRows) (o : NetOptions) (s : ℕ) (end : ScaleEnd) → AreFine o.modules rows → AreDecimals (sizes o.modules rows) s → first_line (is_large_link o.modules s) (λ l. l.line) rows.links ≡ None → Faulted TooLarge (first_large s 0 rows.demands) end → Scales rows o (Err (end_at Demand end))
demands_end rows o s Memory f d n e = tt
demands_end rows o s (Refused r) f d n e = refused_at rows o (at_sort Demand r) s d (large_demand o.modules rows s r f n e)

-- no commodity exactly where all demands are left out
none_left : (s : ℕ) (d : NetDemand) (ds : List NetDemand) (b : Bool) → is_left_out d ≡ b → filter_map (commodity_of s) (d ∷ ds) ≡ [] → (b ≡ true) × (filter_map (commodity_of s) ds ≡ [])
none_left s d ds true e h = (refl, rw e at h)
none_left s d ds false e h = let k = rw e at h in cc

pub all_left : (s : ℕ) (ds : List NetDemand) → filter_map (commodity_of s) ds ≡ [] → list_all is_left_out ds ≡ true
all_left s [] h = refl
all_left s (d ∷ ds) h =
    let n = none_left s d ds (is_left_out d) refl h in
    rw n.0 (all_left s ds n.1)

and_both : (x y : Bool) → (x && y) ≡ true → (x ≡ true) × (y ≡ true)
and_both true y e = (refl, e)
and_both false y e = cc

pub none_kept : (s : ℕ) (ds : List NetDemand) → list_all is_left_out ds ≡ true → filter_map (commodity_of s) ds ≡ []
none_kept s [] h = refl
none_kept s (d ∷ ds) h =
    let e = and_both (is_left_out d) (list_all is_left_out ds) h in
    rw e.0 (none_kept s ds e.1)

bool_cases : (b : Bool) → (b ≡ true) ⊎ (b ≡ false)
bool_cases true = inl refl
bool_cases false = inr refl

pub some_kept : (s : ℕ) (rows : NetRows) (ks : List Commodity) → ks ≡ filter_map (commodity_of s) rows.demands → false ≡ (length ks == 0) → refused NoDemand (no_demand rows) ≡ None
some_kept s rows ks e h = elim (bool_cases (list_all is_left_out rows.demands)) [
  | inl all ↦ absurd (true_false (length ks == 0) (rw (e, none_kept s rows.demands all) refl) (sym h))
  | inr some ↦ rw some refl
]

pub no_demand_at : (s : ℕ) (rows : NetRows) (ks : List Commodity) → ks ≡ filter_map (commodity_of s) rows.demands → ks ≡ [] → no_demand rows ≡ Some rows.end_line
no_demand_at s rows ks e h = rw (all_left s rows.demands (sym e ∙ h)) refl

pub decimals_deref : (zs xs : List LinkSize) (ws ys : List DemandSize) (s : ℕ) → xs ≡ zs → ys ≡ ws → AreDecimals (map (λ z. z.millionths) xs ++ map (λ z. if z.left then 0 else z.millionths) ys) s → AreDecimals (map (λ z. z.millionths) zs ++ map (λ z. if z.left then 0 else z.millionths) ws) s
decimals_deref zs xs ws ys s e f d = subst (λ ws. AreDecimals (map (λ z. z.millionths) zs ++ map (λ z. if z.left then 0 else z.millionths) ws) s) f (subst (λ zs. AreDecimals (map (λ z. z.millionths) zs ++ map (λ z. if z.left then 0 else z.millionths) ys) s) e d)

pub same_net : (n m : ℕ) (cs ds : List Cell) (ks ls : List Commodity) (net : Network) → net ≡ record { nodes = n; cells = cs; commodities = ks } → n ≡ m → cs ≡ ds → ks ≡ ls → net ≡ record { nodes = m; cells = ds; commodities = ls }
same_net n m cs ds ks ls net e p q r = rw (← p, ← q, ← r) e

pub empty_list : (ks : List Commodity) → true ≡ (length ks == 0) → ks ≡ []
empty_list [] e = refl
empty_list (k ∷ ks) e = absurd (true_false (length (k ∷ ks) == 0) (sym e) (grind (arith, nat_tests)))

pub empty_end : (rows : NetRows) (o : NetOptions) (s : ℕ) (ks : List Commodity) (end : ScaleEnd) → AreFine o.modules rows → AreDecimals (sizes o.modules rows) s → first_line (is_large_link o.modules s) (λ l. l.line) rows.links ≡ None → first_large s 0 rows.demands ≡ None → ks ≡ filter_map (commodity_of s) rows.demands → true ≡ (length ks == 0) → end ≡ Refused (record { line = rows.end_line; kind = NoDemand }) → Scales rows o (Err (end_at End end))
empty_end rows o s ks end f d n m e h is =
    let r : NetRefusal = record { line = rows.end_line; kind = NoDemand } in
    let z : refused NoDemand (no_demand rows) ≡ Some r = rw (no_demand_at s rows ks e (empty_list ks h)) refl in
    subst (λ end. Scales rows o (Err (end_at End end))) (sym is) (refused_at rows o (at_sort End r) s d (none_kept_row o.modules rows s f n m ∙ ap (sorted End) z))
