-- Rows that are the same in other lines stand for the same network, and certificates cite the same names of them.
use Rattle.std.proofs.Common.{cond, ◌≡◌, ℕ, zero, suc, ◌+◌, Bool, true, false, List, [], ◌∷◌, length, map, refl, sym, ap, subst, ◌∙◌}
use Rattle.std.specs.Prelude.{Option, Some, None, Result, Ok, count_by, slice_index_or, if◌then◌else◌}
use Rattle.std.specs.Option.{is_none}
use Rattle.std.specs.List.{list_all, flat_map}
use Rattle.std.proofs.lemmas.List.Sums.{sum_by-cons}
use Rattle.flow_model.specs.declared.net.Cell.{Cell}
use Rattle.flow_model.specs.declared.net.Commodity.{Commodity}
use Rattle.sndlib_grammar.specs.Rows.{NetLink, NetDemand, NetRows, no_demand as no_row}
use Rattle.sndlib_grammar.specs.Canonical.{link_without_line, demand_without_line, without_lines}
use Rattle.sndlib_grammar.specs.declared.refusal.NetKind.{NetKind}
use Rattle.sndlib_grammar.specs.declared.refusal.NetKind.TheVariants.{TooFine, TooLarge, NoDemand}
use Rattle.sndlib_grammar.specs.declared.refusal.NetRefusal.{NetRefusal}
use Rattle.unit_scale.specs.declared.options.NetOptions.{NetOptions}
use Rattle.unit_scale.specs.declared.modes.ModuleMode.{ModuleMode}
use Rattle.unit_scale.specs.declared.modes.ModuleMode.TheVariants.{Ignore, Largest, Sum}
use Rattle.unit_scale.specs.Sizes.{capacity, counted, decimals_of, in_units, is_fine_demand, is_fine_link, is_left_out, looked_at, sizes}
use Rattle.unit_scale.specs.Scaling.{ScaledNet, cells_of_link, commodity_of, counted_units, first_large, first_line, has_hops, is_large_demand, is_large_link, kept_from, link_cells, no_demand, or_else, refusal, refused, scaled_of, scaled_with, too_fine, too_large, unless_refused}
use Rattle.cert_lines.specs.Sheet.{demand_word, sheet_of, signed_words}
use Rattle.net_gen.proofs.Each.{flat_along, filter_along}
use Rattle.cli_laws.specs.Batched.{AreAlike}

-- the rows without their lines; the skipped sections stay
abbrev pub plain : NetRows → NetRows
plain rows = record rows { links = map link_without_line rows.links; demands = map demand_without_line rows.demands; end_line = 0 }

same_plain : (a b : NetRows) → AreAlike a b → plain a ≡ plain b
same_plain a b h = ap (λ (r : NetRows). record r { skipped = a.skipped }) h.same ∙ ap (λ (k : ℕ). record (without_lines b) { skipped = k }) h.skipped

-- ---- lists of rows without their lines

map_along : {X Y : Type 0} (f : X → Y) (w : X → X) → ((x : X) → f (w x) ≡ f x) → (xs : List X) → map f (map w xs) ≡ map f xs
map_along f w same [] = refl
map_along f w same (x ∷ xs) = rw (same x, map_along f w same xs) refl

all_along : {X : Type 0} (p : X → Bool) (w : X → X) → ((x : X) → p (w x) ≡ p x) → (xs : List X) → list_all p (map w xs) ≡ list_all p xs
all_along p w same [] = refl
all_along p w same (x ∷ xs) = rw (same x, all_along p w same xs) refl

count_along : {X : Type 0} (p : X → Bool) (w : X → X) → ((x : X) → p (w x) ≡ p x) → (xs : List X) → count_by p (map w xs) ≡ count_by p xs
count_along p w same [] = refl
count_along {X} p w same (x ∷ xs) =
    let one : X → ℕ = λ y. cond {A = ℕ} (p y) 1 0 in
    sum_by-cons one (w x) (map w xs)
    ∙ ap (λ (b : Bool). cond {A = ℕ} b 1 0 + count_by p (map w xs)) (same x)
    ∙ ap (λ (n : ℕ). one x + n) (count_along p w same xs)
    ∙ sym (sum_by-cons one x xs)

kept_along : (n : ℕ) (ds : List NetDemand) → kept_from n (map demand_without_line ds) ≡ kept_from n ds
kept_along n [] = refl
kept_along n (d ∷ ds) = ap (λ (ks : List ℕ). if is_left_out d then ks else n ∷ ks) (kept_along (n + 1) ds)

either_none : (b : Bool) (m n : ℕ) (x y : Option ℕ) → is_none x ≡ is_none y → is_none (if b then Some m else x) ≡ is_none (if b then Some n else y)
either_none true m n x y h = refl
either_none false m n x y h = h

line_along : {X : Type 0} (p : X → Bool) (line : X → ℕ) (w : X → X) → ((x : X) → p (w x) ≡ p x) → (xs : List X) → is_none (first_line p line (map w xs)) ≡ is_none (first_line p line xs)
line_along p line w same [] = refl
line_along p line w same (x ∷ xs) =
    ap (λ (b : Bool). is_none (if b then Some (line (w x)) else first_line p line (map w xs))) (same x)
    ∙ either_none (p x) (line (w x)) (line x) (first_line p line (map w xs)) (first_line p line xs) (line_along p line w same xs)

large_along : (s total : ℕ) (ds : List NetDemand) → is_none (first_large s total (map demand_without_line ds)) ≡ is_none (first_large s total ds)
large_along s total [] = refl
large_along s total (d ∷ ds) =
    either_none (is_large_demand s total d) 0 d.line (first_large s (total + counted_units s d) (map demand_without_line ds)) (first_large s (total + counted_units s d) ds)
    (large_along s (total + counted_units s d) ds)

-- ---- one row without its line

looked_same : (mode : ModuleMode) (l : NetLink) → looked_at mode (link_without_line l) ≡ looked_at mode l
looked_same Ignore l = refl
looked_same Largest l = refl
looked_same Sum l = refl

capacity_same : (mode : ModuleMode) (l : NetLink) → capacity mode (link_without_line l) ≡ capacity mode l
capacity_same mode l = refl

fine_same : (mode : ModuleMode) (l : NetLink) → is_fine_link mode (link_without_line l) ≡ is_fine_link mode l
fine_same Ignore l = refl
fine_same Largest l = refl
fine_same Sum l = refl

large_same : (mode : ModuleMode) (s : ℕ) (l : NetLink) → is_large_link mode s (link_without_line l) ≡ is_large_link mode s l
large_same Ignore s l = refl
large_same Largest s l = refl
large_same Sum s l = refl

cells_same : (o : NetOptions) (s : ℕ) (l : NetLink) → cells_of_link o s (link_without_line l) ≡ cells_of_link o s l
cells_same o s l = ap (λ (cap : ℕ). link_cells o.links l.source l.target (in_units s cap)) (capacity_same o.modules l)

-- ---- refused or not

or_none : {X : Type 0} (a b c d : Option X) → is_none a ≡ is_none c → is_none b ≡ is_none d → is_none (or_else a b) ≡ is_none (or_else c d)
or_none None b None d e f = f
or_none None b (Some y) d e f = absurd cc
or_none (Some x) b None d e f = absurd cc
or_none (Some x) b (Some y) d e f = refl

refused_none : (kind : NetKind) (a c : Option ℕ) → is_none a ≡ is_none c → is_none (refused kind a) ≡ is_none (refused kind c)
refused_none kind None None e = refl
refused_none kind None (Some y) e = absurd cc
refused_none kind (Some x) None e = absurd cc
refused_none kind (Some x) (Some y) e = refl

fine_plain : (mode : ModuleMode) (rows : NetRows) → is_none (too_fine mode (plain rows)) ≡ is_none (too_fine mode rows)
fine_plain mode rows =
    or_none
    (first_line (is_fine_link mode) (λ l. l.line) (map link_without_line rows.links)) (first_line is_fine_demand (λ d. d.line) (map demand_without_line rows.demands))
    (first_line (is_fine_link mode) (λ l. l.line) rows.links) (first_line is_fine_demand (λ d. d.line) rows.demands)
    (line_along (is_fine_link mode) (λ l. l.line) link_without_line (fine_same mode) rows.links)
    (line_along is_fine_demand (λ d. d.line) demand_without_line (λ d. refl) rows.demands)

large_plain : (mode : ModuleMode) (s : ℕ) (rows : NetRows) → is_none (too_large mode s (plain rows)) ≡ is_none (too_large mode s rows)
large_plain mode s rows =
    or_none
    (first_line (is_large_link mode s) (λ l. l.line) (map link_without_line rows.links)) (first_large s 0 (map demand_without_line rows.demands))
    (first_line (is_large_link mode s) (λ l. l.line) rows.links) (first_large s 0 rows.demands)
    (line_along (is_large_link mode s) (λ l. l.line) link_without_line (large_same mode s) rows.links)
    (large_along s 0 rows.demands)

empty_plain : (rows : NetRows) → is_none (no_demand (plain rows)) ≡ is_none (no_demand rows)
empty_plain rows =
    ap (λ (b : Bool). is_none {T = ℕ} (if b then Some 0 else None)) (all_along is_left_out demand_without_line (λ d. refl) rows.demands)
    ∙ either_none (list_all is_left_out rows.demands) 0 rows.end_line None None refl

refusal_plain : (mode : ModuleMode) (s : ℕ) (rows : NetRows) → is_none (refusal mode s (plain rows)) ≡ is_none (refusal mode s rows)
refusal_plain mode s rows =
    let fine : NetRows → Option NetRefusal = λ r. refused TooFine (too_fine mode r) in
    let large : NetRows → Option NetRefusal = λ r. refused TooLarge (too_large mode s r) in
    let none : NetRows → Option NetRefusal = λ r. refused NoDemand (no_demand r) in
    or_none (fine (plain rows)) (or_else (large (plain rows)) (none (plain rows))) (fine rows) (or_else (large rows) (none rows))
    (refused_none TooFine (too_fine mode (plain rows)) (too_fine mode rows) (fine_plain mode rows))
    (or_none (large (plain rows)) (none (plain rows)) (large rows) (none rows)
    (refused_none TooLarge (too_large mode s (plain rows)) (too_large mode s rows) (large_plain mode s rows))
    (refused_none NoDemand (no_demand (plain rows)) (no_demand rows) (empty_plain rows)))

-- ---- the network

sizes_plain : (mode : ModuleMode) (rows : NetRows) → sizes mode (plain rows) ≡ sizes mode rows
sizes_plain mode rows =
    rw (map_along (capacity mode) link_without_line (capacity_same mode) rows.links, map_along counted demand_without_line (λ d. refl) rows.demands) refl

same_scaled : (o : NetOptions) (s n : ℕ) (cs ds : List Cell) (ks ls : List Commodity) (a b : List ℕ) (l m h i : ℕ) → cs ≡ ds → ks ≡ ls → a ≡ b → l ≡ m → h ≡ i
    → (let x : ScaledNet = record { options = o; net = record { nodes = n; cells = cs; commodities = ks }; decimals = s; kept = a; left = l; hops = h } in x)
    ≡ record { options = o; net = record { nodes = n; cells = ds; commodities = ls }; decimals = s; kept = b; left = m; hops = i }
same_scaled o s n cs ds ks ls a b l m h i p q r t u = rw (p, q, r, t, u) refl

scaled_plain : (o : NetOptions) (s : ℕ) (rows : NetRows) → scaled_with o s (plain rows) ≡ scaled_with o s rows
scaled_plain o s rows =
    same_scaled o s (length rows.nodes) _ _ _ _ _ _ _ _ _ _
    (flat_along (cells_of_link o s) link_without_line (cells_same o s) rows.links)
    (filter_along (commodity_of s) demand_without_line (λ d. refl) rows.demands)
    (kept_along 0 rows.demands)
    (count_along is_left_out demand_without_line (λ d. refl) rows.demands)
    (count_along has_hops demand_without_line (λ d. refl) rows.demands)

-- ---- of rows that are the same in other lines

alike : {Y : Type 0} (f : NetRows → Y) → ((rows : NetRows) → f (plain rows) ≡ f rows) → (a b : NetRows) → AreAlike a b → f a ≡ f b
alike f along a b h = sym (along a) ∙ ap f (same_plain a b h) ∙ along b

pub taken : (x n : ScaledNet) (r : Option NetRefusal) → unless_refused x r ≡ Ok n → (r ≡ None) × (x ≡ n)
taken x n None e = (refl, cc)
taken x n (Some f) e = absurd cc

none_is : {X : Type 0} (x : Option X) → is_none x ≡ true → x ≡ None
none_is None e = refl
none_is (Some y) e = absurd cc

accepted : ScaledNet → Result ScaledNet NetRefusal
accepted n = Ok n

-- they stand for the same network
pub scaled_alike : (a b : NetRows) (o : NetOptions) (n : ScaledNet) → AreAlike a b → scaled_of a o ≡ Ok n → scaled_of b o ≡ Ok n
scaled_alike a b o n h e =
    let s = decimals_of (sizes o.modules a) in
    let t = decimals_of (sizes o.modules b) in
    let was = taken (scaled_with o s a) n (refusal o.modules s a) e in
    let decimals : s ≡ t = ap decimals_of (alike (sizes o.modules) (sizes_plain o.modules) a b h) in
    let kept : is_none (refusal o.modules s a) ≡ true = ap (is_none {T = NetRefusal}) was.0 in
    let none : refusal o.modules s b ≡ None = none_is (refusal o.modules s b) (sym (alike (λ r. is_none (refusal o.modules s r)) (refusal_plain o.modules s) a b h) ∙ kept) in
    let net : scaled_with o s b ≡ n = sym (alike (scaled_with o s) (scaled_plain o s) a b h) ∙ was.1 in
    let here : unless_refused (scaled_with o s b) (refusal o.modules s b) ≡ Ok n = ap (unless_refused (scaled_with o s b)) none ∙ ap (λ (m : ScaledNet). Ok m) net in
    subst (λ (k : ℕ). unless_refused (scaled_with o k b) (refusal o.modules k b) ≡ Ok n) decimals here

-- ---- what is cited of them

id_along : (ds : List NetDemand) (i : ℕ) → (slice_index_or (map demand_without_line ds) i no_row).id ≡ (slice_index_or ds i no_row).id
id_along [] i = refl
id_along (d ∷ ds) zero = refl
id_along (d ∷ ds) (suc i) = id_along ds i

words_along : (rows : NetRows) (ks : List ℕ) → map (demand_word (plain rows)) ks ≡ map (demand_word rows) ks
words_along rows [] = refl
words_along rows (k ∷ ks) = rw (id_along rows.demands k, words_along rows ks) refl

sheet_plain : (net : ScaledNet) (rows : NetRows) → sheet_of (plain rows) net ≡ sheet_of rows net
sheet_plain net rows =
    ap (λ (ids : List (List ℕ)). record (sheet_of (plain rows) net) { cells = flat_map (signed_words net.options.links) ids })
    (map_along (λ (l : NetLink). l.id) link_without_line (λ l. refl) rows.links)
    ∙ ap (λ (ws : List (List ℕ)). record (sheet_of rows net) { commodities = ws }) (words_along rows net.kept)

-- certificates cite the same of them
pub sheet_alike : (a b : NetRows) (net : ScaledNet) → AreAlike a b → sheet_of a net ≡ sheet_of b net
sheet_alike a b net h = alike (λ (r : NetRows). sheet_of r net) (sheet_plain net) a b h
