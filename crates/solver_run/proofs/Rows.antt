-- The rows of a history: each is a path, and they carry and load what the phases do.
use Rattle.std.proofs.Common.{◌≡◌, inl, inr, ℕ, ◌*◌, ◌<◌, ◌≤◌, Bool, true, false, List, [], Some, cond, eqb, length, get_or, map, flat_map, refl, sym, ap, subst, ◌∙◌, arith}
use Rattle.std.specs.Prelude.{All, count_by, slice_get}
use Rattle.std.specs.List.{sum_by}
use Rattle.std.proofs.lemmas.Bool.{cases_eq, eq-eqb, ne_eqb}
use Rattle.std.proofs.lemmas.List.{get_or-map, length-map}
use Rattle.std.proofs.lemmas.List.Elements.{All-weaker}
use Rattle.std.proofs.lemmas.Option.{slice_get-get_or, slice_get_within}
use Rattle.flow_model.specs.declared.net.Commodity.{Commodity}
use Rattle.flow_model.specs.Network.{Network}
use Rattle.flow_model.specs.Walk.{times}
use Rattle.flow_model.specs.Routing.{Row, carried, load_of}
use Rattle.flow_model.proofs.Duality.{no_commodity}
use Rattle.flow_paths.specs.PathRows.{row_at, no_row}
use Rattle.flow_core.specs.Laws.{below}
use Rattle.flow_core.specs.Phase.{Routed, amounts_along}
use Rattle.flow_core.proofs.Sums.{point}
use Rattle.solver_run.specs.declared.options.Entry.{Entry}
use Rattle.solver_run.specs.History.{times_named, path_named, routed_in, AreRowsOf, NamesRows, IsWeighed}
use Rattle.solver_run.specs.Paths.{IsPathOf, HavePaths}
use Rattle.solver_run.proofs.Exchange.{no_entry, below-same, list-below, exchange, sum-each, sum-const, sum-some, along, load-phases}

-- the paths of every phase are paths
abbrev pub PhasesHavePaths : Network → List Row → List (List Entry) → Type 0
PhasesHavePaths net rows history = (p : ℕ) → p < length history → HavePaths net (routed_in rows (get_or history p []))

abbrev pub amount_at : Network → ℕ → ℕ
amount_at net k = (get_or net.commodities k no_commodity).amount

no_route : Routed
no_route = record { worker = 0; path = [] }

abbrev route_of : List Row → Entry → Routed
route_of rows e = record { worker = e.worker; path = path_named rows e }

routed-at : (rows : List Row) (es : List Entry) (j : ℕ) → j < length es → slice_get (routed_in rows es) j ≡ Some (route_of rows (get_or es j no_entry))
routed-at rows es j l =
    let long : length (routed_in rows es) ≡ length es = length-map es (route_of rows) in
    slice_get-get_or (routed_in rows es) j no_route (omega arith) ∙ ap (λ (r : Routed). Some r) (get_or-map (route_of rows) es j no_entry no_route l)

test-true : (a b : ℕ) → 1 ≤ cond {A = ℕ} (eqb a b) 1 0 → a ≡ b
test-true a b h = elim (cases_eq a b) [
  | inl e ↦ e
  | inr n ↦ let none : cond {A = ℕ} (eqb a b) 1 0 ≡ 0 = ap (λ (t : Bool). cond {A = ℕ} t 1 0) (ne_eqb a b n) in absurd (omega arith)
]

-- each row is the path of its commodity
pub rows-paths : (net : Network) (history : List (List Entry)) (rows : List Row) → AreRowsOf net history rows → PhasesHavePaths net rows history
    → (n : ℕ) → n < length rows → IsPathOf net (row_at rows n).commodity (row_at rows n).walk
rows-paths net history rows a h n l =
    let weighed : IsWeighed net history n (row_at rows n) = a.weighed n (row_at rows n) (slice_get-get_or rows n no_row l) in
    let some = sum-some (λ (es : List Entry). count_by (λ (e : Entry). eqb e.row n) es) [] history weighed.named in
    let es = get_or history some.0 [] in
    let one = sum-some (λ (e : Entry). cond {A = ℕ} (eqb e.row n) 1 0) no_entry es some.2 in
    let j = one.0 in
    let e = get_or es j no_entry in
    let is : e.row ≡ n = test-true e.row n one.2 in
    let names : NamesRows net rows es = a.entries some.0 [] some.1 in
    let mine = names.each j e (slice_get-get_or es j no_entry one.1) in
    let path : IsPathOf net j (path_named rows e) = h some.0 some.1 j (route_of rows e) (routed-at rows es j one.1) in
    subst (λ (m : ℕ). IsPathOf net (row_at rows m).commodity (row_at rows m).walk) is (subst (λ (k : ℕ). IsPathOf net k (path_named rows e)) (sym mine.1) path)

-- each entry names a row
pub entries-inside : (net : Network) (history : List (List Entry)) (rows : List Row) → AreRowsOf net history rows → All (All (λ (e : Entry). e.row < length rows)) history
entries-inside net history rows a = All-weaker (NamesRows net rows) (All (λ (e : Entry). e.row < length rows))
    (λ es names. λ j d l. (names.each j (get_or es j d) (slice_get-get_or es j d l)).0) history a.entries

-- the commodity of the row that an entry names
mine-at : (net : Network) (rows : List Row) (es : List Entry) (j : ℕ) → NamesRows net rows es → j < length es → (row_at rows (get_or es j no_entry).row).commodity ≡ j
mine-at net rows es j names l = (names.each j (get_or es j no_entry) (slice_get-get_or es j no_entry l)).1

pub weight-is : (net : Network) (history : List (List Entry)) (rows : List Row) (n k : ℕ) → AreRowsOf net history rows → n < length rows → k < length net.commodities → (row_at rows n).commodity ≡ k
    → (row_at rows n).weight ≡ amount_at net k * times_named history n
weight-is net history rows n k a l inside e =
    let weighed : IsWeighed net history n (row_at rows n) = a.weighed n (row_at rows n) (slice_get-get_or rows n no_row l) in
    let at : slice_get net.commodities k ≡ Some (get_or net.commodities k no_commodity) = slice_get-get_or net.commodities k no_commodity inside in
    weighed.weight (get_or net.commodities k no_commodity) (subst (λ (i : ℕ). slice_get net.commodities i ≡ Some (get_or net.commodities k no_commodity)) (sym e) at)

pub path-inside : (net : Network) (k : ℕ) (path : List ℕ) → IsPathOf net k path → k < length net.commodities
path-inside net k path p = slice_get_within net.commodities k p.commodity p.at

cond-mul : (b : Bool) (m : ℕ) → cond {A = ℕ} b m 0 ≡ m * cond {A = ℕ} b 1 0
cond-mul true m = omega arith
cond-mul false m = omega arith

-- what the rows carry of a commodity
pub rows-carry : (net : Network) (history : List (List Entry)) (rows : List Row) (k : ℕ) → AreRowsOf net history rows → k < length net.commodities → carried rows k ≡ length history * amount_at net k
rows-carry net history rows k a inside =
    let m = amount_at net k in
    let g : ℕ → ℕ = λ n. cond {A = ℕ} (eqb (row_at rows n).commodity k) m 0 in
    let each : (n : ℕ) → n < length rows → cond {A = ℕ} (eqb (row_at rows n).commodity k) (row_at rows n).weight 0 ≡ g n * times_named history n = λ n l. elim (cases_eq (row_at rows n).commodity k) [
      | inl e ↦ rw (eq-eqb (row_at rows n).commodity k e) (weight-is net history rows n k a l inside e)
      | inr ne ↦ rw (ne_eqb (row_at rows n).commodity k ne) (omega arith)
    ] in
    let phase : (es : List Entry) → NamesRows net rows es → sum_by (λ (e : Entry). g e.row) es ≡ m = λ es names.
    list-below (λ (e : Entry). g e.row) no_entry es
    ∙ (below-same (λ j. g (get_or es j no_entry).row) (λ j. m * cond {A = ℕ} (eqb j k) 1 0) (length es)
    (λ j l. ap (λ (i : ℕ). cond {A = ℕ} (eqb i k) m 0) (mine-at net rows es j names l) ∙ cond-mul (eqb j k) m)
    ∙ point (λ j. m) k (length es) (omega (arith, names.count))) in
    exchange (λ (r : Row). cond {A = ℕ} (eqb r.commodity k) r.weight 0) g no_row rows history each (entries-inside net history rows a)
    ∙ (sum-each (λ (es : List Entry). sum_by (λ (e : Entry). g e.row) es) (λ (es : List Entry). m) history (All-weaker (NamesRows net rows) (λ (es : List Entry). sum_by (λ (e : Entry). g e.row) es ≡ m) phase history a.entries)
    ∙ sum-const m history)

-- their weights together
pub rows-weigh : (net : Network) (history : List (List Entry)) (rows : List Row) → AreRowsOf net history rows → PhasesHavePaths net rows history
    → sum_by (λ (r : Row). r.weight) rows ≡ length history * sum_by (λ (k : Commodity). k.amount) net.commodities
rows-weigh net history rows a h =
    let m = sum_by (λ (k : Commodity). k.amount) net.commodities in
    let g : ℕ → ℕ = λ n. amount_at net (row_at rows n).commodity in
    let phase : (es : List Entry) → NamesRows net rows es → sum_by (λ (e : Entry). g e.row) es ≡ m = λ es names.
    list-below (λ (e : Entry). g e.row) no_entry es
    ∙ (below-same (λ j. g (get_or es j no_entry).row) (amount_at net) (length es) (λ j l. ap (amount_at net) (mine-at net rows es j names l))
    ∙ (ap (below (amount_at net)) names.count ∙ sym (list-below (λ (k : Commodity). k.amount) no_commodity net.commodities))) in
    exchange (λ (r : Row). r.weight) g no_row rows history
    (λ n l. weight-is net history rows n (row_at rows n).commodity a l (path-inside net (row_at rows n).commodity (row_at rows n).walk (rows-paths net history rows a h n l)) refl) (entries-inside net history rows a)
    ∙ (sum-each (λ (es : List Entry). sum_by (λ (e : Entry). g e.row) es) (λ (es : List Entry). m) history (All-weaker (NamesRows net rows) (λ (es : List Entry). sum_by (λ (e : Entry). g e.row) es ≡ m) phase history a.entries)
    ∙ sum-const m history)

-- the load of a cell
pub rows-load : (net : Network) (history : List (List Entry)) (rows : List Row) (c : ℕ) → AreRowsOf net history rows → PhasesHavePaths net rows history
    → load_of rows c ≡ load_of (flat_map (amounts_along 0 net.commodities) (map (routed_in rows) history)) c
rows-load net history rows c a h =
    let g : ℕ → ℕ = λ n. amount_at net (row_at rows n).commodity * times c (row_at rows n).walk in
    let each : (n : ℕ) → n < length rows → (row_at rows n).weight * times c (row_at rows n).walk ≡ g n * times_named history n = λ n l.
    ap (λ (w : ℕ). w * times c (row_at rows n).walk)
    (weight-is net history rows n (row_at rows n).commodity a l (path-inside net (row_at rows n).commodity (row_at rows n).walk (rows-paths net history rows a h n l)) refl) ∙ omega arith in
    let phase : (es : List Entry) → NamesRows net rows es → sum_by (λ (e : Entry). g e.row) es ≡ load_of (amounts_along 0 net.commodities (routed_in rows es)) c = λ es names.
    along c 0 (λ (e : Entry). g e.row) rows net.commodities es names.count
    (λ j l. ap (λ (i : ℕ). amount_at net i * times c (path_named rows (get_or es j no_entry))) (mine-at net rows es j names l)) in
    exchange (λ (r : Row). r.weight * times c r.walk) g no_row rows history each (entries-inside net history rows a)
    ∙ (sum-each (λ (es : List Entry). sum_by (λ (e : Entry). g e.row) es) (λ (es : List Entry). load_of (amounts_along 0 net.commodities (routed_in rows es)) c) history
    (All-weaker (NamesRows net rows) (λ (es : List Entry). sum_by (λ (e : Entry). g e.row) es ≡ load_of (amounts_along 0 net.commodities (routed_in rows es)) c) phase history a.entries)
    ∙ load-phases c net.commodities rows history)
