-- Rows in another order, and entries with the new numbers.
use Rattle.std.proofs.Common.{◌≡◌, ℕ, zero, suc, ◌+◌, ◌-◌, ◌*◌, ◌<◌, true, cond, eqb, List, [], ◌∷◌, length, get_or, map, refl, sym, ap, ◌∙◌, subst, arith, inl, inr, eq-eqb, Some}
use Rattle.std.specs.Prelude.{All, AllPairs, IsTrue, slice_get}
use Rattle.std.proofs.lemmas.Bool.{cases_eq, cases_lt, ne_eqb}
use Rattle.std.proofs.lemmas.List.{get_or-map, length-map}
use Rattle.std.proofs.lemmas.List.Elements.{All-head, All-tail, All-map, All-weaker}
use Rattle.std.proofs.lemmas.List.Sums.{sum_by-cons}
use Rattle.std.proofs.lemmas.Option.{slice_get-get_or, slice_get_within, get_or_from_slice_get, same_Some}
use Rattle.flow_model.specs.Network.{Network}
use Rattle.flow_model.specs.Routing.{Row}
use Rattle.flow_paths.specs.PathRows.{row_at, no_row}
use Rattle.flow_paths.specs.RowOrder.{row_lt}
use Rattle.flow_paths.specs.Ordering.{IsOfAll, IsOrderOf, AreNumbersOf}
use Rattle.flow_paths.proofs.Numbers.{below_of_all, apart_of_all, to_place}
use Rattle.flow_paths.proofs.RowOrder.{rows_differ, rows_ascend}
use Rattle.flow_core.specs.Phase.{Routed}
use Rattle.solver_run.specs.declared.options.Entry.{Entry}
use Rattle.solver_run.specs.History.{times_named, path_named, routed_in, IsWeighed, NamesRows, AreRowsOf}
use Rattle.flow_solver.specs.Phases.{NamesBelow, renumbered}
use Rattle.flow_solver.specs.Rows.{AreApart, AreRowsFor}
use Rattle.flow_solver.proofs.Times.{names_of}

-- the rows in the order
abbrev pub in_order : List Row → List ℕ → List Row
in_order rows order = map (row_at rows) order

row_in_order : (rows : List Row) (order : List ℕ) (i : ℕ) → i < length order → row_at (in_order rows order) i ≡ row_at rows (get_or order i 0)
row_in_order rows order i l = get_or-map (row_at rows) order i 0 no_row l

-- the row of the new number is the row of the old one
row_back : (rows : List Row) (order numbers : List ℕ) (m : ℕ) → IsOrderOf rows order → AreNumbersOf order numbers → m < length rows → row_at (in_order rows order) (get_or numbers m 0) ≡ row_at rows m
row_back rows order numbers m is are l =
    let count = is.count in
    let p = to_place order numbers m is.all are (omega (arith, count)) in
    row_in_order rows order (get_or numbers m 0) p.0 ∙ ap (row_at rows) p.1

phase_back : (rows : List Row) (order numbers : List ℕ) → IsOrderOf rows order → AreNumbersOf order numbers → (es : List Entry) → NamesBelow (length rows) es → routed_in (in_order rows order) (map (renumbered numbers) es) ≡ routed_in rows es
phase_back rows order numbers is are [] below = refl
phase_back rows order numbers is are (e ∷ es) below =
    let first = All-head (λ (x : Entry). x.row < length rows) e es below in
    let rest = phase_back rows order numbers is are es (All-tail (λ (x : Entry). x.row < length rows) e es below) in
    let f : List ℕ → List Routed → List Routed = λ p rs. record { worker = e.worker; path = p } ∷ rs in
    ap (λ p. f p (routed_in (in_order rows order) (map (renumbered numbers) es))) (ap (λ (r : Row). r.walk) (row_back rows order numbers e.row is are first)) ∙ ap (f (path_named rows e)) rest

-- the phases are as before
pub phases_back : (rows : List Row) (order numbers : List ℕ) → IsOrderOf rows order → AreNumbersOf order numbers → (h : List (List Entry)) → All (NamesBelow (length rows)) h
    → map (routed_in (in_order rows order)) (map (map (renumbered numbers)) h) ≡ map (routed_in rows) h
phases_back rows order numbers is are [] below = refl
phases_back rows order numbers is are (es ∷ h) below =
    let first = phase_back rows order numbers is are es (All-head (NamesBelow (length rows)) es h below) in
    let rest = phases_back rows order numbers is are h (All-tail (NamesBelow (length rows)) es h below) in
    let f : List Routed → List (List Routed) → List (List Routed) = λ p rs. p ∷ rs in
    ap (λ p. f p (map (routed_in (in_order rows order)) (map (map (renumbered numbers)) h))) first ∙ ap (f (routed_in rows es)) rest

-- an element of a mapped list
map_at : {A B : Type 0} (f : A → B) (xs : List A) (k : ℕ) (y : B) → slice_get (map f xs) k ≡ Some y → (x : A) × (slice_get xs k ≡ Some x) × (f x ≡ y)
map_at f [] k y e = absurd (cc)
map_at f (x ∷ xs) zero y e = (x, refl, same_Some (f x) y e)
map_at f (x ∷ xs) (suc k) y e = map_at f xs k y e

names_back : (net : Network) (rows : List Row) (order numbers : List ℕ) → IsOrderOf rows order → AreNumbersOf order numbers → (es : List Entry) → NamesRows net rows es → NamesRows net (in_order rows order) (map (renumbered numbers) es)
names_back net rows order numbers is are es names = record {
  count = length-map es (renumbered numbers) ∙ names.count;
  each = λ k y at.
      let x = map_at (renumbered numbers) es k y at in
      let n = names.each k x.0 x.1 in
      let count = is.count in
      let first = n.0 in
      let p = to_place order numbers x.0.row is.all are (omega (arith, count, first)) in
      let row : get_or numbers x.0.row 0 ≡ y.row = ap (λ (e : Entry). e.row) x.2 in
      let long : length (in_order rows order) ≡ length order = length-map order (row_at rows) in
      let below = p.0 in
      (omega (arith, row, long, below), ap (λ i. (row_at (in_order rows order) i).commodity) (sym row) ∙ ap (λ (r : Row). r.commodity) (row_back rows order numbers x.0.row is are first) ∙ n.1);
}

-- a row's new number is n exactly where the row is the one at place n
same_test : (order numbers : List ℕ) (m n : ℕ) → IsOfAll order → AreNumbersOf order numbers → m < length order → n < length order → eqb (get_or numbers m 0) n ≡ eqb m (get_or order n 0)
same_test order numbers m n all are lm ln =
    elim (cases_eq m (get_or order n 0)) as (λ _. eqb (get_or numbers m 0) n ≡ eqb m (get_or order n 0)) [
      | inl e ↦ eq-eqb (get_or numbers m 0) n (ap (λ k. get_or numbers k 0) e ∙ are.back n ln) ∙ sym (eq-eqb m (get_or order n 0) e)
      | inr ne ↦ ne_eqb (get_or numbers m 0) n (λ q. ne (sym (to_place order numbers m all are lm).1 ∙ ap (λ k. get_or order k 0) q)) ∙ sym (ne_eqb m (get_or order n 0) ne)
    ]

names_same : (order numbers : List ℕ) (n : ℕ) → IsOfAll order → AreNumbersOf order numbers → n < length order → (es : List Entry) → NamesBelow (length order) es → names_of n (map (renumbered numbers) es) ≡ names_of (get_or order n 0) es
names_same order numbers n all are l [] below = refl
names_same order numbers n all are l (e ∷ es) below =
    let a = sum_by-cons (λ (x : Entry). cond (eqb x.row n) 1 0) (renumbered numbers e) (map (renumbered numbers) es) in
    let b = sum_by-cons (λ (x : Entry). cond (eqb x.row (get_or order n 0)) 1 0) e es in
    let rest = names_same order numbers n all are l es (All-tail (λ (x : Entry). x.row < length order) e es below) in
    let here = ap (λ t. cond {A = ℕ} t 1 0) (same_test order numbers e.row n all are (All-head (λ (x : Entry). x.row < length order) e es below) l) in
    omega (arith, a, b, rest, here)

times_same : (order numbers : List ℕ) (n : ℕ) → IsOfAll order → AreNumbersOf order numbers → n < length order → (h : List (List Entry)) → All (NamesBelow (length order)) h → times_named (map (map (renumbered numbers)) h) n ≡ times_named h (get_or order n 0)
times_same order numbers n all are l [] below = refl
times_same order numbers n all are l (es ∷ h) below =
    let a = sum_by-cons (names_of n) (map (renumbered numbers) es) (map (map (renumbered numbers)) h) in
    let b = sum_by-cons (names_of (get_or order n 0)) es h in
    let rest = times_same order numbers n all are l h (All-tail (NamesBelow (length order)) es h below) in
    let here = names_same order numbers n all are l es (All-head (NamesBelow (length order)) es h below) in
    omega (arith, a, b, rest, here)

-- each row in the order comes before the next
next_ascends : (rows : List Row) (order : List ℕ) → IsOrderOf rows order → AreApart rows → (i : ℕ) → i + 1 < length order → row_lt (row_at rows (get_or order i 0)) (row_at rows (get_or order (i + 1) 0)) ≡ true
next_ascends rows order is apart i l =
    let a = get_or order i 0 in
    let b = get_or order (i + 1) 0 in
    let count = is.count in
    let la = below_of_all order i is.all (omega arith) in
    let lb = below_of_all order (i + 1) is.all l in
    rows_differ (row_at rows a) (row_at rows b) (is.ascending i l) (λ same.
    elim (cases_lt a b) as (λ _. ⊥) [
      | inl lt ↦ apart a b lt (omega (arith, lb, count)) same
      | inr ge ↦
          let ne = apart_of_all order i (i + 1) is.all (omega arith) l in
          let lt : b < a = elim (cases_eq a b) as (λ _. b < a) [ inl e ↦ absurd (ne e) | inr other ↦ omega (arith, ge, other) ] in
          apart b a lt (omega (arith, la, count)) (sym same.0, sym same.1)
    ])

ascends : (rows : List Row) (order : List ℕ) → IsOrderOf rows order → AreApart rows → AllPairs (λ a b. IsTrue (row_lt a b)) (in_order rows order)
ascends rows order is apart i j d below l =
    let long : length (in_order rows order) ≡ length order = length-map order (row_at rows) in
    let lj : j < length order = omega (arith, l, long) in
    let li : i < length order = omega (arith, lj, below) in
    let row : ℕ → Row = λ k. row_at rows (get_or order k 0) in
    let e : i + ((j - (i + 1)) + 1) ≡ j = omega (arith, below) in
    let chain : row_lt (row i) (row (i + ((j - (i + 1)) + 1))) ≡ true = rows_ascend row (length order) (next_ascends rows order is apart) i (j - (i + 1)) (omega (arith, e, lj)) in
    let lt : row_lt (row i) (row j) ≡ true = subst (λ k. row_lt (row i) (row k) ≡ true) e chain in
    let a : row i ≡ get_or (in_order rows order) i d = sym (get_or-map (row_at rows) order i 0 d li) in
    let b : row j ≡ get_or (in_order rows order) j d = sym (get_or-map (row_at rows) order j 0 d lj) in
    subst (λ r. row_lt r (get_or (in_order rows order) j d) ≡ true) a (subst (λ r. row_lt (row i) r ≡ true) b lt)

weighed_back : (net : Network) (h : List (List Entry)) (rows : List Row) (order numbers : List ℕ) → IsOrderOf rows order → AreNumbersOf order numbers → All (NamesBelow (length rows)) h
    → ((n : ℕ) (row : Row) → slice_get rows n ≡ Some row → IsWeighed net h n row)
    → (n : ℕ) (row : Row) → slice_get (in_order rows order) n ≡ Some row → IsWeighed net (map (map (renumbered numbers)) h) n row
weighed_back net h rows order numbers is are below weighed n row at =
    let x = map_at (row_at rows) order n row at in
    let l : n < length order = slice_get_within order n x.0 x.1 in
    let m = get_or order n 0 in
    let here : x.0 ≡ m = sym (get_or_from_slice_get order n x.0 0 x.1) in
    let count = is.count in
    let lm = below_of_all order n is.all l in
    let this : slice_get rows m ≡ Some row = slice_get-get_or rows m no_row (omega (arith, lm, count)) ∙ ap Some (ap (row_at rows) (sym here) ∙ x.2) in
    let t = times_same order numbers n is.all are l h (subst (λ k. All (NamesBelow k) h) (sym count) below) in
    let w = weighed m row this in
    record {
      named = rw t w.named;
      weight = λ k found. w.weight k found ∙ ap (λ q. k.amount * q) (sym t);
    }

-- rows that belong to entries belong to them in order too
pub rows_back : (net : Network) (h : List (List Entry)) (rows : List Row) (order numbers : List ℕ) → IsOrderOf rows order → AreNumbersOf order numbers → All (NamesBelow (length rows)) h → AreRowsFor net h rows
    → AreRowsOf net (map (map (renumbered numbers)) h) (in_order rows order)
rows_back net h rows order numbers is are below r = record {
  ascending = ascends rows order is r.apart;
  entries = All-map (NamesRows net (in_order rows order)) (map (renumbered numbers)) h (All-weaker (NamesRows net rows) (λ (es : List Entry). NamesRows net (in_order rows order) (map (renumbered numbers) es)) (λ es n. names_back net rows order numbers is are es n) h r.entries);
  weighed = weighed_back net h rows order numbers is are below r.weighed;
}
