-- How often rows are named, and so their weights, when one entry more names a row.
use Rattle.std.proofs.Common.{◌≡◌, ◌≢◌, ℕ, zero, suc, ◌+◌, ◌*◌, ◌<◌, ◌≤◌, ◌^◌, cond, eqb, List, [], ◌∷◌, ◌++◌, length, refl, ap, ◌∙◌, arith, Some, inl, inr, eq-eqb}
use Rattle.std.specs.Prelude.{slice_get, ◌==◌, count_by}
use Rattle.std.proofs.lemmas.Bool.{cases_eq, ne_eqb}
use Rattle.std.proofs.lemmas.List.Elements.{All-weaker}
use Rattle.std.proofs.lemmas.List.Sums.{sum_by_push, sum_by-cons, sum_by-le}
use Rattle.std.proofs.lemmas.Option.{slice_get-get_or, slice_get_within}
use Rattle.std.proofs.lemmas.Nat.{mul-le}
use Rattle.mcf_limits.specs.declared.TheConstants.{MAX_LENGTH, MAX_PHASES, MAX_UNITS}
use Rattle.flow_model.specs.declared.net.Commodity.{Commodity}
use Rattle.flow_model.specs.Network.{Network}
use Rattle.flow_model.specs.Routing.{Row}
use Rattle.flow_paths.specs.PathRows.{row_at, no_row, IsFirstRow}
use Rattle.solver_run.specs.declared.options.Entry.{Entry}
use Rattle.solver_run.specs.History.{times_named, NamesRows}
use Rattle.flow_solver.specs.Adding.{AreBegun}

-- how many of the entries name the row
abbrev pub names_of : ℕ → List Entry → ℕ
names_of n entries = count_by (λ (e : Entry). e.row == n) entries

-- no entries name no row
pub times_of_none : (h : List (List Entry)) (n : ℕ) → times_named (h ++ [] ∷ []) n ≡ times_named h n
times_of_none h n = let a = sum_by_push (names_of n) h [] in omega (arith, a)

pub times_pushed : (h : List (List Entry)) (es : List Entry) (e : Entry) (n : ℕ) → times_named (h ++ (es ++ e ∷ []) ∷ []) n ≡ times_named (h ++ es ∷ []) n + cond (eqb e.row n) 1 0
times_pushed h es e n =
    let a = sum_by_push (names_of n) h (es ++ e ∷ []) in
    let b = sum_by_push (names_of n) h es in
    let c = sum_by_push (λ (x : Entry). cond (eqb x.row n) 1 0) es e in
    omega (arith, a, b, c)

pub times_of_row : (h : List (List Entry)) (es : List Entry) (e : Entry) (n : ℕ) → e.row ≡ n → times_named (h ++ (es ++ e ∷ []) ∷ []) n ≡ times_named (h ++ es ∷ []) n + 1
times_of_row h es e n is = times_pushed h es e n ∙ ap (λ b. times_named (h ++ es ∷ []) n + cond b 1 0) (eq-eqb e.row n is)

pub times_of_other : (h : List (List Entry)) (es : List Entry) (e : Entry) (n : ℕ) → e.row ≢ n → times_named (h ++ (es ++ e ∷ []) ∷ []) n ≡ times_named (h ++ es ∷ []) n
times_of_other h es e n ne =
    let t : times_named (h ++ (es ++ e ∷ []) ∷ []) n ≡ times_named (h ++ es ∷ []) n + 0 = times_pushed h es e n ∙ ap (λ b. times_named (h ++ es ∷ []) n + cond b 1 0) (ne_eqb e.row n ne) in
    omega (arith, t)

pub none_names : (es : List Entry) (n : ℕ) → ((k : ℕ) (e : Entry) → slice_get es k ≡ Some e → e.row ≢ n) → names_of n es ≡ 0
none_names [] n none = refl
none_names (x ∷ xs) n none =
    let s = sum_by-cons (λ (e : Entry). cond (eqb e.row n) 1 0) x xs in
    let rest = none_names xs n (λ k e h. none (suc k) e h) in
    let here : cond {A = ℕ} (eqb x.row n) 1 0 ≡ 0 = ap (λ b. cond b 1 0) (ne_eqb x.row n (none zero x refl)) in
    omega (arith, s, rest, here)

-- where the entries that name the row all stand at one place, there is at most one
pub one_names : (es : List Entry) (n k j : ℕ) → ((i : ℕ) (e : Entry) → slice_get es i ≡ Some e → e.row ≡ n → i + j ≡ k) → names_of n es ≤ 1
one_names [] n k j at = omega arith
one_names (x ∷ xs) n k j at =
    let s = sum_by-cons (λ (e : Entry). cond (eqb e.row n) 1 0) x xs in
    elim (cases_eq x.row n) as (λ _. names_of n (x ∷ xs) ≤ 1) [
      | inl e ↦
          let first = at zero x refl e in
          let rest = none_names xs n (λ i y h is. let later = at (suc i) y h is in omega (arith, first, later)) in
          let here : cond {A = ℕ} (eqb x.row n) 1 0 ≡ 1 = ap (λ b. cond b 1 0) (eq-eqb x.row n e) in
          omega (arith, s, rest, here)
      | inr ne ↦
          let rest = one_names xs n k (j + 1) (λ i y h is. let later = at (suc i) y h is in omega (arith, later)) in
          let here : cond {A = ℕ} (eqb x.row n) 1 0 ≡ 0 = ap (λ b. cond b 1 0) (ne_eqb x.row n ne) in
          omega (arith, s, rest, here)
    ]

-- of a phase at most one entry names a row: that of the row's commodity
pub once_a_phase : (net : Network) (rows : List Row) (n : ℕ) (es : List Entry) → NamesRows net rows es → names_of n es ≤ 1
once_a_phase net rows n es names = one_names es n (row_at rows n).commodity 0 (λ i e h is. let c = (names.each i e h).1 in let d : (row_at rows n).commodity ≡ i = rw (← is) c in omega (arith, d))

-- a row of the next commodity has been named at most once a phase
pub named_before : (net : Network) (h : List (List Entry)) (es : List Entry) (rows : List Row) (n : ℕ) → AreBegun net h es rows → (row_at rows n).commodity ≡ length es → times_named (h ++ es ∷ []) n ≤ length h
named_before net h es rows n b is =
    let s = sum_by_push (names_of n) h es in
    let few = sum_by-le (names_of n) 1 h (All-weaker (NamesRows net rows) (λ (x : List Entry). names_of n x ≤ 1) (λ x f. once_a_phase net rows n x f) h b.before) in
    let none = none_names es n (λ k e at same. let c = (b.begun k e at).1 in let d : (row_at rows n).commodity ≡ k = rw (← same) c in let l = slice_get_within es k e at in omega (arith, d, l)) in
    omega (arith, s, few, none)

-- no entry names a row that is not there yet
pub unnamed : (net : Network) (h : List (List Entry)) (es : List Entry) (rows : List Row) (n : ℕ) → AreBegun net h es rows → length rows ≤ n → times_named (h ++ es ∷ []) n ≡ 0
unnamed net h es rows n b past =
    let s = sum_by_push (names_of n) h es in
    let few = sum_by-le (names_of n) 0 h (All-weaker (NamesRows net rows) (λ (x : List Entry). names_of n x ≤ 0) (λ x f. let z = none_names x n (λ k e at same. let l = (f.each k e at).0 in omega (arith, l, same)) in omega (arith, z)) h b.before) in
    let none = none_names es n (λ k e at same. let l = (b.begun k e at).0 in omega (arith, l, same)) in
    omega (arith, s, few, none)

-- the row of the next commodity can grow by its amount
pub can_grow : (net : Network) (h : List (List Entry)) (es : List Entry) (rows : List Row) (c : Commodity) (path : List ℕ) (n : ℕ) → AreBegun net h es rows
    → slice_get net.commodities (length es) ≡ Some c → c.amount ≤ MAX_UNITS → length h < MAX_PHASES → IsFirstRow rows (length es) path n → (row_at rows n).weight + c.amount ≤ MAX_LENGTH
can_grow net h es rows c path n b at small few first =
    let row = row_at rows n in
    let w : row.weight ≡ c.amount * times_named (h ++ es ∷ []) n = (b.weighed n row (slice_get-get_or rows n no_row first.within)).weight c (ap (slice_get net.commodities) first.here.0 ∙ at) in
    let t = named_before net h es rows n b first.here.0 in
    let p : c.amount * (times_named (h ++ es ∷ []) n + 1) ≤ 2 ^ 44 * 65536 = mul-le c.amount (times_named (h ++ es ∷ []) n + 1) (2 ^ 44) 65536 small (omega (arith, t, few)) in
    omega (arith, w, p)
