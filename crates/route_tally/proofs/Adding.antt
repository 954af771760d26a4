-- What one more turn makes of the rows.
use Rattle.std.proofs.Common.{◌≡◌, ℕ, suc, ◌+◌, ◌<◌, ◌≤◌, Bool, true, false, cond, List, [], ◌∷◌, ◌++◌, length, get_or, refl, sym, ap, ◌∙◌, subst, arith, length-append, length-set, inl, inr}
use Rattle.std.specs.Prelude.{IsTrue, ◌==◌, ◌||◌}
use Rattle.std.specs.List.{list_any}
use Rattle.std.proofs.lemmas.Bool.{cases_eq, cases_order, both_ways, or_left, or_right, false_from_ne_true, eq-eqb}
use Rattle.std.proofs.lemmas.List.{get_or-set_same, get_or-set_other, get_or_default}
use Rattle.std.proofs.lemmas.List.Elements.{All-nil, All-push, All-weaker, All-get_or, All-from_get_or}
use Rattle.std.proofs.lemmas.List.Folds.{list_any-append, list_any_at}
use Rattle.std.proofs.lemmas.List.Quantifiers.{all_pairs_push}
use Rattle.std.proofs.lemmas.List.Sums.{get_or-le-sum_by}
use Rattle.flow_model.specs.Routing.{Row, carried}
use Rattle.flow_paths.specs.PathRows.{row_at, no_row, grown, IsFirstRow, HasNoRow, Adds}
use Rattle.route_tally.specs.Tally.{same_path, routed_along, IsCollected, TakesTurn}
use Rattle.route_tally.proofs.SamePaths.{same_parts, same_from, same_flip, unlike, unlike_flip, same_right, along_same, along_yes, along_no, along_none, any_same}

-- a row's weight is part of what its commodity carries
pub fits : (rows : List Row) (k : ℕ) (path : List ℕ) (n a most : ℕ) → IsFirstRow rows k path n → carried rows k + a ≤ most → (row_at rows n).weight + a ≤ most
fits rows k path n a most first within =
    let row = row_at rows n in
    let part : cond (row.commodity == k) row.weight 0 ≤ carried rows k = get_or-le-sum_by (λ (r : Row). cond (r.commodity == k) r.weight 0) rows n no_row first.within in
    let is : cond (row.commodity == k) row.weight 0 ≡ row.weight = ap (λ (s : Bool). cond s row.weight 0) (eq-eqb row.commodity k first.here.0) in
    omega (arith, part, is, within)

-- no turn at all
pub collected_none : IsCollected [] []
collected_none = record {
  apart = λ i j d below l. absurd (omega arith);
  each = All-nil (λ (t : Row). IsTrue (list_any (same_path t) []));
  no_other = All-nil (λ (r : Row). IsTrue (list_any (same_path r) []));
  weights = All-nil (λ (r : Row). r.weight ≡ routed_along [] r);
}

-- an old turn or the new one
any_old : (turns : List Row) (turn row : Row) → list_any (same_path row) turns ≡ true → list_any (same_path row) (turns ++ turn ∷ []) ≡ true
any_old turns turn row h = list_any-append (same_path row) turns (turn ∷ []) ∙ or_left (list_any (same_path row) turns) (list_any (same_path row) (turn ∷ [])) h

any_new : (turns : List Row) (turn row : Row) → same_path row turn ≡ true → list_any (same_path row) (turns ++ turn ∷ []) ≡ true
any_new turns turn row h = list_any-append (same_path row) turns (turn ∷ []) ∙ or_right (list_any (same_path row) turns) (list_any (same_path row) (turn ∷ [])) (or_left (same_path row turn) false h)

-- a row of that path tells one
any_at : (rows : List Row) (t : Row) (i : ℕ) → i < length rows → same_path t (row_at rows i) ≡ true → list_any (same_path t) rows ≡ true
any_at rows t i l h = list_any_at (same_path t) rows i no_row l h

-- where no row is of the path, none is like the turn
none_like : (rows : List Row) (turn : Row) → HasNoRow rows turn.commodity turn.walk → (i : ℕ) → i < length rows → same_path turn (row_at rows i) ≡ false
none_like rows turn none i l = unlike turn (row_at rows i) (none i l)

none_any : (rows : List Row) (t : Row) → ((i : ℕ) → i < length rows → same_path t (row_at rows i) ≡ false) → list_any (same_path t) rows ≡ false
none_any [] t h = refl
none_any (r ∷ rows) t h =
    let first : same_path t r ≡ false = h 0 (omega arith) in
    let rest : list_any (same_path t) rows ≡ false = none_any rows t (λ i l. h (suc i) (omega arith)) in
    ap (λ (s : Bool). s || list_any (same_path t) rows) first ∙ rest

-- so no turn is like it either
no_turn : (turns rows : List Row) (turn : Row) → IsCollected turns rows → HasNoRow rows turn.commodity turn.walk → (i : ℕ) (d : Row) → i < length turns → same_path (get_or turns i d) turn ≡ false
no_turn turns rows turn from none i d l =
    let t = get_or turns i d in
    false_from_ne_true (same_path t turn) (λ h.
    let p = same_parts t turn h in
    both_ways (list_any (same_path t) rows) (any_same rows t turn p.0 p.1 ∙ none_any rows turn (none_like rows turn none)) (All-get_or (λ (t : Row). IsTrue (list_any (same_path t) rows)) turns i d l from.each))

pushed : (turns rows : List Row) (turn : Row) → IsCollected turns rows → HasNoRow rows turn.commodity turn.walk → IsCollected (turns ++ turn ∷ []) (rows ++ turn ∷ [])
pushed turns rows turn from none = record {
  apart = all_pairs_push (λ (a b : Row). same_path a b ≡ false) rows turn from.apart (λ k d l. subst (λ (r : Row). same_path r turn ≡ false) (get_or_default rows k no_row d l) (unlike_flip turn (row_at rows k) (none_like rows turn none k l)));
  each = All-push (λ (t : Row). IsTrue (list_any (same_path t) (rows ++ turn ∷ []))) turns turn
      (All-weaker (λ (t : Row). IsTrue (list_any (same_path t) rows)) (λ (t : Row). IsTrue (list_any (same_path t) (rows ++ turn ∷ []))) (λ t h. any_old rows turn t h) turns from.each)
      (any_new rows turn turn (same_from turn turn refl refl));
  no_other = All-push (λ (r : Row). IsTrue (list_any (same_path r) (turns ++ turn ∷ []))) rows turn
      (All-weaker (λ (r : Row). IsTrue (list_any (same_path r) turns)) (λ (r : Row). IsTrue (list_any (same_path r) (turns ++ turn ∷ []))) (λ r h. any_old turns turn r h) rows from.no_other)
      (any_new turns turn turn (same_from turn turn refl refl));
  weights = All-push (λ (r : Row). r.weight ≡ routed_along (turns ++ turn ∷ []) r) rows turn
      (All-from_get_or (λ (r : Row). r.weight ≡ routed_along (turns ++ turn ∷ []) r) rows no_row (λ i l. All-get_or (λ (r : Row). r.weight ≡ routed_along turns r) rows i no_row l from.weights ∙ sym (along_no turns turn (row_at rows i) (none_like rows turn none i l))))
      (let zero_before = along_none turns turn (no_turn turns rows turn from none) in
      let more = along_yes turns turn turn (same_from turn turn refl refl) in
      omega (arith, zero_before, more));
}

-- the row that grows
abbrev grown_row : List Row → ℕ → ℕ → Row
grown_row rows n a = record { commodity = (row_at rows n).commodity; walk = (row_at rows n).walk; weight = (row_at rows n).weight + a }

-- every row keeps its commodity and path
keys_kept : (rows : List Row) (n a : ℕ) → n < length rows → (i : ℕ) → ((row_at (grown rows n a) i).commodity ≡ (row_at rows i).commodity) × ((row_at (grown rows n a) i).walk ≡ (row_at rows i).walk)
keys_kept rows n a l i = elim (cases_eq i n) as (λ _. ((row_at (grown rows n a) i).commodity ≡ (row_at rows i).commodity) × ((row_at (grown rows n a) i).walk ≡ (row_at rows i).walk)) [
  | inl e ↦
      let at : row_at (grown rows n a) i ≡ grown_row rows n a = ap (row_at (grown rows n a)) e ∙ get_or-set_same rows n (grown_row rows n a) no_row l in
      (ap (λ (r : Row). r.commodity) at ∙ ap (λ (j : ℕ). (row_at rows j).commodity) (sym e), ap (λ (r : Row). r.walk) at ∙ ap (λ (j : ℕ). (row_at rows j).walk) (sym e))
  | inr ne ↦
      let at : row_at (grown rows n a) i ≡ row_at rows i = get_or-set_other rows n i (grown_row rows n a) no_row ne in
      (ap (λ (r : Row). r.commodity) at, ap (λ (r : Row). r.walk) at)
]

-- two rows of the grown ones are alike as they were
unlike_kept : (rows : List Row) (n a : ℕ) → n < length rows → (i j : ℕ) → same_path (row_at rows i) (row_at rows j) ≡ false → same_path (row_at (grown rows n a) i) (row_at (grown rows n a) j) ≡ false
unlike_kept rows n a l i j h =
    let p = keys_kept rows n a l i in
    let q = keys_kept rows n a l j in
    let new_i = row_at (grown rows n a) i in
    let new_j = row_at (grown rows n a) j in
    false_from_ne_true (same_path new_i new_j) (λ t.
    let s = same_parts new_i new_j t in
    both_ways (same_path (row_at rows i) (row_at rows j)) h (same_from (row_at rows i) (row_at rows j) (sym p.0 ∙ s.0 ∙ q.0) (sym p.1 ∙ s.1 ∙ q.1)))

-- whether some row has a path stays
any_kept : (rows new : List Row) (t : Row) → length new ≡ length rows → ((i : ℕ) → i < length rows → ((row_at new i).commodity ≡ (row_at rows i).commodity) × ((row_at new i).walk ≡ (row_at rows i).walk)) → list_any (same_path t) rows ≡ list_any (same_path t) new
any_kept [] [] t e h = refl
any_kept [] (y ∷ new) t e h = absurd (omega (arith, e))
any_kept (x ∷ rows) [] t e h = absurd (omega (arith, e))
any_kept (x ∷ rows) (y ∷ new) t e h =
    let p = h 0 (omega arith) in
    let here : same_path t x ≡ same_path t y = sym (same_right y x t p.0 p.1) in
    ap (λ (s : Bool). s || list_any (same_path t) rows) here ∙ ap (λ (s : Bool). same_path t y || s) (any_kept rows new t (omega (arith, e)) (λ i l. h (suc i) (omega arith)))

-- no other row is like the turn
others : (turns rows : List Row) (turn : Row) (n : ℕ) → IsCollected turns rows → IsFirstRow rows turn.commodity turn.walk n → (i : ℕ) → i < length rows → ¬ (i ≡ n) → same_path turn (row_at rows i) ≡ false
others turns rows turn n from first i l ne = false_from_ne_true (same_path turn (row_at rows i)) (λ h.
    let p = same_parts turn (row_at rows i) h in
    let like : same_path (row_at rows n) (row_at rows i) ≡ true = same_from (row_at rows n) (row_at rows i) (first.here.0 ∙ p.0) (first.here.1 ∙ p.1) in
    elim (cases_order i n) as (λ _. ⊥) [
      | inl e ↦ ne e
      | inr some ↦ elim some as (λ _. ⊥) [
        | inl lt ↦ both_ways (same_path (row_at rows i) (row_at rows n)) (from.apart i n no_row lt first.within) (same_flip (row_at rows n) (row_at rows i) like)
        | inr gt ↦ both_ways (same_path (row_at rows n) (row_at rows i)) (from.apart n i no_row gt l) like
      ]
    ])

grown_weight : (turns rows : List Row) (turn : Row) (n : ℕ) → IsCollected turns rows → IsFirstRow rows turn.commodity turn.walk n → (i : ℕ) → i < length rows → (row_at (grown rows n turn.weight) i).weight ≡ routed_along (turns ++ turn ∷ []) (row_at (grown rows n turn.weight) i)
grown_weight turns rows turn n from first i l =
    let new = grown rows n turn.weight in
    let all = turns ++ turn ∷ [] in
    let is : (j : ℕ) → j < length rows → (row_at rows j).weight ≡ routed_along turns (row_at rows j) = λ j h. All-get_or (λ (r : Row). r.weight ≡ routed_along turns r) rows j no_row h from.weights in
    elim (cases_eq i n) as (λ _. (row_at new i).weight ≡ routed_along all (row_at new i)) [
      | inl e ↦
          let at : row_at new i ≡ grown_row rows n turn.weight = ap (row_at new) e ∙ get_or-set_same rows n (grown_row rows n turn.weight) no_row first.within in
          let old : (row_at rows n).weight ≡ routed_along turns (row_at rows n) = is n first.within in
          let more : routed_along all (row_at rows n) ≡ routed_along turns (row_at rows n) + turn.weight = along_yes turns turn (row_at rows n) (same_from turn (row_at rows n) (sym first.here.0) (sym first.here.1)) in
          let same : routed_along all (grown_row rows n turn.weight) ≡ routed_along all (row_at rows n) = along_same all (grown_row rows n turn.weight) (row_at rows n) refl refl in
          let here : (grown_row rows n turn.weight).weight ≡ routed_along all (grown_row rows n turn.weight) = ap (λ m. m + turn.weight) old ∙ sym more ∙ sym same in
          subst (λ (r : Row). r.weight ≡ routed_along all r) (sym at) here
      | inr ne ↦
          let at : row_at new i ≡ row_at rows i = get_or-set_other rows n i (grown_row rows n turn.weight) no_row ne in
          let here : (row_at rows i).weight ≡ routed_along all (row_at rows i) = is i l ∙ sym (along_no turns turn (row_at rows i) (others turns rows turn n from first i l ne)) in
          subst (λ (r : Row). r.weight ≡ routed_along all r) (sym at) here
    ]

grows : (turns rows : List Row) (turn : Row) (n : ℕ) → IsCollected turns rows → IsFirstRow rows turn.commodity turn.walk n → IsCollected (turns ++ turn ∷ []) (grown rows n turn.weight)
grows turns rows turn n from first =
    let new = grown rows n turn.weight in
    let all = turns ++ turn ∷ [] in
    let long : length new ≡ length rows = length-set rows n (grown_row rows n turn.weight) in
    let keys = keys_kept rows n turn.weight first.within in
    let at_n = keys n in
    record {
      apart = λ i j d below l.
          let lj : j < length rows = omega (arith, l, long) in
          let li : i < length new = omega (arith, l, below) in
          let old : same_path (row_at new i) (row_at new j) ≡ false = unlike_kept rows n turn.weight first.within i j (from.apart i j no_row below lj) in
          subst (λ (r : Row). same_path (get_or new i d) r ≡ false) (get_or_default new j no_row d l) (subst (λ (r : Row). same_path r (row_at new j) ≡ false) (get_or_default new i no_row d li) old);
      each = All-push (λ (t : Row). IsTrue (list_any (same_path t) new)) turns turn
          (All-weaker (λ (t : Row). IsTrue (list_any (same_path t) rows)) (λ (t : Row). IsTrue (list_any (same_path t) new)) (λ t h. sym (any_kept rows new t long (λ i l. keys i)) ∙ h) turns from.each)
          (let inside = first.within in any_at new turn n (omega (arith, inside, long)) (same_from turn (row_at new n) (sym (at_n.0 ∙ first.here.0)) (sym (at_n.1 ∙ first.here.1))));
      no_other = All-from_get_or (λ (r : Row). IsTrue (list_any (same_path r) all)) new no_row (λ i l.
          let li : i < length rows = omega (arith, l, long) in
          let key = keys i in
          any_same all (row_at new i) (row_at rows i) key.0 key.1 ∙ any_old turns turn (row_at rows i) (All-get_or (λ (r : Row). IsTrue (list_any (same_path r) turns)) rows i no_row li from.no_other));
      weights = All-from_get_or (λ (r : Row). r.weight ≡ routed_along all r) new no_row (λ i l. grown_weight turns rows turn n from first i (omega (arith, l, long)));
    }

-- an add takes the turn
pub takes_turn : (old new : List Row) (turn : Row) (n : ℕ) → Adds old new turn.commodity turn.walk turn.weight n → TakesTurn old new turn
takes_turn old new turn n (inl p) = λ turns from. subst (IsCollected (turns ++ turn ∷ [])) (sym p.1) (grows turns old turn n from p.0)
takes_turn old new turn n (inr p) = λ turns from. subst (IsCollected (turns ++ turn ∷ [])) (sym p.2) (pushed turns old turn from p.0)

pub one_more : (old new : List Row) (k : ℕ) (path : List ℕ) (a n : ℕ) → Adds old new k path a n → length new ≤ length old + 1
one_more old new k path a n (inl p) = let e : length new ≡ length old = ap (λ (t : List Row). length t) p.1 ∙ length-set old n (grown_row old n a) in omega (arith, e)
one_more old new k path a n (inr p) = let e : length new ≡ length old + 1 = ap (λ (t : List Row). length t) p.2 ∙ length-append old (record { commodity = k; walk = path; weight = a } ∷ []) in omega (arith, e)
