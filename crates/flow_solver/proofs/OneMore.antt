-- One entry more of a phase that is being added.
use Rattle.std.proofs.Common.{◌≡◌, ℕ, ◌+◌, ◌*◌, ◌<◌, List, [], ◌∷◌, ◌++◌, length, get_or, refl, sym, ap, ◌∙◌, subst, arith, length-append, length-set, Some, inl, inr}
use Rattle.std.specs.Prelude.{slice_get}
use Rattle.std.proofs.lemmas.Bool.{cases_eq}
use Rattle.std.proofs.lemmas.List.{get_or-set_same, get_or-set_other}
use Rattle.std.proofs.lemmas.List.Elements.{All-weaker}
use Rattle.std.proofs.lemmas.Option.{slice_get-get_or, slice_get_within, get_or_from_slice_get, same_Some}
use Rattle.flow_model.specs.declared.net.Commodity.{Commodity}
use Rattle.flow_model.specs.Network.{Network}
use Rattle.flow_model.specs.Routing.{Row}
use Rattle.flow_paths.specs.PathRows.{row_at, no_row, grown, IsFirstRow, Adds}
use Rattle.solver_run.specs.declared.options.Entry.{Entry}
use Rattle.solver_run.specs.History.{times_named, IsWeighed, NamesRows}
use Rattle.flow_solver.specs.Adding.{KeepsRows, AreBegun}
use Rattle.flow_solver.specs.Rows.{AreRowsFor}
use Rattle.flow_solver.proofs.Adds.{pushed_at, added, apart_added}
use Rattle.flow_solver.proofs.Times.{times_of_none, times_of_row, times_of_other, unnamed}

-- a row of the same commodity and weight, named as often
weighed_alike : (net : Network) (h g : List (List Entry)) (n m : ℕ) (old new : Row) → new.commodity ≡ old.commodity → new.weight ≡ old.weight → times_named g m ≡ times_named h n → IsWeighed net h n old → IsWeighed net g m new
weighed_alike net h g n m old new c w t is = record {
  named = rw t is.named;
  weight = λ k at. w ∙ is.weight k (ap (slice_get net.commodities) (sym c) ∙ at) ∙ ap (λ x. k.amount * x) (sym t);
}

-- one time more, with the amount more
weighed_more : (net : Network) (h g : List (List Entry)) (n : ℕ) (c : Commodity) (old new : Row) → slice_get net.commodities old.commodity ≡ Some c → new.commodity ≡ old.commodity → new.weight ≡ old.weight + c.amount → times_named g n ≡ times_named h n + 1
    → IsWeighed net h n old → IsWeighed net g n new
weighed_more net h g n c old new at same w t is = record {
  named = omega (arith, t);
  weight = λ k here.
      let one : c ≡ k = same_Some c k (sym at ∙ ap (slice_get net.commodities) (sym same) ∙ here) in
      let before = is.weight c at in
      let after : new.weight ≡ c.amount * (times_named h n + 1) = omega (arith, w, before) in
      after ∙ ap (λ (x : Commodity). x.amount * (times_named h n + 1)) one ∙ ap (λ x. k.amount * x) (sym t);
}

-- the first time, with the amount
weighed_first : (net : Network) (g : List (List Entry)) (n : ℕ) (c : Commodity) (new : Row) → slice_get net.commodities new.commodity ≡ Some c → new.weight ≡ c.amount → times_named g n ≡ 1 → IsWeighed net g n new
weighed_first net g n c new at w t = record {
  named = omega (arith, t);
  weight = λ k here.
      let one : c ≡ k = same_Some c k (sym at ∙ here) in
      let after : new.weight ≡ c.amount * 1 = omega (arith, w) in
      after ∙ ap (λ (x : Commodity). x.amount * 1) one ∙ ap (λ x. k.amount * x) (sym t);
}

weighed_grown : (net : Network) (h : List (List Entry)) (es : List Entry) (rows : List Row) (path : List ℕ) (c : Commodity) (k n w : ℕ) → slice_get net.commodities k ≡ Some c → IsFirstRow rows k path n
    → ((m : ℕ) (row : Row) → slice_get rows m ≡ Some row → IsWeighed net (h ++ es ∷ []) m row)
    → (m : ℕ) (row : Row) → slice_get (grown rows n c.amount) m ≡ Some row → IsWeighed net (h ++ (es ++ record { worker = w; row = n } ∷ []) ∷ []) m row
weighed_grown net h es rows path c k n w at first old m row is =
    let e : Entry = record { worker = w; row = n } in
    let more : Row = record { commodity = (row_at rows n).commodity; walk = (row_at rows n).walk; weight = (row_at rows n).weight + c.amount } in
    let here : get_or (grown rows n c.amount) m no_row ≡ row = get_or_from_slice_get (grown rows n c.amount) m row no_row is in
    elim (cases_eq n m) as (λ _. IsWeighed net (h ++ (es ++ e ∷ []) ∷ []) m row) [
      | inl one ↦
          let last : more ≡ row = sym (get_or-set_same rows n more no_row first.within) ∙ ap (λ i. get_or (grown rows n c.amount) i no_row) one ∙ here in
          let weighs = weighed_more net (h ++ es ∷ []) (h ++ (es ++ e ∷ []) ∷ []) n c (row_at rows n) more (ap (slice_get net.commodities) first.here.0 ∙ at) refl refl (times_of_row h es e n refl) (old n (row_at rows n) (slice_get-get_or rows n no_row first.within)) in
          subst (λ i. IsWeighed net (h ++ (es ++ e ∷ []) ∷ []) i row) one (subst (λ r. IsWeighed net (h ++ (es ++ e ∷ []) ∷ []) n r) last weighs)
      | inr ne ↦
          let other : get_or rows m no_row ≡ row = sym (get_or-set_other rows n m more no_row (λ q. ne (sym q))) ∙ here in
          let in' : m < length rows = let l = slice_get_within (grown rows n c.amount) m row is in omega (arith, l, length-set rows n more) in
          weighed_alike net (h ++ es ∷ []) (h ++ (es ++ e ∷ []) ∷ []) m m row row refl refl (times_of_other h es e m ne) (old m row (slice_get-get_or rows m no_row in' ∙ ap Some other))
    ]

weighed_pushed : (net : Network) (h : List (List Entry)) (es : List Entry) (rows : List Row) (path : List ℕ) (c : Commodity) (k w : ℕ) → slice_get net.commodities k ≡ Some c
    → times_named (h ++ es ∷ []) (length rows) ≡ 0
    → ((m : ℕ) (row : Row) → slice_get rows m ≡ Some row → IsWeighed net (h ++ es ∷ []) m row)
    → (m : ℕ) (row : Row) → slice_get (rows ++ record { commodity = k; walk = path; weight = c.amount } ∷ []) m ≡ Some row → IsWeighed net (h ++ (es ++ record { worker = w; row = length rows } ∷ []) ∷ []) m row
weighed_pushed net h es rows path c k w at none old m row is =
    let e : Entry = record { worker = w; row = length rows } in
    let new : Row = record { commodity = k; walk = path; weight = c.amount } in
    pushed_at rows new m row is (λ r i. IsWeighed net (h ++ (es ++ e ∷ []) ∷ []) i r)
    (λ r here. let l = slice_get_within rows m r here in weighed_alike net (h ++ es ∷ []) (h ++ (es ++ e ∷ []) ∷ []) m m r r refl refl (times_of_other h es e m (λ q. omega (arith, l, q))) (old m r here))
    (λ last.
    let t = times_of_row h es e (length rows) refl in
    let once : times_named (h ++ (es ++ e ∷ []) ∷ []) (length rows) ≡ 1 = omega (arith, t, none) in
    subst (λ i. IsWeighed net (h ++ (es ++ e ∷ []) ∷ []) i new) (sym last) (weighed_first net (h ++ (es ++ e ∷ []) ∷ []) (length rows) c new at refl once))

weighed_added : (net : Network) (h : List (List Entry)) (es : List Entry) (old new : List Row) (path : List ℕ) (c : Commodity) (k n w : ℕ) → slice_get net.commodities k ≡ Some c → Adds old new k path c.amount n
    → times_named (h ++ es ∷ []) (length old) ≡ 0
    → ((m : ℕ) (row : Row) → slice_get old m ≡ Some row → IsWeighed net (h ++ es ∷ []) m row)
    → (m : ℕ) (row : Row) → slice_get new m ≡ Some row → IsWeighed net (h ++ (es ++ record { worker = w; row = n } ∷ []) ∷ []) m row
weighed_added net h es old new path c k n w at (inl p) none was = λ m row is. weighed_grown net h es old path c k n w at p.0 was m row (ap (λ rs. slice_get rs m) (sym p.1) ∙ is)
weighed_added net h es old new path c k n w at (inr p) none was = λ m row is.
    subst (λ i. IsWeighed net (h ++ (es ++ record { worker = w; row = i } ∷ []) ∷ []) m row) (sym p.1) (weighed_pushed net h es old path c k w at none was m row (ap (λ rs. slice_get rs m) (sym p.2) ∙ is))

-- names stay good where rows are kept
pub names_kept : (net : Network) (old new : List Row) → KeepsRows old new → (es : List Entry) → NamesRows net old es → NamesRows net new es
names_kept net old new keeps es names = record {
  count = names.count;
  each = λ k e at. let a = names.each k e at in let m = keeps.more in let l = a.0 in (omega (arith, l, m), keeps.commodity e.row a.0 ∙ a.1);
}

-- the next entry names the row that an add has answered
pub one_more : (net : Network) (h : List (List Entry)) (es : List Entry) (old new : List Row) (path : List ℕ) (c : Commodity) (n w : ℕ) → AreBegun net h es old → slice_get net.commodities (length es) ≡ Some c
    → Adds old new (length es) path c.amount n → AreBegun net h (es ++ record { worker = w; row = n } ∷ []) new
one_more net h es old new path c n w b at adds =
    let a = added old new (length es) path c.amount n adds in
    let e : Entry = record { worker = w; row = n } in
    record {
      apart = apart_added old new (length es) path c.amount n adds b.apart;
      before = All-weaker (NamesRows net old) (NamesRows net new) (names_kept net old new a.keeps) h b.before;
      begun = λ k x is. pushed_at es e k x is (λ y i. (y.row < length new) × ((row_at new y.row).commodity ≡ i))
          (λ y here. let f = b.begun k y here in let l = f.0 in let m = a.keeps.more in (omega (arith, l, m), a.keeps.commodity y.row f.0 ∙ f.1))
          (λ last. (a.within, a.commodity ∙ sym last));
      weighed = weighed_added net h es old new path c (length es) n w at adds (unnamed net h es old (length old) b (omega arith)) b.weighed;
      few = let f = b.few in let m = a.most in omega (arith, f, m, length-append es (e ∷ []));
    }

-- before the first entry
pub begins : (net : Network) (h : List (List Entry)) (es : List Entry) (rows : List Row) → es ≡ [] → AreRowsFor net h rows → AreBegun net h es rows
begins net h es rows none are = rw none (record {
  apart = are.apart;
  before = are.entries;
  begun = λ k e at. absurd (let within = slice_get_within [] k e at in omega (arith, within));
  weighed = λ n row at. weighed_alike net h (h ++ [] ∷ []) n n row row refl refl (times_of_none h n) (are.weighed n row at);
  few = omega (arith, are.few);
})
