-- What one more commodity asks for.
use Rattle.std.proofs.Common.{◌≡◌, ℕ, ◌+◌, ◌<◌, Bool, true, false, ◌&&◌, ◌||◌, cond, eqb, List, length, get_or, set, take, inl, inr, sym, ap, ◌∙◌, arith, refl}
use Rattle.std.specs.List.{list_any, enumerate_from}
use Rattle.std.proofs.lemmas.Bool.Decides.{eqb_tells}
use Rattle.std.proofs.lemmas.List.{get_or_read, take_all}
use Rattle.std.proofs.lemmas.List.Folds.{list_any_more}
use Rattle.std.proofs.lemmas.List.FromFn.{length-enumerate_from, get_or-enumerate_from}
use Rattle.flow_model.specs.declared.net.Commodity.{Commodity}
use Rattle.flow_model.proofs.Duality.{no_commodity}
use Rattle.flow_paths.proofs.Counting.{set_here, set_there}

-- a commodity from the node, of whose number the test holds
abbrev pub asks : (ℕ → Bool) → ℕ → ℕ × Commodity → Bool
asks q s = λ j. eqb j.1.from s && q j.0

any_more : (cs : List Commodity) (q : ℕ → Bool) (k s : ℕ) → k < length cs
    → list_any (asks q s) (take (k + 1) (enumerate_from 0 cs)) ≡ (list_any (asks q s) (take k (enumerate_from 0 cs)) || (eqb (get_or cs k no_commodity).from s && q k))
any_more cs q k s lt =
    let all = enumerate_from 0 cs in
    let many = length-enumerate_from 0 cs in
    let before = list_any (asks q s) (take k all) in
    let more = list_any_more (asks q s) all k (0, no_commodity) (omega arith) in
    let is : get_or all k (0, no_commodity) ≡ (0 + k, get_or cs k no_commodity) = get_or-enumerate_from 0 cs k (0, no_commodity) lt in
    let plain : 0 + k ≡ k = omega arith in
    more ∙ ap (λ (x : ℕ × Commodity). before || asks q s x) is ∙ ap (λ (n : ℕ). before || (eqb (get_or cs k no_commodity).from s && q n)) plain

or_cond : (a b : Bool) → cond {A = ℕ} b 1 (cond a 1 0) ≡ cond (a || b) 1 0
or_cond true true = refl
or_cond true false = refl
or_cond false true = refl
or_cond false false = refl

or_none : (a : Bool) → (a || false) ≡ a
or_none true = refl
or_none false = refl

-- a table of marks
pub marked-more : (cs : List Commodity) (q : ℕ → Bool) (table : List ℕ) (k at old new s : ℕ) → k < length cs → at ≡ (get_or cs k no_commodity).from → at < length table → old ≡ get_or table at old → new ≡ cond (q k) 1 old
    → get_or table s 0 ≡ cond (list_any (asks q s) (take k (enumerate_from 0 cs))) 1 0 → get_or (set table at new) s 0 ≡ cond (list_any (asks q s) (take (k + 1) (enumerate_from 0 cs))) 1 0
marked-more cs q table k at old new s lt is inside read value h =
    let before = list_any (asks q s) (take k (enumerate_from 0 cs)) in
    let more = any_more cs q k s lt in
    elim (eqb_tells (get_or cs k no_commodity).from s) as (λ _. get_or (set table at new) s 0 ≡ cond (list_any (asks q s) (take (k + 1) (enumerate_from 0 cs))) 1 0) [
      | inl p ↦
          let here : at ≡ s = is ∙ p.1 in
          let was : old ≡ cond before 1 0 = get_or_read table at old inside read 0 ∙ ap (λ (j : ℕ). get_or table j 0) here ∙ h in
          set_here table at new s inside here ∙ value ∙ ap (λ (n : ℕ). cond (q k) 1 n) was ∙ or_cond before (q k) ∙ sym (ap (λ (b : Bool). cond {A = ℕ} b 1 0) (more ∙ ap (λ (b : Bool). before || (b && q k)) p.0))
      | inr p ↦
          set_there table at new s (λ e. p.1 (sym is ∙ e)) ∙ h ∙ sym (ap (λ (b : Bool). cond {A = ℕ} b 1 0) (more ∙ ap (λ (b : Bool). before || (b && q k)) p.0 ∙ or_none before))
    ]

-- a table of numbers of which a test asks
pub raised-more : (cs : List Commodity) (q f : ℕ → Bool) (table : List ℕ) (k at old new s : ℕ) → k < length cs → at ≡ (get_or cs k no_commodity).from → at < length table → old ≡ get_or table at old → f new ≡ (f old || q k)
    → list_any (asks q s) (take k (enumerate_from 0 cs)) ≡ f (get_or table s 0) → list_any (asks q s) (take (k + 1) (enumerate_from 0 cs)) ≡ f (get_or (set table at new) s 0)
raised-more cs q f table k at old new s lt is inside read value h =
    let before = list_any (asks q s) (take k (enumerate_from 0 cs)) in
    let more = any_more cs q k s lt in
    elim (eqb_tells (get_or cs k no_commodity).from s) as (λ _. list_any (asks q s) (take (k + 1) (enumerate_from 0 cs)) ≡ f (get_or (set table at new) s 0)) [
      | inl p ↦
          let here : at ≡ s = is ∙ p.1 in
          let was : old ≡ get_or table s 0 = get_or_read table at old inside read 0 ∙ ap (λ (j : ℕ). get_or table j 0) here in
          more ∙ ap (λ (b : Bool). before || (b && q k)) p.0 ∙ ap (λ (b : Bool). b || q k) (h ∙ sym (ap f was)) ∙ sym value ∙ sym (ap f (set_here table at new s inside here))
      | inr p ↦
          more ∙ ap (λ (b : Bool). before || (b && q k)) p.0 ∙ or_none before ∙ h ∙ sym (ap f (set_there table at new s (λ e. p.1 (sym is ∙ e))))
    ]

pub whole : (cs : List Commodity) (k : ℕ) → length cs ≡ k → take k (enumerate_from 0 cs) ≡ enumerate_from 0 cs
whole cs k e = let many = length-enumerate_from 0 cs in take_all k (enumerate_from 0 cs) (omega arith)
