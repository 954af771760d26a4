-- Limits that are too far, and those that are not.
use Rattle.std.proofs.Common.{◌≡◌, ℕ, ◌+◌, ◌<◌, ◌≤◌, true, false, List, [], ◌∷◌, ◌++◌, Option, Some, None, length, map, take, get_or, inl, inr, sym, ap, subst, ◌∙◌, arith, refl, length-append}
use Rattle.std.specs.Prelude.{All, MatchOption, nat_lt}
use Rattle.std.specs.Option.{option_map_or}
use Rattle.std.proofs.lemmas.Bool.{cases_lt, lt-ltb, le-ltb}
use Rattle.std.proofs.lemmas.List.{take_more, map-append, get_or_append_left, get_or-append-add}
use Rattle.mcf_limits.specs.declared.TheConstants.{MAX_HOPS}

pub far_by : (o : Option ℕ) → MatchOption o ⊥ (λ n. MAX_HOPS < n) → option_map_or (nat_lt MAX_HOPS) o false ≡ true
far_by None h = absurd h
far_by (Some n) h = lt-ltb MAX_HOPS n h

pub near_by : (o l : Option ℕ) → l ≡ o → MatchOption l (Unit {0}) (λ n. n ≤ MAX_HOPS) → option_map_or (nat_lt MAX_HOPS) o false ≡ false
near_by o l e h = ap (λ (x : Option ℕ). option_map_or (nat_lt MAX_HOPS) x false) (sym e) ∙ by l h
  where
    by : (l : Option ℕ) → MatchOption l (Unit {0}) (λ n. n ≤ MAX_HOPS) → option_map_or (nat_lt MAX_HOPS) l false ≡ false
    by None h = refl
    by (Some n) h = le-ltb MAX_HOPS n h

-- one more of a list that is said item by item
pub map-more : {X Y : Type 0} (f : X → Y) (xs : List X) (k : ℕ) (d : X) (ys : List Y) (y : Y) → k < length xs → ys ≡ map f (take k xs) → y ≡ f (get_or xs k d) → ys ++ y ∷ [] ≡ map f (take (k + 1) xs)
map-more f xs k d ys y lt e is =
    ap (λ zs. zs ++ y ∷ []) e ∙ ap (λ z. map f (take k xs) ++ z ∷ []) is ∙ sym (map-append f (take k xs) (get_or xs k d ∷ [])) ∙ sym (ap (map f) (take_more xs k d lt))

pub All-push : {X : Type 0} (P : X → Type 0) (xs : List X) (x : X) → All P xs → P x → All P (xs ++ x ∷ [])
All-push P xs x all here k d lt = elim (cases_lt k (length xs)) [
  | inl less ↦ subst P (sym (get_or_append_left xs (x ∷ []) d k less)) (all k d less)
  | inr more ↦
      let size = length-append xs (x ∷ []) in
      let is : length xs + 0 ≡ k = omega arith in
      subst P (sym (ap (λ (n : ℕ). get_or (xs ++ x ∷ []) n d) (sym is) ∙ get_or-append-add xs (x ∷ []) 0 d)) here
]
