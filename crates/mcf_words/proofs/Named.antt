-- What the grammar makes of a word that is an option.
use Rattle.std.proofs.Common.{◌≡◌, ◌∙◌, ◌<◌, ◌≤◌, ◌+◌, ◌&&◌, ◌||◌, ◌⊎◌, inl, inr, ℕ, zero, suc, Bool, cond, true, false, not, refl, sym, ap, subst, arith, List, [], ◌∷◌, map, length, take, drop, Option, Some, None, option_map}
use Rattle.std.specs.Prelude.{◌==◌, nat_lt, position}
use Rattle.std.specs.List.{list_any, position_or_len}
use Rattle.std.specs.Str.{bytes_eq}
use Rattle.std.proofs.lemmas.Bool.{and_from, le-ltb, lt-ltb}
use Rattle.std.proofs.lemmas.List.{take_all}
use Rattle.clap.specs.Lexer.{has_byte, name_and_value}
use Rattle.clap.specs.Walk.{Text}
use Rattle.mcf_words.specs.Items.{Items, Open, Waiting, Closed, Step, no_items, joined, setting_item, word_item, is_equals, is_option, step_at, step_of, items_from}
use Rattle.mcf_words.proofs.Fitting.{AllMisfit, all_misfit, dashed, joined-map, misfits_unknown}
use Rattle.mcf_words.proofs.Looks.{IsShortWord}

-- an option of that name, with its value or without
abbrev pub named_step : Text → Option Text → Step
named_step name None = record { items = no_items; next = Waiting name }
named_step name (Some v) = record { items = setting_item name v; next = Open }

-- the place of the first `=`, if there is one
equals_at : (t : Text) → ((has_byte 61 t ≡ true) × (position_or_len is_equals t < length t)) ⊎ ((has_byte 61 t ≡ false) × (length t ≤ position_or_len is_equals t))
equals_at [] = inr (refl, omega arith)
equals_at (x ∷ xs) = go (x == 61) refl (equals_at xs)
  where
    go : (b : Bool) → (x == 61) ≡ b → ((has_byte 61 xs ≡ true) × (position_or_len is_equals xs < length xs)) ⊎ ((has_byte 61 xs ≡ false) × (length xs ≤ position_or_len is_equals xs))
        → ((has_byte 61 (x ∷ xs) ≡ true) × (position_or_len is_equals (x ∷ xs) < length (x ∷ xs))) ⊎ ((has_byte 61 (x ∷ xs) ≡ false) × (length (x ∷ xs) ≤ position_or_len is_equals (x ∷ xs)))
    go true e rest =
        let here : position_or_len is_equals (x ∷ xs) ≡ 0 = ap (λ b. cond (not b) (1 + position_or_len is_equals xs) 0) e in
        inl (ap (λ b. b || has_byte 61 xs) e, omega arith)
    go false e (inl rest) =
        let here : position_or_len is_equals (x ∷ xs) ≡ 1 + position_or_len is_equals xs = ap (λ b. cond (not b) (1 + position_or_len is_equals xs) 0) e in
        let less : position_or_len is_equals xs < length xs = rest.1 in
        inl (ap (λ b. b || has_byte 61 xs) e ∙ rest.0, omega arith)
    go false e (inr rest) =
        let here : position_or_len is_equals (x ∷ xs) ≡ 1 + position_or_len is_equals xs = ap (λ b. cond (not b) (1 + position_or_len is_equals xs) 0) e in
        let past : length xs ≤ position_or_len is_equals xs = rest.1 in
        inr (ap (λ b. b || has_byte 61 xs) e ∙ rest.0, omega arith)

module _ (x : ℕ) (xs : Text) where
  abbrev rest : Text
  rest = x ∷ xs

  abbrev place : ℕ
  place = position_or_len is_equals rest

  pub option_here : is_option (dashed rest) ≡ true
  option_here = and_from (nat_lt 1 (length (dashed rest))) true (lt-ltb 1 (length (dashed rest)) (omega arith)) refl

  place_here : position is_equals (dashed rest) ≡ cond (nat_lt (suc (suc place)) (length (dashed rest))) (Some (suc (suc place))) None
  place_here =
      let counted : 1 + (1 + place) ≡ suc (suc place) = omega arith in
      ap (λ k. cond (nat_lt k (length (dashed rest))) (Some k) None) counted

  named : step_at (dashed rest) (position is_equals (dashed rest)) ≡ named_step (dashed (name_and_value rest).0) (name_and_value rest).1
  named = elim (equals_at rest) [
    | inl h ↦
        let less : place < length rest = h.1 in
        let there : nat_lt (suc (suc place)) (length (dashed rest)) ≡ true = lt-ltb (suc (suc place)) (length (dashed rest)) (omega arith) in
        let after : suc (suc place) + 1 ≡ suc (suc (place + 1)) = omega arith in
        ap (step_at (dashed rest)) place_here ∙ ap (λ b. step_at (dashed rest) (cond b (Some (suc (suc place))) None)) there
        ∙ ap (λ k. record { items = setting_item (dashed (take place rest)) (drop k (dashed rest)); next = Open }) after
        ∙ ap (λ b. named_step (dashed (take place rest)) (cond b (Some (drop (place + 1) rest)) None)) (sym h.0)
    | inr h ↦
        let past : length rest ≤ place = h.1 in
        let there : nat_lt (suc (suc place)) (length (dashed rest)) ≡ false = le-ltb (suc (suc place)) (length (dashed rest)) (omega arith) in
        ap (step_at (dashed rest)) place_here ∙ ap (λ b. step_at (dashed rest) (cond b (Some (suc (suc place))) None)) there
        ∙ ap (λ t. named_step (dashed t) None) (sym (take_all place rest past))
        ∙ ap (λ b. named_step (dashed (take place rest)) (cond b (Some (drop (place + 1) rest)) None)) (sym h.0)
  ]

  -- a word that begins with two dashes and has more is an option by its name
  pub long_is : step_of Open (dashed rest) ≡ named_step (dashed (name_and_value rest).0) (name_and_value rest).1
  long_is = ap (λ b. cond b (step_at (dashed rest) (position is_equals (dashed rest))) (record { items = word_item (dashed rest); next = Open })) option_here ∙ named

-- an option that no command has, with its value or before it
pub unknown_misfits : (names : List Text) (items : Items) (name : Text) (v : Option Text) (ws : List Text) → list_any (bytes_eq name) names ≡ false
    → AllMisfit names (option_map (joined (joined items (named_step name v).items)) (items_from (named_step name v).next ws))
unknown_misfits names items name (Some v) ws unknown = all_misfit names _ (items_from Open ws) (misfits_unknown names items name v unknown)
unknown_misfits names items name None [] unknown = tt
unknown_misfits names items name None (w ∷ ws) unknown = subst (AllMisfit names) (joined-map (joined items no_items) (setting_item name w) (items_from Open ws))
    (all_misfit names _ (items_from Open ws) (misfits_unknown names (joined items no_items) name w unknown))

-- an option by a short name
one_dash_unknown : (names : List Text) (t : Text) → list_any (bytes_eq (45 ∷ t)) (map dashed names) ≡ list_any (λ o. bytes_eq t (45 ∷ o)) names
one_dash_unknown [] t = refl
one_dash_unknown (o ∷ os) t = ap (λ b. bytes_eq t (45 ∷ o) || b) (one_dash_unknown os t)

none_begins : (names : List Text) (x : ℕ) (t : Text) → (x == 45) ≡ false → list_any (λ o. bytes_eq (x ∷ t) (45 ∷ o)) names ≡ false
none_begins [] x t e = refl
none_begins (o ∷ os) x t e = ap (λ b. (b && bytes_eq t o) || list_any (λ y. bytes_eq (x ∷ t) (45 ∷ y)) os) e ∙ none_begins os x t e

none_empty : (names : List Text) → list_any (λ o. bytes_eq [] (45 ∷ o)) names ≡ false
none_empty [] = refl
none_empty (o ∷ os) = none_empty os

module _ (names : List Text) (x : ℕ) (xs : Text) (apart : (x == 45) ≡ false) where
  front_unknown : (k : ℕ) → list_any (bytes_eq (45 ∷ take k (x ∷ xs))) (map dashed names) ≡ false
  front_unknown zero = one_dash_unknown names [] ∙ none_empty names
  front_unknown (suc k) = one_dash_unknown names (x ∷ take k xs) ∙ none_begins names x (take k xs) apart

  abbrev here : ℕ
  here = position_or_len is_equals (x ∷ xs)

  abbrev short_case : Bool → Step
  short_case b = step_at (45 ∷ x ∷ xs) (cond b (Some (suc here)) None)

  short_place : step_at (45 ∷ x ∷ xs) (position is_equals (45 ∷ x ∷ xs)) ≡ short_case (nat_lt (suc here) (length (45 ∷ x ∷ xs)))
  short_place =
      let counted : 1 + here ≡ suc here = omega arith in
      ap (λ k. step_at (45 ∷ x ∷ xs) (cond (nat_lt k (length (45 ∷ x ∷ xs))) (Some k) None)) counted

  case_misfits : (items : Items) (ws : List Text) (b : Bool) → AllMisfit (map dashed names) (option_map (joined (joined items (short_case b).items)) (items_from (short_case b).next ws))
  case_misfits items ws true = unknown_misfits (map dashed names) items (45 ∷ take here (x ∷ xs)) (Some (drop (suc here + 1) (45 ∷ x ∷ xs))) ws (front_unknown here)
  case_misfits items ws false = unknown_misfits (map dashed names) items (45 ∷ x ∷ xs) None ws (one_dash_unknown names (x ∷ xs) ∙ none_begins names x xs apart)

  pub short_is : IsShortWord (45 ∷ x ∷ xs) (x ∷ xs) → step_of Open (45 ∷ x ∷ xs) ≡ short_case (nat_lt (suc here) (length (45 ∷ x ∷ xs)))
  short_is short =
      let other : Step = record { items = word_item (45 ∷ x ∷ xs); next = Open } in
      let found : Step = step_at (45 ∷ x ∷ xs) (position is_equals (45 ∷ x ∷ xs)) in
      ap (λ b. cond b (record { items = no_items; next = Closed }) (cond (is_option (45 ∷ x ∷ xs)) found other)) short.not_end
      ∙ ap (λ b. cond b found other) short.option ∙ short_place

  pub short_misfits : (items : Items) (ws : List Text) → IsShortWord (45 ∷ x ∷ xs) (x ∷ xs)
      → AllMisfit (map dashed names) (option_map (joined (joined items (step_of Open (45 ∷ x ∷ xs)).items)) (items_from (step_of Open (45 ∷ x ∷ xs)).next ws))
  short_misfits items ws short = subst (λ (st : Step). AllMisfit (map dashed names) (option_map (joined (joined items st.items)) (items_from st.next ws))) (sym (short_is short))
      (case_misfits items ws (nat_lt (suc here) (length (45 ∷ x ∷ xs))))
