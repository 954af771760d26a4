-- Parts are read as their items.
use Rattle.std.proofs.Common.{◌≡◌, ◌∙◌, ◌&&◌, ◌+◌, ◌<◌, ◌≤◌, ℕ, Bool, cond, true, false, not, refl, sym, ap, ap₂, arith, List, [], ◌∷◌, ◌++◌, length, Option, Some, None, option_map, All, Contains, length-append, codes}
use Rattle.std.specs.Prelude.{◌==◌, nat_lt, position, unwrap_or}
use Rattle.std.specs.List.{flat_map, list_all, list_any, position_or_len}
use Rattle.std.specs.Str.{bytes_eq}
use Rattle.std.proofs.Math.Seq.{take-append_seam, drop-append-add}
use Rattle.std.proofs.lemmas.Bool.{and_from, and_parts, false≢true, false_from_ne_true, le-ltb, lt-ltb, not-true, or_parts}
use Rattle.std.proofs.lemmas.List.Elements.{All-contains, All-head, All-tail, All-nil, All-cons, All-weaker}
use Rattle.std.proofs.lemmas.List.Sums.{AllPass-from_list_all, list_all-from_AllPass}
use Rattle.mcf_words.specs.declared.request.Command.{Command}
use Rattle.mcf_words.specs.declared.request.Command.TheVariants.{Solve, Check, WhatIf, Upgrade, Tighten, Batch, Sweep, SweepSolve, CheckHops, CheckThroughput, Hops, Throughput, Print, Gen, Trial}
use Rattle.mcf_words.specs.Items.{Items, Open, Waiting, Closed, Setting, Step, no_items, joined, setting_item, word_item, is_end, is_equals, is_option, step_at, step_of, items_from}
use Rattle.mcf_words.specs.Request.{are_known, options_of}
use Rattle.mcf_words.proofs.Rows.{text_is}
use Rattle.mcf_words.specs.Parts.{Part, Plain, Apart, Joined, MayStand, ending, words_of, plain_of, settings_of}
use Rattle.mcf_words.proofs.Basics.{any_of}

abbrev pub Text : Type 0
Text = List ℕ

-- a name of an option: a dash first and more bytes, and no `=`
pub record IsName (name : Text) : Type 0 where
  pub dashed : is_option name ≡ true
  pub not_end : is_end name ≡ false
  pub no_equals : list_any is_equals name ≡ false

abbrev name_test : Text → Bool
name_test name = (is_option name && not (is_end name)) && not (list_any is_equals name)

all_names : (c : Command) → list_all name_test (options_of c) ≡ true
all_names Solve = refl
all_names Check = refl
all_names WhatIf = refl
all_names Upgrade = refl
all_names Tighten = refl
all_names Batch = refl
all_names Sweep = refl
all_names SweepSolve = refl
all_names CheckHops = refl
all_names CheckThroughput = refl
all_names Hops = refl
all_names Throughput = refl
all_names Print = refl
all_names Gen = refl
all_names Trial = refl

pub named : (c : Command) (name : Text) → Contains (options_of c) name → IsName name
named c name has =
    let pass : name_test name ≡ true = All-contains (λ x. name_test x ≡ true) (options_of c) name (AllPass-from_list_all name_test (options_of c) (all_names c)) has in
    let outer = and_parts (is_option name && not (is_end name)) (not (list_any is_equals name)) pass in
    let inner = and_parts (is_option name) (not (is_end name)) outer.0 in
    record { dashed = inner.0; not_end = not-true (is_end name) inner.1; no_equals = not-true (list_any is_equals name) outer.1 }

-- ---- one word

-- a word that is no option does not end the options
pub plain_not_end : (word : Text) → is_option word ≡ false → is_end word ≡ false
plain_not_end word plain = false_from_ne_true (is_end word) (λ t. dashes (text_is word (codes "--") t))
  where
    dashes : word ≡ codes "--" → ⊥
    dashes same = false≢true (sym plain ∙ ap is_option same)

pub end_step : (word : Text) → is_end word ≡ true → step_of Open word ≡ record { items = no_items; next = Closed }
end_step word e =
    let other : Step = record { items = word_item word; next = Open } in
    ap (λ b. cond b (record { items = no_items; next = Closed }) (cond (is_option word) (step_at word (position is_equals word)) other)) e

pub option_step : (word : Text) → is_end word ≡ false → is_option word ≡ true → step_of Open word ≡ step_at word (position is_equals word)
option_step word e o =
    let other : Step = record { items = word_item word; next = Open } in
    let found : Step = step_at word (position is_equals word) in
    ap (λ b. cond b (record { items = no_items; next = Closed }) (cond (is_option word) found other)) e ∙ ap (λ b. cond b found other) o

pub plain_step : (word : Text) → is_option word ≡ false → step_of Open word ≡ record { items = word_item word; next = Open }
plain_step word o =
    let other : Step = record { items = word_item word; next = Open } in
    let found : Step = step_at word (position is_equals word) in
    ap (λ b. cond b (record { items = no_items; next = Closed }) (cond (is_option word) found other)) (plain_not_end word o) ∙ ap (λ b. cond b found other) o

-- ---- a name, and a name with its value

none_equal : (t : Text) → list_any is_equals t ≡ false → length t ≤ position_or_len is_equals t
none_equal [] e = omega arith
none_equal (x ∷ xs) e =
    let parts = or_parts (x == 61) (list_any is_equals xs) e in
    let here : position_or_len is_equals (x ∷ xs) ≡ 1 + position_or_len is_equals xs = ap (λ b. cond (not b) (1 + position_or_len is_equals xs) 0) parts.0 in
    let rest : length xs ≤ position_or_len is_equals xs = none_equal xs parts.1 in
    omega arith

first_equals : (t v : Text) → list_any is_equals t ≡ false → position_or_len is_equals (t ++ 61 ∷ v) ≡ length t
first_equals [] v e = refl
first_equals (x ∷ xs) v e =
    let parts = or_parts (x == 61) (list_any is_equals xs) e in
    let here : position_or_len is_equals (x ∷ (xs ++ 61 ∷ v)) ≡ 1 + position_or_len is_equals (xs ++ 61 ∷ v) = ap (λ b. cond (not b) (1 + position_or_len is_equals (xs ++ 61 ∷ v)) 0) parts.0 in
    let rest : position_or_len is_equals (xs ++ 61 ∷ v) ≡ length xs = first_equals xs v parts.1 in
    omega arith

pub apart_step : (name : Text) → IsName name → step_of Open name ≡ record { items = no_items; next = Waiting name }
apart_step name is =
    let none : position is_equals name ≡ None = ap (λ b. cond b (Some (position_or_len is_equals name)) None) (le-ltb (position_or_len is_equals name) (length name) (none_equal name is.no_equals)) in
    option_step name is.not_end is.dashed ∙ ap (step_at name) none

longer : (name v : Text) → is_option name ≡ true → is_option (name ++ 61 ∷ v) ≡ true
longer [] v e = absurd (false≢true e)
longer (x ∷ []) v e = absurd (false≢true e)
longer (x ∷ y ∷ zs) v e = and_from (nat_lt 1 (length (x ∷ y ∷ (zs ++ 61 ∷ v)))) (x == 45) (lt-ltb 1 (length (x ∷ y ∷ (zs ++ 61 ∷ v))) (omega arith)) (and_parts (nat_lt 1 (length (x ∷ y ∷ zs))) (x == 45) e).1

some_bytes : (name : Text) → is_option name ≡ true → 1 < length name
some_bytes [] e = absurd (false≢true e)
some_bytes (x ∷ []) e = absurd (false≢true e)
some_bytes (x ∷ y ∷ zs) e = omega arith

no_end : (name v : Text) → is_option name ≡ true → is_end (name ++ 61 ∷ v) ≡ false
no_end name v e = false_from_ne_true (is_end (name ++ 61 ∷ v)) (λ t. too_long (ap length (text_is (name ++ 61 ∷ v) (codes "--") t)))
  where
    too_long : length (name ++ 61 ∷ v) ≡ 2 → ⊥
    too_long two =
        let sum : length (name ++ 61 ∷ v) ≡ length name + length (61 ∷ v) = length-append name (61 ∷ v) in
        let some : 1 < length name = some_bytes name e in
        omega arith

pub joined_step : (name v : Text) → IsName name → step_of Open (name ++ 61 ∷ v) ≡ record { items = setting_item name v; next = Open }
joined_step name v is =
    let sum : length (name ++ 61 ∷ v) ≡ length name + length (61 ∷ v) = length-append name (61 ∷ v) in
    let there : nat_lt (length name) (length (name ++ 61 ∷ v)) ≡ true = lt-ltb (length name) (length (name ++ 61 ∷ v)) (omega arith) in
    let place : position is_equals (name ++ 61 ∷ v) ≡ Some (length name) =
    ap (λ k. cond (nat_lt k (length (name ++ 61 ∷ v))) (Some k) None) (first_equals name v is.no_equals) ∙ ap (λ b. cond b (Some (length name)) None) there in
    option_step (name ++ 61 ∷ v) (no_end name v is.dashed) (longer name v is.dashed) ∙ ap (step_at (name ++ 61 ∷ v)) place
    ∙ ap₂ (λ (n w : Text). record { items = setting_item n w; next = Open }) (take-append_seam name (61 ∷ v)) (drop-append-add name (61 ∷ v) 1)

-- ---- all words

pub closed_items : (words : List Text) → items_from Closed words ≡ Some (record { positional = words; settings = [] })
closed_items [] = refl
closed_items (w ∷ ws) = ap (option_map (joined (word_item w))) (closed_items ws)

abbrev pub after : Step → List Text → Option Items
after s words = option_map (joined s.items) (items_from s.next words)

pub parts_read : (c : Command) (parts : List Part) (last : Option (List Text)) → All (MayStand c) parts
    → items_from Open (flat_map words_of parts ++ ending last) ≡ Some (record { positional = flat_map plain_of parts ++ unwrap_or last []; settings = flat_map settings_of parts })
parts_read c [] None all = refl
parts_read c [] (Some ws) all = ap (option_map (joined no_items)) (closed_items ws)
parts_read c (Plain w ∷ ps) last all =
    ap (λ s. after s (flat_map words_of ps ++ ending last)) (plain_step w (All-head (MayStand c) (Plain w) ps all))
    ∙ ap (option_map (joined (word_item w))) (parts_read c ps last (All-tail (MayStand c) (Plain w) ps all))
parts_read c (Apart s ∷ ps) last all =
    ap (λ st. after st (s.value ∷ (flat_map words_of ps ++ ending last))) (apart_step s.name (named c s.name (All-head (MayStand c) (Apart s) ps all)))
    ∙ ap (λ o. option_map (joined no_items) (option_map (joined (setting_item s.name s.value)) o)) (parts_read c ps last (All-tail (MayStand c) (Apart s) ps all))
parts_read c (Joined s ∷ ps) last all =
    ap (λ st. after st (flat_map words_of ps ++ ending last)) (joined_step s.name s.value (named c s.name (All-head (MayStand c) (Joined s) ps all)))
    ∙ ap (option_map (joined (setting_item s.name s.value))) (parts_read c ps last (All-tail (MayStand c) (Joined s) ps all))

-- ---- every option is known

abbrev pub IsKnown : Command → Setting → Type 0
IsKnown c s = Contains (options_of c) s.name

pub known_settings : (c : Command) (parts : List Part) → All (MayStand c) parts → All (IsKnown c) (flat_map settings_of parts)
known_settings c [] all = All-nil (IsKnown c)
known_settings c (Plain w ∷ ps) all = known_settings c ps (All-tail (MayStand c) (Plain w) ps all)
known_settings c (Apart s ∷ ps) all = All-cons (IsKnown c) s (flat_map settings_of ps) (All-head (MayStand c) (Apart s) ps all) (known_settings c ps (All-tail (MayStand c) (Apart s) ps all))
known_settings c (Joined s ∷ ps) all = All-cons (IsKnown c) s (flat_map settings_of ps) (All-head (MayStand c) (Joined s) ps all) (known_settings c ps (All-tail (MayStand c) (Joined s) ps all))

pub known_test : (c : Command) (settings : List Setting) → All (IsKnown c) settings → are_known c settings ≡ true
known_test c settings all = list_all-from_AllPass (λ (s : Setting). list_any (bytes_eq s.name) (options_of c)) settings
    (All-weaker (IsKnown c) (λ (s : Setting). list_any (bytes_eq s.name) (options_of c) ≡ true) (λ s has. any_of s.name (options_of c) has) settings all)
