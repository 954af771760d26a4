-- What clap makes of one word, for a command with these options.
use Rattle.std.proofs.Common.{◌≡◌, ◌∙◌, ◌&&◌, ℕ, Bool, cond, true, false, refl, sym, ap, ap₂, subst, List, [], ◌∷◌, length, Option, Some, None}
use Rattle.std.specs.Prelude.{nat_lt, slice_get, drop, encode_utf8}
use Rattle.std.specs.Option.{option_map_or}
use Rattle.std.specs.Str.{IsUtf8, bytes_eq, chars}
use Rattle.clap.specs.Lexer.{long_of, name_and_value}
use Rattle.clap.specs.Kinds.{Kinds, or_else}
use Rattle.clap.specs.Walk.{Held, Row, Rule, Step, Text, Waiting, idle, option, positional, Walk, after_flag, after_step, arg_by_id, arg_by_long, has_row, is_pending, long_met, long_or_other, next, plain_word, pushed, settled, settled_rows, short_or_plain, to_positional, trailing, used_by_id, value, walked, with_values, without, word_met, option_word}
use Rattle.clap.specs.Faults.{bundle_fault, bundle_step_fault, flag_word_fault, flags_fault, long_fault, other_fault, positional_fault, settle_fault, short_fault, step_fault, stray_fault, turn_fault, use_fault, word_fault}
use Rattle.clap.specs.declared.builder.value_parser.Reading.TheVariants as readings
use Rattle.clap.specs.declared.error.kind.ErrorKind.TheVariants as kind
use Rattle.clap.specs.declared.parser.matches.ValueSource.TheVariants.{CommandLine}
use Rattle.mcf_words.proofs.Rows.{same_text}
use Rattle.mcf_words.proofs.Fitting.{words_id}
use Rattle.mcf_words.proofs.Looks.{IsPlainWord, IsShortWord, first_char}
use Rattle.mcf_words.proofs.Table.{by_index, by_long, by_name, by_words, has_name, no_short, option_built, shape, table, words_built}

abbrev pub IsFault : Kinds → Type 0
IsFault [] = ⊥
IsFault (k ∷ ks) = Unit {0}

pub fault_first : (a b : Kinds) → IsFault a → IsFault (or_else a b)
fault_first [] b f = absurd f
fault_first (k ∷ ks) b f = tt

pub fault_second : (a b : Kinds) → IsFault b → IsFault (or_else a b)
fault_second [] b f = f
fault_second (k ∷ ks) b f = tt

pub no_fault : (a b : Kinds) → a ≡ [] → b ≡ [] → or_else a b ≡ []
no_fault a b ea eb = ap (λ x. or_else x b) ea ∙ eb

-- nothing waits for a value
abbrev pub IsIdle : Waiting → Type 0
IsIdle idle = Unit {0}
IsIdle (option id) = ⊥
IsIdle positional = Unit {0}

abbrev pub held : List Row → Option (Text × List Text) → Held
held rows pending = record { rows = rows; pending = pending; skip = 0 }

abbrev pub at : List Row → Option (Text × List Text) → Waiting → Bool → Walk
at rows pending waiting trailed = record { held = held rows pending; waiting = waiting; position = 1; is_trailing = trailed; stopped = None }

-- the rows with one more value
abbrev pub with_word : Text → List Row → List Row
with_word v rows = with_values words_id readings.AsWritten CommandLine (v ∷ []) rows

abbrev pub with_option : Text → Text → List Row → List Row
with_option name v rows = with_values name readings.AsWritten CommandLine (v ∷ []) (without name rows)

and_false : (b : Bool) → (b && false) ≡ false
and_false true = refl
and_false false = refl

module _ (names : List Text) (own : has_name names words_id ≡ false) where
  abbrev pub fault_of_turn : Walk → Text → Kinds
  fault_of_turn w word = turn_fault (shape names) [] w word

  abbrev pub fault_held : List Row → Option (Text × List Text) → Kinds
  fault_held rows p = settle_fault (table names) false (held rows p)

  abbrev pub rows_held : List Row → Option (Text × List Text) → List Row
  rows_held rows p = settled_rows (table names) p rows

  -- ---- what is pending

  pub held_option : (rows : List Row) (name v : Text) → has_name names name ≡ true → rows_held rows (Some (name, v ∷ [])) ≡ with_option name v rows
  held_option rows name v known = ap (λ o. used_by_id o (v ∷ []) rows) (by_name names name known)

  pub held_word : (rows : List Row) (v : Text) → rows_held rows (Some (words_id, v ∷ [])) ≡ with_word v rows
  held_word rows v = ap (λ o. used_by_id o (v ∷ []) rows) (by_words names own)

  use_once : (rows : List Row) (name v : Text) → has_row name rows ≡ false → use_fault false (option_built name) (v ∷ []) rows ≡ []
  use_once rows name v first = ap (λ b. or_else (cond (b && true) (kind.ArgumentConflict ∷ []) []) []) first

  use_again : (rows : List Row) (name v : Text) → has_row name rows ≡ true → IsFault (use_fault false (option_built name) (v ∷ []) rows)
  use_again rows name v again = subst (λ b. IsFault (or_else (cond (b && true) (kind.ArgumentConflict ∷ []) []) [])) (sym again) tt

  pub once_held : (rows : List Row) (name v : Text) → has_name names name ≡ true → has_row name rows ≡ false → fault_held rows (Some (name, v ∷ [])) ≡ []
  once_held rows name v known first = ap (λ o. option_map_or (λ a. use_fault false a (v ∷ []) rows) o []) (by_name names name known) ∙ use_once rows name v first

  pub again_held : (rows : List Row) (name v : Text) → has_name names name ≡ true → has_row name rows ≡ true → IsFault (fault_held rows (Some (name, v ∷ [])))
  again_held rows name v known again = subst (λ o. IsFault (option_map_or (λ a. use_fault false a (v ∷ []) rows) o [])) (sym (by_name names name known)) (use_again rows name v again)

  pub none_held : (rows : List Row) (name : Text) → has_name names name ≡ true → IsFault (fault_held rows (Some (name, [])))
  none_held rows name known = subst (λ o. IsFault (option_map_or (λ a. use_fault false a [] rows) o [])) (sym (by_name names name known)) tt

  pub word_held : (rows : List Row) (v : Text) → fault_held rows (Some (words_id, v ∷ [])) ≡ []
  word_held rows v = ap (λ o. option_map_or (λ a. use_fault false a (v ∷ []) rows) o []) (by_words names own)

  -- ---- `--`

  pub end_fault : (rows : List Row) (p : Option (Text × List Text)) (wt : Waiting) → fault_of_turn (at rows p wt false) (45 ∷ 45 ∷ []) ≡ []
  end_fault rows p idle = refl
  end_fault rows p (option id) = refl
  end_fault rows p positional = refl

  pub end_walk : (rows : List Row) (p : Option (Text × List Text)) (wt : Waiting) → walked (table names) [] (at rows p wt false) (45 ∷ 45 ∷ []) ≡ at rows p wt true
  unfolding walked
  end_walk rows p idle = refl
  end_walk rows p (option id) = refl
  end_walk rows p positional = refl

  -- ---- an option by its long name

  abbrev long_turn : List Row → Option (Text × List Text) → Waiting → Text → Option Rule → Option Text → Kinds
  long_turn rows p wt word found v =
      let met = after_flag (table names) wt word (long_met (table names) found v (held rows p)).0 (long_met (table names) found v (held rows p)).1 in
      or_else (long_fault (table names) false found v (held rows p)) (step_fault (shape names) 1 met.0 met.1)

  abbrev long_step : List Row → Option (Text × List Text) → Waiting → Text → Option Rule → Option Text → Walk
  long_step rows p wt word found v =
      let met = after_flag (table names) wt word (long_met (table names) found v (held rows p)).0 (long_met (table names) found v (held rows p)).1 in
      after_step (table names) word (at rows p wt false) met.0 met.1

  module _ (rows : List Row) (p : Option (Text × List Text)) (x : ℕ) (xs : Text) where
    abbrev pub long_name : Text
    long_name = (name_and_value (x ∷ xs)).0

    abbrev pub long_value : Option Text
    long_value = (name_and_value (x ∷ xs)).1

    long_fault_is : (wt : Waiting) → fault_of_turn (at rows p wt false) (45 ∷ 45 ∷ x ∷ xs) ≡ long_turn rows p wt (45 ∷ 45 ∷ x ∷ xs) (arg_by_long (table names) long_name) long_value
    long_fault_is idle = refl
    long_fault_is (option id) = refl
    long_fault_is positional = refl

    long_walk_is : (wt : Waiting) → walked (table names) [] (at rows p wt false) (45 ∷ 45 ∷ x ∷ xs) ≡ long_step rows p wt (45 ∷ 45 ∷ x ∷ xs) (arg_by_long (table names) long_name) long_value
    unfolding walked
    long_walk_is idle = refl
    long_walk_is (option id) = refl
    long_walk_is positional = refl

    known_rule : has_name names long_name ≡ true → arg_by_long (table names) long_name ≡ Some (option_built long_name)
    known_rule known = by_long names long_name ∙ ap (λ b. cond b (Some (option_built long_name)) None) known

    pub unknown_fault : (wt : Waiting) → has_name names long_name ≡ false → IsFault (fault_of_turn (at rows p wt false) (45 ∷ 45 ∷ x ∷ xs))
    unknown_fault wt unknown =
        let none : arg_by_long (table names) long_name ≡ None = by_long names long_name ∙ ap (λ b. cond b (Some (option_built long_name)) None) unknown in
        subst IsFault (sym (long_fault_is wt)) (subst (λ o. IsFault (long_turn rows p wt (45 ∷ 45 ∷ x ∷ xs) o long_value)) (sym none) tt)

    -- the value is joined to the name
    pub joined_fault : (wt : Waiting) (v : Text) → long_value ≡ Some v → has_name names long_name ≡ true → fault_held rows p ≡ [] → has_row long_name (rows_held rows p) ≡ false
        → fault_of_turn (at rows p wt false) (45 ∷ 45 ∷ x ∷ xs) ≡ []
    joined_fault wt v is known settles first =
        let once : use_fault false (option_built long_name) (v ∷ []) (rows_held rows p) ≡ [] = use_once (rows_held rows p) long_name v first in
        long_fault_is wt ∙ ap₂ (λ o (e : Option Text). long_turn rows p wt (45 ∷ 45 ∷ x ∷ xs) o e) (known_rule known) is
        ∙ no_fault (or_else (fault_held rows p) (use_fault false (option_built long_name) (v ∷ []) (rows_held rows p))) [] (no_fault _ _ settles once) refl

    pub joined_again : (wt : Waiting) (v : Text) → long_value ≡ Some v → has_name names long_name ≡ true → has_row long_name (rows_held rows p) ≡ true
        → IsFault (fault_of_turn (at rows p wt false) (45 ∷ 45 ∷ x ∷ xs))
    joined_again wt v is known again =
        subst IsFault (sym (long_fault_is wt ∙ ap₂ (λ o (e : Option Text). long_turn rows p wt (45 ∷ 45 ∷ x ∷ xs) o e) (known_rule known) is))
        (fault_first (or_else (fault_held rows p) (use_fault false (option_built long_name) (v ∷ []) (rows_held rows p))) []
        (fault_second (fault_held rows p) _ (use_again (rows_held rows p) long_name v again)))

    pub joined_walk : (wt : Waiting) (v : Text) → long_value ≡ Some v → has_name names long_name ≡ true
        → walked (table names) [] (at rows p wt false) (45 ∷ 45 ∷ x ∷ xs) ≡ at (with_option long_name v (rows_held rows p)) None idle false
    joined_walk wt v is known = long_walk_is wt ∙ ap₂ (λ o (e : Option Text). long_step rows p wt (45 ∷ 45 ∷ x ∷ xs) o e) (known_rule known) is

    -- the value is the next word
    pub apart_fault : (wt : Waiting) → long_value ≡ None → has_name names long_name ≡ true → fault_held rows p ≡ []
        → fault_of_turn (at rows p wt false) (45 ∷ 45 ∷ x ∷ xs) ≡ []
    apart_fault wt is known settles =
        long_fault_is wt ∙ ap₂ (λ o (e : Option Text). long_turn rows p wt (45 ∷ 45 ∷ x ∷ xs) o e) (known_rule known) is ∙ no_fault (fault_held rows p) [] settles refl

    pub apart_walk : (wt : Waiting) → long_value ≡ None → has_name names long_name ≡ true
        → walked (table names) [] (at rows p wt false) (45 ∷ 45 ∷ x ∷ xs) ≡ at (rows_held rows p) (Some (long_name, [])) (option long_name) false
    apart_walk wt is known = long_walk_is wt ∙ ap₂ (λ o (e : Option Text). long_step rows p wt (45 ∷ 45 ∷ x ∷ xs) o e) (known_rule known) is

    -- what is pending fails first
    pub pending_fault : (wt : Waiting) → IsFault (fault_held rows p) → IsFault (fault_of_turn (at rows p wt false) (45 ∷ 45 ∷ x ∷ xs))
    pending_fault wt fails = go (has_name names long_name) refl
      where
        of_value : (e : Option Text) → IsFault (long_fault (table names) false (Some (option_built long_name)) e (held rows p))
        of_value None = fails
        of_value (Some v) = fault_first (fault_held rows p) _ fails

        go : (b : Bool) → has_name names long_name ≡ b → IsFault (fault_of_turn (at rows p wt false) (45 ∷ 45 ∷ x ∷ xs))
        go false e = unknown_fault wt e
        go true e = subst IsFault (sym (long_fault_is wt)) (subst (λ o. IsFault (long_turn rows p wt (45 ∷ 45 ∷ x ∷ xs) o long_value)) (sym (known_rule e))
            (fault_first _ _ (of_value long_value)))

  -- ---- an option by short names

  pub short_fails : (rows : List Row) (p : Option (Text × List Text)) (wt : Waiting) (x : ℕ) (xs : Text) → IsShortWord (45 ∷ x ∷ xs) (x ∷ xs) → IsUtf8 (45 ∷ x ∷ xs)
      → IsFault (fault_of_turn (at rows p wt false) (45 ∷ x ∷ xs))
  unfolding flags_fault
  short_fails rows p wt x xs short text = fault_first _ _ (by_waiting wt)
    where
      word : Text
      word = 45 ∷ x ∷ xs

      bundled : (c : ℕ) → slice_get (chars (x ∷ xs)) 0 ≡ Some c → IsFault (bundle_fault (table names) false (x ∷ xs) (held rows p))
      bundled c first = subst (λ o. IsFault (bundle_step_fault (table names) false o (x ∷ xs) 0 (held rows p) (flags_fault (table names) false (length xs)))) (sym first)
          (subst (λ o. IsFault (short_fault (table names) false o (drop (length (encode_utf8 c)) (x ∷ xs)) (held rows p)
          (flags_fault (table names) false (length xs) (drop (length (encode_utf8 c)) (x ∷ xs)) 0))) (sym (no_short names c)) tt)

      fails : IsFault (other_fault (shape names) None word (held rows p))
      fails =
          let c = first_char x xs text in
          subst (λ b. IsFault (cond b [] (flag_word_fault (table names) false (long_of word) word (held rows p)))) (sym short.not_end)
          (subst (λ o. IsFault (flag_word_fault (table names) false o word (held rows p))) (sym short.no_long)
          (subst (λ o. IsFault (option_map_or (λ flags. bundle_fault (table names) false flags (held rows p)) o [])) (sym short.short) (bundled c.0 c.1)))

      by_waiting : (w : Waiting) → IsFault (word_fault (shape names) [] false w word (held rows p))
      by_waiting idle = fails
      by_waiting (option id) = fails
      by_waiting positional = fails

  -- ---- a word that is no option

  module _ (rows : List Row) (p : Option (Text × List Text)) (word : Text) where
    to_words : (wt : Waiting) (trailed : Bool) → after_step (table names) word (at rows p wt trailed) (held rows p) value ≡ at (rows_held rows p) (Some (words_id, word ∷ [])) positional trailed
    to_words wt trailed = ap (λ o. to_positional (table names) o word (at rows p wt trailed) (held rows p)) (by_index names) ∙ go trailed
      where
        go : (b : Bool) → to_positional (table names) (Some words_built) word (at rows p wt b) (held rows p) ≡ at (rows_held rows p) (Some (words_id, word ∷ [])) positional b
        go false = ap (λ b. record (at rows p positional false) { held = pushed words_id word (cond b (held rows p) (settled (table names) (held rows p))) }) (and_false (is_pending words_built p))
        go true = ap (λ b. record (at rows p positional true) { held = pushed words_id word (cond b (held rows p) (settled (table names) (held rows p))) }) (and_false (is_pending words_built p))

    words_fault : step_fault (shape names) 1 (held rows p) value ≡ fault_held rows p
    words_fault = ap (λ o. option_map_or (λ a. positional_fault (table names) false a (held rows p)) o (stray_fault (shape names))) (by_index names)
        ∙ ap (λ b. cond b [] (fault_held rows p)) (and_false (is_pending words_built p))

    pub trailing_fault : (wt : Waiting) → fault_of_turn (at rows p wt true) word ≡ fault_held rows p
    trailing_fault wt = words_fault

    pub trailing_walk : (wt : Waiting) → walked (table names) [] (at rows p wt true) word ≡ at (rows_held rows p) (Some (words_id, word ∷ [])) positional true
    unfolding walked
    trailing_walk wt = to_words wt true

    module _ (plain : IsPlainWord word) where
      no_word_fault : (wt : Waiting) → word_fault (shape names) [] false wt word (held rows p) ≡ []
      no_word_fault wt = by_waiting wt
        where
          none : other_fault (shape names) None word (held rows p) ≡ []
          none = ap (λ b. cond b [] (flag_word_fault (table names) false (long_of word) word (held rows p))) plain.not_end
              ∙ ap (λ o. flag_word_fault (table names) false o word (held rows p)) plain.no_long
              ∙ ap (λ o. option_map_or (λ flags. bundle_fault (table names) false flags (held rows p)) o []) plain.no_short

          by_waiting : (w : Waiting) → word_fault (shape names) [] false w word (held rows p) ≡ []
          by_waiting idle = none
          by_waiting (option id) = none
          by_waiting positional = none

      met_plain : (wt : Waiting) → word_met (table names) [] false wt 1 word (held rows p) ≡ plain_word (table names) wt word (held rows p)
      met_plain wt = by_waiting wt
        where
          other : (w : Waiting) → cond (bytes_eq word (45 ∷ 45 ∷ [])) (held rows p, trailing 1) (long_or_other (table names) w word (long_of word) (held rows p)) ≡ plain_word (table names) w word (held rows p)
          other w = ap (λ b. cond b (held rows p, trailing 1) (long_or_other (table names) w word (long_of word) (held rows p))) plain.not_end
              ∙ ap (λ o. long_or_other (table names) w word o (held rows p)) plain.no_long
              ∙ ap (λ o. short_or_plain (table names) w word o (held rows p)) plain.no_short

          by_waiting : (w : Waiting) → word_met (table names) [] false w 1 word (held rows p) ≡ plain_word (table names) w word (held rows p)
          by_waiting idle = other idle
          by_waiting (option id) = other (option id)
          by_waiting positional = other positional

      plain_fault_is : (wt : Waiting) → fault_of_turn (at rows p wt false) word
          ≡ step_fault (shape names) 1 (plain_word (table names) wt word (held rows p)).0 (plain_word (table names) wt word (held rows p)).1
      plain_fault_is wt = ap (λ k. or_else k (step_fault (shape names) 1 (word_met (table names) [] false wt 1 word (held rows p)).0 (word_met (table names) [] false wt 1 word (held rows p)).1)) (no_word_fault wt)
          ∙ ap (λ (m : Held × Step). step_fault (shape names) 1 m.0 m.1) (met_plain wt)

      plain_walk_is : (wt : Waiting) → walked (table names) [] (at rows p wt false) word
          ≡ after_step (table names) word (at rows p wt false) (plain_word (table names) wt word (held rows p)).0 (plain_word (table names) wt word (held rows p)).1
      unfolding walked
      plain_walk_is wt = ap (λ (m : Held × Step). after_step (table names) word (at rows p wt false) m.0 m.1) (met_plain wt)

      pub plain_fault : (wt : Waiting) → IsIdle wt → fault_of_turn (at rows p wt false) word ≡ fault_held rows p
      plain_fault idle i = plain_fault_is idle ∙ words_fault
      plain_fault (option id) i = absurd i
      plain_fault positional i = plain_fault_is positional ∙ words_fault

      pub plain_walk : (wt : Waiting) → IsIdle wt → walked (table names) [] (at rows p wt false) word ≡ at (rows_held rows p) (Some (words_id, word ∷ [])) positional false
      plain_walk idle i = plain_walk_is idle ∙ to_words idle false
      plain_walk (option id) i = absurd i
      plain_walk positional i = plain_walk_is positional ∙ to_words positional false

  -- the word is the value of an option that waits for it
  module _ (rows : List Row) (name word : Text) (known : has_name names name ≡ true) (plain : IsPlainWord word) where
    abbrev waits : Option (Text × List Text)
    waits = Some (name, [])

    taken_word : option_word (arg_by_id (table names) name) name word (held rows waits) ≡ (held rows (Some (name, word ∷ [])), idle)
    taken_word = ap (λ o. option_word o name word (held rows waits)) (by_name names name known)
        ∙ ap (λ b. (held rows (Some (name, word ∷ [])), cond (nat_lt (cond b 1 0) 1) (option name) idle)) (same_text name)

    pub value_fault : fault_of_turn (at rows waits (option name) false) word ≡ []
    value_fault = plain_fault_is rows waits word plain (option name)

    pub value_walk : walked (table names) [] (at rows waits (option name) false) word ≡ at rows (Some (name, word ∷ [])) idle false
    value_walk = plain_walk_is rows waits word plain (option name)
        ∙ ap (λ (m : Held × Waiting). after_step (table names) word (at rows waits (option name) false) m.0 (next m.1)) taken_word
