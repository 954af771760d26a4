-- The law that ties clap's parse to the grammar: `parse_agrees`, at the end. It goes word by word, from any place where the walk may stand.
use Rattle.std.proofs.Common.{◌≡◌, ◌∙◌, ◌⊎◌, inl, inr, ℕ, Bool, cond, true, false, refl, sym, ap, ap₂, subst, List, [], ◌∷◌, map, Option, Some, None, is_some, option_map}
use Rattle.std.specs.Prelude.{fold, position}
use Rattle.std.specs.Str.{IsUtf8}
use Rattle.std.proofs.lemmas.Bool.{false≢true}
use Rattle.clap.specs.Lexer.{name_and_value}
use Rattle.clap.specs.Kinds.{Kinds, or_else}
use Rattle.clap.specs.Walk.{Held, Row, Text, Waiting, idle, option, positional, Walk, finished, has_row, nothing_held, rows_after, settled, walked}
use Rattle.clap.specs.Simple.{App, entered}
use Rattle.clap.specs.Faults.{built_fault, check_fault, defaults_fault, entered_fault, level_fault, settle_fault, walk_fault}
use Rattle.clap.specs.declared.builder.value_parser.Reading.TheVariants as readings
use Rattle.clap.specs.declared.parser.matches.ValueSource.TheVariants.{CommandLine}
use Rattle.mcf_words.specs.Items.{Items, Reading, Open, Waiting as WaitingFor, Closed, Step, no_items, joined, word_item, setting_item, is_equals, is_option, step_at, step_of, items_from, items_of}
use Rattle.mcf_words.proofs.Fitting.{AllMisfit, HasItems, Misfits, Suits, all_misfit, dashed, has_setting, has_word, joined-map, joined-none, misfits_again, misfits_dashed, row-value, suits_more, suits_word, words_id}
use Rattle.mcf_words.proofs.Looks.{IsPlainWord, looked}
use Rattle.mcf_words.proofs.Named.{long_is, named_step, option_here, short_misfits, unknown_misfits}
use Rattle.mcf_words.proofs.Table.{has_dashed, has_name, no_check_fault, no_default_fault, no_defaults, not_words, shape, table}
use Rattle.mcf_words.proofs.Turns.{IsFault, IsIdle, again_held, apart_fault, apart_walk, at, end_fault, end_walk, fault_first, fault_held, fault_of_turn, held, held_option, held_word, joined_again, joined_fault, joined_walk, no_fault, none_held, once_held, pending_fault, plain_fault, plain_walk, rows_held, short_fails, trailing_fault, trailing_walk, unknown_fault, value_fault, value_walk, with_option, word_held}

-- each word is text
abbrev pub AreUtf8 : List Text → Type 0
AreUtf8 [] = Unit {0}
AreUtf8 (w ∷ ws) = IsUtf8 w × AreUtf8 ws

-- The parse takes the words where they are items that suit, and then its rows have them. Where it fails, the words are no items, or items that do not fit.
abbrev pub Agrees : List Text → Option Items → Kinds → List Row → Type 0
Agrees names None kinds rows = IsFault kinds
Agrees names (Some items) kinds rows = (Suits names items × (kinds ≡ []) × HasItems rows items) ⊎ (Misfits names items × IsFault kinds)

pub fails : (names : List Text) (o : Option Items) (kinds : Kinds) (rows : List Row) → AllMisfit names o → IsFault kinds → Agrees names o kinds rows
fails names None kinds rows m f = f
fails names (Some items) kinds rows m f = inr (m, f)

module _ (names : List Text) (own : has_name names words_id ≡ false) where
  abbrev options : List Text
  options = map dashed names

  -- what is told of the parse from here on
  abbrev last : Held → Kinds
  last h = or_else (settle_fault (table names) false h) (or_else (defaults_fault (settled (table names) h).rows (table names)) (check_fault (shape names) (finished (table names) h) false))

  abbrev pub outcome : Walk → List Text → Kinds
  outcome w ws = or_else (walk_fault (shape names) [] w ws) (or_else [] (last (fold (walked (table names) []) w ws).held))

  abbrev pub ended : Walk → List Text → List Row
  ended w ws = finished (table names) (fold (walked (table names) []) w ws).held

  outcome-fault : (w : Walk) (word : Text) (ws : List Text) → IsFault (fault_of_turn names own w word) → IsFault (outcome w (word ∷ ws))
  unfolding walk_fault
  outcome-fault w word ws f = fault_first _ _ (fault_first (fault_of_turn names own w word) _ f)

  outcome-step : (w now : Walk) (word : Text) (ws : List Text) → fault_of_turn names own w word ≡ [] → walked (table names) [] w word ≡ now → outcome w (word ∷ ws) ≡ outcome now ws
  unfolding walk_fault
  outcome-step w now word ws none step =
      ap₂ (λ k (v : Walk). or_else (or_else k (walk_fault (shape names) [] v ws)) (or_else [] (last (fold (walked (table names) []) v ws).held))) none step

  ended-step : (w now : Walk) (word : Text) (ws : List Text) → walked (table names) [] w word ≡ now → ended w (word ∷ ws) ≡ ended now ws
  ended-step w now word ws step = ap (λ (v : Walk). finished (table names) (fold (walked (table names) []) v ws).held) step

  moved : (o : Option Items) (w now : Walk) (word : Text) (ws : List Text) → fault_of_turn names own w word ≡ [] → walked (table names) [] w word ≡ now
      → Agrees options o (outcome now ws) (ended now ws) → Agrees options o (outcome w (word ∷ ws)) (ended w (word ∷ ws))
  moved o w now word ws none step h =
      subst (λ k. Agrees options o k (ended w (word ∷ ws))) (sym (outcome-step w now word ws none step)) (subst (λ r. Agrees options o (outcome now ws) r) (sym (ended-step w now word ws step)) h)

  -- ---- at the end

  outcome_nil : (w : Walk) → outcome w [] ≡ last w.held
  unfolding walk_fault
  outcome_nil w = refl

  settled_end : (rows : List Row) (p : Option (Text × List Text)) → fault_held names own rows p ≡ [] → last (held rows p) ≡ []
  settled_end rows p settles = no_fault (fault_held names own rows p) _ settles
      (no_fault (defaults_fault (rows_held names own rows p) (table names)) _ (no_default_fault names (rows_held names own rows p)) (no_check_fault names (finished (table names) (held rows p))))

  -- ---- what is pending fails: so does the rest, whatever it is

  pub doomed : (ws : List Text) → AreUtf8 ws → (rows : List Row) (p : Option (Text × List Text)) (wt : Waiting) (trailed : Bool) → ((trailed ≡ true) ⊎ IsIdle wt)
      → IsFault (fault_held names own rows p) → IsFault (outcome (at rows p wt trailed) ws)
  doomed [] text rows p wt trailed at_rest f = subst IsFault (sym (outcome_nil (at rows p wt trailed))) (fault_first (fault_held names own rows p) _ f)
  doomed (word ∷ ws) text rows p wt true at_rest f = outcome-fault (at rows p wt true) word ws (subst IsFault (sym (trailing_fault names own rows p word wt)) f)
  doomed (word ∷ ws) text rows p wt false (inl e) f = absurd (false≢true e)
  doomed (word ∷ ws) text rows p wt false (inr rest) f =
      looked (λ w. IsUtf8 w → IsFault (outcome (at rows p wt false) (w ∷ ws)))
      (λ t. subst IsFault (sym (outcome-step (at rows p wt false) (at rows p wt true) (45 ∷ 45 ∷ []) ws (end_fault names own rows p wt) (end_walk names own rows p wt)))
      (doomed ws text.1 rows p wt true (inl refl) f))
      (λ x xs t. outcome-fault (at rows p wt false) (45 ∷ 45 ∷ x ∷ xs) ws (pending_fault names own rows p x xs wt f))
      (λ x xs apart short t. outcome-fault (at rows p wt false) (45 ∷ x ∷ xs) ws (short_fails names own rows p wt x xs short t))
      (λ w plain t. outcome-fault (at rows p wt false) w ws (subst IsFault (sym (plain_fault names own rows p w plain wt rest)) f))
      word text.0

  -- ---- where the walk stands

  -- what is pending may be used, and the rows then have the items
  abbrev Settles : List Row → Option (Text × List Text) → Items → Type 0
  Settles rows p items = (fault_held names own rows p ≡ []) × HasItems (rows_held names own rows p) items

  abbrev Stands : Reading → Items → List Row → Option (Text × List Text) → Waiting → Bool → Type 0
  Stands Open items rows p wt trailed = (trailed ≡ false) × IsIdle wt × Settles rows p items × Suits options items
  Stands (WaitingFor n) items rows p wt trailed = (name : Text) × (trailed ≡ false) × (n ≡ dashed name) × (p ≡ Some (name, [])) × (wt ≡ option name)
      × (has_name names name ≡ true) × HasItems rows items × Suits options items
  Stands Closed items rows p wt trailed = (trailed ≡ true) × Settles rows p items × Suits options items

  -- a value joins, and what is pending is an option with it: it may be there already
  abbrev Goes : List Text → Type 0
  Goes ws = (reading : Reading) (items : Items) (rows : List Row) (p : Option (Text × List Text)) (wt : Waiting) (trailed : Bool) → Stands reading items rows p wt trailed
      → Agrees options (option_map (joined items) (items_from reading ws)) (outcome (at rows p wt trailed) ws) (ended (at rows p wt trailed) ws)

  from_step : (reading : Reading) (word : Text) (ws : List Text) → items_from reading (word ∷ ws) ≡ option_map (joined (step_of reading word).items) (items_from (step_of reading word).next ws)
  from_step Open word ws = refl
  from_step (WaitingFor n) word ws = refl
  from_step Closed word ws = refl

  -- the items so far, then those of the word, then the rest
  then_rest : (reading : Reading) (word : Text) (ws : List Text) (items : Items) (st : Step) → step_of reading word ≡ st
      → option_map (joined (joined items st.items)) (items_from st.next ws) ≡ option_map (joined items) (items_from reading (word ∷ ws))
  then_rest reading word ws items st is =
      joined-map items st.items (items_from st.next ws) ∙ ap (λ (s : Step). option_map (joined items) (option_map (joined s.items) (items_from s.next ws))) (sym is)
      ∙ ap (option_map (joined items)) (sym (from_step reading word ws))

  misfit_step : (reading : Reading) (word : Text) (ws : List Text) (items : Items) (st : Step) → step_of reading word ≡ st
      → AllMisfit options (option_map (joined (joined items st.items)) (items_from st.next ws)) → AllMisfit options (option_map (joined items) (items_from reading (word ∷ ws)))
  misfit_step reading word ws items st is h = subst (AllMisfit options) (then_rest reading word ws items st is) h

  -- the word does no harm, and the walk goes on
  goes_on : (reading : Reading) (word : Text) (ws : List Text) (items : Items) (st : Step) (w now : Walk) → step_of reading word ≡ st → fault_of_turn names own w word ≡ []
      → walked (table names) [] w word ≡ now → Agrees options (option_map (joined (joined items st.items)) (items_from st.next ws)) (outcome now ws) (ended now ws)
      → Agrees options (option_map (joined items) (items_from reading (word ∷ ws))) (outcome w (word ∷ ws)) (ended w (word ∷ ws))
  goes_on reading word ws items st w now is none step h =
      moved (option_map (joined items) (items_from reading (word ∷ ws))) w now word ws none step
      (subst (λ o. Agrees options o (outcome now ws) (ended now ws)) (then_rest reading word ws items st is) h)

  without_items : (P : Items → Type 0) (items : Items) → P items → P (joined items no_items)
  without_items P items h = subst P (sym (joined-none items)) h

  word_settles : (rows : List Row) (items : Items) (v : Text) → HasItems rows items → Settles rows (Some (words_id, v ∷ [])) (joined items (word_item v))
  word_settles rows items v has = (word_held names own rows v, subst (λ r. HasItems r (joined items (word_item v))) (sym (held_word names own rows v)) (has_word rows items readings.AsWritten CommandLine v has))

  -- ---- a word where anything may stand

  module _ (ws : List Text) (text : AreUtf8 ws) (go : Goes ws) (items : Items) (rows : List Row) (p : Option (Text × List Text)) where
    abbrev Next : Reading → Text → Waiting → Bool → Type 0
    Next reading word wt trailed =
        Agrees options (option_map (joined items) (items_from reading (word ∷ ws))) (outcome (at rows p wt trailed) (word ∷ ws)) (ended (at rows p wt trailed) (word ∷ ws))

    stops : (reading : Reading) (word : Text) (wt : Waiting) (trailed : Bool) → AllMisfit options (option_map (joined items) (items_from reading (word ∷ ws)))
        → IsFault (fault_of_turn names own (at rows p wt trailed) word) → Next reading word wt trailed
    stops reading word wt trailed m f = fails options (option_map (joined items) (items_from reading (word ∷ ws))) (outcome (at rows p wt trailed) (word ∷ ws)) (ended (at rows p wt trailed) (word ∷ ws)) m
        (outcome-fault (at rows p wt trailed) word ws f)

    module _ (wt : Waiting) (rest : IsIdle wt) (settles : Settles rows p items) (suits : Suits options items) where
      at_end : Next Open (45 ∷ 45 ∷ []) wt false
      at_end = goes_on Open (45 ∷ 45 ∷ []) ws items (record { items = no_items; next = Closed }) (at rows p wt false) (at rows p wt true) refl
          (end_fault names own rows p wt) (end_walk names own rows p wt)
          (go Closed (joined items no_items) rows p wt true (refl, without_items (λ i. Settles rows p i) items settles, without_items (Suits options) items suits))

      module _ (x : ℕ) (xs : Text) where
        abbrev name : Text
        name = (name_and_value (x ∷ xs)).0

        abbrev long : Text
        long = 45 ∷ 45 ∷ x ∷ xs

        unknown : (v : Option Text) → (name_and_value (x ∷ xs)).1 ≡ v → has_name names name ≡ false → Next Open long wt false
        unknown v is none = stops Open long wt false
            (misfit_step Open long ws items (named_step (dashed name) v) (long_is x xs ∙ ap (named_step (dashed name)) is)
            (unknown_misfits options items (dashed name) v ws (has_dashed names name ∙ none)))
            (unknown_fault names own rows p x xs wt none)

        once_more : (v : Text) → (name_and_value (x ∷ xs)).1 ≡ Some v → has_name names name ≡ true → has_row name (rows_held names own rows p) ≡ true → Next Open long wt false
        once_more v is known again =
            let apart = not_words names name own known in
            stops Open long wt false
            (misfit_step Open long ws items (named_step (dashed name) (Some v)) (long_is x xs ∙ ap (named_step (dashed name)) is)
            (all_misfit options _ (items_from Open ws) (misfits_again options items (dashed name) v (row-value (rows_held names own rows p) items name true apart settles.1 again))))
            (joined_again names own rows p x xs wt v is known again)

        first_time : (v : Text) → (name_and_value (x ∷ xs)).1 ≡ Some v → has_name names name ≡ true → has_row name (rows_held names own rows p) ≡ false → Next Open long wt false
        first_time v is known first =
            let apart = not_words names name own known in
            let new = joined items (setting_item (dashed name) v) in
            goes_on Open long ws items (named_step (dashed name) (Some v)) (at rows p wt false) (at (with_option name v (rows_held names own rows p)) None idle false)
            (long_is x xs ∙ ap (named_step (dashed name)) is) (joined_fault names own rows p x xs wt v is known settles.0 first) (joined_walk names own rows p x xs wt v is known)
            (go Open new (with_option name v (rows_held names own rows p)) None idle false (
              refl,
              tt,
              (refl, has_setting (rows_held names own rows p) items readings.AsWritten CommandLine name v apart first settles.1),
              suits_more options items (dashed name) v suits (has_dashed names name ∙ known) (row-value (rows_held names own rows p) items name false apart settles.1 first),
            ))

        value_follows : (name_and_value (x ∷ xs)).1 ≡ None → has_name names name ≡ true → Next Open long wt false
        value_follows is known =
            goes_on Open long ws items (named_step (dashed name) None) (at rows p wt false) (at (rows_held names own rows p) (Some (name, [])) (option name) false)
            (long_is x xs ∙ ap (named_step (dashed name)) is) (apart_fault names own rows p x xs wt is known settles.0) (apart_walk names own rows p x xs wt is known)
            (go (WaitingFor (dashed name)) (joined items no_items) (rows_held names own rows p) (Some (name, [])) (option name) false
            (name, refl, refl, refl, refl, known, without_items (HasItems (rows_held names own rows p)) items settles.1, without_items (Suits options) items suits))

        by_row : (v : Text) → (name_and_value (x ∷ xs)).1 ≡ Some v → has_name names name ≡ true → (b : Bool) → has_row name (rows_held names own rows p) ≡ b → Next Open long wt false
        by_row v is known true e = once_more v is known e
        by_row v is known false e = first_time v is known e

        by_value : (v : Option Text) → (name_and_value (x ∷ xs)).1 ≡ v → (b : Bool) → has_name names name ≡ b → Next Open long wt false
        by_value v is false e = unknown v is e
        by_value None is true e = value_follows is e
        by_value (Some v) is true e = by_row v is e (has_row name (rows_held names own rows p)) refl

      at_long : (x : ℕ) (xs : Text) → Next Open (45 ∷ 45 ∷ x ∷ xs) wt false
      at_long x xs = by_value x xs (name_and_value (x ∷ xs)).1 refl (has_name names (name_and_value (x ∷ xs)).0) refl

      at_plain : (w : Text) → IsPlainWord w → Next Open w wt false
      at_plain w plain =
          let is_word : step_of Open w ≡ record { items = word_item w; next = Open } =
          ap (λ b. cond b (record { items = no_items; next = Closed }) (cond (is_option w) (step_at w (position is_equals w)) (record { items = word_item w; next = Open }))) plain.not_end
          ∙ ap (λ b. cond b (step_at w (position is_equals w)) (record { items = word_item w; next = Open })) plain.no_option in
          goes_on Open w ws items (record { items = word_item w; next = Open }) (at rows p wt false) (at (rows_held names own rows p) (Some (words_id, w ∷ [])) positional false) is_word
          (plain_fault names own rows p w plain wt rest ∙ settles.0) (plain_walk names own rows p w plain wt rest)
          (go Open (joined items (word_item w)) (rows_held names own rows p) (Some (words_id, w ∷ [])) positional false
          (refl, tt, word_settles (rows_held names own rows p) items w settles.1, suits_word options items w suits))

      open_word : (word : Text) → IsUtf8 word → Next Open word wt false
      open_word = looked (λ w. IsUtf8 w → Next Open w wt false)
          (λ t. at_end)
          (λ x xs t. at_long x xs)
          (λ x xs apart short t. stops Open (45 ∷ x ∷ xs) wt false
          (misfit_step Open (45 ∷ x ∷ xs) ws items (step_of Open (45 ∷ x ∷ xs)) refl (short_misfits names x xs apart items ws short)) (short_fails names own rows p wt x xs short t))
          (λ w plain t. at_plain w plain)

    -- behind `--`
    closed_word : (wt : Waiting) → Settles rows p items → Suits options items → (word : Text) → Next Closed word wt true
    closed_word wt settles suits word =
        goes_on Closed word ws items (record { items = word_item word; next = Closed }) (at rows p wt true) (at (rows_held names own rows p) (Some (words_id, word ∷ [])) positional true) refl
        (trailing_fault names own rows p word wt ∙ settles.0) (trailing_walk names own rows p word wt)
        (go Closed (joined items (word_item word)) (rows_held names own rows p) (Some (words_id, word ∷ [])) positional true
        (refl, word_settles (rows_held names own rows p) items word settles.1, suits_word options items word suits))

  -- ---- the value of an option

  module _ (ws : List Text) (text : AreUtf8 ws) (go : Goes ws) (items : Items) (rows : List Row) (name : Text) (known : has_name names name ≡ true) (has : HasItems rows items)
      (suits : Suits options items) where
    abbrev waits : Option (Text × List Text)
    waits = Some (name, [])

    abbrev Value : Text → Type 0
    Value word = Agrees options (option_map (joined items) (items_from (WaitingFor (dashed name)) (word ∷ ws))) (outcome (at rows waits (option name) false) (word ∷ ws))
        (ended (at rows waits (option name) false) (word ∷ ws))

    value_stops : (word : Text) → Misfits options (joined items (setting_item (dashed name) word)) → IsFault (outcome (at rows waits (option name) false) (word ∷ ws)) → Value word
    value_stops word m f = fails options (option_map (joined items) (items_from (WaitingFor (dashed name)) (word ∷ ws))) (outcome (at rows waits (option name) false) (word ∷ ws))
        (ended (at rows waits (option name) false) (word ∷ ws))
        (misfit_step (WaitingFor (dashed name)) word ws items (record { items = setting_item (dashed name) word; next = Open }) refl
        (all_misfit options (joined items (setting_item (dashed name) word)) (items_from Open ws) m)) f

    value_end : Value (45 ∷ 45 ∷ [])
    value_end = value_stops (45 ∷ 45 ∷ []) (misfits_dashed options items (dashed name) (45 ∷ 45 ∷ []) refl)
        (subst IsFault (sym (outcome-step (at rows waits (option name) false) (at rows waits (option name) true) (45 ∷ 45 ∷ []) ws (end_fault names own rows waits (option name))
        (end_walk names own rows waits (option name)))) (doomed ws text rows waits (option name) true (inl refl) (none_held names own rows name known)))

    value_taken : (w : Text) → IsPlainWord w → (b : Bool) → has_row name rows ≡ b → Value w
    value_taken w plain true e =
        value_stops w (misfits_again options items (dashed name) w (row-value rows items name true (not_words names name own known) has e))
        (subst IsFault (sym (outcome-step (at rows waits (option name) false) (at rows (Some (name, w ∷ [])) idle false) w ws (value_fault names own rows name w known plain)
        (value_walk names own rows name w known plain))) (doomed ws text rows (Some (name, w ∷ [])) idle false (inr tt) (again_held names own rows name w known e)))
    value_taken w plain false e =
        let apart = not_words names name own known in
        let new = joined items (setting_item (dashed name) w) in
        goes_on (WaitingFor (dashed name)) w ws items (record { items = setting_item (dashed name) w; next = Open }) (at rows waits (option name) false)
        (at rows (Some (name, w ∷ [])) idle false) refl (value_fault names own rows name w known plain) (value_walk names own rows name w known plain)
        (go Open new rows (Some (name, w ∷ [])) idle false (
          refl,
          tt,
          (
            once_held names own rows name w known e,
            subst (λ r. HasItems r new) (sym (held_option names own rows name w known)) (has_setting rows items readings.AsWritten CommandLine name w apart e has),
          ),
          suits_more options items (dashed name) w suits (has_dashed names name ∙ known) (row-value rows items name false apart has e),
        ))

    value_word : (word : Text) → IsUtf8 word → Value word
    value_word = looked (λ w. IsUtf8 w → Value w)
        (λ t. value_end)
        (λ x xs t. value_stops (45 ∷ 45 ∷ x ∷ xs) (misfits_dashed options items (dashed name) (45 ∷ 45 ∷ x ∷ xs) (option_here x xs))
        (outcome-fault (at rows waits (option name) false) (45 ∷ 45 ∷ x ∷ xs) ws (pending_fault names own rows waits x xs (option name) (none_held names own rows name known))))
        (λ x xs apart short t. value_stops (45 ∷ x ∷ xs) (misfits_dashed options items (dashed name) (45 ∷ x ∷ xs) short.option)
        (outcome-fault (at rows waits (option name) false) (45 ∷ x ∷ xs) ws (short_fails names own rows waits (option name) x xs short t)))
        (λ w plain t. value_taken w plain (has_row name rows) refl)

  -- ---- all the words

  ended_nil : (rows : List Row) (p : Option (Text × List Text)) (wt : Waiting) (trailed : Bool) → ended (at rows p wt trailed) [] ≡ rows_held names own rows p
  ended_nil rows p wt trailed = no_defaults names (rows_held names own rows p)

  no_more : (items : Items) (rows : List Row) (p : Option (Text × List Text)) (wt : Waiting) (trailed : Bool) → Settles rows p items → Suits options items
      → Agrees options (Some (joined items no_items)) (outcome (at rows p wt trailed) []) (ended (at rows p wt trailed) [])
  no_more items rows p wt trailed settles suits = inl (
    without_items (Suits options) items suits,
    outcome_nil (at rows p wt trailed) ∙ settled_end rows p settles.0,
    subst (λ r. HasItems r (joined items no_items)) (sym (ended_nil rows p wt trailed)) (without_items (HasItems (rows_held names own rows p)) items settles.1),
  )

  all_words : (ws : List Text) → AreUtf8 ws → Goes ws
  all_words [] text Open items rows p wt trailed st = no_more items rows p wt trailed st.2 st.3
  all_words [] text Closed items rows p wt trailed st = no_more items rows p wt trailed st.1 st.2
  all_words [] text (WaitingFor n) items rows p wt trailed st =
      subst IsFault (sym (outcome_nil (at rows p wt trailed)))
      (fault_first (fault_held names own rows p) _ (subst (λ q. IsFault (fault_held names own rows q)) (sym st.3) (none_held names own rows st.0 st.5)))
  all_words (word ∷ ws) text Open items rows p wt trailed st =
      subst (λ b. Agrees options (option_map (joined items) (items_from Open (word ∷ ws))) (outcome (at rows p wt b) (word ∷ ws)) (ended (at rows p wt b) (word ∷ ws))) (sym st.0)
      (open_word ws text.1 (all_words ws text.1) items rows p wt st.1 st.2 st.3 word text.0)
  all_words (word ∷ ws) text Closed items rows p wt trailed st =
      subst (λ b. Agrees options (option_map (joined items) (items_from Closed (word ∷ ws))) (outcome (at rows p wt b) (word ∷ ws)) (ended (at rows p wt b) (word ∷ ws))) (sym st.0)
      (closed_word ws text.1 (all_words ws text.1) items rows p wt st.1 st.2 word)
  all_words (word ∷ ws) text (WaitingFor n) items rows p wt trailed st =
      let is : at rows (Some (st.0, [])) (option st.0) false ≡ at rows p wt trailed =
      ap (λ q. at rows q (option st.0) false) (sym st.3) ∙ ap (λ v. at rows p v false) (sym st.4) ∙ ap (λ b. at rows p wt b) (sym st.1) in
      subst (λ m. Agrees options (option_map (joined items) (items_from (WaitingFor m) (word ∷ ws))) (outcome (at rows p wt trailed) (word ∷ ws)) (ended (at rows p wt trailed) (word ∷ ws))) (sym st.2)
      (subst (λ v. Agrees options (option_map (joined items) (items_from (WaitingFor (dashed st.0)) (word ∷ ws))) (outcome v (word ∷ ws)) (ended v (word ∷ ws))) is
      (value_word ws text.1 (all_words ws text.1) items rows st.0 st.5 st.6 st.7 word text.0))

  -- ---- the law

  no_items_first : (o : Option Items) → option_map (joined no_items) o ≡ o
  no_items_first None = refl
  no_items_first (Some items) = refl

  abbrev app : App
  app = record { top = shape names; subs = [] }

  none_entered : (stop : Option (Text × List Text)) → entered app stop ≡ None
  none_entered None = refl
  none_entered (Some s) = refl

  none_below : (stop : Option (Text × List Text)) → entered_fault app stop ≡ []
  none_below None = refl
  none_below (Some s) = refl

  abbrev start : Walk
  start = at [] None idle false

  whole_fault : (words : List Text) → built_fault app nothing_held words ≡ outcome start words
  whole_fault words =
      let stop : Option (Text × List Text) = (fold (walked (table names) []) start words).stopped in
      ap₂ (λ (e : Option (Text × List Row)) k. level_fault (shape names) [] nothing_held words (is_some e) k) (none_entered stop) (none_below stop)

  nothing : HasItems [] no_items
  nothing = record { options = λ id ne. refl; words = refl }

  -- What clap's parse of a command with these options and the grammar make of the same words.
  pub parse_agrees : (words : List Text) → AreUtf8 words → Agrees options (items_of words) (built_fault app nothing_held words) (rows_after (table names) [] words)
  parse_agrees words text =
      subst (λ k. Agrees options (items_of words) k (rows_after (table names) [] words)) (sym (whole_fault words))
      (subst (λ o. Agrees options o (outcome start words) (ended start words)) (no_items_first (items_of words))
      (all_words words text Open no_items [] None idle false (refl, tt, (refl, nothing), record { known = refl; once = λ name. refl })))
