-- What the parse of a command's words tells.
use Rattle.std.proofs.Common.{◌≡◌, ◌∙◌, ◌⊎◌, inl, inr, ℕ, cond, true, false, refl, sym, ap, subst, List, [], ◌∷◌, map, Option, Some, None, option_map, drop}
use Rattle.std.specs.Prelude.{IsSomeAnd, codes, option_and_then, slice_get, string_bytes, String}
use Rattle.std.specs.List.{find}
use Rattle.std.specs.Option.{unwrap_or}
use Rattle.std.specs.Str.{bytes_eq}
use Rattle.std.proofs.lemmas.Bool.{false≢true}
use Rattle.std.proofs.lemmas.Str.{IsUtf8-string_bytes}
use Rattle.clap.specs.Words.{App, HasMatchesOf, IsAmong, fault_of, found_of, is_simple, is_simple_and_free, kind_of, matches_of, rows_of}
use Rattle.clap.specs.Simple.{built, names_of as app_names}
use Rattle.clap.specs.Faults.{built_fault}
use Rattle.clap.specs.Walk.{Row, Text, all_of, first_of, nothing_held, rows_after}
use Rattle.clap.specs.declared.error.Error.{Error}
use Rattle.clap.specs.declared.error.kind.ErrorKind.TheVariants.{OutOfMemory}
use Rattle.clap.specs.declared.parser.matches.ArgMatches.{ArgMatches}
use Rattle.clap.specs.declared.parser.matches.Found.{Found}
use Rattle.clap.proofs.WalkLemmas.{first_value-rows, raw_values-rows}
use Rattle.mcf_limits.specs.declared.TheConstants.{DEFAULT_GAP, DEFAULT_STEP, MAX_PHASES, MAX_WORKERS, MAX_STEP}
use Rattle.unit_scale.specs.Modes.{link_mode_of, module_mode_of}
use Rattle.unit_scale.specs.declared.modes.LinkMode.TheVariants.{Undirected}
use Rattle.unit_scale.specs.declared.modes.ModuleMode.TheVariants.{Largest}
use Rattle.mcf_words.specs.declared.request.Command.{Command}
use Rattle.mcf_words.specs.declared.request.Command.TheVariants.{Solve, Check, WhatIf, Upgrade, Tighten, Batch, Sweep, SweepSolve, CheckHops, CheckThroughput, Hops, Throughput, Print, Gen, Trial}
use Rattle.mcf_words.specs.Items.{Items, items_of}
use Rattle.mcf_words.specs.Parse.{Tells, app_of_names, choices_in, names_of, read_in, request_after, request_in, words_id}
use Rattle.mcf_words.specs.Request.{◌>>=◌, choices_of, command_of, files_of, numbers_of, options_of, request_from, request_of, one_worker_options, solver_options}
use Rattle.mcf_words.specs.Values.{choice, gap_of, number_in, read_or, single, values_of}
use Rattle.mcf_words.proofs.Fitting.{HasItems, Suits, at_most_one, dashed, some_values}
use Rattle.mcf_words.proofs.Table.{has_name, shape}
use Rattle.mcf_words.proofs.Turns.{IsFault}
use Rattle.mcf_words.proofs.Parsing.{Agrees, AreUtf8, parse_agrees}
use Rattle.mcf_words.proofs.Refusing.{misfits_refused}

-- ---- the command

-- what holds of each list of options holds of each command's
each : (P : List Text → Type 0) → P solver_options → P one_worker_options → P [] → (command : Command) → P (options_of command)
each P solver alone none Solve = solver
each P solver alone none Check = none
each P solver alone none WhatIf = none
each P solver alone none Upgrade = none
each P solver alone none Tighten = none
each P solver alone none Batch = alone
each P solver alone none Sweep = none
each P solver alone none SweepSolve = alone
each P solver alone none CheckHops = none
each P solver alone none CheckThroughput = none
each P solver alone none Hops = alone
each P solver alone none Throughput = alone
each P solver alone none Print = none
each P solver alone none Gen = none
each P solver alone none Trial = solver

app_is : (command : Command) → built (app_of_names (names_of command)) ≡ record { top = shape (names_of command); subs = [] }
app_is = each (λ os. built (app_of_names (map (drop 2) os)) ≡ record { top = shape (map (drop 2) os); subs = [] }) refl refl refl

free : (command : Command) → is_simple_and_free (app_of_names (names_of command)) ≡ true
free = each (λ os. is_simple_and_free (app_of_names (map (drop 2) os)) ≡ true) refl refl refl

simple : (command : Command) → is_simple (app_of_names (names_of command)) ≡ true
simple = each (λ os. is_simple (app_of_names (map (drop 2) os)) ≡ true) refl refl refl

no_words : (command : Command) → has_name (names_of command) words_id ≡ false
no_words = each (λ os. has_name (map (drop 2) os) words_id ≡ false) refl refl refl

options_are : (command : Command) → map dashed (names_of command) ≡ options_of command
options_are = each (λ os. map dashed (map (drop 2) os) ≡ os) refl refl refl

-- the law, for the command
agrees : (command : Command) (words : List Text) → AreUtf8 words
    → Agrees (options_of command) (items_of words) (fault_of (app_of_names (names_of command)) words) (matches_of (app_of_names (names_of command)) words)
agrees command words text =
    subst (λ os. Agrees os (items_of words) (fault_of (app_of_names (names_of command)) words) (matches_of (app_of_names (names_of command)) words)) (options_are command)
    (subst (λ (a : App). Agrees (map dashed (names_of command)) (items_of words) (built_fault a nothing_held words) (rows_after a.top.rules (app_names a) words)) (sym (app_is command))
    (parse_agrees (names_of command) (no_words command) words text))

-- ---- what the matches have

first_of_all : (id : Text) (rows : List Row) → first_of id rows ≡ option_and_then (λ vs. slice_get vs 0) (all_of id rows)
first_of_all id rows = go (find (λ (r : Row). bytes_eq r.id id) rows)
  where
    go : (o : Option Row) → option_and_then (λ (r : Row). slice_get r.values 0) o ≡ option_and_then (λ vs. slice_get vs 0) (option_map (λ (r : Row). r.values) o)
    go None = refl
    go (Some r) = refl

only_value : (vs : List Text) → at_most_one vs ≡ true → single vs ≡ Some (option_and_then (λ xs. slice_get xs 0) (some_values vs))
only_value [] e = refl
only_value (v ∷ []) e = refl
only_value (v ∷ w ∷ more) e = absurd (false≢true e)

all_values : (vs : List Text) → vs ≡ unwrap_or (some_values vs) []
all_values [] = refl
all_values (v ∷ vs) = refl

tells : (command : Command) (items : Items) (found : Found) → Suits (options_of command) items → HasItems (rows_of found) items → Tells command items found
tells command items found suits has = record {
  known = suits.known;
  value = λ name ne. only_value (values_of (dashed name) items.settings) (suits.once (dashed name)) ∙ ap (λ o. Some (option_and_then (λ vs. slice_get vs 0) o)) (sym (has.options name ne))
      ∙ ap Some (sym (first_value-rows found name ∙ first_of_all name (rows_of found)));
  words = all_values items.positional ∙ ap (λ o. unwrap_or o []) (sym (raw_values-rows found words_id ∙ has.words));
}

pub strings_are_text : {Z : Type 0} (words : List (String Z)) → AreUtf8 (map string_bytes words)
strings_are_text [] = tt
strings_are_text (w ∷ ws) = (IsUtf8-string_bytes w, strings_are_text ws)

-- a parse that succeeds tells the items of the words
pub taken : (command : Command) (words : List Text) (app : App) (m : ArgMatches) → AreUtf8 words → app ≡ app_of_names (names_of command) → HasMatchesOf app words m
    → (is_simple_and_free app ≡ true → fault_of app words ≡ []) → IsSomeAnd (items_of words) (λ items. Tells command items (found_of m))
taken command words app m text is has passes = go (items_of words) (agrees command words text)
  where
    whole : App
    whole = app_of_names (names_of command)

    rows : rows_of (found_of m) ≡ matches_of whole words
    rows = (subst (λ a. HasMatchesOf a words m) is has (simple command)).0

    none : fault_of whole words ≡ []
    none = subst (λ a. is_simple_and_free a ≡ true → fault_of a words ≡ []) is passes (free command)

    go : (o : Option Items) → Agrees (options_of command) o (fault_of whole words) (matches_of whole words) → IsSomeAnd o (λ items. Tells command items (found_of m))
    go None f = absurd (subst IsFault none f)
    go (Some items) (inl h) = tells command items (found_of m) h.0 (subst (λ r. HasItems r items) (sym rows) h.2)
    go (Some items) (inr h) = absurd (subst IsFault none h.1)

-- words at which a parse fails ask for nothing
pub refused : (command : Command) (words : List Text) (app : App) (e : Error) → AreUtf8 words → app ≡ app_of_names (names_of command)
    → (is_simple_and_free app ≡ true → (kind_of e ≡ OutOfMemory) ⊎ IsAmong (kind_of e) (fault_of app words)) → (kind_of e ≡ OutOfMemory → ⊥) → request_after command words ≡ None
refused command words app e text is fails other = go (items_of words) (agrees command words text)
  where
    whole : App
    whole = app_of_names (names_of command)

    among : IsAmong (kind_of e) (fault_of whole words)
    among = elim (subst (λ a. is_simple_and_free a ≡ true → (kind_of e ≡ OutOfMemory) ⊎ IsAmong (kind_of e) (fault_of a words)) is fails (free command)) [
      | inl memory ↦ absurd (other memory)
      | inr h ↦ h
    ]

    go : (o : Option Items) → Agrees (options_of command) o (fault_of whole words) (matches_of whole words) → (o >>= request_from command) ≡ None
    go None f = refl
    go (Some items) (inl h) = absurd (subst (IsAmong (kind_of e)) h.1 among)
    go (Some items) (inr h) = misfits_refused command items h.0

-- ---- what the matches ask for

module _ (command : Command) (items : Items) (found : Found) (t : Tells command items found) where
  said : {X : Type 0} (name : Text) (read : List ℕ → Option X) (default : X) → bytes_eq name words_id ≡ false
      → choice read default (values_of (dashed name) items.settings) ≡ read_in found name read default
  said name read default ne = ap (option_and_then (read_or read default)) (t.value name ne)

  choices_told : choices_of items.settings ≡ choices_in found
  unfolding choices_of choices_in
  choices_told = λ i. said (codes "links") link_mode_of Undirected refl i >>= λ links. said (codes "modules") module_mode_of Largest refl i >>= λ modules.
      said (codes "gap") gap_of DEFAULT_GAP refl i >>= λ gap. said (codes "phases") (λ w. option_map Some (number_in 1 MAX_PHASES w)) None refl i >>= λ phases.
      said (codes "workers") (λ w. option_map Some (number_in 1 MAX_WORKERS w)) None refl i >>= λ workers. said (codes "step") (number_in 1 MAX_STEP) DEFAULT_STEP refl i >>= λ step.
      Some (record { net = record { links = links; modules = modules }; gap = gap; phases = phases; workers = workers; step = step })

  request_told : request_from command items ≡ request_in command found
  unfolding request_from request_in
  request_told = λ i. cond (t.known i) (choices_told i >>= λ choices. numbers_of command (t.words i) >>= λ numbers. files_of command (t.words i) >>= λ names.
      Some (record { command = command; names = names; numbers = numbers; net = choices.net; gap = choices.gap; phases = choices.phases; workers = choices.workers; step = choices.step })) None

-- the matches ask for what the words ask for
pub asked : (command : Command) (words : List Text) (found : Found) → IsSomeAnd (items_of words) (λ items. Tells command items found) → request_in command found ≡ request_after command words
asked command words found h = go (items_of words) h
  where
    go : (o : Option Items) → IsSomeAnd o (λ items. Tells command items found) → request_in command found ≡ (o >>= request_from command)
    go None h = absurd h
    go (Some items) h = sym (request_told command items found h)

-- what the words after the command ask for is what all the words ask for
pub requested : (first : Text) (others words : List Text) (command : Command) → words ≡ first ∷ others → command_of first ≡ Some command → request_after command others ≡ request_of words
requested first others words command split is = ap (λ o. o >>= λ c. items_of others >>= request_from c) (sym is) ∙ ap request_of (sym split)
