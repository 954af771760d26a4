-- The arguments of a command: its options by their long names, and the positional words.
use Rattle.std.proofs.Common.{◌≡◌, ◌∙◌, ◌&&◌, ◌||◌, ℕ, Bool, cond, true, false, not, refl, sym, ap, ap₂, List, [], ◌∷◌, ◌++◌, map, Some, None}
use Rattle.std.specs.Prelude.{codes, fold}
use Rattle.std.specs.List.{list_any}
use Rattle.std.specs.Str.{bytes_eq}
use Rattle.std.proofs.lemmas.Bool.{false≢true, or_parts}
use Rattle.clap.specs.Walk.{Row, Rule, Text, arg_by_id, arg_by_index, arg_by_long, arg_by_short, has_row, with_default}
use Rattle.clap.specs.Simple.{Shape, new_rule, new_shape}
use Rattle.clap.specs.Faults.{check_fault, defaults_fault}
use Rattle.clap.specs.Takes.{is_given}
use Rattle.clap.specs.declared.builder.action.ArgAction.TheVariants.{Set, Append}
use Rattle.clap.specs.declared.builder.value_parser.ValueParser.TheVariants as parsers
use Rattle.mcf_words.proofs.Rows.{same_text, text_is, other_text}
use Rattle.mcf_words.proofs.Fitting.{dashed, words_id}

-- an option with one value, which is text
abbrev pub option_built : Text → Rule
option_built name = record (new_rule name) {
  long = Some name;
  action = Some Set;
  range = Some (record { start_inclusive = 1; end_inclusive = 1 });
  parser = Some parsers.String;
}

-- the positional words
abbrev pub words_built : Rule
words_built = record (new_rule words_id) {
  index = Some 1;
  action = Some Append;
  range = Some (record { start_inclusive = 1; end_inclusive = 1 });
  parser = Some parsers.String;
}

abbrev pub table : List Text → List Rule
table names = map option_built names ++ words_built ∷ []

-- a command with these options, built
abbrev pub shape : List Text → Shape
shape names = record (new_shape (codes "mcf")) {
  rules = table names;
  no_binary_name = true;
  disable_help_flag = true;
  disable_help_subcommand = true;
  disable_version_flag = true;
  is_built = true;
}

abbrev pub has_name : List Text → Text → Bool
has_name names name = list_any (λ o. bytes_eq o name) names

-- ---- what is found in the table

pub no_short : (names : List Text) (c : ℕ) → arg_by_short (table names) c ≡ None
no_short [] c = refl
no_short (o ∷ os) c = no_short os c

pub by_index : (names : List Text) → arg_by_index (table names) 1 ≡ Some words_built
by_index [] = refl
by_index (o ∷ os) = by_index os

or_false : (b : Bool) → (b || false) ≡ b
or_false true = refl
or_false false = refl

pub by_long : (names : List Text) (name : Text) → arg_by_long (table names) name ≡ cond (has_name names name) (Some (option_built name)) None
by_long [] name = refl
by_long (o ∷ os) name = go (bytes_eq o name) refl (by_long os name)
  where
    go : (b : Bool) → bytes_eq o name ≡ b → arg_by_long (table os) name ≡ cond (has_name os name) (Some (option_built name)) None
        → arg_by_long (table (o ∷ os)) name ≡ cond (has_name (o ∷ os) name) (Some (option_built name)) None
    go true e rest = ap (λ b. cond (b || false) (Some (option_built o)) (arg_by_long (table os) name)) e ∙ ap (λ t. Some (option_built t)) (text_is o name e)
        ∙ ap (λ b. cond (b || has_name os name) (Some (option_built name)) None) (sym e)
    go false e rest = ap (λ b. cond (b || false) (Some (option_built o)) (arg_by_long (table os) name)) e ∙ rest
        ∙ ap (λ b. cond (b || has_name os name) (Some (option_built name)) None) (sym e)

pub by_name : (names : List Text) (name : Text) → has_name names name ≡ true → arg_by_id (table names) name ≡ Some (option_built name)
by_name [] name known = absurd (false≢true known)
by_name (o ∷ os) name known = go (bytes_eq o name) refl known (λ k. by_name os name k)
  where
    go : (b : Bool) → bytes_eq o name ≡ b → (bytes_eq o name || has_name os name) ≡ true
        → (has_name os name ≡ true → arg_by_id (table os) name ≡ Some (option_built name)) → arg_by_id (table (o ∷ os)) name ≡ Some (option_built name)
    go true e k rest = ap (λ b. cond b (Some (option_built o)) (arg_by_id (table os) name)) e ∙ ap (λ t. Some (option_built t)) (text_is o name e)
    go false e k rest = ap (λ b. cond b (Some (option_built o)) (arg_by_id (table os) name)) e ∙ rest (ap (λ b. b || has_name os name) (sym e) ∙ k)

pub by_words : (names : List Text) → has_name names words_id ≡ false → arg_by_id (table names) words_id ≡ Some words_built
by_words [] none = refl
by_words (o ∷ os) none =
    let parts = or_parts (bytes_eq o words_id) (has_name os words_id) none in
    ap (λ b. cond b (Some (option_built o)) (arg_by_id (table os) words_id)) parts.0 ∙ by_words os parts.1

-- an option is not the positional words
pub not_words : (names : List Text) (name : Text) → has_name names words_id ≡ false → has_name names name ≡ true → bytes_eq name words_id ≡ false
not_words [] name none known = absurd (false≢true known)
not_words (o ∷ os) name none known =
    let parts = or_parts (bytes_eq o words_id) (has_name os words_id) none in
    go parts.0 (bytes_eq o name) refl known (λ k. not_words os name parts.1 k)
  where
    go : bytes_eq o words_id ≡ false → (b : Bool) → bytes_eq o name ≡ b → (bytes_eq o name || has_name os name) ≡ true
        → (has_name os name ≡ true → bytes_eq name words_id ≡ false) → bytes_eq name words_id ≡ false
    go apart true e k rest = ap (λ t. bytes_eq t words_id) (sym (text_is o name e)) ∙ apart
    go apart false e k rest = rest (ap (λ b. b || has_name os name) (sym e) ∙ k)

-- the options, with their dashes
pub has_dashed : (names : List Text) (name : Text) → list_any (bytes_eq (dashed name)) (map dashed names) ≡ has_name names name
has_dashed [] name = refl
has_dashed (o ∷ os) name = ap₂ (λ a b. a || b) (swapped (bytes_eq o name) refl) (has_dashed os name)
  where
    swapped : (b : Bool) → bytes_eq o name ≡ b → bytes_eq name o ≡ bytes_eq o name
    swapped true e = ap (λ t. bytes_eq t o) (sym (text_is o name e)) ∙ same_text o ∙ sym e
    swapped false e = other_text o name e ∙ sym e

-- ---- after the walk

or_true : (b : Bool) → (b || true) ≡ true
or_true true = refl
or_true false = refl

either_same : (b : Bool) (rows : List Row) → cond b rows rows ≡ rows
either_same true rows = refl
either_same false rows = refl

pub no_defaults : (names : List Text) (rows : List Row) → fold with_default rows (table names) ≡ rows
no_defaults [] rows = either_same (has_row words_id rows) rows
no_defaults (o ∷ os) rows = ap (λ rs. fold with_default rs (table os)) (either_same (has_row o rows) rows) ∙ no_defaults os rows

pub no_default_fault : (names : List Text) (rows : List Row) → defaults_fault rows (table names) ≡ []
unfolding defaults_fault
no_default_fault [] rows = rw (or_true (has_row words_id rows)) refl
no_default_fault (o ∷ os) rows = rw (or_true (has_row o rows)) (ap (λ rs. defaults_fault rs (table os)) (either_same (has_row o rows) rows) ∙ no_default_fault os rows)

none_wanted : (names : List Text) (rows : List Row) → list_any (λ (a : Rule). a.required && not (is_given a.id rows)) (table names) ≡ false
none_wanted [] rows = refl
none_wanted (o ∷ os) rows = none_wanted os rows

pub no_check_fault : (names : List Text) (rows : List Row) → check_fault (shape names) rows false ≡ []
no_check_fault names rows = rw (none_wanted names rows) refl
