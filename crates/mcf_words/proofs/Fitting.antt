-- Items that a command may have, and rows that tell them.
use Rattle.std.proofs.Common.{◌≡◌, ◌∙◌, ◌&&◌, ◌⊎◌, inl, inr, Bool, true, false, not, refl, sym, ap, ap₂, subst, List, [], ◌∷◌, ◌++◌, append-nil, append_assoc, Option, Some, None, option_map, is_some, true≢false}
use Rattle.std.specs.List.{list_all, list_any}
use Rattle.std.specs.Option.{unwrap_or}
use Rattle.std.specs.Str.{bytes_eq}
use Rattle.std.proofs.lemmas.Bool.{and_left, and_right, and_from, false≢true}
use Rattle.std.proofs.lemmas.List.Elements.{filter_map-append}
use Rattle.std.proofs.lemmas.List.Folds.{list_all-append}
use Rattle.clap.specs.Walk.{Row, Text, all_of, has_row, with_values, without}
use Rattle.clap.specs.declared.builder.value_parser.Reading.{Reading}
use Rattle.clap.specs.declared.parser.matches.ValueSource.{ValueSource}
use Rattle.mcf_words.specs.Items.{Setting, Items, no_items, joined, word_item, setting_item, is_option}
use Rattle.mcf_words.specs.Values.{values_of}
pub use Rattle.mcf_words.specs.Parse.{words_id}
use Rattle.mcf_words.proofs.Rows.{same_text, text_is, other_text, all_of-with, all_of-other, without-none, has_row-all_of}

abbrev pub dashed : Text → Text
dashed name = 45 ∷ 45 ∷ name

-- every option is one of those
abbrev pub are_of : List Text → List Setting → Bool
are_of names settings = list_all (λ s. list_any (bytes_eq s.name) names) settings

abbrev pub at_most_one : List Text → Bool
at_most_one [] = true
at_most_one (v ∷ []) = true
at_most_one (v ∷ w ∷ more) = false

-- at most one value, which looks like no option
abbrev pub is_one_value : List Text → Bool
is_one_value [] = true
is_one_value (v ∷ []) = not (is_option v)
is_one_value (v ∷ w ∷ more) = false

-- every option is one of those, and stands at most once
pub record Suits (names : List Text) (items : Items) : Type 0 where
  pub known : are_of names items.settings ≡ true
  pub once : (name : Text) → at_most_one (values_of name items.settings) ≡ true

-- some option is none of those, or stands twice, or has a value that looks like an option
abbrev pub Misfits : List Text → Items → Type 0
Misfits names items = (are_of names items.settings ≡ false) ⊎ ((name : Text) × (is_one_value (values_of name items.settings) ≡ false))

abbrev pub AllMisfit : List Text → Option Items → Type 0
AllMisfit names None = Unit {0}
AllMisfit names (Some items) = Misfits names items

abbrev pub some_values : List Text → Option (List Text)
some_values [] = None
some_values (v ∷ vs) = Some (v ∷ vs)

-- the rows have each option's values and the positional words
pub record HasItems (rows : List Row) (items : Items) : Type 0 where
  pub options : (id : Text) → bytes_eq id words_id ≡ false → all_of id rows ≡ some_values (values_of (dashed id) items.settings)
  pub words : all_of words_id rows ≡ some_values items.positional

-- ---- items

pub joined-none : (a : Items) → joined a no_items ≡ a
joined-none a = ap₂ (λ (p : List Text) (s : List Setting). record { positional = p; settings = s }) (append-nil a.positional) (append-nil a.settings)

joined_assoc : (a b c : Items) → joined (joined a b) c ≡ joined a (joined b c)
joined_assoc a b c = ap₂ (λ (p : List Text) (s : List Setting). record { positional = p; settings = s }) (append_assoc a.positional b.positional c.positional)
    (append_assoc a.settings b.settings c.settings)

pub joined-map : (a b : Items) (o : Option Items) → option_map (joined (joined a b)) o ≡ option_map (joined a) (option_map (joined b) o)
joined-map a b None = refl
joined-map a b (Some c) = ap Some (joined_assoc a b c)

one_fails : (xs ys : List Text) → is_one_value xs ≡ false → is_one_value (xs ++ ys) ≡ false
one_fails [] ys e = absurd (true≢false e)
one_fails (v ∷ []) [] e = e
one_fails (v ∷ []) (w ∷ ws) e = refl
one_fails (v ∷ w ∷ more) ys e = refl

values-append : (name : Text) (a b : List Setting) → values_of name (a ++ b) ≡ values_of name a ++ values_of name b
values-append name a b = filter_map-append _ a b

pub misfits_more : (names : List Text) (a b : Items) → Misfits names a → Misfits names (joined a b)
misfits_more names a b (inl unknown) = inl (list_all-append _ a.settings b.settings ∙ and_left _ _ unknown)
misfits_more names a b (inr fails) = inr (fails.0, ap is_one_value (values-append fails.0 a.settings b.settings) ∙ one_fails (values_of fails.0 a.settings) (values_of fails.0 b.settings) fails.1)

pub all_misfit : (names : List Text) (a : Items) (o : Option Items) → Misfits names a → AllMisfit names (option_map (joined a) o)
all_misfit names a None h = tt
all_misfit names a (Some b) h = misfits_more names a b h

value_last : (name value : Text) (a : List Setting) → values_of name (a ++ record { name = name; value = value } ∷ []) ≡ values_of name a ++ value ∷ []
value_last name value a =
    let here : values_of name (record { name = name; value = value } ∷ []) ≡ value ∷ [] = rw (same_text name) refl in
    values-append name a _ ∙ ap (λ vs. values_of name a ++ vs) here

value_other : (name other value : Text) (a : List Setting) → bytes_eq name other ≡ false → values_of other (a ++ record { name = name; value = value } ∷ []) ≡ values_of other a
value_other name other value a ne =
    let here : values_of other (record { name = name; value = value } ∷ []) ≡ [] = rw ne refl in
    values-append other a _ ∙ ap (λ vs. values_of other a ++ vs) here ∙ append-nil _

last_dashed : (vs : List Text) (v : Text) → is_option v ≡ true → is_one_value (vs ++ v ∷ []) ≡ false
last_dashed [] v e = ap not e
last_dashed (x ∷ []) v e = refl
last_dashed (x ∷ y ∷ more) v e = refl

last_again : (vs : List Text) (v : Text) → is_some (some_values vs) ≡ true → is_one_value (vs ++ v ∷ []) ≡ false
last_again [] v e = absurd (false≢true e)
last_again (x ∷ []) v e = refl
last_again (x ∷ y ∷ more) v e = refl

-- a value that looks like an option
pub misfits_dashed : (names : List Text) (a : Items) (name v : Text) → is_option v ≡ true → Misfits names (joined a (setting_item name v))
misfits_dashed names a name v e = inr (name, ap is_one_value (value_last name v a.settings) ∙ last_dashed (values_of name a.settings) v e)

-- an option once more
pub misfits_again : (names : List Text) (a : Items) (name v : Text) → is_some (some_values (values_of name a.settings)) ≡ true → Misfits names (joined a (setting_item name v))
misfits_again names a name v e = inr (name, ap is_one_value (value_last name v a.settings) ∙ last_again (values_of name a.settings) v e)

-- an option that is none of those
pub misfits_unknown : (names : List Text) (a : Items) (name v : Text) → list_any (bytes_eq name) names ≡ false → Misfits names (joined a (setting_item name v))
misfits_unknown names a name v e =
    let here : are_of names (record { name = name; value = v } ∷ []) ≡ false = ap (λ b. b && true) e in
    inl (list_all-append _ a.settings _ ∙ and_right (are_of names a.settings) _ here)

no_values : (vs : List Text) → is_some (some_values vs) ≡ false → vs ≡ []
no_values [] e = refl
no_values (v ∷ vs) e = absurd (true≢false e)

-- a known option for the first time
pub suits_more : (names : List Text) (a : Items) (name v : Text) → Suits names a → list_any (bytes_eq name) names ≡ true
    → is_some (some_values (values_of name a.settings)) ≡ false → Suits names (joined a (setting_item name v))
suits_more names a name v suits known first = record {
  known = let here : are_of names (record { name = name; value = v } ∷ []) ≡ true = ap (λ b. b && true) known in list_all-append _ a.settings _ ∙ and_from _ _ suits.known here;
  once = λ other. go other (bytes_eq name other) refl;
}
  where
    go : (other : Text) (b : Bool) → bytes_eq name other ≡ b → at_most_one (values_of other (a.settings ++ record { name = name; value = v } ∷ [])) ≡ true
    go other true e =
        let alone : values_of name (a.settings ++ record { name = name; value = v } ∷ []) ≡ v ∷ [] = value_last name v a.settings ∙ ap (λ vs. vs ++ v ∷ []) (no_values (values_of name a.settings) first) in
        ap (λ n. at_most_one (values_of n (a.settings ++ record { name = name; value = v } ∷ []))) (sym (text_is name other e)) ∙ ap at_most_one alone
    go other false e = ap at_most_one (value_other name other v a.settings e) ∙ suits.once other

pub suits_word : (names : List Text) (a : Items) (v : Text) → Suits names a → Suits names (joined a (word_item v))
suits_word names a v suits = record {
  known = ap (are_of names) (append-nil a.settings) ∙ suits.known;
  once = λ name. ap (λ s. at_most_one (values_of name s)) (append-nil a.settings) ∙ suits.once name;
}

-- ---- rows

values_last : (vs : List Text) (v : Text) → Some (unwrap_or (some_values vs) [] ++ v ∷ []) ≡ some_values (vs ++ v ∷ [])
values_last [] v = refl
values_last (x ∷ xs) v = refl

pub has_word : (rows : List Row) (a : Items) (how : Reading) (s : ValueSource) (v : Text) → HasItems rows a → HasItems (with_values words_id how s (v ∷ []) rows) (joined a (word_item v))
has_word rows a how s v has = record {
  options = λ id ne. all_of-other words_id id how s (v ∷ []) rows (other_text id words_id ne) ∙ has.options id ne ∙ ap (λ x. some_values (values_of (dashed id) x)) (sym (append-nil a.settings));
  words = all_of-with words_id how s (v ∷ []) rows ∙ ap (λ (o : Option (List Text)). Some (unwrap_or o [] ++ v ∷ [])) has.words ∙ values_last a.positional v;
}

pub has_setting : (rows : List Row) (a : Items) (how : Reading) (s : ValueSource) (name v : Text) → bytes_eq name words_id ≡ false → has_row name rows ≡ false → HasItems rows a
    → HasItems (with_values name how s (v ∷ []) (without name rows)) (joined a (setting_item (dashed name) v))
has_setting rows a how s name v own first has =
    subst (λ xs. HasItems (with_values name how s (v ∷ []) xs) (joined a (setting_item (dashed name) v))) (sym (without-none name rows first)) (record {
      options = λ id ne. go id ne (bytes_eq name id) refl;
      words = all_of-other name words_id how s (v ∷ []) rows own ∙ has.words ∙ ap some_values (sym (append-nil a.positional));
    })
  where
    go : (id : Text) → bytes_eq id words_id ≡ false → (b : Bool) → bytes_eq name id ≡ b
        → all_of id (with_values name how s (v ∷ []) rows) ≡ some_values (values_of (dashed id) (a.settings ++ record { name = dashed name; value = v } ∷ []))
    go id ne true e =
        let own_value = all_of-with name how s (v ∷ []) rows ∙ ap (λ (o : Option (List Text)). Some (unwrap_or o [] ++ v ∷ [])) (has.options name own)
        ∙ values_last (values_of (dashed name) a.settings) v ∙ ap some_values (sym (value_last (dashed name) v a.settings)) in
        subst (λ x. all_of x (with_values name how s (v ∷ []) rows) ≡ some_values (values_of (dashed x) (a.settings ++ record { name = dashed name; value = v } ∷ []))) (text_is name id e) own_value
    go id ne false e =
        let apart : bytes_eq (dashed name) (dashed id) ≡ false = e in
        all_of-other name id how s (v ∷ []) rows e ∙ has.options id ne ∙ ap some_values (sym (value_other (dashed name) (dashed id) v a.settings apart))

-- an option has a row where it has a value
pub row-value : (rows : List Row) (a : Items) (name : Text) (b : Bool) → bytes_eq name words_id ≡ false → HasItems rows a → has_row name rows ≡ b
    → is_some (some_values (values_of (dashed name) a.settings)) ≡ b
row-value rows a name b own has e = ap is_some (sym (has.options name own)) ∙ sym (has_row-all_of name rows) ∙ e
