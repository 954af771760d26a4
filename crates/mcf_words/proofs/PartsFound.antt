-- Items that are read are those of parts.
use Rattle.std.proofs.Common.{◌≡◌, ◌∙◌, ◌+◌, ℕ, suc, Bool, true, false, refl, sym, ap, ap₂, subst, arith, List, [], ◌∷◌, ◌++◌, take, drop, get_or, Option, Some, None, All, codes, take-append-drop, drop-cons}
use Rattle.std.specs.Prelude.{position, unwrap_or}
use Rattle.std.specs.List.{flat_map, list_any}
use Rattle.std.specs.Str.{bytes_eq}
use Rattle.std.proofs.lemmas.Bool.{eqb-true}
use Rattle.std.proofs.lemmas.List.Elements.{All-head, All-tail, All-nil, All-cons, All-weaker}
use Rattle.std.proofs.lemmas.List.Quantifiers.{position-Some}
use Rattle.std.proofs.lemmas.List.Sums.{AllPass-from_list_all}
use Rattle.std.proofs.lemmas.Map.Views.{Contains-from_any}
use Rattle.mcf_words.specs.declared.request.Command.{Command}
use Rattle.mcf_words.specs.Items.{Items, Reading, Open, Waiting, Closed, Setting, Step, no_items, joined, setting_item, word_item, is_end, is_equals, is_option, step_at, step_of, items_from}
use Rattle.mcf_words.specs.Request.{are_known, options_of}
use Rattle.mcf_words.proofs.Rows.{text_is}
use Rattle.mcf_words.specs.Parts.{Part, Plain, Apart, Joined, MayStand, AreParts, ending, words_of, plain_of, settings_of}
use Rattle.mcf_words.proofs.Basics.{mapped, some_is, none_is}
use Rattle.mcf_words.proofs.PartsRead.{Text, IsKnown, after, end_step, option_step, plain_step}

abbrev IsOrdinary : Part → Type 0
IsOrdinary (Plain word) = is_option word ≡ false
IsOrdinary (Apart s) = Unit {0}
IsOrdinary (Joined s) = Unit {0}

-- the words are these items, whatever the names of options
pub record Found (words : List Text) (items : Items) : Type 0 where
  pub parts : List Part
  pub last : Option (List Text)
  pub spelled : words ≡ flat_map words_of parts ++ ending last
  pub ordinary : All IsOrdinary parts
  pub positional : items.positional ≡ flat_map plain_of parts ++ unwrap_or last []
  pub options : items.settings ≡ flat_map settings_of parts

record FoundValue (name : Text) (words : List Text) (items : Items) : Type 0 where
  value : Text
  rest : List Text
  more : Items
  spelled : words ≡ value ∷ rest
  found : Found rest more
  is : items ≡ joined (setting_item name value) more

abbrev FoundIn : Reading → List Text → Items → Type 0
FoundIn Open words items = Found words items
FoundIn (Waiting name) words items = FoundValue name words items
FoundIn Closed words items = items ≡ record { positional = words; settings = [] }

abbrev FindsAll : List Text → Type 0
FindsAll words = (r : Reading) (items : Items) → items_from r words ≡ Some items → FoundIn r words items

abbrev end_items : List Text → Items
end_items words = record { positional = words; settings = [] }

-- the word that ends the options
with_end : (w : Text) (ws : List Text) → is_end w ≡ true → Found (w ∷ ws) (joined no_items (end_items ws))
with_end w ws e = record {
  parts = [];
  last = Some ws;
  spelled = ap (λ t. t ∷ ws) (text_is w (codes "--") e);
  ordinary = All-nil IsOrdinary;
  positional = refl;
  options = refl;
}

with_plain : (w : Text) (ws : List Text) (items : Items) → is_option w ≡ false → Found ws items → Found (w ∷ ws) (joined (word_item w) items)
with_plain w ws items e f = record {
  parts = Plain w ∷ f.parts;
  last = f.last;
  spelled = ap (λ t. w ∷ t) f.spelled;
  ordinary = All-cons IsOrdinary (Plain w) f.parts e f.ordinary;
  positional = ap (λ t. w ∷ t) f.positional;
  options = f.options;
}

with_apart : (w v : Text) (ws : List Text) (items : Items) → Found ws items → Found (w ∷ v ∷ ws) (joined no_items (joined (setting_item w v) items))
with_apart w v ws items f = record {
  parts = Apart (record { name = w; value = v }) ∷ f.parts;
  last = f.last;
  spelled = ap (λ t. w ∷ v ∷ t) f.spelled;
  ordinary = All-cons IsOrdinary (Apart (record { name = w; value = v })) f.parts tt f.ordinary;
  positional = f.positional;
  options = ap (λ t. record { name = w; value = v } ∷ t) f.options;
}

with_joined : (w n v : Text) (ws : List Text) (items : Items) → w ≡ n ++ 61 ∷ v → Found ws items → Found (w ∷ ws) (joined (setting_item n v) items)
with_joined w n v ws items is f = record {
  parts = Joined (record { name = n; value = v }) ∷ f.parts;
  last = f.last;
  spelled = ap₂ (λ (t : Text) (ts : List Text). t ∷ ts) is f.spelled;
  ordinary = All-cons IsOrdinary (Joined (record { name = n; value = v })) f.parts tt f.ordinary;
  positional = f.positional;
  options = ap (λ t. record { name = n; value = v } ∷ t) f.options;
}

-- a word is cut at its first `=`
cut_at : (w : Text) (at : ℕ) → position is_equals w ≡ Some at → w ≡ take at w ++ 61 ∷ drop (at + 1) w
cut_at w at e =
    let p = position-Some is_equals w at 0 e in
    let next : suc at ≡ at + 1 = omega arith in
    let byte : get_or w at 0 ≡ 61 = eqb-true (get_or w at 0) 61 p.1 in
    sym (take-append-drop at w) ∙ ap (λ t. take at w ++ t) (drop-cons w at 0 p.0 ∙ ap₂ (λ (x k : ℕ). x ∷ drop k w) byte next)

module _ (w : Text) (ws : List Text) (rest : FindsAll ws) (items : Items) (e : items_from Open (w ∷ ws) ≡ Some items) where
  stepped : (s : Step) → step_of Open w ≡ s → (more : Items) × (items_from s.next ws ≡ Some more) × (joined s.items more ≡ items)
  stepped s is = mapped (joined s.items) (items_from s.next ws) items (sym (ap (λ t. after t ws) is) ∙ e)

  ended : is_end w ≡ true → Found (w ∷ ws) items
  ended is =
      let m = stepped (record { items = no_items; next = Closed }) (end_step w is) in
      subst (Found (w ∷ ws)) (ap (joined no_items) (sym (rest Closed m.0 m.1)) ∙ m.2) (with_end w ws is)

  plain : is_option w ≡ false → Found (w ∷ ws) items
  plain is =
      let m = stepped (record { items = word_item w; next = Open }) (plain_step w is) in
      subst (Found (w ∷ ws)) m.2 (with_plain w ws m.0 is (rest Open m.0 m.1))

  option : is_end w ≡ false → is_option w ≡ true → (p : Option ℕ) → position is_equals w ≡ p → Found (w ∷ ws) items
  option no_end is None at =
      let m = stepped (record { items = no_items; next = Waiting w }) (option_step w no_end is ∙ ap (step_at w) at) in
      let f = rest (Waiting w) m.0 m.1 in
      subst (Found (w ∷ ws)) (ap (joined no_items) (sym f.is) ∙ m.2) (subst (λ t. Found (w ∷ t) (joined no_items (joined (setting_item w f.value) f.more))) (sym f.spelled) (with_apart w f.value f.rest f.more f.found))
  option no_end is (Some k) at =
      let m = stepped (record { items = setting_item (take k w) (drop (k + 1) w); next = Open }) (option_step w no_end is ∙ ap (step_at w) at) in
      subst (Found (w ∷ ws)) m.2 (with_joined w (take k w) (drop (k + 1) w) ws m.0 (cut_at w k at) (rest Open m.0 m.1))

  open_found : Found (w ∷ ws) items
  open_found = by_end (is_end w) refl
    where
      by_option : is_end w ≡ false → (b : Bool) → is_option w ≡ b → Found (w ∷ ws) items
      by_option no_end true is = option no_end is (position is_equals w) refl
      by_option no_end false is = plain is

      by_end : (b : Bool) → is_end w ≡ b → Found (w ∷ ws) items
      by_end true is = ended is
      by_end false is = by_option is (is_option w) refl

finds : (words : List Text) → FindsAll words
finds [] Open items e = subst (Found []) (some_is no_items items e) (record { parts = []; last = None; spelled = refl; ordinary = All-nil IsOrdinary; positional = refl; options = refl })
finds [] (Waiting name) items e = absurd (none_is items e)
finds [] Closed items e = sym (some_is no_items items e)
finds (w ∷ ws) Open items e = open_found w ws (λ r more is. finds ws r more is) items e
finds (w ∷ ws) (Waiting name) items e =
    let m = mapped (joined (setting_item name w)) (items_from Open ws) items e in
    record { value = w; rest = ws; more = m.0; spelled = refl; found = finds ws Open m.0 m.1; is = sym m.2 }
finds (w ∷ ws) Closed items e =
    let m = mapped (joined (word_item w)) (items_from Closed ws) items e in
    sym m.2 ∙ ap (joined (word_item w)) (finds ws Closed m.0 m.1)

pub known_all : (c : Command) (settings : List Setting) → are_known c settings ≡ true → All (IsKnown c) settings
known_all c settings known = All-weaker (λ (s : Setting). list_any (bytes_eq s.name) (options_of c) ≡ true) (IsKnown c) (λ s is. Contains-from_any (λ x y same. text_is x y same) s.name (options_of c) is) settings
    (AllPass-from_list_all (λ (s : Setting). list_any (bytes_eq s.name) (options_of c)) settings known)

may_stand : (c : Command) (parts : List Part) → All IsOrdinary parts → All (IsKnown c) (flat_map settings_of parts) → All (MayStand c) parts
may_stand c [] plain known = All-nil (MayStand c)
may_stand c (Plain w ∷ ps) plain known = All-cons (MayStand c) (Plain w) ps (All-head IsOrdinary (Plain w) ps plain) (may_stand c ps (All-tail IsOrdinary (Plain w) ps plain) known)
may_stand c (Apart s ∷ ps) plain known =
    All-cons (MayStand c) (Apart s) ps (All-head (IsKnown c) s (flat_map settings_of ps) known) (may_stand c ps (All-tail IsOrdinary (Apart s) ps plain) (All-tail (IsKnown c) s (flat_map settings_of ps) known))
may_stand c (Joined s ∷ ps) plain known =
    All-cons (MayStand c) (Joined s) ps (All-head (IsKnown c) s (flat_map settings_of ps) known) (may_stand c ps (All-tail IsOrdinary (Joined s) ps plain) (All-tail (IsKnown c) s (flat_map settings_of ps) known))

-- what is read as items with options of the command is parts
pub parts_found : (c : Command) (words : List Text) (items : Items) → items_from Open words ≡ Some items → are_known c items.settings ≡ true → AreParts c words items.positional items.settings
parts_found c words items e known =
    let f : Found words items = finds words Open items e in
    record {
      parts = f.parts;
      last = f.last;
      spelled = f.spelled;
      stand = may_stand c f.parts f.ordinary (subst (All (IsKnown c)) f.options (known_all c items.settings known));
      positional = f.positional;
      options = f.options;
    }
