-- What an option says is what is read of its values.
use Rattle.std.proofs.Common.{◌≡◌, ◌∙◌, ◌&&◌, ◌*◌, ◌+◌, ◌/◌, ◌%◌, ◌^◌, ◌≤◌, inl, inr, ℕ, Bool, cond, true, false, refl, sym, ap, ap₂, subst, arith, List, [], ◌∷◌, ◌++◌, Option, Some, None, option_map, codes, eqb-true, leb-true, le-leb, div-add-mod'}
use Rattle.std.specs.Prelude.{◌==◌, nat_le}
use Rattle.std.specs.Str.{bytes_eq}
use Rattle.std.specs.Str.Parse.{digits_value}
use Rattle.std.proofs.lemmas.Bool.{and_from, and_parts, both_ways, false_from_ne_true}
use Rattle.std.proofs.lemmas.List.Elements.{All-head, All-tail, All-nil, All-cons, filter_map-append}
use Rattle.mcf_limits.specs.declared.TheConstants.{MAX_DECIMALS, MAX_GAP, MAX_PHASES, MAX_WORKERS}
use Rattle.sndlib_grammar.specs.Number.{Number, number_of}
use Rattle.unit_scale.specs.declared.decimal.Decimal.TheVariants.{Millionths, Huge}
use Rattle.unit_scale.specs.Units.{decimal_from, decimal_of, digits, places, quotient, units_of, most}
use Rattle.unit_scale.proofs.Quotients.{pow-ten, quotient_whole}
use Rattle.unit_scale.specs.Modes.{link_word, module_word, link_mode_of, module_mode_of}
use Rattle.unit_scale.specs.declared.modes.LinkMode.{LinkMode}
use Rattle.unit_scale.specs.declared.modes.LinkMode.TheVariants.{Directed, Undirected, Bidirected}
use Rattle.unit_scale.specs.declared.modes.ModuleMode.{ModuleMode}
use Rattle.unit_scale.specs.declared.modes.ModuleMode.TheVariants.{Ignore, Largest, Sum}
use Rattle.mcf_words.specs.Items.{Setting}
use Rattle.mcf_words.specs.Values.{choice, gap_of, is_whole, number_in, values_of, within_gap}
use Rattle.mcf_words.proofs.Rows.{same_text, text_is}
use Rattle.mcf_words.specs.Parts.{IsAbsent, StandsOnce}
use Rattle.mcf_words.specs.WordValues.{IsGapWord, IsLinkWord, IsModuleWord, IsNumberWord, IsPhasesWord, IsWorkersWord, Says}
use Rattle.mcf_words.proofs.Basics.{mapped, none_is, some_is}

-- ---- the values of a name

module _ (name : List ℕ) where
  abbrev Differs : Setting → Type 0
  Differs s = s.name ≡ name → ⊥

  pub absent_values : (ss : List Setting) → IsAbsent name ss → values_of name ss ≡ []
  absent_values [] none = refl
  absent_values (s ∷ ss) none =
      let differs : bytes_eq s.name name ≡ false = false_from_ne_true (bytes_eq s.name name) (λ t. All-head Differs s ss none (text_is s.name name t)) in
      rw differs (absent_values ss (All-tail Differs s ss none))

  first_value : (s : Setting) (ss : List Setting) → bytes_eq s.name name ≡ true → values_of name (s ∷ ss) ≡ s.value ∷ values_of name ss
  first_value s ss is = rw is refl

  other_value : (s : Setting) (ss : List Setting) → bytes_eq s.name name ≡ false → values_of name (s ∷ ss) ≡ values_of name ss
  other_value s ss is = rw is refl

  not_empty : (v : List ℕ) (vs : List (List ℕ)) → v ∷ vs ≡ [] → ⊥
  not_empty v vs e = cc

  differs_of : (s : Setting) → bytes_eq s.name name ≡ false → Differs s
  differs_of s is same = both_ways (bytes_eq s.name name) is (ap (λ t. bytes_eq t name) same ∙ same_text name)

  pub values_absent : (ss : List Setting) → values_of name ss ≡ [] → IsAbsent name ss
  values_absent [] e = All-nil Differs
  values_absent (s ∷ ss) e = by (bytes_eq s.name name) refl (λ k. values_absent ss k)
    where
      by : (b : Bool) → bytes_eq s.name name ≡ b → (values_of name ss ≡ [] → IsAbsent name ss) → IsAbsent name (s ∷ ss)
      by true is rest = absurd (not_empty s.value (values_of name ss) (sym (first_value s ss is) ∙ e))
      by false is rest = All-cons Differs s ss (differs_of s is) (rest (sym (other_value s ss is) ∙ e))

  same_head : (x y : List ℕ) (xs ys : List (List ℕ)) → x ∷ xs ≡ y ∷ ys → (x ≡ y) × (xs ≡ ys)
  same_head x y xs ys e = (cc, cc)

  pub values_once : (v : List ℕ) (ss : List Setting) → values_of name ss ≡ v ∷ [] → StandsOnce name v ss
  values_once v [] e = absurd (not_empty v [] (sym e))
  values_once v (s ∷ ss) e = by (bytes_eq s.name name) refl (λ k. values_once v ss k)
    where
      by : (b : Bool) → bytes_eq s.name name ≡ b → (values_of name ss ≡ v ∷ [] → StandsOnce name v ss) → StandsOnce name v (s ∷ ss)
      by true is rest =
          let same = same_head s.value v (values_of name ss) [] (sym (first_value s ss is) ∙ e) in
          record {
            before = [];
            after = ss;
            place = ap₂ (λ (n x : List ℕ). record { name = n; value = x } ∷ ss) (text_is s.name name is) same.0;
            none_before = All-nil Differs;
            none_after = values_absent ss same.1;
          }
      by false is rest =
          let once = rest (sym (other_value s ss is) ∙ e) in
          record {
            before = s ∷ once.before;
            after = once.after;
            place = ap (λ t. s ∷ t) once.place;
            none_before = All-cons Differs s once.before (differs_of s is) once.none_before;
            none_after = once.none_after;
          }

  pub once_values : (v : List ℕ) (ss : List Setting) → StandsOnce name v ss → values_of name ss ≡ v ∷ []
  once_values v ss once =
      ap (values_of name) once.place ∙ filter_map-append _ once.before (record { name = name; value = v } ∷ once.after)
      ∙ ap₂ (λ a b. a ++ b) (absent_values once.before once.none_before)
      (first_value (record { name = name; value = v }) once.after (same_text name) ∙ ap (λ vs. v ∷ vs) (absent_values once.after once.none_after))

-- ---- what is read of a value

-- reading a word gives just what it means
pub record Agrees {X : Type 0} (read : List ℕ → Option X) (Means : List ℕ → X → Type 0) : Type 0 where
  pub means : (w : List ℕ) (x : X) → read w ≡ Some x → Means w x
  pub reads : (w : List ℕ) (x : X) → Means w x → read w ≡ Some x

module _ {X : Type 0} (name : List ℕ) (read : List ℕ → Option X) (Means : List ℕ → X → Type 0) (agrees : Agrees read Means) (default : X) (ss : List Setting) (x : X) where
  pub choice_says : choice read default (values_of name ss) ≡ Some x → Says name Means default ss x
  choice_says e = by (values_of name ss) refl e
    where
      by : (vs : List (List ℕ)) → values_of name ss ≡ vs → choice read default vs ≡ Some x → Says name Means default ss x
      by [] is e = inr (values_absent name ss is, sym (some_is default x e))
      by (v ∷ []) is e = inl (v, values_once name v ss is, agrees.means v x e)
      by (v ∷ w ∷ more) is e = absurd (none_is x e)

  pub says_choice : Says name Means default ss x → choice read default (values_of name ss) ≡ Some x
  says_choice (inl said) = ap (choice read default) (once_values name said.0 ss said.1) ∙ agrees.reads said.0 x said.2
  says_choice (inr none) = ap (choice read default) (absent_values name ss none.0) ∙ ap (λ d. Some d) (sym none.1)

-- ---- numbers

module _ (low high : ℕ) where
  abbrev value_test : List ℕ → Bool
  value_test w = (is_whole w && nat_le low (digits_value 10 w)) && nat_le (digits_value 10 w) high

  abbrev if_value : Bool → ℕ → Option ℕ
  if_value b v = cond b (Some v) None

  number_means : (w : List ℕ) (n : ℕ) → number_in low high w ≡ Some n → IsNumberWord low high w n
  number_means w n e = by (value_test w) refl e
    where
      by : (b : Bool) → value_test w ≡ b → if_value b (digits_value 10 w) ≡ Some n → IsNumberWord low high w n
      by false is e = absurd (none_is n e)
      by true is e =
          let outer = and_parts (is_whole w && nat_le low (digits_value 10 w)) (nat_le (digits_value 10 w) high) is in
          let inner = and_parts (is_whole w) (nat_le low (digits_value 10 w)) outer.0 in
          let v : digits_value 10 w ≡ n = some_is (digits_value 10 w) n e in
          record { form = inner.0; value = v; from_low = subst (λ k. low ≤ k) v (leb-true low (digits_value 10 w) inner.1); to_high = subst (λ k. k ≤ high) v (leb-true (digits_value 10 w) high outer.1) }

  number_reads : (w : List ℕ) (n : ℕ) → IsNumberWord low high w n → number_in low high w ≡ Some n
  number_reads w n is =
      let from_low : low ≤ digits_value 10 w = subst (λ k. low ≤ k) (sym is.value) is.from_low in
      let to_high : digits_value 10 w ≤ high = subst (λ k. k ≤ high) (sym is.value) is.to_high in
      let test : value_test w ≡ true = and_from (is_whole w && nat_le low (digits_value 10 w)) (nat_le (digits_value 10 w) high)
      (and_from (is_whole w) (nat_le low (digits_value 10 w)) is.form (le-leb low (digits_value 10 w) from_low)) (le-leb (digits_value 10 w) high to_high) in
      ap (λ b. if_value b (digits_value 10 w)) test ∙ ap (λ v. Some v) is.value

  pub numbers_agree : Agrees (number_in low high) (IsNumberWord low high)
  numbers_agree = record { means = number_means; reads = number_reads }

-- a number from 1 on that is given
some_numbers_agree : (high : ℕ) → Agrees (λ w. option_map Some (number_in 1 high w)) (λ w said. (n : ℕ) × (said ≡ Some n) × IsNumberWord 1 high w n)
some_numbers_agree high = record {
  means = λ w x e. let m = mapped Some (number_in 1 high w) x e in (m.0, sym m.2, number_means 1 high w m.0 m.1);
  reads = λ w x is. ap (option_map Some) (number_reads 1 high w is.0 is.2) ∙ ap (λ o. Some o) (sym is.1);
}

pub phases_agree : Agrees (λ w. option_map Some (number_in 1 MAX_PHASES w)) IsPhasesWord
phases_agree = some_numbers_agree MAX_PHASES

pub workers_agree : Agrees (λ w. option_map Some (number_in 1 MAX_WORKERS w)) IsWorkersWord
workers_agree = some_numbers_agree MAX_WORKERS

-- ---- modes

pub links_agree : Agrees link_mode_of IsLinkWord
links_agree = record { means = means; reads = λ w mode is. ap link_mode_of is ∙ reads mode }
  where
    reads : (mode : LinkMode) → link_mode_of (link_word mode) ≡ Some mode
    reads Directed = refl
    reads Undirected = refl
    reads Bidirected = refl

    third : (w : List ℕ) (mode : LinkMode) (b : Bool) → bytes_eq w (codes "bidirected") ≡ b → cond b (Some Bidirected) None ≡ Some mode → w ≡ link_word mode
    third w mode true is e = text_is w (codes "bidirected") is ∙ ap link_word (some_is Bidirected mode e)
    third w mode false is e = absurd (none_is mode e)

    second : (w : List ℕ) (mode : LinkMode) (b : Bool) → bytes_eq w (codes "undirected") ≡ b → cond b (Some Undirected) (cond (bytes_eq w (codes "bidirected")) (Some Bidirected) None) ≡ Some mode → w ≡ link_word mode
    second w mode true is e = text_is w (codes "undirected") is ∙ ap link_word (some_is Undirected mode e)
    second w mode false is e = third w mode (bytes_eq w (codes "bidirected")) refl e

    first : (w : List ℕ) (mode : LinkMode) (b : Bool) → bytes_eq w (codes "directed") ≡ b
        → cond b (Some Directed) (cond (bytes_eq w (codes "undirected")) (Some Undirected) (cond (bytes_eq w (codes "bidirected")) (Some Bidirected) None)) ≡ Some mode → w ≡ link_word mode
    first w mode true is e = text_is w (codes "directed") is ∙ ap link_word (some_is Directed mode e)
    first w mode false is e = second w mode (bytes_eq w (codes "undirected")) refl e

    means : (w : List ℕ) (mode : LinkMode) → link_mode_of w ≡ Some mode → w ≡ link_word mode
    means w mode e = first w mode (bytes_eq w (codes "directed")) refl e

pub modules_agree : Agrees module_mode_of IsModuleWord
modules_agree = record { means = means; reads = λ w mode is. ap module_mode_of is ∙ reads mode }
  where
    reads : (mode : ModuleMode) → module_mode_of (module_word mode) ≡ Some mode
    reads Ignore = refl
    reads Largest = refl
    reads Sum = refl

    third : (w : List ℕ) (mode : ModuleMode) (b : Bool) → bytes_eq w (codes "sum") ≡ b → cond b (Some Sum) None ≡ Some mode → w ≡ module_word mode
    third w mode true is e = text_is w (codes "sum") is ∙ ap module_word (some_is Sum mode e)
    third w mode false is e = absurd (none_is mode e)

    second : (w : List ℕ) (mode : ModuleMode) (b : Bool) → bytes_eq w (codes "largest") ≡ b → cond b (Some Largest) (cond (bytes_eq w (codes "sum")) (Some Sum) None) ≡ Some mode → w ≡ module_word mode
    second w mode true is e = text_is w (codes "largest") is ∙ ap module_word (some_is Largest mode e)
    second w mode false is e = third w mode (bytes_eq w (codes "sum")) refl e

    first : (w : List ℕ) (mode : ModuleMode) (b : Bool) → bytes_eq w (codes "none") ≡ b
        → cond b (Some Ignore) (cond (bytes_eq w (codes "largest")) (Some Largest) (cond (bytes_eq w (codes "sum")) (Some Sum) None)) ≡ Some mode → w ≡ module_word mode
    first w mode true is e = text_is w (codes "none") is ∙ ap module_word (some_is Ignore mode e)
    first w mode false is e = second w mode (bytes_eq w (codes "largest")) refl e

    means : (w : List ℕ) (mode : ModuleMode) → module_mode_of w ≡ Some mode → w ≡ module_word mode
    means w mode e = first w mode (bytes_eq w (codes "none")) refl e

-- ---- gaps

abbrev top : Number → ℕ
top n = digits n * 10 ^ (n.up + MAX_DECIMALS)

abbrev bottom : Number → ℕ
bottom n = 10 ^ places n

-- a quotient without a rest, times what divides
whole_times : (a b q : ℕ) → quotient a b ≡ Some q → a ≡ q * b
whole_times a b q e = by (a % b == 0) refl e
  where
    sum : (r m : ℕ) → m ≡ q → r ≡ 0 → m * b + r ≡ a → a ≡ q * b
    sum r m same none is =
        let s : q * b + 0 ≡ a = subst (λ k. k * b + 0 ≡ a) same (subst (λ k. m * b + k ≡ a) none is) in
        omega arith

    by : (t : Bool) → (a % b == 0) ≡ t → cond t (Some (a / b)) None ≡ Some q → a ≡ q * b
    by true is e = sum (a % b) (a / b) (some_is (a / b) q e) (eqb-true (a % b) 0 is) (div-add-mod' a b)
    by false is e = absurd (none_is q e)

module _ (w : List ℕ) (gap : ℕ) where
  within : (m : ℕ) (b : Bool) → nat_le m MAX_GAP ≡ b → cond b (Some m) None ≡ Some gap → (m ≡ gap) × (gap ≤ MAX_GAP)
  within m true is e =
      let same : m ≡ gap = some_is m gap e in
      (same, subst (λ k. k ≤ MAX_GAP) same (leb-true m MAX_GAP is))
  within m false is e = absurd (none_is gap e)

  kind : (m : ℕ) (b : Bool) → nat_le m (most * 10 ^ MAX_DECIMALS) ≡ b → within_gap (Some (cond b (Millionths m) Huge)) ≡ Some gap → (m ≡ gap) × (gap ≤ MAX_GAP)
  kind m true is e = within m (nat_le m MAX_GAP) refl e
  kind m false is e = absurd (none_is gap e)

  counted : (n : Number) (o : Option ℕ) → units_of MAX_DECIMALS n ≡ o → within_gap (Some (decimal_from o)) ≡ Some gap → number_of w ≡ Some n → IsGapWord w gap
  counted n None is e read = absurd (none_is gap e)
  counted n (Some m) is e read =
      let k = kind m (nat_le m (most * 10 ^ MAX_DECIMALS)) refl e in
      record { number = n; form = read; value = whole_times (top n) (bottom n) m is ∙ ap (λ j. j * bottom n) k.0; limit = k.1 }

  gap_means : gap_of w ≡ Some gap → IsGapWord w gap
  gap_means e = by (number_of w) refl e
    where
      by : (o : Option Number) → number_of w ≡ o → within_gap (decimal_of o) ≡ Some gap → IsGapWord w gap
      by None is e = absurd (none_is gap e)
      by (Some n) is e = counted n (units_of MAX_DECIMALS n) refl e is

  gap_reads : IsGapWord w gap → gap_of w ≡ Some gap
  gap_reads is =
      let count : units_of MAX_DECIMALS is.number ≡ Some gap = ap (λ k. quotient k (bottom is.number)) is.value ∙ quotient_whole gap (bottom is.number) (pow-ten (places is.number)) in
      let limit : gap ≤ MAX_GAP = is.limit in
      let small : nat_le gap (most * 10 ^ MAX_DECIMALS) ≡ true = le-leb gap (most * 10 ^ MAX_DECIMALS) (omega arith) in
      let fits : nat_le gap MAX_GAP ≡ true = le-leb gap MAX_GAP limit in
      ap (λ o. within_gap (decimal_of o)) is.form ∙ ap (λ o. within_gap (Some (decimal_from o))) count
      ∙ ap (λ b. within_gap (Some (cond b (Millionths gap) Huge))) small ∙ ap (λ b. cond b (Some gap) None) fits

pub gaps_agree : Agrees gap_of IsGapWord
gaps_agree = record { means = gap_means; reads = gap_reads }
