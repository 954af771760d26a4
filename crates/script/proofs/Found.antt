-- What is read is commands.
use Rattle.std.proofs.Common.{◌≡◌, ◌⊎◌, ℕ, ◌≤◌, List, [], ◌∷◌, ◌++◌, length, refl, sym, subst, ◌∙◌, arith, Ok, Err, Result, Some, None, Option, Bool, true, false, inl, inr, append_assoc, append-nil, get_or, set}
use Rattle.std.specs.Prelude.{codes, nat_lt, if◌then◌else◌}
use Rattle.std.specs.Str.{bytes_eq}
use Rattle.std.proofs.lemmas.Bool.Decides.{nat_tests}
use Rattle.std.proofs.lemmas.Slice.Eq.{bytes_eq-Decides}
use Rattle.mcf_limits.specs.declared.TheConstants.{MAX_WORD_BYTES}
use Rattle.sndlib_grammar.specs.Tokens.{Lexeme}
use Rattle.sndlib_grammar.specs.declared.token.TokenKind.{TokenKind}
use Rattle.sndlib_grammar.specs.declared.token.TokenKind.TheVariants.{LeftParen, RightParen, Word}
use Rattle.sndlib_grammar.specs.Number.{number_of}
use Rattle.unit_scale.specs.declared.decimal.UnitFault.{UnitFault}
use Rattle.unit_scale.specs.declared.decimal.UnitFault.TheVariants as faults
use Rattle.unit_scale.specs.Units.{units_read}
use Rattle.script.specs.declared.refusal.ScriptKind.{ScriptKind}
use Rattle.script.specs.declared.refusal.ScriptKind.TheVariants.{Syntax}
use Rattle.script.specs.declared.step.Step.{Step}
use Rattle.script.specs.declared.step.Step.TheVariants.{Edit, Show}
use Rattle.script.specs.declared.word.Change.{Change}
use Rattle.script.specs.declared.word.Change.TheVariants.{Set, Add, Sub}
use Rattle.script.specs.declared.word.Expected.{Expected}
use Rattle.script.specs.declared.word.Expected.TheVariants.{Command, Link, Closing, Number}
use Rattle.script.specs.declared.word.Meaning.{Meaning}
use Rattle.script.specs.declared.word.Meaning.TheVariants.{Expects, Edits, Shows}
use Rattle.script.specs.Reading.{Terms, Sofar, scan, after, by_kind, meaning, command, link_of, linked, number, edits, changed, go_on}
use Rattle.script.specs.Commands.{IsWord, AreCommands, change_word}
use Rattle.script.proofs.Spelled.{state}

-- ---- what a word with a meaning is

abbrev fine : {A E : Type 0} → A → Result A E
fine x = Ok x

ok_is : {A E : Type 0} (x y : A) → fine {A = A} {E = E} x ≡ Ok y → x ≡ y
ok_is x y e = cc

if_ok : (b : Bool) (x y : Result Meaning ScriptKind) (m : Meaning) → (if b then x else y) ≡ Ok m → ((b ≡ true) × (x ≡ Ok m)) ⊎ (y ≡ Ok m)
if_ok true x y m e = inl (refl, e)
if_ok false x y m e = inr e

abbrev VerbIs : List ℕ → Meaning → Type 0
VerbIs w m = ((change : Change) × (w ≡ change_word change) × (Expects (Link change) ≡ m)) ⊎ (((w ≡ codes "close") × (Expects Closing ≡ m)) ⊎ ((w ≡ codes "show") × (Shows ≡ m)))

same_word : (w v : List ℕ) → bytes_eq w v ≡ true → w ≡ v
same_word w v e = (bytes_eq-Decides w v).0 e

abbrev from_show : List ℕ → Result Meaning ScriptKind
from_show w = if bytes_eq w (codes "show") then Ok Shows else Err Syntax

abbrev from_close : List ℕ → Result Meaning ScriptKind
from_close w = if bytes_eq w (codes "close") then Ok (Expects Closing) else from_show w

abbrev from_sub : List ℕ → Result Meaning ScriptKind
from_sub w = if bytes_eq w (codes "sub") then Ok (Expects (Link Sub)) else from_close w

abbrev from_add : List ℕ → Result Meaning ScriptKind
from_add w = if bytes_eq w (codes "add") then Ok (Expects (Link Add)) else from_sub w

show_is : (w : List ℕ) (m : Meaning) → from_show w ≡ Ok m → VerbIs w m
show_is w m e = elim (if_ok (bytes_eq w (codes "show")) (Ok Shows) (Err Syntax) m e) as (λ _. VerbIs w m) [
  | inl h ↦ inr (inr (same_word w (codes "show") h.0, ok_is Shows m h.1))
  | inr h ↦ absurd cc
]

close_is : (w : List ℕ) (m : Meaning) → from_close w ≡ Ok m → VerbIs w m
close_is w m e = elim (if_ok (bytes_eq w (codes "close")) (Ok (Expects Closing)) (from_show w) m e) as (λ _. VerbIs w m) [
  | inl h ↦ inr (inl (same_word w (codes "close") h.0, ok_is (Expects Closing) m h.1))
  | inr h ↦ show_is w m h
]

sub_is : (w : List ℕ) (m : Meaning) → from_sub w ≡ Ok m → VerbIs w m
sub_is w m e = elim (if_ok (bytes_eq w (codes "sub")) (Ok (Expects (Link Sub))) (from_close w) m e) as (λ _. VerbIs w m) [
  | inl h ↦ inl (Sub, same_word w (codes "sub") h.0, ok_is (Expects (Link Sub)) m h.1)
  | inr h ↦ close_is w m h
]

add_is : (w : List ℕ) (m : Meaning) → from_add w ≡ Ok m → VerbIs w m
add_is w m e = elim (if_ok (bytes_eq w (codes "add")) (Ok (Expects (Link Add))) (from_sub w) m e) as (λ _. VerbIs w m) [
  | inl h ↦ inl (Add, same_word w (codes "add") h.0, ok_is (Expects (Link Add)) m h.1)
  | inr h ↦ sub_is w m h
]

verb_is : (w : List ℕ) (m : Meaning) → command w ≡ Ok m → VerbIs w m
verb_is w m e = elim (if_ok (bytes_eq w (codes "set")) (Ok (Expects (Link Set))) (from_add w) m e) as (λ _. VerbIs w m) [
  | inl h ↦ inl (Set, same_word w (codes "set") h.0, ok_is (Expects (Link Set)) m h.1)
  | inr h ↦ add_is w m h
]

linked_is : (f : ℕ → Meaning) (o : Option ℕ) (m : Meaning) → linked f o ≡ Ok m → (link : ℕ) × (o ≡ Some link) × (f link ≡ m)
linked_is f None m e = absurd cc
linked_is f (Some link) m e = (link, refl, ok_is (f link) m e)

edits_is : (link : ℕ) (r : Result ℕ ScriptKind) (m : Meaning) → edits link r ≡ Ok m → (cap : ℕ) × (r ≡ Ok cap) × (Edits link cap ≡ m)
edits_is link (Ok cap) m e = (cap, refl, ok_is (Edits link cap) m e)
edits_is link (Err kind) m e = absurd cc

number_is : (change : Change) (link cap : ℕ) (r : Result ℕ UnitFault) (m : Meaning) → number change link cap r ≡ Ok m → (n : ℕ) × (r ≡ Ok n) × (new : ℕ) × (changed change cap n ≡ Ok new) × (Edits link new ≡ m)
number_is change link cap (Ok n) m e = let h = edits_is link (changed change cap n) m e in (n, refl, h.0, h.1, h.2)
number_is change link cap (Err faults.NotNumber) m e = absurd cc
number_is change link cap (Err faults.TooFine) m e = absurd cc
number_is change link cap (Err faults.TooLarge) m e = absurd cc

-- ---- a token that is not refused

record Goes (terms : Terms) (end : ℕ) (s : Sofar) (t : Lexeme) (ts : List Lexeme) (r : List Step) : Type 0 where
  word : IsWord t
  m : Meaning
  means : meaning terms s.caps s.expected t.text ≡ Ok m
  rest : scan terms end (after s m) ts ≡ Ok r

short_from : (a b : ℕ) → nat_lt a b ≡ false → b ≤ a
short_from a b e = grind (arith, nat_tests)

goes : (terms : Terms) (end : ℕ) (s : Sofar) (t : Lexeme) (ts : List Lexeme) (r : List Step) → scan terms end s (t ∷ ts) ≡ Ok r → Goes terms end s t ts r
goes terms end s t ts r e = by_length (nat_lt MAX_WORD_BYTES (length t.text)) refl e
  where
    by_meaning : length t.text ≤ MAX_WORD_BYTES → t.kind ≡ Word → (x : Result Meaning ScriptKind) → meaning terms s.caps s.expected t.text ≡ x → go_on t.line (λ m. scan terms end (after s m) ts) x ≡ Ok r → Goes terms end s t ts r
    by_meaning short kind (Ok m) is e = record { word = record { kind = kind; short = short }; m = m; means = is; rest = e }
    by_meaning short kind (Err k) is e = absurd cc

    by_word : length t.text ≤ MAX_WORD_BYTES → (k : TokenKind) → t.kind ≡ k → go_on t.line (λ m. scan terms end (after s m) ts) (by_kind terms s t.text k) ≡ Ok r → Goes terms end s t ts r
    by_word short LeftParen is e = absurd cc
    by_word short RightParen is e = absurd cc
    by_word short Word is e = by_meaning short is (meaning terms s.caps s.expected t.text) refl e

    by_length : (b : Bool) → nat_lt MAX_WORD_BYTES (length t.text) ≡ b → go_on t.line (λ m. scan terms end (after s m) ts) (if b then Err Syntax else by_kind terms s t.text t.kind) ≡ Ok r → Goes terms end s t ts r
    by_length true is e = absurd cc
    by_length false is e = by_word (short_from MAX_WORD_BYTES (length t.text) is) t.kind refl e

-- ---- the whole

-- these tokens go on, behind the words of a command that has begun, as commands that do these steps
abbrev Continues : Terms → List ℕ → Expected → List Lexeme → List Step → Type 0
Continues terms caps Command tokens steps = AreCommands terms caps tokens steps
Continues terms caps (Link change) tokens steps = (verb : Lexeme) → IsWord verb → verb.text ≡ change_word change → AreCommands terms caps (verb ∷ tokens) steps
Continues terms caps Closing tokens steps = (verb : Lexeme) → IsWord verb → verb.text ≡ codes "close" → AreCommands terms caps (verb ∷ tokens) steps
Continues terms caps (Number change link) tokens steps = (verb id : Lexeme) → IsWord verb → verb.text ≡ change_word change → IsWord id → link_of terms id.text ≡ Some link → AreCommands terms caps (verb ∷ id ∷ tokens) steps

record Found (terms : Terms) (caps : List ℕ) (acc : List Step) (e : Expected) (tokens : List Lexeme) (r : List Step) : Type 0 where
  steps : List Step
  whole : r ≡ acc ++ steps
  continues : Continues terms caps e tokens steps

abbrev Finds : Terms → ℕ → List Lexeme → Type 0
Finds terms end tokens = (e : Expected) (caps : List ℕ) (acc r : List Step) → scan terms end (state e caps acc) tokens ≡ Ok r → Found terms caps acc e tokens r

at_end : (terms : Terms) (end : ℕ) → Finds terms end []
at_end terms end Command caps acc r e = record { steps = []; whole = sym (ok_is acc r e) ∙ sym (append-nil acc); continues = refl }
at_end terms end (Link change) caps acc r e = absurd cc
at_end terms end Closing caps acc r e = absurd cc
at_end terms end (Number change link) caps acc r e = absurd cc

-- an edit or a `show` in front
in_front : (acc steps r : List Step) (x : Step) → r ≡ (acc ++ x ∷ []) ++ steps → r ≡ acc ++ x ∷ steps
in_front acc steps r x e = e ∙ append_assoc acc (x ∷ []) steps

on_command : (terms : Terms) (end : ℕ) (t : Lexeme) (ts : List Lexeme) (caps : List ℕ) (acc r : List Step) → Finds terms end ts → Goes terms end (state Command caps acc) t ts r → Found terms caps acc Command (t ∷ ts) r
on_command terms end t ts caps acc r ih g = elim (verb_is t.text g.m g.means) as (λ _. Found terms caps acc Command (t ∷ ts) r) [
  | inl (change, is, m) ↦
      let f = ih (Link change) caps acc r (subst (λ (x : Meaning). scan terms end (after (state Command caps acc) x) ts ≡ Ok r) (sym m) g.rest) in
      record { steps = f.steps; whole = f.whole; continues = f.continues t g.word is }
  | inr (inl (is, m)) ↦
      let f = ih Closing caps acc r (subst (λ (x : Meaning). scan terms end (after (state Command caps acc) x) ts ≡ Ok r) (sym m) g.rest) in
      record { steps = f.steps; whole = f.whole; continues = f.continues t g.word is }
  | inr (inr (is, m)) ↦
      let f = ih Command caps (acc ++ Show ∷ []) r (subst (λ (x : Meaning). scan terms end (after (state Command caps acc) x) ts ≡ Ok r) (sym m) g.rest) in
      record { steps = Show ∷ f.steps; whole = in_front acc f.steps r Show f.whole; continues = (ts, record { verb = t; spelled = refl; word = g.word; shows = is }, f.continues) }
]

on_link : (terms : Terms) (end : ℕ) (change : Change) (t : Lexeme) (ts : List Lexeme) (caps : List ℕ) (acc r : List Step) → Finds terms end ts → Goes terms end (state (Link change) caps acc) t ts r → Found terms caps acc (Link change) (t ∷ ts) r
on_link terms end change t ts caps acc r ih g =
    let l = linked_is (λ c. Expects (Number change c)) (link_of terms t.text) g.m g.means in
    let f = ih (Number change l.0) caps acc r (subst (λ (x : Meaning). scan terms end (after (state (Link change) caps acc) x) ts ≡ Ok r) (sym l.2) g.rest) in
    record { steps = f.steps; whole = f.whole; continues = λ verb w is. f.continues verb t w is g.word l.1 }

on_closing : (terms : Terms) (end : ℕ) (t : Lexeme) (ts : List Lexeme) (caps : List ℕ) (acc r : List Step) → Finds terms end ts → Goes terms end (state Closing caps acc) t ts r → Found terms caps acc Closing (t ∷ ts) r
on_closing terms end t ts caps acc r ih g =
    let l = linked_is (λ c. Edits c 0) (link_of terms t.text) g.m g.means in
    let f = ih Command (set caps l.0 0) (acc ++ Edit l.0 0 ∷ []) r (subst (λ (x : Meaning). scan terms end (after (state Closing caps acc) x) ts ≡ Ok r) (sym l.2) g.rest) in
    record {
      steps = Edit l.0 0 ∷ f.steps;
      whole = in_front acc f.steps r (Edit l.0 0) f.whole;
      continues = λ verb w is. (ts, inl (record { verb = verb; id = t; spelled = refl; word = w; closes = is; id_word = g.word; names = l.1 }, refl), f.continues);
    }

on_number : (terms : Terms) (end : ℕ) (change : Change) (link : ℕ) (t : Lexeme) (ts : List Lexeme) (caps : List ℕ) (acc r : List Step) → Finds terms end ts → Goes terms end (state (Number change link) caps acc) t ts r → Found terms caps acc (Number change link) (t ∷ ts) r
on_number terms end change link t ts caps acc r ih g =
    let l = number_is change link (get_or caps link 0) (units_read terms.decimals (number_of t.text)) g.m g.means in
    let f = ih Command (set caps link l.2) (acc ++ Edit link l.2 ∷ []) r (subst (λ (x : Meaning). scan terms end (after (state (Number change link) caps acc) x) ts ≡ Ok r) (sym l.4) g.rest) in
    record {
      steps = Edit link l.2 ∷ f.steps;
      whole = in_front acc f.steps r (Edit link l.2) f.whole;
      continues = λ verb id w is iw names. (ts, inr (change, record { verb = verb; id = id; number = t; spelled = refl; word = w; changes = is; id_word = iw; names = names; number_word = g.word; count = l.0; reads = l.1; gives = l.3 }), f.continues);
    }

finds : (terms : Terms) (end : ℕ) (tokens : List Lexeme) → Finds terms end tokens
finds terms end [] e caps acc r h = at_end terms end e caps acc r h
finds terms end (t ∷ ts) Command caps acc r h = on_command terms end t ts caps acc r (finds terms end ts) (goes terms end (state Command caps acc) t ts r h)
finds terms end (t ∷ ts) (Link change) caps acc r h = on_link terms end change t ts caps acc r (finds terms end ts) (goes terms end (state (Link change) caps acc) t ts r h)
finds terms end (t ∷ ts) Closing caps acc r h = on_closing terms end t ts caps acc r (finds terms end ts) (goes terms end (state Closing caps acc) t ts r h)
finds terms end (t ∷ ts) (Number change link) caps acc r h = on_number terms end change link t ts caps acc r (finds terms end ts) (goes terms end (state (Number change link) caps acc) t ts r h)

pub read_commands : (terms : Terms) (end : ℕ) (caps : List ℕ) (tokens : List Lexeme) (steps : List Step) → scan terms end (state Command caps []) tokens ≡ Ok steps → AreCommands terms caps tokens steps
read_commands terms end caps tokens steps h =
    let f = finds terms end tokens Command caps [] steps h in
    subst (AreCommands terms caps tokens) (sym f.whole) f.continues
