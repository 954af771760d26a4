-- Tokens one after the other: where they are refused, a script began before, and none goes on so.
use Rattle.std.proofs.Common.{◌≡◌, ◌⊎◌, ℕ, ◌+◌, ◌-◌, ◌^◌, ◌≤◌, List, [], ◌∷◌, ◌++◌, length, refl, sym, ap, subst, ◌∙◌, arith, Ok, Err, Result, Some, None, Option, Bool, true, false, cond, inl, inr, append_assoc, get_or, set, All, zero-mul}
use Rattle.std.specs.Prelude.{codes, nat_lt, nat_le, if◌then◌else◌}
use Rattle.std.specs.Str.{bytes_eq}
use Rattle.std.proofs.lemmas.Bool.{cases_lt}
use Rattle.std.proofs.lemmas.Bool.Decides.{nat_tests}
use Rattle.std.proofs.lemmas.List.{get_or_past}
use Rattle.std.proofs.lemmas.List.Elements.{All-set}
use Rattle.mcf_limits.specs.declared.TheConstants.{MAX_UNITS, MAX_WORD_BYTES}
use Rattle.sndlib_grammar.specs.Tokens.{Lexeme}
use Rattle.sndlib_grammar.specs.declared.token.TokenKind.{TokenKind}
use Rattle.sndlib_grammar.specs.declared.token.TokenKind.TheVariants.{LeftParen, RightParen, Word}
use Rattle.sndlib_grammar.specs.Number.{Number as Numeral, number_of}
use Rattle.unit_scale.specs.declared.decimal.UnitFault.{UnitFault}
use Rattle.unit_scale.specs.declared.decimal.UnitFault.TheVariants as faults
use Rattle.unit_scale.specs.Units.{units_read, units_from, units_of, quotient}
use Rattle.script.specs.declared.refusal.ScriptKind.{ScriptKind}
use Rattle.script.specs.declared.refusal.ScriptKind.TheVariants.{TooLarge, BelowZero, Syntax}
use Rattle.script.specs.declared.refusal.ScriptRefusal.{ScriptRefusal}
use Rattle.script.specs.declared.step.Step.{Step}
use Rattle.script.specs.declared.step.Step.TheVariants.{Edit, Show}
use Rattle.script.specs.declared.word.Change.{Change}
use Rattle.script.specs.declared.word.Change.TheVariants.{Set, Add, Sub}
use Rattle.script.specs.declared.word.Expected.{Expected}
use Rattle.script.specs.declared.word.Expected.TheVariants.{Command, Link, Closing, Number}
use Rattle.script.specs.declared.word.Meaning.{Meaning}
use Rattle.script.specs.declared.word.Meaning.TheVariants.{Expects, Edits, Shows}
use Rattle.script.specs.Reading.{Terms, Sofar, scan, after, by_kind, command, meaning, token_meaning, linked, link_of, number, edits, changed, go_on, refused, finished}
use Rattle.script.proofs.Spelled.{state, commands_read}
use Rattle.script.proofs.Found.{read_commands}
use Rattle.cli_laws.specs.Scripts.{IsScript, CanGoOn, IsStoppedAt}

not_long : (a b : ℕ) → b ≤ a → nat_lt a b ≡ false
not_long a b h = grind (arith, nat_tests)

at_most : (a b : ℕ) → a ≤ b → nat_le a b ≡ true
at_most a b h = grind (arith, nat_tests)

-- ---- what can stand next

abbrev word : List ℕ → Lexeme
word text = record { kind = Word; text = text; line = 0; at = 0 }

abbrev IsRead : Terms → ℕ → Sofar → List Lexeme → Type 0
IsRead terms end s tokens = (steps : List Step) × (scan terms end s tokens ≡ Ok steps)

word_means : (terms : Terms) (s : Sofar) (text : List ℕ) (m : Meaning) → length text ≤ MAX_WORD_BYTES → meaning terms s.caps s.expected text ≡ Ok m → token_meaning terms s (word text) ≡ Ok m
word_means terms s text m short is = ap (λ (b : Bool). if b then Err Syntax else meaning terms s.caps s.expected text) (not_long MAX_WORD_BYTES (length text) short) ∙ is

one_more : (terms : Terms) (end : ℕ) (s : Sofar) (t : Lexeme) (ts : List Lexeme) (m : Meaning) → token_meaning terms s t ≡ Ok m → scan terms end s (t ∷ ts) ≡ scan terms end (after s m) ts
one_more terms end s t ts m is = ap (go_on t.line (λ x. scan terms end (after s x) ts)) is

-- the number 0 is read, whatever the decimals are
zero_read : (decimals : ℕ) → units_read decimals (number_of (codes "0")) ≡ Ok 0
zero_read decimals = ap (λ (k : ℕ). units_from (quotient k 1)) (zero-mul (10 ^ (0 + decimals)))

cap_small : (caps : List ℕ) (i : ℕ) → All (λ cap. cap ≤ MAX_UNITS) caps → get_or caps i 0 ≤ MAX_UNITS
cap_small caps i h = elim (cases_lt i (length caps)) as (λ _. get_or caps i 0 ≤ MAX_UNITS) [ inl lt ↦ h i 0 lt | inr ge ↦ rw get_or_past (omega arith) ]

-- every capacity can be changed by 0
zero_changes : (change : Change) (cap : ℕ) → cap ≤ MAX_UNITS → (new : ℕ) × (changed change cap 0 ≡ Ok new)
zero_changes Set cap small = (0, refl)
zero_changes Add cap small = (cap + 0, ap (λ (b : Bool). if b then Ok (cap + 0) else Err TooLarge) (at_most (cap + 0) MAX_UNITS (omega arith)))
zero_changes Sub cap small = (cap - 0, ap (λ (b : Bool). if b then Ok (cap - 0) else Err BelowZero) (at_most 0 cap (omega arith)))

-- a word that names a link
record IsNamed (terms : Terms) : Type 0 where
  id : List ℕ
  link : ℕ
  names : link_of terms id ≡ Some link
  short : length id ≤ MAX_WORD_BYTES

number_ends : (terms : Terms) (end : ℕ) (change : Change) (link : ℕ) (caps : List ℕ) (acc : List Step) → All (λ cap. cap ≤ MAX_UNITS) caps → IsRead terms end (state (Number change link) caps acc) (word (codes "0") ∷ [])
number_ends terms end change link caps acc limit =
    let s = state (Number change link) caps acc in
    let z = zero_changes change (get_or caps link 0) (cap_small caps link limit) in
    let is : meaning terms caps (Number change link) (codes "0") ≡ Ok (Edits link z.0) = ap (number change link (get_or caps link 0)) (zero_read terms.decimals) ∙ ap (edits link) z.1 in
    (acc ++ Edit link z.0 ∷ [], one_more terms end s (word (codes "0")) [] (Edits link z.0) (word_means terms s (codes "0") (Edits link z.0) (omega arith) is))

-- what has begun can end
ends : (terms : Terms) (end : ℕ) (e : Expected) (caps : List ℕ) (acc : List Step) → IsNamed terms → All (λ cap. cap ≤ MAX_UNITS) caps → (more : List Lexeme) × IsRead terms end (state e caps acc) more
ends terms end Command caps acc named limit = ([], (acc, refl))
ends terms end (Number change link) caps acc named limit = (word (codes "0") ∷ [], number_ends terms end change link caps acc limit)
ends terms end (Link change) caps acc named limit =
    let s = state (Link change) caps acc in
    let m = Expects (Number change named.link) in
    let last = number_ends terms end change named.link caps acc limit in
    let first = one_more terms end s (word named.id) (word (codes "0") ∷ []) m (word_means terms s named.id m named.short (ap (linked (λ c. Expects (Number change c))) named.names)) in
    (word named.id ∷ word (codes "0") ∷ [], (last.0, first ∙ last.1))
ends terms end Closing caps acc named limit =
    let s = state Closing caps acc in
    let m = Edits named.link 0 in
    (word named.id ∷ [], (acc ++ Edit named.link 0 ∷ [], one_more terms end s (word named.id) [] m (word_means terms s named.id m named.short (ap (linked (λ c. Edits c 0)) named.names))))

-- ---- capacities stay within the limit

abbrev IsSmall : Result Meaning ScriptKind → Type 0
IsSmall (Ok (Edits link cap)) = cap ≤ MAX_UNITS
IsSmall (Ok (Expects e)) = Unit {0}
IsSmall (Ok Shows) = Unit {0}
IsSmall (Err kind) = Unit {0}

if_small : (b : Bool) (x y : Result Meaning ScriptKind) → IsSmall x → IsSmall y → IsSmall (if b then x else y)
if_small true x y h k = h
if_small false x y h k = k

command_small : (w : List ℕ) → IsSmall (command w)
command_small w =
    let from_show = if_small (bytes_eq w (codes "show")) (Ok Shows) (Err Syntax) tt tt in
    let from_close = if_small (bytes_eq w (codes "close")) (Ok (Expects Closing)) (if bytes_eq w (codes "show") then Ok Shows else Err Syntax) tt from_show in
    let from_sub = if_small (bytes_eq w (codes "sub")) (Ok (Expects (Link Sub))) (if bytes_eq w (codes "close") then Ok (Expects Closing) else (if bytes_eq w (codes "show") then Ok Shows else Err Syntax)) tt from_close in
    let from_add = if_small (bytes_eq w (codes "add")) (Ok (Expects (Link Add))) (if bytes_eq w (codes "sub") then Ok (Expects (Link Sub)) else (if bytes_eq w (codes "close") then Ok (Expects Closing) else (if bytes_eq w (codes "show") then Ok Shows else Err Syntax))) tt from_sub in
    if_small (bytes_eq w (codes "set")) (Ok (Expects (Link Set))) (if bytes_eq w (codes "add") then Ok (Expects (Link Add)) else (if bytes_eq w (codes "sub") then Ok (Expects (Link Sub)) else (if bytes_eq w (codes "close") then Ok (Expects Closing) else (if bytes_eq w (codes "show") then Ok Shows else Err Syntax)))) tt from_add

linked_small : (f : ℕ → Meaning) (o : Option ℕ) → ((link : ℕ) → IsSmall (Ok (f link))) → IsSmall (linked f o)
linked_small f None h = tt
linked_small f (Some link) h = h link

units_small : (o : Option ℕ) (n : ℕ) → units_from o ≡ Ok n → n ≤ MAX_UNITS
units_small None n e = absurd cc
units_small (Some m) n e = by (nat_le m MAX_UNITS) refl e
  where
    le_of : (x y : ℕ) → nat_le x y ≡ true → x ≤ y
    le_of x y h = grind (arith, nat_tests)

    by : (b : Bool) → nat_le m MAX_UNITS ≡ b → cond b (Ok m) (Err faults.TooLarge) ≡ Ok n → n ≤ MAX_UNITS
    by true h k = let same : m ≡ n = cc in subst (λ (x : ℕ). x ≤ MAX_UNITS) same (le_of m MAX_UNITS h)
    by false h k = absurd cc

read_small : (decimals : ℕ) (o : Option Numeral) (n : ℕ) → units_read decimals o ≡ Ok n → n ≤ MAX_UNITS
read_small decimals None n e = absurd cc
read_small decimals (Some x) n e = units_small (units_of decimals x) n e

changed_small : (change : Change) (link cap n : ℕ) → cap ≤ MAX_UNITS → n ≤ MAX_UNITS → IsSmall (edits link (changed change cap n))
changed_small Set link cap n small le = le
changed_small Add link cap n small le = by (nat_le (cap + n) MAX_UNITS) refl
  where
    le_of : (x y : ℕ) → nat_le x y ≡ true → x ≤ y
    le_of x y h = grind (arith, nat_tests)

    by : (b : Bool) → nat_le (cap + n) MAX_UNITS ≡ b → IsSmall (edits link (cond b (Ok (cap + n)) (Err TooLarge)))
    by true h = le_of (cap + n) MAX_UNITS h
    by false h = tt
changed_small Sub link cap n small le = by (nat_le n cap)
  where
    by : (b : Bool) → IsSmall (edits link (cond b (Ok (cap - n)) (Err BelowZero)))
    by true = omega arith
    by false = tt

number_small : (change : Change) (link cap : ℕ) (r : Result ℕ UnitFault) → cap ≤ MAX_UNITS → ((n : ℕ) → r ≡ Ok n → n ≤ MAX_UNITS) → IsSmall (number change link cap r)
number_small change link cap (Ok n) small h = changed_small change link cap n small (h n refl)
number_small change link cap (Err faults.NotNumber) small h = tt
number_small change link cap (Err faults.TooFine) small h = tt
number_small change link cap (Err faults.TooLarge) small h = tt

meaning_small : (terms : Terms) (caps : List ℕ) (e : Expected) (w : List ℕ) → All (λ cap. cap ≤ MAX_UNITS) caps → IsSmall (meaning terms caps e w)
meaning_small terms caps Command w limit = command_small w
meaning_small terms caps (Link change) w limit = linked_small (λ link. Expects (Number change link)) (link_of terms w) (λ link. tt)
meaning_small terms caps Closing w limit = linked_small (λ link. Edits link 0) (link_of terms w) (λ link. omega arith)
meaning_small terms caps (Number change link) w limit = number_small change link (get_or caps link 0) (units_read terms.decimals (number_of w)) (cap_small caps link limit) (λ n e. read_small terms.decimals (number_of w) n e)

kind_small : (terms : Terms) (s : Sofar) (w : List ℕ) (kind : TokenKind) → All (λ cap. cap ≤ MAX_UNITS) s.caps → IsSmall (by_kind terms s w kind)
kind_small terms s w LeftParen limit = tt
kind_small terms s w RightParen limit = tt
kind_small terms s w Word limit = meaning_small terms s.caps s.expected w limit

token_small : (terms : Terms) (s : Sofar) (t : Lexeme) → All (λ cap. cap ≤ MAX_UNITS) s.caps → IsSmall (token_meaning terms s t)
token_small terms s t limit = if_small (nat_lt MAX_WORD_BYTES (length t.text)) (Err Syntax) (by_kind terms s t.text t.kind) tt (kind_small terms s t.text t.kind limit)

-- ---- all tokens

-- the token that is refused: what stands before it can end as a script, and with it nothing can
record IsBad (terms : Terms) (end : ℕ) (s : Sofar) (tokens : List Lexeme) (r : ScriptRefusal) : Type 0 where
  before : List Lexeme
  at : Lexeme
  after : List Lexeme
  parts : tokens ≡ before ++ at ∷ after
  begun : (more : List Lexeme) × IsRead terms end s (before ++ more)
  refused : (more : List Lexeme) → scan terms end s (before ++ at ∷ more) ≡ Err r
  line : r.line ≡ at.line

record IsCut (terms : Terms) (end : ℕ) (s : Sofar) (tokens : List Lexeme) (r : ScriptRefusal) : Type 0 where
  begun : (more : List Lexeme) × IsRead terms end s (tokens ++ more)
  line : r.line ≡ end

abbrev Stops : Terms → ℕ → Sofar → List Lexeme → ScriptRefusal → Type 0
Stops terms end s tokens r = IsBad terms end s tokens r ⊎ IsCut terms end s tokens r

line_is : (kind : ScriptKind) (line : ℕ) (r : ScriptRefusal) → refused kind line ≡ Err r → r.line ≡ line
line_is kind line r e = let same : record { line = line; kind = kind } ≡ r = cc in ap (λ (x : ScriptRefusal). x.line) (sym same)

-- one token before
stops_behind : (terms : Terms) (end : ℕ) (s next : Sofar) (t : Lexeme) (ts : List Lexeme) (r : ScriptRefusal) → ((more : List Lexeme) → scan terms end s (t ∷ more) ≡ scan terms end next more) → Stops terms end next ts r → Stops terms end s (t ∷ ts) r
stops_behind terms end s next t ts r same (inl h) = inl (record {
  before = t ∷ h.before;
  at = h.at;
  after = h.after;
  parts = ap (λ (l : List Lexeme). t ∷ l) h.parts;
  begun = (h.begun.0, (h.begun.1.0, same (h.before ++ h.begun.0) ∙ h.begun.1.1));
  refused = λ more. same (h.before ++ h.at ∷ more) ∙ h.refused more;
  line = h.line;
})
stops_behind terms end s next t ts r same (inr h) = inr (record { begun = (h.begun.0, (h.begun.1.0, same (ts ++ h.begun.0) ∙ h.begun.1.1)); line = h.line })

at_end : (terms : Terms) (end : ℕ) (e : Expected) (caps : List ℕ) (acc : List Step) (r : ScriptRefusal) → IsNamed terms → All (λ cap. cap ≤ MAX_UNITS) caps → finished end (state e caps acc) e ≡ Err r → IsCut terms end (state e caps acc) [] r
at_end terms end Command caps acc r named limit h = absurd cc
at_end terms end (Link change) caps acc r named limit h = record { begun = ends terms end (Link change) caps acc named limit; line = line_is Syntax end r h }
at_end terms end Closing caps acc r named limit h = record { begun = ends terms end Closing caps acc named limit; line = line_is Syntax end r h }
at_end terms end (Number change link) caps acc r named limit h = record { begun = ends terms end (Number change link) caps acc named limit; line = line_is Syntax end r h }

stops : (terms : Terms) (end : ℕ) (tokens : List Lexeme) (e : Expected) (caps : List ℕ) (acc : List Step) (r : ScriptRefusal) → IsNamed terms → All (λ cap. cap ≤ MAX_UNITS) caps → scan terms end (state e caps acc) tokens ≡ Err r → Stops terms end (state e caps acc) tokens r
stops terms end [] e caps acc r named limit h = inr (at_end terms end e caps acc r named limit h)
stops terms end (t ∷ ts) e caps acc r named limit h =
    by (λ f all l k. stops terms end ts f all l r named k) (token_meaning terms (state e caps acc) t) refl (token_small terms (state e caps acc) t limit) h
  where
    s : Sofar
    s = state e caps acc

    by : ((f : Expected) (all : List ℕ) (l : List Step) → All (λ cap. cap ≤ MAX_UNITS) all → scan terms end (state f all l) ts ≡ Err r → Stops terms end (state f all l) ts r) → (m : Result Meaning ScriptKind) → token_meaning terms s t ≡ m → IsSmall m
        → go_on t.line (λ x. scan terms end (after s x) ts) m ≡ Err r → Stops terms end s (t ∷ ts) r
    by more (Err kind) is small k = inl (record {
      before = [];
      at = t;
      after = ts;
      parts = refl;
      begun = ends terms end e caps acc named limit;
      refused = λ others. ap (go_on t.line (λ x. scan terms end (after s x) others)) is ∙ k;
      line = line_is kind t.line r k;
    })
    by more (Ok (Expects f)) is small k = stops_behind terms end s (state f caps acc) t ts r (λ others. one_more terms end s t others (Expects f) is) (more f caps acc limit k)
    by more (Ok (Edits link cap)) is small k =
        stops_behind terms end s (state Command (set caps link cap) (acc ++ Edit link cap ∷ [])) t ts r (λ others. one_more terms end s t others (Edits link cap) is)
        (more Command (set caps link cap) (acc ++ Edit link cap ∷ []) (All-set (λ n. n ≤ MAX_UNITS) caps link cap small limit) k)
    by more (Ok Shows) is small k = stops_behind terms end s (state Command caps (acc ++ Show ∷ [])) t ts r (λ others. one_more terms end s t others Shows is) (more Command caps (acc ++ Show ∷ []) limit k)

-- ---- as scripts

pub stopped : (terms : Terms) (end : ℕ) (caps : List ℕ) (tokens : List Lexeme) (r : ScriptRefusal) → CanGoOn terms caps → scan terms end (state Command caps []) tokens ≡ Err r → IsStoppedAt terms caps tokens end r.line
stopped terms end caps tokens r can h = by (stops terms end tokens Command caps [] r (record { id = can.id; link = can.link; names = can.names; short = can.short }) can.limit h)
  where
    s : Sofar
    s = state Command caps []

    script : (ts : List Lexeme) → IsRead terms end s ts → IsScript terms caps ts
    script ts (steps, is) = (steps, read_commands terms end caps ts steps is)

    is_none : (ts : List Lexeme) → scan terms end s ts ≡ Err r → IsScript terms caps ts → ⊥
    is_none ts e (steps, are) = let k : Err r ≡ Ok steps = sym e ∙ commands_read terms end caps ts steps are in absurd cc

    by : Stops terms end s tokens r → IsStoppedAt terms caps tokens end r.line
    by (inl b) = inl (record {
      before = b.before;
      at = b.at;
      after = b.after;
      parts = b.parts;
      begun = (b.begun.0, script (b.before ++ b.begun.0) b.begun.1);
      refused = λ (more, k). is_none (b.before ++ b.at ∷ more) (b.refused more) (subst (IsScript terms caps) (append_assoc b.before (b.at ∷ []) more) k);
      line = b.line;
    })
    by (inr c) = inr (record { begun = (c.begun.0, script (tokens ++ c.begun.0) c.begun.1); none = is_none tokens h; line = c.line })
