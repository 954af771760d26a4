-- Where reading stands, as the grammar's laws have it; what is read of tokens is what the grammar says of them.
use Rattle.std.proofs.Common.{◌≡◌, ℕ, List, [], ◌∷◌, ◌++◌, length, refl, ap, sym, subst, ◌∙◌, arith, append_assoc, append-nil, Option, Some, None, Result, Ok, Err, Bool, true, false, inl, inr}
use Rattle.std.specs.Prelude.{nat_lt, option_and_then, if◌then◌else◌}
use Rattle.std.specs.Option.{option_map, option_map_or}
use Rattle.std.specs.List.{flat_map, AllByRecursion}
use Rattle.std.proofs.lemmas.List.{map-append}
use Rattle.std.proofs.lemmas.Bool.{ltb-false, ltb-true}
use Rattle.mcf_limits.specs.declared.TheConstants.{MAX_WORD_BYTES}
use Rattle.sndlib_grammar.specs.Tokens.{Lexeme}
use Rattle.sndlib_grammar.specs.declared.token.TokenKind.{TokenKind}
use Rattle.sndlib_grammar.specs.declared.token.TokenKind.TheVariants as kinds
use Rattle.sndlib_grammar.specs.Grammar.{Word, Symbol, Left, Right, Name, DemandEntry, demand, symbol}
use Rattle.sndlib_grammar.specs.Refusals.{symbols_of, IsShort}
use Rattle.matrix_batch.specs.Grammar.{MatrixEntry, matrix, spelled}
use Rattle.matrix_batch.specs.declared.list_refusal.ListKind.TheVariants.{Syntax}
use Rattle.matrix_batch.specs.declared.list_refusal.ListRefusal.{ListRefusal}
use Rattle.matrix_batch.specs.Refusals.{AreBegun, AreMatricesOf, IsSyntaxAt}
use Rattle.matrix_batch.proofs.Modes.{Mode as Place, walk, walk-append, list_walked, begun, not_begun}
use Rattle.matrix_batch.proofs.Modes as places
use Rattle.matrix_batch.specs.declared.mode.Mode.{Mode}
use Rattle.matrix_batch.specs.declared.mode.Mode.TheVariants.{Between, Opening, Inside, Ends, Source, Target, EndsClose, Unit as Units, Value, Longest}
use Rattle.matrix_batch.specs.Reading.{after, Sofar, kept, kept_by, word_of, scan, finished, refused, nothing_read}

abbrev place_of : Mode → Place
place_of Between = places.Between
place_of Opening = places.Opening
place_of Inside = places.Inside
place_of Ends = places.Ends
place_of Source = places.Source
place_of Target = places.Target
place_of EndsClose = places.EndsClose
place_of Units = places.Units
place_of Value = places.Value
place_of Longest = places.Longest

-- a token of that kind
abbrev symbol_by : TokenKind → Word → Symbol
symbol_by kinds.LeftParen w = Left
symbol_by kinds.RightParen w = Right
symbol_by kinds.Word w = Name w

symbol_is : (k : TokenKind) (t : Lexeme) → symbol (record t { kind = k }) ≡ symbol_by k (word_of t)
symbol_is kinds.LeftParen t = refl
symbol_is kinds.RightParen t = refl
symbol_is kinds.Word t = refl

after_same : (m : Mode) (k : TokenKind) (w : Word) → places.after (place_of m) (symbol_by k w) ≡ option_map place_of (after m k)
after_same Between kinds.LeftParen w = refl
after_same Between kinds.RightParen w = refl
after_same Between kinds.Word w = refl
after_same Opening kinds.LeftParen w = refl
after_same Opening kinds.RightParen w = refl
after_same Opening kinds.Word w = refl
after_same Inside kinds.LeftParen w = refl
after_same Inside kinds.RightParen w = refl
after_same Inside kinds.Word w = refl
after_same Ends kinds.LeftParen w = refl
after_same Ends kinds.RightParen w = refl
after_same Ends kinds.Word w = refl
after_same Source kinds.LeftParen w = refl
after_same Source kinds.RightParen w = refl
after_same Source kinds.Word w = refl
after_same Target kinds.LeftParen w = refl
after_same Target kinds.RightParen w = refl
after_same Target kinds.Word w = refl
after_same EndsClose kinds.LeftParen w = refl
after_same EndsClose kinds.RightParen w = refl
after_same EndsClose kinds.Word w = refl
after_same Units kinds.LeftParen w = refl
after_same Units kinds.RightParen w = refl
after_same Units kinds.Word w = refl
after_same Value kinds.LeftParen w = refl
after_same Value kinds.RightParen w = refl
after_same Value kinds.Word w = refl
after_same Longest kinds.LeftParen w = refl
after_same Longest kinds.RightParen w = refl
after_same Longest kinds.Word w = refl

-- ---- what was read is spelled so

-- the matrix that is open: its name, its demands, and the first words of another
abbrev front : Sofar → List Symbol
front s = Name s.name ∷ Left ∷ flat_map demand s.demands

abbrev opened : Mode → Sofar → List Symbol
opened Between s = []
opened Opening s = Name s.name ∷ []
opened Inside s = front s
opened Ends s = front s ++ Name s.draft.id ∷ []
opened Source s = front s ++ Name s.draft.id ∷ Left ∷ []
opened Target s = front s ++ Name s.draft.id ∷ Left ∷ Name s.draft.source ∷ []
opened EndsClose s = front s ++ Name s.draft.id ∷ Left ∷ Name s.draft.source ∷ Name s.draft.target ∷ []
opened Units s = front s ++ Name s.draft.id ∷ Left ∷ Name s.draft.source ∷ Name s.draft.target ∷ Right ∷ []
opened Value s = front s ++ Name s.draft.id ∷ Left ∷ Name s.draft.source ∷ Name s.draft.target ∷ Right ∷ Name s.draft.unit ∷ []
opened Longest s = front s ++ Name s.draft.id ∷ Left ∷ Name s.draft.source ∷ Name s.draft.target ∷ Right ∷ Name s.draft.unit ∷ Name s.draft.value ∷ []

-- between two matrices no demands are left
abbrev pub IsClear : Mode → Sofar → Type 0
IsClear Between s = s.demands ≡ []
IsClear Opening s = s.demands ≡ []
IsClear _ s = Unit {0}

flat-push : {X Y : Type 0} (f : X → List Y) (xs : List X) (x : X) → flat_map f (xs ++ x ∷ []) ≡ flat_map f xs ++ f x
flat-push f [] x = append-nil (f x)
flat-push f (y ∷ ys) x = ap (λ l. f y ++ l) (flat-push f ys x) ∙ sym (append_assoc (f y) (flat_map f ys) (f x))

-- a symbol behind what stands open
grows : (s : Sofar) (ts : List Symbol) (x : Symbol) → spelled s.matrices ++ ((front s ++ ts) ++ x ∷ []) ≡ spelled s.matrices ++ (front s ++ (ts ++ x ∷ []))
grows s ts x = ap (λ l. spelled s.matrices ++ l) (append_assoc (front s) ts (x ∷ []))

-- all that was read
abbrev sofar_spelled : Mode → Sofar → List Symbol
sofar_spelled m s = spelled s.matrices ++ opened m s

spelled_more : (m next : Mode) (k : TokenKind) (w : Word) (s : Sofar) → IsClear m s → after m k ≡ Some next
    → (spelled s.matrices ++ (opened m s ++ symbol_by k w ∷ []) ≡ sofar_spelled next (kept_by k m w s)) × IsClear next (kept_by k m w s)
spelled_more Between Opening kinds.Word w s clear h = (refl, clear)
spelled_more Opening Inside kinds.LeftParen w s clear h = (ap (λ ds. spelled s.matrices ++ Name s.name ∷ Left ∷ flat_map demand ds) (sym clear), tt)
spelled_more Inside Between kinds.RightParen w s clear h = (sym (append-nil _ ∙ flat-push matrix s.matrices (record { name = s.name; demands = s.demands })), refl)
spelled_more Inside Ends kinds.Word w s clear h = (refl, tt)
spelled_more Ends Source kinds.LeftParen w s clear h = (grows s (Name s.draft.id ∷ []) Left, tt)
spelled_more Source Target kinds.Word w s clear h = (grows s (Name s.draft.id ∷ Left ∷ []) (Name w), tt)
spelled_more Target EndsClose kinds.Word w s clear h = (grows s (Name s.draft.id ∷ Left ∷ Name s.draft.source ∷ []) (Name w), tt)
spelled_more EndsClose Units kinds.RightParen w s clear h = (grows s (Name s.draft.id ∷ Left ∷ Name s.draft.source ∷ Name s.draft.target ∷ []) Right, tt)
spelled_more Units Value kinds.Word w s clear h = (grows s (Name s.draft.id ∷ Left ∷ Name s.draft.source ∷ Name s.draft.target ∷ Right ∷ []) (Name w), tt)
spelled_more Value Longest kinds.Word w s clear h = (grows s (Name s.draft.id ∷ Left ∷ Name s.draft.source ∷ Name s.draft.target ∷ Right ∷ Name s.draft.unit ∷ []) (Name w), tt)
spelled_more Longest Inside kinds.Word w s clear h =
    let d : DemandEntry = record { id = s.draft.id; source = s.draft.source; target = s.draft.target; unit = s.draft.unit; value = s.draft.value; longest = w } in (
      grows s (Name s.draft.id ∷ Left ∷ Name s.draft.source ∷ Name s.draft.target ∷ Right ∷ Name s.draft.unit ∷ Name s.draft.value ∷ []) (Name w)
          ∙ ap (λ l. spelled s.matrices ++ Name s.name ∷ Left ∷ l) (sym (flat-push demand s.demands d)),
      tt,
    )
spelled_more m next kinds.LeftParen w s clear h = absurd cc
spelled_more m next kinds.RightParen w s clear h = absurd cc
spelled_more m next kinds.Word w s clear h = absurd cc

pub clear_more : (m next : Mode) (t : Lexeme) (s : Sofar) → IsClear m s → after m t.kind ≡ Some next → IsClear next (kept m t s)
clear_more m next t s clear h = (spelled_more m next t.kind (word_of t) s clear h).1

-- ---- and what is read is what the grammar says

-- these tokens were read, up to this mode
record AreRead (ts : List Lexeme) (m : Mode) (s : Sofar) : Type 0 where
  short : AllByRecursion IsShort ts
  walked : walk places.Between (symbols_of ts) ≡ Some (place_of m)
  spelt : symbols_of ts ≡ sofar_spelled m s
  clear : IsClear m s

-- what the grammar says of tokens: matrices, or where they stop to be a list
abbrev pub IsGiven : List Lexeme → ℕ → Result (List MatrixEntry) ListRefusal → Type 0
IsGiven tokens end (Ok matrices) = AreMatricesOf tokens matrices
IsGiven tokens end (Err r) = IsSyntaxAt tokens end r.line × (r ≡ record { line = r.line; kind = Syntax })

push_short : (ts : List Lexeme) (t : Lexeme) → AllByRecursion IsShort ts → IsShort t → AllByRecursion IsShort (ts ++ t ∷ [])
push_short [] t h s = (s, tt)
push_short (x ∷ xs) t h s = (h.0, push_short xs t h.1 s)

last_short : (ts : List Lexeme) (t : Lexeme) → AllByRecursion IsShort (ts ++ t ∷ []) → IsShort t
last_short [] t h = h.0
last_short (x ∷ xs) t h = last_short xs t h.1

not_long : (t : Lexeme) → nat_lt MAX_WORD_BYTES (length t.text) ≡ false → IsShort t
not_long t e = let short = ltb-false MAX_WORD_BYTES (length t.text) e in omega (arith, short)

is_long : (t : Lexeme) → nat_lt MAX_WORD_BYTES (length t.text) ≡ true → IsShort t → ⊥
is_long t e s = let long = ltb-true MAX_WORD_BYTES (length t.text) e in omega (arith, long, s)

-- one symbol further
walked_on : (ts : List Lexeme) (t : Lexeme) (m : Mode) (o : Option Mode) → walk places.Between (symbols_of ts) ≡ Some (place_of m) → after m t.kind ≡ o
    → walk places.Between (symbols_of (ts ++ t ∷ [])) ≡ option_map place_of o
walked_on ts t m o h e =
    let step : places.after (place_of m) (symbol t) ≡ option_map place_of o = ap (places.after (place_of m)) (symbol_is t.kind t) ∙ after_same m t.kind (word_of t) ∙ ap (option_map place_of) e in
    ap (walk places.Between) (map-append symbol ts (t ∷ [])) ∙ walk-append (symbols_of ts) (symbol t ∷ []) places.Between ∙ ap (λ (o : Option Place). option_and_then (λ k. walk k (symbol t ∷ [])) o) h
    ∙ ap (λ (o : Option Place). option_and_then (λ k. walk k []) o) step ∙ same o
  where
    same : (o : Option Mode) → option_and_then (λ k. walk k []) (option_map place_of o) ≡ option_map place_of o
    same None = refl
    same (Some k) = refl

one_more : (ts : List Lexeme) (t : Lexeme) (m next : Mode) (s : Sofar) → AreRead ts m s → IsShort t → after m t.kind ≡ Some next → AreRead (ts ++ t ∷ []) next (kept m t s)
one_more ts t m next s h short e =
    let more = spelled_more m next t.kind (word_of t) s h.clear e in
    record {
      short = push_short ts t h.short short;
      walked = walked_on ts t m (Some next) h.walked e;
      spelt = map-append symbol ts (t ∷ []) ∙ ap (λ l. l ++ symbol t ∷ []) h.spelt ∙ ap (λ x. sofar_spelled m s ++ x ∷ []) (symbol_is t.kind t) ∙ append_assoc (spelled s.matrices) (opened m s) (symbol_by t.kind (word_of t) ∷ []) ∙ more.0;
      clear = more.1;
    }

-- a token that is refused
bad_at : (before : List Lexeme) (t : Lexeme) (rest : List Lexeme) (end : ℕ) (m : Mode) (s : Sofar) → AreRead before m s → (AreBegun (before ++ t ∷ []) → ⊥) → IsGiven (before ++ t ∷ rest) end (refused t.line)
bad_at before t rest end m s h none =
    (inl (record { before = before; at = t; after = rest; parts = refl; begun = record { short = h.short; begun = begun (symbols_of before) (place_of m) h.walked }; refused = none; line_is = refl }), refl)

-- the end in a matrix
open_end : (tokens : List Lexeme) (end : ℕ) (m : Mode) (s : Sofar) → AreRead tokens m s → (place_of m ≡ places.Between → ⊥) → IsGiven tokens end (refused end)
open_end tokens end m s h other = (
  inr (record {
    begun = record { short = h.short; begun = begun (symbols_of tokens) (place_of m) h.walked };
    none = λ ms is. (let both : Some (place_of m) ≡ Some places.Between = sym h.walked ∙ ap (walk places.Between) is ∙ list_walked ms in other cc);
    line_is = refl;
  }),
  refl,
)

at_end : (tokens : List Lexeme) (end : ℕ) (m : Mode) (s : Sofar) → AreRead tokens m s → IsGiven tokens end (finished end m s.matrices)
at_end tokens end Between s h = record { short = h.short; list = h.spelt ∙ append-nil (spelled s.matrices) }
at_end tokens end Opening s h = open_end tokens end Opening s h (λ e. absurd cc)
at_end tokens end Inside s h = open_end tokens end Inside s h (λ e. absurd cc)
at_end tokens end Ends s h = open_end tokens end Ends s h (λ e. absurd cc)
at_end tokens end Source s h = open_end tokens end Source s h (λ e. absurd cc)
at_end tokens end Target s h = open_end tokens end Target s h (λ e. absurd cc)
at_end tokens end EndsClose s h = open_end tokens end EndsClose s h (λ e. absurd cc)
at_end tokens end Units s h = open_end tokens end Units s h (λ e. absurd cc)
at_end tokens end Value s h = open_end tokens end Value s h (λ e. absurd cc)
at_end tokens end Longest s h = open_end tokens end Longest s h (λ e. absurd cc)

given : (before rest : List Lexeme) (end : ℕ) (m : Mode) (s : Sofar) → AreRead before m s → IsGiven (before ++ rest) end (scan end m s rest)
given before [] end m s h = subst (λ ts. IsGiven ts end (finished end m s.matrices)) (sym (append-nil before)) (at_end before end m s h)
given before (t ∷ rest) end m s h =
    let one : (o : Option Mode) → after m t.kind ≡ o → IsShort t → IsGiven (before ++ t ∷ rest) end (option_map_or (λ next. scan end next (kept m t s) rest) o (refused t.line)) = λ o. elim o as (λ (o : Option Mode). after m t.kind ≡ o → IsShort t → IsGiven (before ++ t ∷ rest) end (option_map_or (λ next. scan end next (kept m t s) rest) o (refused t.line))) [
      | None ↦ λ e short. bad_at before t rest end m s h (λ b. not_begun (symbols_of (before ++ t ∷ [])) (walked_on before t m None h.walked e) b.begun)
      | Some next ↦ λ e short. subst (λ ts. IsGiven ts end (scan end next (kept m t s) rest)) (append_assoc before (t ∷ []) rest) (given (before ++ t ∷ []) rest end next (kept m t s) (one_more before t m next s h short e))
    ] in
    let go = elim (nat_lt MAX_WORD_BYTES (length t.text)) as (λ (c : Bool). nat_lt MAX_WORD_BYTES (length t.text) ≡ c
    → IsGiven (before ++ t ∷ rest) end (if c then refused t.line else option_map_or (λ next. scan end next (kept m t s) rest) (after m t.kind) (refused t.line))) [
      | true ↦ λ e. bad_at before t rest end m s h (λ b. is_long t e (last_short before t b.short))
      | false ↦ λ e. one (after m t.kind) refl (not_long t e)
    ] in
    go refl

pub scan_given : (end : ℕ) (tokens : List Lexeme) → IsGiven tokens end (scan end Between nothing_read tokens)
scan_given end tokens = given [] tokens end Between nothing_read (record { short = tt; walked = refl; spelt = refl; clear = refl })
