-- The tokens of lines of words.
use Rattle.std.proofs.Common.{◌≡◌, ℕ, zero, suc, ◌+◌, Bool, true, false, ◌||◌, List, [], ◌∷◌, ◌++◌, length, drop, map, refl, ap, subst, ◌∙◌, arith, append_assoc}
use Rattle.std.specs.Prelude.{◌==◌, ◌&&◌, codes}
use Rattle.std.proofs.lemmas.Bool.{not-true}
use Rattle.std.proofs.Common.{lit≤}
use Rattle.std.proofs.lemmas.List.Sums.{take_while-cons}
use Rattle.std.specs.List.{flat_map, join_with_byte, list_all, prefix_len, take_while, AllByRecursion}
use Rattle.sndlib_grammar.specs.declared.token.TokenKind.TheVariants as kinds
use Rattle.sndlib_grammar.specs.Tokens.{Lexeme, lexemes, is_blank, is_word_byte}
use Rattle.sndlib_grammar.specs.Grammar.{Symbol, Left, Right, Name}
use Rattle.sndlib_grammar.specs.Refusals.{IsShort, symbols_of}
use Rattle.sndlib_grammar.specs.Rows.{IsWord}
use Rattle.text_lines.specs.Lines.{Line, text_of}

-- what a line is made of: nothing between two spaces, a parenthesis, or a word
pub data Piece : Type 0 where
  Gap : Piece
  Opens : Piece
  Closes : Piece
  Named : List ℕ → Piece

abbrev pub bytes_of : Piece → List ℕ
bytes_of Gap = []
bytes_of Opens = codes "("
bytes_of Closes = codes ")"
bytes_of (Named w) = w

abbrev pub IsPiece : Piece → Type 0
IsPiece (Named w) = IsWord w
IsPiece _ = Unit {0}

-- what the grammar sees of a piece on that line
abbrev pub seen_on : ℕ → Piece → List Symbol
seen_on line Gap = []
seen_on line Opens = Left ∷ []
seen_on line Closes = Right ∷ []
seen_on line (Named w) = Name (record { text = w; line = line }) ∷ []

-- the tokens are seen so, and none is a long word
pub record Lexed (tokens : List Lexeme) (symbols : List Symbol) : Type 0 where
  pub are : symbols_of tokens ≡ symbols
  pub short : AllByRecursion IsShort tokens

-- ---- one word

lexemes-inside : (n : ℕ) (bs : List ℕ) (at line : ℕ) → lexemes n bs at line ≡ lexemes 0 (drop n bs) (at + n) line
lexemes-inside zero bs at line = let e : at ≡ at + 0 = omega arith in ap (λ k. lexemes 0 bs k line) e
lexemes-inside (suc n) [] at line = refl
lexemes-inside (suc n) (b ∷ bs) at line = let e : at + 1 + n ≡ at + suc n = omega arith in lexemes-inside n bs (at + 1) line ∙ ap (λ k. lexemes 0 (drop n bs) k line) e

first_true : (a b : Bool) → (a && b) ≡ true → a ≡ true
first_true true b e = refl
first_true false b e = e

second_true : (a b : Bool) → (a && b) ≡ true → b ≡ true
second_true true b e = e
second_true false b e = absurd cc

neither : (a b : Bool) → (a || b) ≡ false → (a ≡ false) × (b ≡ false)
neither true b e = absurd cc
neither false b e = (refl, e)

while_all : (bs rest : List ℕ) (end : ℕ) → list_all is_word_byte bs ≡ true → is_word_byte end ≡ false → take_while is_word_byte (bs ++ end ∷ rest) ≡ bs
while_all [] rest end all stop = rw stop refl
while_all (b ∷ bs) rest end all stop =
    let here : is_word_byte b ≡ true = first_true (is_word_byte b) (list_all is_word_byte bs) all in
    rw (take_while-cons is_word_byte b (bs ++ end ∷ rest), here) (ap (λ (l : List ℕ). b ∷ l) (while_all bs rest end (second_true (is_word_byte b) (list_all is_word_byte bs) all) stop))

prefix_all : (bs rest : List ℕ) (end : ℕ) → list_all is_word_byte bs ≡ true → is_word_byte end ≡ false → prefix_len is_word_byte (bs ++ end ∷ rest) ≡ length bs
prefix_all [] rest end all stop = rw stop refl
prefix_all (b ∷ bs) rest end all stop =
    let here : is_word_byte b ≡ true = first_true (is_word_byte b) (list_all is_word_byte bs) all in
    rw here (omega (arith, prefix_all bs rest end (second_true (is_word_byte b) (list_all is_word_byte bs) all) stop))

word_step : (b : ℕ) (bs : List ℕ) (at line : ℕ) → is_word_byte b ≡ true
    → lexemes 0 (b ∷ bs) at line ≡ record { kind = kinds.Word; text = b ∷ take_while is_word_byte bs; line = line; at = at } ∷ lexemes (prefix_len is_word_byte bs) bs (at + 1) line
word_step b bs at line is =
    let none : (b == 10 || is_blank b || b == 35 || b == 40 || b == 41) ≡ false = not-true (b == 10 || is_blank b || b == 35 || b == 40 || b == 41) is in
    let five = neither (b == 10 || is_blank b || b == 35 || b == 40) (b == 41) none in
    let four = neither (b == 10 || is_blank b || b == 35) (b == 40) five.0 in
    let three = neither (b == 10 || is_blank b) (b == 35) four.0 in
    let two = neither (b == 10) (is_blank b) three.0 in
    rw (two.0, two.1, three.1, four.1, five.1) refl

drop_all : (bs rest : List ℕ) → drop (length bs) (bs ++ rest) ≡ rest
drop_all [] rest = refl
drop_all (b ∷ bs) rest = drop_all bs rest

-- a word, and the byte behind it
word_first : (w rest : List ℕ) (end at line : ℕ) → IsWord w → is_word_byte end ≡ false
    → (place : ℕ) × (lexemes 0 (w ++ end ∷ rest) at line ≡ record { kind = kinds.Word; text = w; line = line; at = at } ∷ lexemes 0 (end ∷ rest) place line)
word_first [] rest end at line is stop = absurd (omega (arith, is.some))
word_first (b ∷ bs) rest end at line is stop =
    let here : is_word_byte b ≡ true = first_true (is_word_byte b) (list_all is_word_byte bs) is.bytes in
    let all : list_all is_word_byte bs ≡ true = second_true (is_word_byte b) (list_all is_word_byte bs) is.bytes in
    let behind : lexemes (length bs) (bs ++ end ∷ rest) (at + 1) line ≡ lexemes 0 (end ∷ rest) (at + 1 + length bs) line =
    lexemes-inside (length bs) (bs ++ end ∷ rest) (at + 1) line ∙ ap (λ l. lexemes 0 l (at + 1 + length bs) line) (drop_all bs (end ∷ rest)) in
    (at + 1 + length bs, rw (word_step b (bs ++ end ∷ rest) at line here, while_all bs rest end all stop, prefix_all bs rest end all stop, behind) refl)

-- ---- a piece, and what ends it

pub piece_lexed : (p : Piece) (rest : List ℕ) (end line : ℕ) (symbols : List Symbol) → IsPiece p → is_word_byte end ≡ false
    → ((at : ℕ) → Lexed (lexemes 0 (end ∷ rest) at line) symbols) → (at : ℕ) → Lexed (lexemes 0 (bytes_of p ++ end ∷ rest) at line) (seen_on line p ++ symbols)
piece_lexed Gap rest end line symbols is stop behind at = behind at
piece_lexed Opens rest end line symbols is stop behind at = record { are = ap (λ l. Left ∷ l) (behind (at + 1)).are; short = (lit≤ tt, (behind (at + 1)).short) }
piece_lexed Closes rest end line symbols is stop behind at = record { are = ap (λ l. Right ∷ l) (behind (at + 1)).are; short = (lit≤ tt, (behind (at + 1)).short) }
piece_lexed (Named w) rest end line symbols is stop behind at =
    let first = word_first w rest end at line is stop in
    rw first.1 (record { are = ap (λ l. Name (record { text = w; line = line }) ∷ l) (behind first.0).are; short = (is.short, (behind first.0).short) })

-- a line of pieces
pub line_lexed : (p : Piece) (ps : List Piece) (rest : List ℕ) (line : ℕ) (symbols : List Symbol) → AllByRecursion IsPiece (p ∷ ps)
    → ((at : ℕ) → Lexed (lexemes 0 rest at (line + 1)) symbols) → (at : ℕ) → Lexed (lexemes 0 (join_with_byte 32 (map bytes_of (p ∷ ps)) ++ 10 ∷ rest) at line) (flat_map (seen_on line) (p ∷ ps) ++ symbols)
line_lexed p [] rest line symbols are behind at =
    rw append_assoc (piece_lexed p rest 10 line symbols are.0 refl (λ place. behind (place + 1)) at)
line_lexed p (q ∷ ps) rest line symbols are behind at =
    let next : (place : ℕ) → Lexed (lexemes 0 (join_with_byte 32 (map bytes_of (q ∷ ps)) ++ 10 ∷ rest) place line) (flat_map (seen_on line) (q ∷ ps) ++ symbols) = line_lexed q ps rest line symbols are.1 behind in
    let bytes : (bytes_of p ++ 32 ∷ join_with_byte 32 (map bytes_of (q ∷ ps))) ++ 10 ∷ rest ≡ bytes_of p ++ 32 ∷ (join_with_byte 32 (map bytes_of (q ∷ ps)) ++ 10 ∷ rest) = append_assoc (bytes_of p) (32 ∷ join_with_byte 32 (map bytes_of (q ∷ ps))) (10 ∷ rest) in
    let seen : (seen_on line p ++ flat_map (seen_on line) (q ∷ ps)) ++ symbols ≡ seen_on line p ++ (flat_map (seen_on line) (q ∷ ps) ++ symbols) = append_assoc (seen_on line p) (flat_map (seen_on line) (q ∷ ps)) symbols in
    rw (bytes, seen) (piece_lexed p (join_with_byte 32 (map bytes_of (q ∷ ps)) ++ 10 ∷ rest) 32 line (flat_map (seen_on line) (q ∷ ps) ++ symbols) are.0 refl (λ place. next (place + 1)) at)

-- ---- entries, a line each

-- what is seen of the entries, each of its pieces on a line of its own, the first on this line
abbrev pub seen_from : {X : Type 0} → (X → List Piece) → ℕ → List X → List Symbol
seen_from pieces line [] = []
seen_from pieces line (x ∷ xs) = flat_map (seen_on line) (pieces x) ++ seen_from pieces (line + 1) xs

-- the line of an entry is a gap and these pieces
pub record IsLineOf {X : Type 0} (words : X → Line) (pieces : X → List Piece) (x : X) : Type 0 where
  pub line : words x ≡ map bytes_of (Gap ∷ pieces x)
  pub each : AllByRecursion IsPiece (pieces x)

pub entries_lexed : {X : Type 0} (words : X → Line) (pieces : X → List Piece) (xs : List X) (rest : List ℕ) (line : ℕ) (symbols : List Symbol) → AllByRecursion (IsLineOf words pieces) xs
    → ((at : ℕ) → Lexed (lexemes 0 rest at (line + length xs)) symbols) → (at : ℕ) → Lexed (lexemes 0 (text_of (map words xs) ++ rest) at line) (seen_from pieces line xs ++ symbols)
entries_lexed words pieces [] rest line symbols are behind at =
    let e : line + 0 ≡ line = omega arith in
    subst (λ (k : ℕ). Lexed (lexemes 0 rest at k) symbols) e (behind at)
entries_lexed {X} words pieces (x ∷ xs) rest line symbols are behind at =
    let e : line + suc (length xs) ≡ line + 1 + length xs = omega arith in
    let next : (place : ℕ) → Lexed (lexemes 0 (text_of (map words xs) ++ rest) place (line + 1)) (seen_from pieces (line + 1) xs ++ symbols) =
    entries_lexed words pieces xs rest (line + 1) symbols are.1 (λ place. subst (λ (k : ℕ). Lexed (lexemes 0 rest place k) symbols) e (behind place)) in
    let all : AllByRecursion IsPiece (Gap ∷ pieces x) = (tt, are.0.each) in
    let first = line_lexed Gap (pieces x) (text_of (map words xs) ++ rest) line (seen_from pieces (line + 1) xs ++ symbols) all next at in
    let bytes : text_of (map words (x ∷ xs)) ++ rest ≡ join_with_byte 32 (map bytes_of (Gap ∷ pieces x)) ++ 10 ∷ (text_of (map words xs) ++ rest) =
    rw are.0.line (append_assoc (join_with_byte 32 (map bytes_of (Gap ∷ pieces x)) ++ 10 ∷ []) (text_of (map words xs)) rest ∙ append_assoc (join_with_byte 32 (map bytes_of (Gap ∷ pieces x))) (10 ∷ []) (text_of (map words xs) ++ rest)) in
    let seen : seen_from pieces line (x ∷ xs) ++ symbols ≡ flat_map (seen_on line) (Gap ∷ pieces x) ++ (seen_from pieces (line + 1) xs ++ symbols) = append_assoc (flat_map (seen_on line) (pieces x)) (seen_from pieces (line + 1) xs) symbols in
    rw (bytes, seen) first
