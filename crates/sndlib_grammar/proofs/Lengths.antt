-- A text has at most as many tokens as bytes.
use Rattle.std.proofs.Common.{ℕ, zero, suc, ◌+◌, ◌≤◌, Bool, true, false, List, [], ◌∷◌, length, arith}
use Rattle.std.specs.Prelude.{◌==◌, if◌then◌else◌}
use Rattle.std.specs.List.{prefix_len}
use Rattle.sndlib_grammar.specs.Tokens.{lexemes, Lexeme, is_blank, is_word_byte, is_in_comment}

either : (b : Bool) (n : ℕ) (x y : List Lexeme) → length x ≤ n → length y ≤ n → length (if b then x else y) ≤ n
either true n x y h k = h
either false n x y h k = k

pub length-lexemes : (inside : ℕ) (bs : List ℕ) (at line : ℕ) → length (lexemes inside bs at line) ≤ length bs
length-lexemes inside [] at line = omega arith
length-lexemes (suc inside) (b ∷ bs) at line = omega (arith, length-lexemes inside bs (at + 1) line)
length-lexemes zero (b ∷ bs) at line =
    let feed = length-lexemes 0 bs (at + 1) (line + 1) in
    let plain = length-lexemes 0 bs (at + 1) line in
    let comment = length-lexemes (prefix_len is_in_comment bs) bs (at + 1) line in
    let word = length-lexemes (prefix_len is_word_byte bs) bs (at + 1) line in
    let n = suc (length bs) in
    either (b == 10) n _ _ (omega arith) (either (is_blank b) n _ _ (omega arith) (either (b == 35) n _ _ (omega arith) (either (b == 40) n _ _ (omega arith) (either (b == 41) n _ _ (omega arith) (omega arith)))))
