-- A text has at most as many tokens as bytes.
use Rattle.std.proofs.Common.{◌+◌, ◌≤◌, List, ℕ, length, drop, arith, length-drop}
use Rattle.std.specs.Prelude.{◌==◌}
use Rattle.std.specs.List.{position_or_len}
use Rattle.sndlib_grammar.proofs.Lengths.{length-lexemes}
use Rattle.sndlib_grammar.specs.Text.{tokens_of}

pub length-tokens_of : (text : List ℕ) → length (tokens_of text) ≤ length text
length-tokens_of text =
    let at = position_or_len (λ b. b == 10) text + 1 in
    omega (arith, length-lexemes 0 (drop at text) at 2, length-drop at text)
