-- The tokens of a network text, and what is read of them.
use Rattle.std.specs.Prelude.{◌≡◌, ℕ, ◌+◌, ◌==◌, List, count_by, codes, nat_eq, Result, Err, if◌then◌else◌, MatchBool}
use Rattle.std.specs.List.{after_first, position_or_len, starts_with}
use Rattle.sndlib_grammar.specs.Tokens.{Lexeme, lexemes}
use Rattle.sndlib_grammar.specs.declared.refusal.NetKind.TheVariants as netkinds
use Rattle.sndlib_grammar.specs.declared.refusal.NetRefusal.{NetRefusal}
use Rattle.sndlib_grammar.specs.declared.mode.Part.TheVariants as parts
use Rattle.sndlib_grammar.specs.declared.mode.Mode.TheVariants.{Between}
use Rattle.sndlib_grammar.specs.Grammar.{Entries}
use Rattle.sndlib_grammar.specs.Reading.{scan, at_start, refused}
use Rattle.sndlib_grammar.specs.Refusals.{IsReading}

-- what the first line of a network text begins with
abbrev pub header : List ℕ
header = codes "?SNDlib native format; type: network;"

-- the tokens behind the first line
abbrev pub tokens_of : List ℕ → List Lexeme
tokens_of text = lexemes 0 (after_first (λ b. b == 10) text) (position_or_len (λ b. b == 10) text + 1) 2

-- the line of the end
abbrev pub end_of : List ℕ → ℕ
end_of text = count_by (λ b. b == 10) text + 1

-- the entries of a text, or its first refusal up to the grammar's
abbrev pub read_of : List ℕ → Result Entries NetRefusal
read_of text = if starts_with nat_eq text header then scan (end_of text) (Between parts.Nodes) at_start (tokens_of text) else refused netkinds.NoHeader 1

-- no header stands in line 1, and behind it what the grammar says of the tokens
abbrev pub IsReadingOf : List ℕ → Result Entries NetRefusal → Type 0
IsReadingOf text answer = MatchBool (starts_with nat_eq text header) (IsReading (tokens_of text) (end_of text) answer) (answer ≡ Err (record { line = 1; kind = netkinds.NoHeader }))
