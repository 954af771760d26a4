-- The rows of a network text, or its first refusal.
use Rattle.std.specs.Prelude.{◌≡◌, ℕ, List, Option, Some, None, Result, Ok, Err, ◌⊎◌, MatchBool, nat_eq}
use Rattle.std.specs.List.{starts_with}
use Rattle.sndlib_grammar.specs.Tokens.{Lexeme}
use Rattle.sndlib_grammar.specs.declared.refusal.NetKind.TheVariants as netkinds
use Rattle.sndlib_grammar.specs.declared.refusal.NetRefusal.{NetRefusal}
use Rattle.sndlib_grammar.specs.Refusals.{AreEntriesOf, StandsAt}
use Rattle.sndlib_grammar.specs.Grammar.{Entries}
use Rattle.sndlib_grammar.specs.Faults.{fault_of}
use Rattle.sndlib_grammar.specs.Rows.{NetRows, net_rows}
use Rattle.sndlib_grammar.specs.Text.{header, tokens_of, end_of, read_of}

-- the entries, unless something is wrong with them
abbrev pub unless_fault : ℕ → Entries → Option NetRefusal → Result NetRows NetRefusal
unless_fault end found None = Ok (net_rows end found)
unless_fault end found (Some r) = Err r

abbrev pub judged : ℕ → Result Entries NetRefusal → Result NetRows NetRefusal
judged end (Ok found) = unless_fault end found (fault_of found)
judged end (Err r) = Err r

-- the rows of a text, or its first refusal
abbrev pub rows_of : List ℕ → Result NetRows NetRefusal
rows_of text = judged (end_of text) (read_of text)

-- ---- the same in the words of the grammar

-- the tokens are a text of the grammar, with nothing wrong in its entries, and these are its rows
pub record AreRowsOf (tokens : List Lexeme) (end : ℕ) (rows : NetRows) : Type 0 where
  pub found : Entries
  pub entries : AreEntriesOf tokens found
  pub sound : fault_of found ≡ None
  pub numbered : rows ≡ net_rows end found

-- the tokens are a text of the grammar, and this is wrong with its entries
pub record IsFaulty (tokens : List Lexeme) (r : NetRefusal) : Type 0 where
  pub found : Entries
  pub entries : AreEntriesOf tokens found
  pub fault : fault_of found ≡ Some r

-- the rows that the grammar gives the tokens, with nothing wrong; or where the grammar refuses; or what is wrong
abbrev pub IsJudged : List Lexeme → ℕ → Result NetRows NetRefusal → Type 0
IsJudged tokens end (Ok rows) = AreRowsOf tokens end rows
IsJudged tokens end (Err r) = StandsAt tokens end r.kind r.line ⊎ IsFaulty tokens r

-- no header stands in line 1, and else the tokens are judged
abbrev pub IsNetOf : List ℕ → Result NetRows NetRefusal → Type 0
IsNetOf text answer = MatchBool (starts_with nat_eq text header) (IsJudged (tokens_of text) (end_of text) answer) (answer ≡ Err (record { line = 1; kind = netkinds.NoHeader }))
