-- What the reader of tokens answers.
use Rattle.std.specs.Prelude.{◌≡◌, Some, None, Result, Ok, Err}
use Rattle.sndlib_grammar.specs.Tokens.{Lexeme}
use Rattle.sndlib_grammar.specs.declared.mode.Mode.{Mode}
use Rattle.sndlib_grammar.specs.declared.refusal.NetKind.TheVariants as netkinds
use Rattle.sndlib_grammar.specs.declared.refusal.NetRefusal.{NetRefusal}
use Rattle.sndlib_grammar.specs.Grammar.{Entries, symbol}
use Rattle.sndlib_grammar.specs.Reading.{mode_after}
use Rattle.sndlib_rows.specs.declared.refusal.ReadNetEnd.{ReadNetEnd}
use Rattle.sndlib_rows.specs.declared.refusal.ReadNetEnd.TheVariants.{Refused, Memory}
use Rattle.sndlib_read.specs.declared.kept.Kept.{Kept}
use Rattle.sndlib_read.specs.Stored.{Partial, Stored, stored, put}
use Rattle.sndlib_read.specs.Views.{kept_view}

-- the answer is what reading gives, unless memory ran out
abbrev pub Gives : {X Y : Type 0} → (X → Y) → Result X ReadNetEnd → Result Y NetRefusal → Type 0
Gives view (Ok x) read = read ≡ Ok (view x)
Gives view (Err Memory) read = Unit {0}
Gives view (Err (Refused r)) read = read ≡ Err r

-- one token more
abbrev pub Steps : Result Mode ReadNetEnd → Mode → Lexeme → Partial → Partial → Type 0
Steps (Ok next) m t old new = (mode_after m (symbol t) ≡ Some next) × (new ≡ put m (symbol t) old)
Steps (Err Memory) m t old new = Unit {0}
Steps (Err (Refused r)) m t old new = (mode_after m (symbol t) ≡ None) × (r ≡ record { line = t.line; kind = netkinds.Syntax })

-- these entries are read, and that is what is kept of them
pub record IsKept (read : Result Entries NetRefusal) (k : Stored) : Type 0 where
  pub found : Entries
  pub reads : read ≡ Ok found
  pub same : k ≡ stored found

-- what is kept of what is read, unless memory ran out
abbrev pub Keeps : Result Kept ReadNetEnd → Result Entries NetRefusal → Type 0
Keeps (Ok k) read = IsKept read (kept_view k)
Keeps (Err Memory) read = Unit {0}
Keeps (Err (Refused r)) read = read ≡ Err r
