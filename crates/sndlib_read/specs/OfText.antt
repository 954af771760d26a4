-- What is kept comes from entries whose words are words of a text.
use Rattle.std.specs.Prelude.{◌≡◌}
use Rattle.sndlib_grammar.specs.Grammar.{Entries}
use Rattle.sndlib_grammar.specs.Words.{AreWordEntries}
use Rattle.sndlib_read.specs.Stored.{Stored, stored}

pub record IsOfText (k : Stored) : Type 0 where
  pub found : Entries
  pub words : AreWordEntries found
  pub same : k ≡ stored found
