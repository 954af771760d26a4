-- What `print` answers.
use Rattle.std.specs.Prelude.{◌≡◌, ℕ, List}
use Rattle.mcf_base.specs.Shelf.{ShelfView}
use Rattle.sndlib_grammar.specs.Rows.{NetRows}
use Rattle.sndlib_grammar.specs.Canonical.{canonical_text}
use Rattle.base_cmd.specs.Found.{nothing}
use Rattle.base_cmd.specs.Answer.{Answer}
use Rattle.base_cmd.specs.Files.{Ends, OfNet}

-- the canonical text of the rows
abbrev pub printed : NetRows → Answer
printed rows = record { status = 0; text = canonical_text rows; found = nothing }

-- the answer of the network in the file of that name
abbrev pub OfPrint : List ℕ → ShelfView → ShelfView → Answer → Type 0
OfPrint name old new answer = OfNet name (λ rows. Ends (λ given. given ≡ printed rows)) old new answer
