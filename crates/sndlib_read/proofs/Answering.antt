-- The answer that is read is the one of the grammar, and its words are slices of the text.
use Rattle.std.specs.Prelude.{IfOk}
use Rattle.std.proofs.Common.{◌≡◌, ℕ, List, subst, ◌∙◌, Result, Ok, Err}
use Rattle.sndlib_grammar.specs.declared.refusal.NetRefusal.{NetRefusal}
use Rattle.sndlib_grammar.specs.Net.{rows_of, IsNetOf}
use Rattle.sndlib_grammar.specs.Rows.{NetRows}
use Rattle.sndlib_grammar.specs.Slices.{AreSlicesOf}
use Rattle.sndlib_grammar.proofs.Judged.{text_judged, text_only}
use Rattle.sndlib_grammar.proofs.RowFacts.{text_rows_slices}
use Rattle.sndlib_rows.specs.declared.refusal.ReadNetEnd.{ReadNetEnd}
use Rattle.sndlib_rows.specs.declared.refusal.ReadNetEnd.TheVariants.{Refused, Memory}
use Rattle.sndlib_read.specs.Steps.{Gives}
use Rattle.sndlib_read.specs.Answer.{IsAnswer, Answers}

only_answer : (text : List ℕ) (answer : Result NetRows NetRefusal) → rows_of text ≡ answer → IsAnswer text answer
only_answer text answer e = record { is = subst (IsNetOf text) e (text_judged text); only = λ other h. text_only text other h ∙ e }

pub answers : (text : List ℕ) (r : Result NetRows ReadNetEnd) → Gives (λ (n : NetRows). n) r (rows_of text) → Answers text r
answers text (Ok rows) e = only_answer text (Ok rows) e
answers text (Err (Refused r)) e = only_answer text (Err r) e
answers text (Err Memory) e = tt

pub slices : (text : List ℕ) (r : Result NetRows ReadNetEnd) → Gives (λ (n : NetRows). n) r (rows_of text) → IfOk r (λ (rows : NetRows). AreSlicesOf text rows)
slices text (Ok rows) e = text_rows_slices text rows e
slices text (Err e) h = tt
