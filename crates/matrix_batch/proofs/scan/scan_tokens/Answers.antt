use Rattle.std.proofs.Common.{refl, subst, sym, Ok}
use Rattle.sndlib_grammar.specs.Tokens.{lexeme}
use Rattle.sndlib_grammar.specs.Lexing.{TakesNext}
use Rattle.matrix_batch.specs.Reading.{nothing_read}
use Rattle.matrix_batch.specs.Stored.{Stored, Fits}
use Rattle.matrix_batch.specs.ReadViews.{sofar_view}
use Rattle.matrix_batch.proofs.Fitting.{fits_at_start}
use Rattle.matrix_batch.proofs.Scanning.{Scans, scans_more, whole_list}
use Rattle.matrix_batch.proofs.scan.scan_tokens.Goals as goal

pub tokens-init : goal.tokens-init
tokens-init c = record { state = nothing_read; same = refl; fits = subst (λ (k : Stored). Fits k nothing_read) (sym c.new-sofar.ensures) fits_at_start; clear = refl }

pub tokens-preserved : goal.tokens-preserved
tokens-preserved c =
    let took = subst (λ o. TakesNext (Ok o) c.tokens.rest c.next.new.self) c.in-Ok-Some.field-0-is c.in-Ok-Some.ensures.next in
    scans_more c.args.end c.tokens.mode c.in-Ok.next (sofar_view c.tokens.sofar) (sofar_view c.step.new.sofar) (lexeme c.in-Ok-Some.token) c.tokens.rest.tokens c.next.new.self.tokens c.args.tokens.tokens c.tokens.invariant took.tokens took.short
    c.in-Ok.ensures.0 c.in-Ok.ensures.1

pub returns-in-Between : goal.returns-in-Between
returns-in-Between c =
    let none = subst (λ o. TakesNext (Ok o) c.tokens.rest c.next.new.self) c.in-Ok-None.field-0-is c.in-Ok-None.ensures.next in
    let between = subst (λ m. Scans c.args.end m (sofar_view c.tokens.sofar) c.tokens.rest.tokens c.args.tokens.tokens) c.in-Between.is c.tokens.invariant in
    whole_list c.args.end (sofar_view c.tokens.sofar) c.tokens.rest.tokens c.args.tokens.tokens between none.0
