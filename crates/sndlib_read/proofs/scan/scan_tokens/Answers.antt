use Rattle.std.proofs.Common.{refl, ap, subst, arith, Ok}
use Rattle.sndlib_grammar.specs.Tokens.{lexeme}
use Rattle.sndlib_grammar.specs.Lexing.{TakesNext}
use Rattle.sndlib_grammar.specs.Reading.{at_start}
use Rattle.sndlib_read.specs.Stored.{Partial}
use Rattle.sndlib_read.proofs.Scanning.{scans_more}
use Rattle.sndlib_read.proofs.scan.scan_tokens.Goals as goal

pub tokens-init : goal.tokens-init
tokens-init c =
    let none = ap (λ (p : Partial). p.rows.skipped) c.new-sofar.ensures in
    record { state = at_start; same = refl; view = c.new-sofar.ensures; depth = omega arith; skipped = omega (arith, none) }

pub tokens-preserved : goal.tokens-preserved
tokens-preserved c =
    let took = subst (λ o. TakesNext (Ok o) c.tokens.rest c.next.new.self) c.in-Ok-Some.field-0-is c.in-Ok-Some.ensures.next in
    scans_more c.args.end c.tokens.mode c.in-Ok.next c.tokens.sofar c.step.new.sofar (lexeme c.in-Ok-Some.token) c.tokens.rest.tokens c.next.new.self.tokens c.args.tokens.tokens c.tokens.invariant took.tokens took.short
    c.in-Ok.ensures.steps.0 c.in-Ok.ensures.steps.1 c.in-Ok.ensures.depth c.in-Ok.ensures.skipped
