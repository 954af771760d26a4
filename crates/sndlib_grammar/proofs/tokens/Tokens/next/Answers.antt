use Rattle.sndlib_grammar.proofs.Steps.{long_at}
use Rattle.sndlib_grammar.proofs.tokens.Tokens.next.Goals as goal

pub returns-in-Err-clause-next : goal.returns-in-Err-clause-next
returns-in-Err-clause-next c =
    let found = c.in-Err.ensures in
    long_at c.self.inside.text.now c.self.inside.at c.self.inside.line c.next_start-at.result.0 c.next_start-at.result.1 c.in-Err.e.line c.args.self.now found.0 c.self.view_is c.next_start-at.ensures.0 found.1 found.2 found.3
