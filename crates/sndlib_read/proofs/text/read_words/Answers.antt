use Rattle.std.proofs.Common.{ap, arith, length}
use Rattle.sndlib_grammar.specs.Tokens.{Lexeme}
use Rattle.sndlib_read.proofs.Bounds.{length-tokens_of}
use Rattle.sndlib_read.proofs.text.read_words.Goals as goal

pub scan_tokens-requires : goal.scan_tokens-requires
scan_tokens-requires c = omega (arith, length-tokens_of c.args.text.now, ap (length {A = Lexeme}) c.tokens.ensures)
