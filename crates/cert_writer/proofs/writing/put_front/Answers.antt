use Rattle.std.proofs.Common.{ℕ, Bor, List, map}
use Rattle.text_lines.specs.Spelling.{behind}
use Rattle.text_lines.proofs.Putting.{puts_then, puts_stop}
use Rattle.cert_writer.proofs.writing.put_front.Goals as goal

pub returns-in-Err : goal.returns-in-Err
returns-in-Err g c = puts_stop _ _ _ _ _ c.in-Err.fault c.args.first.now (behind (map (λ (x : Bor (List ℕ)). x.now) c.args.words.now)) c.in-Err.ensures

pub returns : goal.returns
returns g c = puts_then _ _ _ _ _ _ tt c.put_words.result c.args.first.now (behind (map (λ (x : Bor (List ℕ)). x.now) c.args.words.now)) c.in-Ok.ensures c.put_words.ensures
