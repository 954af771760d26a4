use Rattle.std.proofs.Common.{refl}
use Rattle.whatif.specs.Shown.{shown_text}
use Rattle.base_cmd.specs.Answer.{text_answer}
use Rattle.base_cmd.proofs.Ending.{ends_as}
use Rattle.cert_cmd.proofs.what_if.write_lines.Goals as goal

pub returns : goal.returns
returns g c =
    let script = c.args.script.now in
    ends_as _ _ _ c.write_shown.result 0 c.nothing.result (text_answer (shown_text script.mode c.args.plan script.steps)) refl c.nothing.ensures c.end_of.ensures c.write_shown.ensures
