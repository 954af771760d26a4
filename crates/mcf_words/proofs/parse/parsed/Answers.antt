use Rattle.std.proofs.Common.{◌∙◌, ap, map, string_bytes}
use Rattle.clap.specs.Words.{app_of}
use Rattle.mcf_words.specs.Parse.{app_of_names}
use Rattle.mcf_words.proofs.Telling.{refused, strings_are_text, taken}
use Rattle.mcf_words.proofs.parse.parsed.Goals as goal

pub returns-in-Ok : goal.returns-in-Ok
returns-in-Ok c = taken c.args.command (map string_bytes c.args.words.now) (app_of c.in_ok-parser.parser) c.in-Ok.matches (strings_are_text c.args.words.now)
    (c.in_ok-parser.ensures ∙ ap app_of_names c.form_of.ensures.options) c.in-Ok.ensures.matches c.in-Ok.ensures.kinds

pub returns : goal.returns
returns c = refused c.args.command (map string_bytes c.args.words.now) (app_of c.in_ok-parser.parser) c.in-Err.error (strings_are_text c.args.words.now)
    (c.in_ok-parser.ensures ∙ ap app_of_names c.form_of.ensures.options) c.in-Err.ensures.kinds (λ e. c.in_default.not-OutOfMemory (c.kind.ensures ∙ e))
