use Rattle.std.proofs.Common.{◌≡◌, ◌∙◌, ap, ap₂}
use Rattle.clap.specs.Words.{app_of, rule_of, with_rule}
use Rattle.mcf_words.specs.Parse.{app_with}
use Rattle.mcf_words.proofs.Adding.{rules_more}
use Rattle.mcf_words.proofs.parse.command_with.Goals as goal

pub loop-name-preserved : goal.loop-name-preserved
loop-name-preserved c =
    let added : app_of c.in_ok-command.command ≡ with_rule (app_of c.loop-name.command) (rule_of c.option.result) = c.in_ok-command.ensures.shape c.option.ensures.local in
    let both = ap₂ with_rule c.loop-name.invariant c.option.ensures.rule in
    added ∙ both ∙ ap app_with (rules_more c.args.names.now c.loop-name.name-index _ c.loop-name-test.true)
