use Rattle.std.proofs.Common.{◌≡◌, take, map}
use Rattle.clap.specs.Words.{app_of}
use Rattle.mcf_words.specs.Parse.{app_with, option_rule}
use Rattle.mcf_words.proofs.parse.command_with.Given as goal

abbrev pub invariant-loop-name : goal.invariant-loop-name
invariant-loop-name l = app_of l.command ≡ app_with (map option_rule (map (λ n. n.now) (take l.name-index l.names)))
