use Rattle.std.proofs.Common.{◌≡◌, drop}
use Rattle.std.specs.List.{find}
use Rattle.mcf_words.specs.Request.{command_of, commands, has_word}
use Rattle.mcf_words.proofs.commands.command_of.Given as goal

abbrev pub invariant-loop-command : goal.invariant-loop-command
invariant-loop-command l = find (has_word l.word) (drop l.command-index commands) ≡ command_of l.word
