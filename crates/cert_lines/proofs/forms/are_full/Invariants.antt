use Rattle.std.proofs.Common.{◌≡◌, length}
use Rattle.std.specs.List.{list_all}
use Rattle.text_lines.specs.Lines.{words_of}
use Rattle.cert_lines.specs.Forms.{is_full}
use Rattle.cert_lines.proofs.forms.are_full.Given as goal

abbrev pub invariant-words : goal.invariant-words
invariant-words l = list_all is_full (words_of l.left) ≡ list_all is_full (words_of l.fn.line)

abbrev pub decreases-words : goal.decreases-words
decreases-words l = length l.left
