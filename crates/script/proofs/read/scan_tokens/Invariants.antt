use Rattle.std.proofs.Common.{◌≡◌, ◌≤◌, length, All}
use Rattle.mcf_limits.specs.declared.TheConstants.{MAX_UNITS}
use Rattle.sndlib_grammar.specs.Rows.{names_of_links}
use Rattle.script.specs.Reading.{scan}
use Rattle.script.specs.Steps.{AreSteps}
use Rattle.script.specs.Answer.{IsExpected, sofar_of}
use Rattle.script.proofs.read.scan_tokens.Given as goal

abbrev pub invariant-tokens : goal.invariant-tokens
invariant-tokens l = record {
  same : scan (record { links = names_of_links l.raw; decimals = l.decimals }) l.end (sofar_of l.reading) l.rest.tokens ≡ scan (record { links = names_of_links l.raw; decimals = l.decimals }) l.end (sofar_of l.fn.start) l.fn.tokens.tokens;
  count : length l.reading.caps.items ≡ length l.raw.links;
  caps : All (λ cap. cap ≤ MAX_UNITS) l.reading.caps.items;
  steps : AreSteps (length l.raw.links) l.reading.steps.items;
  expected : IsExpected (length l.raw.links) l.reading.expected;
}

abbrev pub decreases-tokens : goal.decreases-tokens
decreases-tokens l = length l.rest.tokens
