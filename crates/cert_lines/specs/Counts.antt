-- The words of the counts, as the model sees them.
use Rattle.std.specs.Prelude.{ℕ, List}
use Rattle.std.specs.Option.{option_map}
use Rattle.text_lines.specs.Lines.{Line}
use Rattle.cert_lines.specs.declared.net_line.FirstCounts.{FirstCounts}
use Rattle.cert_lines.specs.declared.net_line.LastCounts.{LastCounts}
use Rattle.cert_lines.specs.Forms.{words_in}

abbrev pub first_seen : FirstCounts → List ℕ × List ℕ × List ℕ × List ℕ × Line
first_seen c = (c.nodes.now, c.cells.now, c.commodities.now, c.decimals.now, words_in (option_map (λ w. w.now) c.rest))

abbrev pub last_seen : LastCounts → List ℕ × List ℕ × List ℕ × Line
last_seen c = (c.skipped.now, c.left.now, c.hops.now, words_in (option_map (λ w. w.now) c.rest))
