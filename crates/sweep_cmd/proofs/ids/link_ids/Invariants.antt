use Rattle.std.proofs.Common.{◌≡◌, map, take}
use Rattle.sndlib_grammar.specs.Rows.{names_of_links}
use Rattle.sweep_cmd.proofs.ids.link_ids.Given as goal

abbrev pub invariant-loop-i : goal.invariant-loop-i
invariant-loop-i l = map (λ id. id.now) l.ids.items ≡ take l.i (names_of_links l.rows)
