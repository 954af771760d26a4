-- Rows that are handed out, without where their words lie in memory.
use Rattle.std.specs.Prelude.{ℕ, List, map}
use Rattle.sndlib_rows.specs.declared.row.LinkRow.{LinkRow}
use Rattle.sndlib_rows.specs.declared.row.DemandRow.{DemandRow}
use Rattle.sndlib_grammar.specs.Rows.{NetLink, NetDemand}

-- a link with these modules
abbrev pub link_row_view : LinkRow → List (List ℕ) → NetLink
link_row_view l modules = record { id = l.id.now; source = l.source; target = l.target; installed = l.installed.now; costs = map (λ w. w.now) l.costs; modules = modules; line = l.line }

abbrev pub demand_row_view : DemandRow → NetDemand
demand_row_view d = record { id = d.id.now; source = d.source; target = d.target; unit = d.unit.now; value = d.value.now; longest = d.longest.now; line = d.line }
