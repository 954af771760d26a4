-- Demands with the numbers of their ends.
use Rattle.std.proofs.Common.{◌≡◌, ℕ, List, ap, Some, None}
use Rattle.std.specs.Prelude.{position}
use Rattle.std.specs.Str.{bytes_eq}
use Rattle.sndlib_grammar.specs.Faults.{unknown_of_demand}
use Rattle.sndlib_grammar.specs.Rows.{net_demand}
use Rattle.sndlib_rows.specs.declared.ends.Ends.{Ends}
use Rattle.sndlib_rows.specs.declared.row.DemandRow.{DemandRow}
use Rattle.sndlib_rows.specs.RowViews.{demand_row_view}
use Rattle.sndlib_rows.proofs.RowAt.{both_known}
use Rattle.matrix_batch.specs.declared.kept.DemandWords.{DemandWords}
use Rattle.matrix_batch.specs.ReadViews.{word_view, demand_view}

abbrev row_with : DemandWords → Ends → DemandRow
row_with d e = record { id = d.id.text; source = e.source; target = e.target; unit = d.unit.text; value = d.value.text; longest = d.longest.text; line = d.id.line }

pub both_known_row : (known : List (List ℕ)) (d : DemandWords) (n m : ℕ) → position (bytes_eq d.source.text.now) known ≡ Some n → position (bytes_eq d.target.text.now) known ≡ Some m
    → (unknown_of_demand known (demand_view d) ≡ None) × (demand_row_view (row_with d (record { source = n; target = m })) ≡ net_demand known (demand_view d))
both_known_row known d n m h k =
    let both = both_known known (word_view d.source) (word_view d.target) n m h k in
    (both.0, ap (λ (e : Ends). demand_row_view (row_with d e)) both.1)
