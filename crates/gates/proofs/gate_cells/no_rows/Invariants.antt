use Rattle.std.proofs.Common.{◌≡◌, All, length, []}
use Rattle.gates.proofs.gate_cells.no_rows.Given as goal

abbrev pub invariant-loop : goal.invariant-loop
invariant-loop l = record { count : length l.rows.items ≡ l.counter; empty : All (λ row. row.items ≡ []) l.rows.items }
