use Rattle.std.proofs.Common.{◌≡◌, ◌+◌, ◌++◌, replicate}
use Rattle.std.specs.Prelude.{vec_len, vec_capacity}
use Rattle.phase_engine.proofs.route_buffer.append_blank.Given as goal

abbrev pub invariant-loop : goal.invariant-loop
invariant-loop l = record {
  items : l.cells.items ≡ l.initial.cells.items ++ replicate l.counter 0;
  len : vec_len l.cells ≡ vec_len l.initial.cells + l.counter;
  capacity : vec_capacity l.cells ≡ vec_capacity l.initial.cells;
}
