use Rattle.std.proofs.Common.{◌≡◌, ℕ, ◌<◌, ◌≤◌, length, get_or, take, All}
use Rattle.flow_paths.specs.Certificate.{length_of}
use Rattle.cert_check.proofs.tables.cell_lengths.Given as goal
use Rattle.mcf_limits.specs.declared.TheConstants.{MAX_LENGTH}

abbrev pub invariant-loop-i : goal.invariant-loop-i
invariant-loop-i l = record {
  len : length l.table.items ≡ l.cells;
  value : (c : ℕ) → c < l.cells → get_or l.table.items c 0 ≡ length_of (take l.i l.dual.lengths) c;
  limit : All (λ n. n ≤ MAX_LENGTH) l.table.items;
}
