use Rattle.std.proofs.Common.{◌≡◌, ◌≤◌, length, take}
use Rattle.std.specs.Option.{option_map}
use Rattle.cert_lines.specs.Forms.{words_in}
use Rattle.cert_lines.specs.Rows.{cells_from}
use Rattle.mcf_limits.specs.declared.TheConstants.{MAX_PATH_CELLS}
use Rattle.cert_lines.proofs.CellSteps.{with_cells}
use Rattle.cert_lines.proofs.paths.cells_of.Given as goal

abbrev pub invariant-ids : goal.invariant-ids
invariant-ids l = record {
  so_far : with_cells (take l.count l.cells) (cells_from l.names l.count (words_in (option_map (λ w. w.now) l.left))) ≡ cells_from l.names 0 (words_in (option_map (λ w. w.now) l.fn.words));
  room : l.count ≤ MAX_PATH_CELLS;
  len : length l.cells ≡ MAX_PATH_CELLS;
}

abbrev pub decreases-ids : goal.decreases-ids
decreases-ids l = length (words_in (option_map (λ w. w.now) l.left))
