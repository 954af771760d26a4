-- The run of a network whose one cell has no capacity.
use Rattle.std.proofs.Common.{◌≡◌, inl, inr, ℕ, zero, suc, ◌<◌, [], ◌∷◌, Some, get_or, refl, arith}
use Rattle.std.specs.Prelude.{slice_get}
use Rattle.std.proofs.lemmas.List.Elements.{All-nil, All-cons}
use Rattle.flow_model.specs.declared.net.Cell.{Cell}
use Rattle.flow_model.specs.Network.{IsNetwork, IsCell, IsCommodity}
use Rattle.flow_model.specs.Least.{HasCut, IsCutOff}
use Rattle.flow_paths.specs.Certificate.{FractionsArePrinted}
use Rattle.dual_bound.specs.Bounds.{IsRowWith, IsCutPotential, IsCutDual}
use Rattle.solver_run.specs.Options.{AreOptions}
use Rattle.solver_run.specs.Run.{IsSolverRun}
use Rattle.solver_run.specs.Headline.{IsSolved}
use Rattle.solver_run.specs.Small.{small_options, cut_link, cut_solved}
use Rattle.solver_run.proofs.Solved.{run-solved}

pub cut-network : IsNetwork cut_link
cut-network = record {
  nodes = omega arith;
  cell_count = omega arith;
  commodity_count = omega arith;
  some = omega arith;
  cells = All-cons (IsCell 2) (record { tail = 0; head = 1; both = _; cap = 0 }) [] (record { tail = omega arith; head = omega arith; cap = omega arith }) (All-nil (IsCell 2));
  commodities = All-cons (IsCommodity 2) (record { from = 0; to = 1; amount = 1 }) [] (record { from = omega arith; to = omega arith; apart = λ e. absurd (omega arith); positive = omega arith; amount = omega arith }) (All-nil (IsCommodity 2));
  total = omega arith;
}

pub cut-options : AreOptions cut_link small_options
cut-options = record { gap = omega arith; some_phase = omega arith; phases = omega arith; some_worker = omega arith; workers = omega arith; some_step = omega arith; step = omega arith; work = omega arith }

off : IsCutOff cut_link.cells 0 1
off [] w = absurd (omega (arith, w))
off (zero ∷ walk) w = let cap : w.1.0.cap ≡ 0 = cap-is w.1.0 w.1.1 in absurd (omega (arith, w.1.2))
  where
    cap-is : (cell : Cell) → slice_get cut_link.cells 0 ≡ Some cell → cell.cap ≡ 0
    cap-is cell at = cc
off (suc c ∷ walk) w = absurd (none w.1.0 w.1.1)
  where
    none : (cell : Cell) → slice_get cut_link.cells (suc c) ≡ Some cell → ⊥
    none cell at = cc

row : (v : ℕ) → v < 2 → IsCutPotential cut_link.cells 0 v (get_or (0 ∷ 1 ∷ []) v 0)
row zero l = inl (([], refl), refl)
row (suc zero) l = inr (off, refl)
row (suc (suc v)) l = absurd (omega arith)

dual : IsCutDual cut_link cut_solved.proof.dual
dual = record {
  lengths_are = refl;
  sources = refl;
  potentials = All-cons (IsRowWith 2 (IsCutPotential cut_link.cells)) (record { node = 0; values = 0 ∷ 1 ∷ [] }) [] (record { count = refl; each = row }) (All-nil (IsRowWith 2 (IsCutPotential cut_link.cells)));
}

cut : HasCut cut_link
cut = (0, record { from = 0; to = 1; amount = 1 }, omega arith, refl, off)

pub cut-run : IsSolverRun cut_link small_options cut_solved
cut-run = inl (cut, refl, record { closed = refl; gap = refl; phases = refl; scale_cap = refl; scale_load = refl; paths = refl; dual = dual })

printed : FractionsArePrinted cut_link cut_solved.proof
printed = record { lower = record { num = refl; den = refl; decimals = refl }; upper = record { num = refl; den = refl; decimals = refl } }

pub cut-solved : IsSolved cut_link small_options cut_solved
cut-solved = run-solved cut_link small_options cut_solved cut-network cut-options cut-run printed (omega arith) (omega arith)
