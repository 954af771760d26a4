use Rattle.std.proofs.Common.{refl, sym, ap, subst, inl}
use Rattle.flow_solver.specs.Phases.{EntriesView}
use Rattle.solver_run.specs.History.{SolvedView}
use Rattle.solver_run.specs.Run.{IsSolverRun}
use Rattle.dual_bound.proofs.Bounding.{has-cut}
use Rattle.flow_solver.proofs.solving.cut_off.Goals as goal

pub returns-clause-run : goal.returns-clause-run
returns-clause-run c =
    let net = c.args.net.now in
    let o = c.args.options.now in
    let cut = has-cut net c.requires.cut.0 c.requires.cut.1 in
    subst (λ (s : SolvedView). IsSolverRun net o s) (sym c.new-3.ensures)
    (inl (
      cut,
      ap (λ (e : EntriesView). e.phases) c.new-entries.ensures,
      record {
        closed = refl;
        gap = refl;
        phases = refl;
        scale_cap = refl;
        scale_load = refl;
        paths = c.new.ensures;
        dual = c.in_ok-dual.ensures.dual;
      },
    ))
