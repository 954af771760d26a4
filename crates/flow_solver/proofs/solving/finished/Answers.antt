use Rattle.std.proofs.Common.{◌∙◌, refl, sym, subst, inr}
use Rattle.solver_run.specs.History.{SolvedView}
use Rattle.solver_run.specs.Run.{IsSolverRun}
use Rattle.flow_solver.proofs.Ending.{phased-run}
use Rattle.flow_solver.proofs.Reaching.{notes-phase}
use Rattle.flow_solver.proofs.Routing.{noted-count}
use Rattle.flow_solver.proofs.solving.finished.Goals as goal

pub whole_history-requires : goal.whole_history-requires
whole_history-requires c = notes-phase c.args.net.now c.args.options.now c.args.ended.reached c.requires.options c.requires.reached c.requires.budget

pub new-requires : goal.new-requires
new-requires c =
    let is = c.requires.reached in
    let noted = c.in_ok-history.ensures in
    let rows = c.in_ok-paths.ensures.rows c.args.net.now noted.rows in
    λ k d l. (rows.entries k d l).count ∙ sym (c.in_ok-paths.ensures.commodities ∙ noted.commodities ∙ is.search.commodities)

pub returns-clause-run : goal.returns-clause-run
returns-clause-run c =
    let net = c.args.net.now in
    let o = c.args.options.now in
    let e = c.args.ended in
    let is = c.requires.reached in
    let last = is.made_are in
    let noted = c.in_ok-history.ensures in
    let rows = c.in_ok-paths.ensures.rows net noted.rows in
    let phases = c.in_ok-paths.ensures.phases ∙ noted.phases last.last last.routed ∙ sym last.phases_are in
    let count = c.phases-phases.ensures ∙ noted-count net e.reached.search.hands.items e.reached.search.history c.in_ok-history.history last.last noted last.routed in
    subst (λ (s : SolvedView). IsSolverRun net o s) (sym c.new.ensures)
    (inr (c.requires.no_cut, phased-run net o e.reached e.closed _ is c.requires.budget c.requires.closed c.requires.spent phases rows refl refl count refl refl refl))
