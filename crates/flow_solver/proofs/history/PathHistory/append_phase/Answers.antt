use Rattle.std.proofs.Common.{◌≡◌, ◌++◌, ◌∷◌, [], List, sym, ap, ◌∙◌, subst}
use Rattle.solver_run.specs.declared.options.Entry.{Entry}
use Rattle.flow_solver.specs.Rows.{HistoryView, AreRowsFor}
use Rattle.flow_solver.proofs.Named.{ends, names_below}
use Rattle.flow_solver.proofs.history.PathHistory.append_phase.Goals as goal

pub invariant_of-self-2 : goal.invariant_of-self-2
invariant_of-self-2 c =
    let net = c.args._net.now in
    let rows = c.args.self.now.rows in
    let h = c.args.self.now.history in
    let es = c.args.entries.now in
    let r : c.self.inside.paths ≡ rows = ap (λ (v : HistoryView). v.rows) c.self.view_is in
    let p : c.push.new.self.phases ≡ h ++ es ∷ [] = c.in_ok-push.ensures.ok ∙ ap (λ (t : List (List Entry)). t ++ es ∷ []) (ap (λ (v : HistoryView). v.history) c.self.view_is) in
    let are : AreRowsFor net c.push.new.self.phases c.self.inside.paths =
    subst (AreRowsFor net c.push.new.self.phases) (sym r) (subst (λ (t : List (List Entry)). AreRowsFor net t rows) (sym p) (ends net h es rows c.requires.begun c.requires.count)) in
    names_below net c.self.inside.paths c.push.new.self.phases are.entries
