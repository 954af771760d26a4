use Rattle.std.proofs.Common.{ℕ, List, ◌+◌, ◌<◌, take, length, get_or, sym, subst, arith}
use Rattle.flow_core.specs.Core.{add}
use Rattle.load_table.specs.declared.view.View.{View}
use Rattle.load_table.specs.Rule.{AllFit}
use Rattle.load_table.specs.Adding.{HasAddedAll, adds_along}
use Rattle.load_table.proofs.Adding.{may_add, adds_one, along-more, fresh-at}
use Rattle.load_table.proofs.Keeps.{leads-on, step_leads, add_fits}
use Rattle.load_table.proofs.loads.Loads.add_each.Goals as goal

pub add_for-requires-clause-may : goal.add_for-requires-clause-may
add_for-requires-clause-may c =
    let path = c.args.path.now in
    let i = c.loop-cell.cell-index in
    let l : i < length path = omega arith in
    may_add c.args.self.now.terms c.args.k (get_or path i 0) (take i path) c.args.pass.now.view c.loop-cell.pass.view c.requires.ready c.loop-cell.invariant.view (c.requires.inside i 0 l) (fresh-at path i l c.requires.different)

pub loop-cell-preserved : goal.loop-cell-preserved
loop-cell-preserved c =
    let t = c.args.self.now.terms in
    let path = c.args.path.now in
    let i = c.loop-cell.cell-index in
    let k = c.args.k in
    let d = get_or path i 0 in
    let pass = c.loop-cell.pass in
    let now = c.add_for.new.pass in
    let l : i < length path = omega arith in
    let may = may_add t k d (take i path) c.args.pass.now.view pass.view c.requires.ready c.loop-cell.invariant.view (c.requires.inside i 0 l) (fresh-at path i l c.requires.different) in
    record {
      of = c.add_for.ensures.of;
      view = subst (λ (ps : List (ℕ × ℕ)). HasAddedAll ps c.args.pass.now.view now.view) (sym (along-more k path i l))
          (adds_one k d c.add_for.result (adds_along k (take i path)) c.args.pass.now.view pass.view now.view c.loop-cell.invariant.view c.add_for.ensures.view);
      since = leads-on t c.args.pass.now.seen pass.seen now.seen c.loop-cell.invariant.since (step_leads t pass.view.hands pass.seen now.seen (λ n. add n k d) (d + 1) c.add_for.result c.add_for.ensures.step);
      works = λ _. subst (λ (v : View). AllFit now.seen v.hands) (sym c.add_for.ensures.view) (add_fits t k d c.add_for.result pass.view.hands pass.seen now.seen c.add_for.ensures.step may);
    }
