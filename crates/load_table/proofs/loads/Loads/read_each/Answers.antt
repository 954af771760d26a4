use Rattle.std.proofs.Common.{ℕ, List, ◌≡◌, ◌+◌, ◌<◌, ◌≤◌, take, length, min, sym, ap, ◌∙◌, subst, arith, rules}
use Rattle.std.proofs.lemmas.List.{get_or_default, length-take, take_more_set}
use Rattle.mcf_limits.specs.declared.TheConstants.{MAX_LENGTH}
use Rattle.flow_core.specs.Core.{read, cell_count}
use Rattle.load_table.specs.declared.view.View.{View}
use Rattle.load_table.specs.Rule.{AllFit, MayRead}
use Rattle.load_table.specs.Views.{with_work}
use Rattle.load_table.specs.Reading.{reads_all}
use Rattle.load_table.proofs.Works.{reads_one, may_read, small-more}
use Rattle.load_table.proofs.Keeps.{leads-on, step_leads, read_fits}
use Rattle.load_table.proofs.loads.Loads.read_each.Goals as goal

pub loop-cell-preserved : goal.loop-cell-preserved
loop-cell-preserved c =
    let t = c.args.self.now.terms in
    let pass = c.loop-cell.pass in
    let reads = c.loop-cell.reads in
    let i = c.loop-cell.cell in
    let x = c.read_shared.result in
    let few : i < cell_count t = search rules in
    let may : MayRead t i pass.view.hands = may_read t i (take i reads) c.args.pass.now.view pass.view c.requires.fresh c.loop-cell.invariant.view (length-take i reads ∙ (let z : min i (length reads) ≡ i = omega arith in z)) few in
    record {
      of = c.read_shared.ensures.of;
      view = c.read_shared.ensures.view ∙ (reads_one x (take i reads) c.args.pass.now.view pass.view c.loop-cell.invariant.view ∙ ap (λ (rs : List ℕ). with_work (reads_all rs) c.args.pass.now.view) (sym (take_more_set reads i x (omega arith))));
      small = small-more reads i x MAX_LENGTH (omega arith) c.loop-cell.invariant.small c.read_shared.ensures.within;
      since = leads-on t c.args.pass.now.seen pass.seen c.read_shared.new.pass.seen c.loop-cell.invariant.since (step_leads t pass.view.hands pass.seen c.read_shared.new.pass.seen read (i + 1) x c.read_shared.ensures.step);
      works = λ _. subst (λ (v : View). AllFit c.read_shared.new.pass.seen v.hands) (sym c.read_shared.ensures.view)
          (read_fits t i x pass.view.hands pass.seen c.read_shared.new.pass.seen c.read_shared.ensures.step may);
    }

pub returns-clause-small : goal.returns-clause-small
returns-clause-small c = λ k d l. subst (λ (x : ℕ). x ≤ MAX_LENGTH) (get_or_default c.loop-cell.reads k 0 d l) (c.loop-cell.invariant.small k (omega arith))
