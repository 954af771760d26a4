use Rattle.std.specs.Arc.{arc_value}
use Rattle.std.proofs.Common.{◌≡◌, ◌≢◌, ◌*◌, ◌≤◌, ◌∙◌, subst, arith, ap, ℕ}
use Rattle.mcf_limits.specs.declared.TheConstants.{MAX_PHASES}
use Rattle.flow_paths.specs.Evaluation.{edited, lower_under}
use Rattle.whatif.specs.Planned.{Planned}
use Rattle.whatif.proofs.Showing.{tree_some, top_loaded, lower_fits, lower_is}
use Rattle.whatif.proofs.plan.Plan.lower.Goals as goal

pub top-top-requires : goal.top-top-requires
top-top-requires c =
    let p = c.self.inside in
    tree_some _ p.loads.items p.lengths.items p.tree p.sum p.distance c.self.invariant.1 (λ e. c.if-self-eq0.false (c.self.invariant.0 ∙ e))

pub new-requires-2 : goal.new-requires-2
new-requires-2 c =
    let p = c.self.inside in
    let some : (arc_value p.source).proof.value.routing.phases ≢ 0 = λ e. c.if-self-eq0.false (c.self.invariant.0 ∙ e) in
    let loaded = top_loaded _ p.loads.items p.lengths.items p.tree p.sum p.distance c.top-top.result c.self.invariant.1 c.top-top.ensures.least c.top-top.ensures.ratio some in
    let few : p.phases ≤ MAX_PHASES = omega (arith, c.self.invariant.0, c.self.invariant.1.planned.proof.routing.phases) in
    lower_fits p.phases c.top-top.result few c.top-top.ensures.ratio loaded

pub returns : goal.returns
returns c =
    let p = c.self.inside in
    let r = c.top-top.result in
    let some : (arc_value p.source).proof.value.routing.phases ≢ 0 = λ e. c.if-self-eq0.false (c.self.invariant.0 ∙ e) in
    let loaded = top_loaded _ p.loads.items p.lengths.items p.tree p.sum p.distance r c.self.invariant.1 c.top-top.ensures.least c.top-top.ensures.ratio some in
    let is = lower_is _ p.loads.items p.lengths.items p.tree p.sum p.distance r c.self.invariant.1 c.top-top.ensures.least loaded some in
    c.new-2.ensures ∙ (ap (λ (n : ℕ). record { num = n * r.cap; den = r.load }) c.self.invariant.0 ∙ subst (λ (v : Planned). record { num = (arc_value p.source).proof.value.routing.phases * r.cap; den = r.load } ≡ lower_under (edited v.net v.caps) v.proof.routing.phases v.proof.routing.paths) c.self.view_is is)
