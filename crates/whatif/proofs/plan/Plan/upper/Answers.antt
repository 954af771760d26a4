use Rattle.std.proofs.Common.{◌≡◌, ◌∙◌, subst}
use Rattle.flow_paths.specs.Certificate.{upper_of}
use Rattle.flow_paths.specs.Evaluation.{edited}
use Rattle.whatif.specs.Planned.{Planned, IsPlanned}
use Rattle.whatif.proofs.Showing.{upper_is, upper_fits}
use Rattle.whatif.proofs.plan.Plan.upper.Goals as goal

pub new-requires : goal.new-requires
new-requires c =
    let p = c.self.inside in
    upper_fits _ p.loads.items p.lengths.items p.tree p.sum p.distance c.self.invariant.1

pub returns-clause-value : goal.returns-clause-value
returns-clause-value c =
    let p = c.self.inside in
    c.new.ensures ∙ subst (λ (v : Planned). record { num = p.sum; den = p.distance } ≡ upper_of (edited v.net v.caps) v.proof.dual) c.self.view_is (upper_is _ p.loads.items p.lengths.items p.tree p.sum p.distance c.self.invariant.1)

pub returns-clause-planned : goal.returns-clause-planned
returns-clause-planned c = subst IsPlanned c.self.view_is c.self.invariant.1.planned
