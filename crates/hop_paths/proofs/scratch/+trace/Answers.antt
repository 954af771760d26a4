use Rattle.std.proofs.Common.{◌++◌, ap, sym, ◌∙◌, arith, List, ℕ, drop}
use Rattle.hop_paths.proofs.Traced.{trail-some, trail-none}
use Rattle.hop_paths.proofs.scratch.+trace.Goals as goal

pub returns-in-Some-clause-value : goal.returns-in-Some-clause-value
returns-in-Some-clause-value t c =
    trail-some c.args.steps.now c.args.nodes c.args.layer c.args.to c.in-Some.step c.args.path.now (drop c.trace.result c.trace.new.path) c.args.end (omega arith) (omega arith) c.requires.end (sym c.step_to.ensures ∙ c.in-Some.is) c.trace.ensures.value

pub returns-in-None-clause-value : goal.returns-in-None-clause-value
returns-in-None-clause-value t c =
    c.trace-in-None.ensures.value ∙ ap (λ (xs : List ℕ). xs ++ drop c.args.end c.args.path.now) (trail-none c.args.steps.now c.args.nodes c.args.layer c.args.to (omega arith) (sym c.step_to.ensures ∙ c.in-None.is))
