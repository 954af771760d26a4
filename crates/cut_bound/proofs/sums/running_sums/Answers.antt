use Rattle.std.proofs.Common.{arith, rules}
use Rattle.cut_bound.proofs.Leaving.{pushed}
use Rattle.cut_bound.proofs.sums.running_sums.Goals as goal

pub overflow_add-total : goal.overflow_add-total
overflow_add-total c =
    let s = c.requires.steps in
    omega (arith, s.1.small c.loop-j.j c.loop-j-test.true, c.loop-j.invariant.total s.0 s.1)

pub overflow_sub-total : goal.overflow_sub-total
overflow_sub-total c =
    let s = c.requires.steps in
    omega (arith, s.1.next c.loop-j.j c.loop-j-test.true, c.loop-j.invariant.total s.0 s.1)

pub loop-j-preserved : goal.loop-j-preserved
loop-j-preserved c = record {
  len = search rules;
  total = λ level s. omega (arith, s.next c.loop-j.j c.loop-j-test.true, c.loop-j.invariant.total level s);
  each = λ level s. pushed c.loop-j.sums.items c.push.new.self.items c.loop-j.total c.loop-j.j level c.in_ok-push.ensures.items c.loop-j.invariant.len (c.loop-j.invariant.total level s) (c.loop-j.invariant.each level s);
}

pub returns-clause-each : goal.returns-clause-each
returns-clause-each c = λ level s j l. c.loop-j.invariant.each level s j (omega arith)
