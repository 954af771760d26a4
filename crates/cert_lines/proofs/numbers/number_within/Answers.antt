use Rattle.std.proofs.Common.{◌≡◌, true, sym}
use Rattle.cert_lines.specs.Numbers.{is_number}
use Rattle.cert_lines.proofs.NumberSteps.{one_more, over}
use Rattle.cert_lines.proofs.numbers.number_within.Goals as goal

pub returns-then-value-most-clause-exact : goal.returns-then-value-most-clause-exact
returns-then-value-most-clause-exact c =
    let is : is_number c.args.word.now ≡ true = cc in
    sym (over c.args.word.now _ _ c.args.most is (one_more c.args.word.now c.loop-b.b-index c.loop-b.value is c.loop-b-test.true c.loop-b.invariant.value_is) c.if-value-most.true)

pub loop-b-preserved : goal.loop-b-preserved
loop-b-preserved c =
    let is : is_number c.args.word.now ≡ true = cc in
    record {
      value_is = one_more c.args.word.now c.loop-b.b-index c.loop-b.value is c.loop-b-test.true c.loop-b.invariant.value_is;
      within = c.if-value-most.false;
    }
