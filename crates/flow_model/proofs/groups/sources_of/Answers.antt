use Rattle.std.proofs.Common.{arith, ◌≡◌, ◌∙◌, true, false, length, get_or, sym, refl, append-nil}
use Rattle.std.proofs.lemmas.Bool.{lt-ltb, le-ltb}
use Rattle.flow_model.specs.Groups.{is_source}
use Rattle.flow_model.specs.Grouped.{first_from}
use Rattle.flow_model.proofs.Grouping.{sources-more, source-is}
use Rattle.flow_model.proofs.groups.sources_of.Goals as goal
use Rattle.flow_model.proofs.groups.sources_of.Goals.{then-first-v+in_ok-push, else-first-v}

pub loop-v-preserved : goal.loop-v-preserved
loop-v-preserved c =
    let cs = c.args.commodities.now in
    let v = c.loop-v.v in
    let e : get_or c.as_slice-first.result.now v 0 ≡ first_from cs 0 v = rw c.as_slice-first.ensures.value (c.requires.chains.first_is v (omega (arith, c.requires.nodes))) in
    elim c.if-first-v.branch [
      | then-first-v+in_ok-push w ↦
          let test : is_source cs v ≡ true = sym (source-is cs v) ∙ lt-ltb (first_from cs 0 v) (length cs) (rw e at w.if-first-v.true) in
          rw (sources-more (is_source cs) v, test, w.sources-is, w.in_ok-push.ensures.items, c.loop-v.invariant) refl
      | else-first-v w ↦
          let test : is_source cs v ≡ false = sym (source-is cs v) ∙ le-ltb (first_from cs 0 v) (length cs) (rw e at w.if-first-v.false) in
          rw (sources-more (is_source cs) v, test, w.sources-is, c.loop-v.invariant) (sym (append-nil _))
    ]
