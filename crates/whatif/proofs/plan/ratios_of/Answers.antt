use Rattle.std.proofs.Common.{◌∷◌, [], ◌++◌, ◌∙◌, ap, sym, arith, List, take, rules}
use Rattle.whatif.specs.declared.ratio.Ratio.{Ratio}
use Rattle.whatif.specs.Ratios.{ratios}
use Rattle.cert_check.proofs.WalkSteps.{no_cell}
use Rattle.whatif.proofs.Filling.{ratios-more}
use Rattle.whatif.proofs.plan.ratios_of.Goals as goal

pub loop-c-preserved : goal.loop-c-preserved
loop-c-preserved c =
    let cells = c.args.cells.now in
    let loads = c.args.loads.now in
    let i = c.loop-c.c in
    record {
      value = c.in_ok-push.ensures.items ∙ (ap (λ (l : List Ratio). l ++ c.ratio_of.result ∷ []) c.loop-c.invariant.value ∙ (ap (λ (r : Ratio). ratios 0 (take i cells) loads ++ r ∷ []) c.ratio_of.ensures.value ∙ sym (ratios-more cells loads i no_cell c.loop-c-test.true (omega arith))));
      all = search rules;
    }
