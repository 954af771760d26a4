use Rattle.std.proofs.Common.{ℕ, List, sym, subst}
use Rattle.hop_check.specs.Tables.{LayersBound}
use Rattle.hop_check.proofs.rows.rows_bound.Goals as goal

pub returns-then-rows_are_potentials : goal.returns-then-rows_are_potentials
returns-then-rows_are_potentials c = λ limits are.
    let layers = c.layers_bound.ensures limits are in
    let net = c.args.net.now in
    let rows = c.args.h.now.layers in (
      λ t. record {
        potentials = c.rows_are_potentials.ensures.0 c.if-rows_are_potentials.true;
        layers = subst (λ (l : List ℕ). LayersBound net limits l rows) c.requires.lengths (layers.0 t);
      },
      λ r. layers.1 (subst (λ (l : List ℕ). LayersBound net limits l rows) (sym c.requires.lengths) r.layers),
    )
