use Rattle.hop_check.proofs.rows.rows_are_asked.Goals as goal

pub returns-then-potentials : goal.returns-then-potentials
returns-then-potentials c =
    let layers = c.in_ok-layers.ensures c.args.limits.now c.requires.counts in (
      λ t. record {
        potentials = c.in_ok-potentials.ensures.0 c.if-potentials.true;
        layers = layers.0 t;
      },
      λ r. layers.1 r.layers,
    )
