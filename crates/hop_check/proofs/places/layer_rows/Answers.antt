use Rattle.std.proofs.Common.{◌≡◌, ap, ◌∙◌, arith, eqb, List, take}
use Rattle.std.specs.Prelude.{count_by}
use Rattle.std.proofs.lemmas.List.{take_all}
use Rattle.hop_check.specs.LayerRows.{Layer}
use Rattle.hop_check.specs.Tables.{place_of}
use Rattle.hop_check.proofs.Placing.{counts-placed, place_within}
use Rattle.hop_check.proofs.places.layer_rows.Goals as goal

pub returns-clause-value : goal.returns-clause-value
returns-clause-value c =
    let rows = c.args.layers.now in
    let whole : take c.loop-i.i rows ≡ rows = take_all c.loop-i.i rows (omega arith) in
    λ s i ls li. c.loop-i.invariant.value (place_of s i) (place_within c.args.nodes s i ls li)
    ∙ ap (λ (l : List Layer). count_by (λ r. eqb (place_of r.node r.index) (place_of s i)) l) whole ∙ counts-placed c.args.nodes rows s i c.requires li
