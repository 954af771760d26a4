use Rattle.std.proofs.Common.{ℕ, List, get_or, ap, ◌∙◌, arith}
use Rattle.hop_check.specs.Tables.{place_of}
use Rattle.hop_check.proofs.AskedRows.{are_named, layers-tested}
use Rattle.hop_check.proofs.rows.layers_are_asked.Goals as goal

pub layer_rows-requires : goal.layer_rows-requires
layer_rows-requires c = λ k d lt. let r = c.requires.rows k d lt in (omega (arith, r.node, c.nodes.ensures.value), r.index)

pub returns : goal.returns
returns c = λ limits are.
    layers-tested c.args.net.now limits c.args.counts.now c.deref.result.now c.args.layers.now c.are_asked.result are (are_named c.args.net.now c.args.layers.now c.requires.rows)
    (λ v i lv li. ap (λ (l : List ℕ). get_or l (place_of v i) 0) c.deref.ensures.value ∙ c.in_ok-rows.ensures.value v i (omega (arith, c.nodes.ensures.value)) li) c.are_asked.ensures
