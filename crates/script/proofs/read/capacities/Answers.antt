use Rattle.std.proofs.Common.{◌∙◌, ap, subst, length, ℕ, get_or, arith}
use Rattle.std.proofs.lemmas.List.FromFn.{length-map-range_with_len}
use Rattle.unit_scale.specs.declared.options.NetOptions.{NetOptions}
use Rattle.flow_model.specs.Network.{Network, IsNetwork}
use Rattle.unit_scale.specs.Names.{cells_of}
use Rattle.unit_scale.specs.Closed.{caps_of}
use Rattle.script.proofs.Capacities.{cap_more}
use Rattle.script.proofs.read.capacities.Goals as goal

pub loop-link-preserved : goal.loop-link-preserved
loop-link-preserved c = record {
  are =
      cap_more c.args.net.now.options.links c.args.net.now.net c.args.links c.loop-link.link c.cells_of-first.result c.cells-cells.result.now _ c.loop-link.caps.items c.push.new.self.items
      (subst IsNetwork c.net.ensures.value c.cells-cells.ensures.net) (c.cells-cells.ensures.value ∙ ap (λ (n : Network). n.cells) c.net.ensures.value) c.requires.cells c.loop-link-test.true (c.cells_of-first.ensures ∙ ap (λ (o : NetOptions). cells_of o.links c.loop-link.link) c.options-mode.ensures) c.loop-link.invariant.are c.in_ok-push.ensures.items;
}

pub returns-clause-count : goal.returns-clause-count
returns-clause-count c =
    let mode = c.args.net.now.options.links in
    let caps = caps_of c.args.net.now.net in
    ap length c.loop-link.invariant.are.value ∙ (length-map-range_with_len (λ (link : ℕ). get_or caps (cells_of mode link) 0) 0 c.loop-link.link ∙ omega arith)
