use Rattle.std.proofs.Common.{ℕ, ◌∙◌, refl, ap, sym, subst, length, Err}
use Rattle.unit_scale.specs.declared.refusal.RowEnd.{RowEnd}
use Rattle.unit_scale.specs.Sizes.{AreDecimals, sizes}
use Rattle.unit_scale.specs.Sorts.{ScalesByParts}
use Rattle.unit_scale.proofs.Composition.{AreFine, cells_end, demands_end, decimals_of_rows, decimals_deref, none_large, some_kept, same_net, empty_end}
use Rattle.unit_scale.proofs.NetworkFacts.{network_ok, same_network, some_length, kept_rows, kept_same_count}
use Rattle.flow_model.specs.Network.{Network}
use Rattle.flow_model.specs.declared.net.Commodity.{Commodity}
use Rattle.unit_scale.proofs.scaled.scale_by_parts.Goals as goal

pub returns-in-Err-cells_of : goal.returns-in-Err-cells_of
returns-in-Err-cells_of c =
    let f : AreFine c.args.options.modules c.args.raw.now = record { links = c.in-Ok.ensures.0; demands = c.in-Ok-demand_sizes.ensures.0 } in
    let d : AreDecimals (sizes c.args.options.modules c.args.raw.now) c.least_decimals-decimals.result = decimals_of_rows c.args.options.modules c.args.raw.now c.in-Ok.links.items c.in-Ok-demand_sizes.demands.items c.least_decimals-decimals.result c.in-Ok.ensures.1 c.in-Ok-demand_sizes.ensures.1 (decimals_deref _ _ _ _ _ c.deref.ensures.value c.deref-2.ensures.value c.least_decimals-decimals.ensures) in
    subst (λ (e : RowEnd). ScalesByParts c.args.raw.now c.args.options (Err e)) (sym c.at_row-in-Err-cells_of.ensures) (cells_end c.args.raw.now c.args.options c.least_decimals-decimals.result c.in-Err-cells_of.end f d c.in-Err-cells_of.ensures)

pub returns-in-Err-kept_demands : goal.returns-in-Err-kept_demands
returns-in-Err-kept_demands c =
    let f : AreFine c.args.options.modules c.args.raw.now = record { links = c.in-Ok.ensures.0; demands = c.in-Ok-demand_sizes.ensures.0 } in
    let d : AreDecimals (sizes c.args.options.modules c.args.raw.now) c.least_decimals-decimals.result = decimals_of_rows c.args.options.modules c.args.raw.now c.in-Ok.links.items c.in-Ok-demand_sizes.demands.items c.least_decimals-decimals.result c.in-Ok.ensures.1 c.in-Ok-demand_sizes.ensures.1 (decimals_deref _ _ _ _ _ c.deref.ensures.value c.deref-2.ensures.value c.least_decimals-decimals.ensures) in
    subst (λ (e : RowEnd). ScalesByParts c.args.raw.now c.args.options (Err e)) (sym c.at_row-in-Err-kept_demands.ensures) (demands_end c.args.raw.now c.args.options c.least_decimals-decimals.result c.in-Err-kept_demands.end f d c.in-Ok-cells_of.ensures.0 c.in-Err-kept_demands.ensures)

pub returns-then-is_empty : goal.returns-then-is_empty
returns-then-is_empty c =
    let f : AreFine c.args.options.modules c.args.raw.now = record { links = c.in-Ok.ensures.0; demands = c.in-Ok-demand_sizes.ensures.0 } in
    let d : AreDecimals (sizes c.args.options.modules c.args.raw.now) c.least_decimals-decimals.result = decimals_of_rows c.args.options.modules c.args.raw.now c.in-Ok.links.items c.in-Ok-demand_sizes.demands.items c.least_decimals-decimals.result c.in-Ok.ensures.1 c.in-Ok-demand_sizes.ensures.1 (decimals_deref _ _ _ _ _ c.deref.ensures.value c.deref-2.ensures.value c.least_decimals-decimals.ensures) in
    subst (λ (e : RowEnd). ScalesByParts c.args.raw.now c.args.options (Err e)) (sym c.at_row-then-is_empty.ensures) (empty_end c.args.raw.now c.args.options c.least_decimals-decimals.result c.in-Ok-kept_demands.kept.commodities.items c.refused-end.result f d c.in-Ok-cells_of.ensures.0 c.in-Ok-kept_demands.ensures.0 c.in-Ok-kept_demands.ensures.1.commodities (rw c.as_slice.ensures.value at c.if-is_empty.ensures) (rw c.end_line.ensures at c.refused-end.ensures))

pub new-requires : goal.new-requires
new-requires c =
    let d : AreDecimals (sizes c.args.options.modules c.args.raw.now) c.least_decimals-decimals.result = decimals_of_rows c.args.options.modules c.args.raw.now c.in-Ok.links.items c.in-Ok-demand_sizes.demands.items c.least_decimals-decimals.result c.in-Ok.ensures.1 c.in-Ok-demand_sizes.ensures.1 (decimals_deref _ _ _ _ _ c.deref.ensures.value c.deref-2.ensures.value c.least_decimals-decimals.ensures) in
    same_network _ _ _ _ _ _ c.nodes.ensures.value c.in-Ok-cells_of.ensures.1 c.in-Ok-kept_demands.ensures.1.commodities (network_ok c.args.raw.now c.args.options c.least_decimals-decimals.result c.nodes.ensures.rows d c.in-Ok-cells_of.ensures.0 c.in-Ok-kept_demands.ensures.0 (some_length _ _ c.in-Ok-kept_demands.ensures.1.commodities (rw c.as_slice.ensures.value at c.if-is_empty.ensures)))

pub returns : goal.returns
returns c =
    let f : AreFine c.args.options.modules c.args.raw.now = record { links = c.in-Ok.ensures.0; demands = c.in-Ok-demand_sizes.ensures.0 } in
    let d : AreDecimals (sizes c.args.options.modules c.args.raw.now) c.least_decimals-decimals.result = decimals_of_rows c.args.options.modules c.args.raw.now c.in-Ok.links.items c.in-Ok-demand_sizes.demands.items c.least_decimals-decimals.result c.in-Ok.ensures.1 c.in-Ok-demand_sizes.ensures.1 (decimals_deref _ _ _ _ _ c.deref.ensures.value c.deref-2.ensures.value c.least_decimals-decimals.ensures) in
    record {
      options = refl;
      decimals = d;
      accepted = none_large c.args.options.modules c.args.raw.now c.least_decimals-decimals.result f c.in-Ok-cells_of.ensures.0 c.in-Ok-kept_demands.ensures.0 ∙ some_kept c.least_decimals-decimals.result c.args.raw.now c.in-Ok-kept_demands.kept.commodities.items c.in-Ok-kept_demands.ensures.1.commodities (rw c.as_slice.ensures.value at c.if-is_empty.ensures);
      net = same_net _ _ _ _ _ _ c.new.result c.new.ensures c.nodes.ensures.value c.in-Ok-cells_of.ensures.1 c.in-Ok-kept_demands.ensures.1.commodities;
      kept = c.in-Ok-kept_demands.ensures.1.rows;
      left = c.in-Ok-kept_demands.ensures.1.left;
      hops = c.hop_count.ensures;
    }

pub invariant_of-result : goal.invariant_of-result
invariant_of-result c =
    let kept = c.in-Ok-kept_demands.ensures.1 in
    record {
      decimals = c.least_decimals-decimals.ensures.within;
      count = ap (length {A = ℕ}) kept.rows ∙ kept_same_count c.least_decimals-decimals.result 0 c.args.raw.now.demands ∙ sym (ap (length {A = Commodity}) kept.commodities) ∙ sym (ap (λ (n : Network). length n.commodities) c.new.ensures);
      rows = kept_rows c.args.raw.now c.in-Ok-kept_demands.kept.rows.items c.nodes.ensures.rows kept.rows;
    }
