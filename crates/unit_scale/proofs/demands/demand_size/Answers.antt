use Rattle.std.proofs.Common.{◌==◌}
use Rattle.unit_scale.specs.Sizes.{millionths}
use Rattle.unit_scale.proofs.Adding.{product-fine, demand-seen}
use Rattle.unit_scale.proofs.demands.demand_size.Goals as goal

pub returns-then-product-ne0 : goal.returns-then-product-ne0
returns-then-product-ne0 c = product-fine (millionths c.args.row.now.unit.now) (millionths c.args.row.now.value.now) c.in-Some.unit c.in-Some-word_size.value c.in-Some.ensures c.in-Some-word_size.ensures c.if-product-ne0.true

pub returns : goal.returns
returns c = rw (c.either.ensures, c.either-2.ensures) (demand-seen (millionths c.args.row.now.unit.now) (millionths c.args.row.now.value.now) c.in-Some.unit c.in-Some-word_size.value (c.args.row.now.source == c.args.row.now.target) c.in-Some.ensures c.in-Some-word_size.ensures c.if-product-ne0.false)
