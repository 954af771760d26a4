use Rattle.std.proofs.Common.{◌≡◌, ◌<◌, length, get_or, sym, ◌∙◌}
use Rattle.cut_bound.specs.Cuts.{side_lengths}
use Rattle.cut_bound.specs.Search.{marked}
use Rattle.cut_bound.proofs.Making.{lengths-more, side-length, sides-long}
use Rattle.cut_bound.proofs.made.with_side_lengths.Goals as goal

pub loop-c-preserved : goal.loop-c-preserved
loop-c-preserved c =
    let net = c.args.net.now in
    let side = marked c.args.side.now in
    let cells = c.cells-cell-items.result.now in
    let i = c.loop-c.c in
    let value : c.side_length.result ≡ get_or (side_lengths net side) i 0 = c.side_length.ensures.value ∙ sym (side-length net side cells i _ c.cells-cell-items.ensures.value c.loop-c-test.true) in
    let inside : i < length (side_lengths net side) = sides-long net side cells i c.cells-cell-items.ensures.value c.loop-c-test.true in
    lengths-more (side_lengths net side) i c.side_length.result c.loop-c.dual c.push_length.new.self inside value c.loop-c.invariant c.in_ok-push_length.ensures.ok
