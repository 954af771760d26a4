use Rattle.std.proofs.Common.{◌≡◌, ◌<◌, Bor, length, map, sym, ap, ◌∙◌, arith}
use Rattle.flow_paths.specs.DualRows.{DualRows}
use Rattle.cut_bound.specs.Search.{own_at, row_at, seen}
use Rattle.cut_bound.proofs.Owning.{place-push, row-push, seen-at, seen-length}
use Rattle.cut_bound.proofs.own.push_rows.Goals as goal

pub loop-row-preserved : goal.loop-row-preserved
loop-row-preserved c =
    let own = c.args.own.now in
    let dual = c.args.dual in
    let row = c.loop-row.row in
    let at : own_at (seen own) dual ≡ c.index-own-dual.result.now = seen-at own dual c.index-own-dual.result c.requires ∙ ap (λ (x : Bor DualRows). x.now) (sym c.index-own-dual.is) in
    let inside : dual < length (seen own) = omega (arith, seen-length own, c.requires) in
    let here : row < length (own_at (seen own) dual).potentials = omega (arith, c.rows-count.ensures.count, ap (λ (d : DualRows). length d.potentials) at) in
    record {
      rows = row-push (seen own) c.loop-row.rows.items c.push.new.self.items (map (row_at (seen own)) c.args.rows.now.items) dual row here c.in_ok-push.ensures.items c.loop-row.invariant.rows;
      places = λ h. place-push (seen own) c.loop-row.rows.items c.push.new.self.items dual row inside here c.in_ok-push.ensures.items (c.loop-row.invariant.places h);
    }
