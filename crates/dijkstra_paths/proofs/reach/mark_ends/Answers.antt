use Rattle.std.proofs.Common.{◌≡◌, ◌<◌, ℕ, Vec, Global, length, ◌++◌, ◌∷◌, [], arith, refl, ap, ◌∙◌}
use Rattle.dijkstra_paths.specs.Reach.{end_at}
use Rattle.dijkstra_paths.proofs.Spreading.{ends-more, all-kept, all-more}
use Rattle.dijkstra_paths.proofs.reach.mark_ends.Goals.{then-not-marks-to+in_ok-push, else-not-marks-to}
use Rattle.dijkstra_paths.proofs.reach.mark_ends.Goals as goal

pub loop-arc-preserved : goal.loop-arc-preserved
loop-arc-preserved c =
    let arcs = c.args.arcs.now in
    let k = c.loop-arc.arc-index in
    let v = end_at arcs k in
    let marks = c.loop-arc.marks in
    let found = c.loop-arc.found.items in
    let within : v < length marks = omega (arith, c.requires k (record { cell = 0; to = 0 }) c.loop-arc-test.true) in
    elim c.if-not-marks-to.branch [
      | then-not-marks-to+in_ok-push w ↦
          let items : c.if-not-marks-to.found.items ≡ found ++ v ∷ [] = ap (λ (x : Vec ℕ Global). x.items) w.found-is ∙ w.in_ok-push.ensures.items in
          record {
            marks = rw (w.marks-is, items) (ends-more arcs c.args.marks.now marks c.args.found.now.items found k v c.loop-arc.invariant.marks c.loop-arc-test.true refl within w.if-not-marks-to.true);
            all = rw w.marks-is (all-kept arcs marks k v within refl c.loop-arc.invariant.all);
          }
      | else-not-marks-to w ↦ record {
        marks = rw (w.marks-is, w.found-is) c.loop-arc.invariant.marks;
        all = rw w.marks-is (all-more arcs marks k w.if-not-marks-to.false c.loop-arc.invariant.all);
      }
    ]
