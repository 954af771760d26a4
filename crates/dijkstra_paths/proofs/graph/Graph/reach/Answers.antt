use Rattle.std.proofs.Common.{◌≡◌, ◌<◌, List, Bool, true, length, get_or, arith, sym, subst, ap, ◌∙◌, length-set}
use Rattle.std.proofs.lemmas.List.{with_items_is}
use Rattle.std.proofs.lemmas.Grind.{get_or_default_zero}
use Rattle.dijkstra_paths.specs.Reach.{MarksEnds}
use Rattle.dijkstra_paths.proofs.Relaxed.{pass-inside}
use Rattle.dijkstra_paths.proofs.Spreading.{spreading-first, spreading-more, spreading-done}
use Rattle.dijkstra_paths.proofs.graph.Graph.reach.Goals as goal

pub loop-next-init : goal.loop-next-init
loop-next-init c =
    let marks = c.in_ok-marks.marks.items in
    let inside : c.args.from < length marks = omega (arith, c.in_ok-marks.ensures.count) in
    record {
      count = length-set marks c.args.from true ∙ (c.in_ok-marks.ensures.count ∙ c.nodes.ensures.value);
      state = rw (c.in_ok-push.ensures.items, c.in_ok-found.ensures.items) (spreading-first c.args.self.now.cells marks c.args.from inside c.in_ok-marks.ensures.off);
    }

pub mark_ends-requires : goal.mark_ends-requires
mark_ends-requires c = λ k d l.
    let over = c.out.ensures.over k d l in
    omega (arith, pass-inside c.args.self.now (get_or c.out.result.now k d).cell c.index-node.result.now (get_or c.out.result.now k d).to c.out.ensures.net over, c.loop-next.invariant.count, ap (λ (xs : List Bool). length xs) c.deref_mut.ensures.value)

pub loop-next-preserved : goal.loop-next-preserved
loop-next-preserved c =
    let old = c.loop-next.marks.items in
    let new = c.mark_ends.new.marks in
    let found = c.loop-next.found.items in
    let found' = c.mark_ends.new.found.items in
    let node = c.index-node.result.now in
    let m : MarksEnds c.out.result.now old new found found' = subst (λ (xs : List Bool). MarksEnds c.out.result.now xs new found found') c.deref_mut.ensures.value c.in_ok-mark_ends.ensures.marks in
    let whole : length new ≡ c.loop-next.marks.len = omega (arith, m.size) in
    let next : c.loop-next.next < length found = omega arith in
    let at : get_or found c.loop-next.next 0 ≡ node = sym (get_or_default_zero found c.loop-next.next node next) ∙ sym c.index-node.ensures in
    let same = with_items_is c.loop-next.marks new whole in
    let cells = c.args.self.now.cells in
    record {
      count = rw same (omega (arith, m.size, c.loop-next.invariant.count));
      state = rw same (spreading-more cells c.out.result.now c.args.from old new found found' c.loop-next.next node c.loop-next.invariant.state next at m c.in_ok-mark_ends.ensures.all c.out.ensures.over c.out.ensures.each);
    }

pub loop-next-smaller : goal.loop-next-smaller
loop-next-smaller c =
    let old = c.loop-next.marks.items in
    let new = c.mark_ends.new.marks in
    let found = c.loop-next.found.items in
    let found' = c.mark_ends.new.found.items in
    let m : MarksEnds c.out.result.now old new found found' = subst (λ (xs : List Bool). MarksEnds c.out.result.now xs new found found') c.deref_mut.ensures.value c.in_ok-mark_ends.ensures.marks in
    let whole : length new ≡ c.loop-next.marks.len = omega (arith, m.size) in
    let same = with_items_is c.loop-next.marks new whole in
    let next : c.loop-next.next < length found = omega arith in
    rw same (omega (arith, m.work, m.longer))

pub returns-clause-reached : goal.returns-clause-reached
returns-clause-reached c = spreading-done c.args.self.now.cells c.args.from c.loop-next.marks.items c.loop-next.found.items c.loop-next.next c.loop-next.invariant.state (omega arith)
