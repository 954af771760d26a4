use Rattle.std.proofs.Common.{◌≡◌, inl, inr, ℕ, ◌<◌, ◌≤◌, arith, length, get_or, ap, ◌∙◌, subst}
use Rattle.std.proofs.lemmas.List.{length-map}
use Rattle.std.proofs.lemmas.Option.{get_or_from_slice_get}
use Rattle.std.specs.Prelude.{Some}
use Rattle.dijkstra_paths.specs.Arcs.{ends_of}
use Rattle.dijkstra_paths.proofs.Relaxed.{pass-inside}
use Rattle.dijkstra_paths.proofs.Opened.{ends-at, ends-inside, pass-from, no_cell, no_ends, taken-more}
use Rattle.dijkstra_paths.proofs.search.open_nodes.Goals as goal
use Rattle.dijkstra_paths.proofs.search.open_nodes.Goals.{then-are_apart+in-Some, then-are_apart+in_default, else-are_apart}

pub are_apart-requires-clause-ends : goal.are_apart-requires-clause-ends
are_apart-requires-clause-ends c =
    let cells = c.args.graph.now.cells in
    let is = c.ends-ends.ensures.value in
    let within : c.loop-number.number < length cells = omega (arith, ap length is, length-map cells ends_of, c.loop-number-test.true) in
    let inside = ends-inside c.args.graph.now c.ends-ends.result.now c.loop-number.number c.ends-ends.ensures.net is within in
    (omega (arith, inside.0, c.requires.nodes), omega (arith, inside.1, c.requires.nodes))

pub loop-number-preserved : goal.loop-number-preserved
loop-number-preserved c =
    let cells = c.args.graph.now.cells in
    let lengths = c.args.lengths.now in
    let dist = c.args.dist.now in
    let n = c.loop-number.number in
    let count = c.loop-number.count in
    let place = c.loop-number.place in
    let before = c.loop-number.invariant in
    let is = c.ends-ends.ensures.value in
    let within : n < length cells = omega (arith, ap length is, length-map cells ends_of, c.loop-number-test.true) in
    let ends : get_or c.ends-ends.result.now n no_ends ≡ ends_of (get_or cells n no_cell) = ends-at cells c.ends-ends.result.now n is within in
    elim c.if-are_apart.branch [
      | then-are_apart+in-Some w ↦
          let o = w.open-count in
          rw (w.order-is, w.place-is, w.keys-is, w.count-is) (record {
            state = o.ensures.state;
            keys = o.ensures.keys;
            taken = taken-more cells lengths dist place _ count _ n before.taken o.ensures.stays
                (λ u x p. elim (w.nearer_from.ensures.way u x p) [
                  | inl near ↦ inl near
                  | inr is ↦
                      let told : w.nearer_from.result ≡ Some w.in-Some.node = w.in-Some.is in
                      let same : w.in-Some.node ≡ u = cc in
                      inr (subst (λ (k : ℕ). get_or o.new.place k 0 < o.result) same o.ensures.opened)
                ]);
          })
      | then-are_apart+in_default w ↦
          rw (w.order-is, w.place-is, w.keys-is, w.count-is) (record {
            state = before.state;
            keys = before.keys;
            taken = taken-more cells lengths dist place place count count n before.taken (λ v l o. o)
                (λ u x p. elim (w.nearer_from.ensures.way u x p) [
                  | inl near ↦ inl near
                  | inr is ↦ absurd (w.in_default.not-Some u is)
                ]);
          })
      | else-are_apart w ↦
          rw (w.order-is, w.place-is, w.keys-is, w.count-is) (record {
            state = before.state;
            keys = before.keys;
            taken = taken-more cells lengths dist place place count count n before.taken (λ v l o. o)
                (λ u x p. inl (c.are_apart.ensures p.0 u x w.if-are_apart.false
                (ends ∙ ap ends_of (get_or_from_slice_get cells n p.0 no_cell p.1)) (c.requires.lengths.high n p.0 p.1 p.2) p.2 p.3));
          })
    ]

pub returns-clause-done : goal.returns-clause-done
returns-clause-done c = λ u closed cell x p.
    let cells = c.args.graph.now.cells in
    let net = c.cells-cells.ensures.net in
    let from = pass-from c.args.graph.now cell u x net p in
    let inside = pass-inside c.args.graph.now cell u x net p in
    let all : length cells ≤ c.loop-number.number = omega (arith, ap length c.ends-ends.ensures.value, length-map cells ends_of, c.loop-number-test.false) in
    elim (c.loop-number.invariant.taken cell u x (omega (arith, all, inside.1)) (omega (arith, from, c.requires.nodes)) p) [
      | inl near ↦ near
      | inr opened ↦ absurd (omega (arith, opened, closed))
    ]
