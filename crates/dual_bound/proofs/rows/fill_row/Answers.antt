use Rattle.std.proofs.Common.{◌≡◌, ◌≤◌, ◌<◌, ℕ, List, length, get_or, arith, refl, sym, subst, ap, ◌∙◌}
use Rattle.std.specs.Prelude.{All}
use Rattle.std.proofs.lemmas.List.{with_items_is}
use Rattle.mcf_limits.specs.declared.TheConstants.{MAX_LENGTH}
use Rattle.dijkstra_paths.specs.Searched.{dist_at}
use Rattle.dual_bound.specs.Bounds.{IsDistance}
use Rattle.dual_bound.specs.Rows.{weighted_from}
use Rattle.dual_bound.proofs.rows.fill_row.Goals as goal

pub returns-clause-row : goal.returns-clause-row
returns-clause-row c =
    let net = c.args.graph.now in
    let lengths = c.args.lengths.now in
    let row = c.args.row.now in
    let values = c.put_distances.new.values in
    let many : length values ≡ net.nodes = omega (arith, c.requires.row.room.count, ap (λ (xs : List ℕ). length xs) c.deref_mut.ensures.value) in
    let whole : length values ≡ row.values.len = omega (arith, c.requires.row.room.count) in
    let same = with_items_is row.values values whole in
    record {
      source = refl;
      targets = refl;
      filled = λ on. record {
        node = c.requires.row.room.source;
        count = ap (λ (xs : List ℕ). length xs) same ∙ many;
        small = subst (λ (xs : List ℕ). All (λ x. x ≤ MAX_LENGTH) xs) (sym same) c.put_distances.ensures.small;
        each = λ v l.
            let inside : v < c.search_from.new.self.nodes = omega (arith, c.search_from.ensures.nodes, c.requires.scratch) in
            subst (λ (xs : List ℕ). IsDistance net.cells lengths row.source v (get_or xs v 0)) (sym same) (dist_at c.search_from.new.self v, c.search_from.ensures.least v inside, c.put_distances.ensures.each v inside);
        weighted = c.weighted_sum-row.ensures ∙ (ap (weighted_from row.source c.deref-2.result.now) c.deref.ensures.value ∙ ap (λ (vs : List ℕ). weighted_from row.source vs row.targets.items) c.deref-2.ensures.value);
      };
    }
