use Rattle.std.proofs.Common.{◌≡◌, ℕ, List, length, get_or, refl, sym, ap, ◌∙◌, arith}
use Rattle.std.proofs.lemmas.List.{with_items_is}
use Rattle.hop_paths.specs.Searched.{HopSearched, layer_dist}
use Rattle.hop_check.specs.LayerRows.{Layer}
use Rattle.hop_solve.specs.Run.{IsLayerWith}
use Rattle.hop_solve.specs.Numbers.{number_of, IsSearchedNumber}
use Rattle.hop_solve.proofs.Appending.{adds-more}
use Rattle.hop_solve.proofs.layering.push_layers.Goals as goal

pub loop-index-preserved : goal.loop-index-preserved
loop-index-preserved c =
    let s = c.args.finder.now.layered in
    let now = c.loop-index.finder in
    let i = c.loop-index.index in
    let whole : length c.put_numbers.new.values ≡ now.values.len = omega arith in
    let items = with_items_is now.values c.put_numbers.new.values whole in
    let values : c.deref.result.now ≡ c.put_numbers.new.values = c.deref.ensures.value ∙ items in
    let nodes : s.nodes ≡ now.layered.nodes = ap (λ (x : HopSearched). x.nodes) (sym c.loop-index.invariant.layered) in
    let row : Layer = record { node = c.args.node; index = i; values = c.deref.result.now } in
    let with : IsLayerWith s.nodes (IsSearchedNumber c.args.kind s) row = record {
      count = ap (λ (xs : List ℕ). length xs) values ∙ omega (arith, c.put_numbers.ensures.len, c.deref_mut.ensures.len, c.loop-index.invariant.values, c.requires.nodes);
      each = λ v l. ap (λ (xs : List ℕ). get_or xs v 0) values ∙ c.put_numbers.ensures.each v (omega (arith, l, nodes)) ∙ ap (λ (x : HopSearched). number_of c.args.kind (layer_dist x i v)) c.loop-index.invariant.layered;
    } in
    record {
      values = ap (λ (xs : List ℕ). length xs) items ∙ omega (arith, c.put_numbers.ensures.len, c.deref_mut.ensures.len, c.loop-index.invariant.values);
      plain = c.loop-index.invariant.plain;
      layered = c.loop-index.invariant.layered;
      layers = adds-more s.nodes c.args.node i (IsSearchedNumber c.args.kind s) c.args.layers.now c.loop-index.layers c.push.new.self row c.loop-index.invariant.layers c.in_ok-push.ensures.ok refl refl with;
    }
