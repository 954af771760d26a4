use Rattle.std.proofs.Common.{◌≡◌, ◌+◌, ◌*◌, ℕ, List, length, sym, subst, arith}
use Rattle.mcf_limits.specs.declared.TheConstants.{MAX_HOPS}
use Rattle.cert_check.proofs.Counting.{cond_le}
use Rattle.hop_paths.specs.Allowed.{has_layer}
use Rattle.hop_check.specs.Tables.{IsPlaced}
use Rattle.hop_check.proofs.AskedRows.{placed_where}
use Rattle.hop_check.proofs.rows.hop_weighted_distance.Goals as goal

pub layer_places-requires-clause-once : goal.layer_places-requires-clause-once
layer_places-requires-clause-once c = λ v i lv li.
    let h = c.requires.asked_layers v i (omega (arith, c.nodes.ensures.value)) in
    let few = cond_le (has_layer c.args.net.now c.args.limits.now v i) in
    omega arith

pub bottom-requires-clause-placed : goal.bottom-requires-clause-placed
bottom-requires-clause-placed c = λ v i lv has.
    let net = c.args.net.now in
    let nodes : c.nodes.result ≡ net.nodes = c.nodes.ensures.value in
    let places = c.in_ok-places.places.items in
    let len : length places ≡ net.nodes * (MAX_HOPS + 1) = omega (arith, c.in_ok-places.ensures.len, nodes) in
    let there = placed_where net c.args.limits.now places c.args.layers.now v i c.requires.limits c.requires.layers c.requires.asked_layers len
    (λ s j ls lj one. c.in_ok-places.ensures.value s j (omega (arith, nodes)) lj one) lv has in
    subst (λ (l : List ℕ). IsPlaced net.nodes c.args.layers.now l v i) (sym c.deref.ensures.value) there
