use Rattle.std.proofs.Common.{◌≡◌, ◌<◌, ◌≤◌, ℕ, length, eqb, List, take, ap, sym, subst, ◌∙◌, arith, length-set}
use Rattle.std.specs.Prelude.{count_by, find}
use Rattle.std.proofs.lemmas.List.{take_all}
use Rattle.mcf_limits.specs.declared.TheConstants.{MAX_HOPS}
use Rattle.flow_paths.proofs.Counting.{numbered}
use Rattle.hop_check.specs.LayerRows.{Layer, no_layer, layer_at}
use Rattle.hop_check.specs.Tables.{place_of}
use Rattle.hop_check.proofs.Placing.{counts-placed, finds-placed, place_within}
use Rattle.hop_check.proofs.places.layer_places.Goals as goal

pub loop-i-preserved : goal.loop-i-preserved
loop-i-preserved c =
    let rows = c.args.layers.now in
    let table = c.loop-i.places.items in
    let i = c.loop-i.i in
    let at = c.place.result in
    let lt : i < length rows = omega arith in
    let r = layer_at rows i in
    let named : (r.node < c.args.nodes) × (r.index ≤ MAX_HOPS) = c.requires.named i no_layer lt in
    let is : at ≡ place_of r.node r.index = c.place.ensures ∙ ap (λ (n : ℕ). place_of n c.index.result) c.node.ensures ∙ ap (place_of r.node) c.index.ensures in
    let inside : at < length table = omega (arith, place_within c.args.nodes r.node r.index named.0 named.1, c.loop-i.invariant.len) in
    let once : count_by (λ q. eqb (place_of q.node q.index) at) rows ≤ 1 =
    subst (λ (p : ℕ). count_by (λ q. eqb (place_of q.node q.index) p) rows ≤ 1) (sym is)
    (subst (λ (n : ℕ). n ≤ 1) (sym (counts-placed c.args.nodes rows r.node r.index c.requires.named named.1)) (c.requires.once r.node r.index named.0 named.1)) in
    record {
      len = length-set table at i ∙ c.loop-i.invariant.len;
      value = λ p below some. numbered (λ q. place_of q.node q.index) rows no_layer table i at p lt is inside once (c.loop-i.invariant.value p below) some;
    }

pub returns-clause-value : goal.returns-clause-value
returns-clause-value c =
    let rows = c.args.layers.now in
    let nodes = c.args.nodes in
    let whole : take c.loop-i.i rows ≡ rows = take_all c.loop-i.i rows (omega arith) in
    λ s i ls li one.
    let p = place_of s i in
    let count : count_by (λ r. eqb (place_of r.node r.index) p) (take c.loop-i.i rows) ≡ 1 =
    ap (λ (l : List Layer). count_by (λ r. eqb (place_of r.node r.index) p) l) whole ∙ counts-placed nodes rows s i c.requires.named li ∙ one in
    let there = c.loop-i.invariant.value p (place_within nodes s i ls li) (omega arith) in
    (omega arith, sym (ap (λ (l : List Layer). find (λ r. eqb (place_of r.node r.index) p) l) whole ∙ finds-placed nodes rows s i c.requires.named li) ∙ there.1)
