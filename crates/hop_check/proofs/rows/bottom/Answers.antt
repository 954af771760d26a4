use Rattle.std.proofs.Common.{◌≡◌, ◌<◌, ℕ, Bool, true, cond, eqb, List, get_or, ap, sym, subst, refl, ◌∙◌, arith}
use Rattle.std.specs.Prelude.{count_by}
use Rattle.cert_check.proofs.Counting.{cond_le}
use Rattle.flow_paths.specs.DualRows.{no_potential}
use Rattle.hop_paths.specs.Allowed.{limit_at, is_unlimited}
use Rattle.hop_check.specs.Layers.{HopDual}
use Rattle.hop_check.specs.Tables.{IsRowPlaced, HasPlaces}
use Rattle.hop_check.proofs.AskedRows.{has_places}
use Rattle.hop_check.proofs.rows.bottom.Goals as goal

pub row_places-requires-clause-once : goal.row_places-requires-clause-once
row_places-requires-clause-once c = λ v lt.
    let h = c.requires.asked v (omega (arith, c.nodes.ensures.value)) in
    let few = cond_le (is_unlimited c.args.net.now c.args.limits.now v) in
    omega arith

pub weighted-requires-clause-placed : goal.weighted-requires-clause-placed
weighted-requires-clause-placed c = λ k commodity at.
    let net = c.args.net.now in
    let limits = c.args.limits.now in
    let rows = c.args.dual.now.potentials in
    let table = c.in_ok-rows.rows.items in
    let d : HopDual = record { dual = c.args.dual.now; layers = c.args.layers.now } in
    let each = λ (v : ℕ) (lv : v < net.nodes) (yes : is_unlimited net limits v ≡ true).
    (let one : count_by (λ r. eqb r.node v) rows ≡ 1 = c.requires.asked v lv ∙ ap (λ (b : Bool). cond {A = ℕ} b 1 0) yes in
    let inside : v < c.nodes.result = omega (arith, c.nodes.ensures.value) in
    let there = c.in_ok-rows.ensures.value v inside one in
    let row = c.requires.rows (get_or table v 0) no_potential there.0 in
    let placed : IsRowPlaced net.nodes rows table v = record {
      inside = omega (arith, c.in_ok-rows.ensures.len);
      row = there.0;
      found = there.1;
      long = row.values;
    } in placed) in
    subst (λ (t : List ℕ). HasPlaces net.nodes d t c.args.places.now (limit_at limits k) commodity) (sym c.deref.ensures.value)
    (has_places net limits table c.args.places.now d k commodity (limit_at limits k) c.nodes.ensures.net c.requires.placed each at refl)
