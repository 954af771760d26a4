use Rattle.std.proofs.Common.{◌≡◌, ℕ, ◌+◌, ◌*◌, ◌<◌, ◌≤◌, max, List, get_or, set, length, sym, ap, subst, ◌∙◌, arith, refl}
use Rattle.std.specs.Prelude.{All}
use Rattle.std.specs.Vec.{with_items}
use Rattle.std.proofs.lemmas.List.{with_items_is}
use Rattle.mcf_limits.specs.declared.TheConstants.{MAX_LENGTH}
use Rattle.flow_model.specs.declared.net.Cell.{Cell}
use Rattle.flow_model.specs.Walk.{times}
use Rattle.flow_model.specs.Lengths.{length_at}
use Rattle.fixed_exp.specs.Kept.{cell_at}
use Rattle.flow_model.specs.declared.setting.Setting.{Setting}
use Rattle.gates.specs.declared.lengths.Under.{Under}
use Rattle.throughput.specs.declared.loaded.Loaded.{Loaded}
use Rattle.throughput.proofs.Loading.{cells-long, gates-long, path-room, grown-small, gate-load, carried-total, tally-room, loaded-more}
use Rattle.throughput.proofs.Turning.{lengths-long, length-was, unmoved}
use Rattle.throughput.proofs.turns.route.Goals as goal

pub add-requires-clause-weight : goal.add-requires-clause-weight
add-requires-clause-weight c = tally-room c.args.on.now.net.now c.args.loaded.now c.args.k c.args.amount MAX_LENGTH c.requires.loaded c.requires.room

pub add_along-tops-requires-clause-loads : goal.add_along-tops-requires-clause-loads
add_along-tops-requires-clause-loads c =
    let has = c.requires.loaded in
    ap (λ (xs : List ℕ). length xs) c.deref_mut.ensures.value ∙ (cells-long c.args.on.now.net.now has.0 c.args.loaded.now has.1 ∙ sym (ap (λ (xs : List Cell). length xs) c.cells-cells.ensures.value))

pub add_along-tops-requires-clause-room : goal.add_along-tops-requires-clause-room
add_along-tops-requires-clause-room c = λ i.
    subst (λ (xs : List ℕ). get_or xs i 0 + c.args.amount * times i c.args.path.now ≤ MAX_LENGTH) (sym c.deref_mut.ensures.value)
    (path-room c.args.on.now.net.now c.args.loaded.now c.args.path.now c.args.amount MAX_LENGTH i c.requires.loaded c.requires.different c.requires.room)

pub add_at-tops-requires-clause-loads : goal.add_at-tops-requires-clause-loads
add_at-tops-requires-clause-loads c =
    let has = c.requires.loaded in
    ap (λ (xs : List ℕ). length xs) c.deref_mut-2.ensures.value ∙ (gates-long c.args.on.now.net.now has.0 c.args.loaded.now has.1 ∙ sym c.requires.on.gates_are.count)

pub add_at-tops-requires-clause-room : goal.add_at-tops-requires-clause-room
add_at-tops-requires-clause-room c =
    let has = c.requires.loaded in
    let net = c.args.on.now.net.now in
    subst (λ (xs : List ℕ). get_or xs c.args.k 0 + c.args.amount ≤ MAX_LENGTH) (sym c.deref_mut-2.ensures.value)
    (omega (arith, gate-load net has.0 c.args.loaded.now c.args.k has.1 c.requires.k, carried-total has.0 c.args.k, has.1.total, c.requires.room))

pub follow_lengths-requires-clause-loads : goal.follow_lengths-requires-clause-loads
follow_lengths-requires-clause-loads c =
    let has = c.requires.loaded in
    let s = c.args.loaded.now in
    let now = with_items_is s.cells c.add_along-tops.new.loads (omega arith) in
    ap (λ (xs : List ℕ). length xs) (c.deref.ensures.value ∙ now) ∙ (c.add_along-tops.ensures.long
    ∙ (ap (λ (xs : List ℕ). length xs) c.deref_mut.ensures.value ∙ (cells-long c.args.on.now.net.now has.0 s has.1 ∙ sym (ap (λ (xs : List Cell). length xs) c.cells-cells.ensures.value))))

pub follow_lengths-requires-clause-small : goal.follow_lengths-requires-clause-small
follow_lengths-requires-clause-small c =
    let s = c.args.loaded.now in
    let now = with_items_is s.cells c.add_along-tops.new.loads (omega arith) in
    subst (λ (xs : List ℕ). All (λ (x : ℕ). x ≤ MAX_LENGTH) xs) (sym (c.deref.ensures.value ∙ now))
    (grown-small c.args.on.now.net.now s c.add_along-tops.new.loads c.args.path.now c.args.amount MAX_LENGTH c.requires.loaded c.requires.different c.requires.room
    (λ i. c.add_along-tops.ensures.loads i ∙ ap (λ (xs : List ℕ). get_or xs i 0 + c.args.amount * times i c.args.path.now) c.deref_mut.ensures.value))

pub follow_lengths-requires-clause-into : goal.follow_lengths-requires-clause-into
follow_lengths-requires-clause-into c =
    lengths-long c.args.on.now.net.now c.args.on.now.gates.now c.args.on.now.least c.args.loaded.now c.args.tops.now c.args.lengths.now c.requires.loaded c.requires.follow ∙ sym (ap (λ (xs : List Cell). length xs) c.cells-cells.ensures.value)

pub follow_lengths-requires-clause-stands : goal.follow_lengths-requires-clause-stands
follow_lengths-requires-clause-stands c = λ i lt none.
    let has = c.requires.loaded in
    let on = c.args.on.now in
    let s = c.args.loaded.now in
    let t = c.args.tops.now in
    let u = c.under-under.result in
    let cells = c.cells-cells.result.now in
    let same : cells ≡ on.net.now.cells = c.cells-cells.ensures.value in
    let inside : i < length on.net.now.cells = omega (arith, ap (λ (xs : List Cell). length xs) same, lt) in
    let now = c.deref.ensures.value ∙ with_items_is s.cells c.add_along-tops.new.loads (omega arith) in
    let stood : get_or c.deref.result.now i 0 ≡ get_or s.cells.items i 0 = ap (λ (xs : List ℕ). get_or xs i 0) now ∙ (c.add_along-tops.ensures.loads i
    ∙ (ap (λ (xs : List ℕ). get_or xs i 0 + c.args.amount * times i c.args.path.now) c.deref_mut.ensures.value ∙ unmoved (get_or s.cells.items i 0) c.args.amount (times i c.args.path.now) none)) in
    let was = length-was on.net.now on.gates.now on.least s t c.args.lengths.now i has c.requires.follow inside in
    was ∙ (ap (λ (xs : List Cell). length_at t.setting (max t.cells t.gates) on.least (cell_at xs i) (get_or s.cells.items i 0)) (sym same)
    ∙ (ap (λ (x : ℕ). length_at t.setting (max t.cells t.gates) on.least (cell_at cells i) x) (sym stood)
    ∙ (ap (λ (x : Setting). length_at x (max t.cells t.gates) on.least (cell_at cells i) (get_or c.deref.result.now i 0)) (sym (ap (λ (x : Under). x.setting) c.under-under.ensures))
    ∙ (ap (λ (x : ℕ). length_at u.setting x on.least (cell_at cells i) (get_or c.deref.result.now i 0)) (sym c.max-before.ensures)
    ∙ ap (λ (x : ℕ). length_at u.setting c.max-before.result x (cell_at cells i) (get_or c.deref.result.now i 0)) (sym (ap (λ (x : Under). x.least) c.under-under.ensures))))))

pub returns-clause-rows : goal.returns-clause-rows
returns-clause-rows c = λ rows is.
    let s = c.args.loaded.now in
    let k = c.args.k in
    let cells = with_items_is s.cells c.add_along-tops.new.loads (omega arith) in
    let gates = with_items_is s.gates c.add_at-tops.new.loads (omega arith) in
    let new : Loaded = record { cells = with_items s.cells c.add_along-tops.new.loads; gates = with_items s.gates c.add_at-tops.new.loads; total = s.total + c.args.amount; tally = c.add.new.self } in
    loaded-more c.args.on.now.net.now rows s new (record { commodity = k; walk = c.args.path.now; weight = c.args.amount }) is c.requires.k c.requires.different
    (ap (λ (xs : List ℕ). length xs) cells ∙ (c.add_along-tops.ensures.long ∙ ap (λ (xs : List ℕ). length xs) c.deref_mut.ensures.value))
    (λ i. ap (λ (xs : List ℕ). get_or xs i 0) cells ∙ (c.add_along-tops.ensures.loads i ∙ ap (λ (xs : List ℕ). get_or xs i 0 + c.args.amount * times i c.args.path.now) c.deref_mut.ensures.value))
    (gates ∙ (c.add_at-tops.ensures.loads ∙ ap (λ (xs : List ℕ). set xs k (get_or xs k 0 + c.args.amount)) c.deref_mut-2.ensures.value)) refl c.in_ok-add.ensures.ok
