use Rattle.std.proofs.Common.{◌≡◌, ℕ, ◌+◌, ◌*◌, ◌<◌, List, length, get_or, ap, ◌∙◌, arith}
use Rattle.std.proofs.lemmas.List.{with_items_is, get_or_default}
use Rattle.flow_model.specs.Walk.{times}
use Rattle.flow_model.specs.Routing.{Row}
use Rattle.hop_solve.proofs.Turning.{size-of, tally-within, room-along, routed-more}
use Rattle.hop_solve.proofs.turns.route.Goals as goal

pub add-requires-clause-weight : goal.add-requires-clause-weight
add-requires-clause-weight c =
    let room = c.requires.room in
    omega (arith, tally-within c.args.on.now.net.now room.before c.args.routed.now c.args.k room.routed, room.small)

pub add_along-requires-clause-cells : goal.add_along-requires-clause-cells
add_along-requires-clause-cells c = λ k d l.
    let room = c.requires.room in
    let size = size-of c.args.on.now.net.now room.before c.args.routed.now room.routed in
    omega (arith, size, c.requires.cells k d l, ap (λ (xs : List ℕ). length xs) c.deref_mut.ensures.value)

pub add_along-requires-clause-room : goal.add_along-requires-clause-room
add_along-requires-clause-room c = λ x l.
    let room = c.requires.room in
    let same = c.deref_mut.ensures.value in
    let inside : x < length c.args.routed.now.loads.items = omega (arith, l, ap (λ (xs : List ℕ). length xs) same) in
    omega (arith, ap (λ (xs : List ℕ). get_or xs x 0) same, room-along c.args.on.now.net.now room.before c.args.routed.now c.args.path.now c.args.amount x room.routed c.requires.once room.small inside)

pub update_at-requires-clause-loads : goal.update_at-requires-clause-loads
update_at-requires-clause-loads c =
    let room = c.requires.room in
    let size = size-of c.args.on.now.net.now room.before c.args.routed.now room.routed in
    let old = ap (λ (xs : List ℕ). length xs) c.deref_mut.ensures.value in
    let items = with_items_is c.args.routed.now.loads c.add_along.new.loads (omega arith) in
    ap (λ (xs : List ℕ). length xs) (c.deref.ensures.value ∙ items) ∙ omega (arith, c.add_along.ensures.len, old, size)

pub update_at-requires-clause-small : goal.update_at-requires-clause-small
update_at-requires-clause-small c = λ x d l.
    let room = c.requires.room in
    let same = c.deref_mut.ensures.value in
    let old = ap (λ (xs : List ℕ). length xs) same in
    let items = with_items_is c.args.routed.now.loads c.add_along.new.loads (omega arith) in
    let now : c.deref.result.now ≡ c.add_along.new.loads = c.deref.ensures.value ∙ items in
    let long = ap (λ (xs : List ℕ). length xs) now in
    let inside : x < length c.args.routed.now.loads.items = omega (arith, l, long, c.add_along.ensures.len, old) in
    let value = c.add_along.ensures.value x (omega (arith, inside, old)) in
    let limit = room-along c.args.on.now.net.now room.before c.args.routed.now c.args.path.now c.args.amount x room.routed c.requires.once room.small inside in
    omega (arith, get_or_default c.deref.result.now x d 0 l, ap (λ (xs : List ℕ). get_or xs x 0) now, value, ap (λ (xs : List ℕ). get_or xs x 0) same, limit)

pub update_at-requires-clause-same : goal.update_at-requires-clause-same
update_at-requires-clause-same c = λ x l none.
    let room = c.requires.room in
    let size = size-of c.args.on.now.net.now room.before c.args.routed.now room.routed in
    let same = c.deref_mut.ensures.value in
    let old = ap (λ (xs : List ℕ). length xs) same in
    let items = with_items_is c.args.routed.now.loads c.add_along.new.loads (omega arith) in
    let now : c.deref.result.now ≡ c.add_along.new.loads = c.deref.ensures.value ∙ items in
    let inside : x < length c.args.routed.now.loads.items = omega (arith, size, l) in
    let value = c.add_along.ensures.value x (omega (arith, inside, old)) in
    let still : c.args.amount * times x c.args.path.now ≡ c.args.amount * 0 = ap (λ (n : ℕ). c.args.amount * n) none in
    ap (λ (xs : List ℕ). get_or xs x 0) room.routed.follows ∙ omega (arith, ap (λ (xs : List ℕ). get_or xs x 0) same, ap (λ (xs : List ℕ). get_or xs x 0) now, value, still)

pub returns-clause-routed : goal.returns-clause-routed
returns-clause-routed c = λ before is.
    let net = c.args.on.now.net.now in
    let old = c.args.routed.now in
    let row : Row = record { commodity = c.args.k; walk = c.args.path.now; weight = c.args.amount } in
    let same = c.deref_mut.ensures.value in
    let long = ap (λ (xs : List ℕ). length xs) same in
    let size = size-of net before old is in
    let items = with_items_is old.loads c.add_along.new.loads (omega arith) in
    routed-more net before old _ row is (ap (λ (xs : List ℕ). length xs) items ∙ omega (arith, c.add_along.ensures.len, long, size))
    (λ x l. ap (λ (xs : List ℕ). get_or xs x 0) items ∙ c.add_along.ensures.value x (omega (arith, l, size, long)) ∙ ap (λ (xs : List ℕ). get_or xs x 0 + c.args.amount * times x c.args.path.now) same)
    c.in_ok-add.ensures.ok c.in_ok-add.ensures.most c.requires.once (c.update_at.ensures.net ∙ is.net_is) (c.update_at.ensures.loads ∙ c.deref.ensures.value)
