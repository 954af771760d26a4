use Rattle.std.proofs.Common.{ℕ, ◌≡◌, ◌+◌, ◌%◌, ap, ◌∙◌, sym, subst, rules, arith, get_or, set}
use Rattle.flow_core.specs.Core.{amount_of, has_added, add}
use Rattle.load_table.specs.Rule.{words_of, HasAdded, HasAddedAlone}
use Rattle.load_table.specs.Seen.{PassView, AreWordsOf}
use Rattle.load_table.specs.declared.view.View.{View}
use Rattle.load_table.specs.Views.{with_work}
use Rattle.load_table.proofs.Keeps.{add_inside}
use Rattle.load_table.proofs.Alone.{adds_alone, one_inside, own_count, word_at, own_after, outside}
use Rattle.load_table.proofs.loads.Loads.add_at.Goals as goal

pub load-requires : goal.load-requires
load-requires g c = (search rules, search rules, adds_alone c.self.inside.table.shared.key _ _ g.J.OfCommodity.commodity g.L.OfCell.cell _ (search rules) (search rules) (search rules))

pub index-found-requires : goal.index-found-requires
index-found-requires g c =
    let v = c.pass.inside.seat.me.0 in
    let own : AreWordsOf v c.pass.inside.own.items = c.pass.invariant.1 (one_inside c.args.self.now c.args.pass.now _ v c.pass.view_is c.requires.of c.requires.one) in
    let inside = add_inside c.args.self.now.terms c.args.k c.args.cell c.args.pass.now.view.hands c.requires.may in
    let count = own_count c.args.self.now c.args.pass.now _ v c.pass.inside.own.items c.pass.view_is c.requires.of own in
    omega arith

pub index_mut-requires : goal.index_mut-requires
index_mut-requires g c =
    let v = c.pass.inside.seat.me.0 in
    let own : AreWordsOf v c.pass.inside.own.items = c.pass.invariant.1 (one_inside c.args.self.now c.args.pass.now _ v c.pass.view_is c.requires.of c.requires.one) in
    let inside = add_inside c.args.self.now.terms c.args.k c.args.cell c.args.pass.now.view.hands c.requires.may in
    let count = own_count c.args.self.now c.args.pass.now _ v c.pass.inside.own.items c.pass.view_is c.requires.of own in
    omega arith

pub invariant_of-pass : goal.invariant_of-pass
invariant_of-pass g c =
    let v = c.pass.inside.seat.me in
    let w = c.load.new.seat.me in
    let k = g.J.OfCommodity.commodity in
    let xs = c.pass.inside.own.items in
    let x = c.index-found.result.now in
    let own : AreWordsOf v.0 xs = c.pass.invariant.1 (one_inside c.args.self.now c.args.pass.now _ v.0 c.pass.view_is c.requires.of c.requires.one) in
    let inside = add_inside c.args.self.now.terms c.args.k c.args.cell c.args.pass.now.view.hands c.requires.may in
    let count = own_count c.args.self.now c.args.pass.now _ v.0 xs c.pass.view_is c.requires.of own in
    let found : x ≡ get_or (words_of v.0.seen) (c.args.cell + 1) 0 = word_at v.0 xs (c.args.cell + 1) x own (omega arith) c.index-found.ensures in
    let told : HasAddedAlone k c.args.cell v w = subst (λ (d : ℕ). HasAddedAlone k d v w) (sym c.requires.placed) c.load.ensures.2 in
    let s : HasAdded k c.args.cell v x w = subst (λ (y : ℕ). HasAdded k c.args.cell v y w) (sym found) told.0 in
    let t = c.self.inside.table.shared.key in
    let same : v.0.view.terms ≡ t = search rules in
    let y = c.args.amount in
    let given : y ≡ amount_of t c.args.k = search rules in
    let amount : y ≡ amount_of v.0.view.terms k = given ∙ (λ i. amount_of (sym same i) (c.requires.named i)) in
    let now : words_of w.0.seen ≡ set (words_of v.0.seen) (c.args.cell + 1) ((x + y) % 18446744073709551616) =
    told.1 ∙ (λ i. set (words_of v.0.seen) (c.args.cell + 1) ((sym found i + sym amount i) % 18446744073709551616)) in
    (c.load.ensures.2.0.rest_is ∙ c.pass.invariant.0, λ _. own_after v w xs (c.args.cell + 1) ((x + y) % 18446744073709551616) own now (ap (λ (u : View). u.terms) s.view_is) (ap (λ (u : View). u.left) s.view_is))

pub returns-clause-view : goal.returns-clause-view
returns-clause-view g c =
    let v = c.pass.inside.seat.me in
    let w = c.load.new.seat.me in
    let k = g.J.OfCommodity.commodity in
    let xs = c.pass.inside.own.items in
    let x = c.index-found.result.now in
    let own : AreWordsOf v.0 xs = c.pass.invariant.1 (one_inside c.args.self.now c.args.pass.now _ v.0 c.pass.view_is c.requires.of c.requires.one) in
    let inside = add_inside c.args.self.now.terms c.args.k c.args.cell c.args.pass.now.view.hands c.requires.may in
    let count = own_count c.args.self.now c.args.pass.now _ v.0 xs c.pass.view_is c.requires.of own in
    let found : x ≡ get_or (words_of v.0.seen) (c.args.cell + 1) 0 = word_at v.0 xs (c.args.cell + 1) x own (omega arith) c.index-found.ensures in
    let told : HasAddedAlone k c.args.cell v w = subst (λ (d : ℕ). HasAddedAlone k d v w) (sym c.requires.placed) c.load.ensures.2 in
    let s : HasAdded k c.args.cell v x w = subst (λ (y : ℕ). HasAdded k c.args.cell v y w) (sym found) told.0 in
    s.view_is ∙ ap (λ (p : PassView). with_work (has_added k c.args.cell x) p.view) c.pass.view_is

pub returns-clause-step : goal.returns-clause-step
returns-clause-step g c =
    let v = c.pass.inside.seat.me in
    let w = c.load.new.seat.me in
    let k = g.J.OfCommodity.commodity in
    let xs = c.pass.inside.own.items in
    let x = c.index-found.result.now in
    let own : AreWordsOf v.0 xs = c.pass.invariant.1 (one_inside c.args.self.now c.args.pass.now _ v.0 c.pass.view_is c.requires.of c.requires.one) in
    let inside = add_inside c.args.self.now.terms c.args.k c.args.cell c.args.pass.now.view.hands c.requires.may in
    let count = own_count c.args.self.now c.args.pass.now _ v.0 xs c.pass.view_is c.requires.of own in
    let found : x ≡ get_or (words_of v.0.seen) (c.args.cell + 1) 0 = word_at v.0 xs (c.args.cell + 1) x own (omega arith) c.index-found.ensures in
    let told : HasAddedAlone k c.args.cell v w = subst (λ (d : ℕ). HasAddedAlone k d v w) (sym c.requires.placed) c.load.ensures.2 in
    let s : HasAdded k c.args.cell v x w = subst (λ (y : ℕ). HasAdded k c.args.cell v y w) (sym found) told.0 in
    outside c.args.self.now c.args.pass.now _ v.0 w.0.seen (λ n. add n k c.args.cell) (c.args.cell + 1) x c.pass.view_is c.requires.of s.step
