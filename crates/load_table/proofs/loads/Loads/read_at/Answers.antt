use Rattle.std.proofs.Common.{ℕ, ◌≡◌, ◌+◌, ap, ◌∙◌, sym, subst, rules, arith, get_or}
use Rattle.flow_core.specs.Core.{has_read, read, IsStart}
use Rattle.load_table.specs.Rule.{words_of, HasRead, HasReadAlone}
use Rattle.load_table.specs.Seen.{LoadsView, PassView, AreWordsOf}
use Rattle.load_table.specs.declared.view.View.{View}
use Rattle.load_table.specs.Views.{with_work}
use Rattle.load_table.proofs.Keeps.{read_inside, word_within}
use Rattle.load_table.proofs.Alone.{reads_alone, one_inside, own_count, word_at, own_same, outside}
use Rattle.load_table.proofs.loads.Loads.read_at.Goals as goal

pub load-requires : goal.load-requires
load-requires g c = (search rules, search rules, reads_alone c.self.inside.table.shared.key _ _ g.L.OfCell.cell _ (search rules) (search rules) (search rules))

pub index-found-requires : goal.index-found-requires
index-found-requires g c =
    let v = c.pass.inside.seat.me.0 in
    let own : AreWordsOf v c.pass.inside.own.items = c.pass.invariant.1 (one_inside c.args.self.now c.args.pass.now _ v c.pass.view_is c.requires.of c.requires.one) in
    let inside = read_inside c.args.self.now.terms c.args.cell c.args.pass.now.view.hands c.requires.may in
    let count = own_count c.args.self.now c.args.pass.now _ v c.pass.inside.own.items c.pass.view_is c.requires.of own in
    omega arith

pub invariant_of-pass : goal.invariant_of-pass
invariant_of-pass g c =
    let v = c.pass.inside.seat.me in
    let w = c.load.new.seat.me in
    let xs = c.pass.inside.own.items in
    let x = c.index-found.result.now in
    let own : AreWordsOf v.0 xs = c.pass.invariant.1 (one_inside c.args.self.now c.args.pass.now _ v.0 c.pass.view_is c.requires.of c.requires.one) in
    let inside = read_inside c.args.self.now.terms c.args.cell c.args.pass.now.view.hands c.requires.may in
    let count = own_count c.args.self.now c.args.pass.now _ v.0 xs c.pass.view_is c.requires.of own in
    let found : x ≡ get_or (words_of v.0.seen) (c.args.cell + 1) 0 = word_at v.0 xs (c.args.cell + 1) x own (omega arith) c.index-found.ensures in
    let told : HasReadAlone c.args.cell v w = subst (λ (d : ℕ). HasReadAlone d v w) (sym c.requires.placed) c.load.ensures.2 in
    let s : HasRead c.args.cell v x w = subst (λ (y : ℕ). HasRead c.args.cell v y w) (sym found) told.0 in
    (c.load.ensures.2.0.rest_is ∙ c.pass.invariant.0, λ _. own_same v w xs (c.args.cell + 1) own told.1 (ap (λ (u : View). u.terms) s.view_is) (ap (λ (u : View). u.left) s.view_is))

pub returns-clause-view : goal.returns-clause-view
returns-clause-view g c =
    let v = c.pass.inside.seat.me in
    let w = c.load.new.seat.me in
    let xs = c.pass.inside.own.items in
    let x = c.index-found.result.now in
    let own : AreWordsOf v.0 xs = c.pass.invariant.1 (one_inside c.args.self.now c.args.pass.now _ v.0 c.pass.view_is c.requires.of c.requires.one) in
    let inside = read_inside c.args.self.now.terms c.args.cell c.args.pass.now.view.hands c.requires.may in
    let count = own_count c.args.self.now c.args.pass.now _ v.0 xs c.pass.view_is c.requires.of own in
    let found : x ≡ get_or (words_of v.0.seen) (c.args.cell + 1) 0 = word_at v.0 xs (c.args.cell + 1) x own (omega arith) c.index-found.ensures in
    let told : HasReadAlone c.args.cell v w = subst (λ (d : ℕ). HasReadAlone d v w) (sym c.requires.placed) c.load.ensures.2 in
    let s : HasRead c.args.cell v x w = subst (λ (y : ℕ). HasRead c.args.cell v y w) (sym found) told.0 in
    s.view_is ∙ ap (λ (p : PassView). with_work (has_read x) p.view) c.pass.view_is

pub returns-clause-step : goal.returns-clause-step
returns-clause-step g c =
    let v = c.pass.inside.seat.me in
    let w = c.load.new.seat.me in
    let xs = c.pass.inside.own.items in
    let x = c.index-found.result.now in
    let own : AreWordsOf v.0 xs = c.pass.invariant.1 (one_inside c.args.self.now c.args.pass.now _ v.0 c.pass.view_is c.requires.of c.requires.one) in
    let inside = read_inside c.args.self.now.terms c.args.cell c.args.pass.now.view.hands c.requires.may in
    let count = own_count c.args.self.now c.args.pass.now _ v.0 xs c.pass.view_is c.requires.of own in
    let found : x ≡ get_or (words_of v.0.seen) (c.args.cell + 1) 0 = word_at v.0 xs (c.args.cell + 1) x own (omega arith) c.index-found.ensures in
    let told : HasReadAlone c.args.cell v w = subst (λ (d : ℕ). HasReadAlone d v w) (sym c.requires.placed) c.load.ensures.2 in
    let s : HasRead c.args.cell v x w = subst (λ (y : ℕ). HasRead c.args.cell v y w) (sym found) told.0 in
    outside c.args.self.now c.args.pass.now _ v.0 w.0.seen read (c.args.cell + 1) x c.pass.view_is c.requires.of s.step

pub returns-clause-within : goal.returns-clause-within
returns-clause-within g c =
    let v = c.pass.inside.seat.me in
    let w = c.load.new.seat.me in
    let xs = c.pass.inside.own.items in
    let x = c.index-found.result.now in
    let own : AreWordsOf v.0 xs = c.pass.invariant.1 (one_inside c.args.self.now c.args.pass.now _ v.0 c.pass.view_is c.requires.of c.requires.one) in
    let inside = read_inside c.args.self.now.terms c.args.cell c.args.pass.now.view.hands c.requires.may in
    let count = own_count c.args.self.now c.args.pass.now _ v.0 xs c.pass.view_is c.requires.of own in
    let found : x ≡ get_or (words_of v.0.seen) (c.args.cell + 1) 0 = word_at v.0 xs (c.args.cell + 1) x own (omega arith) c.index-found.ensures in
    let told : HasReadAlone c.args.cell v w = subst (λ (d : ℕ). HasReadAlone d v w) (sym c.requires.placed) c.load.ensures.2 in
    let s : HasRead c.args.cell v x w = subst (λ (y : ℕ). HasRead c.args.cell v y w) (sym found) told.0 in
    word_within c.args.self.now.terms c.args.pass.now.view.hands c.args.pass.now.seen w.0.seen read c.args.cell x (subst IsStart (ap (λ (l : LoadsView). l.terms) c.self.view_is) c.self.invariant.is_start) inside
    (outside c.args.self.now c.args.pass.now _ v.0 w.0.seen read (c.args.cell + 1) x c.pass.view_is c.requires.of s.step)
