use Rattle.std.proofs.Common.{rules, arith, ◌≡◌, ◌+◌, ◌<◌, Bool, ap, sym, subst, ◌∙◌, ℕ}
use Rattle.flow_core.specs.Core.{cell_count}
use Rattle.atomic_table.specs.Table.{Allows}
use Rattle.load_table.specs.Rule.{MayRead, Holds, HasRead}
use Rattle.load_table.specs.Rule.{IsStep}
use Rattle.load_table.specs.Places.{is_wide, place}
use Rattle.load_table.specs.Seen.{LoadsView, shared_cells}
use Rattle.flow_core.specs.Core.{IsStart, read}
use Rattle.load_table.proofs.Keeps.{reads, read_inside, word_within, cells_of_several}
use Rattle.load_table.proofs.Placing.{place-less}
use Rattle.load_table.proofs.loads.Loads.read_shared.Goals as goal

pub load-requires : goal.load-requires
load-requires g c =
    let t = c.self.inside.table.shared.key in
    let hands = c.pass.inside.seat.me.0.view.hands in
    let may : MayRead t c.args.cell hands = search rules in
    let few : c.args.cell < cell_count t = read_inside t c.args.cell hands may in
    let wide = c.self.invariant.words in
    let all_cells = cells_of_several t (search rules) in
    let cell = g.L.OfCell.cell in
    let slots = c.self.inside.table.shared.table_id.slots in
    let id = c.pass.inside.seat.id in
    let me = c.pass.inside.seat.me in
    let may' : MayRead t cell hands = subst (λ (n : ℕ). MayRead t n hands) c.requires.placed may in
    let all : Allows (Holds t) slots id me (place (is_wide t) (cell + 1)) (λ n. n) (HasRead cell me) = reads t slots id cell me (search rules) (search rules) may' in
    let is : c.place_of-word.result ≡ place (is_wide t) (c.args.cell + 1) = c.place_of-word.ensures ∙ ap (λ (w : Bool). place w (c.args.cell + 1)) c.self.invariant.wide_is in
    let less = place-less (is_wide t) (c.args.cell + 1) (shared_cells t + 1) (omega arith) in
    let there : place (is_wide t) (cell + 1) ≡ c.place_of-word.result = ap (λ (n : ℕ). place (is_wide t) (n + 1)) (sym c.requires.placed) ∙ sym is in
    (search rules, omega arith, subst (λ (p : ℕ). Allows (Holds t) slots id me p (λ m. m) (HasRead cell me)) there all)

pub returns-clause-within : goal.returns-clause-within
returns-clause-within g c =
    let w : IsStep c.args.self.now.terms c.args.pass.now.view.hands c.args.pass.now.seen c.load.new.seat.me.0.seen read (c.args.cell + 1) c.load.result = search rules in
    word_within c.args.self.now.terms c.args.pass.now.view.hands c.args.pass.now.seen c.load.new.seat.me.0.seen read c.args.cell c.load.result (subst IsStart (ap (λ (l : LoadsView). l.terms) c.self.view_is) c.self.invariant.is_start) (read_inside c.args.self.now.terms c.args.cell c.args.pass.now.view.hands c.requires.may) w
