use Rattle.std.proofs.Common.{rules, arith, ℕ, ◌+◌, ◌%◌, ◌^◌, ◌<◌, ◌≡◌, Bool, ap, sym, subst, ◌∙◌}
use Rattle.flow_core.specs.Core.{cell_count, amount_of}
use Rattle.atomic_table.specs.Table.{Allows}
use Rattle.load_table.specs.Rule.{MayAdd, Holds, HasAdded}
use Rattle.load_table.proofs.Keeps.{adds, add_inside, cells_of_several}
use Rattle.load_table.specs.Places.{is_wide, place}
use Rattle.load_table.specs.Seen.{shared_cells}
use Rattle.load_table.proofs.Placing.{place-less}
use Rattle.load_table.proofs.loads.Loads.add_for.Goals as goal

pub fetch_add-requires : goal.fetch_add-requires
fetch_add-requires g c =
    let t = c.self.inside.table.shared.key in
    let me = c.pass.inside.seat.me.0.view in
    let may : MayAdd t c.args.k c.args.cell me.hands = search rules in
    let P : ℕ × ℕ → Type 0 = λ z. MayAdd t z.0 z.1 me.hands in
    let may' : MayAdd t g.J.OfCommodity.commodity g.L.OfCell.cell me.hands = subst P (λ i. (c.requires.named i, c.requires.placed i)) may in
    let same : me.terms ≡ t = search rules in
    let inside = add_inside t c.args.k c.args.cell me.hands may in
    let few : c.args.cell < cell_count t = inside.0 in
    let wide = c.self.invariant.words in
    let all_cells = cells_of_several t (search rules) in
    let k = g.J.OfCommodity.commodity in
    let cell = g.L.OfCell.cell in
    let a = c.args.amount in
    let amount : a ≡ amount_of t c.args.k = search rules in
    let slots = c.self.inside.table.shared.table_id.slots in
    let id = c.pass.inside.seat.id in
    let seat = c.pass.inside.seat.me in
    let size : a ≡ amount_of t k = subst (λ (n : ℕ). a ≡ amount_of t n) c.requires.named amount in
    let all : Allows (Holds t) slots id seat (place (is_wide t) (cell + 1)) (λ m. (m + a) % 2 ^ 64) (HasAdded k cell seat) = adds t slots id k cell a seat (search rules) same may' size in
    let is : c.place_of-word.result ≡ place (is_wide t) (c.args.cell + 1) = c.place_of-word.ensures ∙ ap (λ (w : Bool). place w (c.args.cell + 1)) c.self.invariant.wide_is in
    let less = place-less (is_wide t) (c.args.cell + 1) (shared_cells t + 1) (omega arith) in
    let there : place (is_wide t) (cell + 1) ≡ c.place_of-word.result = ap (λ (n : ℕ). place (is_wide t) (n + 1)) (sym c.requires.placed) ∙ sym is in
    (search rules, omega arith, subst (λ (p : ℕ). Allows (Holds t) slots id seat p (λ m. (m + a) % 2 ^ 64) (HasAdded k cell seat)) there all)
