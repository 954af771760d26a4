use Rattle.std.proofs.Common.{◌≡◌, ◌<◌, ◌++◌, ℕ, List, length, ap, sym, subst, ◌∙◌}
use Rattle.unit_scale.specs.declared.names.CellName.{CellName}
use Rattle.unit_scale.specs.Names.{name_of}
use Rattle.unit_scale.specs.declared.options.NetOptions.{NetOptions}
use Rattle.sndlib_grammar.specs.Rows.{NetLink, link_at}
use Rattle.cert_lines.specs.Sheet.{Sheet, cell_sign, cell_id, sheet_of, sheets_of, sheet_for}
use Rattle.cert_lines.proofs.Looked.{id_is, link_of_cell, whole_word}
use Rattle.cert_lines.proofs.names.Names.cell_id.Goals as goal

pub link-requires-in-Second : goal.link-requires-in-Second
link-requires-in-Second c =
    let rows = c.self.inside.rows.now in
    let net = c.self.inside.net.now in
    let is : sheet_of rows net ≡ c.args.self.now = ap (sheet_for (sheets_of rows net)) (sym c.in-Second.is) ∙ c.self.view_is in
    let lt : c.args.c < length (sheet_of rows net).cells = subst (λ (s : Sheet). c.args.c < length s.cells) (sym is) c.requires in
    let name = c.name_of.ensures ∙ ap (λ (o : NetOptions). name_of o.links c.args.c) c.options.ensures in
    subst (λ (n : CellName). n.link < length rows.links) (sym name) (link_of_cell rows net c.args.c lt)

pub returns-in-Second-clause-id : goal.returns-in-Second-clause-id
returns-in-Second-clause-id c =
    let rows = c.self.inside.rows.now in
    let net = c.self.inside.net.now in
    let is : sheet_of rows net ≡ c.args.self.now = ap (sheet_for (sheets_of rows net)) (sym c.in-Second.is) ∙ c.self.view_is in
    let lt : c.args.c < length (sheet_of rows net).cells = subst (λ (s : Sheet). c.args.c < length s.cells) (sym is) c.requires in
    let name = c.name_of.ensures ∙ ap (λ (o : NetOptions). name_of o.links c.args.c) c.options.ensures in
    ap (λ (l : NetLink). l.id) c.link-in-Second.ensures
    ∙ ap (λ (n : CellName). (link_at rows n.link).id) name
    ∙ id_is rows net c.args.c lt
    ∙ ap (λ (s : Sheet). cell_id s c.args.c) is

pub returns-in-Second-clause-word : goal.returns-in-Second-clause-word
returns-in-Second-clause-word c =
    let rows = c.self.inside.rows.now in
    let net = c.self.inside.net.now in
    let is : sheet_of rows net ≡ c.args.self.now = ap (sheet_for (sheets_of rows net)) (sym c.in-Second.is) ∙ c.self.view_is in
    let lt : c.args.c < length (sheet_of rows net).cells = subst (λ (s : Sheet). c.args.c < length s.cells) (sym is) c.requires in
    let name = c.name_of.ensures ∙ ap (λ (o : NetOptions). name_of o.links c.args.c) c.options.ensures in
    let id = ap (λ (l : NetLink). l.id) c.link-in-Second.ensures
    ∙ ap (λ (n : CellName). (link_at rows n.link).id) name
    ∙ id_is rows net c.args.c lt
    ∙ ap (λ (s : Sheet). cell_id s c.args.c) is in
    ap (λ (w : List ℕ). cell_sign c.args.self.now c.args.c ++ w) id ∙ whole_word c.args.self.now c.args.c
