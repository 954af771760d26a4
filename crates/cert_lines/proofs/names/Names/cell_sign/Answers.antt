use Rattle.std.proofs.Common.{◌≡◌, ◌<◌, length, ap, sym, subst, ◌∙◌}
use Rattle.cert_lines.specs.Sheet.{Sheet, cell_sign, sign_mark, sheet_of, sheets_of, sheet_for}
use Rattle.unit_scale.specs.Names.{name_of}
use Rattle.unit_scale.specs.declared.options.NetOptions.{NetOptions}
use Rattle.cert_lines.proofs.Looked.{sign_is}
use Rattle.cert_lines.proofs.names.Names.cell_sign.Goals as goal

pub returns-in-Second : goal.returns-in-Second
returns-in-Second c =
    let rows = c.self.inside.rows.now in
    let net = c.self.inside.net.now in
    let is : sheet_of rows net ≡ c.args.self.now = ap (sheet_for (sheets_of rows net)) (sym c.in-Second.is) ∙ c.self.view_is in
    let lt : c.args.c < length (sheet_of rows net).cells = subst (λ (s : Sheet). c.args.c < length s.cells) (sym is) c.requires in
    c.sign_of_cell.ensures
    ∙ ap (λ (o : NetOptions). sign_mark (name_of o.links c.args.c).sign) c.options.ensures
    ∙ sign_is rows net c.args.c lt
    ∙ ap (λ (s : Sheet). cell_sign s c.args.c) is
