use Rattle.std.proofs.Common.{◌<◌, [], length, sym, ◌∙◌, arith}
use Rattle.std.specs.Str.{bytes_eq}
use Rattle.std.proofs.lemmas.List.{length-map}
use Rattle.std.proofs.lemmas.List.Quantifiers.{position-Some}
use Rattle.sndlib_grammar.specs.Rows.{names_of_links}
use Rattle.cert_lines.proofs.signed.marked_cell.Goals as goal

pub cell_of-requires : goal.cell_of-requires
cell_of-requires c =
    let names = names_of_links c.args.rows.now in
    let size = length-map c.args.rows.now.links (λ l. l.id) in
    let at = position-Some (bytes_eq c.args.id.now) names c.in-Some-link_named.link [] (sym c.link_named.ensures ∙ c.in-Some-link_named.is) in
    let below : c.in-Some-link_named.link < length names = at.0 in
    omega (arith, below, size, c.requires)
