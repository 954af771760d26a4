use Rattle.std.proofs.Common.{◌≡◌, ◌<◌, List, [], ◌∷◌, length, get_or, subst, arith}
use Rattle.sndlib_grammar.specs.Rows.{NetLink, no_link}
use Rattle.sndlib_rows.specs.Parts.{known_in}
use Rattle.sndlib_rows.specs.RowViews.{link_row_view}
use Rattle.sndlib_rows.proofs.RowAt.{link_at_is}
use Rattle.sndlib_rows.proofs.net.RawNet.link.Goals as goal

pub returns : goal.returns
returns c =
    let p = c.part-part.result.now in
    let has = c.part-part.ensures.part in
    let lt : c.args.i < length p.links.items = omega (arith, has.link_count, c.requires) in
    let is = link_at_is (known_in p) p.links.items p.link_ends.items c.args.i c.index-words.result.now c.index-ends.result.now lt c.index-words.ensures has.beside.link_ends c.index-ends.ensures in
    subst (λ (all : List NetLink). link_row_view (record { id = c.index-words.result.now.id.text; source = c.index-ends.result.now.source; target = c.index-ends.result.now.target; installed = c.index-words.result.now.installed.text; costs = c.index-words.result.now.installed_cost.text ∷ c.index-words.result.now.routing_cost.text ∷ c.index-words.result.now.setup_cost.text ∷ []; line = c.index-words.result.now.id.line }) (get_or all c.args.i no_link).modules ≡ get_or all c.args.i no_link) has.links is
