use Rattle.std.proofs.Common.{ℕ, ◌<◌, List, length, get_or, ap, ◌∙◌, arith, Bor}
use Rattle.std.specs.Prelude.{map}
use Rattle.sndlib_grammar.specs.Rows.{NetLink, no_link}
use Rattle.sndlib_rows.specs.Parts.{known_in}
use Rattle.sndlib_rows.proofs.RowAt.{modules_at}
use Rattle.sndlib_rows.proofs.net.RawNet.modules.Goals as goal

pub returns : goal.returns
returns c =
    let p = c.part.result.now in
    let lt : c.args.i < length p.links.items = omega (arith, c.part.ensures.part.link_count, c.requires) in
    ap (λ (ws : List (Bor (List ℕ))). map (λ w. w.now) ws) c.as_slice.ensures.value
    ∙ modules_at (known_in p) p.links.items c.args.i c.index-words.result.now lt c.index-words.ensures
    ∙ ap (λ (all : List NetLink). (get_or all c.args.i no_link).modules) c.part.ensures.part.links
