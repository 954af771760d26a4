use Rattle.std.proofs.Common.{◌≡◌, List, ℕ, [], ◌∷◌, length, refl, ap, sym, ◌∙◌, arith}
use Rattle.std.specs.List.{flat_map}
use Rattle.sndlib_grammar.specs.Rows.{names_of_links}
use Rattle.cert_lines.specs.Sheet.{place_of, signed_words}
use Rattle.cert_lines.proofs.SignedWords.{word_found, empty_is_none}
use Rattle.cert_lines.proofs.signed.named_cell.Goals as goal

pub returns-in-Some : goal.returns-in-Some
returns-in-Some c =
    let names = names_of_links c.args.rows.now in
    let word : c.args.word.now ≡ c.in-Some.mark.now ∷ c.in-Some.id.now = (c.in-Some.ensures).cases.0 in
    c.marked_cell.ensures ∙ word_found c.args.mode c.in-Some.mark.now c.in-Some.id.now names
    ∙ ap (place_of (flat_map (signed_words c.args.mode) names)) (sym word)

none_left : (w : List ℕ) → length w ≡ 0 → [] ≡ w
none_left [] e = refl
none_left (b ∷ w) e = absurd (omega arith)

pub returns-in-None : goal.returns-in-None
returns-in-None c =
    let names = names_of_links c.args.rows.now in
    empty_is_none c.args.mode names
    ∙ ap (place_of (flat_map (signed_words c.args.mode) names)) (none_left c.args.word.now c.in-None.ensures.cases)
