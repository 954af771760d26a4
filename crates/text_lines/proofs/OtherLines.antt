-- A line is its words, so a text begins with one line alone.
use Rattle.std.proofs.Common.{◌≡◌, ℕ, true, not, List, ◌∷◌, sym, ap, ◌∙◌}
use Rattle.std.specs.List.{join_with_byte}
use Rattle.std.specs.Str.{bytes_eq}
use Rattle.std.proofs.lemmas.Slice.Eq.{bytes_eq-Decides}
use Rattle.std.proofs.lemmas.List.Splits.{join_with_byte-slice_split}
use Rattle.text_lines.specs.Lines.{Line, words_of}

tails : {X : Type 0} (x y : X) (xs ys : List X) → x ∷ xs ≡ y ∷ ys → (x ≡ y) × (xs ≡ ys)
tails x y xs ys e = (cc, cc)

-- a line is its words
line_is : (line other : List ℕ) → words_of line ≡ words_of other → line ≡ other
line_is line other e = sym (join_with_byte-slice_split 32 line) ∙ ap (join_with_byte 32) e ∙ join_with_byte-slice_split 32 other

-- a text that begins with one line does not begin with another
pub other_line : (first line : List ℕ) (lines after : List Line) → lines ≡ words_of first ∷ after → true ≡ not (bytes_eq first line) → (next : Line) (rest : List Line) → lines ≡ words_of line ∷ next ∷ rest → ⊥
other_line first line lines after p differs next rest q =
    let heads = (tails (words_of first) (words_of line) after (next ∷ rest) (sym p ∙ q)).0 in
    let t : bytes_eq first line ≡ true = (bytes_eq-Decides first line).1 (line_is first line heads) in
    let f : true ≡ not true = differs ∙ ap not t in
    absurd cc
