-- Lines of a text.
use Rattle.std.proofs.Common.{◌≡◌, ℕ, true, false, cond, eqb, List, [], ◌∷◌, refl, ap, ◌∙◌}
use Rattle.std.specs.Prelude.{map}
use Rattle.std.specs.List.{slice_split, onto_first, join_with_byte}
use Rattle.std.proofs.lemmas.List.Splits.{join_with_byte-slice_split}
use Rattle.text_lines.specs.Lines.{words_of, lines_of}
use Rattle.cert_text.specs.Reading.{has_more, bytes_of}

line_first : (bytes : List ℕ) → (piece : List ℕ) × (pieces : List (List ℕ)) × (slice_split (λ b. eqb b 10) bytes ≡ piece ∷ pieces)
line_first [] = ([], [], refl)
line_first (b ∷ bytes) = elim (eqb b 10) as (λ t. (piece : List ℕ) × (pieces : List (List ℕ)) × (cond t ([] ∷ slice_split (λ c. eqb c 10) bytes) (onto_first b (slice_split (λ c. eqb c 10) bytes)) ≡ piece ∷ pieces)) [
  | true ↦ ([], slice_split (λ c. eqb c 10) bytes, refl)
  | false ↦ let r = line_first bytes in (b ∷ r.0, r.1, ap (onto_first b) r.2)
]

pieces : (parts : List (List ℕ)) → map (join_with_byte 32) (map words_of parts) ≡ parts
pieces [] = refl
pieces (part ∷ parts) = rw (join_with_byte-slice_split 32 part, pieces parts) refl

pub text_bytes : (bytes : List ℕ) → bytes_of (lines_of bytes) ≡ bytes
text_bytes bytes = ap (join_with_byte 10) (pieces (slice_split (λ b. eqb b 10) bytes)) ∙ join_with_byte-slice_split 10 bytes

-- a text has a line
pub has_line : (bytes : List ℕ) → has_more (lines_of bytes) ≡ true
has_line bytes = let r = line_first bytes in ap (λ (ps : List (List ℕ)). has_more (map words_of ps)) r.2
