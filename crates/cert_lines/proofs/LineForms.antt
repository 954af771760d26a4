-- Lines that have not the form that is wanted.
use Rattle.std.proofs.Common.{◌≡◌, ℕ, ◌+◌, ◌-◌, true, false, cond, eqb, List, [], ◌∷◌, length, take, drop, Some, None, refl, sym, ap, ◌∙◌}
use Rattle.std.specs.Prelude.{position, count_by}
use Rattle.std.specs.Option.{option_map}
use Rattle.std.proofs.lemmas.List.{take_rest}
use Rattle.std.proofs.lemmas.List.Splits.{length-slice_split, join_with_byte-slice_split}
use Rattle.std.specs.List.{join_with_byte}
use Rattle.std.specs.List.{onto_first}
use Rattle.text_lines.specs.Lines.{Line, words_of}
use Rattle.cert_lines.specs.Forms.{one_behind, two_behind, stroke_parts}
use Rattle.cert_lines.specs.HeadLines.{is_none_left}

-- there is a first word
pub word_first : (bytes : List ℕ) → (word : List ℕ) × (words : Line) × (words_of bytes ≡ word ∷ words)
word_first [] = ([], [], refl)
word_first (b ∷ bytes) = elim (eqb b 32) as (λ t. (word : List ℕ) × (words : Line) × (cond t ([] ∷ words_of bytes) (onto_first b (words_of bytes)) ≡ word ∷ words)) [
  | true ↦ ([], words_of bytes, refl)
  | false ↦ let r = word_first bytes in (b ∷ r.0, r.1, ap (onto_first b) r.2)
]

pub two_too_many : (key : List ℕ) (line : Line) (word first second rest : List ℕ) → line ≡ word ∷ first ∷ second ∷ words_of rest → two_behind key line ≡ None
two_too_many key line word first second rest e =
    let r = word_first rest in
    ap (two_behind key) (e ∙ ap (λ (ws : Line). word ∷ first ∷ second ∷ ws) r.2)

pub one_too_many : (key : List ℕ) (line : Line) (word first rest : List ℕ) → line ≡ word ∷ first ∷ words_of rest → one_behind key line ≡ None
one_too_many key line word first rest e =
    let r = word_first rest in
    ap (one_behind key) (e ∙ ap (λ (ws : Line). word ∷ first ∷ ws) r.2)

pub line_bytes : (line : List ℕ) → join_with_byte 32 (words_of line) ≡ line
line_bytes line = join_with_byte-slice_split 32 line

pub words_count : (line : List ℕ) → length (words_of line) ≡ count_by (λ b. eqb b 32) line + 1
words_count line = length-slice_split (λ b. eqb b 32) line

-- a line has a word
pub some_left : (line : List ℕ) → is_none_left (words_of line) ≡ false
some_left line = let r = word_first line in ap is_none_left r.2

pub stroke_found : (word : List ℕ) (i : ℕ) → position (λ b. eqb b 47) word ≡ Some i → Some (take i word, take (length word - (i + 1)) (drop (i + 1) word)) ≡ stroke_parts word
stroke_found word i e = rw take_rest (sym (ap (option_map (λ (j : ℕ). (take j word, drop (j + 1) word))) e))

pub stroke_none : (word : List ℕ) → position (λ b. eqb b 47) word ≡ None → None ≡ stroke_parts word
stroke_none word e = sym (ap (option_map (λ (j : ℕ). (take j word, drop (j + 1) word))) e)
