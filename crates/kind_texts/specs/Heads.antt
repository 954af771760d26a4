-- The first lines of a text of one known header, spelled and read.
use Rattle.std.specs.Prelude.{ℕ, Bool, List, [], ◌∷◌, Result, Ok, Err, codes, if◌then◌else◌}
use Rattle.text_lines.specs.Lines.{Line}
use Rattle.unit_scale.specs.declared.options.NetOptions.{NetOptions}
use Rattle.cert_lines.specs.Sheet.{Sheet}
use Rattle.cert_lines.specs.Spelling.{verdict_words, links_words, modules_words, counts_words}
use Rattle.cert_lines.specs.declared.form.Form.TheVariants.{Second}
use Rattle.cert_lines.specs.declared.refusal.CertRefusal.{CertRefusal}
use Rattle.cert_lines.specs.declared.refusal.CertKind.TheVariants.{NoHeader, Syntax}
use Rattle.cert_lines.specs.Forms.{◌>>=◌, is_fixed}
use Rattle.cert_lines.specs.HeadLines.{verdict_line}
use Rattle.cert_text.specs.Reading.{Place, has_more, next_line}
use Rattle.cert_text.specs.Whole.{modes_behind}

-- the five lines up to the counts, behind the header of that word
abbrev pub head_lines : List ℕ → Sheet → Bool → List Line
head_lines word sheet closed =
    (word ∷ codes "1" ∷ []) ∷ verdict_words closed ∷ links_words sheet ∷ modules_words sheet
    ∷ counts_words sheet ∷ []

-- line 1 is this one, with its line feed
unfoldable pub header_at : List ℕ → List Line → Result Place CertRefusal
header_at known [] = Err (record { line = 1; kind = NoHeader })
header_at known (line ∷ lines) =
    if is_fixed known line then (if has_more lines then Ok (record { at = 2; rest = lines })
    else Err (record { line = 1; kind = Syntax })) else Err (record { line = 1; kind = NoHeader })

-- the options that lines 1 to 4 say, in the words of form 2
unfoldable pub run_head : List ℕ → List Line → Result NetOptions CertRefusal
run_head known lines = do
  place ← header_at known lines
  verdict ← next_line verdict_line place
  modes ← modes_behind Second verdict.1
  Ok modes.0
