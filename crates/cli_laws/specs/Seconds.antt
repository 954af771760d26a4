-- What is refused of the text of a second certificate.
use Rattle.std.specs.Prelude.{◌≡◌, ℕ, List, Ok, Err, true, false}
use Rattle.text_lines.specs.Lines.{lines_of}
use Rattle.unit_scale.specs.declared.options.NetOptions.{NetOptions}
use Rattle.sndlib_grammar.specs.Rows.{NetRows}
use Rattle.cert_lines.specs.declared.refusal.CertRefusal.{CertRefusal}
use Rattle.cert_text.specs.declared.opening.CertHead.{CertHead}
use Rattle.cert_text.specs.declared.opening.Known.TheVariants.{Certificates}
use Rattle.cert_text.specs.Whole.{head_by}
use Rattle.cert_judge.specs.declared.refusal.Refusal.TheVariants.{Cert}
use Rattle.cert_judge.specs.Papers.{paper_on}
use Rattle.cert_judge.specs.Second.{other_at, same_links, same_modules, second_on}

-- the first lines of the text are those of a certificate, and this is what they say
abbrev pub Says : List ℕ → CertHead → Type 0
Says text head = head_by Certificates (lines_of text) ≡ Ok head

-- A second text, where the first one says these options. Where its first lines are refused, it is refused so. Where they say
-- another mode of links, it is refused at line 3, and where another of modules, at line 4, for another network. Where they say
-- these options, all else is read or refused as of a first text.
pub record SecondIsRefused (rows : NetRows) (options : NetOptions) (text : List ℕ) : Type 0 where
  pub head : (r : CertRefusal) → head_by Certificates (lines_of text) ≡ Err r → second_on rows options text ≡ Err (Cert r)
  pub links : (head : CertHead) → Says text head → same_links head.links options.links ≡ false
      → second_on rows options text ≡ Err (Cert (other_at 3))
  pub modules : (head : CertHead) → Says text head → same_links head.links options.links ≡ true
      → same_modules head.modules options.modules ≡ false → second_on rows options text ≡ Err (Cert (other_at 4))
  pub alike : (head : CertHead) → Says text head → same_links head.links options.links ≡ true
      → same_modules head.modules options.modules ≡ true → second_on rows options text ≡ paper_on Certificates rows text

-- whatever the rows, the options and the text
abbrev pub SecondsAreRefused : Type 0
SecondsAreRefused = (rows : NetRows) (options : NetOptions) (text : List ℕ) → SecondIsRefused rows options text
