-- Where the text of a certificate with hop limits or of a total is refused, it stops to begin one.
use Rattle.std.proofs.Common.{◌≡◌, ℕ, List, [], ◌∷◌, Result, Err, refl, sym, ap, subst, ◌∙◌}
use Rattle.std.specs.Prelude.{codes}
use Rattle.std.specs.List.{AllByRecursion}
use Rattle.text_lines.specs.Lines.{Line, text_of, lines_of, IsLine}
use Rattle.cert_lines.specs.Sheet.{Sheet}
use Rattle.cert_lines.specs.declared.refusal.CertRefusal.{CertRefusal}
use Rattle.cert_lines.specs.Forms.{◌>>=◌}
use Rattle.cert_text.specs.Reading.{Place}
use Rattle.cert_text.specs.Papers.{opening_at}
use Rattle.cert_inverse.specs.Inverse.{IsCitable}
use Rattle.cert_inverse.proofs.Between.{text_of-both}
use Rattle.kind_texts.specs.HopsText.{hops_lines, FitsHops}
use Rattle.kind_texts.specs.HopsRead.{hops_from, hops_in}
use Rattle.kind_texts.specs.PartText.{part_lines, FitsPart}
use Rattle.kind_texts.specs.PartRead.{part_from, part_in}
use Rattle.kind_inverse.proofs.CleanLines.{hops_clean, part_clean}
use Rattle.kind_inverse.proofs.Exactly.{hops_exactly, parts_exactly}
use Rattle.cli_laws.specs.Lines.{StopsAt}
use Rattle.cli_laws.specs.KindTexts.{IsHopsText, IsTotalText, hops_refused, total_refused}
use Rattle.cli_laws.proofs.NearKinds.{hops_steps, total_steps, same_under}
use Rattle.cli_laws.proofs.ShortKinds.{IsStuckUnder, behind_hops, hops_whole, some_hops, some_hops_fit, hops_part, behind_total, total_whole, some_total, some_total_fits, total_part, stuck_under}
use Rattle.cli_laws.proofs.Stopping.{AreRead, clean_front, stops_at}

-- texts of values within their limits, and how one is read: the lines before a refusal begin those of one
pub record Reading {X Y : Type 0} (IsText : List ℕ → Type 0) (whole : X → List Line) (IsFit : X → Type 0) (reading : List Line → Result Y CertRefusal) : Type 0 where
  pub read : AreRead IsText reading
  pub spelled : (x : X) → IsFit x → IsText (text_of (whole x))
  pub clean : (x : X) → IsFit x → AllByRecursion IsLine (whole x)
  pub stuck : (lines : List Line) (e : CertRefusal) → reading lines ≡ Err e → IsStuckUnder whole IsFit lines e

pub stops_so : {X Y : Type 0} (IsText : List ℕ → Type 0) (whole : X → List Line) (IsFit : X → Type 0) (reading : List Line → Result Y CertRefusal) → Reading IsText whole IsFit reading → (text : List ℕ) (r : CertRefusal) → reading (lines_of text) ≡ Err r → StopsAt IsText text r.line
stops_so IsText whole IsFit reading own text r e =
    let s = own.stuck (lines_of text) r e in
    let clean = subst (AllByRecursion IsLine) s.parts (own.clean s.value s.fits) in
    stops_at IsText reading own.read text r e s.front s.rest (clean_front s.front s.back clean) s.bytes s.line
    (text_of s.back, subst IsText (ap text_of s.parts ∙ sym (text_of-both s.front s.back)) (own.spelled s.value s.fits))

-- ---- both kinds

hops_reading : (sheet : Sheet) → IsCitable sheet → Reading (IsHopsText sheet) (hops_lines sheet) (FitsHops sheet) (hops_in sheet)
unfolding hops_in
hops_reading sheet own =
    let first : Line = codes "mcf-hops" ∷ codes "1" ∷ [] in
    let header = codes "mcf-hops 1" in
    let rest_at = λ (p : Place). opening_at sheet p >>= hops_from sheet in
    record {
      read = record { again = λ text is. (is.0, (hops_exactly sheet text is.0 own).1 (is.1, is.2)); same = λ t before r count le k. same_under header rest_at (hops_steps sheet) t before r count le k };
      spelled = λ h fits. (h, fits, refl);
      clean = λ h fits. hops_clean sheet h own fits;
      stuck = λ lines e k. stuck_under header first refl (behind_hops sheet) (hops_lines sheet) (hops_whole sheet) (FitsHops sheet) some_hops (some_hops_fit sheet) rest_at (hops_part sheet) lines e k;
    }

pub hops_stop : (sheet : Sheet) (text : List ℕ) (r : CertRefusal) → IsCitable sheet → hops_in sheet (lines_of text) ≡ hops_refused r → StopsAt (IsHopsText sheet) text r.line
hops_stop sheet text r own e = stops_so (IsHopsText sheet) (hops_lines sheet) (FitsHops sheet) (hops_in sheet) (hops_reading sheet own) text r e

total_reading : (sheet : Sheet) → IsCitable sheet → Reading (IsTotalText sheet) (part_lines sheet) (FitsPart sheet) (part_in sheet)
unfolding part_in
total_reading sheet own =
    let first : Line = codes "mcf-throughput" ∷ codes "1" ∷ [] in
    let header = codes "mcf-throughput 1" in
    let rest_at = λ (p : Place). opening_at sheet p >>= part_from sheet in
    record {
      read = record { again = λ text is. (is.0, (parts_exactly sheet text is.0 own).1 (is.1, is.2)); same = λ t before r count le k. same_under header rest_at (total_steps sheet) t before r count le k };
      spelled = λ p fits. (p, fits, refl);
      clean = λ p fits. part_clean sheet p own fits;
      stuck = λ lines e k. stuck_under header first refl (behind_total sheet) (part_lines sheet) (total_whole sheet) (FitsPart sheet) some_total (some_total_fits sheet) rest_at (total_part sheet) lines e k;
    }

pub totals_stop : (sheet : Sheet) (text : List ℕ) (r : CertRefusal) → IsCitable sheet → part_in sheet (lines_of text) ≡ total_refused r → StopsAt (IsTotalText sheet) text r.line
totals_stop sheet text r own e = stops_so (IsTotalText sheet) (part_lines sheet) (FitsPart sheet) (part_in sheet) (total_reading sheet own) text r e
