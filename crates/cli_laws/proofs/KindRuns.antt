-- Commands that judge a text of one kind: when they answer in full, and that they accept what they answer in full.
use Rattle.std.proofs.Common.{◌≡◌, ℕ, ◌≤◌, List, Option, Some, Result, inl, inr, subst, sym, ap, arith}
use Rattle.std.specs.Prelude.{◌⊎◌}
use Rattle.mcf_limits.specs.declared.TheConstants.{MAX_CERT_BYTES}
use Rattle.mcf_base.specs.Faults.{Rose}
use Rattle.mcf_base.specs.Reading.{IsText}
use Rattle.mcf_base.specs.Shelf.{Holding, ShelfView, with_file}
use Rattle.text_lines.specs.Lines.{Line, lines_of}
use Rattle.sndlib_grammar.specs.Rows.{NetRows}
use Rattle.sndlib_grammar.specs.declared.refusal.NetRefusal.{NetRefusal}
use Rattle.unit_scale.specs.declared.options.NetOptions.{NetOptions}
use Rattle.unit_scale.specs.Scaling.{ScaledNet}
use Rattle.cert_lines.specs.declared.refusal.CertRefusal.{CertRefusal}
use Rattle.cert_judge.specs.declared.judged.Judged.{Judged}
use Rattle.cert_judge.specs.declared.judged.Judged.TheVariants as judges
use Rattle.cert_judge.specs.declared.refusal.Refusal.{Refusal}
use Rattle.cert_judge.specs.declared.refusal.Refusal.TheVariants.{Net, Cert}
use Rattle.cert_judge.specs.Judgement.{refused}
use Rattle.cert_judge.specs.Chain.{read_on, AreStages, IsSaid}
use Rattle.cert_judge.proofs.Stages.{accepted_by, said_of}
use Rattle.base_cmd.specs.declared.outcome.FileKind.TheVariants as kinds
use Rattle.base_cmd.specs.declared.outcome.Outcome.TheVariants as outcomes
use Rattle.base_cmd.specs.Answer.{Answer, answer_of}
use Rattle.base_cmd.specs.Files.{Ends, OfFile, OfNet}
use Rattle.cli_laws.specs.Accepted.{IsNetFile}
use Rattle.cli_laws.proofs.Given.{Memories, not_full, of_text, of_rows, text_of_file, rows_of_file, ends_full}

abbrev own : NetOptions → NetOptions
own o = o

-- a line of status 0 or 1 tells no refusal
pub judged_full : (judged : Judged) → (answer_of (outcomes.Judged judged)).status ≤ 1 → (r : Refusal) → judged ≡ refused r → ⊥
judged_full judged low (Net r) e = not_full (answer_of (outcomes.Judged judged)) (outcomes.Judged (judges.NetRefused r)) (ap (λ (j : Judged). answer_of (outcomes.Judged j)) e) low (omega arith)
judged_full judged low (Cert r) e = not_full (answer_of (outcomes.Judged judged)) (outcomes.Judged (judges.CertRefused r)) (ap (λ (j : Judged). answer_of (outcomes.Judged j)) e) low (omega arith)

module _ {A : Type 0} (more : NetRows → ScaledNet → Option NetRefusal) (rest : NetRows → List Line → ScaledNet → Result A CertRefusal) (head : List Line → Result NetOptions CertRefusal)
    (Says : NetRows → ScaledNet → A → Judged → Type 0) where
  -- the answer is what is said of the text on the rows
  abbrev On : NetRows → List ℕ → Answer → Type 0
  On rows text answer =
      (judged : Judged) × IsSaid refused (Says rows) (read_on rows own (more rows) (rest rows (lines_of text)) (head (lines_of text))) judged × (answer ≡ answer_of (outcomes.Judged judged))

  abbrev OfText : List ℕ → NetRows → ShelfView → ShelfView → Answer → Type 0
  OfText cert rows = OfFile MAX_CERT_BYTES kinds.Certificate cert (λ text. Ends (On rows text))

  -- each stage accepts
  abbrev AreRead : NetRows → List ℕ → ScaledNet → A → Type 0
  AreRead rows text net value = AreStages rows own (more rows) (rest rows (lines_of text)) (head (lines_of text)) net value

  -- where both files are accepted, the run is out of memory, or has status 0 or 1
  pub kind_low : ((rows : NetRows) (net : ScaledNet) (value : A) (judged : Judged) → Says rows net value judged → (answer_of (outcomes.Judged judged)).status ≤ 1)
      → (files : Holding) (first cert : List ℕ) (rows : NetRows) (net : ScaledNet) (value : A) (text : List ℕ) (old new : ShelfView) (answer : Answer) → old.holds ≡ Some files → ¬ (Rose old.faults.count new.faults.count)
      → IsNetFile files first rows → IsText MAX_CERT_BYTES (Some files) cert text → AreRead rows text net value → OfNet first (OfText cert) old new answer
      → Memories answer ⊎ (answer.status ≤ 1)
  kind_low low files first cert rows net value text old new answer tells calm given is stages of = by (of_rows files first rows (OfText cert) old new answer tells calm given of)
    where
      told : On rows text answer → answer.status ≤ 1
      told (judged, said, e) =
          subst (λ (a : Answer). a.status ≤ 1) (sym e)
          (low rows net value judged (said_of rows own (more rows) (rest rows (lines_of text)) (head (lines_of text)) refused (Says rows) judged net value stages said))

      ends : Ends (On rows text) (with_file (with_file old first) cert) new answer → Memories answer ⊎ (answer.status ≤ 1)
      ends (same, inl memory) = inl memory
      ends (same, inr on) = inr (told on)

      on_text : Memories answer ⊎ Ends (On rows text) (with_file (with_file old first) cert) new answer → Memories answer ⊎ (answer.status ≤ 1)
      on_text (inl memory) = inl memory
      on_text (inr last) = ends last

      by : Memories answer ⊎ OfText cert rows (with_file old first) new answer → Memories answer ⊎ (answer.status ≤ 1)
      by (inl memory) = inl memory
      by (inr on) = on_text (of_text MAX_CERT_BYTES kinds.Certificate files cert text (λ text. Ends (On rows text)) (with_file old first) new answer tells calm is on)

  -- an answer with status 0 or 1 comes of files that are accepted
  pub kind_accepts : (files : Holding) (first cert : List ℕ) (old new : ShelfView) (answer : Answer) → old.holds ≡ Some files → answer.status ≤ 1 → OfNet first (OfText cert) old new answer
      → (rows : NetRows) × IsNetFile files first rows × (net : ScaledNet) × (value : A) × (text : List ℕ) × IsText MAX_CERT_BYTES (Some files) cert text × AreRead rows text net value
  kind_accepts files first cert old new answer tells full of =
      let r = rows_of_file files first (OfText cert) old new answer tells full of in
      let t = text_of_file MAX_CERT_BYTES kinds.Certificate files cert (λ text. Ends (On r.0 text)) (with_file old first) new answer tells full r.2 in
      let on : On r.0 t.0 answer = ends_full (On r.0 t.0) (with_file (with_file old first) cert) new answer full t.2 in
      let low = subst (λ (a : Answer). a.status ≤ 1) on.2 full in
      let p = accepted_by r.0 own (more r.0) (rest r.0 (lines_of t.0)) (head (lines_of t.0)) refused (Says r.0) on.0 (judged_full on.0 low) on.1 in
      (r.0, r.1, p.0, p.1, t.0, t.1, p.2)
