-- What a run of `solve` or `upgrade` wrote is judged valid by a run of `check`.
use Rattle.std.proofs.Common.{◌≡◌, ℕ, ◌≤◌, List, [], ◌++◌, Option, Some, None, Ok, inl, inr, sym, ap, subst, ◌∙◌, arith}
use Rattle.std.specs.Prelude.{◌⊎◌, ◌↔◌}
use Rattle.std.specs.Io.KnownBytes.{Appends}
use Rattle.mcf_limits.specs.declared.TheConstants.{MAX_CERT_BYTES}
use Rattle.mcf_base.specs.Shelf.{Holding, ShelfView, with_file}
use Rattle.mcf_base.specs.Reading.{IsText}
use Rattle.mcf_base.specs.Sink.{SinkView}
use Rattle.unit_scale.specs.declared.options.NetOptions.{NetOptions}
use Rattle.sndlib_grammar.specs.Rows.{NetRows}
use Rattle.unit_scale.specs.Scaling.{ScaledNet, scaled_of}
use Rattle.solver_run.specs.History.{SolvedView}
use Rattle.flow_paths.specs.declared.certificate.Proof.{Proof}
use Rattle.flow_paths.specs.Certificate.{IsValid}
use Rattle.text_lines.specs.Lines.{lines_of}
use Rattle.cert_lines.specs.declared.form.Form.{Form}
use Rattle.cert_lines.specs.declared.form.Form.TheVariants.{Second}
use Rattle.cert_lines.specs.Sheet.{IsOf, Sheets, sheet_for, sheet_of, sheets_of}
use Rattle.cert_lines.specs.declared.net_line.TheConstants.{MAX_COUNT}
use Rattle.cert_text.specs.declared.papers.Paper.{Paper}
use Rattle.cert_text.specs.declared.papers.Paper.TheVariants as papers
use Rattle.cert_text.specs.Whole.{paper_in}
use Rattle.cert_writer.specs.Text.{FitsProof, certificate_text}
use Rattle.cert_judge.specs.Fits.{read}
use Rattle.cert_judge.specs.declared.judged.Judged.{Judged}
use Rattle.cert_judge.specs.declared.judged.Judged.TheVariants as judges
use Rattle.cert_judge.specs.Judgement.{IsJudgement}
use Rattle.cert_inverse.specs.Inverse.{AreCitable, IsPaperText, IsTextOf, paper_text}
use Rattle.cert_inverse.proofs.NetworkWords.{is_scaled}
use Rattle.cert_inverse.specs.Judging.{valid_of}
use Rattle.net_solve.specs.declared.asked.Asked.{Asked}
use Rattle.net_solve.specs.declared.solving.Solving.{Solving}
use Rattle.net_solve.specs.declared.solving.Solving.TheVariants as solvings
use Rattle.net_solve.specs.Solving.{IsDone, IsSolving}
use Rattle.cert_judge.specs.declared.certifying.Certified.{Certified}
use Rattle.cert_judge.specs.declared.certifying.Certified.TheVariants as certs
use Rattle.cert_judge.specs.Certified.{IsCertificate, OnCertificate as CertOnCertificate}
use Rattle.mcf_words.specs.declared.request.Command.{Command}
use Rattle.mcf_words.specs.declared.request.Command.TheVariants as commands
use Rattle.mcf_words.specs.declared.request.Request.{Request}
use Rattle.base_cmd.specs.declared.ended.Ended.{Ended}
use Rattle.base_cmd.specs.declared.outcome.FileKind.TheVariants as kinds
use Rattle.base_cmd.specs.declared.outcome.Outcome.TheVariants as outcomes
use Rattle.base_cmd.specs.Answer.{Answer, IsGiven, Writes, cut_off, ended_of, judged_answer}
use Rattle.base_cmd.specs.Found.{found_solve}
use Rattle.base_cmd.specs.Files.{Ends, OfFile, OfNet}
use Rattle.solve_cmd.specs.Solve.{asked_of, solve_answer, solving_answer, SolvesRows}
use Rattle.cert_cmd.specs.Check.{OnTexts}
use Rattle.cert_cmd.specs.Upgrade.{upgrade_answer, OnUpgrade, OfUpgraded}
use Rattle.mcf_cli.specs.Run.{file_at, OfCommand, OfRequest, IsAnswer}
use Rattle.cli_laws.specs.Accepted.{IsNetFile}
use Rattle.cli_laws.specs.Checked.{IsRunOf, IsSolvedRun, IsUpgradedRun, IsCheckedRun, IsJudgedRun, IsToldAs, IsToldValid, ChecksAs, ChecksAlike, Upgrades}
use Rattle.cli_laws.proofs.Asked.{cert_read, upgrade_full}
use Rattle.cli_laws.proofs.Given.{Memories, ends_full, not_full, of_rows, of_text, rows_of_file, text_of_file}

-- the law of what is solved: its text is judged valid, and nothing else is said of it
abbrev Alone : Type 0
Alone =
    (rows : NetRows) (o : NetOptions) (asked : Asked) (net : ScaledNet) (s : SolvedView) (judged : Judged) → IsDone rows o asked net s
    → IsJudgement rows (certificate_text (sheet_of rows net) s.proof) judged → judged ≡ valid_of net s.proof

-- what texts cite of a network can be told apart in both forms
abbrev Cites : Type 0
Cites = (rows : NetRows) (net : ScaledNet) → IsOf rows net → rows.skipped ≤ MAX_COUNT → AreCitable (sheets_of rows net)

-- what is read of a text is what it is the text of, in one of the forms
abbrev Exactly : Type 0
Exactly = (sheets : Sheets) (text : List ℕ) (paper : Paper) → AreCitable sheets → (paper_in sheets (lines_of text) ≡ read paper) ↔ IsTextOf sheets text paper

-- a valid certificate that is written is judged valid
abbrev Judges : Type 0
Judges =
    (rows : NetRows) (net : ScaledNet) (proof : Proof) (judged : Judged) → IsOf rows net → rows.skipped ≤ MAX_COUNT → FitsProof (sheet_of rows net) proof → IsValid net.net proof
    → IsJudgement rows (certificate_text (sheet_of rows net) proof) judged → judged ≡ valid_of net proof

-- a run of `solve` that ended well: the rows of its network's file, and the solve whose certificate is the text
record IsSolve (files : Holding) (request : Request) (text : List ℕ) (ended : Ended) : Type 0 where
  pub rows : NetRows
  pub net_file : IsNetFile files (file_at request 0) rows
  pub net : ScaledNet
  pub solved : SolvedView
  pub done : IsDone rows request.net (asked_of request) net solved
  pub text_is : text ≡ certificate_text (sheet_of rows net) solved.proof
  pub found : ended.found ≡ found_solve solved

-- ---- the first run

-- the answer of a run that wrote this text and nothing else
pub record RunAnswer (command : Command) (most : ℕ) (files : Holding) (request : Request) (text : List ℕ) (ended : Ended) : Type 0 where
  pub answer : Answer
  pub old : ShelfView
  pub new : ShelfView
  pub tells : old.holds ≡ Some files
  pub low : answer.status ≤ most
  pub of : OfCommand command request old new answer
  pub text_is : text ≡ answer.text
  pub status_is : ended.status ≡ answer.status
  pub found : ended.found ≡ answer.found

text_same : (before after : Option (List ℕ)) (text answer : List ℕ) → before ≡ Some [] → after ≡ Some text → Appends before after answer → text ≡ answer
text_same None after text answer e f h = absurd cc
text_same (Some xs) None text answer e f h = absurd h
text_same (Some xs) (Some ys) text answer e f h =
    let none : xs ≡ [] = cc in
    let all : ys ≡ text = cc in
    sym all ∙ h ∙ ap (λ (l : List ℕ). l ++ answer) none

failed_full : (ended : Ended) → ended ≡ cut_off → ended.status ≤ 1 → ⊥
failed_full ended e full = let is : ended.status ≡ 5 = ap (λ (x : Ended). x.status) e in omega arith

pub run_answered : (command : Command) (most : ℕ) (files : Holding) (request : Request) (text : List ℕ) (ended : Ended) → most ≤ 1 → IsRunOf command most files request text ended
    → RunAnswer command most files request text ended
run_answered command most files request text ended few run = by run.runs.1 run.runs.2
  where
    answer : Answer
    answer = run.runs.0

    low : ended ≡ ended_of answer → answer.status ≤ most
    low e = subst (λ (n : ℕ). n ≤ most) (ap (λ (x : Ended). x.status) e) run.full

    by : IsAnswer run.words run.old run.new answer → Writes run.before run.after ended answer → RunAnswer command most files request text ended
    by from (inr cut) = absurd (failed_full ended cut.ends (omega (arith, run.full, few)))
    by (inl (memory, same)) (inl given) = absurd (not_full answer outcomes.Memory memory (omega (arith, low given.ends, few)) (omega arith))
    by (inr of) (inl given) = record {
      answer = answer;
      old = run.old;
      new = run.new;
      tells = run.tells;
      low = low given.ends;
      of = subst (λ (c : Command). OfCommand c request run.old run.new answer) run.is (subst (λ (r : Option Request). OfRequest r run.old run.new answer) run.asked of);
      text_is = text_same run.before.written run.after.written text answer.text run.empty run.wrote given.text;
      status_is = ap (λ (x : Ended). x.status) given.ends;
      found = ap (λ (x : Ended). x.found) given.ends;
    }

-- ---- the run of `solve`

-- the answer of a solve is its certificate
record IsOfSolve (rows : NetRows) (request : Request) (answer : Answer) : Type 0 where
  pub net : ScaledNet
  pub solved : SolvedView
  pub done : IsDone rows request.net (asked_of request) net solved
  pub same : answer ≡ solve_answer rows net solved

solving_done : (rows : NetRows) (request : Request) (answer : Answer) (solving : Solving) → answer.status ≤ 1 → IsSolving rows request.net (asked_of request) solving → answer ≡ solving_answer rows solving
    → IsOfSolve rows request answer
solving_done rows request answer (solvings.Refused r) full is same = absurd (not_full answer (outcomes.NetRefused r) same full (omega arith))
solving_done rows request answer (solvings.TooMuch n) full is same = absurd (not_full answer (outcomes.TooMuch n) same full (omega arith))
solving_done rows request answer (solvings.Done net s) full is same = record { net = net; solved = s; done = is; same = same }

solved_by : (files : Holding) (request : Request) (text : List ℕ) (ended : Ended) → IsSolvedRun files request text ended → IsSolve files request text ended
solved_by files request text ended run =
    let a = run_answered commands.Solve 1 files request text ended (omega arith) run in
    let r = rows_of_file files (file_at request 0) (λ rows. Ends (SolvesRows request rows)) a.old a.new a.answer a.tells a.low a.of in
    let solves : SolvesRows request r.0 a.answer = ends_full (SolvesRows request r.0) (with_file a.old (file_at request 0)) a.new a.answer a.low r.2 in
    let s = solving_done r.0 request a.answer solves.0 a.low solves.1 solves.2 in
    record {
      rows = r.0;
      net_file = r.1;
      net = s.net;
      solved = s.solved;
      done = s.done;
      text_is = a.text_is ∙ ap (λ (a : Answer). a.text) s.same;
      found = a.found ∙ ap (λ (a : Answer). a.found) s.same;
    }

-- ---- the run of `upgrade`

-- a run of `upgrade` that ended well: the rows of its network's file, and the valid certificate of its second file
record IsUpgrade (files : Holding) (request : Request) (text : List ℕ) : Type 0 where
  pub rows : NetRows
  pub net_file : IsNetFile files (file_at request 0) rows
  pub net : ScaledNet
  pub proof : Proof
  pub cert : List ℕ
  pub given : IsText MAX_CERT_BYTES (Some files) (file_at request 1) cert
  pub cert_read : paper_in (sheets_of rows net) (lines_of cert) ≡ Ok (papers.Full proof)
  pub certificate : IsCertificate rows net proof
  pub text_is : text ≡ certificate_text (sheet_of rows net) proof

-- the answer is the text of the valid certificate
upgraded_is : (rows : NetRows) (net : ScaledNet) (proof : Proof) (certified : Certified) (answer : Answer) → answer.status ≤ 0 → CertOnCertificate rows net proof certified
    → answer ≡ upgrade_answer rows certified → IsCertificate rows net proof × (answer.text ≡ certificate_text (sheet_of rows net) proof)
upgraded_is rows net proof (certs.Valid n p) answer low is same =
    (is.2, ap (λ (a : Answer). a.text) same ∙ ap (λ (m : ScaledNet). certificate_text (sheet_of rows m) p) is.0 ∙ ap (λ (q : Proof). certificate_text (sheet_of rows net) q) is.1)
upgraded_is rows net proof (certs.Said (judges.Invalid fault)) answer low is same =
    let one : answer.status ≡ 1 = ap (λ (a : Answer). a.status) same in
    absurd (omega arith)
upgraded_is rows net proof (certs.Said (judges.NetRefused x)) answer low is same = absurd is
upgraded_is rows net proof (certs.Said (judges.CertRefused x)) answer low is same = absurd is
upgraded_is rows net proof (certs.Said (judges.Feasible o v)) answer low is same = absurd is
upgraded_is rows net proof (certs.Said (judges.Valid o c l u)) answer low is same = absurd is

upgraded_by : (files : Holding) (request : Request) (text : List ℕ) (ended : Ended) → IsUpgradedRun files request text ended → IsUpgrade files request text
upgraded_by files request text ended run =
    let first = file_at request 0 in
    let cert = file_at request 1 in
    let a = run_answered commands.Upgrade 0 files request text ended (omega arith) run in
    let low : a.answer.status ≤ 1 = omega (arith, a.low) in
    let r = rows_of_file files first (λ rows. OfUpgraded rows cert) a.old a.new a.answer a.tells low a.of in
    let t = text_of_file MAX_CERT_BYTES kinds.Certificate files cert (λ text. Ends (OnUpgrade r.0 text)) (with_file a.old first) a.new a.answer a.tells low r.2 in
    let on : OnUpgrade r.0 t.0 a.answer = ends_full (OnUpgrade r.0 t.0) (with_file (with_file a.old first) cert) a.new a.answer low t.2 in
    let p = cert_read r.0 t.0 on.0 on.1 (upgrade_full r.0 on.0 a.answer on.2 low) in
    let u = upgraded_is r.0 p.net p.proof on.0 a.answer a.low p.on on.2 in
    record {
      rows = r.0;
      net_file = r.1;
      net = p.net;
      proof = p.proof;
      cert = t.0;
      given = t.1;
      cert_read = p.rest_read;
      certificate = u.0;
      text_is = a.text_is ∙ u.1;
    }

-- ---- the run of `check`

-- what is said of the text on the rows is that it is this valid certificate's
abbrev pub SaysValid : NetRows → ScaledNet → Proof → List ℕ → Type 0
SaysValid rows net proof text = (judged : Judged) → IsJudgement rows text judged → judged ≡ valid_of net proof

text_valid : (rows : NetRows) (net : ScaledNet) (proof : Proof) (text : List ℕ) (answer : Answer) → SaysValid rows net proof text → OnTexts rows text answer → answer ≡ judged_answer (valid_of net proof)
text_valid rows net proof text answer says (judged, is, same) = same ∙ ap judged_answer (says judged is)

-- Of a command that judges: what it answers of rows and a text, and what was said of this text on these rows.
module _ (command : Command) (On : NetRows → List ℕ → Answer → Type 0) (judged : Judged) (files again : Holding) (first check : Request) (text : List ℕ) (before after : SinkView) (second : Ended) (rows : NetRows)
    (net_file : IsNetFile files (file_at first 0) rows) (says : (answer : Answer) → On rows text answer → answer ≡ judged_answer judged)
    (is_of : (old new : ShelfView) (answer : Answer) → OfCommand command check old new answer
    → OfNet (file_at check 0) (λ rows. OfFile MAX_CERT_BYTES kinds.Certificate (file_at check 1) (λ text. Ends (On rows text))) old new answer)
    (run : IsJudgedRun command files again first check text before after second) where
  abbrev Valid : Answer → Type 0
  Valid answer = answer ≡ judged_answer judged

  -- out of memory, or the line that says this
  check_of : (answer : Answer) → OfNet (file_at check 0) (λ rows. OfFile MAX_CERT_BYTES kinds.Certificate (file_at check 1) (λ text. Ends (On rows text))) run.old run.new answer → Memories answer ⊎ Valid answer
  check_of answer of = by (of_rows again (file_at check 0) rows (λ rows. OfFile MAX_CERT_BYTES kinds.Certificate (file_at check 1) (λ text. Ends (On rows text))) run.old run.new answer run.tells run.calm.shelf file of)
    where
      file : IsNetFile again (file_at check 0) rows
      file = record { text = net_file.text; given = record { file = run.network ∙ net_file.given.file; short = net_file.given.short }; read = net_file.read }

      last : Memories answer ⊎ Ends (On rows text) (with_file (with_file run.old (file_at check 0)) (file_at check 1)) run.new answer → Memories answer ⊎ Valid answer
      last (inl memory) = inl memory
      last (inr (same, inl memory)) = inl memory
      last (inr (same, inr on)) = inr (says answer on)

      by : Memories answer ⊎ OfFile MAX_CERT_BYTES kinds.Certificate (file_at check 1) (λ text. Ends (On rows text)) (with_file run.old (file_at check 0)) run.new answer → Memories answer ⊎ Valid answer
      by (inl memory) = inl memory
      by (inr on) =
          last (of_text MAX_CERT_BYTES kinds.Certificate again (file_at check 1) text (λ text. Ends (On rows text)) (with_file run.old (file_at check 0)) run.new answer run.tells run.calm.shelf
          (record { file = run.certificate; short = run.short }) on)

  pub told_as : IsToldAs judged before after second
  told_as = by run.runs.1 run.runs.2
    where
      answer : Answer
      answer = run.runs.0

      said : IsGiven before after second answer → Memories answer ⊎ Valid answer → IsToldAs judged before after second
      said given (inl memory) = inr (subst (λ (a : Answer). IsGiven before after second a) memory given)
      said given (inr valid) = inl (subst (λ (a : Answer). IsGiven before after second a) valid given)

      by : IsAnswer run.words run.old run.new answer → Writes before after second answer → IsToldAs judged before after second
      by from (inr cut) = absurd (run.calm.output cut.failed.rose)
      by (inl (memory, same)) (inl given) = said given (inl memory)
      by (inr of) (inl given) =
          said given (check_of answer (is_of run.old run.new answer (subst (λ (c : Command). OfCommand c check run.old run.new answer) run.is (subst (λ (r : Option Request). OfRequest r run.old run.new answer) run.asked of))))

pub checked : (files again : Holding) (first check : Request) (text : List ℕ) (before after : SinkView) (second : Ended) (rows : NetRows) (net : ScaledNet) (proof : Proof) → IsNetFile files (file_at first 0) rows
    → SaysValid rows net proof text → IsCheckedRun files again first check text before after second → IsToldValid net proof before after second
checked files again first check text before after second rows net proof net_file says run =
    told_as commands.Check OnTexts (valid_of net proof) files again first check text before after second rows net_file (λ answer on. text_valid rows net proof text answer says on) (λ old new answer of. of) run

-- ---- both

pub checks : Alone → (files again : Holding) (solve check : Request) (text : List ℕ) (first second : Ended) (before after : SinkView)
    → IsSolvedRun files solve text first → IsCheckedRun files again solve check text before after second → ChecksAs files solve first before after second
checks alone files again solve check text first second before after solved run =
    let s = solved_by files solve text first solved in
    let says : SaysValid s.rows s.net s.solved.proof text = λ judged is.
    alone s.rows solve.net (asked_of solve) s.net s.solved judged s.done (subst (λ (t : List ℕ). IsJudgement s.rows t judged) s.text_is is) in
    record {
      rows = s.rows;
      net_file = s.net_file;
      net = s.net;
      solved = s.solved;
      done = s.done;
      found = s.found;
      told = checked files again solve check text before after second s.rows s.net s.solved.proof s.net_file says run;
    }

-- the network was scaled under its options
under_options : (rows : NetRows) (net : ScaledNet) → IsOf rows net → scaled_of rows net.options ≡ Ok net
under_options rows net h = subst (λ (o : NetOptions). scaled_of rows o ≡ Ok net) (ap (λ (n : ScaledNet). n.options) (is_scaled rows net h)) h.scaled

-- a text of form 2 is that of the certificate in form 2
form_two : (rows : NetRows) (net : ScaledNet) (proof : Proof) (cert : List ℕ) (form : Form) → IsPaperText (sheets_of rows net) form cert (papers.Full proof) → form ≡ Second
    → cert ≡ certificate_text (sheet_of rows net) proof
form_two rows net proof cert form is e = subst (λ (f : Form). cert ≡ paper_text (sheet_for (sheets_of rows net) f) (papers.Full proof)) e is.spelled

upgrades_of : Cites → Exactly → (files : Holding) (request : Request) (text : List ℕ) → IsUpgrade files request text → Upgrades files request text
upgrades_of cites exactly files request text u =
    let c = u.certificate in
    let is : IsTextOf (sheets_of u.rows u.net) u.cert (papers.Full u.proof) =
    (exactly (sheets_of u.rows u.net) u.cert (papers.Full u.proof) (cites u.rows u.net c.names c.counted)).0 u.cert_read in
    record {
      rows = u.rows;
      net_file = u.net_file;
      net = u.net;
      scaled = under_options u.rows u.net c.names;
      proof = u.proof;
      valid = c.valid;
      cert = u.cert;
      given = u.given;
      form = is.0;
      was = is.1;
      is = u.text_is;
      again = λ e. u.text_is ∙ sym (form_two u.rows u.net u.proof u.cert is.0 is.1 e);
    }

pub upgrade_keeps : Cites → Exactly → (files : Holding) (upgrade : Request) (text : List ℕ) (ended : Ended) → IsUpgradedRun files upgrade text ended → Upgrades files upgrade text
upgrade_keeps cites exactly files upgrade text ended run = upgrades_of cites exactly files upgrade text (upgraded_by files upgrade text ended run)

pub upgrade_checks : Cites → Exactly → Judges → (files again : Holding) (upgrade check : Request) (text : List ℕ) (first second : Ended) (before after : SinkView)
    → IsUpgradedRun files upgrade text first → IsCheckedRun files again upgrade check text before after second → ChecksAlike files upgrade text before after second
unfolding upgrades_of
upgrade_checks cites exactly judges files again upgrade check text first second before after upgraded run =
    let u = upgraded_by files upgrade text first upgraded in
    let c = u.certificate in
    let says : SaysValid u.rows u.net u.proof text = λ judged is.
    judges u.rows u.net u.proof judged c.names c.counted c.fits c.valid (subst (λ (t : List ℕ). IsJudgement u.rows t judged) u.text_is is) in
    record {
      first = upgrades_of cites exactly files upgrade text u;
      told = checked files again upgrade check text before after second u.rows u.net u.proof u.net_file says run;
    }
