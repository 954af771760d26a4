-- A run of accepted words and files answers in full, and no other does.
use Rattle.std.proofs.Common.{◌≡◌, ℕ, ◌≤◌, List, Option, Some, None, Result, Ok, Err, inl, inr, refl, ap, subst, ◌∙◌, arith}
use Rattle.mcf_limits.specs.declared.TheConstants.{MAX_CERT_BYTES, MAX_LIST_BYTES, MAX_SCRIPT_BYTES}
use Rattle.std.specs.Prelude.{codes}
use Rattle.mcf_base.specs.Reading.{IsText}
use Rattle.mcf_base.specs.Shelf.{Holding, ShelfView, with_file}
use Rattle.mcf_base.specs.Sink.{SinkView}
use Rattle.text_lines.specs.Lines.{Line, lines_of}
use Rattle.flow_model.specs.Network.{Network}
use Rattle.flow_paths.specs.declared.certificate.Proof.{Proof}
use Rattle.flow_paths.specs.Certificate.{IsValid}
use Rattle.cert_check.specs.declared.verdict.Fault.{Fault}
use Rattle.cert_check.specs.declared.verdict.Fault.TheVariants.{C1, C2, C3, C4, C5, C6, C7, C8, C9, C10}
use Rattle.cert_check.specs.Verdict.{IsFirstFault}
use Rattle.sndlib_grammar.specs.Rows.{NetRows}
use Rattle.sndlib_grammar.specs.declared.refusal.NetRefusal.{NetRefusal}
use Rattle.unit_scale.specs.Scaling.{ScaledNet, scaled_of}
use Rattle.cert_lines.specs.Sheet.{sheets_of}
use Rattle.cert_text.specs.declared.opening.CertHead.{CertHead}
use Rattle.cert_text.specs.declared.papers.Paper.TheVariants as papers
use Rattle.cert_text.specs.Whole.{head_in, paper_in}
use Rattle.cert_judge.specs.declared.judged.Judged.{Judged}
use Rattle.cert_judge.specs.declared.judged.Judged.TheVariants as judges
use Rattle.cert_judge.specs.declared.refusal.Refusal.{Refusal}
use Rattle.cert_judge.specs.declared.refusal.Refusal.TheVariants.{Net, Cert}
use Rattle.cert_judge.specs.declared.second.Second.{Second}
use Rattle.cert_judge.specs.declared.second.Second.TheVariants as seconds
use Rattle.cert_judge.specs.Papers.{options_of}
use Rattle.cert_judge.specs.Second.{with_net}
use Rattle.cert_judge.proofs.PaperFacts.{scaled_own}
use Rattle.cert_judge.proofs.Seconds.{second_by}
use Rattle.cert_judge.proofs.Judgements.{certified_by, judged_by}
use Rattle.net_solve.specs.declared.solving.Solving.{Solving}
use Rattle.net_solve.specs.declared.solving.Solving.TheVariants as solvings
use Rattle.net_solve.specs.Solving.{IsSolving}
use Rattle.cert_judge.specs.declared.certifying.Certified.{Certified}
use Rattle.cert_judge.specs.declared.certifying.Certified.TheVariants as certs
use Rattle.net_whatif.specs.declared.scripting.Scripted.{Scripted}
use Rattle.net_whatif.specs.declared.scripting.Scripted.TheVariants as scripts
use Rattle.script.specs.declared.step.Step.{Step}
use Rattle.script.specs.Reading.{script_of}
use Rattle.cert_judge.specs.Certified.{told, OnCertificate as CertOnCertificate, IsCertifiedText}
use Rattle.net_whatif.specs.Scripted.{IsScriptedText}
use Rattle.mcf_words.specs.declared.request.Request.{Request}
use Rattle.mcf_words.specs.Request.{request_of}
use Rattle.mcf_words.specs.declared.request.Command.{Command}
use Rattle.mcf_words.specs.declared.request.Command.TheVariants as commands
use Rattle.base_cmd.specs.declared.ended.Ended.{Ended}
use Rattle.base_cmd.specs.declared.outcome.FileKind.TheVariants as kinds
use Rattle.base_cmd.specs.declared.outcome.Outcome.TheVariants as outcomes
use Rattle.base_cmd.specs.Answer.{Answer, IsGiven, Writes, answer_of, cut_off, ended_of}
use Rattle.base_cmd.specs.Files.{Ends, OfFile, OrMemory}
use Rattle.solve_cmd.specs.Print.{OfPrint, printed}
use Rattle.cert_cmd.specs.Check.{OnTexts, OfCheck}
use Rattle.solve_cmd.specs.Solve.{asked_of, solving_answer, SolvesRows, OfSolve}
use Rattle.cert_cmd.specs.Tighten.{OnBoth, OnSecond, OnFirst, OnFirstRead, OnFirstText, OfFirst, OfTighten}
use Rattle.cert_cmd.specs.Upgrade.{upgrade_answer, OnUpgrade, OfUpgraded, OfUpgrade}
use Rattle.matrix_batch.specs.Matrices.{Matrix}
use Rattle.matrix_batch.specs.Batch.{IsBatch, IsBatchTooMuch}
use Rattle.matrix_batch.specs.Refusals.{BatchRefusal, InNet, InList}
use Rattle.batch_cmd.specs.Batch.{batch_asked_of, SolvesBatch, OnBatch, OnList, OfList, OfBatch}
use Rattle.sweep_cmd.specs.Sweep.{sweep_answer, OnSweep, OfSwept, OfSweep}
use Rattle.sweep_cmd.specs.SweepSolve.{sweep_asked_of, OnScaled, OnSweepSolve, OfSweepSolve}
use Rattle.cert_cmd.specs.WhatIf.{scripted_answer, OnScript, OnCertified, OnCertificate, OfWhatIf}
use Rattle.solve_cmd.specs.Drawn.{OfTrial}
use Rattle.cert_judge.specs.Papers.{nothing_more}
use Rattle.kind_texts.specs.Heads.{run_head}
use Rattle.hop_check.specs.Limits.{hop_refusal, limits_of}
use Rattle.hops_cmd.specs.Check as hops
use Rattle.hops_cmd.specs.Hops as hop_runs
use Rattle.hops_cmd.specs.declared.solving.HopSolving.{HopSolving}
use Rattle.hops_cmd.specs.declared.solving.HopSolving.TheVariants as hop_solvings
use Rattle.throughput_cmd.specs.Check as parts
use Rattle.throughput_cmd.specs.Parts as part_runs
use Rattle.throughput_cmd.specs.declared.solving.PartSolving.{PartSolving}
use Rattle.throughput_cmd.specs.declared.solving.PartSolving.TheVariants as part_solvings
use Rattle.mcf_cli.specs.Run.{file_at, file_if, OfCommand, OfRequest, IsAnswer, RunEnds}
use Rattle.cli_laws.specs.Accepted.{IsSolvable, IsSweepSolvable, IsListFile, IsNetFile, IsPaperFile, IsScriptFile, IsSecondFile, AcceptsPrint, AcceptsSolve, AcceptsSweepSolve, AcceptsBatch, AcceptsCheck, AcceptsTighten, AcceptsUpgrade, AcceptsWhatIf, AcceptsTrial, IsHopSolvable, IsPartSolvable, AcceptsHops, AcceptsThroughput, AcceptsCheckHops, AcceptsCheckThroughput, Accepts, IsAccepted}
use Rattle.cli_laws.specs.Whole.{HasNoFault, EndsWhole}
use Rattle.cli_laws.proofs.Given.{not_full, text_of_file, rows_of_file, ends_full}
use Rattle.cli_laws.proofs.Answered.{Low, command_low}
use Rattle.cli_laws.proofs.KindRuns.{judged_full, kind_accepts}

-- ---- a run of accepted words and files

of_asked : (words : List (List ℕ)) (files : Holding) (old new : ShelfView) (answer : Answer) → (a : IsAccepted files words) → OfRequest (request_of words) old new answer
    → OfCommand a.request.command a.request old new answer
of_asked words files old new answer a of = subst (λ (r : Option Request). OfRequest r old new answer) a.asked of

pub answered : (files : Holding) (words : List (List ℕ)) (old new : ShelfView) (before after : SinkView) (ended : Ended) → old.holds ≡ Some files
    → RunEnds words old new before after ended → IsAccepted files words → HasNoFault old new before after → EndsWhole words old new before after ended
answered files words old new before after ended tells (answer, is, writes) a calm = by is writes
  where
    low : OfRequest (request_of words) old new answer → Low answer → IsGiven before after ended answer → EndsWhole words old new before after ended
    low of (inl memory) given = (answer, inr memory, given)
    low of (inr status) given = (answer, inl (record { of = of; status = status }), given)

    by : IsAnswer words old new answer → Writes before after ended answer → EndsWhole words old new before after ended
    by from (inr cut) = absurd (calm.output cut.failed.rose)
    by (inl (memory, same)) (inl given) = (answer, inr memory, given)
    by (inr of) (inl given) = low of (command_low a.request.command files a.request old new answer tells calm.shelf a.accepts (of_asked words files old new answer a of)) given

-- ---- no other run answers in full

-- an answer whose status is known
other_is : (answer other : Answer) → answer ≡ other → answer.status ≤ 1 → other.status ≤ 1
other_is answer other e low = subst (λ (a : Answer). a.status ≤ 1) e low

print_accepts : (files : Holding) (request : Request) (old new : ShelfView) (answer : Answer) → old.holds ≡ Some files → answer.status ≤ 1 → OfPrint (file_at request 0) old new answer → AcceptsPrint files request
print_accepts files request old new answer tells full of =
    let r = rows_of_file files (file_at request 0) (λ rows. Ends (λ given. given ≡ printed rows)) old new answer tells full of in
    (r.0, r.1)

solving_can : (rows : NetRows) (request : Request) (solving : Solving) → IsSolving rows request.net (asked_of request) solving → (solving_answer rows solving).status ≤ 1 → IsSolvable rows request
solving_can rows request (solvings.Refused r) is low = absurd (not_full (answer_of (outcomes.NetRefused r)) (outcomes.NetRefused r) refl low (omega arith))
solving_can rows request (solvings.TooMuch n) is low = absurd (not_full (answer_of (outcomes.TooMuch n)) (outcomes.TooMuch n) refl low (omega arith))
solving_can rows request (solvings.Done net s) is low = record { net = net; scaled = is.network; work = is.work }

solve_accepts : (files : Holding) (request : Request) (old new : ShelfView) (answer : Answer) → old.holds ≡ Some files → answer.status ≤ 1 → OfSolve (file_at request 0) request old new answer → AcceptsSolve files request
solve_accepts files request old new answer tells full of =
    let r = rows_of_file files (file_at request 0) (λ rows. Ends (SolvesRows request rows)) old new answer tells full of in
    let solves : SolvesRows request r.0 answer = ends_full (SolvesRows request r.0) (with_file old (file_at request 0)) new answer full r.2 in
    (r.0, r.1, solving_can r.0 request solves.0 solves.1 (other_is answer (solving_answer r.0 solves.0) solves.2 full))

trial_accepts : (request : Request) (answer : Answer) → answer.status ≤ 1 → OfTrial request answer → AcceptsTrial request
trial_accepts request answer full (rows, read, inl (n, is, same)) = absurd (not_full answer (outcomes.TooMuch n) same full (omega arith))
trial_accepts request answer full (rows, read, inr (s, done, same)) = done.work

-- ---- check

check_accepts : (files : Holding) (request : Request) (old new : ShelfView) (answer : Answer) → old.holds ≡ Some files → answer.status ≤ 1 → OfCheck (file_at request 0) (file_at request 1) old new answer → AcceptsCheck files request
check_accepts files request old new answer tells full of =
    let first = file_at request 0 in
    let cert = file_at request 1 in
    let r = rows_of_file files first (λ rows. OfFile MAX_CERT_BYTES kinds.Certificate cert (λ text. Ends (OnTexts rows text))) old new answer tells full of in
    let t = text_of_file MAX_CERT_BYTES kinds.Certificate files cert (λ text. Ends (OnTexts r.0 text)) (with_file old first) new answer tells full r.2 in
    let on : OnTexts r.0 t.0 answer = ends_full (OnTexts r.0 t.0) (with_file (with_file old first) cert) new answer full t.2 in
    let low = other_is answer (answer_of (outcomes.Judged on.0)) on.2 full in
    let p = judged_by r.0 t.0 on.0 (judged_full on.0 low) on.1 in
    (r.0, r.1, p.0, p.1, record { text = t.0; given = t.1; head = p.2.head_of; head_read = p.2.head_read; scaled = p.2.scaled; rest_read = p.2.rest_read })

-- ---- whatif

-- no condition of a valid certificate fails
pub no_fault : (net : Network) (p : Proof) → IsValid net p → (fault : Fault) → IsFirstFault net p fault → ⊥
no_fault net p v C1 h = h v.routing.walks
no_fault net p v C2 h = h.1 v.routing.carried
no_fault net p v C3 h = h.2 v.routing.loads
no_fault net p v C4 h = h.3 v.routing.scale
no_fault net p v C5 h = h.1 v.lengths
no_fault net p v C6 h = h.2 v.sources
no_fault net p v C7 h = h.3 v.potentials
no_fault net p v C8 h = h.4 v.distance
no_fault net p v C9 h = h.5 v.printed
no_fault net p v C10 h = h.6 v.verdict

scripted_full : (rows : NetRows) (net : ScaledNet) (proof : Proof) (text : List ℕ) (scripted : Scripted) → IsScriptedText rows net proof text scripted → (scripted_answer scripted).status ≤ 1
    → (steps : List Step) × (script_of rows net text ≡ Ok steps)
scripted_full rows net proof text (scripts.Refused r) is low = absurd (not_full (answer_of (outcomes.ScriptRefused r)) (outcomes.ScriptRefused r) refl low (omega arith))
scripted_full rows net proof text (scripts.Ready plan script) is low = (script.steps, is.0)

script_read : (files : Holding) (name : List ℕ) (rows : NetRows) (net : ScaledNet) (proof : Proof) (old new : ShelfView) (answer : Answer) → old.holds ≡ Some files → answer.status ≤ 1
    → OfFile MAX_SCRIPT_BYTES kinds.Script name (λ text. Ends (OnScript rows net proof text)) old new answer → IsScriptFile files name rows net
script_read files name rows net proof old new answer tells full of =
    let t = text_of_file MAX_SCRIPT_BYTES kinds.Script files name (λ text. Ends (OnScript rows net proof text)) old new answer tells full of in
    let on : OnScript rows net proof t.0 answer = ends_full (OnScript rows net proof t.0) (with_file old name) new answer full t.2 in
    let s = scripted_full rows net proof t.0 on.0 on.1 (other_is answer (scripted_answer on.0) on.2 full) in
    record { text = t.0; given = t.1; steps = s.0; read = s.1 }

script_where_valid : (files : Holding) (name : List ℕ) (rows : NetRows) (net : ScaledNet) (proof : Proof) (certified : Certified) (old new : ShelfView) (answer : Answer) → old.holds ≡ Some files → answer.status ≤ 1
    → CertOnCertificate rows net proof certified → OnCertified rows name certified old new answer → IsValid net.net proof → IsScriptFile files name rows net
script_where_valid files name rows net proof (certs.Valid n p) old new answer tells full is on valid =
    script_read files name rows net p old new answer tells full (subst (λ (m : ScaledNet). OfFile MAX_SCRIPT_BYTES kinds.Script name (λ text. Ends (OnScript rows m p text)) old new answer) is.0 on)
script_where_valid files name rows net proof (certs.Said (judges.Invalid fault)) old new answer tells full is on valid = absurd (no_fault net.net proof valid fault is)
script_where_valid files name rows net proof (certs.Said (judges.NetRefused x)) old new answer tells full is on valid = absurd is
script_where_valid files name rows net proof (certs.Said (judges.CertRefused x)) old new answer tells full is on valid = absurd is
script_where_valid files name rows net proof (certs.Said (judges.Feasible o v)) old new answer tells full is on valid = absurd is
script_where_valid files name rows net proof (certs.Said (judges.Valid o c l u)) old new answer tells full is on valid = absurd is

-- a certificate that was read, in its parts, and what comes of it
pub record IsCertRead (rows : NetRows) (lines : List Line) (certified : Certified) : Type 0 where
  pub net : ScaledNet
  pub proof : Proof
  pub head : CertHead
  pub head_read : head_in lines ≡ Ok head
  pub scaled : scaled_of rows (options_of head) ≡ Ok net
  pub rest_read : paper_in (sheets_of rows net) lines ≡ Ok (papers.Full proof)
  pub on : CertOnCertificate rows net proof certified

-- no line that refuses the text is this answer
abbrev IsNotRefused : Certified → Type 0
IsNotRefused certified = (judged : Judged) → certified ≡ certs.Said judged → 2 ≤ (answer_of (outcomes.Judged judged)).status → ⊥

said_full : (old new : ShelfView) (rows : NetRows) (script : List ℕ) (certified : Certified) (answer : Answer) → OnCertified rows script certified old new answer → answer.status ≤ 1 → IsNotRefused certified
said_full old new rows script certified answer on full judged e above =
    let told : OnCertified rows script (certs.Said judged) old new answer = subst (λ (c : Certified). OnCertified rows script c old new answer) e on in
    not_full answer (outcomes.Judged judged) told.0 full above

pub upgrade_full : (rows : NetRows) (certified : Certified) (answer : Answer) → answer ≡ upgrade_answer rows certified → answer.status ≤ 1 → IsNotRefused certified
upgrade_full rows certified answer same full judged e above = not_full answer (outcomes.Judged judged) (same ∙ ap (upgrade_answer rows) e) full above

pub sweep_full : (rows : NetRows) (certified : Certified) (answer : Answer) → answer ≡ sweep_answer rows certified → answer.status ≤ 1 → IsNotRefused certified
sweep_full rows certified answer same full judged e above = not_full answer (outcomes.Judged judged) (same ∙ ap (sweep_answer rows) e) full above

not_told : (certified : Certified) → IsNotRefused certified → (r : Refusal) → certified ≡ told r → ⊥
not_told certified only (Net r) e = only (judges.NetRefused r) e (omega arith)
not_told certified only (Cert r) e = only (judges.CertRefused r) e (omega arith)

pub cert_read : (rows : NetRows) (text : List ℕ) (certified : Certified) → IsCertifiedText rows text certified → IsNotRefused certified → IsCertRead rows (lines_of text) certified
cert_read rows text certified is only =
    let a = certified_by rows text certified (not_told certified only) is in
    record { net = a.0; proof = a.1; head = a.2.head_of; head_read = a.2.head_read; scaled = a.2.scaled; rest_read = a.2.rest_read; on = a.3 }

-- a certificate is told, and the run is not out of memory
certificate_full : (rows : NetRows) (script text : List ℕ) (old new : ShelfView) (answer : Answer) → answer.status ≤ 1 → OrMemory (OnCertificate rows script text) old new answer → OnCertificate rows script text old new answer
certificate_full rows script text old new answer full (inl (memory, same)) = absurd (not_full answer outcomes.Memory memory full (omega arith))
certificate_full rows script text old new answer full (inr on) = on

whatif_accepts : (files : Holding) (request : Request) (old new : ShelfView) (answer : Answer) → old.holds ≡ Some files → answer.status ≤ 1
    → OfWhatIf (file_at request 0) (file_at request 1) (file_at request 2) old new answer → AcceptsWhatIf files request
whatif_accepts files request old new answer tells full of =
    let first = file_at request 0 in
    let cert = file_at request 1 in
    let script = file_at request 2 in
    let r = rows_of_file files first (λ rows. OfFile MAX_CERT_BYTES kinds.Certificate cert (λ text. OrMemory (OnCertificate rows script text))) old new answer tells full of in
    let t = text_of_file MAX_CERT_BYTES kinds.Certificate files cert (λ text. OrMemory (OnCertificate r.0 script text)) (with_file old first) new answer tells full r.2 in
    let on = certificate_full r.0 script t.0 (with_file (with_file old first) cert) new answer full t.2 in
    let p = cert_read r.0 t.0 on.0 on.1 (said_full (with_file (with_file old first) cert) new r.0 script on.0 answer on.2 full) in (
      r.0,
      r.1,
      p.net,
      p.proof,
      record { text = t.0; given = t.1; head = p.head; head_read = p.head_read; scaled = p.scaled; rest_read = p.rest_read },
      λ valid. script_where_valid files script r.0 p.net p.proof on.0 (with_file (with_file old first) cert) new answer tells full p.on on.2 valid,
    )

-- ---- tighten

first_full : (old new : ShelfView) (rows : NetRows) (second : Option (List ℕ)) (certified : Certified) (answer : Answer) → OnFirstRead rows second certified old new answer → answer.status ≤ 1 → IsNotRefused certified
first_full old new rows second certified answer on full judged e above =
    let told : OnFirstRead rows second (certs.Said judged) old new answer = subst (λ (c : Certified). OnFirstRead rows second c old new answer) e on in
    not_full answer (outcomes.Judged judged) told.0 full above

-- no line that refuses a second text is this answer
second_full : (rows : NetRows) (net : ScaledNet) (first : Proof) (second : Second) (answer : Answer) → OnBoth rows net first second answer → answer.status ≤ 1 → (r : Refusal) → with_net net second ≡ told r → ⊥
second_full rows net first (seconds.Refused x) answer same full r e = not_full answer (outcomes.SecondRefused x) same full (omega arith)
second_full rows net first (seconds.Invalid fault) answer same full (Net r) e = absurd cc
second_full rows net first (seconds.Invalid fault) answer same full (Cert r) e = absurd cc
second_full rows net first (seconds.Valid proof) answer writes full r e = absurd cc

-- what came of a second certificate that was read
pub second_read : (files : Holding) (name : List ℕ) (rows : NetRows) (net : ScaledNet) (first : Proof) (old new : ShelfView) (answer : Answer) → old.holds ≡ Some files → scaled_of rows net.options ≡ Ok net → answer.status ≤ 1
    → OfFile MAX_CERT_BYTES kinds.Second name (λ text. Ends (OnSecond rows net first text)) old new answer
    → (proof : Proof) × IsPaperFile files name rows net (papers.Full proof) × (second : Second) × CertOnCertificate rows net proof (with_net net second) × OnBoth rows net first second answer
second_read files name rows net first old new answer tells scaled full of =
    let t = text_of_file MAX_CERT_BYTES kinds.Second files name (λ text. Ends (OnSecond rows net first text)) old new answer tells full of in
    let on : OnSecond rows net first t.0 answer = ends_full (OnSecond rows net first t.0) (with_file old name) new answer full t.2 in
    let s = second_by rows net t.0 (with_net net on.0) scaled (second_full rows net first on.0 answer on.2 full) on.1 in
    (s.0, record { text = t.0; given = t.1; head = s.1.head_of; head_read = s.1.head_read; scaled = s.1.scaled; rest_read = s.1.rest_read }, on.0, s.2, on.2)

second_accepts : (files : Holding) (second : Option (List ℕ)) (rows : NetRows) (net : ScaledNet) (first : Proof) (old new : ShelfView) (answer : Answer) → old.holds ≡ Some files → scaled_of rows net.options ≡ Ok net → answer.status ≤ 1
    → OnFirst rows second net first old new answer → IsSecondFile files second rows net
second_accepts files None rows net first old new answer tells scaled full of = tt
second_accepts files (Some name) rows net first old new answer tells scaled full of =
    let s = second_read files name rows net first old new answer tells scaled full of in
    (s.0, s.1)

second_where_valid : (files : Holding) (second : Option (List ℕ)) (rows : NetRows) (net : ScaledNet) (proof : Proof) (certified : Certified) (old new : ShelfView) (answer : Answer) → old.holds ≡ Some files → scaled_of rows net.options ≡ Ok net → answer.status ≤ 1
    → CertOnCertificate rows net proof certified → OnFirstRead rows second certified old new answer → IsValid net.net proof → IsSecondFile files second rows net
second_where_valid files second rows net proof (certs.Valid n p) old new answer tells scaled full is on valid =
    second_accepts files second rows net p old new answer tells scaled full (subst (λ (m : ScaledNet). OnFirst rows second m p old new answer) is.0 on)
second_where_valid files second rows net proof (certs.Said (judges.Invalid fault)) old new answer tells scaled full is on valid = absurd (no_fault net.net proof valid fault is)
second_where_valid files second rows net proof (certs.Said (judges.NetRefused x)) old new answer tells scaled full is on valid = absurd is
second_where_valid files second rows net proof (certs.Said (judges.CertRefused x)) old new answer tells scaled full is on valid = absurd is
second_where_valid files second rows net proof (certs.Said (judges.Feasible o v)) old new answer tells scaled full is on valid = absurd is
second_where_valid files second rows net proof (certs.Said (judges.Valid o c l u)) old new answer tells scaled full is on valid = absurd is

-- the first certificate that a run of `tighten` read, and what came of it
pub record IsFirstRead (files : Holding) (request : Request) (old new : ShelfView) (answer : Answer) : Type 0 where
  pub rows : NetRows
  pub net_file : IsNetFile files (file_at request 0) rows
  pub net : ScaledNet
  pub scaled : scaled_of rows net.options ≡ Ok net
  pub proof : Proof
  pub cert_file : IsPaperFile files (file_at request 1) rows net (papers.Full proof)
  pub certified : Certified
  pub is : CertOnCertificate rows net proof certified
  pub on : OnFirstRead rows (file_if request 2) certified (with_file (with_file old (file_at request 0)) (file_at request 1)) new answer

first_told : (rows : NetRows) (second : Option (List ℕ)) (text : List ℕ) (old new : ShelfView) (answer : Answer) → answer.status ≤ 1 → OrMemory (OnFirstText rows second text) old new answer → OnFirstText rows second text old new answer
first_told rows second text old new answer full (inl (memory, same)) = absurd (not_full answer outcomes.Memory memory full (omega arith))
first_told rows second text old new answer full (inr on) = on

pub first_read : (files : Holding) (request : Request) (old new : ShelfView) (answer : Answer) → old.holds ≡ Some files → answer.status ≤ 1
    → OfTighten (file_at request 0) (file_at request 1) (file_if request 2) old new answer → IsFirstRead files request old new answer
first_read files request old new answer tells full of =
    let first = file_at request 0 in
    let cert = file_at request 1 in
    let second = file_if request 2 in
    let r = rows_of_file files first (λ rows. OfFirst rows cert second) old new answer tells full of in
    let t = text_of_file MAX_CERT_BYTES kinds.Certificate files cert (λ text. OrMemory (OnFirstText r.0 second text)) (with_file old first) new answer tells full r.2 in
    let on = first_told r.0 second t.0 (with_file (with_file old first) cert) new answer full t.2 in
    let p = cert_read r.0 t.0 on.0 on.1 (first_full (with_file (with_file old first) cert) new r.0 second on.0 answer on.2 full) in
    record {
      rows = r.0;
      net_file = r.1;
      net = p.net;
      scaled = scaled_own r.0 (options_of p.head) p.net p.scaled;
      proof = p.proof;
      cert_file = record { text = t.0; given = t.1; head = p.head; head_read = p.head_read; scaled = p.scaled; rest_read = p.rest_read };
      certified = on.0;
      is = p.on;
      on = on.2;
    }

tighten_accepts : (files : Holding) (request : Request) (old new : ShelfView) (answer : Answer) → old.holds ≡ Some files → answer.status ≤ 1
    → OfTighten (file_at request 0) (file_at request 1) (file_if request 2) old new answer → AcceptsTighten files request
tighten_accepts files request old new answer tells full of =
    let r = first_read files request old new answer tells full of in (
      r.rows,
      r.net_file,
      r.net,
      r.proof,
      r.cert_file,
      λ valid. second_where_valid files (file_if request 2) r.rows r.net r.proof r.certified (with_file (with_file old (file_at request 0)) (file_at request 1)) new answer tells r.scaled full r.is r.on valid,
    )

-- ---- upgrade

upgrade_accepts : (files : Holding) (request : Request) (old new : ShelfView) (answer : Answer) → old.holds ≡ Some files → answer.status ≤ 1 → OfUpgrade (file_at request 0) (file_at request 1) old new answer → AcceptsUpgrade files request
upgrade_accepts files request old new answer tells full of =
    let first = file_at request 0 in
    let cert = file_at request 1 in
    let r = rows_of_file files first (λ rows. OfUpgraded rows cert) old new answer tells full of in
    let t = text_of_file MAX_CERT_BYTES kinds.Certificate files cert (λ text. Ends (OnUpgrade r.0 text)) (with_file old first) new answer tells full r.2 in
    let on : OnUpgrade r.0 t.0 answer = ends_full (OnUpgrade r.0 t.0) (with_file (with_file old first) cert) new answer full t.2 in
    let p = cert_read r.0 t.0 on.0 on.1 (upgrade_full r.0 on.0 answer on.2 full) in
    (r.0, r.1, p.net, p.proof, record { text = t.0; given = t.1; head = p.head; head_read = p.head_read; scaled = p.scaled; rest_read = p.rest_read })

-- ---- sweep

sweep_accepts : (files : Holding) (request : Request) (old new : ShelfView) (answer : Answer) → old.holds ≡ Some files → answer.status ≤ 1 → OfSweep (file_at request 0) (file_at request 1) old new answer → AcceptsUpgrade files request
sweep_accepts files request old new answer tells full of =
    let first = file_at request 0 in
    let cert = file_at request 1 in
    let r = rows_of_file files first (λ rows. OfSwept rows cert) old new answer tells full of in
    let t = text_of_file MAX_CERT_BYTES kinds.Certificate files cert (λ text. Ends (OnSweep r.0 text)) (with_file old first) new answer tells full r.2 in
    let on : OnSweep r.0 t.0 answer = ends_full (OnSweep r.0 t.0) (with_file (with_file old first) cert) new answer full t.2 in
    let p = cert_read r.0 t.0 on.0 on.1 (sweep_full r.0 on.0 answer on.2 full) in
    (r.0, r.1, p.net, p.proof, record { text = t.0; given = t.1; head = p.head; head_read = p.head_read; scaled = p.scaled; rest_read = p.rest_read })

-- ---- sweepsolve

scaled_can : (rows : NetRows) (request : Request) (answer : Answer) (r : Result ScaledNet NetRefusal) → scaled_of rows request.net ≡ r → OnScaled rows (sweep_asked_of request) r answer → answer.status ≤ 1
    → IsSweepSolvable rows request
scaled_can rows request answer (Err x) e same full = absurd (not_full answer (outcomes.NetRefused x) same full (omega arith))
scaled_can rows request answer (Ok net) e (inl (n, is, same)) full = absurd (not_full answer (outcomes.TooMuch n) same full (omega arith))
scaled_can rows request answer (Ok net) e (inr (swept, are, same)) full = record { net = net; scaled = e; work = are.work }

sweepsolve_accepts : (files : Holding) (request : Request) (old new : ShelfView) (answer : Answer) → old.holds ≡ Some files → answer.status ≤ 1 → OfSweepSolve (file_at request 0) request old new answer → AcceptsSweepSolve files request
sweepsolve_accepts files request old new answer tells full of =
    let r = rows_of_file files (file_at request 0) (λ rows. Ends (OnSweepSolve request rows)) old new answer tells full of in
    let on : OnSweepSolve request r.0 answer = ends_full (OnSweepSolve request r.0) (with_file old (file_at request 0)) new answer full r.2 in
    (r.0, r.1, scaled_can r.0 request answer (scaled_of r.0 request.net) refl on full)

-- ---- batch

solved_can : (request : Request) (batch : List Matrix) (answer : Answer) → answer.status ≤ 1 → SolvesBatch request.net (batch_asked_of request) batch answer → (n : ℕ) → ¬ (IsBatchTooMuch batch request.phases n)
solved_can request batch answer full (inl (n, is, same)) = absurd (not_full answer (outcomes.TooMuch n) same full (omega arith))
solved_can request batch answer full (inr (many, are, same)) = are.work

list_can : (files : Holding) (name : List ℕ) (rows : NetRows) (request : Request) (answer : Answer) (text : List ℕ) → answer.status ≤ 1 → IsText MAX_LIST_BYTES (Some files) name text
    → (found : Result (List Matrix) BatchRefusal) → IsBatch rows request.net text found → OnBatch request.net (batch_asked_of request) found answer → IsListFile files name rows request
list_can files name rows request answer text full given (Err (InNet r)) is same = absurd (not_full answer (outcomes.NetRefused r) same full (omega arith))
list_can files name rows request answer text full given (Err (InList r)) is same = absurd (not_full answer (outcomes.ListRefused r) same full (omega arith))
list_can files name rows request answer text full given (Ok batch) is on = record { text = text; given = given; batch = batch; read = is; work = solved_can request batch answer full on }

batch_accepts : (files : Holding) (request : Request) (old new : ShelfView) (answer : Answer) → old.holds ≡ Some files → answer.status ≤ 1
    → OfBatch (file_at request 0) (file_at request 1) request old new answer → AcceptsBatch files request
batch_accepts files request old new answer tells full of =
    let first = file_at request 0 in
    let list = file_at request 1 in
    let r = rows_of_file files first (λ rows. OfList request rows list) old new answer tells full of in
    let t = text_of_file MAX_LIST_BYTES kinds.List files list (λ text. Ends (OnList request r.0 text)) (with_file old first) new answer tells full r.2 in
    let on : OnList request r.0 t.0 answer = ends_full (OnList request r.0 t.0) (with_file (with_file old first) list) new answer full t.2 in
    (r.0, r.1, list_can files list r.0 request answer t.0 full t.1 on.0 on.1 on.2)

-- ---- hops and throughput

hop_run_can : (rows : NetRows) (net : ScaledNet) (request : Request) (solving : HopSolving) → scaled_of rows request.net ≡ Ok net → hop_refusal rows ≡ None
    → hop_runs.OnRun net (limits_of rows net) (hop_runs.asked_of request) solving → (hop_runs.solving_answer rows solving).status ≤ 1 → IsHopSolvable rows request
hop_run_can rows net request (hop_solvings.Refused r) scaled near is low = absurd is
hop_run_can rows net request (hop_solvings.TooMuch n) scaled near is low = absurd (not_full (answer_of (outcomes.TooMuch n)) (outcomes.TooMuch n) refl low (omega arith))
hop_run_can rows net request (hop_solvings.Done solved h) scaled near is low = record { net = net; scaled = scaled; near = near; work = is.1 }

hop_refused : (rows : NetRows) (r : NetRefusal) (solving : HopSolving) → solving ≡ hop_solvings.Refused r → (hop_runs.solving_answer rows solving).status ≤ 1 → ⊥
hop_refused rows r solving e low = not_full (hop_runs.solving_answer rows solving) (outcomes.NetRefused r) (ap (hop_runs.solving_answer rows) e) low (omega arith)

hop_solving_can : (rows : NetRows) (request : Request) (solving : HopSolving) → hop_runs.IsHopSolving rows request.net (hop_runs.asked_of request) solving
    → (hop_runs.solving_answer rows solving).status ≤ 1 → IsHopSolvable rows request
hop_solving_can rows request solving is low = by (scaled_of rows request.net) refl is
  where
    within : (net : ScaledNet) (o : Option NetRefusal) → scaled_of rows request.net ≡ Ok net → hop_refusal rows ≡ o → hop_runs.OnLimits rows net (hop_runs.asked_of request) o solving → IsHopSolvable rows request
    within net (Some r) scaled e on = absurd (hop_refused rows r solving on low)
    within net None scaled e on = hop_run_can rows net request solving scaled e on low

    by : (r : Result ScaledNet NetRefusal) → scaled_of rows request.net ≡ r → hop_runs.OnNet rows r (hop_runs.asked_of request) solving → IsHopSolvable rows request
    by (Err r) e on = absurd (hop_refused rows r solving on low)
    by (Ok net) e on = within net (hop_refusal rows) e refl on

hops_accepts : (files : Holding) (request : Request) (old new : ShelfView) (answer : Answer) → old.holds ≡ Some files → answer.status ≤ 1
    → hop_runs.OfHops (file_at request 0) request old new answer → AcceptsHops files request
hops_accepts files request old new answer tells full of =
    let r = rows_of_file files (file_at request 0) (λ rows. Ends (hop_runs.SolvesHops request rows)) old new answer tells full of in
    let solves : hop_runs.SolvesHops request r.0 answer = ends_full (hop_runs.SolvesHops request r.0) (with_file old (file_at request 0)) new answer full r.2 in
    (r.0, r.1, hop_solving_can r.0 request solves.0 solves.1 (other_is answer (hop_runs.solving_answer r.0 solves.0) solves.2 full))

part_run_can : (rows : NetRows) (net : ScaledNet) (request : Request) (solving : PartSolving) → scaled_of rows request.net ≡ Ok net
    → part_runs.OnRun net (part_runs.asked_of request) solving → (part_runs.solving_answer rows solving).status ≤ 1 → IsPartSolvable rows request
part_run_can rows net request (part_solvings.Refused r) scaled is low = absurd is
part_run_can rows net request (part_solvings.TooMuch n) scaled is low = absurd (not_full (answer_of (outcomes.TooMuch n)) (outcomes.TooMuch n) refl low (omega arith))
part_run_can rows net request (part_solvings.Done solved p) scaled is low = record { net = net; scaled = scaled; work = is.1 }

part_refused : (rows : NetRows) (r : NetRefusal) (solving : PartSolving) → solving ≡ part_solvings.Refused r → (part_runs.solving_answer rows solving).status ≤ 1 → ⊥
part_refused rows r solving e low = not_full (part_runs.solving_answer rows solving) (outcomes.NetRefused r) (ap (part_runs.solving_answer rows) e) low (omega arith)

part_solving_can : (rows : NetRows) (request : Request) (solving : PartSolving) → part_runs.IsPartSolving rows request.net (part_runs.asked_of request) solving
    → (part_runs.solving_answer rows solving).status ≤ 1 → IsPartSolvable rows request
part_solving_can rows request solving is low = by (scaled_of rows request.net) refl is
  where
    by : (r : Result ScaledNet NetRefusal) → scaled_of rows request.net ≡ r → part_runs.OnNet r (part_runs.asked_of request) solving → IsPartSolvable rows request
    by (Err r) e on = absurd (part_refused rows r solving on low)
    by (Ok net) e on = part_run_can rows net request solving e on low

throughput_accepts : (files : Holding) (request : Request) (old new : ShelfView) (answer : Answer) → old.holds ≡ Some files → answer.status ≤ 1
    → part_runs.OfThroughput (file_at request 0) request old new answer → AcceptsThroughput files request
throughput_accepts files request old new answer tells full of =
    let r = rows_of_file files (file_at request 0) (λ rows. Ends (part_runs.SolvesParts request rows)) old new answer tells full of in
    let solves : part_runs.SolvesParts request r.0 answer = ends_full (part_runs.SolvesParts request r.0) (with_file old (file_at request 0)) new answer full r.2 in
    (r.0, r.1, part_solving_can r.0 request solves.0 solves.1 (other_is answer (part_runs.solving_answer r.0 solves.0) solves.2 full))

-- ---- checkhops and checkthroughput

check_hops_accepts : (files : Holding) (request : Request) (old new : ShelfView) (answer : Answer) → old.holds ≡ Some files → answer.status ≤ 1
    → hops.OfCheckHops (file_at request 0) (file_at request 1) old new answer → AcceptsCheckHops files request
check_hops_accepts files request old new answer tells full of =
    let k = kind_accepts hops.too_far hops.rest_of (λ (lines : List Line). run_head (codes "mcf-hops 1") lines) hops.SaysHops files (file_at request 0) (file_at request 1) old new answer tells full of in
    (k.0, k.1, k.2, k.3, record { text = k.4; given = k.5; read = k.6 })

check_part_accepts : (files : Holding) (request : Request) (old new : ShelfView) (answer : Answer) → old.holds ≡ Some files → answer.status ≤ 1
    → parts.OfCheckThroughput (file_at request 0) (file_at request 1) old new answer → AcceptsCheckThroughput files request
check_part_accepts files request old new answer tells full of =
    let k = kind_accepts (λ (rows : NetRows). nothing_more) parts.rest_of (λ (lines : List Line). run_head (codes "mcf-throughput 1") lines) (λ (rows : NetRows). parts.SaysPart)
    files (file_at request 0) (file_at request 1) old new answer tells full of in
    (k.0, k.1, k.2, k.3, record { text = k.4; given = k.5; read = k.6 })

-- ---- all commands

command_accepts : (command : Command) (files : Holding) (request : Request) (old new : ShelfView) (answer : Answer) → old.holds ≡ Some files → answer.status ≤ 1 → OfCommand command request old new answer → Accepts command files request
command_accepts commands.Solve files request old new answer tells full of = solve_accepts files request old new answer tells full of
command_accepts commands.Check files request old new answer tells full of = check_accepts files request old new answer tells full of
command_accepts commands.WhatIf files request old new answer tells full of = whatif_accepts files request old new answer tells full of
command_accepts commands.Upgrade files request old new answer tells full of = upgrade_accepts files request old new answer tells full of
command_accepts commands.Tighten files request old new answer tells full of = tighten_accepts files request old new answer tells full of
command_accepts commands.Batch files request old new answer tells full of = batch_accepts files request old new answer tells full of
command_accepts commands.Sweep files request old new answer tells full of = sweep_accepts files request old new answer tells full of
command_accepts commands.SweepSolve files request old new answer tells full of = sweepsolve_accepts files request old new answer tells full of
command_accepts commands.Hops files request old new answer tells full of = hops_accepts files request old new answer tells full of
command_accepts commands.Throughput files request old new answer tells full of = throughput_accepts files request old new answer tells full of
command_accepts commands.CheckHops files request old new answer tells full of = check_hops_accepts files request old new answer tells full of
command_accepts commands.CheckThroughput files request old new answer tells full of = check_part_accepts files request old new answer tells full of
command_accepts commands.Print files request old new answer tells full of = print_accepts files request old new answer tells full of
command_accepts commands.Gen files request old new answer tells full of = tt
command_accepts commands.Trial files request old new answer tells full of = trial_accepts request answer full (ends_full (OfTrial request) old new answer full of)

request_accepts : (files : Holding) (words : List (List ℕ)) (old new : ShelfView) (answer : Answer) (r : Option Request) → old.holds ≡ Some files → request_of words ≡ r → answer.status ≤ 1 → OfRequest r old new answer → IsAccepted files words
request_accepts files words old new answer None tells e full of = absurd (not_full answer outcomes.Usage (ends_full (λ given. given ≡ answer_of outcomes.Usage) old new answer full of) full (omega arith))
request_accepts files words old new answer (Some request) tells e full of = record { request = request; asked = e; accepts = command_accepts request.command files request old new answer tells full of }

answer_full : (answer : Answer) (ended : Ended) → ended ≡ ended_of answer → ended.status ≤ 1 → answer.status ≤ 1
answer_full answer ended e full = subst (λ (n : ℕ). n ≤ 1) (ap (λ (x : Ended). x.status) e) full

failed_full : (ended : Ended) → ended ≡ cut_off → ended.status ≤ 1 → ⊥
failed_full ended e full = let is : ended.status ≡ 5 = ap (λ (x : Ended). x.status) e in omega arith

pub accepted : (files : Holding) (words : List (List ℕ)) (old new : ShelfView) (before after : SinkView) (ended : Ended) → old.holds ≡ Some files
    → RunEnds words old new before after ended → ended.status ≤ 1 → IsAccepted files words
accepted files words old new before after ended tells (answer, is, writes) full = by is writes
  where
    by : IsAnswer words old new answer → Writes before after ended answer → IsAccepted files words
    by from (inr cut) = absurd (failed_full ended cut.ends full)
    by (inl (memory, same)) (inl given) = absurd (not_full answer outcomes.Memory memory (answer_full answer ended given.ends full) (omega arith))
    by (inr of) (inl given) = request_accepts files words old new answer (request_of words) tells refl (answer_full answer ended given.ends full) of
