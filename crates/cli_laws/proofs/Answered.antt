-- What each command answers to accepted files: an answer with status 0 or 1.
use Rattle.std.proofs.Common.{◌≡◌, ℕ, ◌≤◌, Bool, true, false, List, [], ◌∷◌, Option, Some, None, Result, Ok, Err, inl, inr, subst, sym, arith, refl}
use Rattle.std.specs.Prelude.{◌⊎◌, codes, if◌then◌else◌}
use Rattle.std.specs.List.{list_all}
use Rattle.mcf_limits.specs.declared.TheConstants.{MAX_CERT_BYTES, MAX_LIST_BYTES, MAX_SCRIPT_BYTES}
use Rattle.mcf_base.specs.Faults.{Rose}
use Rattle.mcf_base.specs.Shelf.{Holding, ShelfView, with_file}
use Rattle.unit_scale.specs.declared.options.NetOptions.{NetOptions}
use Rattle.flow_model.specs.Network.{Network}
use Rattle.flow_paths.specs.declared.certificate.Proof.{Proof}
use Rattle.flow_paths.specs.Certificate.{IsValid}
use Rattle.sndlib_grammar.specs.Rows.{NetRows}
use Rattle.sndlib_grammar.specs.declared.refusal.NetRefusal.{NetRefusal}
use Rattle.unit_scale.specs.Scaling.{ScaledNet, scaled_of}
use Rattle.cert_text.specs.declared.papers.Paper.{Paper}
use Rattle.cert_text.specs.declared.papers.Paper.TheVariants as papers
use Rattle.cert_judge.specs.declared.judged.Judged.{Judged}
use Rattle.cert_judge.specs.declared.judged.Judged.TheVariants as judges
use Rattle.cert_text.specs.declared.opening.Known.TheVariants.{Both}
use Rattle.cert_judge.specs.declared.second.Second.{Second}
use Rattle.cert_judge.specs.declared.second.Second.TheVariants as seconds
use Rattle.cert_judge.specs.Papers.{IsReadOf, options_of}
use Rattle.cert_judge.specs.Second.{with_net}
use Rattle.cert_judge.specs.Judgement.{IsSaidOf}
use Rattle.cert_judge.proofs.Judgements.{certified_of, judged_of}
use Rattle.cert_judge.proofs.KnownHeaders.{certificate_either}
use Rattle.cert_judge.proofs.PaperFacts.{scaled_own}
use Rattle.cert_judge.proofs.Seconds.{second_of}
use Rattle.net_solve.specs.declared.solving.Solving.{Solving}
use Rattle.net_solve.specs.declared.solving.Solving.TheVariants as solvings
use Rattle.net_solve.specs.Solving.{IsSolving}
use Rattle.net_solve.specs.Asked.{IsTooMuch}
use Rattle.script.specs.Reading.{script_of}
use Rattle.script.specs.declared.step.Step.{Step}
use Rattle.cert_judge.specs.declared.certifying.Certified.{Certified}
use Rattle.cert_judge.specs.declared.certifying.Certified.TheVariants as certs
use Rattle.net_whatif.specs.declared.scripting.Scripted.{Scripted}
use Rattle.net_whatif.specs.declared.scripting.Scripted.TheVariants as scripts
use Rattle.cert_judge.specs.Certified.{OnCertificate as CertOnCertificate, IsCertifiedText}
use Rattle.net_whatif.specs.Scripted.{IsScriptedText}
use Rattle.mcf_words.specs.declared.request.Request.{Request}
use Rattle.mcf_words.specs.declared.request.Command.{Command}
use Rattle.mcf_words.specs.declared.request.Command.TheVariants as commands
use Rattle.base_cmd.specs.declared.outcome.FileKind.TheVariants as kinds
use Rattle.base_cmd.specs.declared.outcome.Outcome.TheVariants as outcomes
use Rattle.base_cmd.specs.Answer.{Answer, answer_of}
use Rattle.base_cmd.specs.Files.{Ends, OfFile, OrMemory}
use Rattle.solve_cmd.specs.Print.{OfPrint, printed}
use Rattle.cert_cmd.specs.Check.{OnTexts, OfCheck}
use Rattle.solve_cmd.specs.Solve.{asked_of, solving_answer, SolvesRows, OfSolve}
use Rattle.cert_cmd.specs.Tighten.{WritesBest, best_answer, OnBoth, OnSecond, OnFirst, OnFirstRead, OnFirstText, OfFirst, OfTighten}
use Rattle.cert_cmd.specs.Upgrade.{upgrade_answer, OnUpgrade, OfUpgraded, OfUpgrade}
use Rattle.solver_run.specs.History.{SolvedView}
use Rattle.matrix_batch.specs.Matrices.{Matrix}
use Rattle.matrix_batch.specs.Batch.{IsBatchTooMuch}
use Rattle.matrix_batch.specs.Refusals.{BatchRefusal}
use Rattle.matrix_batch.proofs.Only.{answers_once}
use Rattle.batch_cmd.specs.Batch.{batch_asked_of, batch_answer, SolvesBatch, OnBatch, OnList, OfList, OfBatch}
use Rattle.sweep_cmd.specs.Sweep.{sweep_answer, OnSweep, OfSwept, OfSweep}
use Rattle.sweep_cmd.specs.SweepSolve.{solves_answer, sweep_asked_of, SolvesLinks, OnScaled, OnSweepSolve, OfSweepSolve}
use Rattle.sweep_cmd.specs.declared.swept.Swept.{Swept}
use Rattle.cert_cmd.specs.WhatIf.{scripted_answer, OnScript, OnCertified, OnCertificate, OfWhatIf}
use Rattle.solve_cmd.specs.Drawn.{links_drawn, net_drawn, gen_answer, trial_line, OfTrial}
use Rattle.text_lines.specs.Lines.{Line}
use Rattle.cert_judge.specs.Papers.{nothing_more}
use Rattle.hop_check.specs.declared.hop_proof.HopProof.{HopProof}
use Rattle.throughput.specs.declared.part_proof.PartProof.{PartProof}
use Rattle.kind_texts.specs.Heads.{run_head}
use Rattle.hop_check.specs.Limits.{limits_of}
use Rattle.hops_cmd.specs.Check as hops
use Rattle.hops_cmd.specs.Hops as hop_runs
use Rattle.hops_cmd.specs.declared.solving.HopSolving.{HopSolving}
use Rattle.hops_cmd.specs.declared.solving.HopSolving.TheVariants as hop_solvings
use Rattle.throughput_cmd.specs.Check as parts
use Rattle.throughput_cmd.specs.Parts as part_runs
use Rattle.throughput_cmd.specs.declared.solving.PartSolving.{PartSolving}
use Rattle.throughput_cmd.specs.declared.solving.PartSolving.TheVariants as part_solvings
use Rattle.mcf_cli.specs.Run.{file_at, file_if, OfCommand}
use Rattle.cli_laws.specs.Accepted.{IsSolvable, IsSweepSolvable, IsListFile, IsPaperFile, IsScriptFile, IsSecondFile, AcceptsPrint, AcceptsSolve, AcceptsSweepSolve, AcceptsBatch, AcceptsCheck, AcceptsTighten, AcceptsUpgrade, AcceptsWhatIf, AcceptsTrial, IsHopSolvable, IsPartSolvable, AcceptsHops, AcceptsThroughput, AcceptsCheckHops, AcceptsCheckThroughput, Accepts}
use Rattle.cli_laws.proofs.Given.{Memories, of_text, of_rows}
use Rattle.cli_laws.proofs.KindRuns.{kind_low}

-- reading answers one thing
clash : {T E : Type 0} (r : Result T E) (x : T) (e : E) → r ≡ Ok x → r ≡ Err e → ⊥
clash r x e h k = absurd cc

one_value : {T E : Type 0} (r : Result T E) (x y : T) → r ≡ Ok x → r ≡ Ok y → x ≡ y
one_value r x y h k = cc

status_is : (answer other : Answer) → answer ≡ other → other.status ≤ 1 → answer.status ≤ 1
status_is answer other e low = subst (λ (a : Answer). a.status ≤ 1) (sym e) low

verdict_low : (closed : Bool) → (if closed then 0 else 1) ≤ 1
verdict_low true = omega arith
verdict_low false = omega arith

-- out of memory, or a status of 0 or 1
abbrev pub Low : Answer → Type 0
Low answer = Memories answer ⊎ (answer.status ≤ 1)

then_low : {X : Type 0} (answer : Answer) → Memories answer ⊎ X → (X → Low answer) → Low answer
then_low answer (inl memory) f = inl memory
then_low answer (inr x) f = f x

ends_low : (Of : Answer → Type 0) (old new : ShelfView) (answer : Answer) → (Of answer → answer.status ≤ 1) → Ends Of old new answer → Low answer
ends_low Of old new answer f (same, inl memory) = inl memory
ends_low Of old new answer f (same, inr of) = inr (f of)

-- ---- print

print_low : (files : Holding) (request : Request) (old new : ShelfView) (answer : Answer) → old.holds ≡ Some files → ¬ (Rose old.faults.count new.faults.count)
    → AcceptsPrint files request → OfPrint (file_at request 0) old new answer → Low answer
print_low files request old new answer tells calm (rows, net) of =
    then_low answer (of_rows files (file_at request 0) rows (λ rows. Ends (λ given. given ≡ printed rows)) old new answer tells calm net of)
    (λ on. ends_low (λ given. given ≡ printed rows) (with_file old (file_at request 0)) new answer (λ e. status_is answer (printed rows) e (omega arith)) on)

-- ---- solve and trial

solving_low : (rows : NetRows) (request : Request) (solving : Solving) → IsSolvable rows request → IsSolving rows request.net (asked_of request) solving → (solving_answer rows solving).status ≤ 1
solving_low rows request (solvings.Refused r) can is = absurd (clash (scaled_of rows request.net) can.net r can.scaled is)
solving_low rows request (solvings.TooMuch n) can is =
    absurd (can.work n (subst (λ (net : ScaledNet). IsTooMuch net.net (asked_of request) n) (one_value (scaled_of rows request.net) is.0 can.net is.1 can.scaled) is.2))
solving_low rows request (solvings.Done net s) can is = verdict_low s.proof.closed

solves_low : (rows : NetRows) (request : Request) (answer : Answer) → IsSolvable rows request → SolvesRows request rows answer → answer.status ≤ 1
solves_low rows request answer can (solving, is, e) = status_is answer (solving_answer rows solving) e (solving_low rows request solving can is)

solve_low : (files : Holding) (request : Request) (old new : ShelfView) (answer : Answer) → old.holds ≡ Some files → ¬ (Rose old.faults.count new.faults.count)
    → AcceptsSolve files request → OfSolve (file_at request 0) request old new answer → Low answer
solve_low files request old new answer tells calm (rows, net, can) of =
    then_low answer (of_rows files (file_at request 0) rows (λ rows. Ends (SolvesRows request rows)) old new answer tells calm net of)
    (λ on. ends_low (SolvesRows request rows) (with_file old (file_at request 0)) new answer (λ e. solves_low rows request answer can e) on)

trial_low : (request : Request) (answer : Answer) → AcceptsTrial request → OfTrial request answer → answer.status ≤ 1
trial_low request answer can (rows, read, inl (n, is, same)) = absurd (can n is)
trial_low request answer can (rows, read, inr (s, done, same)) = status_is answer (trial_line (links_drawn request) (net_drawn request).net s) same (verdict_low s.proof.closed)

-- ---- check

said_low : (o : NetOptions) (net : Network) (paper : Paper) (judged : Judged) → IsSaidOf o net paper judged → (answer_of (outcomes.Judged judged)).status ≤ 1
said_low o net paper (judges.Invalid fault) is = omega arith
said_low o net paper (judges.Feasible options value) is = omega arith
said_low o net paper (judges.Valid options closed lower upper) is = omega arith
said_low o net (papers.Routing r) (judges.NetRefused x) is = absurd is
said_low o net (papers.Full p) (judges.NetRefused x) is = absurd is
said_low o net (papers.Routing r) (judges.CertRefused x) is = absurd is
said_low o net (papers.Full p) (judges.CertRefused x) is = absurd is

-- a file that is accepted is read, stage by stage
pub file_read : (files : Holding) (name : List ℕ) (rows : NetRows) (net : ScaledNet) (paper : Paper) → (file : IsPaperFile files name rows net paper) → IsReadOf Both rows file.text net paper
file_read files name rows net paper file = record { head_of = file.head; head_read = file.head_read; scaled = file.scaled; fits = refl; rest_read = file.rest_read }

texts_low : (files : Holding) (name : List ℕ) (rows : NetRows) (net : ScaledNet) (paper : Paper) (answer : Answer) → (file : IsPaperFile files name rows net paper) → OnTexts rows file.text answer → answer.status ≤ 1
texts_low files name rows net paper answer file (judged, is, e) =
    status_is answer (answer_of (outcomes.Judged judged)) e
    (said_low net.options net.net paper judged (judged_of rows file.text net paper judged (file_read files name rows net paper file) is))

check_low : (files : Holding) (request : Request) (old new : ShelfView) (answer : Answer) → old.holds ≡ Some files → ¬ (Rose old.faults.count new.faults.count)
    → AcceptsCheck files request → OfCheck (file_at request 0) (file_at request 1) old new answer → Low answer
check_low files request old new answer tells calm (rows, given, net, paper, file) of =
    let first = file_at request 0 in
    let cert = file_at request 1 in
    then_low answer (of_rows files first rows (λ rows. OfFile MAX_CERT_BYTES kinds.Certificate cert (λ text. Ends (OnTexts rows text))) old new answer tells calm given of)
    (λ on. then_low answer (of_text MAX_CERT_BYTES kinds.Certificate files cert file.text (λ text. Ends (OnTexts rows text)) (with_file old first) new answer tells calm file.given on)
    (λ last. ends_low (OnTexts rows file.text) (with_file (with_file old first) cert) new answer (λ e. texts_low files cert rows net paper answer file e) last))

-- ---- whatif

scripted_low : (rows : NetRows) (net : ScaledNet) (proof : Proof) (text : List ℕ) (steps : List Step) (scripted : Scripted) → script_of rows net text ≡ Ok steps → IsScriptedText rows net proof text scripted → (scripted_answer scripted).status ≤ 1
scripted_low rows net proof text steps (scripts.Refused r) read is = absurd (clash (script_of rows net text) steps r read is)
scripted_low rows net proof text steps (scripts.Ready plan taken) read is = omega arith

script_low : (files : Holding) (name : List ℕ) (rows : NetRows) (net : ScaledNet) (proof : Proof) (old new : ShelfView) (answer : Answer) → old.holds ≡ Some files → ¬ (Rose old.faults.count new.faults.count)
    → IsScriptFile files name rows net → OfFile MAX_SCRIPT_BYTES kinds.Script name (λ text. Ends (OnScript rows net proof text)) old new answer → Low answer
script_low files name rows net proof old new answer tells calm file of =
    then_low answer (of_text MAX_SCRIPT_BYTES kinds.Script files name file.text (λ text. Ends (OnScript rows net proof text)) old new answer tells calm file.given of)
    (λ last. ends_low (OnScript rows net proof file.text) (with_file old name) new answer (λ on. status_is answer (scripted_answer on.0) on.2 (scripted_low rows net proof file.text file.steps on.0 file.read on.1)) last)

certified_low : (files : Holding) (name : List ℕ) (rows : NetRows) (net : ScaledNet) (proof : Proof) (certified : Certified) (old new : ShelfView) (answer : Answer) → old.holds ≡ Some files → ¬ (Rose old.faults.count new.faults.count)
    → (IsValid net.net proof → IsScriptFile files name rows net) → CertOnCertificate rows net proof certified → OnCertified rows name certified old new answer → Low answer
certified_low files name rows net proof (certs.Valid n p) old new answer tells calm script is on =
    let moved = subst (λ (m : ScaledNet). OfFile MAX_SCRIPT_BYTES kinds.Script name (λ text. Ends (OnScript rows m p text)) old new answer) is.0 on in
    script_low files name rows net p old new answer tells calm (script is.2.valid) moved
certified_low files name rows net proof (certs.Said (judges.Invalid fault)) old new answer tells calm script is on = inr (status_is answer (answer_of (outcomes.Judged (judges.Invalid fault))) on.0 (omega arith))
certified_low files name rows net proof (certs.Said (judges.NetRefused x)) old new answer tells calm script is on = absurd is
certified_low files name rows net proof (certs.Said (judges.CertRefused x)) old new answer tells calm script is on = absurd is
certified_low files name rows net proof (certs.Said (judges.Feasible o v)) old new answer tells calm script is on = absurd is
certified_low files name rows net proof (certs.Said (judges.Valid o c l u)) old new answer tells calm script is on = absurd is

-- what comes of a certificate's file that is accepted
certificate_of : (files : Holding) (name : List ℕ) (rows : NetRows) (net : ScaledNet) (proof : Proof) (certified : Certified) → (file : IsPaperFile files name rows net (papers.Full proof))
    → IsCertifiedText rows file.text certified → CertOnCertificate rows net proof certified
certificate_of files name rows net proof certified file is =
    certified_of rows file.text net proof certified (certificate_either rows file.text net proof (file_read files name rows net (papers.Full proof) file)) is

whatif_low : (files : Holding) (request : Request) (old new : ShelfView) (answer : Answer) → old.holds ≡ Some files → ¬ (Rose old.faults.count new.faults.count)
    → AcceptsWhatIf files request → OfWhatIf (file_at request 0) (file_at request 1) (file_at request 2) old new answer → Low answer
whatif_low files request old new answer tells calm (rows, given, net, proof, file, script) of =
    let first = file_at request 0 in
    let cert = file_at request 1 in
    let third = file_at request 2 in
    then_low answer (of_rows files first rows (λ rows. OfFile MAX_CERT_BYTES kinds.Certificate cert (λ text. OrMemory (OnCertificate rows third text))) old new answer tells calm given of)
    (λ on. then_low answer (of_text MAX_CERT_BYTES kinds.Certificate files cert file.text (λ text. OrMemory (OnCertificate rows third text)) (with_file old first) new answer tells calm file.given on)
    (λ last. by first cert third last))
  where
    by : (first cert third : List ℕ) → OrMemory (OnCertificate rows (file_at request 2) file.text) (with_file (with_file old (file_at request 0)) (file_at request 1)) new answer → Low answer
    by first cert third (inl (memory, same)) = inl memory
    by first cert third (inr on) =
        certified_low files (file_at request 2) rows net proof on.0 (with_file (with_file old (file_at request 0)) (file_at request 1)) new answer tells calm script
        (certificate_of files (file_at request 1) rows net proof on.0 file on.1) on.2

-- ---- tighten

best_low : (rows : NetRows) (net : ScaledNet) (first : Proof) (others : List Proof) (answer : Answer) → WritesBest rows net first others answer → answer.status ≤ 1
best_low rows net first others answer (best, is, same) = status_is answer (best_answer rows net best) same (verdict_low best.closed)

both_low : (rows : NetRows) (net : ScaledNet) (first proof : Proof) (second : Second) (answer : Answer) → CertOnCertificate rows net proof (with_net net second) → OnBoth rows net first second answer → answer.status ≤ 1
both_low rows net first proof (seconds.Valid p) answer is on = best_low rows net first (p ∷ []) answer on
both_low rows net first proof (seconds.Invalid fault) answer is on = status_is answer (answer_of (outcomes.SecondInvalid fault)) on (omega arith)
both_low rows net first proof (seconds.Refused r) answer is on = absurd is

second_text_low : (files : Holding) (name : List ℕ) (rows : NetRows) (net : ScaledNet) (first proof : Proof) (answer : Answer) → (file : IsPaperFile files name rows net (papers.Full proof))
    → OnSecond rows net first file.text answer → answer.status ≤ 1
second_text_low files name rows net first proof answer file (second, is, on) =
    both_low rows net first proof second answer
    (second_of rows net file.text (with_net net second) (scaled_own rows (options_of file.head) net file.scaled) proof
    (certificate_either rows file.text net proof (file_read files name rows net (papers.Full proof) file)) is) on

second_low : (files : Holding) (second : Option (List ℕ)) (rows : NetRows) (net : ScaledNet) (first : Proof) (old new : ShelfView) (answer : Answer) → old.holds ≡ Some files → ¬ (Rose old.faults.count new.faults.count)
    → IsSecondFile files second rows net → OnFirst rows second net first old new answer → Low answer
second_low files None rows net first old new answer tells calm file of = ends_low (WritesBest rows net first []) old new answer (λ w. best_low rows net first [] answer w) of
second_low files (Some name) rows net first old new answer tells calm (proof, file) of =
    then_low answer (of_text MAX_CERT_BYTES kinds.Second files name file.text (λ text. Ends (OnSecond rows net first text)) old new answer tells calm file.given of)
    (λ last. ends_low (OnSecond rows net first file.text) (with_file old name) new answer (λ on. second_text_low files name rows net first proof answer file on) last)

first_low : (files : Holding) (second : Option (List ℕ)) (rows : NetRows) (net : ScaledNet) (proof : Proof) (certified : Certified) (old new : ShelfView) (answer : Answer) → old.holds ≡ Some files → ¬ (Rose old.faults.count new.faults.count)
    → (IsValid net.net proof → IsSecondFile files second rows net) → CertOnCertificate rows net proof certified → OnFirstRead rows second certified old new answer → Low answer
first_low files second rows net proof (certs.Valid n p) old new answer tells calm file is on =
    let moved = subst (λ (m : ScaledNet). OnFirst rows second m p old new answer) is.0 on in
    second_low files second rows net p old new answer tells calm (file is.2.valid) moved
first_low files second rows net proof (certs.Said (judges.Invalid fault)) old new answer tells calm file is on = inr (status_is answer (answer_of (outcomes.Judged (judges.Invalid fault))) on.0 (omega arith))
first_low files second rows net proof (certs.Said (judges.NetRefused x)) old new answer tells calm file is on = absurd is
first_low files second rows net proof (certs.Said (judges.CertRefused x)) old new answer tells calm file is on = absurd is
first_low files second rows net proof (certs.Said (judges.Feasible o v)) old new answer tells calm file is on = absurd is
first_low files second rows net proof (certs.Said (judges.Valid o c l u)) old new answer tells calm file is on = absurd is

tighten_low : (files : Holding) (request : Request) (old new : ShelfView) (answer : Answer) → old.holds ≡ Some files → ¬ (Rose old.faults.count new.faults.count)
    → AcceptsTighten files request → OfTighten (file_at request 0) (file_at request 1) (file_if request 2) old new answer → Low answer
tighten_low files request old new answer tells calm (rows, given, net, proof, file, more) of =
    let net_name = file_at request 0 in
    let cert = file_at request 1 in
    let second = file_if request 2 in
    then_low answer (of_rows files net_name rows (λ rows. OfFirst rows cert second) old new answer tells calm given of)
    (λ on. then_low answer (of_text MAX_CERT_BYTES kinds.Certificate files cert file.text (λ text. OrMemory (OnFirstText rows second text)) (with_file old net_name) new answer tells calm file.given on)
    (λ last. by last))
  where
    by : OrMemory (OnFirstText rows (file_if request 2) file.text) (with_file (with_file old (file_at request 0)) (file_at request 1)) new answer → Low answer
    by (inl (memory, same)) = inl memory
    by (inr on) =
        first_low files (file_if request 2) rows net proof on.0 (with_file (with_file old (file_at request 0)) (file_at request 1)) new answer tells calm more
        (certificate_of files (file_at request 1) rows net proof on.0 file on.1) on.2

-- ---- upgrade

upgraded_low : (rows : NetRows) (net : ScaledNet) (proof : Proof) (certified : Certified) → CertOnCertificate rows net proof certified → (upgrade_answer rows certified).status ≤ 1
upgraded_low rows net proof (certs.Valid n p) is = omega arith
upgraded_low rows net proof (certs.Said (judges.Invalid fault)) is = omega arith
upgraded_low rows net proof (certs.Said (judges.NetRefused x)) is = absurd is
upgraded_low rows net proof (certs.Said (judges.CertRefused x)) is = absurd is
upgraded_low rows net proof (certs.Said (judges.Feasible o v)) is = absurd is
upgraded_low rows net proof (certs.Said (judges.Valid o c l u)) is = absurd is

upgrade_text_low : (files : Holding) (name : List ℕ) (rows : NetRows) (net : ScaledNet) (proof : Proof) (answer : Answer) → (file : IsPaperFile files name rows net (papers.Full proof)) → OnUpgrade rows file.text answer → answer.status ≤ 1
upgrade_text_low files name rows net proof answer file (certified, is, e) =
    status_is answer (upgrade_answer rows certified) e
    (upgraded_low rows net proof certified (certificate_of files name rows net proof certified file is))

upgrade_low : (files : Holding) (request : Request) (old new : ShelfView) (answer : Answer) → old.holds ≡ Some files → ¬ (Rose old.faults.count new.faults.count)
    → AcceptsUpgrade files request → OfUpgrade (file_at request 0) (file_at request 1) old new answer → Low answer
upgrade_low files request old new answer tells calm (rows, given, net, proof, file) of =
    let first = file_at request 0 in
    let cert = file_at request 1 in
    then_low answer (of_rows files first rows (λ rows. OfUpgraded rows cert) old new answer tells calm given of)
    (λ on. then_low answer (of_text MAX_CERT_BYTES kinds.Certificate files cert file.text (λ text. Ends (OnUpgrade rows text)) (with_file old first) new answer tells calm file.given on)
    (λ last. ends_low (OnUpgrade rows file.text) (with_file (with_file old first) cert) new answer (λ e. upgrade_text_low files cert rows net proof answer file e) last))

-- ---- sweep

swept_low : (rows : NetRows) (net : ScaledNet) (proof : Proof) (certified : Certified) → CertOnCertificate rows net proof certified → (sweep_answer rows certified).status ≤ 1
swept_low rows net proof (certs.Valid n p) is = omega arith
swept_low rows net proof (certs.Said (judges.Invalid fault)) is = omega arith
swept_low rows net proof (certs.Said (judges.NetRefused x)) is = absurd is
swept_low rows net proof (certs.Said (judges.CertRefused x)) is = absurd is
swept_low rows net proof (certs.Said (judges.Feasible o v)) is = absurd is
swept_low rows net proof (certs.Said (judges.Valid o c l u)) is = absurd is

sweep_text_low : (files : Holding) (name : List ℕ) (rows : NetRows) (net : ScaledNet) (proof : Proof) (answer : Answer) → (file : IsPaperFile files name rows net (papers.Full proof)) → OnSweep rows file.text answer → answer.status ≤ 1
sweep_text_low files name rows net proof answer file (certified, is, e) =
    status_is answer (sweep_answer rows certified) e
    (swept_low rows net proof certified (certificate_of files name rows net proof certified file is))

sweep_low : (files : Holding) (request : Request) (old new : ShelfView) (answer : Answer) → old.holds ≡ Some files → ¬ (Rose old.faults.count new.faults.count)
    → AcceptsUpgrade files request → OfSweep (file_at request 0) (file_at request 1) old new answer → Low answer
sweep_low files request old new answer tells calm (rows, given, net, proof, file) of =
    let first = file_at request 0 in
    let cert = file_at request 1 in
    then_low answer (of_rows files first rows (λ rows. OfSwept rows cert) old new answer tells calm given of)
    (λ on. then_low answer (of_text MAX_CERT_BYTES kinds.Certificate files cert file.text (λ text. Ends (OnSweep rows text)) (with_file old first) new answer tells calm file.given on)
    (λ last. ends_low (OnSweep rows file.text) (with_file (with_file old first) cert) new answer (λ e. sweep_text_low files cert rows net proof answer file e) last))

-- ---- sweepsolve

links_low : (rows : NetRows) (request : Request) (answer : Answer) → (can : IsSweepSolvable rows request) → SolvesLinks rows (sweep_asked_of request) can.net answer → answer.status ≤ 1
links_low rows request answer can (inl (n, is, same)) = absurd (can.work n is)
links_low rows request answer can (inr (swept, are, same)) = status_is answer (solves_answer rows swept) same (verdict_low (list_all (λ (s : Swept). s.closed) swept))

sweepsolve_low : (files : Holding) (request : Request) (old new : ShelfView) (answer : Answer) → old.holds ≡ Some files → ¬ (Rose old.faults.count new.faults.count)
    → AcceptsSweepSolve files request → OfSweepSolve (file_at request 0) request old new answer → Low answer
sweepsolve_low files request old new answer tells calm (rows, net, can) of =
    then_low answer (of_rows files (file_at request 0) rows (λ rows. Ends (OnSweepSolve request rows)) old new answer tells calm net of)
    (λ on. ends_low (OnSweepSolve request rows) (with_file old (file_at request 0)) new answer
    (λ e. links_low rows request answer can (subst (λ (r : Result ScaledNet NetRefusal). OnScaled rows (sweep_asked_of request) r answer) can.scaled e)) on)

-- ---- batch

solved_low : (request : Request) (batch : List Matrix) (answer : Answer) → ((n : ℕ) → ¬ (IsBatchTooMuch batch request.phases n))
    → SolvesBatch request.net (batch_asked_of request) batch answer → answer.status ≤ 1
solved_low request batch answer can (inl (n, is, same)) = absurd (can n is)
solved_low request batch answer can (inr (many, are, same)) = status_is answer (batch_answer batch many) same (verdict_low (list_all (λ (s : SolvedView). s.proof.closed) many))

list_low : (files : Holding) (name : List ℕ) (rows : NetRows) (request : Request) (answer : Answer) → (file : IsListFile files name rows request) → OnList request rows file.text answer → answer.status ≤ 1
list_low files name rows request answer file (found, is, on) =
    solved_low request file.batch answer file.work
    (subst (λ (r : Result (List Matrix) BatchRefusal). OnBatch request.net (batch_asked_of request) r answer) (answers_once rows request.net file.text found (Ok file.batch) is file.read) on)

batch_low : (files : Holding) (request : Request) (old new : ShelfView) (answer : Answer) → old.holds ≡ Some files → ¬ (Rose old.faults.count new.faults.count)
    → AcceptsBatch files request → OfBatch (file_at request 0) (file_at request 1) request old new answer → Low answer
batch_low files request old new answer tells calm (rows, given, file) of =
    let first = file_at request 0 in
    let list = file_at request 1 in
    then_low answer (of_rows files first rows (λ rows. OfList request rows list) old new answer tells calm given of)
    (λ on. then_low answer (of_text MAX_LIST_BYTES kinds.List files list file.text (λ text. Ends (OnList request rows text)) (with_file old first) new answer tells calm file.given on)
    (λ last. ends_low (OnList request rows file.text) (with_file (with_file old first) list) new answer (λ e. list_low files list rows request answer file e) last))

-- ---- hops and throughput

hop_run_low : (rows : NetRows) (net : ScaledNet) (limits : List (Option ℕ)) (request : Request) (solving : HopSolving) → ((n : ℕ) → ¬ (IsTooMuch net.net (hop_runs.asked_of request) n))
    → hop_runs.OnRun net limits (hop_runs.asked_of request) solving → (hop_runs.solving_answer rows solving).status ≤ 1
hop_run_low rows net limits request (hop_solvings.Refused r) work is = absurd is
hop_run_low rows net limits request (hop_solvings.TooMuch n) work is = absurd (work n is)
hop_run_low rows net limits request (hop_solvings.Done solved h) work is = verdict_low h.proof.closed

hop_solving_low : (rows : NetRows) (request : Request) (solving : HopSolving) → IsHopSolvable rows request → hop_runs.IsHopSolving rows request.net (hop_runs.asked_of request) solving
    → (hop_runs.solving_answer rows solving).status ≤ 1
hop_solving_low rows request solving can is =
    let on : hop_runs.OnNet rows (Ok can.net) (hop_runs.asked_of request) solving =
    subst (λ (r : Result ScaledNet NetRefusal). hop_runs.OnNet rows r (hop_runs.asked_of request) solving) can.scaled is in
    let run : hop_runs.OnLimits rows can.net (hop_runs.asked_of request) None solving =
    subst (λ (o : Option NetRefusal). hop_runs.OnLimits rows can.net (hop_runs.asked_of request) o solving) can.near on in
    hop_run_low rows can.net (limits_of rows can.net) request solving can.work run

hops_low : (files : Holding) (request : Request) (old new : ShelfView) (answer : Answer) → old.holds ≡ Some files → ¬ (Rose old.faults.count new.faults.count)
    → AcceptsHops files request → hop_runs.OfHops (file_at request 0) request old new answer → Low answer
hops_low files request old new answer tells calm (rows, net, can) of =
    then_low answer (of_rows files (file_at request 0) rows (λ rows. Ends (hop_runs.SolvesHops request rows)) old new answer tells calm net of)
    (λ on. ends_low (hop_runs.SolvesHops request rows) (with_file old (file_at request 0)) new answer
    (λ e. status_is answer (hop_runs.solving_answer rows e.0) e.2 (hop_solving_low rows request e.0 can e.1)) on)

part_run_low : (rows : NetRows) (net : ScaledNet) (request : Request) (solving : PartSolving) → ((n : ℕ) → ¬ (IsTooMuch net.net (part_runs.asked_of request) n))
    → part_runs.OnRun net (part_runs.asked_of request) solving → (part_runs.solving_answer rows solving).status ≤ 1
part_run_low rows net request (part_solvings.Refused r) work is = absurd is
part_run_low rows net request (part_solvings.TooMuch n) work is = absurd (work n is)
part_run_low rows net request (part_solvings.Done solved p) work is = verdict_low p.closed

part_solving_low : (rows : NetRows) (request : Request) (solving : PartSolving) → IsPartSolvable rows request → part_runs.IsPartSolving rows request.net (part_runs.asked_of request) solving
    → (part_runs.solving_answer rows solving).status ≤ 1
part_solving_low rows request solving can is =
    let on : part_runs.OnNet (Ok can.net) (part_runs.asked_of request) solving =
    subst (λ (r : Result ScaledNet NetRefusal). part_runs.OnNet r (part_runs.asked_of request) solving) can.scaled is in
    part_run_low rows can.net request solving can.work on

throughput_low : (files : Holding) (request : Request) (old new : ShelfView) (answer : Answer) → old.holds ≡ Some files → ¬ (Rose old.faults.count new.faults.count)
    → AcceptsThroughput files request → part_runs.OfThroughput (file_at request 0) request old new answer → Low answer
throughput_low files request old new answer tells calm (rows, net, can) of =
    then_low answer (of_rows files (file_at request 0) rows (λ rows. Ends (part_runs.SolvesParts request rows)) old new answer tells calm net of)
    (λ on. ends_low (part_runs.SolvesParts request rows) (with_file old (file_at request 0)) new answer
    (λ e. status_is answer (part_runs.solving_answer rows e.0) e.2 (part_solving_low rows request e.0 can e.1)) on)

-- ---- checkhops and checkthroughput

hops_said : (rows : NetRows) (net : ScaledNet) (h : HopProof) (judged : Judged) → hops.SaysHops rows net h judged → (answer_of (outcomes.Judged judged)).status ≤ 1
hops_said rows net h (judges.Invalid fault) is = omega arith
hops_said rows net h (judges.Valid options closed lower upper) is = omega arith
hops_said rows net h (judges.NetRefused x) is = absurd is
hops_said rows net h (judges.CertRefused x) is = absurd is
hops_said rows net h (judges.Feasible o v) is = absurd is

check_hops_low : (files : Holding) (request : Request) (old new : ShelfView) (answer : Answer) → old.holds ≡ Some files → ¬ (Rose old.faults.count new.faults.count)
    → AcceptsCheckHops files request → hops.OfCheckHops (file_at request 0) (file_at request 1) old new answer → Low answer
check_hops_low files request old new answer tells calm (rows, given, net, h, file) of =
    kind_low hops.too_far hops.rest_of (λ (lines : List Line). run_head (codes "mcf-hops 1") lines) hops.SaysHops hops_said
    files (file_at request 0) (file_at request 1) rows net h file.text old new answer tells calm given file.given file.read of

part_said : (rows : NetRows) (net : ScaledNet) (p : PartProof) (judged : Judged) → parts.SaysPart net p judged → (answer_of (outcomes.Judged judged)).status ≤ 1
part_said rows net p (judges.Invalid fault) is = omega arith
part_said rows net p (judges.Valid options closed lower upper) is = omega arith
part_said rows net p (judges.NetRefused x) is = absurd is
part_said rows net p (judges.CertRefused x) is = absurd is
part_said rows net p (judges.Feasible o v) is = absurd is

check_part_low : (files : Holding) (request : Request) (old new : ShelfView) (answer : Answer) → old.holds ≡ Some files → ¬ (Rose old.faults.count new.faults.count)
    → AcceptsCheckThroughput files request → parts.OfCheckThroughput (file_at request 0) (file_at request 1) old new answer → Low answer
check_part_low files request old new answer tells calm (rows, given, net, p, file) of =
    kind_low (λ (rows : NetRows). nothing_more) parts.rest_of (λ (lines : List Line). run_head (codes "mcf-throughput 1") lines) (λ (rows : NetRows). parts.SaysPart) part_said
    files (file_at request 0) (file_at request 1) rows net p file.text old new answer tells calm given file.given file.read of

-- ---- all commands

pub command_low : (command : Command) (files : Holding) (request : Request) (old new : ShelfView) (answer : Answer) → old.holds ≡ Some files → ¬ (Rose old.faults.count new.faults.count)
    → Accepts command files request → OfCommand command request old new answer → Low answer
command_low commands.Solve files request old new answer tells calm accepts of = solve_low files request old new answer tells calm accepts of
command_low commands.Check files request old new answer tells calm accepts of = check_low files request old new answer tells calm accepts of
command_low commands.WhatIf files request old new answer tells calm accepts of = whatif_low files request old new answer tells calm accepts of
command_low commands.Upgrade files request old new answer tells calm accepts of = upgrade_low files request old new answer tells calm accepts of
command_low commands.Tighten files request old new answer tells calm accepts of = tighten_low files request old new answer tells calm accepts of
command_low commands.Batch files request old new answer tells calm accepts of = batch_low files request old new answer tells calm accepts of
command_low commands.Sweep files request old new answer tells calm accepts of = sweep_low files request old new answer tells calm accepts of
command_low commands.SweepSolve files request old new answer tells calm accepts of = sweepsolve_low files request old new answer tells calm accepts of
command_low commands.Hops files request old new answer tells calm accepts of = hops_low files request old new answer tells calm accepts of
command_low commands.Throughput files request old new answer tells calm accepts of = throughput_low files request old new answer tells calm accepts of
command_low commands.CheckHops files request old new answer tells calm accepts of = check_hops_low files request old new answer tells calm accepts of
command_low commands.CheckThroughput files request old new answer tells calm accepts of = check_part_low files request old new answer tells calm accepts of
command_low commands.Print files request old new answer tells calm accepts of = print_low files request old new answer tells calm accepts of
command_low commands.Gen files request old new answer tells calm accepts of = ends_low (λ given. given ≡ gen_answer request.numbers) old new answer (λ e. status_is answer (gen_answer request.numbers) e (omega arith)) of
command_low commands.Trial files request old new answer tells calm accepts of = ends_low (OfTrial request) old new answer (λ e. trial_low request answer accepts e) of
