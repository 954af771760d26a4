-- A run starts the files of its words alone, and its status tells what has failed.
use Rattle.std.proofs.Common.{◌≡◌, ℕ, Bool, true, false, ◌+◌, ◌≤◌, List, [], ◌∷◌, ◌++◌, take, Option, Some, None, Result, Ok, Err, inl, inr, refl, sym, ap, subst, ◌∙◌, append_assoc, arith}
use Rattle.std.specs.Prelude.{◌⊎◌, option_to_list, if◌then◌else◌}
use Rattle.std.specs.List.{list_all}
use Rattle.std.proofs.lemmas.List.{append-nil}
use Rattle.std.proofs.lemmas.List.Elements.{Contains-append_right}
use Rattle.std.proofs.Math.Seq.{take-append-add}
use Rattle.mcf_limits.specs.declared.TheConstants.{MAX_NET_BYTES, MAX_CERT_BYTES, MAX_LIST_BYTES, MAX_SCRIPT_BYTES}
use Rattle.mcf_base.specs.Shelf.{ShelfView, with_file}
use Rattle.mcf_base.specs.Sink.{SinkView}
use Rattle.sndlib_grammar.specs.declared.refusal.NetRefusal.{NetRefusal}
use Rattle.sndlib_grammar.specs.Rows.{NetRows}
use Rattle.sndlib_grammar.specs.Net.{rows_of}
use Rattle.unit_scale.specs.Scaling.{ScaledNet, scaled_of}
use Rattle.cert_judge.specs.declared.judged.Judged.{Judged}
use Rattle.cert_judge.specs.declared.judged.Judged.TheVariants as judges
use Rattle.net_solve.specs.declared.solving.Solving.{Solving}
use Rattle.net_solve.specs.declared.solving.Solving.TheVariants as solvings
use Rattle.cert_judge.specs.declared.certifying.Certified.{Certified}
use Rattle.cert_judge.specs.declared.certifying.Certified.TheVariants as certs
use Rattle.net_whatif.specs.declared.scripting.Scripted.{Scripted}
use Rattle.net_whatif.specs.declared.scripting.Scripted.TheVariants as scripts
use Rattle.mcf_words.specs.declared.request.Request.{Request}
use Rattle.mcf_words.specs.Request.{request_of}
use Rattle.mcf_words.specs.declared.request.Command.{Command}
use Rattle.mcf_words.specs.declared.request.Command.TheVariants as commands
use Rattle.base_cmd.specs.declared.ended.Ended.{Ended}
use Rattle.base_cmd.specs.declared.outcome.FileKind.{FileKind}
use Rattle.base_cmd.specs.declared.outcome.FileKind.TheVariants as kinds
use Rattle.base_cmd.specs.declared.outcome.Outcome.TheVariants as outcomes
use Rattle.base_cmd.specs.Answer.{Answer, Writes, answer_of, judged_answer}
use Rattle.base_cmd.specs.Files.{Ends, OfFile, OfNet, OnRows, OrMemory}
use Rattle.solve_cmd.specs.Print.{printed}
use Rattle.solve_cmd.specs.Solve.{SolvesRows, solving_answer}
use Rattle.solve_cmd.specs.Drawn.{gen_answer, links_drawn, net_drawn, trial_line, OfTrial}
use Rattle.cert_cmd.specs.Check.{OnTexts}
use Rattle.cert_judge.specs.declared.second.Second.{Second}
use Rattle.cert_judge.specs.declared.second.Second.TheVariants as seconds
use Rattle.flow_paths.specs.declared.certificate.Proof.{Proof}
use Rattle.cert_cmd.specs.Tighten.{WritesBest, best_answer, OnBoth, OnSecond, OnFirst, OnFirstRead, OnFirstText, OfFirst}
use Rattle.cert_cmd.specs.Upgrade.{upgrade_answer, OnUpgrade, OfUpgraded}
use Rattle.solver_run.specs.History.{SolvedView}
use Rattle.matrix_batch.specs.Matrices.{Matrix}
use Rattle.matrix_batch.specs.Refusals.{BatchRefusal, InNet, InList}
use Rattle.batch_cmd.specs.Batch.{batch_asked_of, batch_answer, OnBatch, OnList, OfList}
use Rattle.sweep_cmd.specs.Sweep.{sweep_answer, OnSweep, OfSwept}
use Rattle.sweep_cmd.specs.SweepSolve.{solves_answer, sweep_asked_of, OnScaled, OnSweepSolve}
use Rattle.sweep_cmd.specs.declared.swept.Swept.{Swept}
use Rattle.sweep_cmd.specs.declared.asked.SweepAsked.{SweepAsked}
use Rattle.cert_cmd.specs.WhatIf.{scripted_answer, OnScript, OnCertified, OnCertificate}
use Rattle.hops_cmd.specs.Check as hops
use Rattle.hops_cmd.specs.Hops as hop_runs
use Rattle.hops_cmd.specs.declared.solving.HopSolving.{HopSolving}
use Rattle.hops_cmd.specs.declared.solving.HopSolving.TheVariants as hop_solvings
use Rattle.throughput_cmd.specs.Check as parts
use Rattle.throughput_cmd.specs.Parts as part_runs
use Rattle.throughput_cmd.specs.declared.solving.PartSolving.{PartSolving}
use Rattle.throughput_cmd.specs.declared.solving.PartSolving.TheVariants as part_solvings
use Rattle.mcf_cli.specs.Run.{file_at, file_if, OfCommand, OfRequest, RunEnds}
use Rattle.cli_laws.specs.Started.{FailsAtOne, Starts, StartsItsFiles, files_in}
use Rattle.mcf_words.proofs.Counted.{names_count}
use Rattle.cli_laws.proofs.Named.{files_of, names_are}

-- a status that tells no failure
record IsCalm (answer : Answer) : Type 0 where
  pub four : ¬ (answer.status ≡ 4)
  pub five : ¬ (answer.status ≡ 5)

low_calm : (answer : Answer) → answer.status ≤ 3 → IsCalm answer
low_calm answer low = record { four = λ e. absurd (omega (arith, low, e)); five = λ e. absurd (omega (arith, low, e)) }

same_calm : (answer other : Answer) → answer ≡ other → other.status ≤ 3 → IsCalm answer
same_calm answer other e low = low_calm answer (subst (λ (a : Answer). a.status ≤ 3) (sym e) low)

memory_calm : (answer : Answer) → answer ≡ answer_of outcomes.Memory → IsCalm answer
memory_calm answer e =
    let six : answer.status ≡ 6 = ap (λ (a : Answer). a.status) e in
    record { four = λ f. absurd (omega (arith, six, f)); five = λ f. absurd (omega (arith, six, f)) }

abbrev Shelf : List (List ℕ) → ShelfView → ShelfView → Answer → Type 0
Shelf files old new answer = (FailsAtOne files old new × (answer.status ≡ 4)) ⊎ (¬ (answer.status ≡ 4) × (new.faults ≡ old.faults))

abbrev EndShelf : List (List ℕ) → ShelfView → ShelfView → Ended → Type 0
EndShelf files old new ended =
    (FailsAtOne files old new × ((ended.status ≡ 4) ⊎ (ended.status ≡ 5))) ⊎ (¬ (ended.status ≡ 4) × (new.faults ≡ old.faults))

-- so many of the files were started; one failed, and the answer says so, or none did
record Went (files : List (List ℕ)) (old new : ShelfView) (answer : Answer) : Type 0 where
  pub starts : Starts files old new
  pub shelf : Shelf files old new answer
  pub output : ¬ (answer.status ≡ 5)

-- nothing more was started
stays : (files : List (List ℕ)) (old new : ShelfView) (answer : Answer) → IsCalm answer → new ≡ old → Went files old new answer
stays files old new answer calm same = record {
  starts = record {
    holds = ap (λ (s : ShelfView). s.holds) same;
    later = subst (λ (s : ShelfView). old.faults.count ≤ s.faults.count) (sym same) (omega arith);
    count = 0;
    names = ap (λ (s : ShelfView). s.names) same ∙ sym (append-nil old.names);
  };
  shelf = inr (calm.four, ap (λ (s : ShelfView). s.faults) same);
  output = calm.five;
}

ends_went : (Of : Answer → Type 0) (old new : ShelfView) (answer : Answer) → (Of answer → IsCalm answer) → Ends Of old new answer → Went [] old new answer
ends_went Of old new answer f (same, inl memory) = stays [] old new answer (memory_calm answer memory) same
ends_went Of old new answer f (same, inr of) = stays [] old new answer (f of) same

fails_on : (name : List ℕ) (files : List (List ℕ)) (old new : ShelfView) (answer : Answer) → Shelf files (with_file old name) new answer → Shelf (name ∷ files) old new answer
fails_on name files old new answer (inl (fails, four)) =
    inl (record { name = fails.name; one = Contains-append_right (name ∷ []) files fails.name fails.one; last = fails.last; rose = fails.rose }, four)
fails_on name files old new answer (inr calm) = inr calm

-- one file was started, and what follows started others
goes_on : (name : List ℕ) (files : List (List ℕ)) (old new : ShelfView) (answer : Answer) → Went files (with_file old name) new answer → Went (name ∷ files) old new answer
goes_on name files old new answer went = record {
  starts = record {
    holds = went.starts.holds;
    later = went.starts.later;
    count = 1 + went.starts.count;
    names = went.starts.names ∙ append_assoc old.names (name ∷ []) (take went.starts.count files) ∙ ap (λ (l : List (List ℕ)). old.names ++ l) (sym (take-append-add (name ∷ []) files went.starts.count));
  };
  shelf = fails_on name files old new answer went.shelf;
  output = went.output;
}

fault_output : (answer : Answer) → answer.status ≡ 4 → ¬ (answer.status ≡ 5)
fault_output answer four five = absurd (omega (arith, four, five))

file_went : (limit : ℕ) (paper : FileKind) (name : List ℕ) (files : List (List ℕ)) (OfText : List ℕ → ShelfView → ShelfView → Answer → Type 0) (old new : ShelfView) (answer : Answer)
    → ((text : List ℕ) → OfText text (with_file old name) new answer → Went files (with_file old name) new answer) → OfFile limit paper name OfText old new answer → Went (name ∷ files) old new answer
file_went limit paper name files OfText old new answer f (inl (inl (memory, inl same))) = stays (name ∷ files) old new answer (memory_calm answer memory) same
file_went limit paper name files OfText old new answer f (inl (inl (memory, inr same))) = goes_on name files old new answer (stays files (with_file old name) new answer (memory_calm answer memory) same)
file_went limit paper name files OfText old new answer f (inl (inr (inl (fault, failed)))) =
    let four : answer.status ≡ 4 = ap (λ (a : Answer). a.status) fault in
    record {
      starts = record { holds = failed.holds; later = failed.later; count = 1; names = failed.names };
      shelf = inl (record { name = name; one = (0, omega arith, refl); last = failed.last; rose = failed.rose }, four);
      output = fault_output answer four;
    }
file_went limit paper name files OfText old new answer f (inl (inr (inr (refused, longer, same)))) =
    goes_on name files old new answer (stays files (with_file old name) new answer (same_calm answer (answer_of (outcomes.TooLong paper)) refused (omega arith)) same)
file_went limit paper name files OfText old new answer f (inr (text, is, of)) = goes_on name files old new answer (f text of)

rows_went : (files : List (List ℕ)) (OfRows : NetRows → ShelfView → ShelfView → Answer → Type 0) (old new : ShelfView) (answer : Answer) (r : Result NetRows NetRefusal)
    → ((rows : NetRows) → OfRows rows old new answer → Went files old new answer) → OnRows OfRows r old new answer → Went files old new answer
rows_went files OfRows old new answer (Ok rows) f on = f rows on
rows_went files OfRows old new answer (Err x) f (refused, same) = stays files old new answer (same_calm answer (answer_of (outcomes.NetRefused x)) refused (omega arith)) same

or_went : (files : List (List ℕ)) (Of : ShelfView → ShelfView → Answer → Type 0) (old new : ShelfView) (answer : Answer) → (Of old new answer → Went files old new answer) → OrMemory Of old new answer → Went files old new answer
or_went files Of old new answer f (inl (memory, same)) = stays files old new answer (memory_calm answer memory) same
or_went files Of old new answer f (inr of) = f of

net_went : (name : List ℕ) (files : List (List ℕ)) (OfRows : NetRows → ShelfView → ShelfView → Answer → Type 0) (old new : ShelfView) (answer : Answer)
    → ((rows : NetRows) → OfRows rows (with_file old name) new answer → Went files (with_file old name) new answer) → OfNet name OfRows old new answer → Went (name ∷ files) old new answer
net_went name files OfRows old new answer f of =
    file_went MAX_NET_BYTES kinds.Network name files (λ text. OrMemory (OnRows OfRows (rows_of text))) old new answer
    (λ text on. or_went files (OnRows OfRows (rows_of text)) (with_file old name) new answer (λ rows. rows_went files OfRows (with_file old name) new answer (rows_of text) f rows) on) of

-- ---- the statuses of answers

verdict_low : (closed : Bool) → (if closed then 0 else 1) ≤ 3
verdict_low true = omega arith
verdict_low false = omega arith

judged_low : (judged : Judged) → (answer_of (outcomes.Judged judged)).status ≤ 3
judged_low (judges.NetRefused x) = omega arith
judged_low (judges.CertRefused x) = omega arith
judged_low (judges.Invalid fault) = omega arith
judged_low (judges.Feasible o v) = omega arith
judged_low (judges.Valid o c l u) = omega arith

solving_low : (rows : NetRows) (solving : Solving) → (solving_answer rows solving).status ≤ 3
solving_low rows (solvings.Refused r) = omega arith
solving_low rows (solvings.TooMuch n) = omega arith
solving_low rows (solvings.Done net s) = verdict_low s.proof.closed

hops_low : (rows : NetRows) (solving : HopSolving) → (hop_runs.solving_answer rows solving).status ≤ 3
hops_low rows (hop_solvings.Refused r) = omega arith
hops_low rows (hop_solvings.TooMuch n) = omega arith
hops_low rows (hop_solvings.Done net h) = verdict_low h.proof.closed

parts_low : (rows : NetRows) (solving : PartSolving) → (part_runs.solving_answer rows solving).status ≤ 3
parts_low rows (part_solvings.Refused r) = omega arith
parts_low rows (part_solvings.TooMuch n) = omega arith
parts_low rows (part_solvings.Done net p) = verdict_low p.closed

upgrade_low : (rows : NetRows) (certified : Certified) → (upgrade_answer rows certified).status ≤ 3
upgrade_low rows (certs.Said judged) = judged_low judged
upgrade_low rows (certs.Valid net proof) = omega arith

sweep_low : (rows : NetRows) (certified : Certified) → (sweep_answer rows certified).status ≤ 3
sweep_low rows (certs.Said judged) = judged_low judged
sweep_low rows (certs.Valid net proof) = omega arith

scripted_low : (scripted : Scripted) → (scripted_answer scripted).status ≤ 3
scripted_low (scripts.Refused r) = omega arith
scripted_low (scripts.Ready plan script) = omega arith

trial_calm : (request : Request) (answer : Answer) → OfTrial request answer → IsCalm answer
trial_calm request answer (rows, read, inl (n, is, same)) = same_calm answer (answer_of (outcomes.TooMuch n)) same (omega arith)
trial_calm request answer (rows, read, inr (s, done, same)) =
    same_calm answer (trial_line (links_drawn request) (net_drawn request).net s) same (verdict_low s.proof.closed)

solves_calm : (rows : NetRows) (asked : SweepAsked) (answer : Answer) (r : Result ScaledNet NetRefusal) → OnScaled rows asked r answer → IsCalm answer
solves_calm rows asked answer (Err x) same = same_calm answer (answer_of (outcomes.NetRefused x)) same (omega arith)
solves_calm rows asked answer (Ok net) (inl (n, is, same)) = same_calm answer (answer_of (outcomes.TooMuch n)) same (omega arith)
solves_calm rows asked answer (Ok net) (inr (swept, are, same)) = same_calm answer (solves_answer rows swept) same (verdict_low (list_all (λ (s : Swept). s.closed) swept))

batch_calm : (request : Request) (answer : Answer) (found : Result (List Matrix) BatchRefusal) → OnBatch request.net (batch_asked_of request) found answer → IsCalm answer
batch_calm request answer (Err (InNet r)) same = same_calm answer (answer_of (outcomes.NetRefused r)) same (omega arith)
batch_calm request answer (Err (InList r)) same = same_calm answer (answer_of (outcomes.ListRefused r)) same (omega arith)
batch_calm request answer (Ok batch) (inl (n, is, same)) = same_calm answer (answer_of (outcomes.TooMuch n)) same (omega arith)
batch_calm request answer (Ok batch) (inr (many, are, same)) = same_calm answer (batch_answer batch many) same (verdict_low (list_all (λ (s : SolvedView). s.proof.closed) many))

-- ---- the commands

certified_went : (rows : NetRows) (script : List ℕ) (certified : Certified) (old new : ShelfView) (answer : Answer) → OnCertified rows script certified old new answer → Went (script ∷ []) old new answer
certified_went rows script (certs.Said judged) old new answer (told, same) = stays (script ∷ []) old new answer (same_calm answer (answer_of (outcomes.Judged judged)) told (judged_low judged)) same
certified_went rows script (certs.Valid net proof) old new answer of =
    file_went MAX_SCRIPT_BYTES kinds.Script script [] (λ text. Ends (OnScript rows net proof text)) old new answer
    (λ text on. ends_went (OnScript rows net proof text) (with_file old script) new answer (λ s. same_calm answer (scripted_answer s.0) s.2 (scripted_low s.0)) on) of

best_calm : (rows : NetRows) (net : ScaledNet) (first : Proof) (others : List Proof) (answer : Answer) → WritesBest rows net first others answer → IsCalm answer
best_calm rows net first others answer (best, is, same) = same_calm answer (best_answer rows net best) same (verdict_low best.closed)

both_calm : (rows : NetRows) (net : ScaledNet) (first : Proof) (second : Second) (answer : Answer) → OnBoth rows net first second answer → IsCalm answer
both_calm rows net first (seconds.Refused r) answer same = same_calm answer (answer_of (outcomes.SecondRefused r)) same (omega arith)
both_calm rows net first (seconds.Invalid fault) answer same = same_calm answer (answer_of (outcomes.SecondInvalid fault)) same (omega arith)
both_calm rows net first (seconds.Valid proof) answer writes = best_calm rows net first (proof ∷ []) answer writes

first_went : (rows : NetRows) (second : Option (List ℕ)) (net : ScaledNet) (first : Proof) (old new : ShelfView) (answer : Answer) → OnFirst rows second net first old new answer → Went (option_to_list second) old new answer
first_went rows None net first old new answer of = ends_went (WritesBest rows net first []) old new answer (λ w. best_calm rows net first [] answer w) of
first_went rows (Some name) net first old new answer of =
    file_went MAX_CERT_BYTES kinds.Second name [] (λ text. Ends (OnSecond rows net first text)) old new answer
    (λ text on. ends_went (OnSecond rows net first text) (with_file old name) new answer (λ s. both_calm rows net first s.0 answer s.2) on) of

read_went : (rows : NetRows) (second : Option (List ℕ)) (certified : Certified) (old new : ShelfView) (answer : Answer) → OnFirstRead rows second certified old new answer → Went (option_to_list second) old new answer
read_went rows second (certs.Said judged) old new answer (told, same) = stays (option_to_list second) old new answer (same_calm answer (answer_of (outcomes.Judged judged)) told (judged_low judged)) same
read_went rows second (certs.Valid net first) old new answer of = first_went rows second net first old new answer of

command_went : (command : Command) (request : Request) (old new : ShelfView) (answer : Answer) → OfCommand command request old new answer → Went (files_of command request) old new answer
command_went commands.Solve request old new answer of =
    net_went (file_at request 0) [] (λ rows. Ends (SolvesRows request rows)) old new answer
    (λ rows on. ends_went (SolvesRows request rows) (with_file old (file_at request 0)) new answer (λ s. same_calm answer (solving_answer rows s.0) s.2 (solving_low rows s.0)) on) of
command_went commands.Print request old new answer of =
    net_went (file_at request 0) [] (λ rows. Ends (λ given. given ≡ printed rows)) old new answer
    (λ rows on. ends_went (λ given. given ≡ printed rows) (with_file old (file_at request 0)) new answer (λ e. same_calm answer (printed rows) e (omega arith)) on) of
command_went commands.Check request old new answer of =
    let first = file_at request 0 in
    let cert = file_at request 1 in
    net_went first (cert ∷ []) (λ rows. OfFile MAX_CERT_BYTES kinds.Certificate cert (λ text. Ends (OnTexts rows text))) old new answer
    (λ rows on. file_went MAX_CERT_BYTES kinds.Certificate cert [] (λ text. Ends (OnTexts rows text)) (with_file old first) new answer
    (λ text last. ends_went (OnTexts rows text) (with_file (with_file old first) cert) new answer (λ j. same_calm answer (judged_answer j.0) j.2 (judged_low j.0)) last) on) of
command_went commands.Upgrade request old new answer of =
    let first = file_at request 0 in
    let cert = file_at request 1 in
    net_went first (cert ∷ []) (λ rows. OfUpgraded rows cert) old new answer
    (λ rows on. file_went MAX_CERT_BYTES kinds.Certificate cert [] (λ text. Ends (OnUpgrade rows text)) (with_file old first) new answer
    (λ text last. ends_went (OnUpgrade rows text) (with_file (with_file old first) cert) new answer (λ u. same_calm answer (upgrade_answer rows u.0) u.2 (upgrade_low rows u.0)) last) on) of
command_went commands.Tighten request old new answer of =
    let first = file_at request 0 in
    let cert = file_at request 1 in
    let second = file_if request 2 in
    net_went first (cert ∷ option_to_list second) (λ rows. OfFirst rows cert second) old new answer
    (λ rows on. file_went MAX_CERT_BYTES kinds.Certificate cert (option_to_list second) (λ text. OrMemory (OnFirstText rows second text)) (with_file old first) new answer
    (λ text last. or_went (option_to_list second) (OnFirstText rows second text) (with_file (with_file old first) cert) new answer (λ c. read_went rows second c.0 (with_file (with_file old first) cert) new answer c.2) last) on) of
command_went commands.Batch request old new answer of =
    let first = file_at request 0 in
    let list = file_at request 1 in
    net_went first (list ∷ []) (λ rows. OfList request rows list) old new answer
    (λ rows on. file_went MAX_LIST_BYTES kinds.List list [] (λ text. Ends (OnList request rows text)) (with_file old first) new answer
    (λ text last. ends_went (OnList request rows text) (with_file (with_file old first) list) new answer (λ f. batch_calm request answer f.0 f.2) last) on) of
command_went commands.Sweep request old new answer of =
    let first = file_at request 0 in
    let cert = file_at request 1 in
    net_went first (cert ∷ []) (λ rows. OfSwept rows cert) old new answer
    (λ rows on. file_went MAX_CERT_BYTES kinds.Certificate cert [] (λ text. Ends (OnSweep rows text)) (with_file old first) new answer
    (λ text last. ends_went (OnSweep rows text) (with_file (with_file old first) cert) new answer (λ s. same_calm answer (sweep_answer rows s.0) s.2 (sweep_low rows s.0)) last) on) of
command_went commands.SweepSolve request old new answer of =
    net_went (file_at request 0) [] (λ rows. Ends (OnSweepSolve request rows)) old new answer
    (λ rows on. ends_went (OnSweepSolve request rows) (with_file old (file_at request 0)) new answer (λ s. solves_calm rows (sweep_asked_of request) answer (scaled_of rows request.net) s) on) of
command_went commands.Hops request old new answer of =
    net_went (file_at request 0) [] (λ rows. Ends (hop_runs.SolvesHops request rows)) old new answer
    (λ rows on. ends_went (hop_runs.SolvesHops request rows) (with_file old (file_at request 0)) new answer (λ s. same_calm answer (hop_runs.solving_answer rows s.0) s.2 (hops_low rows s.0)) on) of
command_went commands.Throughput request old new answer of =
    net_went (file_at request 0) [] (λ rows. Ends (part_runs.SolvesParts request rows)) old new answer
    (λ rows on. ends_went (part_runs.SolvesParts request rows) (with_file old (file_at request 0)) new answer (λ s. same_calm answer (part_runs.solving_answer rows s.0) s.2 (parts_low rows s.0)) on) of
command_went commands.CheckHops request old new answer of =
    let first = file_at request 0 in
    let cert = file_at request 1 in
    net_went first (cert ∷ []) (λ rows. OfFile MAX_CERT_BYTES kinds.Certificate cert (λ text. Ends (hops.OnHopTexts rows text))) old new answer
    (λ rows on. file_went MAX_CERT_BYTES kinds.Certificate cert [] (λ text. Ends (hops.OnHopTexts rows text)) (with_file old first) new answer
    (λ text last. ends_went (hops.OnHopTexts rows text) (with_file (with_file old first) cert) new answer (λ j. same_calm answer (judged_answer j.0) j.2 (judged_low j.0)) last) on) of
command_went commands.CheckThroughput request old new answer of =
    let first = file_at request 0 in
    let cert = file_at request 1 in
    net_went first (cert ∷ []) (λ rows. OfFile MAX_CERT_BYTES kinds.Certificate cert (λ text. Ends (parts.OnPartTexts rows text))) old new answer
    (λ rows on. file_went MAX_CERT_BYTES kinds.Certificate cert [] (λ text. Ends (parts.OnPartTexts rows text)) (with_file old first) new answer
    (λ text last. ends_went (parts.OnPartTexts rows text) (with_file (with_file old first) cert) new answer (λ j. same_calm answer (judged_answer j.0) j.2 (judged_low j.0)) last) on) of
command_went commands.WhatIf request old new answer of =
    let first = file_at request 0 in
    let cert = file_at request 1 in
    let script = file_at request 2 in
    net_went first (cert ∷ script ∷ []) (λ rows. OfFile MAX_CERT_BYTES kinds.Certificate cert (λ text. OrMemory (OnCertificate rows script text))) old new answer
    (λ rows on. file_went MAX_CERT_BYTES kinds.Certificate cert (script ∷ []) (λ text. OrMemory (OnCertificate rows script text)) (with_file old first) new answer
    (λ text last. or_went (script ∷ []) (OnCertificate rows script text) (with_file (with_file old first) cert) new answer (λ c. certified_went rows script c.0 (with_file (with_file old first) cert) new answer c.2) last) on) of
command_went commands.Gen request old new answer of =
    ends_went (λ given. given ≡ gen_answer request.numbers) old new answer (λ e. same_calm answer (gen_answer request.numbers) e (omega arith)) of
command_went commands.Trial request old new answer of = ends_went (OfTrial request) old new answer (λ t. trial_calm request answer t) of

request_went : (words : List (List ℕ)) (r : Option Request) (old new : ShelfView) (answer : Answer) → request_of words ≡ r → OfRequest r old new answer → Went (files_in r) old new answer
request_went words None old new answer asked of =
    ends_went (λ given. given ≡ answer_of outcomes.Usage) old new answer (λ e. same_calm answer (answer_of outcomes.Usage) e (omega arith)) of
request_went words (Some request) old new answer asked of =
    subst (λ (files : List (List ℕ)). Went files old new answer) (names_are request.command request (names_count words request asked)) (command_went request.command request old new answer of)

kept : (files : List (List ℕ)) (old new : ShelfView) (answer : Answer) (ended : Ended) → ended.status ≡ answer.status → Shelf files old new answer → EndShelf files old new ended
kept files old new answer ended e (inl (fails, four)) = inl (fails, inl (e ∙ four))
kept files old new answer ended e (inr (four, same)) = inr ((λ f. four (sym e ∙ f)), same)

cut_kept : (files : List (List ℕ)) (old new : ShelfView) (answer : Answer) (ended : Ended) → ended.status ≡ 5 → Shelf files old new answer → EndShelf files old new ended
cut_kept files old new answer ended five (inl (fails, four)) = inl (fails, inr five)
cut_kept files old new answer ended five (inr (four, same)) = inr ((λ f. absurd (omega (arith, five, f))), same)

pub started : (words : List (List ℕ)) (old new : ShelfView) (before after : SinkView) (ended : Ended) → RunEnds words old new before after ended → StartsItsFiles words old new before after ended
started words old new before after ended (answer, is, writes) = by (or_went (files_in (request_of words)) (OfRequest (request_of words)) old new answer (λ of. request_went words (request_of words) old new answer refl of) is) writes
  where
    by : Went (files_in (request_of words)) old new answer → Writes before after ended answer → StartsItsFiles words old new before after ended
    by went (inl given) =
        let e : ended.status ≡ answer.status = ap (λ (x : Ended). x.status) given.ends in
        record { starts = went.starts; shelf = kept (files_in (request_of words)) old new answer ended e went.shelf; output = inr ((λ f. went.output (sym e ∙ f)), given.faults) }
    by went (inr cut) =
        let five : ended.status ≡ 5 = ap (λ (x : Ended). x.status) cut.ends in
        record { starts = went.starts; shelf = cut_kept (files_in (request_of words)) old new answer ended five went.shelf; output = inl (five, cut.failed) }
