-- What a run of `hops` or `throughput` wrote is judged valid by a run of the command that judges it.
use Rattle.std.proofs.Common.{◌≡◌, ℕ, ◌≤◌, List, ap, subst, ◌∙◌, arith}
use Rattle.mcf_base.specs.Shelf.{with_file}
use Rattle.sndlib_grammar.specs.Rows.{NetRows}
use Rattle.unit_scale.specs.Scaling.{ScaledNet}
use Rattle.cert_lines.specs.Sheet.{sheet_of}
use Rattle.hop_check.specs.declared.hop_proof.HopProof.{HopProof}
use Rattle.hop_check.specs.Limits.{limits_of}
use Rattle.throughput.specs.declared.part_proof.PartProof.{PartProof}
use Rattle.kind_texts.specs.HopsText.{hops_text}
use Rattle.kind_texts.specs.PartText.{part_text}
use Rattle.mcf_words.specs.declared.request.Command.TheVariants as commands
use Rattle.mcf_words.specs.declared.request.Request.{Request}
use Rattle.base_cmd.specs.declared.outcome.Outcome.TheVariants as outcomes
use Rattle.base_cmd.specs.Answer.{Answer, judged_answer}
use Rattle.base_cmd.specs.Files.{AreTextRows, Ends}
use Rattle.hops_cmd.specs.declared.solving.HopSolving.{HopSolving}
use Rattle.hops_cmd.specs.declared.solving.HopSolving.TheVariants as hop_solvings
use Rattle.hops_cmd.specs.Check as hop_checks
use Rattle.hops_cmd.specs.Hops as hop_runs
use Rattle.hops_cmd.specs.Laws as hop_laws
use Rattle.hops_cmd.proofs.Made as hop_made
use Rattle.throughput_cmd.specs.declared.solving.PartSolving.{PartSolving}
use Rattle.throughput_cmd.specs.declared.solving.PartSolving.TheVariants as part_solvings
use Rattle.throughput_cmd.specs.Check as part_checks
use Rattle.throughput_cmd.specs.Parts as part_runs
use Rattle.throughput_cmd.specs.Laws as part_laws
use Rattle.throughput_cmd.proofs.Made as part_made
use Rattle.mcf_cli.specs.Run.{file_at}
use Rattle.cli_laws.specs.KindsChecked.{HopsRunsCheck, ThroughputRunsCheck}
use Rattle.cli_laws.proofs.Checking.{run_answered, told_as}
use Rattle.cli_laws.proofs.Given.{ends_full, not_full, rows_of_file}

-- ---- hop limits

-- the answer of a run that ended well is a certificate
record IsOfHops (rows : NetRows) (request : Request) (answer : Answer) : Type 0 where
  pub net : ScaledNet
  pub proof : HopProof
  pub done : hop_runs.IsHopSolving rows request.net (hop_runs.asked_of request) (hop_solvings.Done net proof)
  pub same : answer ≡ hop_runs.hops_answer rows net proof

hops_done : (rows : NetRows) (request : Request) (answer : Answer) (solving : HopSolving) → answer.status ≤ 1 → hop_runs.IsHopSolving rows request.net (hop_runs.asked_of request) solving
    → answer ≡ hop_runs.solving_answer rows solving → IsOfHops rows request answer
hops_done rows request answer (hop_solvings.Refused r) full is same = absurd (not_full answer (outcomes.NetRefused r) same full (omega arith))
hops_done rows request answer (hop_solvings.TooMuch n) full is same = absurd (not_full answer (outcomes.TooMuch n) same full (omega arith))
hops_done rows request answer (hop_solvings.Done net proof) full is same = record { net = net; proof = proof; done = is; same = same }

pub hops_check : hop_laws.SolvedHopsCheck → HopsRunsCheck
hops_check law files again hops check text first second before after ran run =
    let a = run_answered commands.Hops 1 files hops text first (omega arith) ran in
    let r = rows_of_file files (file_at hops 0) (λ rows. Ends (hop_runs.SolvesHops hops rows)) a.old a.new a.answer a.tells a.low a.of in
    let rows = r.0 in
    let solves : hop_runs.SolvesHops hops rows a.answer = ends_full (hop_runs.SolvesHops hops rows) (with_file a.old (file_at hops 0)) a.new a.answer a.low r.2 in
    let s = hops_done rows hops a.answer solves.0 a.low solves.1 solves.2 in
    let of_text : AreTextRows rows = solves.3 in
    let solved = (hop_made.done_is rows hops.net (hop_runs.asked_of hops) s.net s.proof s.done).2 in
    let judged = hop_laws.valid_of s.net (limits_of rows s.net) s.proof in
    let text_is : text ≡ hops_text (sheet_of rows s.net) s.proof = a.text_is ∙ ap (λ (x : Answer). x.text) s.same in
    let says : (answer : Answer) → hop_checks.OnHopTexts rows text answer → answer ≡ judged_answer judged = λ answer on.
    on.2 ∙ ap judged_answer ((law rows hops.net (hop_runs.asked_of hops) s.net s.proof on.0 of_text.well of_text.counted solved.sound s.done).0
    (subst (λ (t : List ℕ). hop_checks.IsHopsJudgement rows t on.0) text_is on.1)) in
    record {
      rows = rows;
      net_file = r.1;
      net = s.net;
      proof = s.proof;
      done = s.done;
      found = a.found ∙ ap (λ (x : Answer). x.found) s.same;
      told = told_as commands.CheckHops hop_checks.OnHopTexts judged files again hops check text before after second rows r.1 says (λ old new answer of. of) run;
    }

-- ---- totals

record IsOfParts (rows : NetRows) (request : Request) (answer : Answer) : Type 0 where
  pub net : ScaledNet
  pub proof : PartProof
  pub done : part_runs.IsPartSolving rows request.net (part_runs.asked_of request) (part_solvings.Done net proof)
  pub same : answer ≡ part_runs.part_answer rows net proof

parts_done : (rows : NetRows) (request : Request) (answer : Answer) (solving : PartSolving) → answer.status ≤ 1 → part_runs.IsPartSolving rows request.net (part_runs.asked_of request) solving
    → answer ≡ part_runs.solving_answer rows solving → IsOfParts rows request answer
parts_done rows request answer (part_solvings.Refused r) full is same = absurd (not_full answer (outcomes.NetRefused r) same full (omega arith))
parts_done rows request answer (part_solvings.TooMuch n) full is same = absurd (not_full answer (outcomes.TooMuch n) same full (omega arith))
parts_done rows request answer (part_solvings.Done net proof) full is same = record { net = net; proof = proof; done = is; same = same }

pub parts_check : part_laws.SolvedPartsCheck → ThroughputRunsCheck
parts_check law files again throughput check text first second before after ran run =
    let a = run_answered commands.Throughput 1 files throughput text first (omega arith) ran in
    let r = rows_of_file files (file_at throughput 0) (λ rows. Ends (part_runs.SolvesParts throughput rows)) a.old a.new a.answer a.tells a.low a.of in
    let rows = r.0 in
    let solves : part_runs.SolvesParts throughput rows a.answer = ends_full (part_runs.SolvesParts throughput rows) (with_file a.old (file_at throughput 0)) a.new a.answer a.low r.2 in
    let s = parts_done rows throughput a.answer solves.0 a.low solves.1 solves.2 in
    let of_text : AreTextRows rows = solves.3 in
    let solved = (part_made.done_is rows throughput.net (part_runs.asked_of throughput) s.net s.proof s.done).1 in
    let judged = part_laws.valid_of s.net s.proof in
    let text_is : text ≡ part_text (sheet_of rows s.net) s.proof = a.text_is ∙ ap (λ (x : Answer). x.text) s.same in
    let says : (answer : Answer) → part_checks.OnPartTexts rows text answer → answer ≡ judged_answer judged = λ answer on.
    on.2 ∙ ap judged_answer ((law rows throughput.net (part_runs.asked_of throughput) s.net s.proof on.0 of_text.well of_text.counted solved.sound s.done).0
    (subst (λ (t : List ℕ). part_checks.IsPartJudgement rows t on.0) text_is on.1)) in
    record {
      rows = rows;
      net_file = r.1;
      net = s.net;
      proof = s.proof;
      done = s.done;
      found = a.found ∙ ap (λ (x : Answer). x.found) s.same;
      told = told_as commands.CheckThroughput part_checks.OnPartTexts judged files again throughput check text before after second rows r.1 says (λ old new answer of. of) run;
    }
