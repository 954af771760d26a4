-- A certificate that a run of `solve` or `upgrade` wrote, as the second file of a run of `check`.
use Rattle.std.specs.Prelude.{◌≡◌, ◌⊎◌, ℕ, ◌≤◌, List, [], length, Some, Ok}
use Rattle.mcf_limits.specs.declared.TheConstants.{MAX_CERT_BYTES}
use Rattle.mcf_base.specs.Shelf.{Holding, ShelfView}
use Rattle.mcf_base.specs.Reading.{IsText}
use Rattle.mcf_base.specs.Sink.{SinkView}
use Rattle.flow_paths.specs.declared.certificate.Proof.{Proof}
use Rattle.flow_paths.specs.Certificate.{IsValid}
use Rattle.sndlib_grammar.specs.Rows.{NetRows}
use Rattle.unit_scale.specs.Scaling.{ScaledNet, scaled_of}
use Rattle.solver_run.specs.History.{SolvedView}
use Rattle.cert_lines.specs.declared.form.Form.{Form}
use Rattle.cert_lines.specs.declared.form.Form.TheVariants.{Second}
use Rattle.cert_lines.specs.Sheet.{sheet_of, sheets_of}
use Rattle.cert_text.specs.declared.papers.Paper.TheVariants.{Full}
use Rattle.cert_writer.specs.Text.{certificate_text}
use Rattle.cert_inverse.specs.Inverse.{IsPaperText}
use Rattle.cert_judge.specs.declared.judged.Judged.{Judged}
use Rattle.cert_inverse.specs.Judging.{valid_of}
use Rattle.net_solve.specs.Solving.{IsDone}
use Rattle.mcf_words.specs.declared.request.Command.{Command}
use Rattle.mcf_words.specs.declared.request.Command.TheVariants.{Solve, Check, Upgrade}
use Rattle.mcf_words.specs.declared.request.Request.{Request}
use Rattle.mcf_words.specs.Request.{request_of}
use Rattle.base_cmd.specs.declared.ended.Ended.{Ended}
use Rattle.base_cmd.specs.declared.outcome.Outcome.TheVariants.{Memory}
use Rattle.base_cmd.specs.Found.{found_solve}
use Rattle.base_cmd.specs.Answer.{IsGiven, answer_of, judged_answer}
use Rattle.solve_cmd.specs.Solve.{asked_of}
use Rattle.mcf_cli.specs.Run.{file_at, RunEnds}
use Rattle.cli_laws.specs.Accepted.{IsNetFile}
use Rattle.cli_laws.specs.Whole.{HasNoFault}

-- a run of the command over these files that ended with at most this status, and wrote this text and nothing else
pub record IsRunOf (command : Command) (most : ℕ) (files : Holding) (request : Request) (text : List ℕ) (ended : Ended) : Type 0 where
  pub words : List (List ℕ)
  pub asked : request_of words ≡ Some request
  pub is : request.command ≡ command
  pub old : ShelfView
  pub new : ShelfView
  pub before : SinkView
  pub after : SinkView
  pub tells : old.holds ≡ Some files
  pub runs : RunEnds words old new before after ended
  pub full : ended.status ≤ most
  pub empty : before.written ≡ Some []
  pub wrote : after.written ≡ Some text

-- a run of `solve` that ended with status 0 or 1
abbrev pub IsSolvedRun : Holding → Request → List ℕ → Ended → Type 0
IsSolvedRun files request text ended = IsRunOf Solve 1 files request text ended

-- a run of `upgrade` that ended with status 0
abbrev pub IsUpgradedRun : Holding → Request → List ℕ → Ended → Type 0
IsUpgradedRun files request text ended = IsRunOf Upgrade 0 files request text ended

-- A run of a command that judges certificates, on that network and that text, which is within the limit of certificate texts;
-- nothing failed in it.
pub record IsJudgedRun (command : Command) (files again : Holding) (first request : Request) (text : List ℕ) (before after : SinkView) (ended : Ended) : Type 0 where
  pub words : List (List ℕ)
  pub asked : request_of words ≡ Some request
  pub is : request.command ≡ command
  pub old : ShelfView
  pub new : ShelfView
  pub tells : old.holds ≡ Some again
  pub network : again (file_at request 0) ≡ files (file_at first 0)
  pub certificate : again (file_at request 1) ≡ Some text
  pub short : length text ≤ MAX_CERT_BYTES
  pub runs : RunEnds words old new before after ended
  pub calm : HasNoFault old new before after

-- a run of `check` on that network and that text
abbrev pub IsCheckedRun : Holding → Holding → Request → Request → List ℕ → SinkView → SinkView → Ended → Type 0
IsCheckedRun files again first request text before after ended = IsJudgedRun Check files again first request text before after ended

-- the line that says this was written; or memory was wanting
abbrev pub IsToldAs : Judged → SinkView → SinkView → Ended → Type 0
IsToldAs judged before after ended =
    IsGiven before after ended (judged_answer judged) ⊎ IsGiven before after ended (answer_of Memory)

-- the line of this certificate was written: `valid`, with its modes, verdict and fractions, and status 0; or memory was wanting
abbrev pub IsToldValid : ScaledNet → Proof → SinkView → SinkView → Ended → Type 0
IsToldValid net proof before after ended = IsToldAs (valid_of net proof) before after ended

-- The rows of the first run's network, and the solve of them, under the options of its words, that it handed out. The second
-- run tells its certificate as valid.
pub record ChecksAs (files : Holding) (solve : Request) (first : Ended) (before after : SinkView) (second : Ended) : Type 0 where
  pub rows : NetRows
  pub net_file : IsNetFile files (file_at solve 0) rows
  pub net : ScaledNet
  pub solved : SolvedView
  pub done : IsDone rows solve.net (asked_of solve) net solved
  pub found : first.found ≡ found_solve solved
  pub told : IsToldValid net solved.proof before after second

-- whatever a run of `solve` wrote, `check` calls valid
abbrev pub SolvedRunsCheck : Type 0
SolvedRunsCheck =
    (files again : Holding) (solve check : Request) (text : List ℕ) (first second : Ended) (before after : SinkView)
    → IsSolvedRun files solve text first → IsCheckedRun files again solve check text before after second → ChecksAs files solve first before after second

-- What a run of `upgrade` read and wrote: the rows of its network, and the valid certificate of their network in whole units of
-- which its second file is the text, in one of the two forms. It wrote the text of this certificate in form 2, so a text of
-- form 2 stays as it was.
pub record Upgrades (files : Holding) (request : Request) (text : List ℕ) : Type 0 where
  pub rows : NetRows
  pub net_file : IsNetFile files (file_at request 0) rows
  pub net : ScaledNet
  pub scaled : scaled_of rows net.options ≡ Ok net
  pub proof : Proof
  pub valid : IsValid net.net proof
  pub cert : List ℕ
  pub given : IsText MAX_CERT_BYTES (Some files) (file_at request 1) cert
  pub form : Form
  pub was : IsPaperText (sheets_of rows net) form cert (Full proof)
  pub is : text ≡ certificate_text (sheet_of rows net) proof
  pub again : form ≡ Second → text ≡ cert

-- a run of `upgrade` that ended with status 0 has written the certificate that it read
abbrev pub UpgradedRunsKeep : Type 0
UpgradedRunsKeep = (files : Holding) (upgrade : Request) (text : List ℕ) (ended : Ended) → IsUpgradedRun files upgrade text ended → Upgrades files upgrade text

-- what the first run read and wrote; the second run tells the same certificate as valid
pub record ChecksAlike (files : Holding) (upgrade : Request) (text : List ℕ) (before after : SinkView) (second : Ended) : Type 0 where
  pub first : Upgrades files upgrade text
  pub told : IsToldValid first.net first.proof before after second

-- whatever a run of `upgrade` wrote, `check` calls valid, with the fractions of the certificate that was read
abbrev pub UpgradedRunsCheck : Type 0
UpgradedRunsCheck =
    (files again : Holding) (upgrade check : Request) (text : List ℕ) (first second : Ended) (before after : SinkView)
    → IsUpgradedRun files upgrade text first → IsCheckedRun files again upgrade check text before after second → ChecksAlike files upgrade text before after second
