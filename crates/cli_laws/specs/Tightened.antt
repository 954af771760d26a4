-- What a run of `tighten` wrote.
use Rattle.std.specs.Prelude.{◌≡◌, ◌⊎◌, ℕ, List, [], ◌∷◌, All, Option, Some, None, if◌then◌else◌}
use Rattle.mcf_base.specs.Shelf.{Holding}
use Rattle.mcf_base.specs.Sink.{SinkView}
use Rattle.flow_paths.specs.declared.certificate.Proof.{Proof}
use Rattle.flow_paths.specs.Certificate.{IsValid}
use Rattle.cert_check.specs.declared.verdict.Fault.{Fault}
use Rattle.cert_check.specs.Verdict.{IsFirstFault}
use Rattle.sndlib_grammar.specs.Rows.{NetRows}
use Rattle.unit_scale.specs.Scaling.{ScaledNet}
use Rattle.cut_bound.specs.Laws.{IsNoWorse}
use Rattle.cert_lines.specs.Sheet.{sheet_of}
use Rattle.cert_text.specs.declared.papers.Paper.TheVariants.{Full}
use Rattle.cert_writer.specs.Text.{certificate_text}
use Rattle.cert_judge.specs.declared.judged.Judged.TheVariants.{Invalid}
use Rattle.cert_judge.specs.Certified.{IsCertificate}
use Rattle.mcf_words.specs.declared.request.Command.TheVariants.{Tighten}
use Rattle.mcf_words.specs.declared.request.Request.{Request}
use Rattle.base_cmd.specs.declared.ended.Ended.{Ended}
use Rattle.base_cmd.specs.declared.outcome.Outcome.TheVariants.{Judged, SecondInvalid}
use Rattle.base_cmd.specs.Answer.{answer_of}
use Rattle.cert_cmd.specs.Tighten.{IsBestOf}
use Rattle.mcf_cli.specs.Run.{file_at, file_if}
use Rattle.cli_laws.specs.Accepted.{IsNetFile, IsPaperFile}
use Rattle.cli_laws.specs.Checked.{IsCheckedRun, IsRunOf, IsToldValid}

-- a run of `tighten` that ended with status 0 or 1
abbrev pub IsTightenedRun : Holding → Request → List ℕ → Ended → Type 0
IsTightenedRun files request text ended = IsRunOf Tighten 1 files request text ended

-- what was told is the first condition that the first certificate fails
pub record TellsFirst (files : Holding) (request : Request) (text : List ℕ) : Type 0 where
  pub rows : NetRows
  pub net_file : IsNetFile files (file_at request 0) rows
  pub net : ScaledNet
  pub proof : Proof
  pub cert_file : IsPaperFile files (file_at request 1) rows net (Full proof)
  pub fault : Fault
  pub fails : IsFirstFault net.net proof fault
  pub is : text ≡ (answer_of (Judged (Invalid fault))).text

-- or that the second one fails, behind a valid first one
pub record TellsSecond (files : Holding) (request : Request) (text : List ℕ) : Type 0 where
  pub rows : NetRows
  pub net_file : IsNetFile files (file_at request 0) rows
  pub net : ScaledNet
  pub first : Proof
  pub cert_file : IsPaperFile files (file_at request 1) rows net (Full first)
  pub valid : IsValid net.net first
  pub name : List ℕ
  pub named : file_if request 2 ≡ Some name
  pub second : Proof
  pub second_file : IsPaperFile files name rows net (Full second)
  pub fault : Fault
  pub fails : IsFirstFault net.net second fault
  pub is : text ≡ (answer_of (SecondInvalid fault)).text

abbrev pub TellsFault : Holding → Request → List ℕ → Type 0
TellsFault files request text = TellsFirst files request text ⊎ TellsSecond files request text

-- the certificates beside the first: none where no second file is named, else the one of that file, for the same network in
-- units
abbrev pub AreOthers : Holding → Option (List ℕ) → NetRows → ScaledNet → List Proof → Type 0
AreOthers files None rows net others = others ≡ []
AreOthers files (Some name) rows net others =
    (second : Proof) × IsPaperFile files name rows net (Full second) × (others ≡ second ∷ [])

-- What a run of `tighten` read and wrote: the rows of its network, and the valid certificates of their network in whole
-- units of which its other files are the texts. It wrote the text, in form 2, of the best certificate that they give,
-- which is valid and no worse than any of them, with status 0 where it is closed and 1 where it is open.
pub record Tightens (files : Holding) (request : Request) (text : List ℕ) (ended : Ended) : Type 0 where
  pub rows : NetRows
  pub net_file : IsNetFile files (file_at request 0) rows
  pub net : ScaledNet
  pub first : Proof
  pub cert_file : IsPaperFile files (file_at request 1) rows net (Full first)
  pub others : List Proof
  pub are_others : AreOthers files (file_if request 2) rows net others
  pub given : All (IsCertificate rows net) (first ∷ others)
  pub best : Proof
  pub is_best : IsBestOf net first others best
  pub certificate : IsCertificate rows net best
  pub no_worse : All (IsNoWorse net.net best) (first ∷ others)
  pub is : text ≡ certificate_text (sheet_of rows net) best
  pub status : ended.status ≡ (if best.closed then 0 else 1)

-- a run of `tighten` that ended with status 0 or 1 has told the first condition that a certificate fails, or has
-- written the best one
abbrev pub TightenedRunsAreBest : Type 0
TightenedRunsAreBest =
    (files : Holding) (tighten : Request) (text : List ℕ) (ended : Ended) → IsTightenedRun files tighten text ended
    → TellsFault files tighten text ⊎ Tightens files tighten text ended

-- what the first run read and wrote; the second run tells the best certificate as valid
pub record ChecksBest (files : Holding) (tighten : Request) (text : List ℕ) (first : Ended) (before after : SinkView) (second : Ended) : Type 0 where
  pub tightens : Tightens files tighten text first
  pub told : IsToldValid tightens.net tightens.best before after second

-- whatever certificate a run of `tighten` wrote, `check` calls valid
abbrev pub TightenedRunsCheck : Type 0
TightenedRunsCheck =
    (files again : Holding) (tighten check : Request) (text : List ℕ) (first second : Ended) (before after : SinkView)
    → IsTightenedRun files tighten text first → IsCheckedRun files again tighten check text before after second
    → TellsFault files tighten text ⊎ ChecksBest files tighten text first before after second

-- a run of `tighten` on that network and that text alone, which ended with status 0 or 1
pub record IsTightenedAgain (files again : Holding) (first second : Request) (text more : List ℕ) (ended : Ended) : Type 0 where
  pub run : IsTightenedRun again second more ended
  pub network : again (file_at second 0) ≡ files (file_at first 0)
  pub certificate : again (file_at second 1) ≡ Some text
  pub alone : file_if second 2 ≡ None

-- a certificate that a run of `tighten` wrote stays, byte for byte and with its status, when it is tightened again
abbrev pub TightenedRunsStay : Type 0
TightenedRunsStay =
    (files again : Holding) (tighten other : Request) (text more : List ℕ) (first second : Ended)
    → IsTightenedRun files tighten text first → IsTightenedAgain files again tighten other text more second
    → TellsFault files tighten text ⊎ ((more ≡ text) × (second.status ≡ first.status))
