-- The certificates that a run of `batch` wrote, each as the second file of a run of `check`.
use Rattle.std.specs.Prelude.{◌≡◌, ℕ, List, Ok}
use Rattle.std.specs.List.{AllByRecursion, AllZip}
use Rattle.mcf_base.specs.Shelf.{Holding}
use Rattle.mcf_base.specs.Sink.{SinkView}
use Rattle.sndlib_grammar.specs.Rows.{NetRows}
use Rattle.sndlib_grammar.specs.Net.{rows_of}
use Rattle.sndlib_grammar.specs.Canonical.{canonical_text, without_lines}
use Rattle.solver_run.specs.History.{SolvedView}
use Rattle.cert_lines.specs.Sheet.{sheet_of}
use Rattle.cert_writer.specs.Text.{certificate_text}
use Rattle.matrix_batch.specs.Matrices.{Matrix}
use Rattle.mcf_words.specs.declared.request.Command.TheVariants.{Batch}
use Rattle.mcf_words.specs.declared.request.Request.{Request}
use Rattle.base_cmd.specs.declared.ended.Ended.{Ended}
use Rattle.batch_cmd.specs.Batch.{AreBatchSolves, batch_asked_of}
use Rattle.batch_cmd.specs.Solves.{solved_status, solved_text}
use Rattle.mcf_cli.specs.Run.{file_at}
use Rattle.cli_laws.specs.Accepted.{IsListFile, IsNetFile}
use Rattle.cli_laws.specs.Checked.{IsCheckedRun, IsRunOf, IsToldValid}

-- the same rows, in whatever lines they stand, and as many skipped sections
pub record AreAlike (rows other : NetRows) : Type 0 where
  pub same : without_lines rows ≡ without_lines other
  pub skipped : rows.skipped ≡ other.skipped

-- the text is a network text with such rows
pub record IsTextOfRows (rows : NetRows) (text : List ℕ) : Type 0 where
  pub found : NetRows
  pub read : rows_of text ≡ Ok found
  pub alike : AreAlike found rows

-- a run of `check` on a network file with such rows, and on this text
pub record IsCheckedOn (again : Holding) (check : Request) (rows : NetRows) (text : List ℕ) (before after : SinkView) (ended : Ended) : Type 0 where
  pub found : NetRows
  pub net_file : IsNetFile again (file_at check 0) found
  pub alike : AreAlike found rows
  pub run : IsCheckedRun again again check check text before after ended

-- the text of the certificate that was solved for a matrix
abbrev pub text_for : Matrix → SolvedView → List ℕ
text_for m s = certificate_text (sheet_of m.rows m.net) s.proof

-- each run of `check` on the matrix's rows, which are the network's with its own demands, and on the text of its certificate tells
-- this certificate as valid
abbrev pub ChecksMatrix : Matrix → SolvedView → Type 0
ChecksMatrix m s =
    (again : Holding) (check : Request) (before after : SinkView) (ended : Ended)
    → IsCheckedOn again check m.rows (text_for m s) before after ended → IsToldValid m.net s.proof before after ended

-- What a run of `batch` read and wrote: the rows of its network, and the matrices of its list on these rows. It wrote, for each
-- matrix in order, its line and the text of the certificate of a solve of its network, with status 0 where each is closed and 1
-- where some is open. Each of these texts checks with each network text of the matrix's rows. Such a text is their canonical one,
-- where the network skips no section.
pub record Batches (files : Holding) (request : Request) (text : List ℕ) (ended : Ended) : Type 0 where
  pub rows : NetRows
  pub net_file : IsNetFile files (file_at request 0) rows
  pub list_file : IsListFile files (file_at request 1) rows request
  pub many : List SolvedView
  pub solves : AreBatchSolves request.net (batch_asked_of request) list_file.batch many
  pub is : text ≡ solved_text list_file.batch many
  pub status : ended.status ≡ solved_status many
  pub checks : AllZip ChecksMatrix list_file.batch many
  pub printed : rows.skipped ≡ 0 → AllByRecursion (λ (m : Matrix). IsTextOfRows m.rows (canonical_text m.rows)) list_file.batch

-- whatever certificate a run of `batch` wrote for a matrix, `check` calls valid on the network with that matrix's demands
abbrev pub BatchRunsCheck : Type 0
BatchRunsCheck = (files : Holding) (batch : Request) (text : List ℕ) (ended : Ended) → IsRunOf Batch 1 files batch text ended → Batches files batch text ended
