-- Solves of each matrix of a batch, each with one worker, and what is written of them.
use Rattle.std.specs.Prelude.{ℕ, List, ◌∷◌, [], ◌++◌, map, zip, codes, if◌then◌else◌}
use Rattle.std.specs.Global.{Vec}
use Rattle.std.specs.List.{AllZip, flat_map, list_all}
use Rattle.text_lines.specs.Lines.{spelled}
use Rattle.matrix_batch.specs.Matrices.{Matrix}
use Rattle.matrix_batch.specs.Batch.{batch_text}
use Rattle.cert_lines.specs.Sheet.{IsOf, sheet_of}
use Rattle.cert_writer.specs.Text.{certificate_text}
use Rattle.solver_run.specs.declared.options.SolveOptions.{SolveOptions}
use Rattle.solver_run.specs.History.{SolvedView}
use Rattle.solver_run.specs.Headline.{IsSolved}

-- a solve of each matrix's network, in their order
abbrev pub AreSolved : SolveOptions → List Matrix → List SolvedView → Type 0
AreSolved o batch many = AllZip (λ (m : Matrix) (s : SolvedView). IsSolved m.net.net o s) batch many

-- a matrix's name, and the text of its certificate
abbrev pub certificate_of : Matrix × SolvedView → List ℕ × List ℕ
certificate_of p = (p.0.name, certificate_text (sheet_of p.0.rows p.0.net) p.1.proof)

-- the text of the whole batch
abbrev pub solved_text : List Matrix → List SolvedView → List ℕ
solved_text batch many = batch_text (map certificate_of (zip batch many))

-- texts, one behind the other
abbrev pub joined : List (Vec ℕ) → List ℕ
joined texts = flat_map (λ (t : Vec ℕ). t.items) texts

-- 0 where each solve is closed, 1 where some is open
abbrev pub solved_status : List SolvedView → ℕ
solved_status many = if list_all (λ (s : SolvedView). s.proof.closed) many then 0 else 1

-- the network is that of the rows, and this is a solve of it
pub record IsSolvedMatrix (m : Matrix) (s : SolvedView) : Type 0 where
  pub named : IsOf m.rows m.net
  pub options : SolveOptions
  pub solved : IsSolved m.net.net options s

-- the line with the name, and the certificate's text
abbrev pub matrix_text : Matrix → SolvedView → List ℕ
matrix_text m s = spelled (codes "matrix" ∷ m.name ∷ []) ++ certificate_text (sheet_of m.rows m.net) s.proof
