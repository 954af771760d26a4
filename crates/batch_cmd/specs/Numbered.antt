-- The solve of a matrix and its text by its number, on the way to all of them.
use Rattle.std.specs.Prelude.{◌≡◌, ℕ, ◌<◌, List, length, Some, slice_get}
use Rattle.std.specs.Borrow.{Bor}
use Rattle.flow_model.specs.Network.{Network}
use Rattle.solver_run.specs.declared.options.SolveOptions.{SolveOptions}
use Rattle.solver_run.specs.History.{SolvedView}
use Rattle.solver_run.specs.Options.{AreOptions}
use Rattle.solver_run.specs.Headline.{IsSolved}
use Rattle.matrix_batch.specs.Matrices.{Matrix}
use Rattle.batch_cmd.specs.Solves.{matrix_text}

-- there is a network of that number, which can be solved
pub record IsSolvable (nets : List (Bor Network)) (o : SolveOptions) (i : ℕ) : Type 0 where
  pub few : i < length nets
  pub options : (net : Bor Network) → slice_get nets i ≡ Some net → AreOptions net.now o

-- a solve of the network of that number
pub record IsSolvedAt (nets : List (Bor Network)) (o : SolveOptions) (i : ℕ) (s : SolvedView) : Type 0 where
  pub value : (net : Bor Network) → slice_get nets i ≡ Some net → IsSolved net.now o s

-- the text of the matrix of that number and of its solve
pub record IsTextAt (batch : List Matrix) (many : List SolvedView) (i : ℕ) (text : List ℕ) : Type 0 where
  pub value : (m : Matrix) (s : SolvedView) → slice_get batch i ≡ Some m → slice_get many i ≡ Some s → text ≡ matrix_text m s
