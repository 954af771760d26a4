-- What a solve makes of the rows of a network.
use Rattle.std.specs.Prelude.{◌≡◌, ℕ, ◌≤◌, Ok, Err}
use Rattle.unit_scale.specs.declared.options.NetOptions.{NetOptions}
use Rattle.sndlib_grammar.specs.Rows.{NetRows}
use Rattle.unit_scale.specs.Scaling.{ScaledNet, scaled_of}
use Rattle.unit_scale.specs.ScaledFacts.{IsScaledNet}
use Rattle.flow_model.specs.Network.{IsNetwork}
use Rattle.cert_lines.specs.Sheet.{IsOf}
use Rattle.cert_lines.specs.declared.net_line.TheConstants.{MAX_COUNT}
use Rattle.solver_run.specs.History.{SolvedView}
use Rattle.solver_run.specs.Options.{AreOptions}
use Rattle.solver_run.specs.Headline.{IsSolved}
use Rattle.net_solve.specs.declared.asked.Asked.{Asked}
use Rattle.net_solve.specs.Asked.{options_for, IsTooMuch}
use Rattle.net_solve.specs.declared.solving.Solving.{Solving}
use Rattle.net_solve.specs.declared.solving.Solving.TheVariants.{Refused, TooMuch, Done}

-- the rows stand for this network in units, whose names can be told apart, the work is within its limit, and this is a solve of
-- the network under the asked options
pub record IsDone (rows : NetRows) (o : NetOptions) (asked : Asked) (net : ScaledNet) (s : SolvedView) : Type 0 where
  pub network : scaled_of rows o ≡ Ok net
  pub named : IsOf rows net
  pub sound : IsNetwork net.net
  pub facts : IsScaledNet net
  pub counted : rows.skipped ≤ MAX_COUNT
  pub work : (n : ℕ) → ¬ (IsTooMuch net.net asked n)
  pub options : AreOptions net.net (options_for net.net asked)
  pub solved : IsSolved net.net (options_for net.net asked) s

-- the first refusal of the rows, or work over its limit, or a solve of the network
abbrev pub IsSolving : NetRows → NetOptions → Asked → Solving → Type 0
IsSolving rows o asked (Refused r) = scaled_of rows o ≡ Err r
IsSolving rows o asked (TooMuch n) = (net : ScaledNet) × (scaled_of rows o ≡ Ok net) × IsTooMuch net.net asked n
IsSolving rows o asked (Done net s) = IsDone rows o asked net s
