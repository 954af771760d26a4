-- The network of each matrix: the network's rows with the matrix's demands in place of their own.
use Rattle.std.specs.Prelude.{ℕ, List, map}
use Rattle.unit_scale.specs.declared.options.NetOptions.{NetOptions}
use Rattle.sndlib_grammar.specs.Rows.{NetDemand, NetRows, names_of_nodes, net_demand}
use Rattle.unit_scale.specs.Sizes.{decimals_of, sizes}
use Rattle.unit_scale.specs.Scaling.{ScaledNet, scaled_with}
use Rattle.matrix_batch.specs.Grammar.{MatrixEntry}

-- the rows with these demands; links, skipped sections and the end stay
abbrev pub with_demands : NetRows → List NetDemand → NetRows
with_demands rows demands = record rows { demands = demands }

-- the rows of the matrix's network
abbrev pub rows_of : NetRows → MatrixEntry → NetRows
rows_of rows m = with_demands rows (map (net_demand (names_of_nodes rows)) m.demands)

-- a name, the rows of the network, and the network in units
pub record Matrix : Type 0 where
  pub name : List ℕ
  pub rows : NetRows
  pub net : ScaledNet

-- the decimals of rows
abbrev pub decimals_for : NetOptions → NetRows → ℕ
decimals_for o rows = decimals_of (sizes o.modules rows)

-- each matrix's network has its own decimals
abbrev pub matrix_of : NetRows → NetOptions → MatrixEntry → Matrix
matrix_of rows o m = record {
  name = m.name.text;
  rows = rows_of rows m;
  net = scaled_with o (decimals_for o (rows_of rows m)) (rows_of rows m);
}
