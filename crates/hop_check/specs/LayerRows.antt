-- Layers of numbers of nodes, in rows.
use Rattle.std.specs.Prelude.{ℕ, List, [], slice_index_or}

-- a row of a source's layer of that index: one number for each node
pub record Layer : Type 0 where
  pub node : ℕ
  pub index : ℕ
  pub values : List ℕ

abbrev pub no_layer : Layer
no_layer = record { node = 0; index = 0; values = [] }

-- the row of that number
abbrev pub layer_at : List Layer → ℕ → Layer
layer_at rows i = slice_index_or rows i no_layer
