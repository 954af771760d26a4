-- Three nodes, each joined to both others, and one demand.
use Rattle.std.specs.Prelude.{◌∷◌, [], true}
use Rattle.flow_model.specs.Network.{Network}

abbrev pub triangle : Network
triangle = record {
  nodes = 3;
  cells = record { tail = 0; head = 1; both = true; cap = 2 } ∷ record { tail = 0; head = 2; both = true; cap = 10 } ∷ record { tail = 2; head = 1; both = true; cap = 10 } ∷ [];
  commodities = record { from = 0; to = 1; amount = 2 } ∷ [];
}
