-- One link from A to B, with one demand.
use Rattle.std.specs.Prelude.{ℕ, ◌<◌, ◌≤◌, ◌∷◌, [], Bool}
use Rattle.flow_model.specs.Network.{Network}
use Rattle.mcf_limits.specs.declared.TheConstants.{MAX_GAP, MAX_LENGTH, MAX_PHASES, MAX_UNITS}
use Rattle.cert_tests.specs.declared.small.Case.{Case}

abbrev pub small : ℕ → Bool → ℕ → Network
small cap both amount = record {
  nodes = 2;
  cells = record { tail = 0; head = 1; both = both; cap = cap } ∷ [];
  commodities = record { from = 0; to = 1; amount = amount } ∷ [];
}

-- the case's network
abbrev pub network_of : Case → Network
network_of case = small case.cap case.both case.amount

-- the numbers are within the limits of a network and of a certificate
pub record IsCase (case : Case) : Type 0 where
  pub cap : case.cap ≤ MAX_UNITS
  pub positive : 1 ≤ case.amount
  pub amount : case.amount ≤ MAX_UNITS
  pub weight : case.weight ≤ MAX_LENGTH
  pub phases : case.phases ≤ MAX_PHASES
  pub scale_cap : case.scale_cap ≤ MAX_UNITS
  pub scale_load : case.scale_load ≤ MAX_LENGTH
  pub length : case.size ≤ MAX_LENGTH
  pub near : case.near ≤ MAX_LENGTH
  pub far : case.far ≤ MAX_LENGTH
  pub gap : case.gap ≤ MAX_GAP
  pub lower : case.lower.micro < 1000000
  pub upper : case.upper.micro < 1000000
