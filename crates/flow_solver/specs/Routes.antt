-- What the hands have routed, commodity by commodity.
use Rattle.std.specs.Prelude.{◌≡◌, ◌↔◌, ℕ, List, length, Some, slice_get}
use Rattle.flow_model.specs.Network.{Network}
use Rattle.flow_core.specs.Phase.{Routed}
use Rattle.phase_engine.specs.declared.hand.Hand.{Hand}
use Rattle.phase_engine.specs.Routing.{HasRouted}

-- the hands have routed each commodity once, and these are the routes
pub record IsRoutedOnce (net : Network) (hands : List Hand) (entries : List Routed) : Type 0 where
  pub count : length entries ≡ length net.commodities
  pub routes : (k w : ℕ) (path : List ℕ) → (slice_get entries k ≡ Some (record { worker = w; path = path })) ↔ HasRouted hands w k path

-- the hands have routed each commodity once
abbrev pub HaveRouted : Network → List Hand → Type 0
HaveRouted net hands = (entries : List Routed) × IsRoutedOnce net hands entries
