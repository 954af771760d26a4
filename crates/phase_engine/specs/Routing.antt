-- What a phase has made of the loads.
use Rattle.std.specs.Prelude.{◌≡◌, ◌↔◌, ℕ, ◌+◌, ◌<◌, List, Contains, Some, length, slice_get, slice_index}
use Rattle.std.specs.List.{sum_by}
use Rattle.flow_model.specs.declared.setting.Setting.{Setting}
use Rattle.flow_model.specs.Network.{Network}
use Rattle.flow_model.specs.Routing.{load_of}
use Rattle.flow_core.specs.Phase.{Routed, IsPhase, amounts_along}
use Rattle.phase_engine.specs.declared.hand.Hand.{Hand}

-- hand w has routed the commodity along the path
abbrev pub HasRouted : List Hand → ℕ → ℕ → List ℕ → Type 0
HasRouted hands w k path = (h : Hand) × (slice_get hands w ≡ Some h) × Contains h.routes (record { commodity = k; path = path })

-- the routes of the hands are a phase from the base to the loads: each commodity has one worker and one path and stands once
-- among all routes, and the loads have grown by the amounts along these paths
pub record IsRoutedPhase (net : Network) (setting : Setting) (base loads : List ℕ) (hands : List Hand) : Type 0 where
  pub entries : List Routed
  pub count : length entries ≡ length net.commodities
  pub phase : IsPhase net setting base loads entries
  pub routes : (k w : ℕ) (path : List ℕ) → (slice_get entries k ≡ Some (record { worker = w; path = path })) ↔ HasRouted hands w k path
  pub once : sum_by (λ (h : Hand). length h.routes) hands ≡ length net.commodities
  pub sums : (c : ℕ) → c < length net.cells → slice_index loads c ≡ slice_index base c + load_of (amounts_along 0 net.commodities entries) c
