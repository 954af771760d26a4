-- A network under loads, and the lengths that stand ready for it.
use Rattle.std.specs.Prelude.{◌≡◌, ℕ, ◌<◌, ◌≤◌, List, All, length}
use Rattle.flow_model.specs.declared.setting.Setting.{Setting}
use Rattle.flow_model.specs.Network.{Network, IsNetwork}
use Rattle.flow_model.specs.Lengths.{AreLengths, IsSetting, greatest_exponent, least_capacity, lengths_of}
use Rattle.mcf_limits.specs.declared.TheConstants.{MAX_LENGTH}
use Rattle.fixed_exp.specs.Far.{EmptyAreFar}
use Rattle.fixed_exp.specs.Kept.{KeepsExponent, AreRates}
use Rattle.fixed_exp.specs.declared.rates.Rate.{Rate}

-- a network with a load for each cell, and the setting under which their lengths are taken
pub record LoadedNetwork : Type 0 where
  pub net : Network
  pub setting : Setting
  pub loads : List ℕ

-- the exponents, the greatest of them, the least capacity and the lengths are those of the loads, the rates are those of the
-- cells, and there is room for as many places as there are cells
pub record IsLengthTable (net : Network) (s : Setting) (loads kept ready : List ℕ) (greatest smallest : ℕ) (rates : List Rate) (places : ℕ) : Type 0 where
  pub fits : IsNetwork net
  pub setting : IsSetting s
  pub count : length loads ≡ length net.cells
  pub small : All (λ x. x ≤ MAX_LENGTH) loads
  pub least : smallest ≡ least_capacity net.cells
  pub top : greatest ≡ greatest_exponent s net.cells loads
  pub exponents : length kept ≡ length net.cells
  pub each : (k : ℕ) → k < length net.cells → KeepsExponent s net.cells loads kept k
  pub lengths : ready ≡ lengths_of net s loads
  pub long : AreLengths net.cells ready
  pub empty : EmptyAreFar net.cells ready
  pub rated : AreRates s net.cells smallest rates
  pub room : places ≡ length net.cells
