-- What holds of every scaled network.
use Rattle.std.specs.Prelude.{◌≡◌, ℕ, ◌<◌, ◌≤◌, List, length, slice_index}
use Rattle.mcf_limits.specs.declared.TheConstants.{MAX_DECIMALS, MAX_DEMANDS}
use Rattle.unit_scale.specs.Scaling.{ScaledNet}

-- numbers of demands, each greater than the one before it
pub record AreKeptRows (rows : List ℕ) : Type 0 where
  pub count : length rows ≤ MAX_DEMANDS
  pub rise : (i j : ℕ) → i < j → j < length rows → slice_index rows i < slice_index rows j

-- each commodity is one of the demands that are kept, in their order
pub record IsScaledNet (scaled : ScaledNet) : Type 0 where
  pub decimals : scaled.decimals ≤ MAX_DECIMALS
  pub count : length scaled.kept ≡ length scaled.net.commodities
  pub rows : AreKeptRows scaled.kept
