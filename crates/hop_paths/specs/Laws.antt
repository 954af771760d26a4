-- What layers promise.
use Rattle.std.specs.Prelude.{ℕ, ◌+◌, ◌<◌, ◌≤◌, List, length, slice_index}
use Rattle.flow_model.specs.Network.{Network}
use Rattle.flow_model.specs.Walk.{IsWalk}
use Rattle.flow_model.specs.Bound.{walk_length}
use Rattle.hop_paths.specs.Layers.{IsLayers}

-- layers bound the length of every walk within their number
abbrev pub LayersBoundWalks : Type 0
LayersBoundWalks = (net : Network) (lengths : List ℕ) (p : ℕ → List ℕ) (m : ℕ) (u v : ℕ) (walk : List ℕ)
    → IsLayers net lengths p m → v < net.nodes → IsWalk net.cells u v walk → length walk ≤ m
    → slice_index (p m) v ≤ slice_index (p 0) u + walk_length lengths walk
