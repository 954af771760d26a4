-- The room of a worker.
use Rattle.std.specs.Prelude.{◌≡◌, length}
use Rattle.flow_model.specs.Network.{Network}
use Rattle.phase_engine.specs.declared.room.Room.{Room}

-- a load for each cell of the network, and its lengths
abbrev pub IsRoomOf : Network → Room → Type 0
IsRoomOf net r = (length r.loads.items ≡ length net.cells) × (r.lengths.net ≡ net)
