use denote.Param.Send.{sendable}
use Rattle.phase_engine.proofs.Sent.{hand-send}
use Rattle.phase_engine.proofs.turns.run_all.Goals as goal

pub for_each_chunk_mut-requires-send-T : goal.for_each_chunk_mut-requires-send-T
for_each_chunk_mut-requires-send-T g c κs within = search (sendable, hand-send)
