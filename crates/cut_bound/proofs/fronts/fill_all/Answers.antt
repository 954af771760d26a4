use Rattle.std.proofs.Common.{◌+◌, arith}
use Rattle.cut_bound.proofs.fronts.fill_all.Goals as goal

pub for_each_chunk_mut-requires-clause-accepts : goal.for_each_chunk_mut-requires-clause-accepts
for_each_chunk_mut-requires-clause-accepts g c κs within = λ start p chunk i lt. c.requires (start + i) (omega (arith, chunk.in_bounds))
