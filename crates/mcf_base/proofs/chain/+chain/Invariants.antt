use Rattle.std.proofs.Common.{length, ◌+◌, ◌*◌}
use Rattle.mcf_base.proofs.chain.+chain.Given as goal

abbrev pub decreases-chain : goal.decreases-chain
decreases-chain g l = 3 * length l.items.now

abbrev pub decreases-first_and_rest : goal.decreases-first_and_rest
decreases-first_and_rest g l = 3 * length l.rest.now + 2

abbrev pub decreases-first_and_rest-in_this_one : goal.decreases-first_and_rest-in_this_one
decreases-first_and_rest-in_this_one g l = 3 * length l.rest.now + 1
