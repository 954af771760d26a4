use Rattle.std.proofs.Common.{◌≤◌, get_or, arith}
use Rattle.std.proofs.lemmas.Nat.{mul-le}
use Rattle.flow_model.proofs.Duality.{no_cell}
use Rattle.flow_paths.proofs.Products.{weighted_sum-more}
use Rattle.flow_paths.proofs.value.volume.Goals as goal
use Rattle.mcf_limits.specs.declared.TheConstants.{MAX_LENGTH, MAX_UNITS}

pub loop-c-preserved : goal.loop-c-preserved
loop-c-preserved c =
    let cells = c.args.cells.now in
    let lengths = c.args.lengths.now in
    let i = c.loop-c.c in
    let cap : (get_or cells i no_cell).cap ≤ MAX_UNITS = c.requires.caps i no_cell c.loop-c-test.true in
    let size : get_or lengths i 0 ≤ MAX_LENGTH = c.requires.size_limit i 0 (omega arith) in
    let product = mul-le (get_or cells i no_cell).cap (get_or lengths i 0) MAX_UNITS MAX_LENGTH cap size in
    let more = weighted_sum-more (λ k. k.cap) no_cell cells lengths i c.loop-c-test.true (omega arith) in
    record {
      value = omega arith;
      bound = omega arith;
    }
