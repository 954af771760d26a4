use Rattle.std.proofs.Common.{All}
use Rattle.hop_check.specs.Conditions.{IsLayerOf}
use Rattle.kind_tests.specs.Triangle.{triangle}
use Rattle.kind_tests.proofs.triangle.layers_of.Given as goal

abbrev pub invariant-loop : goal.invariant-loop
invariant-loop l = All (IsLayerOf triangle) l.layers
