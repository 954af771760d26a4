use Rattle.std.proofs.Common.{◌≡◌, take, All}
use Rattle.whatif.specs.Ratios.{IsRatio, ratios}
use Rattle.whatif.proofs.plan.ratios_of.Given as goal

abbrev pub invariant-loop-c : goal.invariant-loop-c
invariant-loop-c l = record {
  value : l.list.items ≡ ratios 0 (take l.c l.cells) l.loads;
  all : All IsRatio l.list.items;
}
