use Rattle.std.proofs.Common.{◌≤◌, length}
use Rattle.fixed_exp.specs.Changes.{AreBelow, AreSameBut}
use Rattle.fixed_exp.proofs.changes.changed_places.Given as goal

abbrev pub invariant-loop-i : goal.invariant-loop-i
invariant-loop-i l = record {
  few : l.count ≤ l.i;
  below : AreBelow (length l.loads) l.count l.places;
  same : AreSameBut l.count l.places l.i l.old l.loads;
}
