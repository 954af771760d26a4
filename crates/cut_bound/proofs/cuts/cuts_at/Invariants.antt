use Rattle.std.proofs.Common.{◌≡◌, ℕ, ◌+◌, ◌<◌, length, get_or}
use Rattle.cut_bound.specs.declared.choice.SummedCut.{SummedCut}
use Rattle.cut_bound.specs.Search.{front_cut}
use Rattle.cut_bound.proofs.cuts.cuts_at.Given as goal

abbrev pub invariant-loop-i : goal.invariant-loop-i
invariant-loop-i l = record {
  len : length l.cuts.items ≡ l.i;
  each : (k : ℕ) (d : SummedCut) → k < l.i → get_or l.cuts.items k d ≡ front_cut l.row (get_or l.levels k 0) (get_or l.leaving (k + 1) 0) (get_or l.crossing (k + 1) 0);
}
