use Rattle.std.proofs.Common.{◌≡◌, true}
use Rattle.claimed_calls.proofs.post.End.wait_back.Given as goal

abbrev pub invariant-looks : goal.invariant-looks
invariant-looks g l = record {
  me : l.self.seat.me ≡ l.fn.self.seat.me;
  out : l.self.out ≡ true;
}
