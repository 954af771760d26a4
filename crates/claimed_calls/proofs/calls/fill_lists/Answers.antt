use Rattle.std.proofs.Common.{subst}
use Rattle.claimed_calls.specs.Answers.{AreClaimed}
use Rattle.claimed_calls.proofs.calls.fill_lists.Goals as goal

pub returns : goal.returns
returns g c k d lt =
    let at = (c.for_each_chunk_mut.ensures.by_index k d lt).1 in
    subst (λ entries. AreClaimed g.F.Fn c.args.work.now entries.items) at.new_element (at.call at.offset d at.offset_in_chunk)
