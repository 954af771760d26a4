use Rattle.std.proofs.Common.{ℕ, refl, subst}
use Rattle.flow_model.specs.Network.{Network, IsNetwork}
use Rattle.net_solve.specs.Asked.{IsTooMuch}
use Rattle.hops_cmd.proofs.Made.{is_solved}
use Rattle.hops_cmd.proofs.solving.solve_within.Goals as goal

pub returns : goal.returns
returns c =
    let within = subst (λ (n : Network). (work : ℕ) → ¬ (IsTooMuch n c.args.asked.now work)) c.net-2.ensures.value c.in-Ok.ensures.within in
    let sound = subst IsNetwork c.net-4.ensures.value c.nodes-nodes.ensures.net in
    let done = c.in_ok-h.ensures in (
      refl,
      within,
      is_solved c.args.net.net c.net-2.result.now c.net-3.result.now c.args.limits.now c.args.asked.now c.in-Ok.options c.in_ok-h.h c.net-2.ensures.value c.net-3.ensures.value
          c.in-Ok.ensures.options sound done.run done.valid done.certified done.fits,
    )
