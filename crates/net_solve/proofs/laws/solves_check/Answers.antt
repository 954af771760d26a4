use Rattle.net_solve.specs.Asked.{options_for}
use Rattle.net_solve.proofs.laws.solves_check.Goals as goal

pub returns-clause-valid : goal.returns-clause-valid
returns-clause-valid c = λ rows o asked net s d.
    c.solved_is_judged_valid.ensures.valid rows net (options_for net.net asked) s d.named d.counted d.facts d.sound d.solved

pub returns-clause-alone : goal.returns-clause-alone
returns-clause-alone c = λ rows o asked net s judged d j.
    c.solved_is_judged_valid.ensures.alone rows net (options_for net.net asked) s judged d.named d.counted d.facts d.sound d.solved j
