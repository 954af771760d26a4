use Rattle.cli_laws.proofs.Checking.{upgrade_keeps}
use Rattle.cli_laws.proofs.laws.upgraded_runs_keep_their_certificate.Goals as goal

pub returns : goal.returns
returns c = λ files upgrade text ended run. upgrade_keeps c.networks_are_citable.ensures.both c.texts_read_exactly.ensures files upgrade text ended run
