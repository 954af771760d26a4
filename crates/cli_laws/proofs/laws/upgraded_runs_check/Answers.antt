use Rattle.cli_laws.proofs.Checking.{upgrade_checks}
use Rattle.cli_laws.proofs.laws.upgraded_runs_check.Goals as goal

pub returns : goal.returns
returns c = λ files again upgrade check text first second before after upgraded checked.
    upgrade_checks c.networks_are_citable.ensures.both c.texts_read_exactly.ensures c.valid_texts_are_judged_valid.ensures.certificates
    files again upgrade check text first second before after upgraded checked
