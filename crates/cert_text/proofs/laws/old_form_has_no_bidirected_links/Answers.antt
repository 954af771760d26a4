use Rattle.std.specs.Prelude.{codes}
use Rattle.cert_text.proofs.OldForm.{no_empty_mode, never_bidirected}
use Rattle.cert_text.proofs.laws.old_form_has_no_bidirected_links.Goals as goal

pub returns-clause-said : goal.returns-clause-said
returns-clause-said c = never_bidirected

pub returns-clause-taken : goal.returns-clause-taken
returns-clause-taken c = no_empty_mode (codes "links")
