use Rattle.std.proofs.Common.{subst}
use Rattle.flow_model.specs.Network.{IsNetwork}
use Rattle.sndlib_grammar.specs.Tokens.{lexemes}
use Rattle.script.specs.Reading.{terms_of, at_start, end_of}
use Rattle.cli_laws.proofs.Tokens.{stopped}
use Rattle.cli_laws.proofs.RefusedNetworks.{can_go_on}
use Rattle.cli_laws.proofs.scripts.script_texts_stop_there.Goals as goal

pub returns : goal.returns
returns c = λ text r h.
    let rows = c.args.rows.now in
    let net = c.args.net.now in
    stopped (terms_of rows net) (end_of text) (at_start rows net).caps (lexemes 0 text 0 1) r (can_go_on rows net c.links-links.ensures.rows (subst IsNetwork c.net.ensures.value c.cells-cells.ensures.net) c.requires) h
