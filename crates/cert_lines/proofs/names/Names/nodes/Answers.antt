use Rattle.std.proofs.Common.{subst}
use Rattle.cert_lines.specs.Sheet.{IsWithin}
use Rattle.cert_lines.proofs.Looked.{within}
use Rattle.cert_lines.proofs.names.Names.nodes.Goals as goal

pub returns-clause-within : goal.returns-clause-within
returns-clause-within c =
    let at = c.self.inside in
    subst IsWithin c.self.view_is (within at.rows.now at.net.now at.form c.self.invariant)
