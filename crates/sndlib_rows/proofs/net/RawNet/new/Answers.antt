use Rattle.std.proofs.Common.{sym, subst}
use Rattle.sndlib_rows.specs.declared.part.NetPart.{NetPart}
use Rattle.sndlib_rows.specs.Names.{names_of}
use Rattle.sndlib_rows.specs.Net.{AreRawParts}
use Rattle.sndlib_rows.proofs.net.RawNet.new.Goals as goal

pub invariant_of-result : goal.invariant_of-result
invariant_of-result c = subst (λ (p : NetPart). AreRawParts p c.args.demands.items (names_of c.args.demand_names)) (sym c.in_ok-new.ensures.ok) c.requires
