use Rattle.std.proofs.Common.{List, ap, sym, subst, ◌∙◌, Err}
use Rattle.std.specs.Prelude.{map}
use Rattle.std.specs.Arc.{arc_value}
use Rattle.sndlib_grammar.specs.Faults.{texts}
use Rattle.sndlib_rows.specs.declared.part.NetPart.{NetPart}
use Rattle.sndlib_rows.specs.declared.row.DemandRow.{DemandRow}
use Rattle.sndlib_rows.specs.Names.{names_of, AreNamed}
use Rattle.sndlib_rows.specs.Net.{AreRawParts}
use Rattle.sndlib_rows.specs.Parts.{id_of}
use Rattle.sndlib_rows.proofs.Demands.{not_refused, other_demands}
use Rattle.sndlib_rows.proofs.net.RawNet.with_demands.Goals as goal

pub unreachable-requires : goal.unreachable-requires
unreachable-requires c =
    let named = subst (λ (ds : List DemandRow). AreNamed (map id_of ds) c.names_of_demands.result) c.deref.ensures.value c.names_of_demands.ensures in
    not_refused c.args.demands.items c.in-Err-Refused.field-0-0 c.names_of_demands.result c.requires.demand_names named (c.in-Err-Refused.is ∙ ap (λ e. Err e) c.in-Err-Refused.field-0-is)

pub invariant_of-result : goal.invariant_of-result
invariant_of-result c =
    let n = c.self.inside in
    let names = c.in-Ok.ensures.1 ∙ ap (λ (ds : List DemandRow). texts (map id_of ds)) c.deref.ensures.value in
    subst (λ (p : NetPart). AreRawParts p c.args.demands.items (names_of c.in-Ok.names)) (sym c.in_ok-try_clone.ensures)
    (other_demands (arc_value n.part) n.demands.items (names_of n.demand_names) c.args.self.now c.args.demands.items (names_of c.in-Ok.names) c.self.invariant c.self.view_is c.requires names)
