use Rattle.std.proofs.Common.{◌<◌, length, ap, sym, subst, ◌∙◌, arith}
use Rattle.std.proofs.lemmas.List.{length-map}
use Rattle.cert_lines.specs.Sheet.{Sheet, demand_word}
use Rattle.cert_lines.proofs.Looked.{commodities_are, is_demand}
use Rattle.cert_lines.proofs.names.Names.commodity_word.Goals as goal

pub demand-requires : goal.demand-requires
demand-requires c =
    let at = c.self.inside in
    let rows = at.rows.now in
    let net = at.net.now in
    let asked = c.requires in
    let same = ap length (commodities_are rows net at.form) ∙ ap (λ (s : Sheet). length s.commodities) c.self.view_is in
    let size = length-map net.kept (demand_word rows) in
    let inside : c.args.k < length net.kept = omega arith in
    subst (λ n. n < length rows.demands) (sym c.demand_of.ensures.value) (is_demand rows net c.self.invariant c.args.k inside)
