use Rattle.std.proofs.Common.{List, ℕ, ap, sym, ◌∙◌}
use Rattle.cert_lines.specs.Sheet.{Sheet, place_of}
use Rattle.cert_lines.proofs.Looked.{commodities_are, commodity_found, commodity_none}
use Rattle.cert_lines.proofs.names.Names.commodity_named.Goals as goal

pub returns-in-Some : goal.returns-in-Some
returns-in-Some c =
    let at = c.self.inside in
    let found = commodity_found at.rows.now at.net.now c.self.invariant c.args.word.now c.in-Some.demand (sym c.demand_named.ensures ∙ c.in-Some.is) in
    c.commodity_of.ensures ∙ found
    ∙ ap (λ (ws : List (List ℕ)). place_of ws c.args.word.now) (commodities_are at.rows.now at.net.now at.form)
    ∙ ap (λ (s : Sheet). place_of s.commodities c.args.word.now) c.self.view_is

pub returns-in-None : goal.returns-in-None
returns-in-None c =
    let at = c.self.inside in
    commodity_none at.rows.now at.net.now c.self.invariant c.args.word.now (sym c.demand_named.ensures ∙ c.in-None.is)
    ∙ ap (λ (ws : List (List ℕ)). place_of ws c.args.word.now) (commodities_are at.rows.now at.net.now at.form)
    ∙ ap (λ (s : Sheet). place_of s.commodities c.args.word.now) c.self.view_is
