use Rattle.std.proofs.Common.{ap, subst, OnOk, ◌≡◌, ◌++◌, ◌∙◌, ℕ}
use Rattle.std.specs.String.{string_bytes}
use Rattle.text_lines.specs.Lines.{Line, spelled}
use Rattle.net_gen.specs.Lines.{drawn_demand_line}
use Rattle.net_gen.proofs.Putting.{demand_line_is}
use Rattle.net_gen.proofs.text.put_demand.Goals as goal

pub returns-clause-line : goal.returns-clause-line
returns-clause-line c =
    let drawn = ap (λ (p : ℕ × ℕ). drawn_demand_line c.args.i p.0 p.1) c.draw_ends-source.ensures.ends in
    subst (λ (l : Line). OnOk c.put_demand_line.result (string_bytes c.put_demand_line.new.text ≡ string_bytes c.args.text.now ++ spelled l)) (drawn ∙ demand_line_is c.args.draws.now c.args.nodes c.args.i c.requires.some) c.put_demand_line.ensures
