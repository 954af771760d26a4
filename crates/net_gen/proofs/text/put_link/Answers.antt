use Rattle.std.proofs.Common.{subst, OnOk, ◌≡◌, ◌++◌, ◌∙◌, ℕ}
use Rattle.std.specs.String.{string_bytes}
use Rattle.text_lines.specs.Lines.{Line, spelled}
use Rattle.net_gen.specs.Lines.{drawn_link_line}
use Rattle.net_gen.proofs.Putting.{ap3, link_line_is}
use Rattle.net_gen.proofs.text.put_link.Goals as goal

pub returns-clause-line : goal.returns-clause-line
returns-clause-line c =
    let drew = c.draw_link-link.ensures in
    let drawn = ap3 (λ (s t capacity : ℕ). drawn_link_line c.args.i s t capacity) drew.source drew.target drew.capacity in
    subst (λ (l : Line). OnOk c.put_link_line.result (string_bytes c.put_link_line.new.text ≡ string_bytes c.args.text.now ++ spelled l)) (drawn ∙ link_line_is c.args.draws.now c.args.nodes c.args.i c.requires.some) c.put_link_line.ensures
