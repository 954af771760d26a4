use Rattle.std.proofs.Common.{sym, ap, ◌∙◌, ◌++◌, ◌≡◌, ◌+◌, ◌*◌, arith}
use Rattle.std.proofs.lemmas.List.{append-nil}
use Rattle.std.specs.String.{string_bytes}
use Rattle.rand_pcg.specs.Lcg.{Lcg}
use Rattle.text_lines.specs.Lines.{spelled}
use Rattle.sndlib_grammar.specs.Canonical.{demand_line}
use Rattle.net_gen.specs.Draws.{past}
use Rattle.net_gen.specs.Generated.{generated_names, generated_demand}
use Rattle.net_gen.proofs.Drawing.{past_none, then_past}
use Rattle.net_gen.proofs.Putting.{line_more}
use Rattle.net_gen.proofs.text.put_demands.Goals as goal

pub loop-i-init : goal.loop-i-init
loop-i-init c = record { lines = sym (append-nil (string_bytes c.args.text.now)); rest = sym (past_none c.args.draws.now) }

pub loop-i-preserved : goal.loop-i-preserved
loop-i-preserved c =
    let names = generated_names c.args.nodes in
    let last = c.in_ok-put_demand.ensures.line ∙ ap (λ (g : Lcg). string_bytes c.loop-i.text ++ spelled (demand_line names (generated_demand g c.args.nodes c.loop-i.i))) c.loop-i.invariant.rest in
    let two : 2 * c.loop-i.i + 2 ≡ 2 * (c.loop-i.i + 1) = omega arith in
    record {
      lines = line_more (demand_line names) (λ i. generated_demand (past (2 * i) c.args.draws.now) c.args.nodes i) c.loop-i.i _ _ _ c.loop-i.invariant.lines last;
      rest = then_past (2 * c.loop-i.i) 2 _ _ _ c.loop-i.invariant.rest c.in_ok-put_demand.ensures.rest ∙ ap (λ k. past k c.args.draws.now) two;
    }
