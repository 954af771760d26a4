use Rattle.std.proofs.Common.{sym, ap, ◌∙◌, ◌++◌}
use Rattle.std.proofs.lemmas.List.{append-nil}
use Rattle.std.specs.String.{string_bytes}
use Rattle.rand_pcg.specs.Lcg.{Lcg}
use Rattle.text_lines.specs.Lines.{spelled}
use Rattle.sndlib_grammar.specs.Canonical.{link_line}
use Rattle.net_gen.specs.Draws.{past}
use Rattle.net_gen.specs.Generated.{generated_names, generated_link, words_of_link, words_before_link}
use Rattle.net_gen.proofs.Drawing.{past_none, then_past}
use Rattle.net_gen.proofs.Putting.{line_more, words_more}
use Rattle.net_gen.proofs.text.put_links.Goals as goal

pub loop-i-init : goal.loop-i-init
loop-i-init c = record { lines = sym (append-nil (string_bytes c.args.text.now)); rest = sym (past_none c.args.draws.now) }

pub loop-i-preserved : goal.loop-i-preserved
loop-i-preserved c =
    let names = generated_names c.args.nodes in
    let last = c.in_ok-put_link.ensures.line ∙ ap (λ (g : Lcg). string_bytes c.loop-i.text ++ spelled (link_line names (generated_link g c.args.nodes c.loop-i.i))) c.loop-i.invariant.rest in
    record {
      lines = line_more (link_line names) (λ i. generated_link (past (words_before_link c.args.nodes i) c.args.draws.now) c.args.nodes i) c.loop-i.i _ _ _ c.loop-i.invariant.lines last;
      rest = then_past (words_before_link c.args.nodes c.loop-i.i) (words_of_link c.args.nodes c.loop-i.i) _ _ _ c.loop-i.invariant.rest c.in_ok-put_link.ensures.rest ∙ ap (λ k. past k c.args.draws.now) (words_more c.args.nodes c.loop-i.i);
    }
