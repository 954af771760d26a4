use Rattle.std.proofs.Common.{ap, subst, sym, List, ℕ, length, ◌≤◌, ◌∙◌, ◌++◌, ◌≡◌, map}
use Rattle.std.specs.String.{string_bytes}
use Rattle.rand_pcg.specs.Lcg.{Lcg}
use Rattle.text_lines.specs.Lines.{text_of}
use Rattle.sndlib_grammar.specs.Canonical.{link_line, demand_line}
use Rattle.net_gen.specs.Draws.{past, generator_of}
use Rattle.net_gen.specs.Generated.{generated_rows, generated_names, generated_links, generated_demands, words_before_link}
use Rattle.mcf_limits.specs.declared.TheConstants.{MAX_NET_BYTES}
use Rattle.net_gen.proofs.Sizes.{text_short}
use Rattle.net_gen.proofs.Whole.{grown_whole}
use Rattle.net_gen.proofs.text.generate.Goals as goal

pub returns-clause-text : goal.returns-clause-text
unfolding generator_of
returns-clause-text c =
    let names = generated_names c.args.nodes in
    let start : c.seed_from_u64-draws.result ≡ generator_of c.args.seed = c.seed_from_u64-draws.ensures in
    let links = ap (λ (g : Lcg). string_bytes c.push_str-2.new.self ++ text_of (map (link_line names) (generated_links g c.args.nodes c.args.links))) start in
    let behind : c.put_links.new.draws ≡ past (words_before_link c.args.nodes c.args.links) (generator_of c.args.seed) = c.in_ok-put_links.ensures.rest ∙ ap (past (words_before_link c.args.nodes c.args.links)) start in
    let demands = ap (λ (g : Lcg). string_bytes c.push_str-3.new.self ++ text_of (map (demand_line names) (generated_demands g c.args.nodes c.args.demands))) behind in
    grown_whole (generated_rows c.args.seed c.args.nodes c.args.links c.args.demands) _ _ _ _ _ _ _ _ (record {
      none = c.new-text.ensures.bytes;
      opened = c.in_ok-push_str.ensures.bytes;
      nodes = c.in_ok-put_nodes.ensures;
      between = c.in_ok-push_str-2.ensures.bytes;
      links = c.in_ok-put_links.ensures.lines ∙ links;
      then = c.in_ok-push_str-3.ensures.bytes;
      demands = c.in_ok-put_demands.ensures.lines ∙ demands;
      closed = c.in_ok-push_str-4.ensures.bytes;
    })

pub returns-clause-short : goal.returns-clause-short
returns-clause-short c = subst (λ (t : List ℕ). length t ≤ MAX_NET_BYTES) (sym (returns-clause-text c)) (text_short c.args.seed c.args.nodes c.args.links c.args.demands c.requires)
