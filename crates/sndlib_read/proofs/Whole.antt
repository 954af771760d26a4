-- The network of what is kept, where nothing is wrong.
use Rattle.std.proofs.Common.{◌≡◌, ℕ, List, refl, ap, sym, subst, ◌∙◌, Option, Some, None, Ok}
use Rattle.std.specs.Prelude.{map}
use Rattle.sndlib_grammar.specs.declared.refusal.NetKind.TheVariants as netkinds
use Rattle.sndlib_grammar.specs.declared.refusal.NetRefusal.{NetRefusal}
use Rattle.sndlib_grammar.specs.Grammar.{Word, DemandEntry, Entries}
use Rattle.sndlib_grammar.specs.Faults.{texts, or_else, first_of, at_line, fault_of, unknown_of_demand}
use Rattle.sndlib_grammar.specs.Rows.{NetRows, NetLink, NetNode, NetDemand, net_rows, net_demand, names_of_nodes, names_of_links, names_of_demands, AreNetRows}
use Rattle.sndlib_grammar.specs.Words.{AreWordEntries}
use Rattle.sndlib_grammar.specs.Net.{unless_fault, judged, rows_of}
use Rattle.sndlib_grammar.specs.Text.{read_of, end_of}
use Rattle.sndlib_grammar.proofs.RowFacts.{rows_hold}
use Rattle.sndlib_rows.specs.declared.kept.LinkWords.{LinkWords}
use Rattle.sndlib_read.specs.declared.kept.DemandWords.{DemandWords}
use Rattle.std.specs.declared.vec.Vec.{Vec}
use Rattle.std.specs.declared.alloc.Global.{Global}
use Rattle.sndlib_read.specs.declared.kept.Kept.{Kept}
use Rattle.sndlib_rows.specs.declared.ends.Ends.{Ends}
use Rattle.sndlib_read.specs.declared.names.Names.{Names}
use Rattle.sndlib_rows.specs.declared.part.NetPart.{NetPart}
use Rattle.sndlib_rows.specs.declared.row.DemandRow.{DemandRow}
use Rattle.sndlib_rows.specs.RowViews.{demand_row_view}
use Rattle.sndlib_read.specs.Ends.{row_of}
use Rattle.sndlib_rows.specs.Parts.{rows_with}
use Rattle.sndlib_read.specs.Stored.{Stored, stored}
use Rattle.sndlib_rows.specs.Stored.{StoredNode, StoredLink}
use Rattle.sndlib_read.specs.Steps.{IsKept}
use Rattle.sndlib_read.specs.OfText.{IsOfText}
use Rattle.sndlib_read.specs.Numbering.{stored_nodes, stored_links, stored_demands, too_many_of, repeated_of, unknown_of_stored, unknown_of, bad_of, stored_fault, stored_rows, stored_judged}
use Rattle.sndlib_rows.specs.Numbering.{node_of, link_of, link_ends_of}
use Rattle.sndlib_rows.specs.Names.{names_of}
use Rattle.sndlib_read.specs.Views.{kept_view, demand_view}
use Rattle.sndlib_rows.specs.Views.{link_view}
use Rattle.sndlib_rows.specs.Net.{AreRawParts}
use Rattle.sndlib_read.proofs.RowLines.{map-swap}
use Rattle.sndlib_read.proofs.StoredLaws.{judged-stored}

no_fault : (k : Stored) → too_many_of k ≡ None → repeated_of k ≡ None → unknown_of k ≡ None → bad_of k ≡ None → stored_fault k ≡ None
no_fault k a b c d =
    ap (λ (o : Option ℕ). or_else (at_line netkinds.TooMany o) (or_else (at_line netkinds.Duplicate (repeated_of k)) (or_else (at_line netkinds.UnknownNode (unknown_of k)) (at_line netkinds.BadNumber (bad_of k))))) a
    ∙ ap (λ (o : Option ℕ). or_else (at_line netkinds.Duplicate o) (or_else (at_line netkinds.UnknownNode (unknown_of k)) (at_line netkinds.BadNumber (bad_of k)))) b
    ∙ ap (λ (o : Option ℕ). or_else (at_line netkinds.UnknownNode o) (at_line netkinds.BadNumber (bad_of k))) c
    ∙ ap (λ (o : Option ℕ). at_line netkinds.BadNumber o) d

sound_rows : (end : ℕ) (e : Entries) → AreWordEntries e → stored_fault (stored e) ≡ None → AreNetRows (stored_rows end (stored e))
sound_rows end e words none =
    let both : Ok (stored_rows end (stored e)) ≡ unless_fault end e (fault_of e) = sym (ap (stored_judged end (stored e)) none) ∙ judged-stored end e in
    let go = elim (fault_of e) as (λ (o : Option NetRefusal). fault_of e ≡ o → Ok (stored_rows end (stored e)) ≡ unless_fault end e o → AreNetRows (stored_rows end (stored e))) [
      | None ↦ λ h b. (let same : stored_rows end (stored e) ≡ net_rows end e = cc in subst AreNetRows (sym same) (rows_hold end e words h))
      | Some r ↦ λ h b. absurd cc
    ] in
    go refl both

-- ---- names

pub node_names_are : (k : Stored) (end : ℕ) → texts (stored_nodes k) ≡ names_of_nodes (stored_rows end k)
node_names_are k end = map-swap (λ (w : Word). w.text) (λ (n : StoredNode). n.id) (λ (n : NetNode). n.id) node_of (λ n. refl) k.nodes

pub link_names_are : (k : Stored) (end : ℕ) → texts (stored_links k) ≡ names_of_links (stored_rows end k)
link_names_are k end = map-swap (λ (w : Word). w.text) (λ (l : StoredLink). l.id) (λ (l : NetLink). l.id) (link_of (texts (stored_nodes k))) (λ l. refl) k.links

pub demand_names_are : (k : Stored) (end : ℕ) → texts (stored_demands k) ≡ names_of_demands (stored_rows end k)
demand_names_are k end = map-swap (λ (w : Word). w.text) (λ (d : DemandEntry). d.id) (λ (d : NetDemand). d.id) (net_demand (texts (stored_nodes k))) (λ d. refl) k.demands

-- ---- the network

-- nothing is wrong with what is kept of a text, and these are the names and rows of it
pub record IsSound (rows : Kept) (names : Names) (ends : List Ends) (ds : List DemandRow) : Type 0 where
  pub origin : IsOfText (kept_view rows)
  pub many : too_many_of (kept_view rows) ≡ None
  pub twice : repeated_of (kept_view rows) ≡ None
  pub bad : bad_of (kept_view rows) ≡ None
  pub node_names : names_of names.nodes ≡ texts (stored_nodes (kept_view rows))
  pub link_names : names_of names.links ≡ texts (stored_links (kept_view rows))
  pub demand_names : names_of names.demands ≡ texts (stored_demands (kept_view rows))
  pub links_known : first_of (unknown_of_stored (texts (stored_nodes (kept_view rows)))) (kept_view rows).links ≡ None
  pub link_ends : ends ≡ map (link_ends_of (texts (stored_nodes (kept_view rows)))) (kept_view rows).links
  pub demands_known : first_of (unknown_of_demand (texts (stored_nodes (kept_view rows)))) (kept_view rows).demands ≡ None
  pub demands : ds ≡ map (row_of (texts (stored_nodes (kept_view rows)))) rows.demands.items

pub sound : (rows : Kept) (names : Names) (ends : List Ends) (demands : List DemandRow) (ls : List LinkWords) (ds : List DemandWords)
    → IsOfText (kept_view rows) → too_many_of (kept_view rows) ≡ None → bad_of (kept_view rows) ≡ None
    → (repeated_of (kept_view rows) ≡ None) × (names_of names.nodes ≡ texts (stored_nodes (kept_view rows))) × (names_of names.links ≡ texts (stored_links (kept_view rows))) × (names_of names.demands ≡ texts (stored_demands (kept_view rows)))
    → ls ≡ rows.links.items → (first_of (unknown_of_stored (names_of names.nodes)) (map link_view ls) ≡ None) × (ends ≡ map (link_ends_of (names_of names.nodes)) (map link_view ls))
    → ds ≡ rows.demands.items → (first_of (unknown_of_demand (names_of names.nodes)) (map demand_view ds) ≡ None) × (demands ≡ map (row_of (names_of names.nodes)) ds)
    → IsSound rows names ends demands
sound rows names ends demands ls ds origin many bad all same_links links same_demands rest =
    let k = kept_view rows in
    let nodes = all.1 in
    let l = subst (λ (ws : List (List ℕ)). (first_of (unknown_of_stored ws) k.links ≡ None) × (ends ≡ map (link_ends_of ws) k.links)) nodes (subst (λ (xs : List LinkWords). (first_of (unknown_of_stored (names_of names.nodes)) (map link_view xs) ≡ None) × (ends ≡ map (link_ends_of (names_of names.nodes)) (map link_view xs))) same_links links) in
    let d = subst (λ (ws : List (List ℕ)). (first_of (unknown_of_demand ws) k.demands ≡ None) × (demands ≡ map (row_of ws) rows.demands.items)) nodes (subst (λ (xs : List DemandWords). (first_of (unknown_of_demand (names_of names.nodes)) (map demand_view xs) ≡ None) × (demands ≡ map (row_of (names_of names.nodes)) xs)) same_demands rest) in
    record {
      origin = origin;
      many = many;
      twice = all.0;
      bad = bad;
      node_names = nodes;
      link_names = all.2;
      demand_names = all.3;
      links_known = l.0;
      link_ends = l.1;
      demands_known = d.0;
      demands = d.1;
    }

-- the part of a network with these rows
abbrev pub part_of : Kept → Names → Vec Ends Global → ℕ → NetPart
part_of rows names ends end = record {
  nodes = rows.nodes;
  links = rows.links;
  link_ends = ends;
  node_names = names.nodes;
  link_names = names.links;
  skipped = rows.skipped;
  end_line = end;
}

-- the rows are those of what is kept
pub same_rows : (rows : Kept) (names : Names) (ends : Vec Ends Global) (end : ℕ) (demands : List DemandRow)
    → IsSound rows names ends.items demands → stored_rows end (kept_view rows) ≡ rows_with (part_of rows names ends end) demands
same_rows rows names ends end demands h =
    let k = kept_view rows in
    let known = texts (stored_nodes k) in
    let e : map (net_demand known) k.demands ≡ map demand_row_view demands = sym (ap (map demand_row_view) h.demands ∙ map-swap demand_row_view (row_of known) (net_demand known) demand_view (λ d. refl) rows.demands.items) in
    ap (λ (ds : List NetDemand). record { nodes = map node_of k.nodes; links = map (link_of known) k.links; demands = ds; skipped = k.skipped; end_line = end }) e

fault_free : (rows : Kept) (names : Names) (ends : List Ends) (demands : List DemandRow) → IsSound rows names ends demands → stored_fault (kept_view rows) ≡ None
fault_free rows names ends demands h =
    let k = kept_view rows in
    let known = texts (stored_nodes k) in
    let unknown : unknown_of k ≡ None = ap (λ (o : Option ℕ). or_else o (first_of (unknown_of_demand known) k.demands)) h.links_known ∙ h.demands_known in
    no_fault k h.many h.twice unknown h.bad

pub judged_rows : (rows : Kept) (names : Names) (ends : Vec Ends Global) (end : ℕ) (demands : List DemandRow)
    → IsSound rows names ends.items demands → stored_judged end (kept_view rows) (stored_fault (kept_view rows)) ≡ Ok (rows_with (part_of rows names ends end) demands)
judged_rows rows names ends end demands h =
    ap (stored_judged end (kept_view rows)) (fault_free rows names ends.items demands h)
    ∙ ap (λ (r : NetRows). Ok r) (same_rows rows names ends end demands h)

pub raw_net : (rows : Kept) (names : Names) (ends : Vec Ends Global) (end : ℕ) (demands : List DemandRow)
    → IsSound rows names ends.items demands → AreRawParts (part_of rows names ends end) demands (names_of names.demands)
raw_net rows names ends end demands h =
    let k = kept_view rows in
    let origin = h.origin in
    let none = fault_free rows names ends.items demands h in
    let same = same_rows rows names ends end demands h in
    record {
      rows = subst AreNetRows same (subst (λ (s : Stored). AreNetRows (stored_rows end s)) (sym origin.same) (sound_rows end origin.found origin.words (ap stored_fault (sym origin.same) ∙ none)));
      beside = record {
        node_names = h.node_names ∙ node_names_are k end ∙ ap names_of_nodes same;
        link_names = h.link_names ∙ link_names_are k end ∙ ap names_of_links same;
        link_ends = h.link_ends;
      };
      demand_names = h.demand_names ∙ demand_names_are k end ∙ ap names_of_demands same;
    }

-- the answer to a text from what is kept of it
pub answer_is : (text : List ℕ) (end : ℕ) (k : Stored) → end ≡ end_of text → IsKept (read_of text) k → rows_of text ≡ stored_judged end k (stored_fault k)
answer_is text end k is h =
    ap (judged (end_of text)) h.reads ∙ sym (judged-stored (end_of text) h.found)
    ∙ ap (λ (s : Stored). stored_judged (end_of text) s (stored_fault s)) (sym h.same) ∙ ap (λ (n : ℕ). stored_judged n k (stored_fault k)) (sym is)
