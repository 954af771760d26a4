-- The rows of a network from its two parts: nodes and links, and demands.
use Rattle.std.specs.Prelude.{◌≡◌, ℕ, List, length, map}
use Rattle.sndlib_grammar.specs.Grammar.{Word}
use Rattle.sndlib_grammar.specs.Faults.{texts}
use Rattle.sndlib_grammar.specs.Rows.{NetRows, names_of_nodes, names_of_links}
use Rattle.sndlib_rows.specs.declared.part.NetPart.{NetPart}
use Rattle.sndlib_rows.specs.declared.row.DemandRow.{DemandRow}
use Rattle.sndlib_rows.specs.Stored.{StoredLink}
use Rattle.sndlib_rows.specs.Numbering.{node_of, link_of, link_ends_of}
use Rattle.sndlib_rows.specs.Names.{names_of}
use Rattle.sndlib_rows.specs.RowViews.{demand_row_view}
use Rattle.sndlib_rows.specs.Views.{node_view, link_view}

-- the names of the nodes
abbrev pub known_in : NetPart → List (List ℕ)
known_in p = texts (map (λ n. n.id) (map node_view p.nodes.items))

-- the links as they are kept
abbrev pub links_in : NetPart → List StoredLink
links_in p = map link_view p.links.items

-- the rows of nodes and links, with these rows of demands
abbrev pub rows_with : NetPart → List DemandRow → NetRows
rows_with p demands = record {
  nodes = map node_of (map node_view p.nodes.items);
  links = map (link_of (known_in p)) (links_in p);
  demands = map demand_row_view demands;
  skipped = p.skipped;
  end_line = p.end_line;
}

-- what is kept beside the rows: their names, and the ends of links
pub record IsNetPart (p : NetPart) (rows : NetRows) : Type 0 where
  pub node_names : names_of p.node_names ≡ names_of_nodes rows
  pub link_names : names_of p.link_names ≡ names_of_links rows
  pub link_ends : p.link_ends.items ≡ map (link_ends_of (known_in p)) (links_in p)

-- it is the part of these rows
pub record IsPartOf (p : NetPart) (rows : NetRows) : Type 0 where
  pub node_count : length p.nodes.items ≡ length rows.nodes
  pub link_count : length p.links.items ≡ length rows.links
  pub nodes : map node_of (map node_view p.nodes.items) ≡ rows.nodes
  pub links : map (link_of (known_in p)) (links_in p) ≡ rows.links
  pub skipped : p.skipped ≡ rows.skipped
  pub end_line : p.end_line ≡ rows.end_line
  pub beside : IsNetPart p rows

-- the id of a demand, with its line
abbrev pub id_of : DemandRow → Word
id_of d = record { text = d.id.now; line = d.line }
