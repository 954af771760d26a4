-- What a certificate's text cites of a network, in either form.
use Rattle.std.specs.Prelude.{◌≡◌, ℕ, ◌<◌, ◌≤◌, ◌++◌, false, List, [], ◌∷◌, length, map, take, drop, Option, Ok, position, slice_index_or, codes, if◌then◌else◌}
use Rattle.std.specs.List.{AllByRecursion, flat_map}
use Rattle.std.specs.Str.{bytes_eq}
use Rattle.mcf_limits.specs.declared.TheConstants.{MAX_CELLS, MAX_DEMANDS, MAX_NODES}
use Rattle.unit_scale.specs.Modes.{link_word, old_link_word, module_word, signs}
use Rattle.unit_scale.specs.declared.modes.LinkMode.{LinkMode}
use Rattle.unit_scale.specs.declared.modes.Sign.{Sign}
use Rattle.unit_scale.specs.declared.modes.Sign.TheVariants.{Along, Against, Both}
use Rattle.unit_scale.specs.declared.options.NetOptions.{NetOptions}
use Rattle.sndlib_grammar.specs.Rows.{NetRows, AreNetRows, demand_at, names_of_nodes, names_of_links}
use Rattle.unit_scale.specs.Scaling.{ScaledNet, scaled_of}
use Rattle.cert_lines.specs.declared.form.Form.{Form}
use Rattle.cert_lines.specs.declared.form.Form.TheVariants.{First, Second}

-- the form, the words for how links and modules are read, the words of nodes, cells and commodities
-- in their order, and the counts
pub record Sheet : Type 0 where
  pub form : List ℕ
  pub link_mode : List ℕ
  pub module_mode : List ℕ
  pub nodes : List (List ℕ)
  pub cells : List (List ℕ)
  pub commodities : List (List ℕ)
  pub counts : List ℕ

-- the word of a node
abbrev pub node_word : Sheet → ℕ → List ℕ
node_word sheet v = slice_index_or sheet.nodes v []

-- the word of a cell
abbrev pub cell_word : Sheet → ℕ → List ℕ
cell_word sheet c = slice_index_or sheet.cells c []

-- how many bytes of a cell's word come before its link's id: none in form 1
abbrev pub sign_size : Sheet → ℕ
sign_size sheet = if bytes_eq sheet.form (codes "1") then 0 else 1

-- what a cell's word begins with, before the id of its link
abbrev pub cell_sign : Sheet → ℕ → List ℕ
cell_sign sheet c = take (sign_size sheet) (cell_word sheet c)

-- the id of its link in a cell's word
abbrev pub cell_id : Sheet → ℕ → List ℕ
cell_id sheet c = drop (sign_size sheet) (cell_word sheet c)

-- the word of a commodity: its demand's id
abbrev pub commodity_word : Sheet → ℕ → List ℕ
commodity_word sheet k = slice_index_or sheet.commodities k []

-- the place of the word
abbrev pub place_of : List (List ℕ) → List ℕ → Option ℕ
place_of words word = position (bytes_eq word) words

-- ---- the sheets of a network

-- the id of the demand of that number
abbrev pub demand_word : NetRows → ℕ → List ℕ
demand_word rows d = (demand_at rows d).id

-- what the word of a cell that goes that way begins with
abbrev pub sign_mark : Sign → List ℕ
sign_mark Along = codes "+"
sign_mark Against = codes "-"
sign_mark Both = codes "="

-- the words of the cells of the link of that id: a sign, and the id
abbrev pub signed_words : LinkMode → List ℕ → List (List ℕ)
signed_words mode id = map (λ sign. sign_mark sign ++ id) (signs mode)

-- the nodes, cells and commodities, the decimals, the skipped sections, the demands left out, the
-- demands with a longest path
abbrev pub counts_of : NetRows → ScaledNet → List ℕ
counts_of rows net =
    length rows.nodes ∷ length net.net.cells ∷ length net.kept ∷ net.decimals ∷ rows.skipped ∷ net.left
    ∷ net.hops ∷ []

-- what is cited in form 2, in which certificates are written
abbrev pub sheet_of : NetRows → ScaledNet → Sheet
sheet_of rows net = record {
  form = codes "2";
  link_mode = link_word net.options.links;
  module_mode = module_word net.options.modules;
  nodes = names_of_nodes rows;
  cells = flat_map (signed_words net.options.links) (names_of_links rows);
  commodities = map (demand_word rows) net.kept;
  counts = counts_of rows net;
}

-- what is cited in form 1, which is read too
abbrev pub old_sheet_of : NetRows → ScaledNet → Sheet
old_sheet_of rows net = record (sheet_of rows net) {
  form = codes "1";
  link_mode = old_link_word net.options.links;
  cells = names_of_links rows;
}

-- both sheets of a network
pub record Sheets : Type 0 where
  pub old : Sheet
  pub new : Sheet

-- what is cited of these rows and of their network in units, in both forms
abbrev pub sheets_of : NetRows → ScaledNet → Sheets
sheets_of rows net = record { old = old_sheet_of rows net; new = sheet_of rows net }

-- the sheet that a text of this form cites
abbrev pub sheet_for : Sheets → Form → Sheet
sheet_for sheets First = sheets.old
sheet_for sheets Second = sheets.new

-- the network in units is that of the rows under these options
pub record IsOf (rows : NetRows) (net : ScaledNet) : Type 0 where
  pub well : AreNetRows rows
  pub options : NetOptions
  pub scaled : scaled_of rows options ≡ Ok net

-- there are no more words than nodes, cells and commodities may be
pub record IsWithin (sheet : Sheet) : Type 0 where
  pub nodes_fit : length sheet.nodes ≤ MAX_NODES
  pub cells_fit : length sheet.cells ≤ MAX_CELLS
  pub commodities_fit : length sheet.commodities ≤ MAX_DEMANDS

-- each word once, and none empty
abbrev pub AreNames : List (List ℕ) → Type 0
AreNames [] = Unit {0}
AreNames (word ∷ words) =
    (0 < length word) × AllByRecursion (λ other. bytes_eq other word ≡ false) words × AreNames words
