-- What is read in either form fits a text of form 2.
use Rattle.std.proofs.Common.{◌≡◌, ℕ, suc, ◌<◌, List, [], ◌∷◌, length, Ok, refl, ap, subst, arith}
use Rattle.std.specs.List.{AllByRecursion, flat_map}
use Rattle.text_lines.specs.Lines.{Line}
use Rattle.flow_model.specs.Routing.{Row}
use Rattle.flow_paths.specs.DualRows.{Length, Potential}
use Rattle.flow_paths.specs.declared.certificate.Routing.{Routing}
use Rattle.unit_scale.specs.Modes.{old_link_word}
use Rattle.unit_scale.specs.declared.modes.LinkMode.{LinkMode}
use Rattle.unit_scale.specs.declared.modes.LinkMode.TheVariants.{Directed, Undirected, Bidirected}
use Rattle.sndlib_grammar.specs.Rows.{NetRows, names_of_links}
use Rattle.unit_scale.specs.Scaling.{ScaledNet}
use Rattle.cert_lines.specs.Sheet.{Sheet, signed_words, old_sheet_of, sheet_of, sheets_of, sheet_for}
use Rattle.cert_lines.specs.declared.form.Form.{Form}
use Rattle.cert_lines.specs.declared.form.Form.TheVariants.{First, Second}
use Rattle.cert_lines.specs.Spelling.{FitsLength, FitsPotential, FitsPath}
use Rattle.cert_text.specs.declared.papers.Paper.{Paper}
use Rattle.cert_text.specs.declared.papers.Paper.TheVariants as papers
use Rattle.cert_text.specs.Whole.{paper_in}
use Rattle.cert_writer.specs.Text.{FitsRouting}
use Rattle.cert_judge.specs.Fits.{FitsPaper, HasLinkWord}
use Rattle.cert_judge.proofs.PaperFits.{papers_fit}

-- ---- from one sheet to another

-- two sheets have as many words of nodes, cells and commodities
pub record AreAsLong (one other : Sheet) : Type 0 where
  pub nodes : length one.nodes ≡ length other.nodes
  pub cells : length one.cells ≡ length other.cells
  pub commodities : length one.commodities ≡ length other.commodities

along : {X : Type 0} {P Q : X → Type 0} → ((x : X) → P x → Q x) → (xs : List X) → AllByRecursion P xs → AllByRecursion Q xs
along f [] h = tt
along f (x ∷ xs) h = (f x h.0, along f xs h.1)

module _ (one other : Sheet) (long : AreAsLong one other) where
  path_passes : (r : Row) → FitsPath one r → FitsPath other r
  path_passes r fits = record {
    commodity = subst (λ n. r.commodity < n) long.commodities fits.commodity;
    weight = fits.weight;
    cells = subst (λ n. AllByRecursion (λ c. c < n) r.walk) long.cells fits.cells;
    short = fits.short;
  }

  length_passes : (r : Length) → FitsLength one r → FitsLength other r
  length_passes r fits = record { cell = subst (λ n. r.cell < n) long.cells fits.cell; value = fits.value }

  potential_passes : (r : Potential) → FitsPotential one r → FitsPotential other r
  potential_passes r fits = record {
    node = subst (λ n. r.node < n) long.nodes fits.node;
    count = subst (λ n. length r.values ≡ n) long.nodes fits.count;
    values = fits.values;
  }

  routing_passes : (r : Routing) → FitsRouting one r → FitsRouting other r
  routing_passes r fits = record {
    phases = fits.phases;
    scale_cap = fits.scale_cap;
    scale_load = fits.scale_load;
    paths = along path_passes r.paths fits.paths;
  }

  -- what fits a text of the one fits a text of the other
  pub passes : (paper : Paper) → FitsPaper one paper → FitsPaper other paper
  passes (papers.Routing r) fits = routing_passes r fits
  passes (papers.Full p) fits = record {
    gap = fits.gap;
    routing = routing_passes p.routing fits.routing;
    lower = fits.lower;
    upper = fits.upper;
    lengths = along length_passes p.dual.lengths fits.lengths;
    potentials = along potential_passes p.dual.potentials fits.potentials;
  }

-- ---- the sheets of a network

-- where form 1 has a word for how links are read, each link has one cell
one_each : (mode : LinkMode) (ids : List (List ℕ)) → 0 < length (old_link_word mode) → length ids ≡ length (flat_map (signed_words mode) ids)
one_each Directed [] w = refl
one_each Directed (id ∷ ids) w = ap suc (one_each Directed ids w)
one_each Undirected [] w = refl
one_each Undirected (id ∷ ids) w = ap suc (one_each Undirected ids w)
one_each Bidirected ids w = absurd (omega arith)

pub as_long : (rows : NetRows) (net : ScaledNet) → HasLinkWord (old_sheet_of rows net) → AreAsLong (old_sheet_of rows net) (sheet_of rows net)
as_long rows net w = record { nodes = refl; cells = one_each net.options.links (names_of_links rows) w; commodities = refl }

-- what fits a text of either form, which has a word for how links are read, fits a text of form 2
pub fits_new : (rows : NetRows) (net : ScaledNet) (form : Form) (paper : Paper) → HasLinkWord (sheet_for (sheets_of rows net) form) → FitsPaper (sheet_for (sheets_of rows net) form) paper → FitsPaper (sheet_of rows net) paper
fits_new rows net First paper w fits = passes (old_sheet_of rows net) (sheet_of rows net) (as_long rows net w) paper fits
fits_new rows net Second paper w fits = fits

pub new_fits : (rows : NetRows) (net : ScaledNet) (lines : List Line) (paper : Paper) → paper_in (sheets_of rows net) lines ≡ Ok paper → FitsPaper (sheet_of rows net) paper
new_fits rows net lines paper e =
    let f = papers_fit (sheets_of rows net) lines paper e in
    fits_new rows net f.form paper f.worded f.fits
