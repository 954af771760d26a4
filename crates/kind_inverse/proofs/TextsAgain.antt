-- Both texts: what is spelled is read.
use Rattle.std.proofs.Common.{◌≡◌, ℕ, ◌+◌, ◌≤◌, true, List, [], ◌∷◌, ◌++◌, length, Ok, refl, ap, ◌∙◌, append_assoc, arith}
use Rattle.std.specs.Prelude.{codes, map}
use Rattle.std.specs.List.{AllByRecursion}
use Rattle.text_lines.specs.Lines.{Line, lines_of}
use Rattle.text_lines.proofs.Laws.{ended, lines_of-text}
use Rattle.flow_model.specs.Routing.{Row}
use Rattle.flow_paths.specs.DualRows.{DualRows}
use Rattle.flow_paths.specs.declared.certificate.Routing.{Routing}
use Rattle.flow_paths.specs.declared.certificate.Printed.{Printed}
use Rattle.gap_fraction.specs.declared.fraction.TheConstants.{MAX_PART}
use Rattle.mcf_limits.specs.declared.TheConstants.{MAX_LENGTH}
use Rattle.cert_lines.specs.Sheet.{Sheet}
use Rattle.cert_lines.specs.HeadLines.{value_line}
use Rattle.cert_lines.specs.Rows.{length_row, potential_row}
use Rattle.cert_lines.specs.Spelling.{verdict_words, links_words, modules_words, counts_words, gap_words, phases_words, scale_words, value_words, length_words, potential_words, path_words, FitsValue, FitsLength, FitsPotential, FitsPath}
use Rattle.cert_text.specs.Reading.{has_more}
use Rattle.cert_text.specs.Papers.{dual_at}
use Rattle.cert_writer.specs.Text.{figure_lines, end_line}
use Rattle.cert_inverse.specs.Inverse.{IsCitable}
use Rattle.cert_inverse.proofs.HeadAgain.{value_again}
use Rattle.cert_inverse.proofs.RowAgain.{length_again, potential_again}
use Rattle.cert_inverse.proofs.PlacesAgain.{place, Stops, stops_rows, more_rows, next_again, rows_again, closing_again}
use Rattle.cert_inverse.proofs.TextAgain.{opening_again, scale_at_again, values_again, paths_again}
use Rattle.hop_check.specs.declared.hop_proof.HopProof.{HopProof}
use Rattle.throughput.specs.declared.part_proof.PartProof.{PartProof}
use Rattle.kind_texts.specs.Heads.{head_lines, header_at}
use Rattle.kind_texts.specs.Rows.{flows_at}
use Rattle.kind_texts.specs.HopsText.{layer_words, hops_lines, hops_text, FitsLayer, FitsHops}
use Rattle.kind_texts.specs.HopsRead.{layer_row, hops_from, hops_in}
use Rattle.kind_texts.specs.PartText.{threshold_words, total_lines, part_lines, part_text, FitsPart}
use Rattle.kind_texts.specs.PartRead.{threshold_line, totals_at, part_from, part_in}
use Rattle.kind_inverse.proofs.LayerLaws.{layer_again, threshold_again}
use Rattle.kind_inverse.proofs.CleanLines.{hops_clean, part_clean}

-- the first line, where another follows
hops_header : (line : Line) (lines : List Line) → header_at (codes "mcf-hops 1") ((codes "mcf-hops" ∷ codes "1" ∷ []) ∷ line ∷ lines) ≡ Ok (place 2 (line ∷ lines))
unfolding header_at
hops_header line lines = refl

part_header : (line : Line) (lines : List Line) → header_at (codes "mcf-throughput 1") ((codes "mcf-throughput" ∷ codes "1" ∷ []) ∷ line ∷ lines) ≡ Ok (place 2 (line ∷ lines))
unfolding header_at
part_header line lines = refl

-- ---- rows

abbrev flow_lines : Sheet → List Row → DualRows → List Line → List Line
flow_lines sheet paths d rest = map (path_words sheet) paths ++ (map (length_words sheet) d.lengths ++ (map (potential_words sheet) d.potentials ++ rest))

-- none of the rows' keywords is at the front
record StopsFlows (rest : List Line) : Type 0 where
  path : Stops (codes "path") rest
  len : Stops (codes "length") rest
  potential : Stops (codes "potential") rest

-- the rows are within the limits
record FitsFlows (sheet : Sheet) (paths : List Row) (d : DualRows) : Type 0 where
  paths_fit : AllByRecursion (FitsPath sheet) paths
  lengths : AllByRecursion (FitsLength sheet) d.lengths
  potentials : AllByRecursion (FitsPotential sheet) d.potentials

stops_paths : (sheet : Sheet) (d : DualRows) (rest : List Line) → StopsFlows rest → Stops (codes "path") (map (length_words sheet) d.lengths ++ (map (potential_words sheet) d.potentials ++ rest))
stops_paths sheet d rest stop = stops_rows (codes "path") (length_words sheet) (λ x. refl) d.lengths (map (potential_words sheet) d.potentials ++ rest) (stops_rows (codes "path") (potential_words sheet) (λ x. refl) d.potentials rest stop.path)

flows_more : (sheet : Sheet) (paths : List Row) (d : DualRows) (rest : List Line) → StopsFlows rest → has_more (flow_lines sheet paths d rest) ≡ true
flows_more sheet paths d rest stop = more_rows (codes "path") (path_words sheet) paths (map (length_words sheet) d.lengths ++ (map (potential_words sheet) d.potentials ++ rest)) (stops_paths sheet d rest stop)

flows_again : (sheet : Sheet) (at : ℕ) (paths : List Row) (d : DualRows) (rest : List Line) → IsCitable sheet → FitsFlows sheet paths d → StopsFlows rest
    → flows_at sheet (place at (flow_lines sheet paths d rest)) ≡ Ok ((paths, d), place (at + length paths + length d.lengths + length d.potentials) rest)
unfolding flows_at dual_at
flows_again sheet at paths d rest own fits stop =
    let from_potentials = map (potential_words sheet) d.potentials ++ rest in
    let from_lengths = map (length_words sheet) d.lengths ++ from_potentials in
    let first = paths_again sheet at paths from_lengths own fits.paths_fit (stops_paths sheet d rest stop) in
    let lengths = rows_again (codes "length") (length_row sheet) (length_words sheet) (FitsLength sheet) (λ x h. length_again sheet x own.clear h) (λ x. refl) (at + length paths) d.lengths from_potentials fits.lengths (stops_rows (codes "length") (potential_words sheet) (λ x. refl) d.potentials rest stop.len) in
    let potentials = rows_again (codes "potential") (potential_row sheet) (potential_words sheet) (FitsPotential sheet) (λ x h. potential_again sheet x own.clear h) (λ x. refl) (at + length paths + length d.lengths) d.potentials rest fits.potentials stop.potential in
    rw (first, lengths, potentials) refl

-- ---- hop limits

abbrev from_scale : Routing → List Line → List Line
from_scale r rest = phases_words r.phases ∷ scale_words (r.scale_cap, r.scale_load) ∷ rest

hops_again : (sheet : Sheet) (h : HopProof) → IsCitable sheet → FitsHops sheet h → hops_in sheet (hops_lines sheet h ++ ended) ≡ Ok h
unfolding hops_in hops_from
hops_again sheet h own fits =
    let p = h.proof in
    let r = p.routing in
    let layers = map (layer_words sheet) h.layers in
    let rest : List Line = layers ++ (end_line ∷ ended) in
    let stop : StopsFlows rest = record {
      path = stops_rows (codes "path") (layer_words sheet) (λ x. refl) h.layers (end_line ∷ ended) refl;
      len = stops_rows (codes "length") (layer_words sheet) (λ x. refl) h.layers (end_line ∷ ended) refl;
      potential = stops_rows (codes "potential") (layer_words sheet) (λ x. refl) h.layers (end_line ∷ ended) refl;
    } in
    let rows = flow_lines sheet r.paths p.dual rest in
    let from_values = value_words (codes "lower") p.lower ∷ value_words (codes "upper") p.upper ∷ rows in
    let behind_verdict = links_words sheet ∷ modules_words sheet ∷ counts_words sheet ∷ gap_words p.gap ∷ from_scale r from_values in
    let same : (map (path_words sheet) r.paths ++ (map (length_words sheet) p.dual.lengths ++ (map (potential_words sheet) p.dual.potentials ++ (layers ++ end_line ∷ [])))) ++ ended ≡ rows = simp append_assoc in
    let first = hops_header (verdict_words p.closed) behind_verdict in
    let opening = opening_again sheet p.closed p.gap 2 (from_scale r from_values) own fits.proof.gap refl in
    let scale = scale_at_again r.phases r.scale_cap r.scale_load 7 from_values fits.proof.routing.phases fits.proof.routing.scale_cap fits.proof.routing.scale_load refl in
    let values = values_again p.lower p.upper 9 rows fits.proof.lower fits.proof.upper (flows_more sheet r.paths p.dual rest stop) in
    let at : ℕ = 11 + length r.paths + length p.dual.lengths + length p.dual.potentials in
    let flows = flows_again sheet 11 r.paths p.dual rest own (record { paths_fit = fits.proof.routing.paths; lengths = fits.proof.lengths; potentials = fits.proof.potentials }) stop in
    let last = rows_again (codes "layer") (layer_row sheet) (layer_words sheet) (FitsLayer sheet) (λ x f. layer_again sheet x own.clear f) (λ x. refl) at h.layers (end_line ∷ ended) fits.layers refl in
    ap (λ (ls : List Line). hops_in sheet (head_lines (codes "mcf-hops") sheet p.closed ++ (figure_lines p ++ ls))) same
    ∙ rw (first, opening, scale, values, flows, last, closing_again (at + length h.layers)) refl

-- what is written is read as the same
pub hops_read_back : (sheet : Sheet) (h : HopProof) → IsCitable sheet → FitsHops sheet h → hops_in sheet (lines_of (hops_text sheet h)) ≡ Ok h
hops_read_back sheet h own fits = ap (hops_in sheet) (lines_of-text (hops_lines sheet h) (hops_clean sheet h own fits)) ∙ hops_again sheet h own fits

-- ---- totals

totals_again : (lower upper : Printed) (threshold at : ℕ) (rest : List Line) → FitsValue MAX_PART lower → FitsValue MAX_PART upper → threshold ≤ MAX_LENGTH → has_more rest ≡ true
    → totals_at (place at (value_words (codes "lower") lower ∷ value_words (codes "upper") upper ∷ threshold_words threshold ∷ rest)) ≡ Ok ((lower, upper, threshold), place (at + 1 + 1 + 1) rest)
unfolding totals_at
totals_again lower upper threshold at rest l u t more =
    let first = next_again (value_line (codes "lower") MAX_PART) at (value_words (codes "lower") lower) (value_words (codes "upper") upper ∷ threshold_words threshold ∷ rest) lower refl (value_again (codes "lower") MAX_PART lower (omega arith) l) in
    let second = next_again (value_line (codes "upper") MAX_PART) (at + 1) (value_words (codes "upper") upper) (threshold_words threshold ∷ rest) upper refl (value_again (codes "upper") MAX_PART upper (omega arith) u) in
    let third = next_again threshold_line (at + 1 + 1) (threshold_words threshold) rest threshold more (threshold_again threshold t) in
    rw (first, second, third) refl

part_again : (sheet : Sheet) (p : PartProof) → IsCitable sheet → FitsPart sheet p → part_in sheet (part_lines sheet p ++ ended) ≡ Ok p
unfolding part_in part_from
part_again sheet p own fits =
    let r = p.routing in
    let d = p.bound.dual in
    let rest : List Line = end_line ∷ ended in
    let stop : StopsFlows rest = record { path = refl; len = refl; potential = refl } in
    let rows = flow_lines sheet r.paths d rest in
    let from_totals = value_words (codes "lower") p.lower ∷ value_words (codes "upper") p.upper ∷ threshold_words p.bound.threshold ∷ rows in
    let behind_verdict = links_words sheet ∷ modules_words sheet ∷ counts_words sheet ∷ gap_words p.gap ∷ from_scale r from_totals in
    let same : (map (path_words sheet) r.paths ++ (map (length_words sheet) d.lengths ++ (map (potential_words sheet) d.potentials ++ end_line ∷ []))) ++ ended ≡ rows = simp append_assoc in
    let first = part_header (verdict_words p.closed) behind_verdict in
    let opening = opening_again sheet p.closed p.gap 2 (from_scale r from_totals) own fits.gap refl in
    let scale = scale_at_again r.phases r.scale_cap r.scale_load 7 from_totals fits.routing.phases fits.routing.scale_cap fits.routing.scale_load refl in
    let totals = totals_again p.lower p.upper p.bound.threshold 9 rows fits.lower fits.upper fits.threshold (flows_more sheet r.paths d rest stop) in
    let flows = flows_again sheet 12 r.paths d rest own (record { paths_fit = fits.routing.paths; lengths = fits.lengths; potentials = fits.potentials }) stop in
    ap (λ (ls : List Line). part_in sheet (head_lines (codes "mcf-throughput") sheet p.closed ++ (total_lines p ++ ls))) same
    ∙ rw (first, opening, scale, totals, flows, closing_again (12 + length r.paths + length d.lengths + length d.potentials)) refl

pub part_read_back : (sheet : Sheet) (p : PartProof) → IsCitable sheet → FitsPart sheet p → part_in sheet (lines_of (part_text sheet p)) ≡ Ok p
part_read_back sheet p own fits = ap (part_in sheet) (lines_of-text (part_lines sheet p) (part_clean sheet p own fits)) ∙ part_again sheet p own fits
