-- The lines of certificates with hop limits and of totals have words without spaces and line feeds in them.
use Rattle.std.proofs.Common.{◌≡◌, ℕ, zero, suc, ◌+◌, ◌/◌, ◌%◌, ◌≤◌, ◌<◌, Bool, true, false, eqb, List, [], ◌∷◌, ◌++◌, length, get_or, refl, arith}
use Rattle.std.specs.Prelude.{codes, map, slice_index}
use Rattle.std.specs.List.{AllByRecursion}
use Rattle.std.specs.Fmt.{decimal}
use Rattle.std.proofs.lemmas.Bool.Decides.{nat_tests}
use Rattle.text_lines.specs.Lines.{Line, IsInside, IsLine}
use Rattle.flow_model.specs.Routing.{Row}
use Rattle.flow_paths.specs.DualRows.{DualRows, Length, Potential}
use Rattle.flow_paths.specs.declared.certificate.Printed.{Printed}
use Rattle.gap_fraction.specs.declared.fraction.TheConstants.{MAX_PART}
use Rattle.mcf_limits.specs.declared.TheConstants.{MAX_LENGTH, MAX_GAP, MAX_PHASES, MAX_UNITS}
use Rattle.text_lines.specs.Spelling.{fraction_word, six_digits, decimal_word}
use Rattle.cert_lines.specs.Sheet.{Sheet, cell_word}
use Rattle.cert_lines.specs.declared.net_line.TheConstants.{MAX_COUNT}
use Rattle.cert_lines.specs.Spelling.{counts_words, gap_words, phases_words, scale_words, value_words, length_words, potential_words, path_words, verdict_words, FitsValue, FitsLength, FitsPotential, FitsPath, AreClean}
use Rattle.cert_writer.specs.Text.{end_line}
use Rattle.cert_inverse.specs.Inverse.{IsCitable}
use Rattle.cert_inverse.proofs.Clean.{Clean, clean, clean_number}
use Rattle.hop_check.specs.LayerRows.{Layer}
use Rattle.hop_check.specs.declared.hop_proof.HopProof.{HopProof}
use Rattle.throughput.specs.declared.part_proof.PartProof.{PartProof}
use Rattle.kind_texts.specs.Heads.{head_lines}
use Rattle.kind_texts.specs.HopsText.{layer_words, from_figures, hops_lines, FitsLayer, FitsHops}
use Rattle.kind_texts.specs.PartText.{threshold_words, from_totals, part_lines, FitsPart}

no_blank : (c : ℕ) → 46 ≤ c → IsInside c
no_blank c h = (one c h, two c h)
  where
    one : (d : ℕ) → 46 ≤ d → eqb d 32 ≡ false
    one d h = grind (arith, nat_tests)

    two : (d : ℕ) → 46 ≤ d → eqb d 10 ≡ false
    two d h = grind (arith, nat_tests)

clean_both : (xs ys : List ℕ) → Clean xs → Clean ys → Clean (xs ++ ys)
clean_both [] ys h k = k
clean_both (x ∷ xs) ys h k = (h.0, clean_both xs ys h.1 k)

clean_fraction : (num den : ℕ) → num ≤ MAX_PART → den ≤ MAX_PART → Clean (fraction_word num den)
clean_fraction num den p q = clean_both (decimal num) (47 ∷ decimal den) (clean_number num p) (no_blank 47 (omega arith), clean_number den q)

clean_decimal : (whole micro : ℕ) → whole ≤ MAX_PART → Clean (decimal_word whole micro)
clean_decimal whole micro p =
    let at = λ (n : ℕ). no_blank (48 + n) (omega arith) in
    clean_both (decimal whole) (46 ∷ six_digits micro) (clean_number whole p)
    (no_blank 46 (omega arith), (at (micro / 100000 % 10), (at (micro / 10000 % 10), (at (micro / 1000 % 10), (at (micro / 100 % 10), (at (micro / 10 % 10), (at (micro % 10), tt)))))))

clean_name : (names : List (List ℕ)) (i : ℕ) → AreClean names → i < length names → Clean (get_or names i [])
clean_name [] i h lt = absurd (omega arith)
clean_name (name ∷ names) zero h lt = h.0
clean_name (name ∷ names) (suc i) h lt = clean_name names i h.1 (omega arith)

-- ---- lines

clean_value : (key : List ℕ) (most : ℕ) (x : Printed) → Clean key → most ≤ MAX_PART → FitsValue most x → IsLine (value_words key x)
clean_value key most x own limit fits = (own, (clean_fraction x.num x.den (omega (arith, fits.num)) (omega (arith, fits.den)), (clean_decimal x.whole x.micro fits.whole, tt)))

clean_cells : (sheet : Sheet) (walk : List ℕ) → AreClean sheet.cells → AllByRecursion (λ c. c < length sheet.cells) walk → AreClean (map (cell_word sheet) walk)
clean_cells sheet [] own h = tt
clean_cells sheet (c ∷ walk) own h = (clean_name sheet.cells c own h.0, clean_cells sheet walk own h.1)

clean_numbers : (ns : List ℕ) → AllByRecursion (λ n. n ≤ MAX_LENGTH) ns → AreClean (map decimal ns)
clean_numbers [] h = tt
clean_numbers (n ∷ ns) h = (clean_number n (omega (arith, h.0)), clean_numbers ns h.1)

clean_path : (sheet : Sheet) → IsCitable sheet → (r : Row) → FitsPath sheet r → IsLine (path_words sheet r)
clean_path sheet own r fits = (clean (codes "path") refl, (clean_name sheet.commodities r.commodity own.clear.clean_commodities fits.commodity, (clean_number r.weight (omega (arith, fits.weight)), clean_cells sheet r.walk own.clear.clean_cells fits.cells)))

clean_length : (sheet : Sheet) → IsCitable sheet → (r : Length) → FitsLength sheet r → IsLine (length_words sheet r)
clean_length sheet own r fits = (clean (codes "length") refl, (clean_name sheet.cells r.cell own.clear.clean_cells fits.cell, (clean_number r.value (omega (arith, fits.value)), tt)))

clean_potential : (sheet : Sheet) → IsCitable sheet → (r : Potential) → FitsPotential sheet r → IsLine (potential_words sheet r)
clean_potential sheet own r fits = (clean (codes "potential") refl, (clean_name sheet.nodes r.node own.clear.clean_nodes fits.node, clean_numbers r.values fits.values))

clean_verdict : (closed : Bool) → IsLine (verdict_words closed)
clean_verdict true = (clean (codes "verdict") refl, (clean (codes "closed") refl, tt))
clean_verdict false = (clean (codes "verdict") refl, (clean (codes "open") refl, tt))

count_small : (ns : List ℕ) (i : ℕ) → AllByRecursion (λ n. n ≤ MAX_COUNT) ns → slice_index ns i ≤ MAX_PART
count_small [] i h = omega arith
count_small (n ∷ ns) zero h = omega (arith, h.0)
count_small (n ∷ ns) (suc i) h = count_small ns i h.1

clean_counts : (sheet : Sheet) → IsCitable sheet → IsLine (counts_words sheet)
clean_counts sheet own =
    let count = λ (i : ℕ). clean_number (slice_index sheet.counts i) (count_small sheet.counts i own.counts.within) in (
      clean (codes "net") refl,
      (
        clean (codes "nodes") refl,
        (
          count 0,
          (
            clean (codes "cells") refl,
            (
              count 1,
              (
                clean (codes "commodities") refl,
                (
                  count 2,
                  (
                    clean (codes "decimals") refl,
                    (
                      count 3,
                      (clean (codes "skipped") refl, (count 4, (clean (codes "left") refl, (count 5, (clean (codes "hops") refl, (count 6, tt)))))),
                    ),
                  ),
                ),
              ),
            ),
          ),
        ),
      ),
    )

-- ---- texts

rows_are : {X : Type 0} (spelling : X → Line) (Fits : X → Type 0) → ((x : X) → Fits x → IsLine (spelling x)) → (rows : List X) (rest : List Line) → AllByRecursion Fits rows → AllByRecursion IsLine rest → AllByRecursion IsLine (map spelling rows ++ rest)
rows_are spelling Fits sound [] rest fit h = h
rows_are spelling Fits sound (x ∷ rows) rest fit h = (sound x fit.0, rows_are spelling Fits sound rows rest fit.1 h)

is_end : AllByRecursion IsLine (end_line ∷ [])
is_end = ((clean (codes "end") refl, tt), tt)

clean_layer : (sheet : Sheet) → IsCitable sheet → (r : Layer) → FitsLayer sheet r → IsLine (layer_words sheet r)
clean_layer sheet own r fits = (clean (codes "layer") refl, (clean_name sheet.nodes r.node own.clear.clean_nodes fits.node, (clean_number r.index (omega (arith, fits.index)), clean_numbers r.values fits.values)))

clean_gap : (gap : ℕ) → gap ≤ MAX_GAP → IsLine (gap_words gap)
clean_gap gap le = (clean (codes "gap") refl, (clean_decimal (gap / 1000000) (gap % 1000000) (omega arith), tt))

clean_phases : (n : ℕ) → n ≤ MAX_PHASES → IsLine (phases_words n)
clean_phases n le = (clean (codes "phases") refl, (clean_number n (omega arith), tt))

clean_scale : (c l : ℕ) → c ≤ MAX_UNITS → l ≤ MAX_LENGTH → IsLine (scale_words (c, l))
clean_scale c l p q = (clean (codes "scale") refl, (clean_number c (omega arith), (clean_number l (omega arith), tt)))

clean_threshold : (n : ℕ) → n ≤ MAX_LENGTH → IsLine (threshold_words n)
clean_threshold n le = (clean (codes "threshold") refl, (clean_number n (omega arith), tt))

-- the head, and what follows
clean_head : (word : List ℕ) (sheet : Sheet) (closed : Bool) (rest : List Line) → Clean word → IsCitable sheet → AllByRecursion IsLine rest → AllByRecursion IsLine (head_lines word sheet closed ++ rest)
clean_head word sheet closed rest w own h = (
  (w, (clean (codes "1") refl, tt)),
  (
    clean_verdict closed,
    ((clean (codes "links") refl, (own.clear.clean_modes.0, tt)), ((clean (codes "modules") refl, (own.clear.clean_modes.1, tt)), (clean_counts sheet own, h))),
  ),
)

-- the rows, and what follows
clean_flows : (sheet : Sheet) (paths : List Row) (d : DualRows) (rest : List Line) → IsCitable sheet → AllByRecursion (FitsPath sheet) paths → AllByRecursion (FitsLength sheet) d.lengths → AllByRecursion (FitsPotential sheet) d.potentials → AllByRecursion IsLine rest
    → AllByRecursion IsLine (map (path_words sheet) paths ++ (map (length_words sheet) d.lengths ++ (map (potential_words sheet) d.potentials ++ rest)))
clean_flows sheet paths d rest own p l v h =
    let potentials = rows_are (potential_words sheet) (FitsPotential sheet) (clean_potential sheet own) d.potentials rest v h in
    let lengths = rows_are (length_words sheet) (FitsLength sheet) (clean_length sheet own) d.lengths (map (potential_words sheet) d.potentials ++ rest) l potentials in
    rows_are (path_words sheet) (FitsPath sheet) (clean_path sheet own) paths (map (length_words sheet) d.lengths ++ (map (potential_words sheet) d.potentials ++ rest)) p lengths

pub hops_clean : (sheet : Sheet) (h : HopProof) → IsCitable sheet → FitsHops sheet h → AllByRecursion IsLine (hops_lines sheet h)
hops_clean sheet h own fits =
    let p = h.proof in
    let f = fits.proof in
    let layers = rows_are (layer_words sheet) (FitsLayer sheet) (clean_layer sheet own) h.layers (end_line ∷ []) fits.layers is_end in
    let flows = clean_flows sheet p.routing.paths p.dual (map (layer_words sheet) h.layers ++ end_line ∷ []) own f.routing.paths f.lengths f.potentials layers in
    let rest : AllByRecursion IsLine (from_figures sheet h) = (
      clean_gap p.gap f.gap,
      (
        clean_phases p.routing.phases f.routing.phases,
        (
          clean_scale p.routing.scale_cap p.routing.scale_load f.routing.scale_cap f.routing.scale_load,
          (clean_value (codes "lower") MAX_LENGTH p.lower (clean (codes "lower") refl) (omega arith) f.lower, (clean_value (codes "upper") MAX_PART p.upper (clean (codes "upper") refl) (omega arith) f.upper, flows)),
        ),
      ),
    ) in
    clean_head (codes "mcf-hops") sheet p.closed (from_figures sheet h) (clean (codes "mcf-hops") refl) own rest

pub part_clean : (sheet : Sheet) (p : PartProof) → IsCitable sheet → FitsPart sheet p → AllByRecursion IsLine (part_lines sheet p)
part_clean sheet p own f =
    let d = p.bound.dual in
    let flows = clean_flows sheet p.routing.paths d (end_line ∷ []) own f.routing.paths f.lengths f.potentials is_end in
    let rest : AllByRecursion IsLine (from_totals sheet p) = (
      clean_gap p.gap f.gap,
      (
        clean_phases p.routing.phases f.routing.phases,
        (
          clean_scale p.routing.scale_cap p.routing.scale_load f.routing.scale_cap f.routing.scale_load,
          (
            clean_value (codes "lower") MAX_PART p.lower (clean (codes "lower") refl) (omega arith) f.lower,
            (clean_value (codes "upper") MAX_PART p.upper (clean (codes "upper") refl) (omega arith) f.upper, (clean_threshold p.bound.threshold f.threshold, flows)),
          ),
        ),
      ),
    ) in
    clean_head (codes "mcf-throughput") sheet p.closed (from_totals sheet p) (clean (codes "mcf-throughput") refl) own rest
