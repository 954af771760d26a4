-- The lines of a certificate and of a routing have words without spaces and line feeds in them.
use Rattle.std.proofs.Common.{◌≡◌, ℕ, zero, suc, ◌+◌, ◌/◌, ◌%◌, ◌≤◌, ◌<◌, Bool, true, false, not, eqb, List, [], ◌∷◌, ◌++◌, length, get_or, refl, arith}
use Rattle.std.specs.Prelude.{codes, map, slice_index, ◌&&◌}
use Rattle.std.specs.List.{AllByRecursion, list_all}
use Rattle.std.specs.Fmt.{decimal}
use Rattle.std.specs.Str.Parse.{AllDigits}
use Rattle.std.proofs.lemmas.Bool.{not-true}
use Rattle.std.proofs.lemmas.Bool.Decides.{nat_tests}
use Rattle.std.proofs.lemmas.Fmt.{decimal_is_IsNumeral_wide}
use Rattle.std.proofs.lemmas.Str.Parse.{digit_from_value}
use Rattle.text_lines.specs.Lines.{Line, IsInside, IsLine}
use Rattle.flow_model.specs.Routing.{Row}
use Rattle.flow_paths.specs.DualRows.{Length, Potential}
use Rattle.flow_paths.specs.declared.certificate.Routing.{Routing}
use Rattle.flow_paths.specs.declared.certificate.Printed.{Printed}
use Rattle.flow_paths.specs.declared.certificate.Proof.{Proof}
use Rattle.gap_fraction.specs.declared.fraction.TheConstants.{MAX_PART}
use Rattle.mcf_limits.specs.declared.TheConstants.{MAX_LENGTH}
use Rattle.text_lines.specs.Spelling.{fraction_word, six_digits, decimal_word}
use Rattle.cert_lines.specs.Sheet.{Sheet, cell_word}
use Rattle.cert_lines.specs.declared.net_line.TheConstants.{MAX_COUNT}
use Rattle.cert_lines.specs.Spelling.{counts_words, value_words, length_words, potential_words, path_words, verdict_words, FitsValue, FitsLength, FitsPotential, FitsPath, AreClean}
use Rattle.cert_lines.proofs.NumberSteps.{both_true}
use Rattle.cert_writer.specs.Text.{end_line, certificate_lines, routing_lines, FitsRouting, FitsProof}
use Rattle.cert_inverse.specs.Inverse.{IsCitable}

abbrev pub Clean : List ℕ → Type 0
Clean word = AllByRecursion IsInside word

-- ---- words

abbrev inside : ℕ → Bool
inside b = not (eqb b 32) && not (eqb b 10)

pub clean : (word : List ℕ) → list_all inside word ≡ true → Clean word
clean [] h = tt
clean (b ∷ word) h =
    let p = both_true (inside b) (list_all inside word) h in
    let q = both_true (not (eqb b 32)) (not (eqb b 10)) p.0 in
    ((not-true (eqb b 32) q.0, not-true (eqb b 10) q.1), clean word p.1)

no_blank : (c : ℕ) → 46 ≤ c → IsInside c
no_blank c h = (one c h, two c h)
  where
    one : (d : ℕ) → 46 ≤ d → eqb d 32 ≡ false
    one d h = grind (arith, nat_tests)

    two : (d : ℕ) → 46 ≤ d → eqb d 10 ≡ false
    two d h = grind (arith, nat_tests)

clean_digits : (ds : List ℕ) → AllDigits 10 ds → Clean ds
clean_digits [] d = tt
clean_digits (c ∷ cs) d =
    let r = digit_from_value c d.0 in
    (no_blank c (omega (arith, r.0)), clean_digits cs d.1)

pub clean_number : (n : ℕ) → n ≤ MAX_PART → Clean (decimal n)
clean_number n small = clean_digits (decimal n) (decimal_is_IsNumeral_wide n (omega arith)).0.1

clean_both : (xs ys : List ℕ) → Clean xs → Clean ys → Clean (xs ++ ys)
clean_both [] ys h k = k
clean_both (x ∷ xs) ys h k = (h.0, clean_both xs ys h.1 k)

clean_fraction : (num den : ℕ) → num ≤ MAX_PART → den ≤ MAX_PART → Clean (fraction_word num den)
clean_fraction num den p q = clean_both (decimal num) (47 ∷ decimal den) (clean_number num p) (no_blank 47 (omega arith), clean_number den q)

clean_decimal : (whole micro : ℕ) → whole ≤ MAX_PART → Clean (decimal_word whole micro)
clean_decimal whole micro p =
    let at = λ (n : ℕ). no_blank (48 + n) (omega arith) in
    clean_both (decimal whole) (46 ∷ six_digits micro) (clean_number whole p)
    (no_blank 46 (omega arith), (at (micro / 100000 % 10), (at (micro / 10000 % 10), (at (micro / 1000 % 10), (at (micro / 100 % 10), (at (micro / 10 % 10), (at (micro % 10), tt)))))))

clean_name : (names : List (List ℕ)) (i : ℕ) → AreClean names → i < length names → Clean (get_or names i [])
clean_name [] i h lt = absurd (omega arith)
clean_name (name ∷ names) zero h lt = h.0
clean_name (name ∷ names) (suc i) h lt = clean_name names i h.1 (omega arith)

-- ---- lines

clean_value : (key : List ℕ) (most : ℕ) (x : Printed) → Clean key → most ≤ MAX_PART → FitsValue most x → IsLine (value_words key x)
clean_value key most x own limit fits = (own, (clean_fraction x.num x.den (omega (arith, fits.num)) (omega (arith, fits.den)), (clean_decimal x.whole x.micro fits.whole, tt)))

clean_cells : (sheet : Sheet) (walk : List ℕ) → AreClean sheet.cells → AllByRecursion (λ c. c < length sheet.cells) walk → AreClean (map (cell_word sheet) walk)
clean_cells sheet [] own h = tt
clean_cells sheet (c ∷ walk) own h = (clean_name sheet.cells c own h.0, clean_cells sheet walk own h.1)

clean_numbers : (ns : List ℕ) → AllByRecursion (λ n. n ≤ MAX_LENGTH) ns → AreClean (map decimal ns)
clean_numbers [] h = tt
clean_numbers (n ∷ ns) h = (clean_number n (omega (arith, h.0)), clean_numbers ns h.1)

clean_path : (sheet : Sheet) → IsCitable sheet → (r : Row) → FitsPath sheet r → IsLine (path_words sheet r)
clean_path sheet own r fits = (clean (codes "path") refl, (clean_name sheet.commodities r.commodity own.clear.clean_commodities fits.commodity, (clean_number r.weight (omega (arith, fits.weight)), clean_cells sheet r.walk own.clear.clean_cells fits.cells)))

clean_length : (sheet : Sheet) → IsCitable sheet → (r : Length) → FitsLength sheet r → IsLine (length_words sheet r)
clean_length sheet own r fits = (clean (codes "length") refl, (clean_name sheet.cells r.cell own.clear.clean_cells fits.cell, (clean_number r.value (omega (arith, fits.value)), tt)))

clean_potential : (sheet : Sheet) → IsCitable sheet → (r : Potential) → FitsPotential sheet r → IsLine (potential_words sheet r)
clean_potential sheet own r fits = (clean (codes "potential") refl, (clean_name sheet.nodes r.node own.clear.clean_nodes fits.node, clean_numbers r.values fits.values))

clean_verdict : (closed : Bool) → IsLine (verdict_words closed)
clean_verdict true = (clean (codes "verdict") refl, (clean (codes "closed") refl, tt))
clean_verdict false = (clean (codes "verdict") refl, (clean (codes "open") refl, tt))

count_small : (ns : List ℕ) (i : ℕ) → AllByRecursion (λ n. n ≤ MAX_COUNT) ns → slice_index ns i ≤ MAX_PART
count_small [] i h = omega arith
count_small (n ∷ ns) zero h = omega (arith, h.0)
count_small (n ∷ ns) (suc i) h = count_small ns i h.1

clean_counts : (sheet : Sheet) → IsCitable sheet → IsLine (counts_words sheet)
clean_counts sheet own =
    let count = λ (i : ℕ). clean_number (slice_index sheet.counts i) (count_small sheet.counts i own.counts.within) in (
      clean (codes "net") refl,
      (
        clean (codes "nodes") refl,
        (
          count 0,
          (
            clean (codes "cells") refl,
            (
              count 1,
              (
                clean (codes "commodities") refl,
                (
                  count 2,
                  (
                    clean (codes "decimals") refl,
                    (
                      count 3,
                      (clean (codes "skipped") refl, (count 4, (clean (codes "left") refl, (count 5, (clean (codes "hops") refl, (count 6, tt)))))),
                    ),
                  ),
                ),
              ),
            ),
          ),
        ),
      ),
    )

-- ---- texts

rows_are : {X : Type 0} (spelling : X → Line) (Fits : X → Type 0) → ((x : X) → Fits x → IsLine (spelling x)) → (rows : List X) (rest : List Line) → AllByRecursion Fits rows → AllByRecursion IsLine rest → AllByRecursion IsLine (map spelling rows ++ rest)
rows_are spelling Fits sound [] rest fit h = h
rows_are spelling Fits sound (x ∷ rows) rest fit h = (sound x fit.0, rows_are spelling Fits sound rows rest fit.1 h)

is_end : AllByRecursion IsLine (end_line ∷ [])
is_end = ((clean (codes "end") refl, tt), tt)

pub routing_clean : (sheet : Sheet) (r : Routing) → Clean sheet.form → IsCitable sheet → FitsRouting sheet r → AllByRecursion IsLine (routing_lines sheet r)
routing_clean sheet r form own fits = (
  (clean (codes "mcf-routing") refl, (form, tt)),
  (
    (clean (codes "links") refl, (own.clear.clean_modes.0, tt)),
    (
      (clean (codes "modules") refl, (own.clear.clean_modes.1, tt)),
      (
        (clean (codes "phases") refl, (clean_number r.phases (omega (arith, fits.phases)), tt)),
        (
          (clean (codes "scale") refl, (clean_number r.scale_cap (omega (arith, fits.scale_cap)), (clean_number r.scale_load (omega (arith, fits.scale_load)), tt))),
          rows_are (path_words sheet) (FitsPath sheet) (clean_path sheet own) r.paths (end_line ∷ []) fits.paths is_end,
        ),
      ),
    ),
  ),
)

pub certificate_clean : (sheet : Sheet) (p : Proof) → Clean sheet.form → IsCitable sheet → FitsProof sheet p → AllByRecursion IsLine (certificate_lines sheet p)
certificate_clean sheet p form own fits =
    let r = p.routing in
    let potentials = rows_are (potential_words sheet) (FitsPotential sheet) (clean_potential sheet own) p.dual.potentials (end_line ∷ []) fits.potentials is_end in
    let lengths = rows_are (length_words sheet) (FitsLength sheet) (clean_length sheet own) p.dual.lengths (map (potential_words sheet) p.dual.potentials ++ end_line ∷ []) fits.lengths potentials in
    let paths = rows_are (path_words sheet) (FitsPath sheet) (clean_path sheet own) r.paths (map (length_words sheet) p.dual.lengths ++ (map (potential_words sheet) p.dual.potentials ++ end_line ∷ [])) fits.routing.paths lengths in (
      (clean (codes "mcf-certificate") refl, (form, tt)),
      (
        clean_verdict p.closed,
        (
          (clean (codes "links") refl, (own.clear.clean_modes.0, tt)),
          (
            (clean (codes "modules") refl, (own.clear.clean_modes.1, tt)),
            (
              clean_counts sheet own,
              (
                (clean (codes "gap") refl, (clean_decimal (p.gap / 1000000) (p.gap % 1000000) (omega (arith, fits.gap)), tt)),
                (
                  (clean (codes "phases") refl, (clean_number r.phases (omega (arith, fits.routing.phases)), tt)),
                  (
                    (clean (codes "scale") refl, (clean_number r.scale_cap (omega (arith, fits.routing.scale_cap)), (clean_number r.scale_load (omega (arith, fits.routing.scale_load)), tt))),
                    (
                      clean_value (codes "lower") MAX_LENGTH p.lower (clean (codes "lower") refl) (omega arith) fits.lower,
                      (
                        clean_value (codes "upper") MAX_PART p.upper (clean (codes "upper") refl) (omega arith) fits.upper,
                        paths,
                      ),
                    ),
                  ),
                ),
              ),
            ),
          ),
        ),
      ),
    )
