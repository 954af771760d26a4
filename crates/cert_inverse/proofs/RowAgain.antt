-- Rows: what is spelled is read.
use Rattle.std.proofs.Common.{◌≡◌, ℕ, ◌+◌, ◌≤◌, ◌<◌, true, List, [], ◌∷◌, length, Ok, refl, ◌∙◌, arith}
use Rattle.std.specs.Prelude.{codes, nat_lt, nat_eq, map}
use Rattle.std.specs.List.{AllByRecursion, list_all}
use Rattle.std.specs.Fmt.{decimal}
use Rattle.std.proofs.lemmas.Bool.Decides.{nat_tests}
use Rattle.std.proofs.lemmas.List.{length-map}
use Rattle.flow_model.specs.Routing.{Row}
use Rattle.flow_paths.specs.DualRows.{Length, Potential}
use Rattle.mcf_limits.specs.declared.TheConstants.{MAX_LENGTH, MAX_PATH_CELLS}
use Rattle.cert_lines.specs.Sheet.{Sheet, node_word, cell_word, commodity_word, AreNames}
use Rattle.cert_lines.specs.Forms.{is_full}
use Rattle.cert_lines.specs.Numbers.{number_within}
use Rattle.cert_lines.specs.Rows.{length_row, cells_from, path_row, potentials_from, potential_row}
use Rattle.cert_lines.specs.Spelling.{length_words, potential_words, path_words, FitsLength, FitsPotential, FitsPath, IsClear}
use Rattle.cert_lines.proofs.NumberLaws.{number_again}
use Rattle.cert_inverse.proofs.Words.{place_again, full_name, two_again, list_again, row_again}
use Rattle.cert_inverse.proofs.Decimals.{full_number}

length_number : (n : ℕ) → n ≤ MAX_LENGTH → number_within MAX_LENGTH (decimal n) ≡ Ok n
length_number n le = number_again MAX_LENGTH n (omega arith) le

full_length : (n : ℕ) → n ≤ MAX_LENGTH → is_full (decimal n) ≡ true
full_length n le = full_number n (omega arith)

pub length_again : (sheet : Sheet) (r : Length) → IsClear sheet → FitsLength sheet r → length_row sheet (length_words sheet r) ≡ Ok r
unfolding length_row
length_again sheet r own fits =
    let form = two_again (codes "length") (cell_word sheet r.cell) (decimal r.value) (full_name sheet.cells r.cell own.cells fits.cell) (full_length r.value fits.value) in
    rw (form, place_again sheet.cells r.cell own.cells fits.cell, length_number r.value fits.value) refl

full_cells : (sheet : Sheet) (walk : List ℕ) → AreNames sheet.cells → AllByRecursion (λ c. c < length sheet.cells) walk → list_all is_full (map (cell_word sheet) walk) ≡ true
full_cells sheet [] own h = refl
full_cells sheet (c ∷ walk) own h = rw (full_name sheet.cells c own h.0, full_cells sheet walk own h.1) refl

cells_again : (sheet : Sheet) (count : ℕ) (walk : List ℕ) → AreNames sheet.cells → AllByRecursion (λ c. c < length sheet.cells) walk → count + length walk ≤ MAX_PATH_CELLS → cells_from sheet count (map (cell_word sheet) walk) ≡ Ok walk
unfolding cells_from
cells_again sheet count [] own h short = refl
cells_again sheet count (c ∷ walk) own h short =
    let lt : count < MAX_PATH_CELLS = omega arith in
    let few : nat_lt count MAX_PATH_CELLS ≡ true = below count MAX_PATH_CELLS lt in
    rw (few, place_again sheet.cells c own h.0, cells_again sheet (count + 1) walk own h.1 (omega arith)) refl
  where
    below : (a b : ℕ) → a < b → nat_lt a b ≡ true
    below a b l = grind (arith, nat_tests)

pub path_again : (sheet : Sheet) (r : Row) → IsClear sheet → FitsPath sheet r → path_row sheet (path_words sheet r) ≡ Ok r
unfolding path_row
path_again sheet r own fits =
    let form = row_again (codes "path") (commodity_word sheet r.commodity) (decimal r.weight) (map (cell_word sheet) r.walk) (full_name sheet.commodities r.commodity own.commodities fits.commodity) (full_length r.weight fits.weight) (full_cells sheet r.walk own.cells fits.cells) in
    rw (form, place_again sheet.commodities r.commodity own.commodities fits.commodity, length_number r.weight fits.weight, cells_again sheet 0 r.walk own.cells fits.cells (omega (arith, fits.short))) refl

full_values : (values : List ℕ) → AllByRecursion (λ n. n ≤ MAX_LENGTH) values → list_all is_full (map decimal values) ≡ true
full_values [] h = refl
full_values (n ∷ values) h = rw (full_length n h.0, full_values values h.1) refl

values_again : (values : List ℕ) → AllByRecursion (λ n. n ≤ MAX_LENGTH) values → potentials_from (map decimal values) ≡ Ok values
unfolding potentials_from
values_again [] h = refl
values_again (n ∷ values) h = rw (length_number n h.0, values_again values h.1) refl

pub potential_again : (sheet : Sheet) (r : Potential) → IsClear sheet → FitsPotential sheet r → potential_row sheet (potential_words sheet r) ≡ Ok r
unfolding potential_row
potential_again sheet r own fits =
    let form = list_again (codes "potential") (node_word sheet r.node) (map decimal r.values) (full_name sheet.nodes r.node own.nodes fits.node) (full_values r.values fits.values) in
    let many : nat_eq (length (map decimal r.values)) (length sheet.nodes) ≡ true = same (length (map decimal r.values)) (length sheet.nodes) (length-map r.values decimal ∙ fits.count) in
    rw (form, many, place_again sheet.nodes r.node own.nodes fits.node, values_again r.values fits.values) refl
  where
    same : (a b : ℕ) → a ≡ b → nat_eq a b ≡ true
    same a b e = grind (arith, nat_tests)
