-- The lines before the rows: what is spelled is read.
use Rattle.std.proofs.Common.{◌≡◌, ℕ, ◌+◌, ◌*◌, ◌/◌, ◌%◌, ◌≤◌, ◌<◌, Bool, true, false, List, [], ◌∷◌, ◌++◌, length, Some, Ok, refl, arith}
use Rattle.std.specs.Prelude.{codes, nat_le}
use Rattle.std.specs.List.{AllByRecursion}
use Rattle.std.specs.Fmt.{decimal}
use Rattle.std.proofs.lemmas.Bool.Decides.{nat_tests}
use Rattle.text_lines.specs.Lines.{Line}
use Rattle.flow_paths.specs.declared.certificate.Printed.{Printed}
use Rattle.gap_fraction.specs.declared.fraction.TheConstants.{MAX_PART}
use Rattle.mcf_limits.specs.declared.TheConstants.{MAX_GAP, MAX_LENGTH, MAX_PHASES, MAX_UNITS}
use Rattle.text_lines.specs.Spelling.{fraction_word, decimal_word, six_digits}
use Rattle.cert_lines.specs.Sheet.{Sheet}
use Rattle.cert_lines.specs.declared.net_line.TheConstants.{MAX_COUNT}
use Rattle.cert_lines.specs.Forms.{is_full}
use Rattle.cert_lines.specs.Numbers.{number_within}
use Rattle.cert_lines.specs.HeadLines.{verdict_line, gap_line, phases_line, scale_line, fraction_parts, value_line, first_counts, last_counts, four_counts, three_counts, count_words, counts_line}
use Rattle.cert_lines.specs.Spelling.{verdict_words, gap_words, phases_words, scale_words, value_words, counts_words, FitsValue}
use Rattle.cert_lines.proofs.NumberLaws.{number_again}
use Rattle.cert_text.specs.Reading.{mode_line}
use Rattle.cert_inverse.specs.Inverse.{AreCounts}
use Rattle.cert_inverse.proofs.Words.{equal_bytes, full_word, one_again, two_again, named_again}
use Rattle.cert_inverse.proofs.Decimals.{full_number, decimal_again, fraction_again}

pub verdict_again : (closed : Bool) → verdict_line (verdict_words closed) ≡ Ok closed
verdict_again true = refl
verdict_again false = refl

pub mode_again : (key mode : List ℕ) → 0 < length mode → mode_line key mode (key ∷ mode ∷ []) ≡ Ok tt
unfolding mode_line
mode_again key mode some = rw (one_again key mode (full_word mode some), equal_bytes mode) refl

pub phases_again : (n : ℕ) → n ≤ MAX_PHASES → phases_line (phases_words n) ≡ Ok n
unfolding phases_line
phases_again n le = rw (one_again (codes "phases") (decimal n) (full_number n (omega arith))) (number_again MAX_PHASES n (omega arith) le)

pub scale_again : (c l : ℕ) → c ≤ MAX_UNITS → l ≤ MAX_LENGTH → scale_line (scale_words (c, l)) ≡ Ok (c, l)
unfolding scale_line
scale_again c l p q =
    rw (two_again (codes "scale") (decimal c) (decimal l) (full_number c (omega arith)) (full_number l (omega arith)), number_again MAX_UNITS c (omega arith) p, number_again MAX_LENGTH l (omega arith) q) refl

full_front : (word : List ℕ) (b : ℕ) (more : List ℕ) → is_full (word ++ b ∷ more) ≡ true
full_front [] b more = full_word (b ∷ more) (omega arith)
full_front (c ∷ word) b more = full_word (c ∷ (word ++ b ∷ more)) (omega arith)

full_decimal : (whole micro : ℕ) → is_full (decimal_word whole micro) ≡ true
full_decimal whole micro = full_front (decimal whole) 46 (six_digits micro)

pub gap_again : (n : ℕ) → n ≤ MAX_GAP → gap_line (gap_words n) ≡ Ok n
unfolding gap_line
gap_again n le =
    let whole : ℕ = n / 1000000 in
    let micro : ℕ = n % 1000000 in
    let same : whole * 1000000 + micro ≡ n = omega arith in
    let within : nat_le n MAX_GAP ≡ true = grind (arith, nat_tests) in
    rw (one_again (codes "gap") (decimal_word whole micro) (full_decimal whole micro), decimal_again (MAX_GAP / 1000000) whole micro (omega arith) (omega arith) (omega arith), same, within) refl

pub value_again : (key : List ℕ) (most : ℕ) (x : Printed) → most ≤ MAX_PART → FitsValue most x → value_line key most (value_words key x) ≡ Ok x
unfolding value_line fraction_parts
value_again key most x limit fits =
    let fraction = fraction_word x.num x.den in
    let form = two_again key fraction (decimal_word x.whole x.micro) (full_front (decimal x.num) 47 (decimal x.den)) (full_decimal x.whole x.micro) in
    rw (form, fraction_again x.num x.den (omega (arith, fits.num)), number_again most x.num limit fits.num, number_again most x.den limit fits.den, decimal_again MAX_PART x.whole x.micro (omega arith) fits.whole fits.micro) refl

-- ---- counts

count_again : (n : ℕ) → n ≤ MAX_COUNT → number_within MAX_COUNT (decimal n) ≡ Ok n
count_again n le = number_again MAX_COUNT n (omega arith) le

full_count : (n : ℕ) → n ≤ MAX_COUNT → is_full (decimal n) ≡ true
full_count n le = full_number n (omega arith)

-- the line of a sheet with these counts
abbrev counted : List ℕ → Sheet → Sheet
counted ns sheet = record { form = sheet.form; link_mode = sheet.link_mode; module_mode = sheet.module_mode; nodes = sheet.nodes; cells = sheet.cells; commodities = sheet.commodities; counts = ns }

abbrev last_line : ℕ → ℕ → ℕ → Line
last_line e f g = codes "skipped" ∷ decimal e ∷ codes "left" ∷ decimal f ∷ codes "hops" ∷ decimal g ∷ []

abbrev first_line : ℕ → ℕ → ℕ → ℕ → Line → Line
first_line a b c d more = codes "nodes" ∷ decimal a ∷ codes "cells" ∷ decimal b ∷ codes "commodities" ∷ decimal c ∷ codes "decimals" ∷ decimal d ∷ more

first_again : (a b c d : ℕ) (more : Line) → a ≤ MAX_COUNT → b ≤ MAX_COUNT → c ≤ MAX_COUNT → d ≤ MAX_COUNT → first_counts (first_line a b c d more) ≡ Some (decimal a, decimal b, decimal c, decimal d, more)
unfolding first_counts
first_again a b c d more p q r s =
    rw (
      named_again (codes "nodes") (decimal a) (codes "cells" ∷ decimal b ∷ codes "commodities" ∷ decimal c ∷ codes "decimals" ∷ decimal d ∷ more) (full_count a p),
      named_again (codes "cells") (decimal b) (codes "commodities" ∷ decimal c ∷ codes "decimals" ∷ decimal d ∷ more) (full_count b q),
      named_again (codes "commodities") (decimal c) (codes "decimals" ∷ decimal d ∷ more) (full_count c r),
      named_again (codes "decimals") (decimal d) more (full_count d s),
    ) refl

last_again : (e f g : ℕ) → e ≤ MAX_COUNT → f ≤ MAX_COUNT → g ≤ MAX_COUNT → last_counts (last_line e f g) ≡ Some (decimal e, decimal f, decimal g, [])
unfolding last_counts
last_again e f g p q r =
    rw (
      named_again (codes "skipped") (decimal e) (codes "left" ∷ decimal f ∷ codes "hops" ∷ decimal g ∷ []) (full_count e p),
      named_again (codes "left") (decimal f) (codes "hops" ∷ decimal g ∷ []) (full_count f q),
      named_again (codes "hops") (decimal g) [] (full_count g r),
    ) refl

seven_again : (sheet : Sheet) (a b c d e f g : ℕ) → AllByRecursion (λ n. n ≤ MAX_COUNT) (a ∷ b ∷ c ∷ d ∷ e ∷ f ∷ g ∷ []) → counts_line (counted (a ∷ b ∷ c ∷ d ∷ e ∷ f ∷ g ∷ []) sheet) (codes "net" ∷ first_line a b c d (last_line e f g)) ≡ Ok tt
unfolding counts_line count_words four_counts three_counts
seven_again sheet a b c d e f g h =
    let first = first_again a b c d (last_line e f g) h.0 h.1.0 h.1.1.0 h.1.1.1.0 in
    let last = last_again e f g h.1.1.1.1.0 h.1.1.1.1.1.0 h.1.1.1.1.1.1.0 in
    rw (
      first,
      last,
      count_again a h.0,
      count_again b h.1.0,
      count_again c h.1.1.0,
      count_again d h.1.1.1.0,
      count_again e h.1.1.1.1.0,
      count_again f h.1.1.1.1.1.0,
      count_again g h.1.1.1.1.1.1.0,
      equal_bytes (a ∷ b ∷ c ∷ d ∷ []),
      equal_bytes (e ∷ f ∷ g ∷ []),
    ) refl

counts_by : (sheet : Sheet) (ns : List ℕ) → length ns ≡ 7 → AllByRecursion (λ n. n ≤ MAX_COUNT) ns → counts_line (counted ns sheet) (counts_words (counted ns sheet)) ≡ Ok tt
counts_by sheet [] e h = absurd (omega arith)
counts_by sheet (a ∷ []) e h = absurd (omega arith)
counts_by sheet (a ∷ b ∷ []) e h = absurd (omega arith)
counts_by sheet (a ∷ b ∷ c ∷ []) e h = absurd (omega arith)
counts_by sheet (a ∷ b ∷ c ∷ d ∷ []) e h = absurd (omega arith)
counts_by sheet (a ∷ b ∷ c ∷ d ∷ i ∷ []) e h = absurd (omega arith)
counts_by sheet (a ∷ b ∷ c ∷ d ∷ i ∷ j ∷ []) e h = absurd (omega arith)
counts_by sheet (a ∷ b ∷ c ∷ d ∷ i ∷ j ∷ k ∷ []) e h = seven_again sheet a b c d i j k h
counts_by sheet (a ∷ b ∷ c ∷ d ∷ i ∷ j ∷ k ∷ l ∷ more) e h = absurd (omega arith)

pub counts_again : (sheet : Sheet) → AreCounts sheet.counts → counts_line sheet (counts_words sheet) ≡ Ok tt
counts_again sheet h = counts_by sheet sheet.counts h.seven h.within
