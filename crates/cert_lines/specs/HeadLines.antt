-- The lines before the rows, each read from left to right with the first fault that is met.
use Rattle.std.specs.Prelude.{ℕ, ◌+◌, ◌*◌, ◌/◌, Bool, true, false, List, [], ◌∷◌, length, take, drop, Option, Some, None, Result, Ok, Err, option_and_then, nat_le, ◌&&◌, codes, if◌then◌else◌}
use Rattle.std.specs.Str.{bytes_eq}
use Rattle.text_lines.specs.Lines.{Line}
use Rattle.flow_paths.specs.declared.certificate.Printed.{Printed}
use Rattle.cert_lines.specs.Sheet.{Sheet}
use Rattle.gap_fraction.specs.declared.fraction.TheConstants.{MAX_PART}
use Rattle.mcf_limits.specs.declared.TheConstants.{MAX_GAP, MAX_LENGTH, MAX_PHASES, MAX_UNITS}
use Rattle.cert_lines.specs.declared.net_line.TheConstants.{MAX_COUNT}
use Rattle.cert_lines.specs.declared.refusal.CertKind.{CertKind}
use Rattle.cert_lines.specs.declared.refusal.CertKind.TheVariants.{Syntax, TooLarge, OtherNet}
use Rattle.cert_lines.specs.Forms.{◌>>=◌, or_fault, one_behind, two_behind, stroke_parts, named_first, is_fixed}
use Rattle.cert_lines.specs.Numbers.{number_within, decimal_within}

-- `verdict closed` or `verdict open`: whether it is closed
abbrev pub verdict_line : Line → Result Bool CertKind
verdict_line words =
    if is_fixed (codes "verdict closed") words then Ok true
    else (if is_fixed (codes "verdict open") words then Ok false
    else Err Syntax)

-- `gap` and a decimal: the gap in millionths
unfoldable pub gap_line : Line → Result ℕ CertKind
gap_line words = do
  word ← or_fault Syntax (one_behind (codes "gap") words)
  value ← decimal_within (MAX_GAP / 1000000) word
  if nat_le (value.0 * 1000000 + value.1) MAX_GAP then Ok (value.0 * 1000000 + value.1) else Err TooLarge

-- `phases` and a number
unfoldable pub phases_line : Line → Result ℕ CertKind
phases_line words = do
  word ← or_fault Syntax (one_behind (codes "phases") words)
  number_within MAX_PHASES word

-- `scale`, a capacity and a load
unfoldable pub scale_line : Line → Result (ℕ × ℕ) CertKind
scale_line words = do
  parts ← or_fault Syntax (two_behind (codes "scale") words)
  capacity ← number_within MAX_UNITS parts.0
  load ← number_within MAX_LENGTH parts.1
  Ok (capacity, load)

-- a fraction, split at its first stroke
unfoldable pub fraction_parts : List ℕ → Line → Result (List ℕ × List ℕ × List ℕ) CertKind
fraction_parts key words = do
  parts ← or_fault Syntax (two_behind key words)
  fraction ← or_fault Syntax (stroke_parts parts.0)
  Ok (fraction.0, fraction.1, parts.1)

-- the keyword, a fraction and a decimal
unfoldable pub value_line : List ℕ → ℕ → Line → Result Printed CertKind
value_line key most words = do
  parts ← fraction_parts key words
  num ← number_within most parts.0
  den ← number_within most parts.1
  value ← decimal_within MAX_PART parts.2
  Ok (record { num = num; den = den; whole = value.0; micro = value.1 })

-- the words behind the first four names
unfoldable pub first_counts : Line → Option (List ℕ × List ℕ × List ℕ × List ℕ × Line)
first_counts words =
    option_and_then (λ a. option_and_then (λ b. option_and_then (λ c. option_and_then (λ d.
    Some (a.0, b.0, c.0, d.0, d.1))
    (named_first (codes "decimals") c.1)) (named_first (codes "commodities") b.1))
    (named_first (codes "cells") a.1)) (named_first (codes "nodes") words)

-- the words behind the last three names
unfoldable pub last_counts : Line → Option (List ℕ × List ℕ × List ℕ × Line)
last_counts words =
    option_and_then (λ a. option_and_then (λ b. option_and_then (λ c. Some (a.0, b.0, c.0, c.1))
    (named_first (codes "hops") b.1)) (named_first (codes "left") a.1)) (named_first (codes "skipped") words)

-- what follows `net`
abbrev pub behind_net : Line → Option Line
behind_net [] = None
behind_net (word ∷ words) = if bytes_eq word (codes "net") then Some words else None

-- four numbers, or three, each within the limit of a count
unfoldable pub four_counts : (List ℕ × List ℕ × List ℕ × List ℕ × Line) → Result (List ℕ) CertKind
four_counts words = do
  a ← number_within MAX_COUNT words.0
  b ← number_within MAX_COUNT words.1
  c ← number_within MAX_COUNT words.2
  d ← number_within MAX_COUNT words.3
  Ok (a ∷ b ∷ c ∷ d ∷ [])

unfoldable pub three_counts : (List ℕ × List ℕ × List ℕ × Line) → Result (List ℕ) CertKind
three_counts words = do
  a ← number_within MAX_COUNT words.0
  b ← number_within MAX_COUNT words.1
  c ← number_within MAX_COUNT words.2
  Ok (a ∷ b ∷ c ∷ [])

abbrev pub is_none_left : Line → Bool
is_none_left [] = true
is_none_left (word ∷ words) = false

-- the counts begin with the first ones, and go on with the last ones
abbrev pub are_counts : List ℕ → List ℕ → List ℕ → Bool
are_counts first last counts = bytes_eq (take (length first) counts) first && bytes_eq (drop (length first) counts) last

-- the words of the counts, where the line has its form
unfoldable pub count_words : Line
    → Result ((List ℕ × List ℕ × List ℕ × List ℕ × Line) × (List ℕ × List ℕ × List ℕ × Line)) CertKind
count_words words = do
  behind ← or_fault Syntax (behind_net words)
  first ← or_fault Syntax (first_counts behind)
  last ← or_fault Syntax (last_counts first.4)
  if is_none_left last.3 then Ok (first, last) else Err Syntax

-- the counts: all of them numbers within their limit, and then those of this network
unfoldable pub counts_line : Sheet → Line → Result (Unit {0}) CertKind
counts_line sheet words = do
  parts ← count_words words
  first ← four_counts parts.0
  last ← three_counts parts.1
  if are_counts first last sheet.counts then Ok tt else Err OtherNet
