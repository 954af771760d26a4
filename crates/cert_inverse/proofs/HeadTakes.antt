-- The lines before the rows: what is read was spelled so.
use Rattle.std.proofs.Common.{◌≡◌, ℕ, ◌+◌, ◌*◌, ◌/◌, ◌%◌, ◌≤◌, Bool, true, false, cond, List, [], ◌∷◌, ◌++◌, Ok, Err, refl, ap, ◌∙◌, arith}
use Rattle.std.specs.Prelude.{codes, nat_le}
use Rattle.std.specs.List.{join_with_byte}
use Rattle.std.specs.Fmt.{decimal}
use Rattle.std.specs.Str.{bytes_eq}
use Rattle.text_lines.specs.Lines.{Line}
use Rattle.flow_paths.specs.declared.certificate.Printed.{Printed}
use Rattle.gap_fraction.specs.declared.fraction.TheConstants.{MAX_PART}
use Rattle.mcf_limits.specs.declared.TheConstants.{MAX_GAP, MAX_LENGTH, MAX_PHASES, MAX_UNITS}
use Rattle.text_lines.specs.Spelling.{fraction_word, decimal_word}
use Rattle.cert_lines.specs.declared.refusal.CertKind.{CertKind}
use Rattle.cert_lines.specs.declared.refusal.CertKind.TheVariants.{Syntax, TooLarge}
use Rattle.cert_lines.specs.Forms.{◌>>=◌, or_fault, one_behind, two_behind, stroke_parts, is_fixed}
use Rattle.cert_lines.specs.Numbers.{number_within, decimal_within}
use Rattle.cert_lines.specs.HeadLines.{verdict_line, gap_line, phases_line, scale_line, fraction_parts, value_line}
use Rattle.cert_lines.specs.Spelling.{verdict_words, gap_words, phases_words, scale_words, value_words}
use Rattle.cert_lines.proofs.NumberLaws.{number_takes}
use Rattle.cert_text.specs.Reading.{fixed_line, mode_line}
use Rattle.cert_text.proofs.Steps.{bind_ok, done, ok_is, some_is, passed}
use Rattle.cert_text.proofs.LineFits.{decimal_fits}
use Rattle.cert_inverse.proofs.Words.{same_bytes, one_takes, two_takes}
use Rattle.cert_inverse.proofs.Decimals.{decimal_takes, fraction_takes}

-- the bytes of a line
abbrev pub joined : Line → List ℕ
joined line = join_with_byte 32 line

pub fixed_takes : (text : List ℕ) (line : Line) (u : Unit {0}) → fixed_line text line ≡ Ok u → joined line ≡ text
fixed_takes text line u e =
    let a = passed (is_fixed text line) (done tt) Syntax u e in
    same_bytes (joined line) text a.0

pub verdict_takes : (line : Line) (closed : Bool) → verdict_line line ≡ Ok closed → joined line ≡ joined (verdict_words closed)
verdict_takes line closed e = by (is_fixed (codes "verdict closed") line) refl e
  where
    by : (b : Bool) → is_fixed (codes "verdict closed") line ≡ b → cond b (done true) (cond (is_fixed (codes "verdict open") line) (done false) (Err Syntax)) ≡ Ok closed → joined line ≡ joined (verdict_words closed)
    by true h k = same_bytes (joined line) (codes "verdict closed") h ∙ ap (λ (c : Bool). joined (verdict_words c)) (ok_is {E = CertKind} true closed k)
    by false h k =
        let a = passed (is_fixed (codes "verdict open") line) (done false) Syntax closed k in
        same_bytes (joined line) (codes "verdict open") a.0 ∙ ap (λ (c : Bool). joined (verdict_words c)) (ok_is {E = CertKind} false closed a.1)

pub mode_takes : (key mode : List ℕ) (line : Line) (u : Unit {0}) → mode_line key mode line ≡ Ok u → line ≡ key ∷ mode ∷ []
unfolding mode_line
mode_takes key mode line u e =
    let a = bind_ok (or_fault Syntax (one_behind key line)) (λ word. cond (bytes_eq word mode) (done tt) (Err Syntax)) u e in
    let b = passed (bytes_eq a.0 mode) (done tt) Syntax u a.2 in
    one_takes key line a.0 (some_is Syntax (one_behind key line) a.0 a.1) ∙ ap (λ (w : List ℕ). key ∷ w ∷ []) (same_bytes a.0 mode b.0)

pub gap_takes : (line : Line) (n : ℕ) → gap_line line ≡ Ok n → line ≡ gap_words n
unfolding gap_line
gap_takes line n e =
    let most : ℕ = MAX_GAP / 1000000 in
    let a = bind_ok (or_fault Syntax (one_behind (codes "gap") line)) (λ word. decimal_within most word >>= λ v. cond (nat_le (v.0 * 1000000 + v.1) MAX_GAP) (done (v.0 * 1000000 + v.1)) (Err TooLarge)) n e in
    let b = bind_ok (decimal_within most a.0) (λ v. cond (nat_le (v.0 * 1000000 + v.1) MAX_GAP) (done (v.0 * 1000000 + v.1)) (Err TooLarge)) n a.2 in
    let k : ℕ = b.0.0 * 1000000 + b.0.1 in
    let p = passed (nat_le k MAX_GAP) (done k) TooLarge n b.2 in
    let is : k ≡ n = ok_is {E = CertKind} k n p.1 in
    let f = decimal_fits most a.0 b.0 b.1 in
    let whole : b.0.0 ≡ n / 1000000 = omega (arith, is, f.1) in
    let micro : b.0.1 ≡ n % 1000000 = omega (arith, is, f.1) in
    one_takes (codes "gap") line a.0 (some_is Syntax (one_behind (codes "gap") line) a.0 a.1)
    ∙ ap (λ (w : List ℕ). codes "gap" ∷ w ∷ []) (decimal_takes most a.0 b.0 (omega arith) b.1)
    ∙ ap (λ (w : ℕ). codes "gap" ∷ decimal_word w b.0.1 ∷ []) whole ∙ ap (λ (m : ℕ). codes "gap" ∷ decimal_word (n / 1000000) m ∷ []) micro

pub phases_takes : (line : Line) (n : ℕ) → phases_line line ≡ Ok n → line ≡ phases_words n
unfolding phases_line
phases_takes line n e =
    let a = bind_ok (or_fault Syntax (one_behind (codes "phases") line)) (λ word. number_within MAX_PHASES word) n e in
    one_takes (codes "phases") line a.0 (some_is Syntax (one_behind (codes "phases") line) a.0 a.1)
    ∙ ap (λ (w : List ℕ). codes "phases" ∷ w ∷ []) (number_takes MAX_PHASES a.0 n (omega arith) a.2).0

pub scale_takes : (line : Line) (x : ℕ × ℕ) → scale_line line ≡ Ok x → line ≡ scale_words x
unfolding scale_line
scale_takes line x e =
    let a = bind_ok (or_fault Syntax (two_behind (codes "scale") line)) (λ parts. number_within MAX_UNITS parts.0 >>= λ capacity. number_within MAX_LENGTH parts.1 >>= λ load. done (capacity, load)) x e in
    let b = bind_ok (number_within MAX_UNITS a.0.0) (λ capacity. number_within MAX_LENGTH a.0.1 >>= λ load. done (capacity, load)) x a.2 in
    let d = bind_ok (number_within MAX_LENGTH a.0.1) (λ load. done (b.0, load)) x b.2 in
    two_takes (codes "scale") line a.0 (some_is Syntax (two_behind (codes "scale") line) a.0 a.1)
    ∙ ap (λ (w : List ℕ). codes "scale" ∷ w ∷ a.0.1 ∷ []) (number_takes MAX_UNITS a.0.0 b.0 (omega arith) b.1).0
    ∙ ap (λ (w : List ℕ). codes "scale" ∷ decimal b.0 ∷ w ∷ []) (number_takes MAX_LENGTH a.0.1 d.0 (omega arith) d.1).0
    ∙ ap scale_words (ok_is {E = CertKind} (b.0, d.0) x d.2)

parts_take : (key : List ℕ) (line : Line) (parts : List ℕ × List ℕ × List ℕ) → fraction_parts key line ≡ Ok parts → line ≡ key ∷ (parts.0 ++ 47 ∷ parts.1) ∷ parts.2 ∷ []
unfolding fraction_parts
parts_take key line parts e =
    let a = bind_ok (or_fault Syntax (two_behind key line)) (λ two. or_fault Syntax (stroke_parts two.0) >>= λ fraction. done (fraction.0, fraction.1, two.1)) parts e in
    let b = bind_ok (or_fault Syntax (stroke_parts a.0.0)) (λ fraction. done (fraction.0, fraction.1, a.0.1)) parts a.2 in
    two_takes key line a.0 (some_is Syntax (two_behind key line) a.0 a.1)
    ∙ ap (λ (w : List ℕ). key ∷ w ∷ a.0.1 ∷ []) (fraction_takes a.0.0 b.0 (some_is Syntax (stroke_parts a.0.0) b.0 b.1))
    ∙ ap (λ (p : List ℕ × List ℕ × List ℕ). key ∷ (p.0 ++ 47 ∷ p.1) ∷ p.2 ∷ []) (ok_is {E = CertKind} (b.0.0, b.0.1, a.0.1) parts b.2)

pub value_takes : (key : List ℕ) (most : ℕ) (line : Line) (x : Printed) → most ≤ MAX_PART → value_line key most line ≡ Ok x → line ≡ value_words key x
unfolding value_line
value_takes key most line x limit e =
    let made = λ (num den : ℕ) (v : ℕ × ℕ). done {A = Printed} {E = CertKind} (record { num = num; den = den; whole = v.0; micro = v.1 }) in
    let a = bind_ok (fraction_parts key line) (λ parts. number_within most parts.0 >>= λ num. number_within most parts.1 >>= λ den. decimal_within MAX_PART parts.2 >>= λ v. made num den v) x e in
    let b = bind_ok (number_within most a.0.0) (λ num. number_within most a.0.1 >>= λ den. decimal_within MAX_PART a.0.2 >>= λ v. made num den v) x a.2 in
    let d = bind_ok (number_within most a.0.1) (λ den. decimal_within MAX_PART a.0.2 >>= λ v. made b.0 den v) x b.2 in
    let v = bind_ok (decimal_within MAX_PART a.0.2) (λ v. made b.0 d.0 v) x d.2 in
    parts_take key line a.0 a.1
    ∙ ap (λ (w : List ℕ). key ∷ (w ++ 47 ∷ a.0.1) ∷ a.0.2 ∷ []) (number_takes most a.0.0 b.0 limit b.1).0
    ∙ ap (λ (w : List ℕ). key ∷ (decimal b.0 ++ 47 ∷ w) ∷ a.0.2 ∷ []) (number_takes most a.0.1 d.0 limit d.1).0
    ∙ ap (λ (w : List ℕ). key ∷ fraction_word b.0 d.0 ∷ w ∷ []) (decimal_takes MAX_PART a.0.2 v.0 (omega arith) v.1)
    ∙ ap (value_words key) (ok_is {E = CertKind} (record { num = b.0; den = d.0; whole = v.0.0; micro = v.0.1 }) x v.2)
