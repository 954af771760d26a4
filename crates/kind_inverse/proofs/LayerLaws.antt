-- Layer rows and thresholds: what is read was spelled so, and what is spelled is read.
use Rattle.std.proofs.Common.{◌≡◌, ℕ, ◌≤◌, true, List, [], ◌∷◌, length, get_or, Ok, refl, ap, ◌∙◌, arith}
use Rattle.std.specs.Prelude.{codes, nat_eq, map}
use Rattle.std.specs.List.{AllByRecursion, list_all}
use Rattle.std.specs.Fmt.{decimal}
use Rattle.std.proofs.lemmas.Bool.Decides.{nat_tests}
use Rattle.std.proofs.lemmas.List.{length-map}
use Rattle.text_lines.specs.Lines.{Line}
use Rattle.mcf_limits.specs.declared.TheConstants.{MAX_HOPS, MAX_LENGTH}
use Rattle.cert_lines.specs.Sheet.{Sheet, place_of, node_word}
use Rattle.cert_lines.specs.declared.refusal.CertKind.{CertKind}
use Rattle.cert_lines.specs.declared.refusal.CertKind.TheVariants.{Syntax, UnknownName}
use Rattle.cert_lines.specs.Forms.{◌>>=◌, or_fault, one_behind, row_behind, is_full}
use Rattle.cert_lines.specs.Numbers.{number_within}
use Rattle.cert_lines.specs.Rows.{potentials_from}
use Rattle.cert_lines.specs.Spelling.{IsClear}
use Rattle.cert_lines.proofs.NumberLaws.{number_takes, number_again}
use Rattle.cert_text.proofs.Steps.{bind_ok, done, ok_is, some_is}
use Rattle.cert_inverse.proofs.Words.{place_takes, place_again, full_name, one_takes, one_again, row_takes, row_again}
use Rattle.cert_inverse.proofs.Decimals.{full_number}
use Rattle.hop_check.specs.LayerRows.{Layer}
use Rattle.kind_texts.specs.HopsText.{layer_words, FitsLayer}
use Rattle.kind_texts.specs.HopsRead.{with_count, layer_row}
use Rattle.kind_texts.specs.PartText.{threshold_words}
use Rattle.kind_texts.specs.PartRead.{threshold_line}
use Rattle.kind_texts.proofs.PartsFit.{of_count}

-- ---- thresholds

pub threshold_takes : (line : Line) (n : ℕ) → threshold_line line ≡ Ok n → line ≡ threshold_words n
unfolding threshold_line
threshold_takes line n e =
    let a = bind_ok (or_fault Syntax (one_behind (codes "threshold") line)) (λ word. number_within MAX_LENGTH word) n e in
    one_takes (codes "threshold") line a.0 (some_is Syntax (one_behind (codes "threshold") line) a.0 a.1)
    ∙ ap (λ (w : List ℕ). codes "threshold" ∷ w ∷ []) (number_takes MAX_LENGTH a.0 n (omega arith) a.2).0

pub threshold_again : (n : ℕ) → n ≤ MAX_LENGTH → threshold_line (threshold_words n) ≡ Ok n
unfolding threshold_line
threshold_again n le = rw (one_again (codes "threshold") (decimal n) (full_number n (omega arith))) (number_again MAX_LENGTH n (omega arith) le)

-- ---- layers

equal : (a b : ℕ) → a ≡ b → nat_eq a b ≡ true
equal a b e = grind (arith, nat_tests)

values_take : (words : Line) (values : List ℕ) → potentials_from words ≡ Ok values → words ≡ map decimal values
unfolding potentials_from
values_take [] values e = ap (map decimal) (ok_is {E = CertKind} [] values e)
values_take (word ∷ words) values e =
    let a = bind_ok (number_within MAX_LENGTH word) (λ v. potentials_from words >>= λ vs. done (v ∷ vs)) values e in
    let b = bind_ok (potentials_from words) (λ vs. done (a.0 ∷ vs)) values a.2 in
    ap (λ (w : List ℕ). w ∷ words) (number_takes MAX_LENGTH word a.0 (omega arith) a.1).0
    ∙ ap (λ (ws : Line). decimal a.0 ∷ ws) (values_take words b.0 b.1)
    ∙ ap (map decimal) (ok_is {E = CertKind} (a.0 ∷ b.0) values b.2)

pub layer_takes : (sheet : Sheet) (line : Line) (r : Layer) → layer_row sheet line ≡ Ok r → line ≡ layer_words sheet r
unfolding layer_row
layer_takes sheet line r e =
    let form = with_count (length sheet.nodes) (row_behind (codes "layer") line) in
    let made = λ (n i : ℕ) (vs : List ℕ). done {A = Layer} {E = CertKind} (record { node = n; index = i; values = vs }) in
    let a = bind_ok (or_fault Syntax form) (λ parts. or_fault UnknownName (place_of sheet.nodes parts.0) >>= λ n. number_within MAX_HOPS parts.1 >>= λ i. potentials_from parts.2 >>= λ vs. made n i vs) r e in
    let b = bind_ok (or_fault UnknownName (place_of sheet.nodes a.0.0)) (λ n. number_within MAX_HOPS a.0.1 >>= λ i. potentials_from a.0.2 >>= λ vs. made n i vs) r a.2 in
    let d = bind_ok (number_within MAX_HOPS a.0.1) (λ i. potentials_from a.0.2 >>= λ vs. made b.0 i vs) r b.2 in
    let f = bind_ok (potentials_from a.0.2) (λ vs. made b.0 d.0 vs) r d.2 in
    let parts = of_count (length sheet.nodes) (row_behind (codes "layer") line) a.0 (some_is Syntax form a.0 a.1) in
    let named = some_is UnknownName (place_of sheet.nodes a.0.0) b.0 b.1 in
    row_takes (codes "layer") line a.0 parts.0
    ∙ ap (λ (w : List ℕ). codes "layer" ∷ w ∷ a.0.1 ∷ a.0.2) (place_takes sheet.nodes a.0.0 b.0 named)
    ∙ ap (λ (w : List ℕ). codes "layer" ∷ node_word sheet b.0 ∷ w ∷ a.0.2) (number_takes MAX_HOPS a.0.1 d.0 (omega arith) d.1).0
    ∙ ap (λ (ws : Line). codes "layer" ∷ node_word sheet b.0 ∷ decimal d.0 ∷ ws) (values_take a.0.2 f.0 f.1)
    ∙ ap (layer_words sheet) (ok_is {E = CertKind} (record { node = b.0; index = d.0; values = f.0 }) r f.2)

full_values : (values : List ℕ) → AllByRecursion (λ n. n ≤ MAX_LENGTH) values → list_all is_full (map decimal values) ≡ true
full_values [] h = refl
full_values (n ∷ values) h = rw (full_number n (omega (arith, h.0)), full_values values h.1) refl

values_again : (values : List ℕ) → AllByRecursion (λ n. n ≤ MAX_LENGTH) values → potentials_from (map decimal values) ≡ Ok values
unfolding potentials_from
values_again [] h = refl
values_again (n ∷ values) h = rw (number_again MAX_LENGTH n (omega arith) h.0, values_again values h.1) refl

pub layer_again : (sheet : Sheet) (r : Layer) → IsClear sheet → FitsLayer sheet r → layer_row sheet (layer_words sheet r) ≡ Ok r
unfolding layer_row
layer_again sheet r own fits =
    let form = row_again (codes "layer") (node_word sheet r.node) (decimal r.index) (map decimal r.values) (full_name sheet.nodes r.node own.nodes fits.node) (full_number r.index (omega (arith, fits.index))) (full_values r.values fits.values) in
    let many : nat_eq (length (map decimal r.values)) (length sheet.nodes) ≡ true = equal (length (map decimal r.values)) (length sheet.nodes) (length-map r.values decimal ∙ fits.count) in
    rw (form, many, place_again sheet.nodes r.node own.nodes fits.node, number_again MAX_HOPS r.index (omega arith) fits.index, values_again r.values fits.values) refl
