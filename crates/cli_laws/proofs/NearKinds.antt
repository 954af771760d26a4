-- Certificates with hop limits and of totals that are the same up to a line.
use Rattle.std.proofs.Common.{◌≡◌, ℕ, ◌+◌, ◌≤◌, Bool, true, false, cond, List, [], ◌∷◌, ◌++◌, length, Result, Ok, Err, refl, ap, ◌∙◌, inl, inr, arith}
use Rattle.std.specs.Prelude.{codes}
use Rattle.text_lines.specs.Lines.{Line}
use Rattle.gap_fraction.specs.declared.fraction.TheConstants.{MAX_PART}
use Rattle.cert_lines.specs.Sheet.{Sheet}
use Rattle.cert_lines.specs.declared.refusal.CertKind.TheVariants.{NoHeader}
use Rattle.cert_lines.specs.declared.refusal.CertRefusal.{CertRefusal}
use Rattle.cert_lines.specs.Forms.{◌>>=◌, is_fixed}
use Rattle.cert_lines.specs.HeadLines.{value_line}
use Rattle.cert_lines.specs.Rows.{path_row}
use Rattle.cert_text.specs.Reading.{Place, next_line, rows_from, closing}
use Rattle.cert_text.specs.Papers.{scale_at, opening_at, values_at, dual_at}
use Rattle.hop_check.specs.declared.hop_proof.HopProof.{HopProof}
use Rattle.throughput.specs.declared.part_proof.PartProof.{PartProof}
use Rattle.kind_texts.specs.Heads.{header_at}
use Rattle.kind_texts.specs.Rows.{flows_at}
use Rattle.kind_texts.specs.HopsRead.{layer_row, hops_from}
use Rattle.kind_texts.specs.PartRead.{threshold_line, totals_at, part_from}
use Rattle.kind_texts.proofs.HopsFit.{made as hops_made}
use Rattle.kind_texts.proofs.PartsFit.{Flows, Totals}
use Rattle.kind_texts.proofs.PartFits.{made as total_made}
use Rattle.cli_laws.proofs.Steps.{done}
use Rattle.cli_laws.proofs.Near.{Two, Near, Goes, Both, Past, Steps, IsFar, Any, AnyTwo, goes_then, next_steps, rows_steps, steps_then, steps_give, steps_last, more_front}
use Rattle.cli_laws.proofs.NearPapers.{scale_steps, values_steps, opening_steps, dual_steps, closing_steps}

flows_steps : (t : Two) (sheet : Sheet) → Steps t (Both {X = Flows} t) (Past {X = Flows} t) (flows_at sheet)
unfolding flows_at
flows_steps t sheet =
    let paths = λ (p : Place). rows_from (codes "path") (path_row sheet) p.at p.rest in
    steps_then t (Both {X = Flows} t) (Past {X = Flows} t) paths (λ ps. dual_at sheet ps.1 >>= λ d. done ((ps.0, d.0), d.1)) (rows_steps t (codes "path") (path_row sheet))
    (λ ps. steps_then t (Both {X = Flows} t) (Past {X = Flows} t) (dual_at sheet) (λ d. done ((ps, d.0), d.1)) (dual_steps t sheet) (λ d. steps_give t (ps, d)))

totals_steps : (t : Two) → Steps t (Both {X = Totals} t) (Past {X = Totals} t) totals_at
unfolding totals_at
totals_steps t =
    let ok = Both {X = Totals} t in
    let far = Past {X = Totals} t in
    let low = value_line (codes "lower") MAX_PART in
    let high = value_line (codes "upper") MAX_PART in
    steps_then t ok far (next_line low) (λ a. next_line high a.1 >>= λ b. next_line threshold_line b.1 >>= λ c. done ((a.0, b.0, c.0), c.1)) (next_steps t low)
    (λ x. steps_then t ok far (next_line high) (λ b. next_line threshold_line b.1 >>= λ c. done ((x, b.0, c.0), c.1)) (next_steps t high)
    (λ y. steps_then t ok far (next_line threshold_line) (λ c. done ((x, y, c.0), c.1)) (next_steps t threshold_line) (λ n. steps_give t (x, y, n))))

pub hops_steps : (sheet : Sheet) (t : Two) → Steps t (AnyTwo {A = HopProof}) (Any {A = HopProof}) (λ p. opening_at sheet p >>= hops_from sheet)
unfolding hops_from
hops_steps sheet t =
    let ok = AnyTwo {A = HopProof} in
    let far = Any {A = HopProof} in
    let rows = λ (p : Place). rows_from (codes "layer") (layer_row sheet) p.at p.rest in
    steps_then t ok far (opening_at sheet) (hops_from sheet) (opening_steps t sheet)
    (λ o. steps_then t ok far scale_at (λ s. values_at s.1 >>= λ v. flows_at sheet v.1 >>= λ f. rows f.1 >>= λ ls. closing ls.1 >>= λ last. done (hops_made o s.0 v.0 f.0 ls.0)) (scale_steps t)
    (λ s. steps_then t ok far values_at (λ v. flows_at sheet v.1 >>= λ f. rows f.1 >>= λ ls. closing ls.1 >>= λ last. done (hops_made o s v.0 f.0 ls.0)) (values_steps t)
    (λ v. steps_then t ok far (flows_at sheet) (λ f. rows f.1 >>= λ ls. closing ls.1 >>= λ last. done (hops_made o s v f.0 ls.0)) (flows_steps t sheet)
    (λ f. steps_then t ok far rows (λ ls. closing ls.1 >>= λ last. done (hops_made o s v f ls.0)) (rows_steps t (codes "layer") (layer_row sheet))
    (λ ls. steps_last t closing (λ last. hops_made o s v f ls) (closing_steps t))))))

pub total_steps : (sheet : Sheet) (t : Two) → Steps t (AnyTwo {A = PartProof}) (Any {A = PartProof}) (λ p. opening_at sheet p >>= part_from sheet)
unfolding part_from
total_steps sheet t =
    let ok = AnyTwo {A = PartProof} in
    let far = Any {A = PartProof} in
    steps_then t ok far (opening_at sheet) (part_from sheet) (opening_steps t sheet)
    (λ o. steps_then t ok far scale_at (λ s. totals_at s.1 >>= λ v. flows_at sheet v.1 >>= λ f. closing f.1 >>= λ last. done (total_made o s.0 v.0 f.0)) (scale_steps t)
    (λ s. steps_then t ok far totals_at (λ v. flows_at sheet v.1 >>= λ f. closing f.1 >>= λ last. done (total_made o s v.0 f.0)) (totals_steps t)
    (λ v. steps_then t ok far (flows_at sheet) (λ f. closing f.1 >>= λ last. done (total_made o s v f.0)) (flows_steps t sheet)
    (λ f. steps_last t closing (λ last. total_made o s v f) (closing_steps t)))))

-- ---- behind a header

header_near : (header : List ℕ) (t : Two) (before : List Line) → length before + 1 ≡ t.number → Goes t (Near t) (IsFar t) (header_at header (before ++ t.line ∷ t.one)) (header_at header (before ++ t.line ∷ t.other))
unfolding header_at
header_near header t [] count = rw (t.one_more, t.other_more) (by (is_fixed header t.line))
  where
    to : List Line → Place
    to rest = record { at = 2; rest = rest }

    by : (b : Bool) → Goes t (Near t) (IsFar t) (cond b (done (to t.one)) (Err (record { line = 1; kind = NoHeader }))) (cond b (done (to t.other)) (Err (record { line = 1; kind = NoHeader })))
    by true = inr (omega arith)
    by false = inl refl
header_near header t (l ∷ ls) count = rw (more_front ls t.one t.line, more_front ls t.other t.line) (by (is_fixed header l))
  where
    to : List Line → Place
    to rest = record { at = 2; rest = ls ++ t.line ∷ rest }

    by : (b : Bool) → Goes t (Near t) (IsFar t) (cond b (done (to t.one)) (Err (record { line = 1; kind = NoHeader }))) (cond b (done (to t.other)) (Err (record { line = 1; kind = NoHeader })))
    by true = inl (to t.other, refl, record { front = ls; one = refl; other = refl; at = refl; count = omega arith })
    by false = inl refl

-- what is refused at the line or before is refused alike in the other text
pub same_under : {X : Type 0} (header : List ℕ) (rest_at : Place → Result X CertRefusal) → ((t : Two) → Steps t (AnyTwo {A = X}) (Any {A = X}) rest_at) → (t : Two) (before : List Line) (r : CertRefusal) → length before + 1 ≡ t.number → r.line ≤ t.number
    → (header_at header (before ++ t.line ∷ t.one) >>= rest_at) ≡ Err r → (header_at header (before ++ t.line ∷ t.other) >>= rest_at) ≡ Err r
same_under {X} header rest_at steps t before r count le e =
    by (header_at header (before ++ t.line ∷ t.one) >>= rest_at) (header_at header (before ++ t.line ∷ t.other) >>= rest_at) e
    (goes_then t (Near t) (IsFar t) (AnyTwo {A = X}) (Any {A = X}) (header_at header (before ++ t.line ∷ t.one)) (header_at header (before ++ t.line ∷ t.other)) rest_at (header_near header t before count) (steps t).near (steps t).past)
  where
    by : (one other : Result X CertRefusal) → one ≡ Err r → Goes t (AnyTwo {A = X}) (Any {A = X}) one other → other ≡ Err r
    by (Ok x) other h g = absurd cc
    by (Err d) other h (inl k) = k ∙ h
    by (Err d) other h (inr k) = let same : d ≡ r = cc in absurd (omega (arith, ap (λ (x : CertRefusal). x.line) same))
