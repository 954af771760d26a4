-- Why a certificate with hop limits or of a total is refused at a line.
use Rattle.std.proofs.Common.{◌≡◌, ◌≢◌, ℕ, ◌+◌, Bool, true, false, cond, List, [], ◌∷◌, Result, Err, refl, subst, inl, inr, arith}
use Rattle.std.specs.Prelude.{codes}
use Rattle.text_lines.specs.Lines.{Line}
use Rattle.flow_model.specs.Routing.{Row}
use Rattle.flow_paths.specs.DualRows.{DualRows}
use Rattle.flow_paths.specs.declared.certificate.Printed.{Printed}
use Rattle.gap_fraction.specs.declared.fraction.TheConstants.{MAX_PART}
use Rattle.cert_lines.specs.Sheet.{Sheet}
use Rattle.cert_lines.specs.declared.refusal.CertKind.TheVariants.{NoHeader, Syntax}
use Rattle.cert_lines.specs.declared.refusal.CertRefusal.{CertRefusal}
use Rattle.cert_lines.specs.Forms.{◌>>=◌, is_fixed}
use Rattle.cert_lines.specs.HeadLines.{value_line}
use Rattle.cert_lines.specs.Rows.{path_row}
use Rattle.cert_text.specs.Reading.{Place, has_more, next_line, rows_from, closing}
use Rattle.cert_text.specs.Papers.{scale_at, opening_at, values_at, dual_at}
use Rattle.cert_inverse.proofs.HeadTakes.{joined}
use Rattle.cert_inverse.proofs.Words.{same_bytes}
use Rattle.hop_check.specs.LayerRows.{Layer}
use Rattle.hop_check.specs.declared.hop_proof.HopProof.{HopProof}
use Rattle.throughput.specs.declared.part_proof.PartProof.{PartProof}
use Rattle.kind_texts.specs.Heads.{header_at}
use Rattle.kind_texts.specs.Rows.{flows_at}
use Rattle.kind_texts.specs.HopsRead.{layer_row, hops_from, hops_in}
use Rattle.kind_texts.specs.PartRead.{threshold_line, totals_at, part_from, part_in}
use Rattle.kind_texts.proofs.HopsFit.{made as hops_made}
use Rattle.kind_texts.proofs.PartsFit.{Flows, Totals}
use Rattle.kind_texts.proofs.PartFits.{made as total_made}
use Rattle.cli_laws.specs.LineRoles.{TextKind, lower, upper, threshold, path, cell, node, layer, hops, total, head_line, HasRow, StandsAt, IsBodyReason}
use Rattle.cli_laws.specs.KindTexts.{IsReasonUnder, IsHopsRefusedFor, IsTotalRefusedFor}
use Rattle.cli_laws.specs.Refusals.{HasReason}
use Rattle.cli_laws.proofs.Steps.{done, Is, then_is, is_more}
use Rattle.cli_laws.proofs.LineReasons.{not_fixed, lower_fault, upper_fault, threshold_fault, path_fault, layer_fault}
use Rattle.cli_laws.proofs.Reasons.{At, Why, no_more, with_reason, Reached, Among, Behind, Anything, HasHead, next_why, go, rows_on, at_rows, scale_why, values_why, opening_why, dual_why, closed_why}

abbrev Scale : Type 0
Scale = ℕ × (ℕ × ℕ)

abbrev Opened : Type 0
Opened = Bool × ℕ

abbrev Values : Type 0
Values = Printed × Printed

-- ---- parts

flows_why : (lines : List Line) (sheet : Sheet) (kind : TextKind) (p : Place) → Among lines kind 0 p → HasRow kind path → HasRow kind cell → HasRow kind node → Is (Behind {X = Flows} lines kind 3) (Why lines sheet kind) (flows_at sheet p)
unfolding flows_at
flows_why lines sheet kind p h one two three =
    go lines sheet kind (Behind {X = List Row} lines kind 1) (Behind {X = Flows} lines kind 3) (rows_from (codes "path") (path_row sheet) p.at p.rest) (λ ps. dual_at sheet ps.1 >>= λ d. done ((ps.0, d.0), d.1)) (rows_on lines sheet kind path (path_row sheet) (path_fault sheet) p h one)
    (λ ps hp. go lines sheet kind (Behind {X = DualRows} lines kind 3) (Behind {X = Flows} lines kind 3) (dual_at sheet ps.1) (λ d. done ((ps.0, d.0), d.1)) (dual_why lines sheet kind ps.1 hp two three) (λ d hd. hd))

totals_why : (lines : List Line) (sheet : Sheet) (n : ℕ) (p : Place) → At lines p → p.at ≡ n → StandsAt total (head_line (lower MAX_PART)) n → StandsAt total (head_line upper) (n + 1) → StandsAt total (head_line threshold) (n + 1 + 1)
    → Is (Reached {X = Totals} lines (n + 1 + 1 + 1)) (Why lines sheet total) (totals_at p)
unfolding totals_at
totals_why lines sheet n p h is s t u =
    let ok = Reached {X = Totals} lines (n + 1 + 1 + 1) in
    let low = value_line (codes "lower") MAX_PART in
    let high = value_line (codes "upper") MAX_PART in
    go lines sheet total (Reached {X = Printed} lines (n + 1)) ok (next_line low p) (λ a. next_line high a.1 >>= λ b. next_line threshold_line b.1 >>= λ c. done ((a.0, b.0, c.0), c.1)) (next_why lines sheet total low (lower MAX_PART) (lower_fault sheet MAX_PART) n p h is s)
    (λ a ha. go lines sheet total (Reached {X = Printed} lines (n + 1 + 1)) ok (next_line high a.1) (λ b. next_line threshold_line b.1 >>= λ c. done ((a.0, b.0, c.0), c.1)) (next_why lines sheet total high upper (upper_fault sheet) (n + 1) a.1 ha.0 ha.1 t)
    (λ b hb. go lines sheet total (Reached {X = ℕ} lines (n + 1 + 1 + 1)) ok (next_line threshold_line b.1) (λ c. done ((a.0, b.0, c.0), c.1)) (next_why lines sheet total threshold_line threshold (threshold_fault sheet) (n + 1 + 1) b.1 hb.0 hb.1 u) (λ c hc. hc)))

-- ---- what follows the header

hops_head : HasHead hops
hops_head = record {
  at_verdict = (omega arith, refl);
  at_links = (omega arith, refl);
  at_modules = (omega arith, refl);
  at_counts = (omega arith, refl);
  at_gap = (omega arith, refl);
  at_phases = (omega arith, refl);
  at_scale = (omega arith, refl);
}

total_head : HasHead total
total_head = record {
  at_verdict = (omega arith, refl);
  at_links = (omega arith, refl);
  at_modules = (omega arith, refl);
  at_counts = (omega arith, refl);
  at_gap = (omega arith, refl);
  at_phases = (omega arith, refl);
  at_scale = (omega arith, refl);
}

hops_why : (sheet : Sheet) (lines : List Line) (p : Place) → At lines p → p.at ≡ 2 → Is (Anything {X = HopProof}) (Why lines sheet hops) (opening_at sheet p >>= hops_from sheet)
unfolding hops_from
hops_why sheet lines p h is =
    let ok = Anything {X = HopProof} in
    let rows = λ (q : Place). rows_from (codes "layer") (layer_row sheet) q.at q.rest in
    go lines sheet hops (Reached {X = Opened} lines 7) ok (opening_at sheet p) (hops_from sheet) (opening_why lines sheet hops p h is hops_head)
    (λ o ho. go lines sheet hops (Reached {X = Scale} lines 9) ok (scale_at o.1) (λ s. values_at s.1 >>= λ v. flows_at sheet v.1 >>= λ f. rows f.1 >>= λ ls. closing ls.1 >>= λ u. done (hops_made o.0 s.0 v.0 f.0 ls.0)) (scale_why lines sheet hops 7 o.1 ho.0 ho.1 hops_head.at_phases hops_head.at_scale)
    (λ s hs. go lines sheet hops (Reached {X = Values} lines 11) ok (values_at s.1) (λ v. flows_at sheet v.1 >>= λ f. rows f.1 >>= λ ls. closing ls.1 >>= λ u. done (hops_made o.0 s.0 v.0 f.0 ls.0)) (values_why lines sheet hops 9 s.1 hs.0 hs.1 (omega arith, refl) (omega arith, refl))
    (λ v hv. go lines sheet hops (Behind {X = Flows} lines hops 3) ok (flows_at sheet v.1) (λ f. rows f.1 >>= λ ls. closing ls.1 >>= λ u. done (hops_made o.0 s.0 v.0 f.0 ls.0)) (flows_why lines sheet hops v.1 (at_rows lines sheet hops 11 v.1 hv.0 hv.1 (omega arith)) (omega arith) (omega arith) (omega arith))
    (λ f hf. go lines sheet hops (Behind {X = List Layer} lines hops 4) ok (rows f.1) (λ ls. closing ls.1 >>= λ u. done (hops_made o.0 s.0 v.0 f.0 ls.0)) (rows_on lines sheet hops layer (layer_row sheet) (layer_fault sheet) f.1 hf (omega arith))
    (λ ls hl. closed_why lines sheet hops ls.1 (hops_made o.0 s.0 v.0 f.0 ls.0) hl)))))

total_why : (sheet : Sheet) (lines : List Line) (p : Place) → At lines p → p.at ≡ 2 → Is (Anything {X = PartProof}) (Why lines sheet total) (opening_at sheet p >>= part_from sheet)
unfolding part_from
total_why sheet lines p h is =
    let ok = Anything {X = PartProof} in
    go lines sheet total (Reached {X = Opened} lines 7) ok (opening_at sheet p) (part_from sheet) (opening_why lines sheet total p h is total_head)
    (λ o ho. go lines sheet total (Reached {X = Scale} lines 9) ok (scale_at o.1) (λ s. totals_at s.1 >>= λ v. flows_at sheet v.1 >>= λ f. closing f.1 >>= λ u. done (total_made o.0 s.0 v.0 f.0)) (scale_why lines sheet total 7 o.1 ho.0 ho.1 total_head.at_phases total_head.at_scale)
    (λ s hs. go lines sheet total (Reached {X = Totals} lines 12) ok (totals_at s.1) (λ v. flows_at sheet v.1 >>= λ f. closing f.1 >>= λ u. done (total_made o.0 s.0 v.0 f.0)) (totals_why lines sheet 9 s.1 hs.0 hs.1 (omega arith, refl) (omega arith, refl) (omega arith, refl))
    (λ v hv. go lines sheet total (Behind {X = Flows} lines total 3) ok (flows_at sheet v.1) (λ f. closing f.1 >>= λ u. done (total_made o.0 s.0 v.0 f.0)) (flows_why lines sheet total v.1 (at_rows lines sheet total 12 v.1 hv.0 hv.1 (omega arith)) (omega arith) (omega arith) (omega arith))
    (λ f hf. closed_why lines sheet total f.1 (total_made o.0 s.0 v.0 f.0) hf))))

-- ---- the whole

-- a text is refused at its first line, or behind its header
module _ {X : Type 0} (header : List ℕ) (Refused : List Line → CertRefusal → Type 0) (rest_at : Place → Result X CertRefusal)
    (bad : (line : Line) (rest : List Line) → joined line ≢ header → Refused (line ∷ rest) (record { line = 1; kind = NoHeader }))
    (cut : (line : Line) (rest : List Line) → joined line ≡ header → rest ≡ [] → Refused (line ∷ rest) (record { line = 1; kind = Syntax }))
    (rest_why : (line : Line) (rest : List Line) (p : Place) → joined line ≡ header → At (line ∷ rest) p → p.at ≡ 2 → Is (Anything {X = X}) (Refused (line ∷ rest)) (rest_at p)) where
  abbrev Started : Line → List Line → Place → Type 0
  Started line rest p = At (line ∷ rest) p × (p.at ≡ 2) × (joined line ≡ header)

  header_why : (line : Line) (rest : List Line) → Is (Started line rest) (Refused (line ∷ rest)) (header_at header (line ∷ rest))
  unfolding header_at
  header_why line rest = by (is_fixed header line) refl (has_more rest) refl
    where
      by : (a : Bool) → is_fixed header line ≡ a → (b : Bool) → has_more rest ≡ b
          → Is (Started line rest) (Refused (line ∷ rest)) (cond a (cond b (done (record { at = 2; rest = rest })) (Err (record { line = 1; kind = Syntax }))) (Err (record { line = 1; kind = NoHeader })))
      by true e true m = (record { front = line ∷ []; parts = refl; at = refl; more = m }, refl, same_bytes (joined line) header e)
      by true e false m = cut line rest (same_bytes (joined line) header e) (no_more rest m)
      by false e b m = bad line rest (not_fixed header line e)

  pub refused_by : (lines : List Line) (r : CertRefusal) → has_more lines ≡ true → (header_at header lines >>= rest_at) ≡ Err r → Refused lines r
  refused_by [] r m e = absurd cc
  refused_by (line ∷ rest) r m e =
      subst (Is (Anything {X = X}) (Refused (line ∷ rest))) e
      (then_is (Started line rest) (Refused (line ∷ rest)) (Anything {X = X}) (Refused (line ∷ rest)) (header_at header (line ∷ rest)) rest_at (header_why line rest) (λ d k. k) (λ p s. rest_why line rest p s.2 s.0 s.1))

body_refused : {X : Type 0} (header : List ℕ) (sheet : Sheet) (kind : TextKind) (rest_at : Place → Result X CertRefusal) → ((lines : List Line) (p : Place) → At lines p → p.at ≡ 2 → Is (Anything {X = X}) (Why lines sheet kind) (rest_at p)) → (lines : List Line) (r : CertRefusal) → has_more lines ≡ true
    → (header_at header lines >>= rest_at) ≡ Err r → HasReason lines (IsReasonUnder header sheet kind lines) r
body_refused {X} header sheet kind rest_at rest_why lines r m e =
    let Refused = λ (ls : List Line) (d : CertRefusal). HasReason ls (IsReasonUnder header sheet kind ls) d in
    refused_by header Refused rest_at
    (λ line rest no. record { before = []; line = line; after = rest; parts = refl; count = refl; reason = inl (refl, no, refl) })
    (λ line rest is none. record { before = []; line = line; after = rest; parts = refl; count = refl; reason = inr (is, inl (none, refl)) })
    (λ line rest p is h at. is_more (Anything {X = X}) (Why (line ∷ rest) sheet kind) (Anything {X = X}) (Refused (line ∷ rest)) (rest_at p) (rest_why (line ∷ rest) p h at)
    (λ d w. with_reason (line ∷ rest) (IsBodyReason sheet kind) (IsReasonUnder header sheet kind (line ∷ rest)) (λ before l after d k. inr (is, k)) d w) (λ x k. k))
    lines r m e

pub hops_refused_for : (sheet : Sheet) (lines : List Line) (r : CertRefusal) → has_more lines ≡ true → hops_in sheet lines ≡ Err r → IsHopsRefusedFor sheet lines r
unfolding hops_in
hops_refused_for sheet lines r m e = body_refused (codes "mcf-hops 1") sheet hops (λ p. opening_at sheet p >>= hops_from sheet) (hops_why sheet) lines r m e

pub total_refused_for : (sheet : Sheet) (lines : List Line) (r : CertRefusal) → has_more lines ≡ true → part_in sheet lines ≡ Err r → IsTotalRefusedFor sheet lines r
unfolding part_in
total_refused_for sheet lines r m e = body_refused (codes "mcf-throughput 1") sheet total (λ p. opening_at sheet p >>= part_from sheet) (total_why sheet) lines r m e
