-- Why a certificate or routing is refused at a line.
use Rattle.std.proofs.Common.{◌≡◌, ℕ, Bool, true, false, cond, List, [], ◌∷◌, Option, Some, None, Err, refl, subst, inl, inr, arith}
use Rattle.std.specs.Prelude.{codes}
use Rattle.text_lines.specs.Lines.{Line}
use Rattle.flow_model.specs.Routing.{Row}
use Rattle.flow_paths.specs.DualRows.{DualRows}
use Rattle.flow_paths.specs.declared.certificate.Routing.{Routing}
use Rattle.flow_paths.specs.declared.certificate.Printed.{Printed}
use Rattle.flow_paths.specs.declared.certificate.Proof.{Proof}
use Rattle.cert_lines.specs.Sheet.{Sheet, Sheets, sheet_for}
use Rattle.cert_lines.specs.declared.refusal.CertKind.TheVariants.{Syntax}
use Rattle.cert_lines.specs.declared.refusal.CertRefusal.{CertRefusal}
use Rattle.cert_lines.specs.Forms.{◌>>=◌}
use Rattle.cert_lines.specs.Rows.{path_row}
use Rattle.cert_text.specs.declared.papers.Paper.{Paper}
use Rattle.cert_text.specs.declared.papers.Paper.TheVariants as papers
use Rattle.cert_text.specs.declared.opening.Kind.{Kind}
use Rattle.cert_text.specs.declared.opening.Kind.TheVariants as kinds
use Rattle.cert_text.specs.declared.opening.Opening.{Opening}
use Rattle.cert_text.specs.Reading.{Place, has_more, rows_from, closing}
use Rattle.cert_text.specs.Papers.{modes_at, scale_at, opening_at, values_at, dual_at, routing_at, proof_at, form_of, header_of, header, routing_from, proof_from, header_by}
use Rattle.cert_text.specs.Whole.{paper_at, paper_in}
use Rattle.cli_laws.specs.LineRoles.{paper, path, IsBodyReason}
use Rattle.cli_laws.specs.PaperKinds.{Says, IsReason, IsRefusedFor}
use Rattle.cli_laws.proofs.Steps.{done, Is, then_is, is_more}
use Rattle.cli_laws.proofs.LineReasons.{path_fault}
use Rattle.cli_laws.proofs.Reasons.{At, Why, no_more, with_reason, Reached, Behind, Anything, HasHead, go, rows_on, at_rows, modes_why, scale_why, values_why, opening_why, dual_why, closed_why}

-- ---- what follows the header

abbrev routing_made : ℕ × (ℕ × ℕ) → List Row → Routing
routing_made s ps = record { phases = s.0; scale_cap = s.1.0; scale_load = s.1.1; paths = ps }

routing_why : (lines : List Line) (sheet : Sheet) (p : Place) → At lines p → p.at ≡ 2 → Is (Anything {X = Routing}) (Why lines sheet (paper kinds.Routing)) (routing_at sheet p)
unfolding routing_at routing_from
routing_why lines sheet p h is =
    let kind = paper kinds.Routing in
    let ok = Anything {X = Routing} in
    go lines sheet kind (λ q. At lines q × (q.at ≡ 4)) ok (modes_at sheet p) (λ m. scale_at m >>= λ s. rows_from (codes "path") (path_row sheet) s.1.at s.1.rest >>= λ ps. closing ps.1 >>= λ u. done (routing_made s.0 ps.0)) (modes_why lines sheet kind 2 p h is (omega arith, refl) (omega arith, refl))
    (λ m hm. go lines sheet kind (Reached {X = ℕ × (ℕ × ℕ)} lines 6) ok (scale_at m) (λ s. rows_from (codes "path") (path_row sheet) s.1.at s.1.rest >>= λ ps. closing ps.1 >>= λ u. done (routing_made s.0 ps.0)) (scale_why lines sheet kind 4 m hm.0 hm.1 (omega arith, refl) (omega arith, refl))
    (λ s hs. go lines sheet kind (Behind {X = List Row} lines kind 1) ok (rows_from (codes "path") (path_row sheet) s.1.at s.1.rest) (λ ps. closing ps.1 >>= λ u. done (routing_made s.0 ps.0)) (rows_on lines sheet kind path (path_row sheet) (path_fault sheet) s.1 (at_rows lines sheet kind 6 s.1 hs.0 hs.1 (omega arith)) (omega arith))
    (λ ps hp. closed_why lines sheet kind ps.1 (routing_made s.0 ps.0) hp)))

abbrev proof_made : Bool × ℕ → ℕ × (ℕ × ℕ) → Printed × Printed → List Row → DualRows → Proof
proof_made o s v ps d = record {
  closed = o.0;
  gap = o.1;
  routing = routing_made s ps;
  lower = v.0;
  upper = v.1;
  dual = d;
}

head_is : HasHead (paper kinds.Certificate)
head_is = record {
  at_verdict = (omega arith, refl);
  at_links = (omega arith, refl);
  at_modules = (omega arith, refl);
  at_counts = (omega arith, refl);
  at_gap = (omega arith, refl);
  at_phases = (omega arith, refl);
  at_scale = (omega arith, refl);
}

proof_why : (lines : List Line) (sheet : Sheet) (p : Place) → At lines p → p.at ≡ 2 → Is (Anything {X = Proof}) (Why lines sheet (paper kinds.Certificate)) (proof_at sheet p)
unfolding proof_at proof_from
proof_why lines sheet p h is =
    let kind = paper kinds.Certificate in
    let ok = Anything {X = Proof} in
    let rows = λ (q : Place). rows_from (codes "path") (path_row sheet) q.at q.rest in
    go lines sheet kind (Reached {X = Bool × ℕ} lines 7) ok (opening_at sheet p) (λ o. scale_at o.1 >>= λ s. values_at s.1 >>= λ v. rows v.1 >>= λ ps. dual_at sheet ps.1 >>= λ d. closing d.1 >>= λ u. done (proof_made o.0 s.0 v.0 ps.0 d.0)) (opening_why lines sheet kind p h is head_is)
    (λ o ho. go lines sheet kind (Reached {X = ℕ × (ℕ × ℕ)} lines 9) ok (scale_at o.1) (λ s. values_at s.1 >>= λ v. rows v.1 >>= λ ps. dual_at sheet ps.1 >>= λ d. closing d.1 >>= λ u. done (proof_made o.0 s.0 v.0 ps.0 d.0)) (scale_why lines sheet kind 7 o.1 ho.0 ho.1 head_is.at_phases head_is.at_scale)
    (λ s hs. go lines sheet kind (Reached {X = Printed × Printed} lines 11) ok (values_at s.1) (λ v. rows v.1 >>= λ ps. dual_at sheet ps.1 >>= λ d. closing d.1 >>= λ u. done (proof_made o.0 s.0 v.0 ps.0 d.0)) (values_why lines sheet kind 9 s.1 hs.0 hs.1 (omega arith, refl) (omega arith, refl))
    (λ v hv. go lines sheet kind (Behind {X = List Row} lines kind 1) ok (rows v.1) (λ ps. dual_at sheet ps.1 >>= λ d. closing d.1 >>= λ u. done (proof_made o.0 s.0 v.0 ps.0 d.0)) (rows_on lines sheet kind path (path_row sheet) (path_fault sheet) v.1 (at_rows lines sheet kind 11 v.1 hv.0 hv.1 (omega arith)) (omega arith))
    (λ ps hp. go lines sheet kind (Behind {X = DualRows} lines kind 3) ok (dual_at sheet ps.1) (λ d. closing d.1 >>= λ u. done (proof_made o.0 s.0 v.0 ps.0 d.0)) (dual_why lines sheet kind ps.1 hp (omega arith) (omega arith))
    (λ d hd. closed_why lines sheet kind d.1 (proof_made o.0 s.0 v.0 ps.0 d.0) hd)))))

paper_why : (lines : List Line) (sheet : Sheet) (kind : Kind) (p : Place) → At lines p → p.at ≡ 2 → Is (Anything {X = Paper}) (Why lines sheet (paper kind)) (paper_at sheet kind p)
unfolding paper_at
paper_why lines sheet kinds.Certificate p h is = go lines sheet (paper kinds.Certificate) (Anything {X = Proof}) (Anything {X = Paper}) (proof_at sheet p) (λ r. done (papers.Full r)) (proof_why lines sheet p h is) (λ r k. tt)
paper_why lines sheet kinds.Routing p h is = go lines sheet (paper kinds.Routing) (Anything {X = Routing}) (Anything {X = Paper}) (routing_at sheet p) (λ r. done (papers.Routing r)) (routing_why lines sheet p h is) (λ r k. tt)

-- ---- the whole

abbrev Started : List Line → Opening × Place → Type 0
Started lines x = At lines x.1 × (x.1.at ≡ 2) × Says lines x.0

header_why : (sheets : Sheets) (line : Line) (rest : List Line) → Is (Started (line ∷ rest)) (IsRefusedFor sheets (line ∷ rest)) (header (line ∷ rest))
unfolding header_by
header_why sheets line rest = by (form_of line) refl
  where
    known : (o : Opening) (b : Bool) → has_more rest ≡ b → form_of line ≡ Some o → Is (Started (line ∷ rest)) (IsRefusedFor sheets (line ∷ rest)) (cond b (done (o, record { at = 2; rest = rest })) (Err (record { line = 1; kind = Syntax })))
    known o true m e = (record { front = line ∷ []; parts = refl; at = refl; more = m }, refl, e)
    known o false m e = record { before = []; line = line; after = rest; parts = refl; count = refl; reason = inr (o, e, inl (no_more rest m, refl)) }

    by : (o : Option Opening) → form_of line ≡ o → Is (Started (line ∷ rest)) (IsRefusedFor sheets (line ∷ rest)) (header_of o rest)
    by None e = record { before = []; line = line; after = rest; parts = refl; count = refl; reason = inl (refl, e, refl) }
    by (Some o) e = known o (has_more rest) refl e

pub refused_for : (sheets : Sheets) (lines : List Line) (r : CertRefusal) → has_more lines ≡ true → paper_in sheets lines ≡ Err r → IsRefusedFor sheets lines r
unfolding paper_in
refused_for sheets [] r m e = absurd cc
refused_for sheets (line ∷ rest) r m e =
    subst (Is (Anything {X = Paper}) (IsRefusedFor sheets (line ∷ rest))) e
    (then_is (Started (line ∷ rest)) (IsRefusedFor sheets (line ∷ rest)) (Anything {X = Paper}) (IsRefusedFor sheets (line ∷ rest)) (header (line ∷ rest)) (λ first. paper_at (sheet_for sheets first.0.form) first.0.kind first.1)
    (header_why sheets line rest) (λ d k. k)
    (λ x s. is_more (Anything {X = Paper}) (Why (line ∷ rest) (sheet_for sheets x.0.form) (paper x.0.kind)) (Anything {X = Paper}) (IsRefusedFor sheets (line ∷ rest)) (paper_at (sheet_for sheets x.0.form) x.0.kind x.1)
    (paper_why (line ∷ rest) (sheet_for sheets x.0.form) x.0.kind x.1 s.0 s.1) (λ d w. with_reason (line ∷ rest) (IsBodyReason (sheet_for sheets x.0.form) (paper x.0.kind)) (IsReason sheets (line ∷ rest)) (λ before l after d k. inr (x.0, s.2, k)) d w) (λ p k. k)))
