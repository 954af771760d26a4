-- A certificate of a total that is read is within the limits of a text.
use Rattle.std.proofs.Common.{◌≡◌, ℕ, Bool, List, Result, Ok, Err, subst}
use Rattle.std.specs.Prelude.{codes, IfOk}
use Rattle.text_lines.specs.Lines.{Line}
use Rattle.cert_lines.specs.Sheet.{Sheet}
use Rattle.cert_lines.specs.declared.refusal.CertEnd.{CertEnd}
use Rattle.cert_lines.specs.declared.refusal.CertRefusal.{CertRefusal}
use Rattle.cert_lines.specs.Forms.{◌>>=◌}
use Rattle.cert_text.specs.Reading.{Gives, Place, closing}
use Rattle.cert_text.specs.Papers.{scale_at, opening_at}
use Rattle.cert_text.proofs.Steps.{bind_ok, done, ok_is}
use Rattle.throughput.specs.declared.part_proof.PartProof.{PartProof}
use Rattle.kind_texts.specs.Heads.{header_at}
use Rattle.kind_texts.specs.Rows.{flows_at}
use Rattle.kind_texts.specs.PartText.{FitsPart}
use Rattle.kind_texts.specs.PartRead.{totals_at, part_from, part_in}
use Rattle.kind_texts.proofs.PartsFit.{Flows, flows_ok, Totals, totals_ok, Scale, scale_ok, opening_ok}

-- the certificate of its parts
abbrev pub made : Bool × ℕ → Scale → Totals → Flows → PartProof
made o s v f = record {
  closed = o.0;
  gap = o.1;
  routing = record { phases = s.0; scale_cap = s.1.0; scale_load = s.1.1; paths = f.0 };
  lower = v.0;
  upper = v.1;
  bound = record { threshold = v.2; dual = f.1 };
}

behind_fits : (sheet : Sheet) (place : Place) (p : PartProof) → (opening_at sheet place >>= part_from sheet) ≡ Ok p → FitsPart sheet p
unfolding part_from
behind_fits sheet place p e =
    let end = λ (o : Bool × ℕ) (s : Scale) (v : Totals) (f : Flows). done {A = PartProof} {E = CertRefusal} (made o s v f) in
    let a = bind_ok (opening_at sheet place) (part_from sheet) p e in
    let b = bind_ok (scale_at a.0.1) (λ scale. totals_at scale.1 >>= λ totals. flows_at sheet totals.1 >>= λ flows. closing flows.1 >>= λ last. end a.0.0 scale.0 totals.0 flows.0) p a.2 in
    let c = bind_ok (totals_at b.0.1) (λ totals. flows_at sheet totals.1 >>= λ flows. closing flows.1 >>= λ last. end a.0.0 b.0.0 totals.0 flows.0) p b.2 in
    let d = bind_ok (flows_at sheet c.0.1) (λ flows. closing flows.1 >>= λ last. end a.0.0 b.0.0 c.0.0 flows.0) p c.2 in
    let g = bind_ok (closing d.0.1) (λ last. end a.0.0 b.0.0 c.0.0 d.0.0) p d.2 in
    let s = scale_ok a.0.1 b.0 b.1 in
    let v = totals_ok b.0.1 c.0 c.1 in
    let flows = flows_ok sheet c.0.1 d.0 d.1 in
    subst (FitsPart sheet) (ok_is {E = CertRefusal} (made a.0.0 b.0.0 c.0.0 d.0.0) p g.2) (record {
      gap = opening_ok sheet place a.0 a.1;
      routing = record { phases = s.0; scale_cap = s.1; scale_load = s.2; paths = flows.paths };
      lower = v.lower;
      upper = v.upper;
      threshold = v.threshold;
      lengths = flows.lengths;
      potentials = flows.potentials;
    })

pub part_within : (sheet : Sheet) (lines : List Line) (p : PartProof) → part_in sheet lines ≡ Ok p → FitsPart sheet p
unfolding part_in
part_within sheet lines p e =
    let a = bind_ok (header_at (codes "mcf-throughput 1") lines) (λ place. opening_at sheet place >>= part_from sheet) p e in
    behind_fits sheet a.0 p a.2

pub part_given : (sheet : Sheet) (lines : List Line) (r : Result PartProof CertEnd) → Gives (λ x. x) r (part_in sheet lines) → IfOk r (FitsPart sheet)
part_given sheet lines (Ok p) e = part_within sheet lines p e
part_given sheet lines (Err end) e = tt
