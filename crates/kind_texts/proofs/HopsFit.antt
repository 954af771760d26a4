-- A certificate with hop limits that is read is within the limits of a text.
use Rattle.std.proofs.Common.{◌≡◌, ℕ, Bool, List, Result, Ok, Err, subst}
use Rattle.std.specs.Prelude.{codes, IfOk}
use Rattle.text_lines.specs.Lines.{Line}
use Rattle.flow_paths.specs.declared.certificate.Printed.{Printed}
use Rattle.cert_lines.specs.Sheet.{Sheet}
use Rattle.cert_lines.specs.declared.refusal.CertEnd.{CertEnd}
use Rattle.cert_lines.specs.declared.refusal.CertRefusal.{CertRefusal}
use Rattle.cert_lines.specs.Forms.{◌>>=◌}
use Rattle.cert_text.specs.Reading.{Gives, Place, rows_from, closing}
use Rattle.cert_text.specs.Papers.{scale_at, opening_at, values_at}
use Rattle.cert_text.proofs.Steps.{bind_ok, done, ok_is, rows_fit}
use Rattle.hop_check.specs.LayerRows.{Layer}
use Rattle.hop_check.specs.declared.hop_proof.HopProof.{HopProof}
use Rattle.kind_texts.specs.Heads.{header_at}
use Rattle.kind_texts.specs.Rows.{flows_at}
use Rattle.kind_texts.specs.HopsText.{FitsLayer, FitsHops}
use Rattle.kind_texts.specs.HopsRead.{layer_row, hops_from, hops_in}
use Rattle.kind_texts.proofs.PartsFit.{Flows, flows_ok, layer_fits, Scale, scale_ok, values_ok, opening_ok}

-- the certificate of its parts
abbrev pub made : Bool × ℕ → Scale → Printed × Printed → Flows → List Layer → HopProof
made o s v f ls = record {
  proof = record {
    closed = o.0;
    gap = o.1;
    routing = record { phases = s.0; scale_cap = s.1.0; scale_load = s.1.1; paths = f.0 };
    lower = v.0;
    upper = v.1;
    dual = f.1;
  };
  layers = ls;
}

behind_fits : (sheet : Sheet) (place : Place) (h : HopProof) → (opening_at sheet place >>= hops_from sheet) ≡ Ok h → FitsHops sheet h
unfolding hops_from
behind_fits sheet place h e =
    let layer = λ (q : Place). rows_from (codes "layer") (layer_row sheet) q.at q.rest in
    let end = λ (o : Bool × ℕ) (s : Scale) (v : Printed × Printed) (f : Flows) (ls : List Layer). done {A = HopProof} {E = CertRefusal} (made o s v f ls) in
    let a = bind_ok (opening_at sheet place) (hops_from sheet) h e in
    let b = bind_ok (scale_at a.0.1) (λ scale. values_at scale.1 >>= λ values. flows_at sheet values.1 >>= λ flows. layer flows.1 >>= λ layers. closing layers.1 >>= λ last. end a.0.0 scale.0 values.0 flows.0 layers.0) h a.2 in
    let c = bind_ok (values_at b.0.1) (λ values. flows_at sheet values.1 >>= λ flows. layer flows.1 >>= λ layers. closing layers.1 >>= λ last. end a.0.0 b.0.0 values.0 flows.0 layers.0) h b.2 in
    let d = bind_ok (flows_at sheet c.0.1) (λ flows. layer flows.1 >>= λ layers. closing layers.1 >>= λ last. end a.0.0 b.0.0 c.0.0 flows.0 layers.0) h c.2 in
    let f = bind_ok (layer d.0.1) (λ layers. closing layers.1 >>= λ last. end a.0.0 b.0.0 c.0.0 d.0.0 layers.0) h d.2 in
    let g = bind_ok (closing f.0.1) (λ last. end a.0.0 b.0.0 c.0.0 d.0.0 f.0.0) h f.2 in
    let s = scale_ok a.0.1 b.0 b.1 in
    let v = values_ok b.0.1 c.0 c.1 in
    let flows = flows_ok sheet c.0.1 d.0 d.1 in
    subst (FitsHops sheet) (ok_is {E = CertRefusal} (made a.0.0 b.0.0 c.0.0 d.0.0 f.0.0) h g.2) (record {
      proof = record {
        gap = opening_ok sheet place a.0 a.1;
        routing = record { phases = s.0; scale_cap = s.1; scale_load = s.2; paths = flows.paths };
        lower = v.0;
        upper = v.1;
        lengths = flows.lengths;
        potentials = flows.potentials;
      };
      layers = rows_fit (FitsLayer sheet) (codes "layer") (layer_row sheet) (layer_fits sheet) d.0.1.at d.0.1.rest f.0 f.1;
    })

pub hops_within : (sheet : Sheet) (lines : List Line) (h : HopProof) → hops_in sheet lines ≡ Ok h → FitsHops sheet h
unfolding hops_in
hops_within sheet lines h e =
    let a = bind_ok (header_at (codes "mcf-hops 1") lines) (λ place. opening_at sheet place >>= hops_from sheet) h e in
    behind_fits sheet a.0 h a.2

pub hops_given : (sheet : Sheet) (lines : List Line) (r : Result HopProof CertEnd) → Gives (λ x. x) r (hops_in sheet lines) → IfOk r (FitsHops sheet)
hops_given sheet lines (Ok h) e = hops_within sheet lines h e
hops_given sheet lines (Err end) e = tt
