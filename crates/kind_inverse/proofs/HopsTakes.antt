-- Certificates with hop limits: what is read was spelled so.
use Rattle.std.proofs.Common.{◌≡◌, ℕ, Bool, List, [], ◌∷◌, ◌++◌, Ok, refl, sym, ap, subst, ◌∙◌, append_assoc}
use Rattle.std.specs.Prelude.{codes, map}
use Rattle.std.proofs.lemmas.List.Concat.{flat_map-cons}
use Rattle.text_lines.specs.Lines.{Line, spelled, text_of}
use Rattle.flow_paths.specs.declared.certificate.Printed.{Printed}
use Rattle.cert_lines.specs.Sheet.{Sheet}
use Rattle.cert_lines.specs.declared.refusal.CertRefusal.{CertRefusal}
use Rattle.cert_lines.specs.Forms.{◌>>=◌}
use Rattle.cert_lines.specs.Spelling.{length_words, potential_words, path_words}
use Rattle.cert_text.specs.Reading.{Place, rows_from, bytes_of, closing}
use Rattle.cert_text.specs.Papers.{scale_at, opening_at, values_at}
use Rattle.cert_writer.specs.Text.{figure_lines, end_line}
use Rattle.cert_text.proofs.Steps.{bind_ok, done, ok_is}
use Rattle.cert_inverse.proofs.Between.{rows_between, closing_takes}
use Rattle.cert_inverse.proofs.TextTakes.{Scale, scale_lines, scale_take, value_lines, values_take, opened_lines, opening_take, goes_to}
use Rattle.hop_check.specs.LayerRows.{Layer}
use Rattle.hop_check.specs.declared.hop_proof.HopProof.{HopProof}
use Rattle.kind_texts.specs.Heads.{head_lines, header_at}
use Rattle.kind_texts.specs.Rows.{flows_at}
use Rattle.kind_texts.specs.HopsText.{layer_words, hops_lines, hops_text}
use Rattle.kind_texts.specs.HopsRead.{layer_row, hops_from, hops_in}
use Rattle.kind_texts.proofs.PartsFit.{Flows}
use Rattle.kind_texts.proofs.HopsFit.{made}
use Rattle.kind_inverse.proofs.LayerLaws.{layer_takes}
use Rattle.kind_inverse.proofs.PartsTake.{flow_lines, flows_take, header_take}

-- the lines behind the first
abbrev behind_header : Sheet → HopProof → List Line
behind_header sheet h =
    opened_lines sheet (h.proof.closed, h.proof.gap) ++ (scale_lines (h.proof.routing.phases, (h.proof.routing.scale_cap, h.proof.routing.scale_load)) ++ (value_lines (h.proof.lower, h.proof.upper)
    ++ (flow_lines sheet (h.proof.routing.paths, h.proof.dual) ++ (map (layer_words sheet) h.layers ++ end_line ∷ []))))

-- spelled so behind the header
abbrev IsBehind : Sheet → Place → HopProof → Type 0
IsBehind sheet place h = bytes_of place.rest ≡ text_of (behind_header sheet h)

hops_behind : (sheet : Sheet) (place : Place) (h : HopProof) → (opening_at sheet place >>= hops_from sheet) ≡ Ok h → IsBehind sheet place h
unfolding hops_from
hops_behind sheet place h e =
    let layer = λ (q : Place). rows_from (codes "layer") (layer_row sheet) q.at q.rest in
    let end = λ (o : Bool × ℕ) (s : Scale) (v : Printed × Printed) (f : Flows) (ls : List Layer). done {A = HopProof} {E = CertRefusal} (made o s v f ls) in
    let a = bind_ok (opening_at sheet place) (hops_from sheet) h e in
    let b = bind_ok (scale_at a.0.1) (λ scale. values_at scale.1 >>= λ values. flows_at sheet values.1 >>= λ flows. layer flows.1 >>= λ layers. closing layers.1 >>= λ last. end a.0.0 scale.0 values.0 flows.0 layers.0) h a.2 in
    let c = bind_ok (values_at b.0.1) (λ values. flows_at sheet values.1 >>= λ flows. layer flows.1 >>= λ layers. closing layers.1 >>= λ last. end a.0.0 b.0.0 values.0 flows.0 layers.0) h b.2 in
    let d = bind_ok (flows_at sheet c.0.1) (λ flows. layer flows.1 >>= λ layers. closing layers.1 >>= λ last. end a.0.0 b.0.0 c.0.0 flows.0 layers.0) h c.2 in
    let f = bind_ok (layer d.0.1) (λ layers. closing layers.1 >>= λ last. end a.0.0 b.0.0 c.0.0 d.0.0 layers.0) h d.2 in
    let g = bind_ok (closing f.0.1) (λ last. end a.0.0 b.0.0 c.0.0 d.0.0 f.0.0) h f.2 in
    let flows = flows_take sheet c.0.1 d.0 d.1 in
    let last : List Line = map (layer_words sheet) f.0.0 ++ end_line ∷ [] in
    let rows = rows_between (codes "layer") (layer_row sheet) (layer_words sheet) (layer_takes sheet) d.0.1 f.0 f.1 in
    let from_layers = goes_to (map (layer_words sheet) f.0.0) (end_line ∷ []) d.0.1 f.0.1 rows (closing_takes f.0.1 g.0 g.1) in
    let from_flows = goes_to (flow_lines sheet d.0.0) last c.0.1 d.0.1 flows from_layers in
    let from_values = goes_to (value_lines c.0.0) (flow_lines sheet d.0.0 ++ last) b.0.1 c.0.1 (values_take b.0.1 c.0 c.1) from_flows in
    let from_scale = goes_to (scale_lines b.0.0) (value_lines c.0.0 ++ (flow_lines sheet d.0.0 ++ last)) a.0.1 b.0.1 (scale_take a.0.1 b.0 b.1) from_values in
    let from_opening = goes_to (opened_lines sheet a.0.0) (scale_lines b.0.0 ++ (value_lines c.0.0 ++ (flow_lines sheet d.0.0 ++ last))) place a.0.1 (opening_take sheet place a.0 a.1) from_scale in
    subst (IsBehind sheet place) (ok_is {E = CertRefusal} (made a.0.0 b.0.0 c.0.0 d.0.0 f.0.0) h g.2) from_opening

-- the header, and the lines behind it
whole_is : (sheet : Sheet) (h : HopProof) → spelled (codes "mcf-hops" ∷ codes "1" ∷ []) ++ text_of (behind_header sheet h) ≡ hops_text sheet h
whole_is sheet h =
    let paths = map (path_words sheet) h.proof.routing.paths in
    let lengths = map (length_words sheet) h.proof.dual.lengths in
    let potentials = map (potential_words sheet) h.proof.dual.potentials in
    let last : List Line = map (layer_words sheet) h.layers ++ end_line ∷ [] in
    let rows : (paths ++ (lengths ++ potentials)) ++ last ≡ paths ++ (lengths ++ (potentials ++ last)) = simp append_assoc in
    sym (flat_map-cons spelled (codes "mcf-hops" ∷ codes "1" ∷ []) (behind_header sheet h))
    ∙ ap (λ (ls : List Line). text_of (head_lines (codes "mcf-hops") sheet h.proof.closed ++ (figure_lines h.proof ++ ls))) rows

-- the lines are of the text of what was read
pub hops_take : (sheet : Sheet) (lines : List Line) (h : HopProof) → hops_in sheet lines ≡ Ok h → bytes_of lines ≡ hops_text sheet h
unfolding hops_in
hops_take sheet lines h e =
    let first : Line = codes "mcf-hops" ∷ codes "1" ∷ [] in
    let a = bind_ok (header_at (codes "mcf-hops 1") lines) (λ place. opening_at sheet place >>= hops_from sheet) h e in
    header_take (codes "mcf-hops 1") first lines a.0 refl a.1 ∙ ap (λ (l : List ℕ). spelled first ++ l) (hops_behind sheet a.0 h a.2) ∙ whole_is sheet h
