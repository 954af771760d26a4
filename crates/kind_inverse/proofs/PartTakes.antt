-- Certificates of a total: what is read was spelled so.
use Rattle.std.proofs.Common.{◌≡◌, ℕ, Bool, List, [], ◌∷◌, ◌++◌, Ok, refl, sym, ap, subst, ◌∙◌, append_assoc}
use Rattle.std.specs.Prelude.{codes, map}
use Rattle.std.proofs.lemmas.List.Concat.{flat_map-cons}
use Rattle.text_lines.specs.Lines.{Line, spelled, text_of}
use Rattle.cert_lines.specs.Sheet.{Sheet}
use Rattle.cert_lines.specs.declared.refusal.CertRefusal.{CertRefusal}
use Rattle.cert_lines.specs.Forms.{◌>>=◌}
use Rattle.cert_lines.specs.Spelling.{length_words, potential_words, path_words}
use Rattle.cert_text.specs.Reading.{Place, bytes_of, closing}
use Rattle.cert_text.specs.Papers.{scale_at, opening_at}
use Rattle.cert_writer.specs.Text.{end_line}
use Rattle.cert_text.proofs.Steps.{bind_ok, done, ok_is}
use Rattle.cert_inverse.proofs.Between.{closing_takes}
use Rattle.cert_inverse.proofs.TextTakes.{Scale, scale_lines, scale_take, opened_lines, opening_take, goes_to}
use Rattle.throughput.specs.declared.part_proof.PartProof.{PartProof}
use Rattle.kind_texts.specs.Heads.{head_lines, header_at}
use Rattle.kind_texts.specs.Rows.{flows_at}
use Rattle.kind_texts.specs.PartText.{total_lines, part_text}
use Rattle.kind_texts.specs.PartRead.{totals_at, part_from, part_in}
use Rattle.kind_texts.proofs.PartsFit.{Flows, Totals}
use Rattle.kind_texts.proofs.PartFits.{made}
use Rattle.kind_inverse.proofs.PartsTake.{flow_lines, flows_take, totals_lines, totals_take, header_take}

-- the lines behind the first
abbrev behind_header : Sheet → PartProof → List Line
behind_header sheet p =
    opened_lines sheet (p.closed, p.gap) ++ (scale_lines (p.routing.phases, (p.routing.scale_cap, p.routing.scale_load)) ++ (totals_lines (p.lower, p.upper, p.bound.threshold)
    ++ (flow_lines sheet (p.routing.paths, p.bound.dual) ++ end_line ∷ [])))

-- spelled so behind the header
abbrev IsBehind : Sheet → Place → PartProof → Type 0
IsBehind sheet place p = bytes_of place.rest ≡ text_of (behind_header sheet p)

part_behind : (sheet : Sheet) (place : Place) (p : PartProof) → (opening_at sheet place >>= part_from sheet) ≡ Ok p → IsBehind sheet place p
unfolding part_from
part_behind sheet place p e =
    let end = λ (o : Bool × ℕ) (s : Scale) (v : Totals) (f : Flows). done {A = PartProof} {E = CertRefusal} (made o s v f) in
    let a = bind_ok (opening_at sheet place) (part_from sheet) p e in
    let b = bind_ok (scale_at a.0.1) (λ scale. totals_at scale.1 >>= λ totals. flows_at sheet totals.1 >>= λ flows. closing flows.1 >>= λ last. end a.0.0 scale.0 totals.0 flows.0) p a.2 in
    let c = bind_ok (totals_at b.0.1) (λ totals. flows_at sheet totals.1 >>= λ flows. closing flows.1 >>= λ last. end a.0.0 b.0.0 totals.0 flows.0) p b.2 in
    let d = bind_ok (flows_at sheet c.0.1) (λ flows. closing flows.1 >>= λ last. end a.0.0 b.0.0 c.0.0 flows.0) p c.2 in
    let g = bind_ok (closing d.0.1) (λ last. end a.0.0 b.0.0 c.0.0 d.0.0) p d.2 in
    let v = totals_take b.0.1 c.0 c.1 in
    let flows = flows_take sheet c.0.1 d.0 d.1 in
    let last : List Line = end_line ∷ [] in
    let from_flows = goes_to (flow_lines sheet d.0.0) last c.0.1 d.0.1 flows (closing_takes d.0.1 g.0 g.1) in
    let from_totals = goes_to (totals_lines c.0.0) (flow_lines sheet d.0.0 ++ last) b.0.1 c.0.1 v from_flows in
    let from_scale = goes_to (scale_lines b.0.0) (totals_lines c.0.0 ++ (flow_lines sheet d.0.0 ++ last)) a.0.1 b.0.1 (scale_take a.0.1 b.0 b.1) from_totals in
    let from_opening = goes_to (opened_lines sheet a.0.0) (scale_lines b.0.0 ++ (totals_lines c.0.0 ++ (flow_lines sheet d.0.0 ++ last))) place a.0.1 (opening_take sheet place a.0 a.1) from_scale in
    subst (IsBehind sheet place) (ok_is {E = CertRefusal} (made a.0.0 b.0.0 c.0.0 d.0.0) p g.2) from_opening

-- the header, and the lines behind it
whole_is : (sheet : Sheet) (p : PartProof) → spelled (codes "mcf-throughput" ∷ codes "1" ∷ []) ++ text_of (behind_header sheet p) ≡ part_text sheet p
whole_is sheet p =
    let paths = map (path_words sheet) p.routing.paths in
    let lengths = map (length_words sheet) p.bound.dual.lengths in
    let potentials = map (potential_words sheet) p.bound.dual.potentials in
    let last : List Line = end_line ∷ [] in
    let rows : (paths ++ (lengths ++ potentials)) ++ last ≡ paths ++ (lengths ++ (potentials ++ last)) = simp append_assoc in
    sym (flat_map-cons spelled (codes "mcf-throughput" ∷ codes "1" ∷ []) (behind_header sheet p))
    ∙ ap (λ (ls : List Line). text_of (head_lines (codes "mcf-throughput") sheet p.closed ++ (total_lines p ++ ls))) rows

-- the lines are of the text of what was read
pub part_take : (sheet : Sheet) (lines : List Line) (p : PartProof) → part_in sheet lines ≡ Ok p → bytes_of lines ≡ part_text sheet p
unfolding part_in
part_take sheet lines p e =
    let first : Line = codes "mcf-throughput" ∷ codes "1" ∷ [] in
    let a = bind_ok (header_at (codes "mcf-throughput 1") lines) (λ place. opening_at sheet place >>= part_from sheet) p e in
    header_take (codes "mcf-throughput 1") first lines a.0 refl a.1 ∙ ap (λ (l : List ℕ). spelled first ++ l) (part_behind sheet a.0 p a.2) ∙ whole_is sheet p
