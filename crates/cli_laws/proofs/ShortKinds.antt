-- Certificates with hop limits and of totals: what was read before a refusal is the front of one.
use Rattle.std.proofs.Common.{◌≡◌, ℕ, ◌+◌, ◌≤◌, Bool, true, false, cond, List, [], ◌∷◌, ◌++◌, length, Result, Ok, Err, refl, sym, ap, subst, ◌∙◌, append_assoc, append-nil, arith}
use Rattle.std.specs.Prelude.{codes, map}
use Rattle.std.specs.List.{AllByRecursion}
use Rattle.std.proofs.lemmas.List.Concat.{flat_map-cons}
use Rattle.text_lines.specs.Lines.{Line, spelled, text_of}
use Rattle.gap_fraction.specs.declared.fraction.TheConstants.{MAX_PART}
use Rattle.mcf_limits.specs.declared.TheConstants.{MAX_LENGTH}
use Rattle.cert_lines.specs.Sheet.{Sheet}
use Rattle.cert_lines.specs.declared.refusal.CertKind.TheVariants.{NoHeader, Syntax}
use Rattle.cert_lines.specs.declared.refusal.CertRefusal.{CertRefusal}
use Rattle.cert_lines.specs.Forms.{◌>>=◌, or_fault, one_behind, is_fixed}
use Rattle.cert_lines.specs.Numbers.{number_within}
use Rattle.cert_lines.specs.HeadLines.{value_line}
use Rattle.cert_lines.specs.Rows.{path_row}
use Rattle.cert_lines.specs.Spelling.{length_words, potential_words, path_words, value_words, FitsValue, FitsPath}
use Rattle.cert_text.specs.Reading.{Place, bytes_of, has_more, next_line, rows_from, closing}
use Rattle.cert_text.specs.Papers.{scale_at, opening_at, values_at, dual_at}
use Rattle.cert_writer.specs.Text.{figure_lines, end_line}
use Rattle.cert_text.proofs.Steps.{bind_ok}
use Rattle.cert_text.proofs.LineFits.{number_fits}
use Rattle.cert_inverse.proofs.HeadTakes.{joined}
use Rattle.cert_inverse.proofs.TextTakes.{scale_lines, value_lines, opened_lines, dual_lines}
use Rattle.hop_check.specs.LayerRows.{Layer}
use Rattle.hop_check.specs.declared.hop_proof.HopProof.{HopProof}
use Rattle.throughput.specs.declared.part_proof.PartProof.{PartProof}
use Rattle.kind_texts.specs.Heads.{head_lines, header_at}
use Rattle.kind_texts.specs.Rows.{flows_at}
use Rattle.kind_texts.specs.HopsText.{layer_words, hops_lines, FitsLayer, FitsHops}
use Rattle.kind_texts.specs.HopsRead.{layer_row, hops_from}
use Rattle.kind_texts.specs.PartText.{threshold_words, total_lines, part_lines, FitsPart}
use Rattle.kind_texts.specs.PartRead.{threshold_line, totals_at, part_from}
use Rattle.kind_texts.proofs.HopsFit.{made as hops_made}
use Rattle.kind_texts.proofs.PartsFit.{Flows, Totals, layer_fits}
use Rattle.kind_texts.proofs.PartFits.{made as total_made}
use Rattle.kind_inverse.proofs.LayerLaws.{threshold_takes, layer_takes}
use Rattle.kind_inverse.proofs.PartsTake.{flow_lines, totals_lines, header_take}
use Rattle.cli_laws.proofs.Steps.{done, failed, Is}
use Rattle.cli_laws.proofs.Short.{Short, PartOf, Read, Parses, Fits, FaultAt, stand_none, within, line_parses, rows_part, go_on, go_last}
use Rattle.cli_laws.proofs.ShortPapers.{Opened, OpenFits, opening_part, Scale, ScaleFits, no_scale, scale_part, Values, ValuesFit, nought, nought_fits, value_part, no_values, values_part, paths_part, DualFits, dual_made, dual_part, routing_fits, proof_fits, figures}

-- ---- parts

abbrev FlowsFit : Sheet → Flows → Type 0
FlowsFit sheet f = AllByRecursion (FitsPath sheet) f.0 × DualFits sheet f.1

abbrev no_flows : Flows
no_flows = ([], dual_made [] [])

flows_part : (sheet : Sheet) (p : Place) → Parses (flow_lines sheet) (FlowsFit sheet) p (flows_at sheet p)
unfolding flows_at
flows_part sheet p =
    let ok = Read (flow_lines sheet) (FlowsFit sheet) p in
    let front = PartOf (flow_lines sheet) (FlowsFit sheet) in
    let rows = map (path_words sheet) in
    let none = dual_made [] [] in
    go_on rows (AllByRecursion (FitsPath sheet)) ok front p p [] (rows_from (codes "path") (path_row sheet) p.at p.rest) (λ ps. dual_at sheet ps.1 >>= λ d. done ((ps.0, d.0), d.1)) (stand_none p) (paths_part sheet p)
    (λ f is. ((is.0, none), (is.1, (tt, tt)), is.2 ++ [], within [] (rows is.0) [] f is.2 (flow_lines sheet (is.0, none)) refl is.3))
    (λ ps q fine st. go_on (dual_lines sheet) (DualFits sheet) ok front p q (rows ps) (dual_at sheet q) (λ d. done ((ps, d.0), d.1)) st (dual_part sheet q)
    (λ f is. ((ps, is.0), (fine, is.1), is.2 ++ [], within (rows ps) (dual_lines sheet is.0) [] f is.2 (flow_lines sheet (ps, is.0)) (ap (λ (l : List Line). rows ps ++ l) (sym (append-nil (dual_lines sheet is.0)))) is.3))
    (λ d r fine' st'. (st', (fine, fine'))))

layers_part : (sheet : Sheet) (p : Place) → Parses (map (layer_words sheet)) (AllByRecursion (FitsLayer sheet)) p (rows_from (codes "layer") (layer_row sheet) p.at p.rest)
layers_part sheet p = rows_part (codes "layer") (layer_row sheet) (layer_words sheet) (FitsLayer sheet) (layer_takes sheet) (layer_fits sheet) p

threshold_fits : (line : Line) (n : ℕ) → threshold_line line ≡ Ok n → n ≤ MAX_LENGTH
unfolding threshold_line
threshold_fits line n e =
    let a = bind_ok (or_fault Syntax (one_behind (codes "threshold") line)) (λ word. number_within MAX_LENGTH word) n e in
    number_fits MAX_LENGTH a.0 n a.2

threshold_part : (p : Place) → Parses (λ n. threshold_words n ∷ []) (λ n. n ≤ MAX_LENGTH) p (next_line threshold_line p)
threshold_part p = line_parses threshold_line threshold_words (λ n. n ≤ MAX_LENGTH) 0 (omega arith) (λ line n h. ap joined (threshold_takes line n h)) threshold_fits p

abbrev TotalsFit : Totals → Type 0
TotalsFit v = FitsValue MAX_PART v.0 × FitsValue MAX_PART v.1 × (v.2 ≤ MAX_LENGTH)

abbrev no_totals : Totals
no_totals = (nought, nought, 0)

totals_none : TotalsFit no_totals
totals_none = (nought_fits MAX_PART, nought_fits MAX_PART, omega arith)

totals_part : (p : Place) → Parses totals_lines TotalsFit p (totals_at p)
unfolding totals_at
totals_part p =
    let low = value_line (codes "lower") MAX_PART in
    let high = value_line (codes "upper") MAX_PART in
    let lower = value_words (codes "lower") in
    let upper = value_words (codes "upper") in
    let ok = Read totals_lines TotalsFit p in
    let front = PartOf totals_lines TotalsFit in
    go_on (λ x. lower x ∷ []) (FitsValue MAX_PART) ok front p p [] (next_line low p) (λ a. next_line high a.1 >>= λ b. next_line threshold_line b.1 >>= λ c. done ((a.0, b.0, c.0), c.1)) (stand_none p) (value_part (codes "lower") MAX_PART p (omega arith))
    (λ f is. ((is.0, nought, 0), (is.1, nought_fits MAX_PART, omega arith), is.2 ++ (upper nought ∷ threshold_words 0 ∷ []), within [] (lower is.0 ∷ []) (upper nought ∷ threshold_words 0 ∷ []) f is.2 (totals_lines (is.0, nought, 0)) refl is.3))
    (λ x q fine st. go_on (λ y. upper y ∷ []) (FitsValue MAX_PART) ok front p q (lower x ∷ []) (next_line high q) (λ b. next_line threshold_line b.1 >>= λ c. done ((x, b.0, c.0), c.1)) st (value_part (codes "upper") MAX_PART q (omega arith))
    (λ f is. ((x, is.0, 0), (fine, is.1, omega arith), is.2 ++ (threshold_words 0 ∷ []), within (lower x ∷ []) (upper is.0 ∷ []) (threshold_words 0 ∷ []) f is.2 (totals_lines (x, is.0, 0)) refl is.3))
    (λ y r fine' st'. go_on (λ n. threshold_words n ∷ []) (λ n. n ≤ MAX_LENGTH) ok front p r (lower x ∷ upper y ∷ []) (next_line threshold_line r) (λ c. done ((x, y, c.0), c.1)) st' (threshold_part r)
    (λ f is. ((x, y, is.0), (fine, fine', is.1), is.2 ++ [], within (lower x ∷ upper y ∷ []) (threshold_words is.0 ∷ []) [] f is.2 (totals_lines (x, y, is.0)) refl is.3))
    (λ n s fine'' st''. (st'', (fine, fine', fine'')))))

-- ---- what follows the header: hop limits

abbrev pub behind_hops : Sheet → HopProof → List Line
behind_hops sheet h =
    opened_lines sheet (h.proof.closed, h.proof.gap) ++ (scale_lines (h.proof.routing.phases, (h.proof.routing.scale_cap, h.proof.routing.scale_load)) ++ (value_lines (h.proof.lower, h.proof.upper)
    ++ (flow_lines sheet (h.proof.routing.paths, h.proof.dual) ++ (map (layer_words sheet) h.layers ++ end_line ∷ []))))

pub hops_whole : (sheet : Sheet) (h : HopProof) → (codes "mcf-hops" ∷ codes "1" ∷ []) ∷ behind_hops sheet h ≡ hops_lines sheet h
hops_whole sheet h =
    let paths = map (path_words sheet) h.proof.routing.paths in
    let lengths = map (length_words sheet) h.proof.dual.lengths in
    let potentials = map (potential_words sheet) h.proof.dual.potentials in
    let last : List Line = map (layer_words sheet) h.layers ++ end_line ∷ [] in
    let rows : (paths ++ (lengths ++ potentials)) ++ last ≡ paths ++ (lengths ++ (potentials ++ last)) = simp append_assoc in
    ap (λ (ls : List Line). head_lines (codes "mcf-hops") sheet h.proof.closed ++ (figure_lines h.proof ++ ls)) rows

hops_fit : (sheet : Sheet) (o : Opened) (s : Scale) (v : Values) (f : Flows) (ls : List Layer) → OpenFits o → ScaleFits s → ValuesFit v → FlowsFit sheet f → AllByRecursion (FitsLayer sheet) ls → FitsHops sheet (hops_made o s v f ls)
hops_fit sheet o s v f ls gap scale values flows layers = record { proof = proof_fits sheet o s v f.0 f.1 gap scale values flows.0 flows.1; layers = layers }

no_opening : OpenFits (true, 0)
no_opening = omega arith

pub some_hops : HopProof
some_hops = hops_made (true, 0) (0, (0, 0)) (nought, nought) no_flows []

pub some_hops_fit : (sheet : Sheet) → FitsHops sheet some_hops
unfolding some_hops
some_hops_fit sheet = hops_fit sheet (true, 0) (0, (0, 0)) (nought, nought) no_flows [] no_opening no_scale no_values (tt, (tt, tt)) tt

hops_rows : (sheet : Sheet) (o : Opened) (s : Scale) (v : Values) (f : Flows) (ls : List Layer)
    → behind_hops sheet (hops_made o s v f ls) ≡ (opened_lines sheet o ++ (figures s v ++ (flow_lines sheet f ++ map (layer_words sheet) ls))) ++ (end_line ∷ [] ++ [])
hops_rows sheet o s v f ls = ap (λ (l : List Line). opened_lines sheet o ++ (figures s v ++ l)) (sym (append_assoc (flow_lines sheet f) (map (layer_words sheet) ls) (end_line ∷ [])))

pub hops_part : (sheet : Sheet) (p : Place) → Is (Fits {X = HopProof}) (Short (PartOf (behind_hops sheet) (FitsHops sheet)) p) (opening_at sheet p >>= hops_from sheet)
unfolding hops_from
hops_part sheet p =
    let ok = Fits {X = HopProof} in
    let front = PartOf (behind_hops sheet) (FitsHops sheet) in
    let rows = λ (q : Place). rows_from (codes "layer") (layer_row sheet) q.at q.rest in
    let s0 : Scale = (0, (0, 0)) in
    let v0 : Values = (nought, nought) in
    let opened = opened_lines sheet in
    let flow = flow_lines sheet in
    let layer = map (layer_words sheet) in
    let last = end_line ∷ [] in
    go_on opened OpenFits ok front p p [] (opening_at sheet p) (hops_from sheet) (stand_none p) (opening_part sheet p)
    (λ f is. (hops_made is.0 s0 v0 no_flows [], hops_fit sheet is.0 s0 v0 no_flows [] is.1 no_scale no_values (tt, (tt, tt)) tt, is.2 ++ (figures s0 v0 ++ last), within [] (opened is.0) (figures s0 v0 ++ last) f is.2 (behind_hops sheet (hops_made is.0 s0 v0 no_flows [])) refl is.3))
    (λ o q gap sto. go_on scale_lines ScaleFits ok front p q (opened o) (scale_at q) (λ s. values_at s.1 >>= λ v. flows_at sheet v.1 >>= λ w. rows w.1 >>= λ ls. closing ls.1 >>= λ e. done (hops_made o s.0 v.0 w.0 ls.0)) sto (scale_part q)
    (λ f is. (hops_made o is.0 v0 no_flows [], hops_fit sheet o is.0 v0 no_flows [] gap is.1 no_values (tt, (tt, tt)) tt, is.2 ++ (value_lines v0 ++ last), within (opened o) (scale_lines is.0) (value_lines v0 ++ last) f is.2 (behind_hops sheet (hops_made o is.0 v0 no_flows [])) refl is.3))
    (λ s r scale sts. go_on value_lines ValuesFit ok front p r (opened o ++ scale_lines s) (values_at r) (λ v. flows_at sheet v.1 >>= λ w. rows w.1 >>= λ ls. closing ls.1 >>= λ e. done (hops_made o s v.0 w.0 ls.0)) sts (values_part r)
    (λ f is. (hops_made o s is.0 no_flows [], hops_fit sheet o s is.0 no_flows [] gap scale is.1 (tt, (tt, tt)) tt, is.2 ++ last, within (opened o ++ scale_lines s) (value_lines is.0) last f is.2 (behind_hops sheet (hops_made o s is.0 no_flows [])) refl is.3))
    (λ v t values stv. go_on flow (FlowsFit sheet) ok front p t (opened o ++ figures s v) (flows_at sheet t) (λ w. rows w.1 >>= λ ls. closing ls.1 >>= λ e. done (hops_made o s v w.0 ls.0)) stv (flows_part sheet t)
    (λ f is. (hops_made o s v is.0 [], hops_fit sheet o s v is.0 [] gap scale values is.1 tt, is.2 ++ last, within (opened o ++ figures s v) (flow is.0) last f is.2 (behind_hops sheet (hops_made o s v is.0 [])) refl is.3))
    (λ w u flows stw. go_on layer (AllByRecursion (FitsLayer sheet)) ok front p u (opened o ++ (figures s v ++ flow w)) (rows u) (λ ls. closing ls.1 >>= λ e. done (hops_made o s v w ls.0)) stw (layers_part sheet u)
    (λ f is. (hops_made o s v w is.0, hops_fit sheet o s v w is.0 gap scale values flows is.1, is.2 ++ last, within (opened o ++ (figures s v ++ flow w)) (layer is.0) last f is.2 (behind_hops sheet (hops_made o s v w is.0)) refl is.3))
    (λ ls x layers stl. go_last front p x (opened o ++ (figures s v ++ (flow w ++ layer ls))) (hops_made o s v w ls) stl
    (λ f is. (hops_made o s v w ls, hops_fit sheet o s v w ls gap scale values flows layers, is.0 ++ [], within (opened o ++ (figures s v ++ (flow w ++ layer ls))) last [] f is.0 (behind_hops sheet (hops_made o s v w ls)) (hops_rows sheet o s v w ls) is.1)))))))

-- ---- totals

abbrev pub behind_total : Sheet → PartProof → List Line
behind_total sheet p =
    opened_lines sheet (p.closed, p.gap) ++ (scale_lines (p.routing.phases, (p.routing.scale_cap, p.routing.scale_load)) ++ (totals_lines (p.lower, p.upper, p.bound.threshold)
    ++ (flow_lines sheet (p.routing.paths, p.bound.dual) ++ end_line ∷ [])))

pub total_whole : (sheet : Sheet) (p : PartProof) → (codes "mcf-throughput" ∷ codes "1" ∷ []) ∷ behind_total sheet p ≡ part_lines sheet p
total_whole sheet p =
    let paths = map (path_words sheet) p.routing.paths in
    let lengths = map (length_words sheet) p.bound.dual.lengths in
    let potentials = map (potential_words sheet) p.bound.dual.potentials in
    let last : List Line = end_line ∷ [] in
    let rows : (paths ++ (lengths ++ potentials)) ++ last ≡ paths ++ (lengths ++ (potentials ++ last)) = simp append_assoc in
    ap (λ (ls : List Line). head_lines (codes "mcf-throughput") sheet p.closed ++ (total_lines p ++ ls)) rows

total_fit : (sheet : Sheet) (o : Opened) (s : Scale) (v : Totals) (f : Flows) → OpenFits o → ScaleFits s → TotalsFit v → FlowsFit sheet f → FitsPart sheet (total_made o s v f)
total_fit sheet o s v f gap scale totals flows = record {
  gap = gap;
  routing = routing_fits sheet s f.0 scale flows.0;
  lower = totals.0;
  upper = totals.1;
  threshold = totals.2;
  lengths = flows.1.0;
  potentials = flows.1.1;
}

pub some_total : PartProof
some_total = total_made (true, 0) (0, (0, 0)) no_totals no_flows

pub some_total_fits : (sheet : Sheet) → FitsPart sheet some_total
unfolding some_total
some_total_fits sheet = total_fit sheet (true, 0) (0, (0, 0)) no_totals no_flows no_opening no_scale totals_none (tt, (tt, tt))

abbrev sums : Scale → Totals → List Line
sums s v = scale_lines s ++ totals_lines v

pub total_part : (sheet : Sheet) (p : Place) → Is (Fits {X = PartProof}) (Short (PartOf (behind_total sheet) (FitsPart sheet)) p) (opening_at sheet p >>= part_from sheet)
unfolding part_from
total_part sheet p =
    let ok = Fits {X = PartProof} in
    let front = PartOf (behind_total sheet) (FitsPart sheet) in
    let s0 : Scale = (0, (0, 0)) in
    let v0 = no_totals in
    let opened = opened_lines sheet in
    let flow = flow_lines sheet in
    let last = end_line ∷ [] in
    go_on opened OpenFits ok front p p [] (opening_at sheet p) (part_from sheet) (stand_none p) (opening_part sheet p)
    (λ f is. (total_made is.0 s0 v0 no_flows, total_fit sheet is.0 s0 v0 no_flows is.1 no_scale totals_none (tt, (tt, tt)), is.2 ++ (sums s0 v0 ++ last), within [] (opened is.0) (sums s0 v0 ++ last) f is.2 (behind_total sheet (total_made is.0 s0 v0 no_flows)) refl is.3))
    (λ o q gap sto. go_on scale_lines ScaleFits ok front p q (opened o) (scale_at q) (λ s. totals_at s.1 >>= λ v. flows_at sheet v.1 >>= λ w. closing w.1 >>= λ e. done (total_made o s.0 v.0 w.0)) sto (scale_part q)
    (λ f is. (total_made o is.0 v0 no_flows, total_fit sheet o is.0 v0 no_flows gap is.1 totals_none (tt, (tt, tt)), is.2 ++ (totals_lines v0 ++ last), within (opened o) (scale_lines is.0) (totals_lines v0 ++ last) f is.2 (behind_total sheet (total_made o is.0 v0 no_flows)) refl is.3))
    (λ s r scale sts. go_on totals_lines TotalsFit ok front p r (opened o ++ scale_lines s) (totals_at r) (λ v. flows_at sheet v.1 >>= λ w. closing w.1 >>= λ e. done (total_made o s v.0 w.0)) sts (totals_part r)
    (λ f is. (total_made o s is.0 no_flows, total_fit sheet o s is.0 no_flows gap scale is.1 (tt, (tt, tt)), is.2 ++ last, within (opened o ++ scale_lines s) (totals_lines is.0) last f is.2 (behind_total sheet (total_made o s is.0 no_flows)) refl is.3))
    (λ v t totals stv. go_on flow (FlowsFit sheet) ok front p t (opened o ++ sums s v) (flows_at sheet t) (λ w. closing w.1 >>= λ e. done (total_made o s v w.0)) stv (flows_part sheet t)
    (λ f is. (total_made o s v is.0, total_fit sheet o s v is.0 gap scale totals is.1, is.2 ++ last, within (opened o ++ sums s v) (flow is.0) last f is.2 (behind_total sheet (total_made o s v is.0)) refl is.3))
    (λ w u flows stw. go_last front p u (opened o ++ (sums s v ++ flow w)) (total_made o s v w) stw
    (λ f is. (total_made o s v w, total_fit sheet o s v w gap scale totals flows, is.0 ++ [], within (opened o ++ (sums s v ++ flow w)) last [] f is.0 (behind_total sheet (total_made o s v w)) refl is.1))))))

-- ---- behind a header

-- the lines before the refusal begin those of a text
pub record IsStuckUnder {X : Type 0} (whole : X → List Line) (IsFit : X → Type 0) (lines : List Line) (e : CertRefusal) : Type 0 where
  pub value : X
  pub fits : IsFit value
  pub front : List Line
  pub back : List Line
  pub parts : whole value ≡ front ++ back
  pub rest : List Line
  pub bytes : bytes_of lines ≡ text_of front ++ bytes_of rest
  pub line : e.line ≡ 1 + length front

abbrev HeaderStands : Place → Type 0
HeaderStands p = p.at ≡ 2

header_stands : (header : List ℕ) (lines : List Line) → Is HeaderStands (FaultAt 1) (header_at header lines)
unfolding header_at
header_stands header [] = refl
header_stands header (line ∷ lines) = by (is_fixed header line) (has_more lines)
  where
    by : (a b : Bool) → Is HeaderStands (FaultAt 1) (cond a (cond b (done (record { at = 2; rest = lines })) (Err (record { line = 1; kind = Syntax }))) (Err (record { line = 1; kind = NoHeader })))
    by true true = refl
    by true false = refl
    by false b = refl

module _ {X Y : Type 0} (header : List ℕ) (first : Line) (same : header ≡ joined first) (behind : X → List Line) (whole : X → List Line) (is_whole : (x : X) → first ∷ behind x ≡ whole x) (IsFit : X → Type 0) (some : X) (some_fits : IsFit some) (rest_at : Place → Result Y CertRefusal) (part : (p : Place) → Is (Fits {X = Y}) (Short (PartOf behind IsFit) p) (rest_at p)) where
  pub stuck_under : (lines : List Line) (e : CertRefusal) → (header_at header lines >>= rest_at) ≡ Err e → IsStuckUnder whole IsFit lines e
  stuck_under lines e is = by (header_at header lines) refl (header_stands header lines) is
    where
      at_first : (d : CertRefusal) → FaultAt 1 d → failed Y d ≡ failed Y e → IsStuckUnder whole IsFit lines e
      at_first d at k =
          let is_same : d ≡ e = cc in
          record { value = some; fits = some_fits; front = []; back = whole some; parts = refl; rest = lines; bytes = refl; line = sym (ap (λ (x : CertRefusal). x.line) is_same) ∙ at }

      go : (p : Place) → header_at header lines ≡ Ok p → HeaderStands p → Short (PartOf behind IsFit) p e → IsStuckUnder whole IsFit lines e
      go p h at s = record {
        value = s.is.0;
        fits = s.is.1;
        front = first ∷ s.front;
        back = s.is.2;
        parts = sym (is_whole s.is.0) ∙ ap (λ (l : List Line). first ∷ l) s.is.3;
        rest = s.rest;
        bytes =
            header_take header first lines p same h ∙ ap (λ (l : List ℕ). spelled first ++ l) s.bytes
            ∙ sym (append_assoc (spelled first) (text_of s.front) (bytes_of s.rest)) ∙ ap (λ (l : List ℕ). l ++ bytes_of s.rest) (sym (flat_map-cons spelled first s.front));
        line = omega (arith, s.line, at);
      }

      by : (r : Result Place CertRefusal) → header_at header lines ≡ r → Is HeaderStands (FaultAt 1) r → (r >>= rest_at) ≡ Err e → IsStuckUnder whole IsFit lines e
      by (Err d) h at k = at_first d at k
      by (Ok p) h at k = go p h at (subst (Is (Fits {X = Y}) (Short (PartOf behind IsFit) p)) k (part p))
