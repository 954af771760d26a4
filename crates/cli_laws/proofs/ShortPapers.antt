-- Certificates and routings: what was read before a refusal is the front of one.
use Rattle.std.proofs.Common.{◌≡◌, ℕ, ◌≤◌, Bool, true, List, [], ◌∷◌, ◌++◌, refl, sym, ap, subst, append_assoc, append-nil, arith}
use Rattle.std.specs.Prelude.{codes, map}
use Rattle.std.specs.List.{AllByRecursion}
use Rattle.text_lines.specs.Lines.{Line}
use Rattle.flow_model.specs.Routing.{Row}
use Rattle.flow_paths.specs.DualRows.{DualRows, Length, Potential}
use Rattle.flow_paths.specs.declared.certificate.Routing.{Routing}
use Rattle.flow_paths.specs.declared.certificate.Printed.{Printed}
use Rattle.flow_paths.specs.declared.certificate.Proof.{Proof}
use Rattle.gap_fraction.specs.declared.fraction.TheConstants.{MAX_PART}
use Rattle.mcf_limits.specs.declared.TheConstants.{MAX_GAP, MAX_LENGTH, MAX_PHASES, MAX_UNITS}
use Rattle.cert_lines.specs.Sheet.{Sheet}
use Rattle.cert_lines.specs.Forms.{◌>>=◌}
use Rattle.cert_lines.specs.HeadLines.{verdict_line, counts_line, gap_line, phases_line, scale_line, value_line}
use Rattle.cert_lines.specs.Rows.{path_row, length_row, potential_row}
use Rattle.cert_lines.specs.Spelling.{verdict_words, links_words, modules_words, counts_words, gap_words, phases_words, scale_words, value_words, length_words, potential_words, path_words, FitsValue, FitsLength, FitsPotential, FitsPath}
use Rattle.cert_text.specs.Reading.{Place, next_line, mode_line, rows_from, closing}
use Rattle.cert_text.specs.Papers.{modes_at, scale_at, opening_at, values_at, dual_at, routing_at, proof_at, routing_from, proof_from, counted_at}
use Rattle.cert_writer.specs.Text.{end_line, FitsRouting, FitsProof}
use Rattle.cert_text.proofs.LineFits.{gap_fits, phases_fit, scale_fits, value_fits, length_fits, path_fits, potential_fits}
use Rattle.cert_inverse.proofs.HeadTakes.{joined, verdict_takes, mode_takes, gap_takes, phases_takes, scale_takes, value_takes}
use Rattle.cert_inverse.proofs.CountTakes.{counts_take}
use Rattle.cert_inverse.proofs.RowTakes.{path_takes, length_takes, potential_takes}
use Rattle.cert_inverse.proofs.TextTakes.{scale_lines, value_lines, opened_lines, dual_lines}
use Rattle.cli_laws.proofs.Steps.{done, Is}
use Rattle.cli_laws.proofs.Short.{Stand, Short, PartOf, FrontOf, Read, Parses, Fits, stand_none, within, line_parses, rows_part, go_on, go_place, go_last}

-- ---- parts

abbrev modes_lines : Sheet → List Line
modes_lines sheet = links_words sheet ∷ modules_words sheet ∷ []

mode_part : (key mode : List ℕ) (p : Place) → Parses (λ (u : Unit {0}). (key ∷ mode ∷ []) ∷ []) (Fits {X = Unit {0}}) p (next_line (mode_line key mode) p)
mode_part key mode p = line_parses (mode_line key mode) (λ u. key ∷ mode ∷ []) (Fits {X = Unit {0}}) tt tt (λ line u h. ap joined (mode_takes key mode line u h)) (λ line u h. tt) p

modes_part : (sheet : Sheet) (p : Place) → Is (Stand (modes_lines sheet) p) (Short (FrontOf (modes_lines sheet)) p) (modes_at sheet p)
unfolding modes_at
modes_part sheet p =
    let links = mode_line (codes "links") sheet.link_mode in
    let modules = mode_line (codes "modules") sheet.module_mode in
    let whole = modes_lines sheet in
    go_on (λ (u : Unit {0}). links_words sheet ∷ []) (Fits {X = Unit {0}}) (Stand whole p) (FrontOf whole) p p [] (next_line links p) (λ a. next_line modules a.1 >>= λ b. done b.1) (stand_none p) (mode_part (codes "links") sheet.link_mode p)
    (λ f is. (is.2 ++ modules_words sheet ∷ [], within [] (links_words sheet ∷ []) (modules_words sheet ∷ []) f is.2 whole refl is.3))
    (λ u q fine st. go_on (λ (v : Unit {0}). modules_words sheet ∷ []) (Fits {X = Unit {0}}) (Stand whole p) (FrontOf whole) p q (links_words sheet ∷ []) (next_line modules q) (λ b. done b.1) st (mode_part (codes "modules") sheet.module_mode q)
    (λ f is. (is.2 ++ [], within (links_words sheet ∷ []) (modules_words sheet ∷ []) [] f is.2 whole refl is.3))
    (λ v r fine' st'. st'))

abbrev pub Scale : Type 0
Scale = ℕ × (ℕ × ℕ)

abbrev pub ScaleFits : Scale → Type 0
ScaleFits s = (s.0 ≤ MAX_PHASES) × (s.1.0 ≤ MAX_UNITS) × (s.1.1 ≤ MAX_LENGTH)

abbrev PairFits : ℕ × ℕ → Type 0
PairFits x = (x.0 ≤ MAX_UNITS) × (x.1 ≤ MAX_LENGTH)

pair_part : (p : Place) → Parses (λ x. scale_words x ∷ []) PairFits p (next_line scale_line p)
pair_part p = line_parses scale_line scale_words PairFits (0, 0) (omega arith, omega arith) (λ line x h. ap joined (scale_takes line x h)) scale_fits p

phases_part : (p : Place) → Parses (λ n. phases_words n ∷ []) (λ n. n ≤ MAX_PHASES) p (next_line phases_line p)
phases_part p = line_parses phases_line phases_words (λ n. n ≤ MAX_PHASES) 0 (omega arith) (λ line n h. ap joined (phases_takes line n h)) phases_fit p

pub scale_part : (p : Place) → Parses scale_lines ScaleFits p (scale_at p)
unfolding scale_at
scale_part p =
    let ok = Read scale_lines ScaleFits p in
    let front = PartOf scale_lines ScaleFits in
    go_on (λ n. phases_words n ∷ []) (λ n. n ≤ MAX_PHASES) ok front p p [] (next_line phases_line p) (λ a. next_line scale_line a.1 >>= λ b. done ((a.0, b.0), b.1)) (stand_none p) (phases_part p)
    (λ f is. ((is.0, (0, 0)), (is.1, omega arith, omega arith), is.2 ++ scale_words (0, 0) ∷ [], within [] (phases_words is.0 ∷ []) (scale_words (0, 0) ∷ []) f is.2 (scale_lines (is.0, (0, 0))) refl is.3))
    (λ n q fine st. go_on (λ x. scale_words x ∷ []) PairFits ok front p q (phases_words n ∷ []) (next_line scale_line q) (λ b. done ((n, b.0), b.1)) st (pair_part q)
    (λ f is. ((n, is.0), (fine, is.1.0, is.1.1), is.2 ++ [], within (phases_words n ∷ []) (scale_words is.0 ∷ []) [] f is.2 (scale_lines (n, is.0)) refl is.3))
    (λ x r fine' st'. (st', (fine, fine'.0, fine'.1))))

abbrev pub Values : Type 0
Values = Printed × Printed

abbrev pub ValuesFit : Values → Type 0
ValuesFit v = FitsValue MAX_LENGTH v.0 × FitsValue MAX_PART v.1

abbrev pub nought : Printed
nought = record { num = 0; den = 0; whole = 0; micro = 0 }

pub nought_fits : (most : ℕ) → FitsValue most nought
nought_fits most = record { num = omega arith; den = omega arith; whole = omega arith; micro = omega arith }

pub value_part : (key : List ℕ) (most : ℕ) (p : Place) → most ≤ MAX_PART → Parses (λ x. value_words key x ∷ []) (FitsValue most) p (next_line (value_line key most) p)
value_part key most p limit = line_parses (value_line key most) (value_words key) (FitsValue most) nought (nought_fits most) (λ line x h. ap joined (value_takes key most line x limit h)) (value_fits key most) p

pub values_part : (p : Place) → Parses value_lines ValuesFit p (values_at p)
unfolding values_at
values_part p =
    let low = value_line (codes "lower") MAX_LENGTH in
    let high = value_line (codes "upper") MAX_PART in
    let lower = value_words (codes "lower") in
    let upper = value_words (codes "upper") in
    let ok = Read value_lines ValuesFit p in
    let front = PartOf value_lines ValuesFit in
    go_on (λ x. lower x ∷ []) (FitsValue MAX_LENGTH) ok front p p [] (next_line low p) (λ a. next_line high a.1 >>= λ b. done ((a.0, b.0), b.1)) (stand_none p) (value_part (codes "lower") MAX_LENGTH p (omega arith))
    (λ f is. ((is.0, nought), (is.1, nought_fits MAX_PART), is.2 ++ upper nought ∷ [], within [] (lower is.0 ∷ []) (upper nought ∷ []) f is.2 (value_lines (is.0, nought)) refl is.3))
    (λ x q fine st. go_on (λ y. upper y ∷ []) (FitsValue MAX_PART) ok front p q (lower x ∷ []) (next_line high q) (λ b. done ((x, b.0), b.1)) st (value_part (codes "upper") MAX_PART q (omega arith))
    (λ f is. ((x, is.0), (fine, is.1), is.2 ++ [], within (lower x ∷ []) (upper is.0 ∷ []) [] f is.2 (value_lines (x, is.0)) refl is.3))
    (λ y r fine' st'. (st', (fine, fine'))))

abbrev pub Opened : Type 0
Opened = Bool × ℕ

abbrev pub OpenFits : Opened → Type 0
OpenFits o = o.1 ≤ MAX_GAP

pub opening_part : (sheet : Sheet) (p : Place) → Parses (opened_lines sheet) OpenFits p (opening_at sheet p)
unfolding opening_at counted_at
opening_part sheet p =
    let counts = counts_line sheet in
    let ok = Read (opened_lines sheet) OpenFits p in
    let front = PartOf (opened_lines sheet) OpenFits in
    let no_gap : 0 ≤ MAX_GAP = omega arith in
    let modes = modes_lines sheet in
    let behind_modes = λ (gap : ℕ). counts_words sheet ∷ gap_words gap ∷ [] in
    go_on (λ v. verdict_words v ∷ []) (Fits {X = Bool}) ok front p p [] (next_line verdict_line p) (λ v. modes_at sheet v.1 >>= λ m. next_line counts m >>= λ c. next_line gap_line c.1 >>= λ g. done ((v.0, g.0), g.1)) (stand_none p)
    (line_parses verdict_line verdict_words (Fits {X = Bool}) true tt verdict_takes (λ line v h. tt) p)
    (λ f is. ((is.0, 0), no_gap, is.2 ++ (modes ++ behind_modes 0), within [] (verdict_words is.0 ∷ []) (modes ++ behind_modes 0) f is.2 (opened_lines sheet (is.0, 0)) refl is.3))
    (λ v q fine st. go_place modes ok front p q (verdict_words v ∷ []) (modes_at sheet q) (λ m. next_line counts m >>= λ c. next_line gap_line c.1 >>= λ g. done ((v, g.0), g.1)) st (modes_part sheet q)
    (λ f is. ((v, 0), no_gap, is.0 ++ behind_modes 0, within (verdict_words v ∷ []) modes (behind_modes 0) f is.0 (opened_lines sheet (v, 0)) refl is.1))
    (λ m stm. go_on (λ (u : Unit {0}). counts_words sheet ∷ []) (Fits {X = Unit {0}}) ok front p m (verdict_words v ∷ modes) (next_line counts m) (λ c. next_line gap_line c.1 >>= λ g. done ((v, g.0), g.1)) stm
    (line_parses counts (λ u. counts_words sheet) (Fits {X = Unit {0}}) tt tt (λ line u h. ap joined (counts_take sheet line u h)) (λ line u h. tt) m)
    (λ f is. ((v, 0), no_gap, is.2 ++ gap_words 0 ∷ [], within (verdict_words v ∷ modes) (counts_words sheet ∷ []) (gap_words 0 ∷ []) f is.2 (opened_lines sheet (v, 0)) refl is.3))
    (λ u c fine' stc. go_on (λ n. gap_words n ∷ []) (λ n. n ≤ MAX_GAP) ok front p c (verdict_words v ∷ (modes ++ counts_words sheet ∷ [])) (next_line gap_line c) (λ g. done ((v, g.0), g.1)) stc
    (line_parses gap_line gap_words (λ n. n ≤ MAX_GAP) 0 no_gap (λ line n h. ap joined (gap_takes line n h)) gap_fits c)
    (λ f is. ((v, is.0), is.1, is.2 ++ [], within (verdict_words v ∷ (modes ++ counts_words sheet ∷ [])) (gap_words is.0 ∷ []) [] f is.2 (opened_lines sheet (v, is.0)) refl is.3))
    (λ n g fine'' stg. (stg, fine'')))))

abbrev lengths_part : (sheet : Sheet) (p : Place) → Parses (map (length_words sheet)) (AllByRecursion (FitsLength sheet)) p (rows_from (codes "length") (length_row sheet) p.at p.rest)
lengths_part sheet p = rows_part (codes "length") (length_row sheet) (length_words sheet) (FitsLength sheet) (length_takes sheet) (length_fits sheet) p

abbrev potentials_part : (sheet : Sheet) (p : Place) → Parses (map (potential_words sheet)) (AllByRecursion (FitsPotential sheet)) p (rows_from (codes "potential") (potential_row sheet) p.at p.rest)
potentials_part sheet p = rows_part (codes "potential") (potential_row sheet) (potential_words sheet) (FitsPotential sheet) (potential_takes sheet) (potential_fits sheet) p

abbrev pub paths_part : (sheet : Sheet) (p : Place) → Parses (map (path_words sheet)) (AllByRecursion (FitsPath sheet)) p (rows_from (codes "path") (path_row sheet) p.at p.rest)
paths_part sheet p = rows_part (codes "path") (path_row sheet) (path_words sheet) (FitsPath sheet) (path_takes sheet) (path_fits sheet) p

abbrev pub DualFits : Sheet → DualRows → Type 0
DualFits sheet d = AllByRecursion (FitsLength sheet) d.lengths × AllByRecursion (FitsPotential sheet) d.potentials

abbrev pub dual_made : List Length → List Potential → DualRows
dual_made ls ps = record { lengths = ls; potentials = ps }

pub dual_part : (sheet : Sheet) (p : Place) → Parses (dual_lines sheet) (DualFits sheet) p (dual_at sheet p)
unfolding dual_at
dual_part sheet p =
    let ok = Read (dual_lines sheet) (DualFits sheet) p in
    let front = PartOf (dual_lines sheet) (DualFits sheet) in
    let lengths = map (length_words sheet) in
    let potentials = map (potential_words sheet) in
    go_on lengths (AllByRecursion (FitsLength sheet)) ok front p p [] (rows_from (codes "length") (length_row sheet) p.at p.rest) (λ a. rows_from (codes "potential") (potential_row sheet) a.1.at a.1.rest >>= λ b. done (dual_made a.0 b.0, b.1)) (stand_none p) (lengths_part sheet p)
    (λ f is. (dual_made is.0 [], (is.1, tt), is.2 ++ [], within [] (lengths is.0) [] f is.2 (dual_lines sheet (dual_made is.0 [])) refl is.3))
    (λ ls q fine st. go_on potentials (AllByRecursion (FitsPotential sheet)) ok front p q (lengths ls) (rows_from (codes "potential") (potential_row sheet) q.at q.rest) (λ b. done (dual_made ls b.0, b.1)) st (potentials_part sheet q)
    (λ f is. (dual_made ls is.0, (fine, is.1), is.2 ++ [], within (lengths ls) (potentials is.0) [] f is.2 (dual_lines sheet (dual_made ls is.0)) (ap (λ (l : List Line). lengths ls ++ l) (sym (append-nil (potentials is.0)))) is.3))
    (λ ps r fine' st'. (st', (fine, fine'))))

-- ---- what follows the header

abbrev pub routing_made : Scale → List Row → Routing
routing_made s ps = record { phases = s.0; scale_cap = s.1.0; scale_load = s.1.1; paths = ps }

pub routing_fits : (sheet : Sheet) (s : Scale) (ps : List Row) → ScaleFits s → AllByRecursion (FitsPath sheet) ps → FitsRouting sheet (routing_made s ps)
routing_fits sheet s ps fine paths = record { phases = fine.0; scale_cap = fine.1; scale_load = fine.2; paths = paths }

pub no_scale : ScaleFits (0, (0, 0))
no_scale = (omega arith, omega arith, omega arith)

abbrev pub behind_routing : Sheet → Routing → List Line
behind_routing sheet r = links_words sheet ∷ modules_words sheet ∷ phases_words r.phases ∷ scale_words (r.scale_cap, r.scale_load) ∷ (map (path_words sheet) r.paths ++ end_line ∷ [])

pub routing_part : (sheet : Sheet) (p : Place) → Is (Fits {X = Routing}) (Short (PartOf (behind_routing sheet) (FitsRouting sheet)) p) (routing_at sheet p)
unfolding routing_at routing_from
routing_part sheet p =
    let ok = Fits {X = Routing} in
    let front = PartOf (behind_routing sheet) (FitsRouting sheet) in
    let rows = map (path_words sheet) in
    let modes = modes_lines sheet in
    let none : Scale = (0, (0, 0)) in
    go_place modes ok front p p [] (modes_at sheet p) (λ m. scale_at m >>= λ s. rows_from (codes "path") (path_row sheet) s.1.at s.1.rest >>= λ ps. closing ps.1 >>= λ last. done (routing_made s.0 ps.0)) (stand_none p) (modes_part sheet p)
    (λ f is. (routing_made none [], routing_fits sheet none [] no_scale tt, is.0 ++ (scale_lines none ++ end_line ∷ []), within [] modes (scale_lines none ++ end_line ∷ []) f is.0 (behind_routing sheet (routing_made none [])) refl is.1))
    (λ m stm. go_on scale_lines ScaleFits ok front p m modes (scale_at m) (λ s. rows_from (codes "path") (path_row sheet) s.1.at s.1.rest >>= λ ps. closing ps.1 >>= λ last. done (routing_made s.0 ps.0)) stm (scale_part m)
    (λ f is. (routing_made is.0 [], routing_fits sheet is.0 [] is.1 tt, is.2 ++ end_line ∷ [], within modes (scale_lines is.0) (end_line ∷ []) f is.2 (behind_routing sheet (routing_made is.0 [])) refl is.3))
    (λ s q fine sts. go_on rows (AllByRecursion (FitsPath sheet)) ok front p q (modes ++ scale_lines s) (rows_from (codes "path") (path_row sheet) q.at q.rest) (λ ps. closing ps.1 >>= λ last. done (routing_made s ps.0)) sts (paths_part sheet q)
    (λ f is. (routing_made s is.0, routing_fits sheet s is.0 fine is.1, is.2 ++ end_line ∷ [], within (modes ++ scale_lines s) (rows is.0) (end_line ∷ []) f is.2 (behind_routing sheet (routing_made s is.0)) refl is.3))
    (λ ps r paths str. go_last front p r (modes ++ (scale_lines s ++ rows ps)) (routing_made s ps) str
    (λ f is. (routing_made s ps, routing_fits sheet s ps fine paths, is.0 ++ [], within (modes ++ (scale_lines s ++ rows ps)) (end_line ∷ []) [] f is.0 (behind_routing sheet (routing_made s ps)) refl is.1)))))

abbrev proof_made : Opened → Scale → Values → List Row → DualRows → Proof
proof_made opening scale values paths dual = record {
  closed = opening.0;
  gap = opening.1;
  routing = routing_made scale paths;
  lower = values.0;
  upper = values.1;
  dual = dual;
}

pub proof_fits : (sheet : Sheet) (o : Opened) (s : Scale) (v : Values) (ps : List Row) (d : DualRows) → OpenFits o → ScaleFits s → ValuesFit v → AllByRecursion (FitsPath sheet) ps → DualFits sheet d → FitsProof sheet (proof_made o s v ps d)
proof_fits sheet o s v ps d gap scale values paths dual = record { gap = gap; routing = routing_fits sheet s ps scale paths; lower = values.0; upper = values.1; lengths = dual.0; potentials = dual.1 }

abbrev pub figures : Scale → Values → List Line
figures s v = scale_lines s ++ value_lines v

abbrev pub behind_proof : Sheet → Proof → List Line
behind_proof sheet p =
    opened_lines sheet (p.closed, p.gap) ++ (scale_lines (p.routing.phases, (p.routing.scale_cap, p.routing.scale_load)) ++ (value_lines (p.lower, p.upper)
    ++ (map (path_words sheet) p.routing.paths ++ (dual_lines sheet p.dual ++ end_line ∷ []))))

pub no_values : ValuesFit (nought, nought)
no_values = (nought_fits MAX_LENGTH, nought_fits MAX_PART)

-- the same lines, put together otherwise
both_rows : (sheet : Sheet) (o : Opened) (s : Scale) (v : Values) (ps : List Row) (d : DualRows)
    → behind_proof sheet (proof_made o s v ps d) ≡ (opened_lines sheet o ++ (figures s v ++ map (path_words sheet) ps)) ++ (dual_lines sheet d ++ end_line ∷ [])
both_rows sheet o s v ps d = refl

both_lines : (sheet : Sheet) (o : Opened) (s : Scale) (v : Values) (ps : List Row) (d : DualRows)
    → (opened_lines sheet o ++ (figures s v ++ map (path_words sheet) ps)) ++ dual_lines sheet d ≡ opened_lines sheet o ++ (figures s v ++ (map (path_words sheet) ps ++ dual_lines sheet d))
both_lines sheet o s v ps d = refl

all_rows : (sheet : Sheet) (o : Opened) (s : Scale) (v : Values) (ps : List Row) (d : DualRows)
    → behind_proof sheet (proof_made o s v ps d) ≡ (opened_lines sheet o ++ (figures s v ++ (map (path_words sheet) ps ++ dual_lines sheet d))) ++ (end_line ∷ [] ++ [])
all_rows sheet o s v ps d = ap (λ (l : List Line). opened_lines sheet o ++ (figures s v ++ l)) (sym (append_assoc (map (path_words sheet) ps) (dual_lines sheet d) (end_line ∷ [])))

pub proof_part : (sheet : Sheet) (p : Place) → Is (Fits {X = Proof}) (Short (PartOf (behind_proof sheet) (FitsProof sheet)) p) (proof_at sheet p)
unfolding proof_at proof_from
proof_part sheet p =
    let ok = Fits {X = Proof} in
    let front = PartOf (behind_proof sheet) (FitsProof sheet) in
    let rows = map (path_words sheet) in
    let path = λ (q : Place). rows_from (codes "path") (path_row sheet) q.at q.rest in
    let s0 : Scale = (0, (0, 0)) in
    let v0 : Values = (nought, nought) in
    let d0 = dual_made [] [] in
    let opened = opened_lines sheet in
    let last = end_line ∷ [] in
    go_on opened OpenFits ok front p p [] (opening_at sheet p) (λ o. scale_at o.1 >>= λ s. values_at s.1 >>= λ v. path v.1 >>= λ ps. dual_at sheet ps.1 >>= λ d. closing d.1 >>= λ e. done (proof_made o.0 s.0 v.0 ps.0 d.0)) (stand_none p) (opening_part sheet p)
    (λ f is. (proof_made is.0 s0 v0 [] d0, proof_fits sheet is.0 s0 v0 [] d0 is.1 no_scale no_values tt (tt, tt), is.2 ++ (figures s0 v0 ++ last), within [] (opened is.0) (figures s0 v0 ++ last) f is.2 (behind_proof sheet (proof_made is.0 s0 v0 [] d0)) refl is.3))
    (λ o q gap sto. go_on scale_lines ScaleFits ok front p q (opened o) (scale_at q) (λ s. values_at s.1 >>= λ v. path v.1 >>= λ ps. dual_at sheet ps.1 >>= λ d. closing d.1 >>= λ e. done (proof_made o s.0 v.0 ps.0 d.0)) sto (scale_part q)
    (λ f is. (proof_made o is.0 v0 [] d0, proof_fits sheet o is.0 v0 [] d0 gap is.1 no_values tt (tt, tt), is.2 ++ (value_lines v0 ++ last), within (opened o) (scale_lines is.0) (value_lines v0 ++ last) f is.2 (behind_proof sheet (proof_made o is.0 v0 [] d0)) refl is.3))
    (λ s r scale sts. go_on value_lines ValuesFit ok front p r (opened o ++ scale_lines s) (values_at r) (λ v. path v.1 >>= λ ps. dual_at sheet ps.1 >>= λ d. closing d.1 >>= λ e. done (proof_made o s v.0 ps.0 d.0)) sts (values_part r)
    (λ f is. (proof_made o s is.0 [] d0, proof_fits sheet o s is.0 [] d0 gap scale is.1 tt (tt, tt), is.2 ++ last, within (opened o ++ scale_lines s) (value_lines is.0) last f is.2 (behind_proof sheet (proof_made o s is.0 [] d0)) refl is.3))
    (λ v t values stv. go_on rows (AllByRecursion (FitsPath sheet)) ok front p t (opened o ++ figures s v) (path t) (λ ps. dual_at sheet ps.1 >>= λ d. closing d.1 >>= λ e. done (proof_made o s v ps.0 d.0)) stv (paths_part sheet t)
    (λ f is. (proof_made o s v is.0 d0, proof_fits sheet o s v is.0 d0 gap scale values is.1 (tt, tt), is.2 ++ last, within (opened o ++ figures s v) (rows is.0) last f is.2 (behind_proof sheet (proof_made o s v is.0 d0)) refl is.3))
    (λ ps u paths stp. go_on (dual_lines sheet) (DualFits sheet) ok front p u (opened o ++ (figures s v ++ rows ps)) (dual_at sheet u) (λ d. closing d.1 >>= λ e. done (proof_made o s v ps d.0)) stp (dual_part sheet u)
    (λ f is. (proof_made o s v ps is.0, proof_fits sheet o s v ps is.0 gap scale values paths is.1, is.2 ++ last, within (opened o ++ (figures s v ++ rows ps)) (dual_lines sheet is.0) last f is.2 (behind_proof sheet (proof_made o s v ps is.0)) (both_rows sheet o s v ps is.0) is.3))
    (λ d w dual std. go_last front p w (opened o ++ (figures s v ++ (rows ps ++ dual_lines sheet d))) (proof_made o s v ps d) (subst (λ (l : List Line). Stand l p w) (both_lines sheet o s v ps d) std)
    (λ f is. (proof_made o s v ps d, proof_fits sheet o s v ps d gap scale values paths dual, is.0 ++ [], within (opened o ++ (figures s v ++ (rows ps ++ dual_lines sheet d))) last [] f is.0 (behind_proof sheet (proof_made o s v ps d)) (all_rows sheet o s v ps d) is.1)))))))
