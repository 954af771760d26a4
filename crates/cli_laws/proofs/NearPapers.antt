-- Certificates and routings that are the same up to a line.
use Rattle.std.proofs.Common.{◌≡◌, ℕ, ◌+◌, ◌<◌, ◌≤◌, Bool, true, false, cond, List, [], ◌∷◌, ◌++◌, length, Option, Some, None, Result, Ok, Err, refl, sym, ap, subst, ◌∙◌, inl, inr, arith}
use Rattle.std.specs.Prelude.{codes}
use Rattle.std.specs.List.{join_with_byte}
use Rattle.std.proofs.lemmas.Bool.Decides.{nat_tests}
use Rattle.text_lines.specs.Lines.{Line}
use Rattle.flow_model.specs.Routing.{Row}
use Rattle.flow_paths.specs.DualRows.{DualRows, Length, Potential}
use Rattle.flow_paths.specs.declared.certificate.Routing.{Routing}
use Rattle.flow_paths.specs.declared.certificate.Printed.{Printed}
use Rattle.flow_paths.specs.declared.certificate.Proof.{Proof}
use Rattle.gap_fraction.specs.declared.fraction.TheConstants.{MAX_PART}
use Rattle.mcf_limits.specs.declared.TheConstants.{MAX_LENGTH}
use Rattle.cert_lines.specs.Sheet.{Sheet, Sheets, sheet_for}
use Rattle.cert_lines.specs.declared.refusal.CertKind.TheVariants.{Syntax}
use Rattle.cert_lines.specs.declared.refusal.CertRefusal.{CertRefusal}
use Rattle.cert_lines.specs.Forms.{◌>>=◌, is_full}
use Rattle.cert_lines.specs.HeadLines.{verdict_line, counts_line, gap_line, phases_line, scale_line, value_line}
use Rattle.cert_lines.specs.Rows.{path_row, length_row, potential_row}
use Rattle.cert_text.specs.declared.papers.Paper.{Paper}
use Rattle.cert_text.specs.declared.papers.Paper.TheVariants as papers
use Rattle.cert_text.specs.declared.opening.Kind.{Kind}
use Rattle.cert_text.specs.declared.opening.Kind.TheVariants as kinds
use Rattle.cert_text.specs.declared.opening.Opening.{Opening}
use Rattle.cert_text.specs.Reading.{Place, has_more, next_line, mode_line, rows_from, fixed_line, bytes_of, closing}
use Rattle.cert_text.specs.Papers.{modes_at, scale_at, opening_at, values_at, dual_at, routing_at, proof_at, form_of, header_of, header, routing_from, proof_from, counted_at, header_by}
use Rattle.cert_text.specs.Whole.{paper_at, paper_in}
use Rattle.cert_inverse.proofs.Between.{first_line}
use Rattle.cli_laws.proofs.Steps.{done, Is}
use Rattle.cli_laws.proofs.Near.{Two, Near, Goes, Beyond, Both, Past, Steps, IsFar, Any, AnyTwo, goes_then, next_steps, rows_steps, steps_then, steps_go, steps_give, steps_stay, steps_last, more_front}

modes_steps : (t : Two) (sheet : Sheet) → Steps t (Near t) (IsFar t) (modes_at sheet)
unfolding modes_at
modes_steps t sheet =
    let links = mode_line (codes "links") sheet.link_mode in
    let modules = mode_line (codes "modules") sheet.module_mode in
    steps_then t (Near t) (IsFar t) (next_line links) (λ a. next_line modules a.1 >>= λ b. done b.1) (next_steps t links)
    (λ u. steps_then t (Near t) (IsFar t) (next_line modules) (λ b. done b.1) (next_steps t modules) (λ v. steps_stay t))

abbrev pub Scale : Type 0
Scale = ℕ × (ℕ × ℕ)

pub scale_steps : (t : Two) → Steps t (Both {X = Scale} t) (Past {X = Scale} t) scale_at
unfolding scale_at
scale_steps t =
    steps_then t (Both {X = Scale} t) (Past {X = Scale} t) (next_line phases_line) (λ a. next_line scale_line a.1 >>= λ b. done ((a.0, b.0), b.1)) (next_steps t phases_line)
    (λ n. steps_then t (Both {X = Scale} t) (Past {X = Scale} t) (next_line scale_line) (λ b. done ((n, b.0), b.1)) (next_steps t scale_line) (λ s. steps_give t (n, s)))

abbrev pub Values : Type 0
Values = Printed × Printed

pub values_steps : (t : Two) → Steps t (Both {X = Values} t) (Past {X = Values} t) values_at
unfolding values_at
values_steps t =
    let low = value_line (codes "lower") MAX_LENGTH in
    let high = value_line (codes "upper") MAX_PART in
    steps_then t (Both {X = Values} t) (Past {X = Values} t) (next_line low) (λ a. next_line high a.1 >>= λ b. done ((a.0, b.0), b.1)) (next_steps t low)
    (λ x. steps_then t (Both {X = Values} t) (Past {X = Values} t) (next_line high) (λ b. done ((x, b.0), b.1)) (next_steps t high) (λ y. steps_give t (x, y)))

abbrev pub Opened : Type 0
Opened = Bool × ℕ

pub opening_steps : (t : Two) (sheet : Sheet) → Steps t (Both {X = Opened} t) (Past {X = Opened} t) (opening_at sheet)
unfolding opening_at counted_at
opening_steps t sheet =
    let counts = counts_line sheet in
    steps_then t (Both {X = Opened} t) (Past {X = Opened} t) (next_line verdict_line) (λ v. modes_at sheet v.1 >>= λ m. next_line counts m >>= λ c. next_line gap_line c.1 >>= λ g. done ((v.0, g.0), g.1)) (next_steps t verdict_line)
    (λ v. steps_go t (Both {X = Opened} t) (Past {X = Opened} t) (modes_at sheet) (λ m. next_line counts m >>= λ c. next_line gap_line c.1 >>= λ g. done ((v, g.0), g.1)) (modes_steps t sheet)
    (steps_then t (Both {X = Opened} t) (Past {X = Opened} t) (next_line counts) (λ c. next_line gap_line c.1 >>= λ g. done ((v, g.0), g.1)) (next_steps t counts)
    (λ u. steps_then t (Both {X = Opened} t) (Past {X = Opened} t) (next_line gap_line) (λ g. done ((v, g.0), g.1)) (next_steps t gap_line) (λ g. steps_give t (v, g)))))

abbrev rows_of_dual : List Length → List Potential → DualRows
rows_of_dual ls ps = record { lengths = ls; potentials = ps }

pub dual_steps : (t : Two) (sheet : Sheet) → Steps t (Both {X = DualRows} t) (Past {X = DualRows} t) (dual_at sheet)
unfolding dual_at
dual_steps t sheet =
    let lengths = λ (p : Place). rows_from (codes "length") (length_row sheet) p.at p.rest in
    let potentials = λ (p : Place). rows_from (codes "potential") (potential_row sheet) p.at p.rest in
    steps_then t (Both {X = DualRows} t) (Past {X = DualRows} t) lengths (λ a. potentials a.1 >>= λ b. done (rows_of_dual a.0 b.0, b.1)) (rows_steps t (codes "length") (length_row sheet))
    (λ ls. steps_then t (Both {X = DualRows} t) (Past {X = DualRows} t) potentials (λ b. done (rows_of_dual ls b.0, b.1)) (rows_steps t (codes "potential") (potential_row sheet)) (λ ps. steps_give t (rows_of_dual ls ps)))

-- two lines or more have bytes
bytes_there : (line : Line) (lines : List Line) → has_more lines ≡ true → is_full (bytes_of (line ∷ lines)) ≡ true
bytes_there line lines more = rw (first_line line lines more) (some (join_with_byte 32 line) (bytes_of lines))
  where
    some : (front back : List ℕ) → is_full ((front ++ 10 ∷ []) ++ back) ≡ true
    some [] back = grind (arith, nat_tests)
    some (b ∷ front) back = grind (arith, nat_tests)

-- nothing may stand behind the end
abbrev nothing : Unit {0} × Place → Result (Unit {0}) CertRefusal
nothing a = cond (is_full (bytes_of a.1.rest)) (Err (record { line = a.1.at; kind = Syntax })) (done tt)

front_bytes : (t : Two) (front rest : List Line) → has_more rest ≡ true → is_full (bytes_of (front ++ t.line ∷ rest)) ≡ true
front_bytes t [] rest more = bytes_there t.line rest more
front_bytes t (l ∷ ls) rest more = bytes_there l (ls ++ t.line ∷ rest) (more_front ls rest t.line)

nothing_steps : (t : Two) (u : Unit {0}) → Steps t (AnyTwo {A = Unit {0}}) (Any {A = Unit {0}}) (λ p. nothing (u, p))
nothing_steps t u = record { near = near; past = λ p h. far (is_full (bytes_of p.rest)) p h }
  where
    far : (b : Bool) (p : Place) → t.number < p.at → Is (Any {A = Unit {0}}) (Beyond t) (cond b (Err (record { line = p.at; kind = Syntax })) (done tt))
    far true p h = h
    far false p h = tt

    near : (p q : Place) → Near t p q → Goes t (AnyTwo {A = Unit {0}}) (Any {A = Unit {0}}) (nothing (u, p)) (nothing (u, q))
    near p q n =
        let one : is_full (bytes_of p.rest) ≡ true = ap (λ (ls : List Line). is_full (bytes_of ls)) n.one ∙ front_bytes t n.front t.one t.one_more in
        let other : is_full (bytes_of q.rest) ≡ true = ap (λ (ls : List Line). is_full (bytes_of ls)) n.other ∙ front_bytes t n.front t.other t.other_more in
        by (is_full (bytes_of p.rest)) (is_full (bytes_of q.rest)) q.at one other n.at
      where
        by : (b c : Bool) (at : ℕ) → b ≡ true → c ≡ true → at ≡ p.at → Goes t (AnyTwo {A = Unit {0}}) (Any {A = Unit {0}}) (cond b (Err (record { line = p.at; kind = Syntax })) (done tt)) (cond c (Err (record { line = at; kind = Syntax })) (done tt))
        by true true at h k e = inl (ap (λ (n : ℕ). Err (record { line = n; kind = Syntax })) e)
        by true false at h k e = absurd cc
        by false c at h k e = absurd cc

pub closing_steps : (t : Two) → Steps t (AnyTwo {A = Unit {0}}) (Any {A = Unit {0}}) closing
unfolding closing
closing_steps t = steps_then t (AnyTwo {A = Unit {0}}) (Any {A = Unit {0}}) (next_line (fixed_line (codes "end"))) nothing (next_steps t (fixed_line (codes "end"))) (nothing_steps t)

abbrev routing_made : Scale → List Row → Routing
routing_made s ps = record { phases = s.0; scale_cap = s.1.0; scale_load = s.1.1; paths = ps }

abbrev paths_of : Sheet → Place → Result (List Row × Place) CertRefusal
paths_of sheet p = rows_from (codes "path") (path_row sheet) p.at p.rest

routing_steps : (t : Two) (sheet : Sheet) → Steps t (AnyTwo {A = Routing}) (Any {A = Routing}) (routing_at sheet)
unfolding routing_at routing_from
routing_steps t sheet =
    let ok = AnyTwo {A = Routing} in
    let far = Any {A = Routing} in
    steps_go t ok far (modes_at sheet) (λ m. scale_at m >>= λ s. paths_of sheet s.1 >>= λ ps. closing ps.1 >>= λ last. done (routing_made s.0 ps.0)) (modes_steps t sheet)
    (steps_then t ok far scale_at (λ s. paths_of sheet s.1 >>= λ ps. closing ps.1 >>= λ last. done (routing_made s.0 ps.0)) (scale_steps t)
    (λ s. steps_then t ok far (paths_of sheet) (λ ps. closing ps.1 >>= λ last. done (routing_made s ps.0)) (rows_steps t (codes "path") (path_row sheet))
    (λ ps. steps_last t closing (λ last. routing_made s ps) (closing_steps t))))

abbrev proof_made : Opened → Scale → Values → List Row → DualRows → Proof
proof_made opening scale values paths dual = record {
  closed = opening.0;
  gap = opening.1;
  routing = routing_made scale paths;
  lower = values.0;
  upper = values.1;
  dual = dual;
}

proof_steps : (t : Two) (sheet : Sheet) → Steps t (AnyTwo {A = Proof}) (Any {A = Proof}) (proof_at sheet)
unfolding proof_at proof_from
proof_steps t sheet =
    let ok = AnyTwo {A = Proof} in
    let far = Any {A = Proof} in
    steps_then t ok far (opening_at sheet) (λ o. scale_at o.1 >>= λ s. values_at s.1 >>= λ v. paths_of sheet v.1 >>= λ ps. dual_at sheet ps.1 >>= λ d. closing d.1 >>= λ last. done (proof_made o.0 s.0 v.0 ps.0 d.0)) (opening_steps t sheet)
    (λ o. steps_then t ok far scale_at (λ s. values_at s.1 >>= λ v. paths_of sheet v.1 >>= λ ps. dual_at sheet ps.1 >>= λ d. closing d.1 >>= λ last. done (proof_made o s.0 v.0 ps.0 d.0)) (scale_steps t)
    (λ s. steps_then t ok far values_at (λ v. paths_of sheet v.1 >>= λ ps. dual_at sheet ps.1 >>= λ d. closing d.1 >>= λ last. done (proof_made o s v.0 ps.0 d.0)) (values_steps t)
    (λ v. steps_then t ok far (paths_of sheet) (λ ps. dual_at sheet ps.1 >>= λ d. closing d.1 >>= λ last. done (proof_made o s v ps.0 d.0)) (rows_steps t (codes "path") (path_row sheet))
    (λ ps. steps_then t ok far (dual_at sheet) (λ d. closing d.1 >>= λ last. done (proof_made o s v ps d.0)) (dual_steps t sheet)
    (λ d. steps_last t closing (λ last. proof_made o s v ps d) (closing_steps t))))))

paper_steps : (t : Two) (sheet : Sheet) (kind : Kind) → Steps t (AnyTwo {A = Paper}) (Any {A = Paper}) (paper_at sheet kind)
unfolding paper_at
paper_steps t sheet kinds.Certificate = steps_last t (proof_at sheet) (λ p. papers.Full p) (proof_steps t sheet)
paper_steps t sheet kinds.Routing = steps_last t (routing_at sheet) (λ r. papers.Routing r) (routing_steps t sheet)

pub header_goes : (t : Two) (before : List Line) → length before + 1 ≡ t.number → Goes t (Both {X = Opening} t) (Past {X = Opening} t) (header (before ++ t.line ∷ t.one)) (header (before ++ t.line ∷ t.other))
unfolding header_by
header_goes t [] count = by (form_of t.line)
  where
    by : (o : Option Opening) → Goes t (Both {X = Opening} t) (Past {X = Opening} t) (header_of o t.one) (header_of o t.other)
    by None = inl refl
    by (Some o) = rw (t.one_more, t.other_more) (inr (omega arith))
header_goes t (l ∷ ls) count = by (form_of l)
  where
    to : List Line → Place
    to rest = record { at = 2; rest = ls ++ t.line ∷ rest }

    by : (o : Option Opening) → Goes t (Both {X = Opening} t) (Past {X = Opening} t) (header_of o (ls ++ t.line ∷ t.one)) (header_of o (ls ++ t.line ∷ t.other))
    by None = inl refl
    by (Some o) = rw (more_front ls t.one t.line, more_front ls t.other t.line) (inl ((o, to t.other), refl, (to t.other, refl, record { front = ls; one = refl; other = refl; at = refl; count = omega arith })))

-- what is refused at the line or before is refused alike in the other text
pub same_refusal : (sheets : Sheets) (t : Two) (before : List Line) (r : CertRefusal) → length before + 1 ≡ t.number → r.line ≤ t.number → paper_in sheets (before ++ t.line ∷ t.one) ≡ Err r → paper_in sheets (before ++ t.line ∷ t.other) ≡ Err r
unfolding paper_in
same_refusal sheets t before r count le e =
    let next = λ (first : Opening × Place). paper_at (sheet_for sheets first.0.form) first.0.kind first.1 in
    by (header (before ++ t.line ∷ t.one) >>= next) (header (before ++ t.line ∷ t.other) >>= next) e
    (goes_then t (Both {X = Opening} t) (Past {X = Opening} t) (AnyTwo {A = Paper}) (Any {A = Paper}) (header (before ++ t.line ∷ t.one)) (header (before ++ t.line ∷ t.other)) next (header_goes t before count)
    (λ x y k. subst (λ (z : Opening × Place). Goes t (AnyTwo {A = Paper}) (Any {A = Paper}) (next x) (next z)) (sym k.1) ((paper_steps t (sheet_for sheets x.0.form) x.0.kind).near x.1 k.0 k.2))
    (λ x h. (paper_steps t (sheet_for sheets x.0.form) x.0.kind).past x.1 h))
  where
    by : (one other : Result Paper CertRefusal) → one ≡ Err r → Goes t (AnyTwo {A = Paper}) (Any {A = Paper}) one other → other ≡ Err r
    by (Ok x) other h g = absurd cc
    by (Err d) other h (inl k) = k ∙ h
    by (Err d) other h (inr k) = let same : d ≡ r = cc in absurd (omega (arith, ap (λ (x : CertRefusal). x.line) same))
