-- Why a text is refused at a line.
use Rattle.std.proofs.Common.{◌≡◌, ◌≢◌, ◌⊎◌, ℕ, ◌+◌, ◌<◌, Bool, true, false, cond, List, [], ◌∷◌, ◌++◌, length, Result, Ok, Err, refl, sym, subst, ◌∙◌, append_assoc, length-append, inl, inr, arith}
use Rattle.std.specs.Prelude.{codes, ◌&&◌}
use Rattle.text_lines.specs.Lines.{Line}
use Rattle.flow_paths.specs.DualRows.{DualRows, Length, Potential}
use Rattle.flow_paths.specs.declared.certificate.Printed.{Printed}
use Rattle.gap_fraction.specs.declared.fraction.TheConstants.{MAX_PART}
use Rattle.mcf_limits.specs.declared.TheConstants.{MAX_LENGTH}
use Rattle.cert_lines.specs.Sheet.{Sheet}
use Rattle.cert_lines.specs.declared.refusal.CertKind.{CertKind}
use Rattle.cert_lines.specs.declared.refusal.CertKind.TheVariants.{Syntax}
use Rattle.cert_lines.specs.declared.refusal.CertRefusal.{CertRefusal}
use Rattle.cert_lines.specs.Forms.{◌>>=◌, begins, is_full}
use Rattle.cert_lines.specs.HeadLines.{verdict_line, counts_line, gap_line, phases_line, scale_line, value_line}
use Rattle.cert_lines.specs.Rows.{length_row, potential_row}
use Rattle.cert_text.specs.Reading.{Place, at_line, has_more, line_from, next_line, mode_line, rows_from, fixed_line, bytes_of, closing}
use Rattle.cert_text.specs.Papers.{modes_at, scale_at, opening_at, values_at, dual_at, counted_at}
use Rattle.cert_inverse.proofs.HeadTakes.{fixed_takes}
use Rattle.cli_laws.specs.LineRoles.{TextKind, HeadRole, RowRole, verdict, links, modules, counts, gap, phases, scale, lower, upper, cell, node, head_line, row_line, last, nothing, head_count, order, row_count, HasRow, StandsAt, key_of, AreBeforeRows, EndsWith, IsPast, BeginsNoRow, AreEnded, IsInOrder, IsHeadFault, IsRoleFault, IsBodyReason}
use Rattle.cli_laws.specs.Refusals.{Reason, HasReason}
use Rattle.cli_laws.proofs.Steps.{done, Is, then_is}
use Rattle.cli_laws.proofs.RowOrder.{order_one, up_to}
use Rattle.cli_laws.proofs.LineReasons.{verdict_fault, links_fault, modules_fault, counts_fault, gap_fault, phases_fault, scale_fault, lower_fault, upper_fault, cell_fault, node_fault, last_fault}

-- the place stands behind lines of the text, and a line follows
pub record At (lines : List Line) (p : Place) : Type 0 where
  pub front : List Line
  pub parts : lines ≡ front ++ p.rest
  pub at : p.at ≡ length front + 1
  pub more : has_more p.rest ≡ true

pub no_more : (lines : List Line) → has_more lines ≡ false → lines ≡ []
no_more [] h = refl
no_more (line ∷ lines) h = absurd cc

pub not_last : (lines : List Line) → has_more lines ≡ true → lines ≢ []
not_last [] h = absurd (no_line h)
  where
    no_line : false ≡ true → ⊥
    no_line e = cc
not_last (line ∷ lines) h = λ e. cc

pub at_next : (lines : List Line) (at : ℕ) (line : Line) (rest : List Line) → At lines (record { at = at; rest = line ∷ rest }) → has_more rest ≡ true → At lines (record { at = at + 1; rest = rest })
at_next lines at line rest h more = record {
  front = h.front ++ line ∷ [];
  parts = h.parts ∙ sym (append_assoc h.front (line ∷ []) rest);
  at = omega (arith, h.at, length-append h.front (line ∷ []));
  more = more;
}

-- the place of that number was reached
abbrev pub Reached : {X : Type 0} → List Line → ℕ → X × Place → Type 0
Reached lines n y = At lines y.1 × (y.1.at ≡ n)

-- a reason, told as another one
pub with_reason : (lines : List Line) (P Q : Reason) → ((before : List Line) (line : Line) (after : List Line) (e : CertRefusal) → P before line after e → Q before line after e) → (e : CertRefusal) → HasReason lines P e → HasReason lines Q e
with_reason lines P Q f e h = record { before = h.before; line = h.line; after = h.after; parts = h.parts; count = h.count; reason = f h.before h.line h.after e h.reason }

-- one line, where a text that ends in a line may be refused so
module _ (lines : List Line) (Why : Reason) (cut : (before : List Line) (line : Line) (at : ℕ) → Why before line [] (record { line = at; kind = Syntax })) where
  line_of : {X : Type 0} (read : Line → Result X CertKind) (at : ℕ) (rest : List Line) → (h : At lines (record { at = at; rest = rest }))
      → ((line : Line) (after : List Line) (k : CertKind) → after ≢ [] → read line ≡ Err k → Why h.front line after (record { line = at; kind = k })) → Is (Reached {X = X} lines (at + 1)) (HasReason lines Why) (line_from read at rest)
  line_of read at [] h bad = absurd (no_line h.more)
    where
      no_line : false ≡ true → ⊥
      no_line e = cc
  line_of {X} read at (line ∷ rest) h bad = by (has_more rest) refl (read line) refl
    where
      by : (b : Bool) → has_more rest ≡ b → (r : Result X CertKind) → read line ≡ r
          → Is (Reached {X = X} lines (at + 1)) (HasReason lines Why) (cond b (at_line at r >>= λ x. done (x, record { at = at + 1; rest = rest })) (Err (record { line = at; kind = Syntax })))
      by true m (Ok x) e = (at_next lines at line rest h m, refl)
      by true m (Err k) e = record { before = h.front; line = line; after = rest; parts = h.parts; count = h.at; reason = bad line rest k (not_last rest m) e }
      by false m r e = record { before = h.front; line = line; after = rest; parts = h.parts; count = h.at; reason = subst (λ (after : List Line). Why h.front line after (record { line = at; kind = Syntax })) (sym (no_more rest m)) (cut h.front line at) }

  pub next_of : {X : Type 0} (read : Line → Result X CertKind) (n : ℕ) (p : Place) → (h : At lines p) → p.at ≡ n
      → ((line : Line) (after : List Line) (k : CertKind) → after ≢ [] → read line ≡ Err k → Why h.front line after (record { line = p.at; kind = k })) → Is (Reached {X = X} lines (n + 1)) (HasReason lines Why) (next_line read p)
  unfolding next_line
  next_of {X} read n p h is bad = subst (λ (m : ℕ). Is (Reached {X = X} lines (m + 1)) (HasReason lines Why) (line_from read p.at p.rest)) is (line_of read p.at p.rest h bad)

-- why a line behind the first one is refused
abbrev pub Why : List Line → Sheet → TextKind → CertRefusal → Type 0
Why lines sheet kind e = HasReason lines (IsBodyReason sheet kind) e

-- rows of the first so many kinds are behind: none of them may stand at the next line, but behind one that comes later
pub record Passed (kind : TextKind) (n : ℕ) (front rest : List Line) : Type 0 where
  pub behind : AreBeforeRows kind front ⊎ ((role : RowRole) × (order role < n) × EndsWith kind role front)
  pub next : (role : RowRole) → order role < n → (line : Line) (more : List Line) → rest ≡ line ∷ more → has_more more ≡ true → begins (key_of role) line ≡ true → IsPast kind role front

-- the place stands there, among the rows
pub record Among (lines : List Line) (kind : TextKind) (n : ℕ) (p : Place) : Type 0 where
  pub at_place : At lines p
  pub far : head_count kind < p.at
  pub passed : Passed kind n at_place.front p.rest

abbrev pub Behind : {X : Type 0} → List Line → TextKind → ℕ → X × Place → Type 0
Behind lines kind n y = Among lines kind n y.1

-- nothing is said of the value
abbrev pub Anything : {X : Type 0} → X → Type 0
Anything x = Unit {0}

-- the lines up to the scale stand as those of every certificate
pub record HasHead (kind : TextKind) : Type 0 where
  pub at_verdict : StandsAt kind (head_line verdict) 2
  pub at_links : StandsAt kind (head_line links) 3
  pub at_modules : StandsAt kind (head_line modules) 4
  pub at_counts : StandsAt kind (head_line counts) 5
  pub at_gap : StandsAt kind (head_line gap) 6
  pub at_phases : StandsAt kind (head_line phases) 7
  pub at_scale : StandsAt kind (head_line scale) 8

first_same : (a b : Line) (xs ys : List Line) → a ∷ xs ≡ b ∷ ys → a ≡ b
first_same a b xs ys e = cc

rest_same : (a b : Line) (xs ys : List Line) → a ∷ xs ≡ b ∷ ys → xs ≡ ys
rest_same a b xs ys e = cc

-- rows of the kinds before this one are behind, or one of it
abbrev Rows : TextKind → RowRole → List Line → List Line → Type 0
Rows kind role front rest = Passed kind (order role) front rest ⊎ EndsWith kind role front

module _ (lines : List Line) (sheet : Sheet) (kind : TextKind) where
  pub next_why : {X : Type 0} (read : Line → Result X CertKind) (role : HeadRole) → ((line : Line) (k : CertKind) → read line ≡ Err k → IsHeadFault sheet role line k) → (n : ℕ) (p : Place) → At lines p → p.at ≡ n
      → StandsAt kind (head_line role) n → Is (Reached {X = X} lines (n + 1)) (Why lines sheet kind) (next_line read p)
  next_why read role fault n p h is stands =
      next_of lines (IsBodyReason sheet kind) (λ before line at. inl (refl, refl)) read n p h is (λ line after k more e. inr (more, head_line role, subst (StandsAt kind (head_line role)) (sym is) stands, tt, fault line k e))

  pub go : {A B : Type 0} (ok : A → Type 0) (ok' : B → Type 0) (r : Result A CertRefusal) (g : A → Result B CertRefusal) → Is ok (Why lines sheet kind) r → ((x : A) → ok x → Is ok' (Why lines sheet kind) (g x)) → Is ok' (Why lines sheet kind) (r >>= g)
  go ok ok' r g h next = then_is ok (Why lines sheet kind) ok' (Why lines sheet kind) r g h (λ e w. w) next

  -- ---- rows

  in_order : (role : RowRole) (front rest : List Line) (line : Line) → Rows kind role front rest → IsInOrder kind (row_line role) front line
  in_order role front rest line (inr e) = inr (role, omega arith, e)
  in_order role front rest line (inl p) = by p.behind
    where
      by : AreBeforeRows kind front ⊎ ((earlier : RowRole) × (order earlier < order role) × EndsWith kind earlier front) → IsInOrder kind (row_line role) front line
      by (inl first) = inl first
      by (inr (earlier, lt, e)) = inr (earlier, omega (arith, lt), e)

  -- where the next line is no such row, all of them are behind
  all_behind : (role : RowRole) (at : ℕ) (line : Line) (rest : List Line) → (h : At lines (record { at = at; rest = line ∷ rest })) → Rows kind role h.front (line ∷ rest) → head_count kind < at → HasRow kind role
      → (has_more rest ≡ true → begins (key_of role) line ≡ true → ⊥) → Among lines kind (order role + 1) (record { at = at; rest = line ∷ rest })
  all_behind role at line rest h known far has none = record { at_place = h; far = far; passed = by known }
    where
      never : (other : RowRole) (l : Line) (more : List Line) → line ∷ rest ≡ l ∷ more → has_more more ≡ true → begins (key_of other) l ≡ true → order other ≡ order role → ⊥
      never other l more e m b same =
          none (subst (λ (x : List Line). has_more x ≡ true) (sym (rest_same line l rest more e)) m)
          (subst (λ (x : Line). begins (key_of role) x ≡ true) (sym (first_same line l rest more e)) (subst (λ (r : RowRole). begins (key_of r) l ≡ true) (order_one other role same) b))

      wider : AreBeforeRows kind h.front ⊎ ((earlier : RowRole) × (order earlier < order role) × EndsWith kind earlier h.front) → AreBeforeRows kind h.front ⊎ ((earlier : RowRole) × (order earlier < order role + 1) × EndsWith kind earlier h.front)
      wider (inl first) = inl first
      wider (inr (earlier, lt, e)) = inr (earlier, omega (arith, lt), e)

      before : Passed kind (order role) h.front (line ∷ rest) → (other : RowRole) (l : Line) (more : List Line) → line ∷ rest ≡ l ∷ more → has_more more ≡ true → begins (key_of other) l ≡ true → (order other < order role) ⊎ (order other ≡ order role) → IsPast kind other h.front
      before p other l more e m b (inl lt) = p.next other lt l more e m b
      before p other l more e m b (inr same) = absurd (never other l more e m b same)

      behind : EndsWith kind role h.front → (other : RowRole) (l : Line) (more : List Line) → line ∷ rest ≡ l ∷ more → has_more more ≡ true → begins (key_of other) l ≡ true → (order other < order role) ⊎ (order other ≡ order role) → IsPast kind other h.front
      behind ends other l more e m b (inl lt) = (role, lt, has, ends)
      behind ends other l more e m b (inr same) = absurd (never other l more e m b same)

      by : Rows kind role h.front (line ∷ rest) → Passed kind (order role + 1) h.front (line ∷ rest)
      by (inl p) = record { behind = wider p.behind; next = λ other lt l more e m b. before p other l more e m b (up_to (order other) (order role) lt) }
      by (inr ends) = record { behind = inr (role, omega arith, ends); next = λ other lt l more e m b. behind ends other l more e m b (up_to (order other) (order role) lt) }

  rows_why : {X : Type 0} (role : RowRole) (row : Line → Result X CertKind) → ((line : Line) (k : CertKind) → begins (key_of role) line ≡ true → row line ≡ Err k → IsRoleFault sheet (row_line role) line k) → (at : ℕ) (rest : List Line)
      → (h : At lines (record { at = at; rest = rest })) → Rows kind role h.front rest → head_count kind < at → HasRow kind role → Is (Behind {X = List X} lines kind (order role + 1)) (Why lines sheet kind) (rows_from (key_of role) row at rest)
  unfolding rows_from at_next
  rows_why role row fault at [] h known far has = absurd (no_line h.more)
    where
      no_line : false ≡ true → ⊥
      no_line e = cc
  rows_why {X} role row fault at (line ∷ rest) h known far has =
      by (λ m c. rows_why role row fault (at + 1) rest (at_next lines at line rest h m) (inr (h.front, line, refl, omega (arith, far, h.at), c)) (omega (arith, far)) has)
      (has_more rest) refl (begins (key_of role) line) refl (row line) refl
    where
      no : (b : Bool) → b ≡ false → b ≡ true → ⊥
      no b f t = absurd cc

      tail : (x : X) (more : Result (List X × Place) CertRefusal) → Is (Behind {X = List X} lines kind (order role + 1)) (Why lines sheet kind) more → Is (Behind {X = List X} lines kind (order role + 1)) (Why lines sheet kind) (more >>= λ m. done (x ∷ m.0, m.1))
      tail x (Ok m) k = k
      tail x (Err e) k = k

      by : (has_more rest ≡ true → begins (key_of role) line ≡ true → Is (Behind {X = List X} lines kind (order role + 1)) (Why lines sheet kind) (rows_from (key_of role) row (at + 1) rest)) → (b : Bool) → has_more rest ≡ b → (c : Bool) → begins (key_of role) line ≡ c → (r : Result X CertKind) → row line ≡ r
          → Is (Behind {X = List X} lines kind (order role + 1)) (Why lines sheet kind) (cond (b && c) (at_line at r >>= λ x. rows_from (key_of role) row (at + 1) rest >>= λ m. done (x ∷ m.0, m.1)) (done ([], record { at = at; rest = line ∷ rest })))
      by more true m true c (Ok x) e = tail x (rows_from (key_of role) row (at + 1) rest) (more m c)
      by more true m true c (Err k) e = record { before = h.front; line = line; after = rest; parts = h.parts; count = h.at; reason = inr (not_last rest m, row_line role, (has, far), in_order role h.front (line ∷ rest) line known, fault line k c e) }
      by more true m false c r e = all_behind role at line rest h known far has (λ m' c'. no (begins (key_of role) line) c c')
      by more false m b c r e = all_behind role at line rest h known far has (λ m' c'. no (has_more rest) m m')

  pub rows_on : {X : Type 0} (role : RowRole) (row : Line → Result X CertKind) → ((line : Line) (k : CertKind) → begins (key_of role) line ≡ true → row line ≡ Err k → IsRoleFault sheet (row_line role) line k) → (p : Place) → Among lines kind (order role) p → HasRow kind role
      → Is (Behind {X = List X} lines kind (order role + 1)) (Why lines sheet kind) (rows_from (key_of role) row p.at p.rest)
  rows_on role row fault p h has = rows_why role row fault p.at p.rest h.at_place (inl h.passed) h.far has

  -- the lines before the rows were read
  pub at_rows : (n : ℕ) (p : Place) → At lines p → p.at ≡ n → n ≡ head_count kind + 1 → Among lines kind 0 p
  at_rows n p h is e = record {
    at_place = h;
    far = omega (arith, is, e);
    passed = record { behind = inl (omega (arith, h.at, is, e)); next = λ role lt line more same m b. absurd (omega (arith, lt)) };
  }

  -- ---- parts

  pub modes_why : (n : ℕ) (p : Place) → At lines p → p.at ≡ n → StandsAt kind (head_line links) n → StandsAt kind (head_line modules) (n + 1) → Is (λ q. At lines q × (q.at ≡ n + 1 + 1)) (Why lines sheet kind) (modes_at sheet p)
  unfolding modes_at
  modes_why n p h is s t =
      let link = mode_line (codes "links") sheet.link_mode in
      let module_of = mode_line (codes "modules") sheet.module_mode in
      go (Reached {X = Unit {0}} lines (n + 1)) (λ q. At lines q × (q.at ≡ n + 1 + 1)) (next_line link p) (λ a. next_line module_of a.1 >>= λ b. done b.1) (next_why link links (links_fault sheet) n p h is s)
      (λ a ha. go (Reached {X = Unit {0}} lines (n + 1 + 1)) (λ q. At lines q × (q.at ≡ n + 1 + 1)) (next_line module_of a.1) (λ b. done b.1) (next_why module_of modules (modules_fault sheet) (n + 1) a.1 ha.0 ha.1 t) (λ b hb. hb))

  pub scale_why : (n : ℕ) (p : Place) → At lines p → p.at ≡ n → StandsAt kind (head_line phases) n → StandsAt kind (head_line scale) (n + 1) → Is (Reached {X = ℕ × (ℕ × ℕ)} lines (n + 1 + 1)) (Why lines sheet kind) (scale_at p)
  unfolding scale_at
  scale_why n p h is s t =
      go (Reached {X = ℕ} lines (n + 1)) (Reached {X = ℕ × (ℕ × ℕ)} lines (n + 1 + 1)) (next_line phases_line p) (λ a. next_line scale_line a.1 >>= λ b. done ((a.0, b.0), b.1)) (next_why phases_line phases (phases_fault sheet) n p h is s)
      (λ a ha. go (Reached {X = ℕ × ℕ} lines (n + 1 + 1)) (Reached {X = ℕ × (ℕ × ℕ)} lines (n + 1 + 1)) (next_line scale_line a.1) (λ b. done ((a.0, b.0), b.1)) (next_why scale_line scale (scale_fault sheet) (n + 1) a.1 ha.0 ha.1 t) (λ b hb. hb))

  pub values_why : (n : ℕ) (p : Place) → At lines p → p.at ≡ n → StandsAt kind (head_line (lower MAX_LENGTH)) n → StandsAt kind (head_line upper) (n + 1) → Is (Reached {X = Printed × Printed} lines (n + 1 + 1)) (Why lines sheet kind) (values_at p)
  unfolding values_at
  values_why n p h is s t =
      let low = value_line (codes "lower") MAX_LENGTH in
      let high = value_line (codes "upper") MAX_PART in
      go (Reached {X = Printed} lines (n + 1)) (Reached {X = Printed × Printed} lines (n + 1 + 1)) (next_line low p) (λ a. next_line high a.1 >>= λ b. done ((a.0, b.0), b.1)) (next_why low (lower MAX_LENGTH) (lower_fault sheet MAX_LENGTH) n p h is s)
      (λ a ha. go (Reached {X = Printed} lines (n + 1 + 1)) (Reached {X = Printed × Printed} lines (n + 1 + 1)) (next_line high a.1) (λ b. done ((a.0, b.0), b.1)) (next_why high upper (upper_fault sheet) (n + 1) a.1 ha.0 ha.1 t) (λ b hb. hb))

  pub opening_why : (p : Place) → At lines p → p.at ≡ 2 → HasHead kind → Is (Reached {X = Bool × ℕ} lines 7) (Why lines sheet kind) (opening_at sheet p)
  unfolding opening_at counted_at
  opening_why p h is s =
      let ok = Reached {X = Bool × ℕ} lines 7 in
      let count = counts_line sheet in
      go (Reached {X = Bool} lines 3) ok (next_line verdict_line p) (λ v. modes_at sheet v.1 >>= λ m. next_line count m >>= λ c. next_line gap_line c.1 >>= λ g. done ((v.0, g.0), g.1)) (next_why verdict_line verdict (verdict_fault sheet) 2 p h is s.at_verdict)
      (λ v hv. go (λ q. At lines q × (q.at ≡ 5)) ok (modes_at sheet v.1) (λ m. next_line count m >>= λ c. next_line gap_line c.1 >>= λ g. done ((v.0, g.0), g.1)) (modes_why 3 v.1 hv.0 hv.1 s.at_links s.at_modules)
      (λ m hm. go (Reached {X = Unit {0}} lines 6) ok (next_line count m) (λ c. next_line gap_line c.1 >>= λ g. done ((v.0, g.0), g.1)) (next_why count counts (counts_fault sheet) 5 m hm.0 hm.1 s.at_counts)
      (λ c hc. go (Reached {X = ℕ} lines 7) ok (next_line gap_line c.1) (λ g. done ((v.0, g.0), g.1)) (next_why gap_line gap (gap_fault sheet) 6 c.1 hc.0 hc.1 s.at_gap) (λ g hg. hg))))

  pub dual_why : (p : Place) → Among lines kind 1 p → HasRow kind cell → HasRow kind node → Is (Behind {X = DualRows} lines kind 3) (Why lines sheet kind) (dual_at sheet p)
  unfolding dual_at
  dual_why p h c n =
      let made = λ (ls : List Length) (ps : List Potential × Place). done {A = DualRows × Place} {E = CertRefusal} (record { lengths = ls; potentials = ps.0 }, ps.1) in
      go (Behind {X = List Length} lines kind 2) (Behind {X = DualRows} lines kind 3) (rows_from (codes "length") (length_row sheet) p.at p.rest) (λ a. rows_from (codes "potential") (potential_row sheet) a.1.at a.1.rest >>= λ b. made a.0 b)
      (rows_on cell (length_row sheet) (cell_fault sheet) p h c)
      (λ a ha. go (Behind {X = List Potential} lines kind 3) (Behind {X = DualRows} lines kind 3) (rows_from (codes "potential") (potential_row sheet) a.1.at a.1.rest) (λ b. made a.0 b) (rows_on node (potential_row sheet) (node_fault sheet) a.1 ha n) (λ b hb. hb))

  -- ---- the end

  abbrev Ended : ℕ → Unit {0} × Place → Type 0
  Ended n y = (h : At lines y.1) × AreEnded h.front × (y.1.at ≡ n)

  end_at : (at : ℕ) (rest : List Line) → (h : At lines (record { at = at; rest = rest })) → head_count kind < at → ((line : Line) (more : List Line) → rest ≡ line ∷ more → has_more more ≡ true → BeginsNoRow kind h.front line)
      → Is (Ended (at + 1)) (Why lines sheet kind) (line_from (fixed_line (codes "end")) at rest)
  unfolding at_next
  end_at at [] h far placed = absurd (no_line h.more)
    where
      no_line : false ≡ true → ⊥
      no_line e = cc
  end_at at (line ∷ rest) h far placed = by (has_more rest) refl (fixed_line (codes "end") line) refl
    where
      by : (b : Bool) → has_more rest ≡ b → (r : Result (Unit {0}) CertKind) → fixed_line (codes "end") line ≡ r
          → Is (Ended (at + 1)) (Why lines sheet kind) (cond b (at_line at r >>= λ x. done (x, record { at = at + 1; rest = rest })) (Err (record { line = at; kind = Syntax })))
      by true m (Ok x) e = (at_next lines at line rest h m, (h.front, line, refl, fixed_takes (codes "end") line x e), refl)
      by true m (Err k) e = record { before = h.front; line = line; after = rest; parts = h.parts; count = h.at; reason = inr (not_last rest m, last, far, placed line rest refl m, last_fault sheet line k e) }
      by false m r e = record { before = h.front; line = line; after = rest; parts = h.parts; count = h.at; reason = inl (no_more rest m, refl) }

  end_why : (p : Place) → (h : At lines p) → head_count kind < p.at → ((line : Line) (more : List Line) → p.rest ≡ line ∷ more → has_more more ≡ true → BeginsNoRow kind h.front line) → Is (Ended (p.at + 1)) (Why lines sheet kind) (next_line (fixed_line (codes "end")) p)
  unfolding next_line
  end_why p h far placed = end_at p.at p.rest h far placed

  behind_end : (p : Place) → (h : At lines p) → AreEnded h.front → head_count kind + 1 < p.at → (b : Bool) → Is (Anything {X = Unit {0}}) (Why lines sheet kind) (cond b (Err (record { line = p.at; kind = Syntax })) (done tt))
  behind_end p h ended far false = tt
  behind_end p h ended far true = by p.rest h.parts h.more
    where
      why : (line : Line) (rest : List Line) (b : Bool) → has_more rest ≡ b → IsBodyReason sheet kind h.front line rest (record { line = p.at; kind = Syntax })
      why line rest true m = inr (not_last rest m, nothing, far, ended, refl)
      why line rest false m = inl (no_more rest m, refl)

      by : (rest : List Line) → lines ≡ h.front ++ rest → has_more rest ≡ true → Why lines sheet kind (record { line = p.at; kind = Syntax })
      by [] parts more = absurd cc
      by (line ∷ rest) parts more = record { before = h.front; line = line; after = rest; parts = parts; count = h.at; reason = why line rest (has_more rest) refl }

  closing_why : (p : Place) → Among lines kind (row_count kind) p → Is (Anything {X = Unit {0}}) (Why lines sheet kind) (closing p)
  unfolding closing
  closing_why p h =
      go (Ended (p.at + 1)) (Anything {X = Unit {0}}) (next_line (fixed_line (codes "end")) p) (λ a. cond (is_full (bytes_of a.1.rest)) (Err (record { line = a.1.at; kind = Syntax })) (done tt))
      (end_why p h.at_place h.far (λ line more e m role has b. h.passed.next role has line more e m b))
      (λ a ha. behind_end a.1 ha.0 ha.1 (omega (arith, h.far, ha.2)) (is_full (bytes_of a.1.rest)))

  pub closed_why : {B : Type 0} (p : Place) (value : B) → Among lines kind (row_count kind) p → Is (Anything {X = B}) (Why lines sheet kind) (closing p >>= λ u. done value)
  closed_why {B} p value h = go (Anything {X = Unit {0}}) (Anything {X = B}) (closing p) (λ u. done value) (closing_why p h) (λ u k. tt)
