-- What a line's reading gives is within its limits.
use Rattle.std.proofs.Common.{◌≡◌, ℕ, ◌+◌, ◌-◌, ◌*◌, ◌/◌, ◌<◌, ◌≤◌, Bool, true, false, cond, List, [], ◌∷◌, length, take, drop, Option, Some, None, Ok, Err, refl, subst, ◌∙◌, arith}
use Rattle.std.specs.Prelude.{codes, nat_le, nat_lt, nat_eq}
use Rattle.std.specs.List.{AllByRecursion}
use Rattle.std.specs.Str.Parse.{digits_value}
use Rattle.std.proofs.lemmas.Bool.Decides.{nat_tests}
use Rattle.text_lines.specs.Lines.{Line}
use Rattle.flow_model.specs.Routing.{Row}
use Rattle.flow_paths.specs.DualRows.{Length, Potential}
use Rattle.flow_paths.specs.declared.certificate.Printed.{Printed}
use Rattle.gap_fraction.specs.declared.fraction.TheConstants.{MAX_PART}
use Rattle.mcf_limits.specs.declared.TheConstants.{MAX_GAP, MAX_LENGTH, MAX_PATH_CELLS, MAX_PHASES, MAX_UNITS}
use Rattle.cert_lines.specs.Sheet.{Sheet, place_of}
use Rattle.cert_lines.specs.declared.refusal.CertKind.{CertKind}
use Rattle.cert_lines.specs.declared.refusal.CertKind.TheVariants.{Syntax, UnknownName, BadNumber, TooLarge}
use Rattle.cert_lines.specs.Numbers.{is_number, number_within, is_micro, micro_value, decimal_within}
use Rattle.cert_lines.specs.Forms.{◌>>=◌, or_fault, one_behind, two_behind, list_behind, row_behind}
use Rattle.cert_lines.specs.HeadLines.{gap_line, phases_line, scale_line, fraction_parts, value_line}
use Rattle.cert_lines.specs.Rows.{length_row, cells_from, path_row, potentials_from, of_that_many, potential_row}
use Rattle.cert_lines.specs.Spelling.{FitsValue, FitsLength, FitsPotential, FitsPath}
use Rattle.cert_lines.proofs.NumberSteps.{micro_small}
use Rattle.cert_text.proofs.Steps.{bind_ok, done, ok_is, some_is, passed, place_within}

le_of : (x y : ℕ) → nat_le x y ≡ true → x ≤ y
le_of x y e = grind (arith, nat_tests)

pub number_fits : (most : ℕ) (word : List ℕ) (n : ℕ) → number_within most word ≡ Ok n → n ≤ most
unfolding number_within
number_fits most word n e =
    let v = digits_value 10 word in
    let a = passed (is_number word) (cond (nat_le v most) (done v) (Err TooLarge)) BadNumber n e in
    let b = passed (nat_le v most) (done v) TooLarge n a.1 in
    subst (λ (k : ℕ). k ≤ most) (ok_is {E = CertKind} v n b.1) (le_of v most b.0)

pub decimal_fits : (most : ℕ) (word : List ℕ) (v : ℕ × ℕ) → decimal_within most word ≡ Ok v → (v.0 ≤ most) × (v.1 < 1000000)
unfolding decimal_within
decimal_fits most word v e =
    let whole = take (length word - 7) word in
    let part = drop (length word - 7) word in
    let a = passed (is_micro part) (number_within most whole >>= λ n. done (n, micro_value part)) BadNumber v e in
    let b = bind_ok (number_within most whole) (λ n. done (n, micro_value part)) v a.1 in
    subst (λ (q : ℕ × ℕ). (q.0 ≤ most) × (q.1 < 1000000)) (ok_is {E = CertKind} (b.0, micro_value part) v b.2) (number_fits most whole b.0 b.1, micro_small part a.0)

pub gap_fits : (line : Line) (n : ℕ) → gap_line line ≡ Ok n → n ≤ MAX_GAP
unfolding gap_line
gap_fits line n e =
    let a = bind_ok (or_fault Syntax (one_behind (codes "gap") line)) (λ word. decimal_within (MAX_GAP / 1000000) word >>= λ v. cond (nat_le (v.0 * 1000000 + v.1) MAX_GAP) (done (v.0 * 1000000 + v.1)) (Err TooLarge)) n e in
    let b = bind_ok (decimal_within (MAX_GAP / 1000000) a.0) (λ v. cond (nat_le (v.0 * 1000000 + v.1) MAX_GAP) (done (v.0 * 1000000 + v.1)) (Err TooLarge)) n a.2 in
    let k : ℕ = b.0.0 * 1000000 + b.0.1 in
    let p = passed (nat_le k MAX_GAP) (done k) TooLarge n b.2 in
    subst (λ (q : ℕ). q ≤ MAX_GAP) (ok_is {E = CertKind} k n p.1) (le_of k MAX_GAP p.0)

pub phases_fit : (line : Line) (n : ℕ) → phases_line line ≡ Ok n → n ≤ MAX_PHASES
unfolding phases_line
phases_fit line n e =
    let a = bind_ok (or_fault Syntax (one_behind (codes "phases") line)) (λ word. number_within MAX_PHASES word) n e in
    number_fits MAX_PHASES a.0 n a.2

pub scale_fits : (line : Line) (x : ℕ × ℕ) → scale_line line ≡ Ok x → (x.0 ≤ MAX_UNITS) × (x.1 ≤ MAX_LENGTH)
unfolding scale_line
scale_fits line x e =
    let a = bind_ok (or_fault Syntax (two_behind (codes "scale") line)) (λ parts. number_within MAX_UNITS parts.0 >>= λ capacity. number_within MAX_LENGTH parts.1 >>= λ load. done (capacity, load)) x e in
    let b = bind_ok (number_within MAX_UNITS a.0.0) (λ capacity. number_within MAX_LENGTH a.0.1 >>= λ load. done (capacity, load)) x a.2 in
    let d = bind_ok (number_within MAX_LENGTH a.0.1) (λ load. done (b.0, load)) x b.2 in
    subst (λ (y : ℕ × ℕ). (y.0 ≤ MAX_UNITS) × (y.1 ≤ MAX_LENGTH)) (ok_is {E = CertKind} (b.0, d.0) x d.2) (number_fits MAX_UNITS a.0.0 b.0 b.1, number_fits MAX_LENGTH a.0.1 d.0 d.1)

pub value_fits : (key : List ℕ) (most : ℕ) (line : Line) (x : Printed) → value_line key most line ≡ Ok x → FitsValue most x
unfolding value_line
value_fits key most line x e =
    let made = λ (num den : ℕ) (v : ℕ × ℕ). done {A = Printed} {E = CertKind} (record { num = num; den = den; whole = v.0; micro = v.1 }) in
    let a = bind_ok (fraction_parts key line) (λ parts. number_within most parts.0 >>= λ num. number_within most parts.1 >>= λ den. decimal_within MAX_PART parts.2 >>= λ v. made num den v) x e in
    let b = bind_ok (number_within most a.0.0) (λ num. number_within most a.0.1 >>= λ den. decimal_within MAX_PART a.0.2 >>= λ v. made num den v) x a.2 in
    let d = bind_ok (number_within most a.0.1) (λ den. decimal_within MAX_PART a.0.2 >>= λ v. made b.0 den v) x b.2 in
    let v = bind_ok (decimal_within MAX_PART a.0.2) (λ v. made b.0 d.0 v) x d.2 in
    let w = decimal_fits MAX_PART a.0.2 v.0 v.1 in
    subst (FitsValue most) (ok_is {E = CertKind} (record { num = b.0; den = d.0; whole = v.0.0; micro = v.0.1 }) x v.2)
    (record { num = number_fits most a.0.0 b.0 b.1; den = number_fits most a.0.1 d.0 d.1; whole = w.0; micro = w.1 })

pub length_fits : (sheet : Sheet) (line : Line) (r : Length) → length_row sheet line ≡ Ok r → FitsLength sheet r
unfolding length_row
length_fits sheet line r e =
    let made = λ (c v : ℕ). done {A = Length} {E = CertKind} (record { cell = c; value = v }) in
    let a = bind_ok (or_fault Syntax (two_behind (codes "length") line)) (λ parts. or_fault UnknownName (place_of sheet.cells parts.0) >>= λ c. number_within MAX_LENGTH parts.1 >>= λ v. made c v) r e in
    let b = bind_ok (or_fault UnknownName (place_of sheet.cells a.0.0)) (λ c. number_within MAX_LENGTH a.0.1 >>= λ v. made c v) r a.2 in
    let d = bind_ok (number_within MAX_LENGTH a.0.1) (λ v. made b.0 v) r b.2 in
    subst (FitsLength sheet) (ok_is {E = CertKind} (record { cell = b.0; value = d.0 }) r d.2)
    (record { cell = place_within sheet.cells a.0.0 b.0 (some_is UnknownName (place_of sheet.cells a.0.0) b.0 b.1); value = number_fits MAX_LENGTH a.0.1 d.0 d.1 })

abbrev CellsFit : Sheet → ℕ → List ℕ → Type 0
CellsFit sheet count cells = AllByRecursion (λ c. c < length sheet.cells) cells × (count + length cells ≤ MAX_PATH_CELLS)

pub cells_fit : (sheet : Sheet) (count : ℕ) (words : Line) (cells : List ℕ) → count ≤ MAX_PATH_CELLS → cells_from sheet count words ≡ Ok cells → CellsFit sheet count cells
unfolding cells_from
cells_fit sheet count [] cells le e = subst (CellsFit sheet count) (ok_is {E = CertKind} [] cells e) (tt, omega arith)
cells_fit sheet count (word ∷ words) cells le e =
    let more = λ (c : ℕ). cells_from sheet (count + 1) words >>= λ cs. done {A = List ℕ} {E = CertKind} (c ∷ cs) in
    let p = passed (nat_lt count MAX_PATH_CELLS) (or_fault UnknownName (place_of sheet.cells word) >>= more) TooLarge cells e in
    let a = bind_ok (or_fault UnknownName (place_of sheet.cells word)) more cells p.1 in
    let b = bind_ok (cells_from sheet (count + 1) words) (λ cs. done (a.0 ∷ cs)) cells a.2 in
    let lt : count < MAX_PATH_CELLS = below count MAX_PATH_CELLS p.0 in
    let rest = cells_fit sheet (count + 1) words b.0 (omega arith) b.1 in
    subst (CellsFit sheet count) (ok_is {E = CertKind} (a.0 ∷ b.0) cells b.2)
    ((place_within sheet.cells word a.0 (some_is UnknownName (place_of sheet.cells word) a.0 a.1), rest.0), omega (arith, rest.1))
  where
    below : (x y : ℕ) → nat_lt x y ≡ true → x < y
    below x y h = grind (arith, nat_tests)

pub path_fits : (sheet : Sheet) (line : Line) (r : Row) → path_row sheet line ≡ Ok r → FitsPath sheet r
unfolding path_row
path_fits sheet line r e =
    let made = λ (k w : ℕ) (cs : List ℕ). done {A = Row} {E = CertKind} (record { commodity = k; walk = cs; weight = w }) in
    let a = bind_ok (or_fault Syntax (row_behind (codes "path") line)) (λ parts. or_fault UnknownName (place_of sheet.commodities parts.0) >>= λ k. number_within MAX_LENGTH parts.1 >>= λ w. cells_from sheet 0 parts.2 >>= λ cs. made k w cs) r e in
    let b = bind_ok (or_fault UnknownName (place_of sheet.commodities a.0.0)) (λ k. number_within MAX_LENGTH a.0.1 >>= λ w. cells_from sheet 0 a.0.2 >>= λ cs. made k w cs) r a.2 in
    let d = bind_ok (number_within MAX_LENGTH a.0.1) (λ w. cells_from sheet 0 a.0.2 >>= λ cs. made b.0 w cs) r b.2 in
    let f = bind_ok (cells_from sheet 0 a.0.2) (λ cs. made b.0 d.0 cs) r d.2 in
    let c = cells_fit sheet 0 a.0.2 f.0 (omega arith) f.1 in
    subst (FitsPath sheet) (ok_is {E = CertKind} (record { commodity = b.0; walk = f.0; weight = d.0 }) r f.2)
    (record { commodity = place_within sheet.commodities a.0.0 b.0 (some_is UnknownName (place_of sheet.commodities a.0.0) b.0 b.1); weight = number_fits MAX_LENGTH a.0.1 d.0 d.1; cells = c.0; short = omega (arith, c.1) })

abbrev ValuesFit : ℕ → List ℕ → Type 0
ValuesFit count values = (length values ≡ count) × AllByRecursion (λ n. n ≤ MAX_LENGTH) values

pub values_fit : (words : Line) (values : List ℕ) → potentials_from words ≡ Ok values → ValuesFit (length words) values
unfolding potentials_from
values_fit [] values e = subst (ValuesFit 0) (ok_is {E = CertKind} [] values e) (refl, tt)
values_fit (word ∷ words) values e =
    let a = bind_ok (number_within MAX_LENGTH word) (λ v. potentials_from words >>= λ vs. done (v ∷ vs)) values e in
    let b = bind_ok (potentials_from words) (λ vs. done (a.0 ∷ vs)) values a.2 in
    let rest = values_fit words b.0 b.1 in
    subst (ValuesFit (length (word ∷ words))) (ok_is {E = CertKind} (a.0 ∷ b.0) values b.2) (omega (arith, rest.0), (number_fits MAX_LENGTH word a.0 a.1, rest.1))

that_many : (count : ℕ) (o : Option (List ℕ × Line)) (parts : List ℕ × Line) → of_that_many count o ≡ Some parts → length parts.1 ≡ count
that_many count None parts e = absurd cc
that_many count (Some p) parts e = by (nat_eq (length p.1) count) refl e
  where
    same : (x y : ℕ) → nat_eq x y ≡ true → x ≡ y
    same x y h = grind (arith, nat_tests)

    by : (b : Bool) → nat_eq (length p.1) count ≡ b → cond b (Some p) None ≡ Some parts → length parts.1 ≡ count
    by true h k = let q : p ≡ parts = cc in subst (λ (z : List ℕ × Line). length z.1 ≡ count) q (same (length p.1) count h)
    by false h k = absurd cc

pub potential_fits : (sheet : Sheet) (line : Line) (r : Potential) → potential_row sheet line ≡ Ok r → FitsPotential sheet r
unfolding potential_row
potential_fits sheet line r e =
    let form = of_that_many (length sheet.nodes) (list_behind (codes "potential") line) in
    let made = λ (n : ℕ) (vs : List ℕ). done {A = Potential} {E = CertKind} (record { node = n; values = vs }) in
    let a = bind_ok (or_fault Syntax form) (λ parts. or_fault UnknownName (place_of sheet.nodes parts.0) >>= λ n. potentials_from parts.1 >>= λ vs. made n vs) r e in
    let b = bind_ok (or_fault UnknownName (place_of sheet.nodes a.0.0)) (λ n. potentials_from a.0.1 >>= λ vs. made n vs) r a.2 in
    let d = bind_ok (potentials_from a.0.1) (λ vs. made b.0 vs) r b.2 in
    let v = values_fit a.0.1 d.0 d.1 in
    let count = that_many (length sheet.nodes) (list_behind (codes "potential") line) a.0 (some_is Syntax form a.0 a.1) in
    subst (FitsPotential sheet) (ok_is {E = CertKind} (record { node = b.0; values = d.0 }) r d.2)
    (record { node = place_within sheet.nodes a.0.0 b.0 (some_is UnknownName (place_of sheet.nodes a.0.0) b.0 b.1); count = v.0 ∙ count; values = v.1 })
