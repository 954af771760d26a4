-- Lines of certificates: the first word that is wrong.
use Rattle.std.proofs.Common.{◌≡◌, ℕ, zero, suc, ◌+◌, ◌-◌, ◌*◌, ◌/◌, ◌<◌, ◌≤◌, Bool, true, false, cond, List, [], ◌∷◌, ◌++◌, length, take, drop, Option, Some, None, Result, Ok, Err, refl, sym, ap, subst, arith}
use Rattle.std.specs.Prelude.{codes, map, nat_le, nat_lt, ◌&&◌, option_and_then}
use Rattle.std.specs.Option.{option_map}
use Rattle.std.specs.Str.Parse.{digits_value}
use Rattle.std.proofs.lemmas.Bool.Decides.{nat_tests}
use Rattle.text_lines.specs.Lines.{Line}
use Rattle.flow_model.specs.Routing.{Row}
use Rattle.flow_paths.specs.DualRows.{Length, Potential}
use Rattle.flow_paths.specs.declared.certificate.Printed.{Printed}
use Rattle.gap_fraction.specs.declared.fraction.TheConstants.{MAX_PART}
use Rattle.mcf_limits.specs.declared.TheConstants.{MAX_GAP, MAX_HOPS, MAX_LENGTH, MAX_PATH_CELLS, MAX_PHASES, MAX_UNITS}
use Rattle.cert_lines.specs.Sheet.{Sheet, place_of}
use Rattle.cert_lines.specs.declared.refusal.CertKind.{CertKind}
use Rattle.cert_lines.specs.declared.refusal.CertKind.TheVariants.{Syntax, UnknownName, BadNumber, TooLarge}
use Rattle.cert_lines.specs.Forms.{◌>>=◌, or_fault, one_behind, two_behind, list_behind, row_behind, stroke_parts}
use Rattle.cert_lines.specs.Numbers.{is_number, number_within, is_micro, micro_value, decimal_within}
use Rattle.cert_lines.specs.HeadLines.{gap_line, phases_line, scale_line, fraction_parts, value_line}
use Rattle.cert_lines.specs.Rows.{length_row, cells_from, path_row, potentials_from, of_that_many, potential_row}
use Rattle.cert_lines.proofs.NumberSteps.{micro_small}
use Rattle.hop_check.specs.LayerRows.{Layer}
use Rattle.kind_texts.specs.HopsRead.{with_count, layer_row}
use Rattle.kind_texts.specs.PartRead.{threshold_line}
use Rattle.cli_laws.specs.CertKinds.{name, number, decimal, nothing, Sorted, is_decimal, millionths, IsRight, IsWrong, IsFirstWrong, IsLineFault, gap_form, phases_form, scale_form, value_words, value_form, cell_words, path_form, length_form, potential_form, layer_form, threshold_form}

abbrev fine : {A : Type 0} → A → Result A CertKind
fine x = Ok x

-- a fault is that of the first word that is wrong
abbrev Tells : {X : Type 0} → List Sorted → Result X CertKind → Type 0
Tells words (Ok x) = Unit {0}
Tells words (Err kind) = IsFirstWrong words kind

abbrev TellsLine : {X : Type 0} → Option (List Sorted) → Result X CertKind → Type 0
TellsLine form (Ok x) = Unit {0}
TellsLine form (Err kind) = IsLineFault form kind

here : (word : Sorted) (words : List Sorted) (kind : CertKind) → IsWrong word kind → IsFirstWrong (word ∷ words) kind
here word words kind h = record { before = []; word = word; after = words; parts = refl; right = tt; wrong = h }

later : {X : Type 0} (word : Sorted) (words : List Sorted) (r : Result X CertKind) → IsRight word → Tells words r → Tells (word ∷ words) r
later word words (Ok x) right h = tt
later word words (Err kind) right h = record { before = word ∷ h.before; word = h.word; after = h.after; parts = ap (λ (l : List Sorted). word ∷ l) h.parts; right = (right, h.right); wrong = h.wrong }

-- ---- words

name_tells : {X : Type 0} (names : List (List ℕ)) (word : List ℕ) (words : List Sorted) (f : ℕ → Result X CertKind) → ((i : ℕ) → Tells words (f i)) → Tells ((name names, word) ∷ words) (or_fault UnknownName (place_of names word) >>= f)
name_tells {X} names word words f next = by (place_of names word) refl
  where
    by : (o : Option ℕ) → place_of names word ≡ o → Tells ((name names, word) ∷ words) (or_fault UnknownName o >>= f)
    by None e = here (name names, word) words UnknownName e
    by (Some i) e = later (name names, word) words (f i) (i, e) (next i)

le_of : (x y : ℕ) → nat_le x y ≡ true → x ≤ y
le_of x y e = grind (arith, nat_tests)

lt_of : (x y : ℕ) → nat_le x y ≡ false → y < x
lt_of x y e = grind (arith, nat_tests)

number_tells : {X : Type 0} (most : ℕ) (word : List ℕ) (words : List Sorted) (f : ℕ → Result X CertKind) → ((n : ℕ) → Tells words (f n)) → Tells ((number most, word) ∷ words) (number_within most word >>= f)
unfolding number_within
number_tells {X} most word words f next = by (is_number word) (nat_le (digits_value 10 word) most) refl refl
  where
    by : (a b : Bool) → is_number word ≡ a → nat_le (digits_value 10 word) most ≡ b → Tells ((number most, word) ∷ words) (cond a (cond b (fine (digits_value 10 word)) (Err TooLarge)) (Err BadNumber) >>= f)
    by true true h k = later (number most, word) words (f (digits_value 10 word)) (h, le_of (digits_value 10 word) most k) (next (digits_value 10 word))
    by true false h k = here (number most, word) words TooLarge (h, lt_of (digits_value 10 word) most k)
    by false b h k = here (number most, word) words BadNumber h

-- a decimal of which the whole part is within a limit, and then the whole value
abbrev within_both : {X : Type 0} → ℕ → (ℕ × ℕ → Result X CertKind) → ℕ × ℕ → Result X CertKind
within_both most f v = cond (nat_le (v.0 * 1000000 + v.1) most) (f v) (Err TooLarge)

decimal_is : (word : List ℕ) (a b : Bool) → is_micro (drop (length word - 7) word) ≡ a → is_number (take (length word - 7) word) ≡ b → is_decimal word ≡ (a && b)
decimal_is word a b h k = rw (h, k) refl

decimal_tells : {X : Type 0} (whole most : ℕ) (word : List ℕ) (words : List Sorted) (f : ℕ × ℕ → Result X CertKind) → most ≤ whole * 1000000 + 999999 → ((v : ℕ × ℕ) → v.0 * 1000000 + v.1 ≤ most → Tells words (f v))
    → ((v : ℕ × ℕ) → v.0 ≤ whole → v.1 < 1000000 → most < v.0 * 1000000 + v.1 → f v ≡ Err TooLarge) → Tells ((decimal most, word) ∷ words) (decimal_within whole word >>= f)
unfolding decimal_within number_within
decimal_tells {X} whole most word words f limit next over = by (is_micro part) (is_number front) (nat_le (digits_value 10 front) whole) refl refl refl
  where
    part : List ℕ
    part = drop (length word - 7) word

    front : List ℕ
    front = take (length word - 7) word

    value : ℕ × ℕ
    value = (digits_value 10 front, micro_value part)

    sort : Sorted
    sort = (decimal most, word)

    inside : is_decimal word ≡ true → digits_value 10 front ≤ whole → micro_value part < 1000000 → (b : Bool) → nat_le (millionths word) most ≡ b → Tells (sort ∷ words) (f value)
    inside h k m true e = later sort words (f value) (h, le_of (millionths word) most e) (next value (le_of (millionths word) most e))
    inside h k m false e = subst (Tells (sort ∷ words)) (sym (over value k m (lt_of (millionths word) most e))) (here sort words TooLarge (h, lt_of (millionths word) most e))

    by : (a b c : Bool) → is_micro part ≡ a → is_number front ≡ b → nat_le (digits_value 10 front) whole ≡ c
        → Tells (sort ∷ words) ((cond a (cond b (cond c (fine (digits_value 10 front)) (Err TooLarge)) (Err BadNumber) >>= λ n. fine (n, micro_value part)) (Err BadNumber)) >>= f)
    by true true true h k l = inside (decimal_is word true true h k) (le_of (digits_value 10 front) whole l) (micro_small part h) (nat_le (millionths word) most) refl
    by true true false h k l = let far = lt_of (digits_value 10 front) whole l in here sort words TooLarge (decimal_is word true true h k, omega (arith, far, limit))
    by true false c h k l = here sort words BadNumber (decimal_is word true false h k)
    by false b c h k l = here sort words BadNumber (decimal_is word false b h k)

-- ---- lines

as_line : {X : Type 0} (words : List Sorted) (r : Result X CertKind) → Tells words r → TellsLine (Some words) r
as_line words (Ok x) h = tt
as_line words (Err kind) h = h

form_tells : {P X : Type 0} (o : Option P) (sorts : P → List Sorted) (f : P → Result X CertKind) → ((p : P) → Tells (sorts p) (f p)) → TellsLine (option_map sorts o) (or_fault Syntax o >>= f)
form_tells None sorts f next = refl
form_tells (Some p) sorts f next = as_line (sorts p) (f p) (next p)

then_tells : {X Y : Type 0} (words : List Sorted) (r : Result X CertKind) (g : X → Y) → Tells words r → Tells words (r >>= λ x. fine (g x))
then_tells words (Ok x) g h = tt
then_tells words (Err kind) g h = h

same_end : {X : Type 0} (r : Result X CertKind) → (r >>= λ x. fine x) ≡ r
same_end (Ok x) = refl
same_end (Err kind) = refl

number_last : (most : ℕ) (word : List ℕ) → Tells ((number most, word) ∷ []) (number_within most word)
number_last most word = subst (Tells ((number most, word) ∷ [])) (same_end (number_within most word)) (number_tells most word [] fine (λ n. tt))

phases_tell : (line : Line) → TellsLine (phases_form line) (phases_line line)
unfolding phases_line
phases_tell line = form_tells (one_behind (codes "phases") line) (λ word. (number MAX_PHASES, word) ∷ []) (number_within MAX_PHASES) (number_last MAX_PHASES)

gap_tell : (line : Line) → TellsLine (gap_form line) (gap_line line)
unfolding gap_line
gap_tell line =
    let f = λ (v : ℕ × ℕ). cond (nat_le (v.0 * 1000000 + v.1) MAX_GAP) (fine (v.0 * 1000000 + v.1)) (Err TooLarge) in
    form_tells (one_behind (codes "gap") line) (λ word. (decimal MAX_GAP, word) ∷ []) (λ word. decimal_within (MAX_GAP / 1000000) word >>= f)
    (λ word. decimal_tells (MAX_GAP / 1000000) MAX_GAP word [] f (omega arith) (λ v le. kept (v.0 * 1000000 + v.1) (nat_le (v.0 * 1000000 + v.1) MAX_GAP) (is_le (v.0 * 1000000 + v.1) MAX_GAP le)) (λ v a b far. over (v.0 * 1000000 + v.1) far))
  where
    kept : (n : ℕ) (b : Bool) → b ≡ true → Tells [] (cond b (fine n) (Err TooLarge))
    kept n true h = tt
    kept n false h = absurd cc

    is_le : (x y : ℕ) → x ≤ y → nat_le x y ≡ true
    is_le x y h = grind (arith, nat_tests)

    not_le : (x y : ℕ) → y < x → nat_le x y ≡ false
    not_le x y h = grind (arith, nat_tests)

    over : (n : ℕ) → MAX_GAP < n → cond (nat_le n MAX_GAP) (fine n) (Err TooLarge) ≡ Err TooLarge
    over n far = ap (λ (b : Bool). cond b (fine n) (Err TooLarge)) (not_le n MAX_GAP far)

scale_tell : (line : Line) → TellsLine (scale_form line) (scale_line line)
unfolding scale_line
scale_tell line =
    form_tells (two_behind (codes "scale") line) (λ w. (number MAX_UNITS, w.0) ∷ (number MAX_LENGTH, w.1) ∷ []) (λ w. number_within MAX_UNITS w.0 >>= λ c. number_within MAX_LENGTH w.1 >>= λ l. fine (c, l))
    (λ w. number_tells MAX_UNITS w.0 ((number MAX_LENGTH, w.1) ∷ []) (λ c. number_within MAX_LENGTH w.1 >>= λ l. fine (c, l)) (λ c. number_tells MAX_LENGTH w.1 [] (λ l. fine (c, l)) (λ l. tt)))

length_tell : (sheet : Sheet) (line : Line) → TellsLine (length_form sheet line) (length_row sheet line)
unfolding length_row
length_tell sheet line =
    let made = λ (c v : ℕ). fine {A = Length} (record { cell = c; value = v }) in
    form_tells (two_behind (codes "length") line) (λ w. (name sheet.cells, w.0) ∷ (number MAX_LENGTH, w.1) ∷ []) (λ w. or_fault UnknownName (place_of sheet.cells w.0) >>= λ c. number_within MAX_LENGTH w.1 >>= λ v. made c v)
    (λ w. name_tells sheet.cells w.0 ((number MAX_LENGTH, w.1) ∷ []) (λ c. number_within MAX_LENGTH w.1 >>= λ v. made c v) (λ c. number_tells MAX_LENGTH w.1 [] (made c) (λ v. tt)))

potentials_tell : (words : Line) → Tells (map (λ word. (number MAX_LENGTH, word)) words) (potentials_from words)
unfolding potentials_from
potentials_tell [] = tt
potentials_tell (word ∷ words) =
    let more = map (λ w. (number MAX_LENGTH, w)) words in
    number_tells MAX_LENGTH word more (λ v. potentials_from words >>= λ vs. fine (v ∷ vs)) (λ v. then_tells more (potentials_from words) (λ vs. v ∷ vs) (potentials_tell words))

potential_tell : (sheet : Sheet) (line : Line) → TellsLine (potential_form sheet line) (potential_row sheet line)
unfolding potential_row
potential_tell sheet line =
    let made = λ (n : ℕ) (vs : List ℕ). fine {A = Potential} (record { node = n; values = vs }) in
    let sorts = λ (words : Line). map (λ w. (number MAX_LENGTH, w)) words in
    form_tells (of_that_many (length sheet.nodes) (list_behind (codes "potential") line)) (λ w. (name sheet.nodes, w.0) ∷ sorts w.1) (λ w. or_fault UnknownName (place_of sheet.nodes w.0) >>= λ n. potentials_from w.1 >>= λ vs. made n vs)
    (λ w. name_tells sheet.nodes w.0 (sorts w.1) (λ n. potentials_from w.1 >>= λ vs. made n vs) (λ n. then_tells (sorts w.1) (potentials_from w.1) (λ vs. record { node = n; values = vs }) (potentials_tell w.1)))

layer_tell : (sheet : Sheet) (line : Line) → TellsLine (layer_form sheet line) (layer_row sheet line)
unfolding layer_row
layer_tell sheet line =
    let made = λ (n i : ℕ) (vs : List ℕ). fine {A = Layer} (record { node = n; index = i; values = vs }) in
    let sorts = λ (words : Line). map (λ w. (number MAX_LENGTH, w)) words in
    form_tells (with_count (length sheet.nodes) (row_behind (codes "layer") line)) (λ w. (name sheet.nodes, w.0) ∷ (number MAX_HOPS, w.1) ∷ sorts w.2)
    (λ w. or_fault UnknownName (place_of sheet.nodes w.0) >>= λ n. number_within MAX_HOPS w.1 >>= λ i. potentials_from w.2 >>= λ vs. made n i vs)
    (λ w. name_tells sheet.nodes w.0 ((number MAX_HOPS, w.1) ∷ sorts w.2) (λ n. number_within MAX_HOPS w.1 >>= λ i. potentials_from w.2 >>= λ vs. made n i vs)
    (λ n. number_tells MAX_HOPS w.1 (sorts w.2) (λ i. potentials_from w.2 >>= λ vs. made n i vs) (λ i. then_tells (sorts w.2) (potentials_from w.2) (λ vs. record { node = n; index = i; values = vs }) (potentials_tell w.2))))

threshold_tell : (line : Line) → TellsLine (threshold_form line) (threshold_line line)
unfolding threshold_line
threshold_tell line = form_tells (one_behind (codes "threshold") line) (λ word. (number MAX_LENGTH, word) ∷ []) (number_within MAX_LENGTH) (number_last MAX_LENGTH)

abbrev cells_left : Sheet → ℕ → Line → List Sorted
cells_left sheet left words = map (λ word. (name sheet.cells, word)) (take left words) ++ map (λ word. (nothing, word)) (drop left words)

below : (x y : ℕ) → x < y → nat_lt x y ≡ true
below x y h = grind (arith, nat_tests)

not_below : (x y : ℕ) → y ≤ x → nat_lt x y ≡ false
not_below x y h = grind (arith, nat_tests)

cells_tell : (sheet : Sheet) (count left : ℕ) (words : Line) → count + left ≡ MAX_PATH_CELLS → Tells (cells_left sheet left words) (cells_from sheet count words)
unfolding cells_from
cells_tell sheet count left [] all = tt
cells_tell sheet count zero (word ∷ words) all =
    rw (not_below count MAX_PATH_CELLS (omega arith)) (here (nothing, word) (map (λ w. (nothing, w)) words) TooLarge tt)
cells_tell sheet count (suc left) (word ∷ words) all =
    let more = cells_left sheet left words in
    rw (below count MAX_PATH_CELLS (omega arith))
    (name_tells sheet.cells word more (λ c. cells_from sheet (count + 1) words >>= λ cs. fine (c ∷ cs)) (λ c. then_tells more (cells_from sheet (count + 1) words) (λ cs. c ∷ cs) (cells_tell sheet (count + 1) left words (omega arith))))

path_tell : (sheet : Sheet) (line : Line) → TellsLine (path_form sheet line) (path_row sheet line)
unfolding path_row
path_tell sheet line =
    let made = λ (k w : ℕ) (cs : List ℕ). fine {A = Row} (record { commodity = k; walk = cs; weight = w }) in
    form_tells (row_behind (codes "path") line) (λ w. (name sheet.commodities, w.0) ∷ (number MAX_LENGTH, w.1) ∷ cell_words sheet w.2) (λ w. or_fault UnknownName (place_of sheet.commodities w.0) >>= λ k. number_within MAX_LENGTH w.1 >>= λ n. cells_from sheet 0 w.2 >>= λ cs. made k n cs)
    (λ w. name_tells sheet.commodities w.0 ((number MAX_LENGTH, w.1) ∷ cell_words sheet w.2) (λ k. number_within MAX_LENGTH w.1 >>= λ n. cells_from sheet 0 w.2 >>= λ cs. made k n cs)
    (λ k. number_tells MAX_LENGTH w.1 (cell_words sheet w.2) (λ n. cells_from sheet 0 w.2 >>= λ cs. made k n cs)
    (λ n. then_tells (cell_words sheet w.2) (cells_from sheet 0 w.2) (λ cs. record { commodity = k; walk = cs; weight = n }) (cells_tell sheet 0 MAX_PATH_CELLS w.2 (omega arith)))))

value_tell : (key : List ℕ) (most : ℕ) (line : Line) → TellsLine (value_form key most line) (value_line key most line)
unfolding value_line fraction_parts
value_tell key most line = by (two_behind key line)
  where
    words_tell : (a b c : List ℕ) → Tells ((number most, a) ∷ (number most, b) ∷ (decimal (MAX_PART * 1000000 + 999999), c) ∷ [])
        (number_within most a >>= λ num. number_within most b >>= λ den. decimal_within MAX_PART c >>= λ v. fine {A = Printed} (record { num = num; den = den; whole = v.0; micro = v.1 }))
    words_tell a b c =
        let last : List Sorted = (decimal (MAX_PART * 1000000 + 999999), c) ∷ [] in
        number_tells most a ((number most, b) ∷ last) (λ num. number_within most b >>= λ den. decimal_within MAX_PART c >>= λ v. fine {A = Printed} (record { num = num; den = den; whole = v.0; micro = v.1 }))
        (λ num. number_tells most b last (λ den. decimal_within MAX_PART c >>= λ v. fine {A = Printed} (record { num = num; den = den; whole = v.0; micro = v.1 }))
        (λ den. decimal_tells MAX_PART (MAX_PART * 1000000 + 999999) c [] (λ v. fine {A = Printed} (record { num = num; den = den; whole = v.0; micro = v.1 })) (omega arith) (λ v le. tt) (λ v small micro far. absurd (omega (arith, small, micro, far)))))

    split : (c : List ℕ) (p : Option (List ℕ × List ℕ))
        → TellsLine (option_map (λ part. (number most, part.0) ∷ (number most, part.1) ∷ (decimal (MAX_PART * 1000000 + 999999), c) ∷ []) p)
        ((or_fault Syntax p >>= λ part. fine {A = List ℕ × List ℕ × List ℕ} (part.0, part.1, c)) >>= λ w. number_within most w.0 >>= λ num. number_within most w.1 >>= λ den. decimal_within MAX_PART w.2 >>= λ v. fine {A = Printed} (record { num = num; den = den; whole = v.0; micro = v.1 }))
    split c None = refl
    split c (Some part) = as_line ((number most, part.0) ∷ (number most, part.1) ∷ (decimal (MAX_PART * 1000000 + 999999), c) ∷ [])
        (number_within most part.0 >>= λ num. number_within most part.1 >>= λ den. decimal_within MAX_PART c >>= λ v. fine {A = Printed} (record { num = num; den = den; whole = v.0; micro = v.1 })) (words_tell part.0 part.1 c)

    by : (o : Option (List ℕ × List ℕ)) → TellsLine (option_and_then (value_words most) o)
        ((or_fault Syntax o >>= λ w. or_fault Syntax (stroke_parts w.0) >>= λ part. fine {A = List ℕ × List ℕ × List ℕ} (part.0, part.1, w.1)) >>= λ w. number_within most w.0 >>= λ num. number_within most w.1 >>= λ den. decimal_within MAX_PART w.2 >>= λ v. fine {A = Printed} (record { num = num; den = den; whole = v.0; micro = v.1 }))
    by None = refl
    by (Some w) = split w.1 (stroke_parts w.0)

-- ---- as faults

pub fault_of : {X : Type 0} (form : Option (List Sorted)) (r : Result X CertKind) (kind : CertKind) → TellsLine form r → r ≡ Err kind → IsLineFault form kind
fault_of form (Ok x) kind h e = absurd cc
fault_of form (Err k) kind h e = let same : k ≡ kind = cc in subst (IsLineFault form) same h

pub gap_fault : (line : Line) (kind : CertKind) → gap_line line ≡ Err kind → IsLineFault (gap_form line) kind
gap_fault line kind e = fault_of (gap_form line) (gap_line line) kind (gap_tell line) e

pub phases_fault : (line : Line) (kind : CertKind) → phases_line line ≡ Err kind → IsLineFault (phases_form line) kind
phases_fault line kind e = fault_of (phases_form line) (phases_line line) kind (phases_tell line) e

pub scale_fault : (line : Line) (kind : CertKind) → scale_line line ≡ Err kind → IsLineFault (scale_form line) kind
scale_fault line kind e = fault_of (scale_form line) (scale_line line) kind (scale_tell line) e

pub value_fault : (key : List ℕ) (most : ℕ) (line : Line) (kind : CertKind) → value_line key most line ≡ Err kind → IsLineFault (value_form key most line) kind
value_fault key most line kind e = fault_of (value_form key most line) (value_line key most line) kind (value_tell key most line) e

pub path_fault : (sheet : Sheet) (line : Line) (kind : CertKind) → path_row sheet line ≡ Err kind → IsLineFault (path_form sheet line) kind
path_fault sheet line kind e = fault_of (path_form sheet line) (path_row sheet line) kind (path_tell sheet line) e

pub length_fault : (sheet : Sheet) (line : Line) (kind : CertKind) → length_row sheet line ≡ Err kind → IsLineFault (length_form sheet line) kind
length_fault sheet line kind e = fault_of (length_form sheet line) (length_row sheet line) kind (length_tell sheet line) e

pub potential_fault : (sheet : Sheet) (line : Line) (kind : CertKind) → potential_row sheet line ≡ Err kind → IsLineFault (potential_form sheet line) kind
potential_fault sheet line kind e = fault_of (potential_form sheet line) (potential_row sheet line) kind (potential_tell sheet line) e

pub layer_fault : (sheet : Sheet) (line : Line) (kind : CertKind) → layer_row sheet line ≡ Err kind → IsLineFault (layer_form sheet line) kind
layer_fault sheet line kind e = fault_of (layer_form sheet line) (layer_row sheet line) kind (layer_tell sheet line) e

pub threshold_fault : (line : Line) (kind : CertKind) → threshold_line line ≡ Err kind → IsLineFault (threshold_form line) kind
threshold_fault line kind e = fault_of (threshold_form line) (threshold_line line) kind (threshold_tell line) e
