-- Rows: what is read was spelled so.
use Rattle.std.proofs.Common.{◌≡◌, ℕ, ◌+◌, List, [], ◌∷◌, length, get_or, Option, Some, None, Ok, ap, ◌∙◌, arith}
use Rattle.std.specs.Prelude.{codes, nat_lt, nat_eq, map}
use Rattle.std.specs.Fmt.{decimal}
use Rattle.std.proofs.lemmas.Option.{cond_some}
use Rattle.text_lines.specs.Lines.{Line}
use Rattle.flow_model.specs.Routing.{Row}
use Rattle.flow_paths.specs.DualRows.{Length, Potential}
use Rattle.mcf_limits.specs.declared.TheConstants.{MAX_LENGTH, MAX_PATH_CELLS}
use Rattle.cert_lines.specs.Sheet.{Sheet, place_of, node_word, cell_word, commodity_word}
use Rattle.cert_lines.specs.declared.refusal.CertKind.{CertKind}
use Rattle.cert_lines.specs.declared.refusal.CertKind.TheVariants.{Syntax, UnknownName, TooLarge}
use Rattle.cert_lines.specs.Forms.{◌>>=◌, or_fault, two_behind, list_behind, row_behind}
use Rattle.cert_lines.specs.Numbers.{number_within}
use Rattle.cert_lines.specs.Rows.{length_row, cells_from, path_row, potentials_from, of_that_many, potential_row}
use Rattle.cert_lines.specs.Spelling.{length_words, potential_words, path_words}
use Rattle.cert_lines.proofs.NumberLaws.{number_takes}
use Rattle.cert_text.proofs.Steps.{bind_ok, done, ok_is, some_is, passed}
use Rattle.cert_inverse.proofs.Words.{place_takes, two_takes, list_takes, row_takes}

length_number : (word : List ℕ) (n : ℕ) → number_within MAX_LENGTH word ≡ Ok n → word ≡ decimal n
length_number word n e = (number_takes MAX_LENGTH word n (omega arith) e).0

named : (words : List (List ℕ)) (word : List ℕ) (c : ℕ) → or_fault UnknownName (place_of words word) ≡ Ok c → word ≡ get_or words c []
named words word c e = place_takes words word c (some_is UnknownName (place_of words word) c e)

pub length_takes : (sheet : Sheet) (line : Line) (r : Length) → length_row sheet line ≡ Ok r → line ≡ length_words sheet r
unfolding length_row
length_takes sheet line r e =
    let made = λ (c v : ℕ). done {A = Length} {E = CertKind} (record { cell = c; value = v }) in
    let a = bind_ok (or_fault Syntax (two_behind (codes "length") line)) (λ parts. or_fault UnknownName (place_of sheet.cells parts.0) >>= λ c. number_within MAX_LENGTH parts.1 >>= λ v. made c v) r e in
    let b = bind_ok (or_fault UnknownName (place_of sheet.cells a.0.0)) (λ c. number_within MAX_LENGTH a.0.1 >>= λ v. made c v) r a.2 in
    let d = bind_ok (number_within MAX_LENGTH a.0.1) (λ v. made b.0 v) r b.2 in
    two_takes (codes "length") line a.0 (some_is Syntax (two_behind (codes "length") line) a.0 a.1)
    ∙ ap (λ (w : List ℕ). codes "length" ∷ w ∷ a.0.1 ∷ []) (named sheet.cells a.0.0 b.0 b.1)
    ∙ ap (λ (w : List ℕ). codes "length" ∷ cell_word sheet b.0 ∷ w ∷ []) (length_number a.0.1 d.0 d.1)
    ∙ ap (length_words sheet) (ok_is {E = CertKind} (record { cell = b.0; value = d.0 }) r d.2)

cells_take : (sheet : Sheet) (count : ℕ) (words : Line) (cells : List ℕ) → cells_from sheet count words ≡ Ok cells → words ≡ map (cell_word sheet) cells
unfolding cells_from
cells_take sheet count [] cells e = ap (map (cell_word sheet)) (ok_is {E = CertKind} [] cells e)
cells_take sheet count (word ∷ words) cells e =
    let more = λ (c : ℕ). cells_from sheet (count + 1) words >>= λ cs. done {A = List ℕ} {E = CertKind} (c ∷ cs) in
    let p = passed (nat_lt count MAX_PATH_CELLS) (or_fault UnknownName (place_of sheet.cells word) >>= more) TooLarge cells e in
    let a = bind_ok (or_fault UnknownName (place_of sheet.cells word)) more cells p.1 in
    let b = bind_ok (cells_from sheet (count + 1) words) (λ cs. done (a.0 ∷ cs)) cells a.2 in
    ap (λ (w : List ℕ). w ∷ words) (named sheet.cells word a.0 a.1)
    ∙ ap (λ (ws : Line). cell_word sheet a.0 ∷ ws) (cells_take sheet (count + 1) words b.0 b.1)
    ∙ ap (map (cell_word sheet)) (ok_is {E = CertKind} (a.0 ∷ b.0) cells b.2)

pub path_takes : (sheet : Sheet) (line : Line) (r : Row) → path_row sheet line ≡ Ok r → line ≡ path_words sheet r
unfolding path_row
path_takes sheet line r e =
    let made = λ (k w : ℕ) (cs : List ℕ). done {A = Row} {E = CertKind} (record { commodity = k; walk = cs; weight = w }) in
    let a = bind_ok (or_fault Syntax (row_behind (codes "path") line)) (λ parts. or_fault UnknownName (place_of sheet.commodities parts.0) >>= λ k. number_within MAX_LENGTH parts.1 >>= λ w. cells_from sheet 0 parts.2 >>= λ cs. made k w cs) r e in
    let b = bind_ok (or_fault UnknownName (place_of sheet.commodities a.0.0)) (λ k. number_within MAX_LENGTH a.0.1 >>= λ w. cells_from sheet 0 a.0.2 >>= λ cs. made k w cs) r a.2 in
    let d = bind_ok (number_within MAX_LENGTH a.0.1) (λ w. cells_from sheet 0 a.0.2 >>= λ cs. made b.0 w cs) r b.2 in
    let f = bind_ok (cells_from sheet 0 a.0.2) (λ cs. made b.0 d.0 cs) r d.2 in
    row_takes (codes "path") line a.0 (some_is Syntax (row_behind (codes "path") line) a.0 a.1)
    ∙ ap (λ (w : List ℕ). codes "path" ∷ w ∷ a.0.1 ∷ a.0.2) (named sheet.commodities a.0.0 b.0 b.1)
    ∙ ap (λ (w : List ℕ). codes "path" ∷ commodity_word sheet b.0 ∷ w ∷ a.0.2) (length_number a.0.1 d.0 d.1)
    ∙ ap (λ (ws : Line). codes "path" ∷ commodity_word sheet b.0 ∷ decimal d.0 ∷ ws) (cells_take sheet 0 a.0.2 f.0 f.1)
    ∙ ap (path_words sheet) (ok_is {E = CertKind} (record { commodity = b.0; walk = f.0; weight = d.0 }) r f.2)

values_take : (words : Line) (values : List ℕ) → potentials_from words ≡ Ok values → words ≡ map decimal values
unfolding potentials_from
values_take [] values e = ap (map decimal) (ok_is {E = CertKind} [] values e)
values_take (word ∷ words) values e =
    let a = bind_ok (number_within MAX_LENGTH word) (λ v. potentials_from words >>= λ vs. done (v ∷ vs)) values e in
    let b = bind_ok (potentials_from words) (λ vs. done (a.0 ∷ vs)) values a.2 in
    ap (λ (w : List ℕ). w ∷ words) (length_number word a.0 a.1)
    ∙ ap (λ (ws : Line). decimal a.0 ∷ ws) (values_take words b.0 b.1)
    ∙ ap (map decimal) (ok_is {E = CertKind} (a.0 ∷ b.0) values b.2)

-- a form of that many words is a form
of_many : (count : ℕ) (o : Option (List ℕ × Line)) (parts : List ℕ × Line) → of_that_many count o ≡ Some parts → o ≡ Some parts
of_many count None parts e = absurd cc
of_many count (Some p) parts e = ap (λ (q : List ℕ × Line). Some q) (cond_some (nat_eq (length p.1) count) p parts e).1

pub potential_takes : (sheet : Sheet) (line : Line) (r : Potential) → potential_row sheet line ≡ Ok r → line ≡ potential_words sheet r
unfolding potential_row
potential_takes sheet line r e =
    let form = of_that_many (length sheet.nodes) (list_behind (codes "potential") line) in
    let made = λ (n : ℕ) (vs : List ℕ). done {A = Potential} {E = CertKind} (record { node = n; values = vs }) in
    let a = bind_ok (or_fault Syntax form) (λ parts. or_fault UnknownName (place_of sheet.nodes parts.0) >>= λ n. potentials_from parts.1 >>= λ vs. made n vs) r e in
    let b = bind_ok (or_fault UnknownName (place_of sheet.nodes a.0.0)) (λ n. potentials_from a.0.1 >>= λ vs. made n vs) r a.2 in
    let d = bind_ok (potentials_from a.0.1) (λ vs. made b.0 vs) r b.2 in
    list_takes (codes "potential") line a.0 (of_many (length sheet.nodes) (list_behind (codes "potential") line) a.0 (some_is Syntax form a.0 a.1))
    ∙ ap (λ (w : List ℕ). codes "potential" ∷ w ∷ a.0.1) (named sheet.nodes a.0.0 b.0 b.1)
    ∙ ap (λ (ws : Line). codes "potential" ∷ node_word sheet b.0 ∷ ws) (values_take a.0.1 d.0 d.1)
    ∙ ap (potential_words sheet) (ok_is {E = CertKind} (record { node = b.0; values = d.0 }) r d.2)
