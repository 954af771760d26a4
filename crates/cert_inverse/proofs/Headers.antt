-- The first line of a text: what kind and what form it says.
use Rattle.std.proofs.Common.{◌≡◌, ℕ, Bool, true, false, cond, eqb, List, [], ◌∷◌, ◌++◌, get_or, Option, Some, None, Ok, refl, sym, ap, ◌∙◌, arith}
use Rattle.std.specs.Prelude.{codes}
use Rattle.std.specs.Option.{option_map}
use Rattle.std.proofs.lemmas.List.{append-nil}
use Rattle.std.proofs.lemmas.List.Concat.{flat_map-cons}
use Rattle.text_lines.specs.Lines.{Line, spelled, text_of}
use Rattle.cert_lines.specs.Sheet.{Sheet, Sheets, sheet_for}
use Rattle.cert_lines.specs.declared.form.Form.{Form}
use Rattle.cert_lines.specs.declared.form.Form.TheVariants.{First, Second}
use Rattle.cert_lines.specs.declared.refusal.CertKind.TheVariants.{Syntax}
use Rattle.cert_lines.specs.declared.refusal.CertRefusal.{CertRefusal}
use Rattle.cert_lines.specs.Forms.{is_fixed}
use Rattle.cert_lines.specs.Spelling.{verdict_words, links_words, modules_words, phases_words, scale_words}
use Rattle.cert_text.specs.declared.papers.Paper.{Paper}
use Rattle.cert_text.specs.declared.papers.Paper.TheVariants as papers
use Rattle.cert_text.specs.declared.opening.Kind.{Kind}
use Rattle.cert_text.specs.declared.opening.Kind.TheVariants as kinds
use Rattle.cert_text.specs.declared.opening.Opening.{Opening}
use Rattle.cert_text.specs.Reading.{Place, has_more, bytes_of}
use Rattle.cert_text.specs.Papers.{form_of, header_of, header, header_by}
use Rattle.cert_writer.specs.Text.{end_line, from_counts, path_lines}
use Rattle.cert_text.proofs.Steps.{done, ok_is, passed}
use Rattle.cert_inverse.specs.Inverse.{AreInForms, form_said, form_word, paper_text}
use Rattle.cert_inverse.proofs.Words.{same_bytes}
use Rattle.cert_inverse.proofs.HeadTakes.{joined}
use Rattle.cert_inverse.proofs.Between.{first_line}
use Rattle.cert_inverse.proofs.PlacesAgain.{place}

abbrev pub kind_word : Kind → List ℕ
kind_word kinds.Certificate = codes "mcf-certificate"
kind_word kinds.Routing = codes "mcf-routing"

abbrev pub header_words : Kind → List ℕ → Line
header_words kind word = kind_word kind ∷ word ∷ []

abbrev pub opening : Kind → Form → Opening
opening kind form = record { kind = kind; form = form }

-- the line that says this
abbrev pub said_words : Opening → Line
said_words o = header_words o.kind (form_word o.form)

pub forms_are : (sheets : Sheets) (form : Form) → AreInForms sheets → (sheet_for sheets form).form ≡ form_word form
forms_are sheets First h = h.old
forms_are sheets Second h = h.new

-- ---- what is read was spelled so

form_is : (line : Line) (o : Opening) → form_of line ≡ Some o → joined line ≡ joined (said_words o)
form_is line o e = by (is_fixed (codes "mcf-certificate 1") line) (is_fixed (codes "mcf-certificate 2") line) (is_fixed (codes "mcf-routing 1") line) (is_fixed (codes "mcf-routing 2") line) refl refl refl refl e
  where
    says : (k : Kind) (f : Form) (text : List ℕ) → is_fixed text line ≡ true → text ≡ joined (said_words (opening k f)) → Some (opening k f) ≡ Some o → joined line ≡ joined (said_words o)
    says k f text h same s = let is : opening k f ≡ o = cc in same_bytes (joined line) text h ∙ same ∙ ap (λ (q : Opening). joined (said_words q)) is

    by : (a b c d : Bool) → is_fixed (codes "mcf-certificate 1") line ≡ a → is_fixed (codes "mcf-certificate 2") line ≡ b → is_fixed (codes "mcf-routing 1") line ≡ c → is_fixed (codes "mcf-routing 2") line ≡ d
        → cond a (Some (opening kinds.Certificate First)) (cond b (Some (opening kinds.Certificate Second)) (cond c (Some (opening kinds.Routing First)) (cond d (Some (opening kinds.Routing Second)) None))) ≡ Some o → joined line ≡ joined (said_words o)
    by true b c d h i j k s = says kinds.Certificate First (codes "mcf-certificate 1") h refl s
    by false true c d h i j k s = says kinds.Certificate Second (codes "mcf-certificate 2") i refl s
    by false false true d h i j k s = says kinds.Routing First (codes "mcf-routing 1") j refl s
    by false false false true h i j k s = says kinds.Routing Second (codes "mcf-routing 2") k refl s
    by false false false false h i j k s = absurd cc

pub header_take : (lines : List Line) (x : Opening × Place) → header lines ≡ Ok x → bytes_of lines ≡ spelled (said_words x.0) ++ bytes_of x.1.rest
unfolding header_by
header_take [] x e = absurd cc
header_take (line ∷ lines) x e = by (form_of line) refl e
  where
    by : (o : Option Opening) → form_of line ≡ o → header_of o lines ≡ Ok x → bytes_of (line ∷ lines) ≡ spelled (said_words x.0) ++ bytes_of x.1.rest
    by None h k = absurd cc
    by (Some o) h k =
        let p = passed (has_more lines) (done (o, record { at = 2; rest = lines })) (record { line = 1; kind = Syntax }) x k in
        first_line line lines p.0 ∙ ap (λ (l : List ℕ). (l ++ 10 ∷ []) ++ bytes_of lines) (form_is line o h)
        ∙ ap (λ (q : Opening × Place). spelled (said_words q.0) ++ bytes_of q.1.rest) (ok_is {E = CertRefusal} (o, record { at = 2; rest = lines }) x p.1)

-- what was read says its form
pub header_said : (lines : List Line) (x : Opening × Place) → header lines ≡ Ok x → form_said lines ≡ Some x.0.form
unfolding header_by
header_said [] x e = absurd cc
header_said (line ∷ lines) x e = by (form_of line) refl e
  where
    by : (o : Option Opening) → form_of line ≡ o → header_of o lines ≡ Ok x → option_map (λ (q : Opening). q.form) (form_of line) ≡ Some x.0.form
    by None h k = absurd cc
    by (Some o) h k =
        let p = passed (has_more lines) (done (o, record { at = 2; rest = lines })) (record { line = 1; kind = Syntax }) x k in
        ap (option_map (λ (q : Opening). q.form)) h ∙ ap (λ (q : Opening × Place). Some q.0.form) (ok_is {E = CertRefusal} (o, record { at = 2; rest = lines }) x p.1)

-- ---- what is spelled is read

header_spelled : (kind : Kind) (form : Form) (line : Line) (lines : List Line) → header (said_words (opening kind form) ∷ line ∷ lines) ≡ Ok (opening kind form, place 2 (line ∷ lines))
unfolding header_by
header_spelled kinds.Certificate First line lines = refl
header_spelled kinds.Certificate Second line lines = refl
header_spelled kinds.Routing First line lines = refl
header_spelled kinds.Routing Second line lines = refl

pub header_again : (kind : Kind) (form : Form) (word : List ℕ) (line : Line) (lines : List Line) → word ≡ form_word form → header (header_words kind word ∷ line ∷ lines) ≡ Ok (opening kind form, place 2 (line ∷ lines))
header_again kind form word line lines e = ap (λ (w : List ℕ). header (header_words kind w ∷ line ∷ lines)) e ∙ header_spelled kind form line lines

-- ---- no text is of both forms

-- the byte behind the first space
behind_space : List ℕ → ℕ
behind_space [] = 0
behind_space (b ∷ bytes) = cond {A = ℕ} (eqb b 32) (get_or bytes 0 0) (behind_space bytes)

-- the byte of its word
abbrev mark : Form → ℕ
mark First = 49
mark Second = 50

same_mark : (f g : Form) → mark f ≡ mark g → f ≡ g
same_mark First First e = refl
same_mark First Second e = absurd (omega arith)
same_mark Second First e = absurd (omega arith)
same_mark Second Second e = refl

mark_by : (kind : Kind) (form : Form) (more back : List ℕ) → behind_space ((spelled (said_words (opening kind form)) ++ more) ++ back) ≡ mark form
unfolding behind_space
mark_by kinds.Certificate First more back = refl
mark_by kinds.Certificate Second more back = refl
mark_by kinds.Routing First more back = refl
mark_by kinds.Routing Second more back = refl

mark_is : (kind : Kind) (form : Form) (word : List ℕ) (lines : List Line) (back : List ℕ) → word ≡ form_word form → behind_space (text_of (header_words kind word ∷ lines) ++ back) ≡ mark form
mark_is kind form word lines back e =
    ap (λ (w : List ℕ). behind_space (text_of (header_words kind w ∷ lines) ++ back)) e
    ∙ ap (λ (t : List ℕ). behind_space (t ++ back)) (flat_map-cons spelled (said_words (opening kind form)) lines)
    ∙ mark_by kind form (text_of lines) back

text_mark : (sheet : Sheet) (form : Form) (paper : Paper) (back : List ℕ) → sheet.form ≡ form_word form → behind_space (paper_text sheet paper ++ back) ≡ mark form
text_mark sheet form (papers.Full p) back e = mark_is kinds.Certificate form sheet.form (verdict_words p.closed ∷ links_words sheet ∷ modules_words sheet ∷ from_counts sheet p) back e
text_mark sheet form (papers.Routing r) back e = mark_is kinds.Routing form sheet.form (links_words sheet ∷ modules_words sheet ∷ phases_words r.phases ∷ scale_words (r.scale_cap, r.scale_load) ∷ (path_lines sheet r ++ end_line ∷ [])) back e

-- a text, and one with anything behind it, are of one form
pub forms_meet : (sheets : Sheets) (f g : Form) (one other : Paper) (back : List ℕ) → AreInForms sheets → paper_text (sheet_for sheets f) one ≡ paper_text (sheet_for sheets g) other ++ back → f ≡ g
forms_meet sheets f g one other back h same =
    let text = paper_text (sheet_for sheets f) one in
    let a = text_mark (sheet_for sheets f) f one [] (forms_are sheets f h) in
    let b = text_mark (sheet_for sheets g) g other back (forms_are sheets g h) in
    same_mark f g (sym a ∙ ap behind_space (append-nil text ∙ same) ∙ b)

pub one_form : (sheets : Sheets) (one other : Paper) → AreInForms sheets → paper_text sheets.old one ≡ paper_text sheets.new other → ⊥
one_form sheets one other h same =
    let e = forms_meet sheets First Second one other [] h (same ∙ sym (append-nil (paper_text sheets.new other))) in
    absurd cc
