-- What is read behind the first lines of a text that was opened is what the whole text is read as.
use Rattle.std.proofs.Common.{◌≡◌, ℕ, ◌+◌, Bool, true, false, List, [], ◌∷◌, Option, Some, None, Result, Ok, Err, refl, ap, sym, subst, ◌∙◌}
use Rattle.std.specs.Prelude.{codes, if◌then◌else◌}
use Rattle.std.specs.Str.{bytes_eq}
use Rattle.text_lines.specs.Lines.{Line}
use Rattle.unit_scale.specs.Modes.{link_word, old_link_word, module_word}
use Rattle.unit_scale.specs.declared.modes.LinkMode.{LinkMode}
use Rattle.unit_scale.specs.declared.modes.LinkMode.TheVariants.{Directed, Undirected, Bidirected}
use Rattle.unit_scale.specs.declared.modes.ModuleMode.{ModuleMode}
use Rattle.unit_scale.specs.declared.modes.ModuleMode.TheVariants.{Ignore, Largest, Sum}
use Rattle.unit_scale.specs.declared.options.NetOptions.{NetOptions}
use Rattle.unit_scale.specs.Scaling.{ScaledNet}
use Rattle.sndlib_grammar.specs.Rows.{NetRows}
use Rattle.cert_lines.specs.Sheet.{Sheet, sheet_for, sheets_of}
use Rattle.cert_lines.specs.declared.form.Form.{Form}
use Rattle.cert_lines.specs.declared.form.Form.TheVariants.{First, Second}
use Rattle.cert_lines.specs.declared.refusal.CertKind.{CertKind}
use Rattle.cert_lines.specs.declared.refusal.CertKind.TheVariants.{Syntax}
use Rattle.cert_lines.specs.declared.refusal.CertRefusal.{CertRefusal}
use Rattle.cert_lines.specs.Forms.{◌>>=◌, or_fault, one_behind}
use Rattle.cert_lines.specs.HeadLines.{verdict_line}
use Rattle.cert_text.specs.declared.opening.CertHead.{CertHead}
use Rattle.cert_text.specs.declared.opening.Kind.{Kind}
use Rattle.cert_text.specs.declared.opening.Kind.TheVariants.{Certificate, Routing}
use Rattle.cert_text.specs.declared.opening.Known.{Known}
use Rattle.cert_text.specs.declared.opening.Known.TheVariants.{Both, Certificates}
use Rattle.cert_text.specs.declared.opening.Opening.{Opening}
use Rattle.cert_text.specs.Reading.{Gives, Place, at_line, has_more, line_from, next_line, mode_line}
use Rattle.cert_text.specs.Papers.{form_of, header_of, of_certificate, is_certificate, header, header_by, modes_at, opening_at, counted_at, proof_at, proof_from, routing_at, routing_from}
use Rattle.cert_text.specs.declared.papers.Paper.{Paper}
use Rattle.cert_text.specs.declared.papers.Paper.TheVariants as papers
use Rattle.cert_lines.specs.declared.refusal.CertEnd.{CertEnd}
use Rattle.cert_text.specs.Whole.{SaysModes, head_by, link_mode_line, module_mode_line, verdict_at, modes_behind, said_head, opened_by, paper_at, paper_in, rest_at}
use Rattle.cert_text.proofs.OldForm.{never_bidirected}

-- the value of a step that did not fail
pub bind_ok : {A B E : Type 0} (r : Result A E) (f : A → Result B E) (y : B) → (r >>= f) ≡ Ok y → (x : A) × (r ≡ Ok x) × (f x ≡ Ok y)
bind_ok (Ok x) f y e = (x, refl, e)
bind_ok (Err d) f y e = absurd cc

abbrev pub done : {A E : Type 0} → A → Result A E
done x = Ok x

pub ok_is : {A E : Type 0} (x y : A) → done {A = A} {E = E} x ≡ done y → x ≡ y
ok_is x y e = cc

-- ---- one line for another

module _ {X Y : Type 0} (read : Line → Result X CertKind) (other : Line → Result Y CertKind) (x : X) (y : Y) (also : (line : Line) → read line ≡ Ok x → other line ≡ Ok y) where
  line_also : (at : ℕ) (lines : List Line) (after : Place) → line_from read at lines ≡ Ok (x, after) → line_from other at lines ≡ Ok (y, after)
  line_also at [] after e = absurd cc
  line_also at (line ∷ lines) after e = by (has_more lines) (read line) (other line) (also line) e
    where
      by : (b : Bool) (r : Result X CertKind) (s : Result Y CertKind) → (r ≡ Ok x → s ≡ Ok y)
          → (if b then (at_line at r >>= λ z. done {A = X × Place} {E = CertRefusal} (z, record { at = at + 1; rest = lines })) else Err (record { line = at; kind = Syntax })) ≡ Ok (x, after)
          → (if b then (at_line at s >>= λ z. done {A = Y × Place} {E = CertRefusal} (z, record { at = at + 1; rest = lines })) else Err (record { line = at; kind = Syntax })) ≡ Ok (y, after)
      by true (Ok z) s to h =
          let p = ok_is {E = CertRefusal} (z, record { at = at + 1; rest = lines }) (x, after) h in
          let is : z ≡ x = ap (λ (q : X × Place). q.0) p in
          let place : record { at = at + 1; rest = lines } ≡ after = ap (λ (q : X × Place). q.1) p in
          rw (to (ap (λ (w : X). Ok w) is)) (ap (λ (q : Place). Ok (y, q)) place)
      by true (Err k) s to h = absurd cc
      by false r s to h = absurd cc

  next_also : (place after : Place) → next_line read place ≡ Ok (x, after) → next_line other place ≡ Ok (y, after)
  unfolding next_line
  next_also place after e = line_also place.at place.rest after e

-- ---- the lines of the modes

taken : (b : Bool) → b ≡ true → (if b then done {A = Unit {0}} {E = CertKind} tt else Err Syntax) ≡ Ok tt
taken true e = refl
taken false e = absurd cc

abbrev link_picked : LinkMode → Bool → Bool → Bool → Bool
link_picked Directed b c d = b
link_picked Undirected b c d = c
link_picked Bidirected b c d = d

link_is : (b c d : Bool) (mode : LinkMode) → or_fault Syntax (if b then Some Directed else (if c then Some Undirected else (if d then Some Bidirected else None))) ≡ Ok mode → link_picked mode b c d ≡ true
link_is true c d mode e = subst (λ (m : LinkMode). link_picked m true c d ≡ true) (ok_is {E = CertKind} Directed mode e) refl
link_is false true d mode e = subst (λ (m : LinkMode). link_picked m false true d ≡ true) (ok_is {E = CertKind} Undirected mode e) refl
link_is false false true mode e = subst (λ (m : LinkMode). link_picked m false false true ≡ true) (ok_is {E = CertKind} Bidirected mode e) refl
link_is false false false mode e = absurd cc

old_link_is : (b c : Bool) (mode : LinkMode) → or_fault Syntax (if b then Some Directed else (if c then Some Undirected else None)) ≡ Ok mode → link_picked mode b c true ≡ true
old_link_is true c mode e = subst (λ (m : LinkMode). link_picked m true c true ≡ true) (ok_is {E = CertKind} Directed mode e) refl
old_link_is false true mode e = subst (λ (m : LinkMode). link_picked m false true true ≡ true) (ok_is {E = CertKind} Undirected mode e) refl
old_link_is false false mode e = absurd cc

abbrev module_picked : ModuleMode → Bool → Bool → Bool → Bool
module_picked Ignore b c d = b
module_picked Largest b c d = c
module_picked Sum b c d = d

module_is : (b c d : Bool) (mode : ModuleMode) → or_fault Syntax (if b then Some Ignore else (if c then Some Largest else (if d then Some Sum else None))) ≡ Ok mode → module_picked mode b c d ≡ true
module_is true c d mode e = subst (λ (m : ModuleMode). module_picked m true c d ≡ true) (ok_is {E = CertKind} Ignore mode e) refl
module_is false true d mode e = subst (λ (m : ModuleMode). module_picked m false true d ≡ true) (ok_is {E = CertKind} Largest mode e) refl
module_is false false true mode e = subst (λ (m : ModuleMode). module_picked m false false true ≡ true) (ok_is {E = CertKind} Sum mode e) refl
module_is false false false mode e = absurd cc

abbrev link_mode_word : Form → LinkMode → List ℕ
link_mode_word First mode = old_link_word mode
link_mode_word Second mode = link_word mode

abbrev is_word : List ℕ → List ℕ → Result (Unit {0}) CertKind
is_word mode word = if bytes_eq word mode then Ok tt else Err Syntax

links_also : (form : Form) (mode : LinkMode) (line : Line) → link_mode_line form line ≡ Ok mode → mode_line (codes "links") (link_mode_word form mode) line ≡ Ok tt
unfolding link_mode_line mode_line
links_also First Bidirected line e = absurd (never_bidirected line e)
links_also First Directed line e = by (one_behind (codes "links") line) e
  where
    by : (o : Option (List ℕ)) → (or_fault Syntax o >>= λ (word : List ℕ). or_fault Syntax (if bytes_eq word (codes "directed") then Some Directed else (if bytes_eq word (codes "undirected") then Some Undirected else None))) ≡ Ok Directed
        → (or_fault Syntax o >>= is_word (codes "directed")) ≡ Ok tt
    by None h = absurd cc
    by (Some word) h = taken (bytes_eq word (codes "directed")) (old_link_is (bytes_eq word (codes "directed")) (bytes_eq word (codes "undirected")) Directed h)
links_also First Undirected line e = by (one_behind (codes "links") line) e
  where
    by : (o : Option (List ℕ)) → (or_fault Syntax o >>= λ (word : List ℕ). or_fault Syntax (if bytes_eq word (codes "directed") then Some Directed else (if bytes_eq word (codes "undirected") then Some Undirected else None))) ≡ Ok Undirected
        → (or_fault Syntax o >>= is_word (codes "undirected")) ≡ Ok tt
    by None h = absurd cc
    by (Some word) h = taken (bytes_eq word (codes "undirected")) (old_link_is (bytes_eq word (codes "directed")) (bytes_eq word (codes "undirected")) Undirected h)
links_also Second mode line e = by mode (one_behind (codes "links") line) e
  where
    by : (m : LinkMode) (o : Option (List ℕ)) → (or_fault Syntax o >>= λ (word : List ℕ). or_fault Syntax (if bytes_eq word (codes "directed") then Some Directed else (if bytes_eq word (codes "undirected") then Some Undirected else (if bytes_eq word (codes "bidirected") then Some Bidirected else None)))) ≡ Ok m
        → (or_fault Syntax o >>= is_word (link_word m)) ≡ Ok tt
    by m None h = absurd cc
    by Directed (Some word) h = taken (bytes_eq word (codes "directed")) (link_is (bytes_eq word (codes "directed")) (bytes_eq word (codes "undirected")) (bytes_eq word (codes "bidirected")) Directed h)
    by Undirected (Some word) h = taken (bytes_eq word (codes "undirected")) (link_is (bytes_eq word (codes "directed")) (bytes_eq word (codes "undirected")) (bytes_eq word (codes "bidirected")) Undirected h)
    by Bidirected (Some word) h = taken (bytes_eq word (codes "bidirected")) (link_is (bytes_eq word (codes "directed")) (bytes_eq word (codes "undirected")) (bytes_eq word (codes "bidirected")) Bidirected h)

modules_also : (mode : ModuleMode) (line : Line) → module_mode_line line ≡ Ok mode → mode_line (codes "modules") (module_word mode) line ≡ Ok tt
unfolding module_mode_line mode_line
modules_also mode line e = by mode (one_behind (codes "modules") line) e
  where
    by : (m : ModuleMode) (o : Option (List ℕ)) → (or_fault Syntax o >>= λ (word : List ℕ). or_fault Syntax (if bytes_eq word (codes "none") then Some Ignore else (if bytes_eq word (codes "largest") then Some Largest else (if bytes_eq word (codes "sum") then Some Sum else None)))) ≡ Ok m
        → (or_fault Syntax o >>= is_word (module_word m)) ≡ Ok tt
    by m None h = absurd cc
    by Ignore (Some word) h = taken (bytes_eq word (codes "none")) (module_is (bytes_eq word (codes "none")) (bytes_eq word (codes "largest")) (bytes_eq word (codes "sum")) Ignore h)
    by Largest (Some word) h = taken (bytes_eq word (codes "largest")) (module_is (bytes_eq word (codes "none")) (bytes_eq word (codes "largest")) (bytes_eq word (codes "sum")) Largest h)
    by Sum (Some word) h = taken (bytes_eq word (codes "sum")) (module_is (bytes_eq word (codes "none")) (bytes_eq word (codes "largest")) (bytes_eq word (codes "sum")) Sum h)

-- the sheet has the words of these modes in that form
record HasWords (sheet : Sheet) (form : Form) (modes : NetOptions) : Type 0 where
  links : sheet.link_mode ≡ link_mode_word form modes.links
  modules : sheet.module_mode ≡ module_word modes.modules

modes_also : (sheet : Sheet) (form : Form) (place : Place) (x : NetOptions × Place) → HasWords sheet form x.0 → modes_behind form place ≡ Ok x → modes_at sheet place ≡ Ok x.1
unfolding modes_at modes_behind
modes_also sheet form place x words e =
    let made = λ (l : LinkMode) (m : ModuleMode × Place). done {A = NetOptions × Place} {E = CertRefusal} (record { links = l; modules = m.0 }, m.1) in
    let a = bind_ok (next_line (link_mode_line form) place) (λ links. next_line module_mode_line links.1 >>= λ modules. made links.0 modules) x e in
    let b = bind_ok (next_line module_mode_line a.0.1) (λ modules. made a.0.0 modules) x a.2 in
    let is = ok_is {E = CertRefusal} (record { links = a.0.0; modules = b.0.0 }, b.0.1) x b.2 in
    let l : a.0.0 ≡ x.0.links = ap (λ (q : NetOptions × Place). q.0.links) is in
    let m : b.0.0 ≡ x.0.modules = ap (λ (q : NetOptions × Place). q.0.modules) is in
    let first : next_line (mode_line (codes "links") sheet.link_mode) place ≡ Ok (tt, a.0.1) =
    subst (λ (w : List ℕ). next_line (mode_line (codes "links") w) place ≡ Ok (tt, a.0.1)) (ap (link_mode_word form) l ∙ sym words.links)
    (next_also (link_mode_line form) (mode_line (codes "links") (link_mode_word form a.0.0)) a.0.0 tt (λ line h. links_also form a.0.0 line h) place a.0.1 a.1) in
    let second : next_line (mode_line (codes "modules") sheet.module_mode) a.0.1 ≡ Ok (tt, b.0.1) =
    subst (λ (w : List ℕ). next_line (mode_line (codes "modules") w) a.0.1 ≡ Ok (tt, b.0.1)) (ap module_word m ∙ sym words.modules)
    (next_also module_mode_line (mode_line (codes "modules") (module_word b.0.0)) b.0.0 tt (λ line h. modules_also b.0.0 line h) a.0.1 b.0.1 b.1) in
    rw (first, second) (ap (λ (q : NetOptions × Place). done {E = CertRefusal} q.1) is)

-- ---- what follows the header

behind_verdict : (sheet : Sheet) (start place after : Place) (closed : Bool) → next_line verdict_line start ≡ Ok (closed, place) → modes_at sheet place ≡ Ok after → paper_at sheet Certificate start ≡ rest_at sheet (Some closed) after
unfolding paper_at proof_at opening_at rest_at
behind_verdict sheet start place after closed v m = rw (v, m) (bound (counted_at sheet closed after))
  where
    bound : (r : Result ((Bool × ℕ) × Place) CertRefusal) → ((r >>= λ opening. proof_from sheet opening) >>= λ p. done {A = Paper} {E = CertRefusal} (papers.Full p)) ≡ (r >>= λ counted. proof_from sheet counted >>= λ p. done {A = Paper} {E = CertRefusal} (papers.Full p))
    bound (Ok x) = refl
    bound (Err d) = refl

behind_also : (sheet : Sheet) (kind : Kind) (start : Place) (verdict : Option Bool × Place) (after : Place) → verdict_at kind start ≡ Ok verdict → modes_at sheet verdict.1 ≡ Ok after → paper_at sheet kind start ≡ rest_at sheet verdict.0 after
unfolding verdict_at paper_at proof_at opening_at routing_at rest_at
behind_also sheet Routing start verdict after v m =
    let is = ok_is {E = CertRefusal} (None, start) verdict v in
    subst (λ (q : Option Bool × Place). modes_at sheet q.1 ≡ Ok after → paper_at sheet Routing start ≡ rest_at sheet q.0 after) is (λ h. rw h refl) m
behind_also sheet Certificate start verdict after v m =
    let a = bind_ok (next_line verdict_line start) (λ x. done {A = Option Bool × Place} {E = CertRefusal} (Some x.0, x.1)) verdict v in
    let is = ok_is {E = CertRefusal} (Some a.0.0, a.0.1) verdict a.2 in
    subst (λ (q : Option Bool × Place). modes_at sheet q.1 ≡ Ok after → paper_at sheet Certificate start ≡ rest_at sheet q.0 after) is (behind_verdict sheet start a.0.1 after a.0.0 a.1) m

-- ---- the first line

of_known : (form : Option Opening) (lines : List Line) (first : Opening × Place) → header_of (of_certificate form) lines ≡ Ok first → header_of form lines ≡ Ok first × (first.0.kind ≡ Certificate)
of_known None lines first e = absurd cc
of_known (Some opening) lines first e = by opening.kind refl e
  where
    by : (kind : Kind) → opening.kind ≡ kind → header_of (if is_certificate kind then Some opening else None) lines ≡ Ok first → header_of (Some opening) lines ≡ Ok first × (first.0.kind ≡ Certificate)
    by Certificate is h = (h, from (has_more lines) h)
      where
        from : (b : Bool) → (if b then done {A = Opening × Place} {E = CertRefusal} (opening, record { at = 2; rest = lines }) else Err (record { line = 1; kind = Syntax })) ≡ Ok first → first.0.kind ≡ Certificate
        from true g = subst (λ (q : Opening × Place). q.0.kind ≡ Certificate) (ok_is {E = CertRefusal} (opening, record { at = 2; rest = lines }) first g) is
        from false g = absurd cc
    by Routing is h = absurd cc

-- a header that is known is one; where those of certificates alone are, it is one of theirs
pub known_header : (known : Known) (lines : List Line) (first : Opening × Place) → header_by known lines ≡ Ok first → header lines ≡ Ok first
unfolding header_by
known_header Both lines first e = e
known_header Certificates [] first e = absurd cc
known_header Certificates (line ∷ lines) first e = (of_known (form_of line) lines first e).0

pub known_kind : (lines : List Line) (first : Opening × Place) → header_by Certificates lines ≡ Ok first → first.0.kind ≡ Certificate
unfolding header_by
known_kind [] first e = absurd cc
known_kind (line ∷ lines) first e = (of_known (form_of line) lines first e).1

-- ---- the whole

sheet_words : (rows : NetRows) (net : ScaledNet) (form : Form) (modes : NetOptions) → modes.links ≡ net.options.links → modes.modules ≡ net.options.modules → HasWords (sheet_for (sheets_of rows net) form) form modes
sheet_words rows net First modes l m = record { links = ap old_link_word (sym l); modules = ap module_word (sym m) }
sheet_words rows net Second modes l m = record { links = ap link_word (sym l); modules = ap module_word (sym m) }

pub opened_rest : (rows : NetRows) (net : ScaledNet) (known : Known) (lines : List Line) (o : (CertHead × Option Bool) × Place) → opened_by known lines ≡ Ok o → SaysModes net.options o.0.0
    → paper_in (sheets_of rows net) lines ≡ rest_at (sheet_for (sheets_of rows net) o.0.0.form) o.0.1 o.1
unfolding opened_by paper_in
opened_rest rows net known lines o e says =
    let made = λ (f : Opening) (v : Option Bool) (m : NetOptions × Place). done {A = (CertHead × Option Bool) × Place} {E = CertRefusal} ((said_head f m.0, v), m.1) in
    let a = bind_ok (header_by known lines) (λ first. verdict_at first.0.kind first.1 >>= λ verdict. modes_behind first.0.form verdict.1 >>= λ modes. made first.0 verdict.0 modes) o e in
    let b = bind_ok (verdict_at a.0.0.kind a.0.1) (λ verdict. modes_behind a.0.0.form verdict.1 >>= λ modes. made a.0.0 verdict.0 modes) o a.2 in
    let c = bind_ok (modes_behind a.0.0.form b.0.1) (λ modes. made a.0.0 b.0.0 modes) o b.2 in
    let is = ok_is {E = CertRefusal} ((said_head a.0.0 c.0.0, b.0.0), c.0.1) o c.2 in
    let head : said_head a.0.0 c.0.0 ≡ o.0.0 = ap (λ (q : (CertHead × Option Bool) × Place). q.0.0) is in
    let l : c.0.0.links ≡ net.options.links = ap (λ (h : CertHead). h.links) head ∙ says.links in
    let m : c.0.0.modules ≡ net.options.modules = ap (λ (h : CertHead). h.modules) head ∙ says.modules in
    let sheet = sheet_for (sheets_of rows net) a.0.0.form in
    let modes = modes_also sheet a.0.0.form b.0.1 c.0 (sheet_words rows net a.0.0.form c.0.0 l m) c.1 in
    let behind = behind_also sheet a.0.0.kind a.0.1 b.0 c.0.1 b.1 modes in
    let whole : paper_in (sheets_of rows net) lines ≡ rest_at (sheet_for (sheets_of rows net) a.0.0.form) b.0.0 c.0.1 = rw (known_header known lines a.0 a.1) behind in
    subst (λ (q : (CertHead × Option Bool) × Place). paper_in (sheets_of rows net) lines ≡ rest_at (sheet_for (sheets_of rows net) q.0.0.form) q.0.1 q.1) is whole

-- what was read behind the modes is what the whole text is read as
pub gives_rest : (rows : NetRows) (net : ScaledNet) (known : Known) (lines : List Line) (o : (CertHead × Option Bool) × Place) (sheet : Sheet) (result : Result Paper CertEnd) → sheet ≡ sheet_for (sheets_of rows net) o.0.0.form
    → Gives (λ x. x) result (rest_at sheet o.0.1 o.1) → opened_by known lines ≡ Ok o → SaysModes net.options o.0.0 → Gives (λ x. x) result (paper_in (sheets_of rows net) lines)
gives_rest rows net known lines o sheet result is given e says =
    subst (λ (r : Result Paper CertRefusal). Gives (λ x. x) result r) (sym (opened_rest rows net known lines o e says))
    (subst (λ (s : Sheet). Gives (λ x. x) result (rest_at s o.0.1 o.1)) is given)

-- ---- which headers are known

-- the first line of a head that was read
pub head_header : (known : Known) (lines : List Line) (head : CertHead) → head_by known lines ≡ Ok head → (first : Opening × Place) × (header_by known lines ≡ Ok first)
unfolding head_by opened_by
head_header known lines head e =
    let a = bind_ok (opened_by known lines) (λ opened. done {A = CertHead} {E = CertRefusal} opened.0.0) head e in
    let b = bind_ok (header_by known lines) (λ first. verdict_at first.0.kind first.1 >>= λ verdict. modes_behind first.0.form verdict.1 >>= λ modes. done {A = (CertHead × Option Bool) × Place} {E = CertRefusal} ((said_head first.0 modes.0, verdict.0), modes.1)) a.0 a.1 in
    (b.0, b.1)

-- one first line, one head
pub same_head : (lines : List Line) (first : Opening × Place) → header_by Certificates lines ≡ Ok first → header lines ≡ Ok first → head_by Certificates lines ≡ head_by Both lines
unfolding head_by opened_by
same_head lines first a b = rw (a, b) refl

known_again : (form : Option Opening) (lines : List Line) (first : Opening × Place) → header_of form lines ≡ Ok first → first.0.kind ≡ Certificate → header_of (of_certificate form) lines ≡ Ok first
known_again None lines first e kind = absurd cc
known_again (Some opening) lines first e kind = by (has_more lines) e
  where
    place : Opening × Place
    place = (opening, record { at = 2; rest = lines })

    with_kind : (kind : Kind) → kind ≡ Certificate → header_of (if is_certificate kind then Some opening else None) lines ≡ Ok first
    with_kind Certificate own = e
    with_kind Routing own = absurd cc

    by : (b : Bool) → (if b then done {A = Opening × Place} {E = CertRefusal} place else Err (record { line = 1; kind = Syntax })) ≡ Ok first → header_of (of_certificate (Some opening)) lines ≡ Ok first
    by true h =
        let is = ok_is {E = CertRefusal} place first h in
        let own : opening.kind ≡ Certificate = ap (λ (q : Opening × Place). q.0.kind) is ∙ kind in
        with_kind opening.kind own
    by false h = absurd cc

-- the header of a certificate is known in either case
pub certificate_known : (lines : List Line) (first : Opening × Place) → header lines ≡ Ok first → first.0.kind ≡ Certificate → header_by Certificates lines ≡ Ok first
unfolding header_by
certificate_known [] first e kind = absurd cc
certificate_known (line ∷ lines) first e kind = known_again (form_of line) lines first e kind
