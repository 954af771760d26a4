-- Where a text is refused that is judged on the rows of a network.
use Rattle.std.proofs.Common.{◌≡◌, ℕ, ◌≤◌, List, Bool, Option, Some, Result, Ok, Err, refl, sym, ap, subst, ◌∙◌, inl, inr}
use Rattle.text_lines.specs.Lines.{Line, lines_of}
use Rattle.unit_scale.specs.declared.options.NetOptions.{NetOptions}
use Rattle.unit_scale.specs.declared.modes.LinkMode.{LinkMode}
use Rattle.unit_scale.specs.declared.modes.ModuleMode.{ModuleMode}
use Rattle.sndlib_grammar.specs.Rows.{NetRows, AreNetRows}
use Rattle.sndlib_grammar.specs.declared.refusal.NetRefusal.{NetRefusal}
use Rattle.unit_scale.specs.Scaling.{ScaledNet, scaled_of}
use Rattle.cert_lines.specs.Sheet.{IsOf, sheets_of, sheet_for}
use Rattle.cert_lines.specs.declared.form.Form.{Form}
use Rattle.cert_lines.specs.declared.form.Form.TheVariants.{First, Second}
use Rattle.cert_lines.specs.declared.net_line.TheConstants.{MAX_COUNT}
use Rattle.cert_lines.specs.declared.refusal.CertRefusal.{CertRefusal}
use Rattle.cert_lines.specs.Forms.{◌>>=◌}
use Rattle.cert_text.specs.declared.opening.CertHead.{CertHead}
use Rattle.cert_text.specs.declared.papers.Paper.{Paper}
use Rattle.cert_text.specs.declared.papers.Paper.TheVariants as papers
use Rattle.cert_text.specs.Reading.{Place, next_line}
use Rattle.cert_text.specs.Papers.{header}
use Rattle.cert_text.specs.Whole.{link_mode_line, module_mode_line, verdict_at, modes_behind, said_head, opened_by, head_by, head_in, paper_in}
use Rattle.cert_judge.specs.Fits.{HasLinkWord}
use Rattle.cert_judge.specs.declared.judged.Judged.TheVariants.{CertRefused}
use Rattle.cert_judge.specs.declared.refusal.Refusal.{Refusal}
use Rattle.cert_judge.specs.Papers.{options_of, nothing_more, rest_on}
use Rattle.cert_judge.specs.Chain.{of_net, of_text, unless, read_on, IsSaid}
use Rattle.cert_judge.specs.Judgement.{IsSaidOf, OnPaper, IsJudgement, refused as said_refusal}
use Rattle.cert_text.proofs.Steps.{bind_ok, ok_is, next_fits}
use Rattle.cert_inverse.specs.Inverse.{form_said}
use Rattle.cert_inverse.proofs.Headers.{header_said}
use Rattle.cert_inverse.proofs.NetworkWords.{citable_both, is_scaled}
use Rattle.cli_laws.specs.Lines.{StopsAt}
use Rattle.cli_laws.specs.Papers.{IsPaper, IsWorded}
use Rattle.cli_laws.specs.Heads.{IsHeaded}
use Rattle.cli_laws.specs.Judged.{StopsFor}
use Rattle.cli_laws.proofs.Steps.{done}
use Rattle.cli_laws.proofs.Stops.{stops}
use Rattle.cli_laws.proofs.Heads.{HasWord, options, Opened, opened_from, links_take, head_stops}

abbrev Says : List Line → CertHead → Type 0
Says lines head = (form_said lines ≡ Some head.form) × HasWord head.form head.links

-- a head that is read says its form, which has a word for how links are read
head_says : (lines : List Line) (head : CertHead) → head_in lines ≡ Ok head → Says lines head
unfolding head_by opened_by modes_behind
head_says lines head e =
    let z = bind_ok (header lines >>= λ first. opened_from first.0 first.1) (λ x. done {A = CertHead} {E = CertRefusal} x.0.0) head e in
    let a = bind_ok (header lines) (λ first. opened_from first.0 first.1) z.0 z.1 in
    let o = a.0.0 in
    let whole = λ (v : Option Bool) (m : NetOptions × Place). done {A = Opened × Place} {E = CertRefusal} ((said_head o m.0, v), m.1) in
    let b = bind_ok (verdict_at o.kind a.0.1) (λ v. modes_behind o.form v.1 >>= λ m. whole v.0 m) z.0 a.2 in
    let c = bind_ok (modes_behind o.form b.0.1) (whole b.0.0) z.0 b.2 in
    let last = λ (l : LinkMode) (m : ModuleMode × Place). done {A = NetOptions × Place} {E = CertRefusal} (options l m.0, m.1) in
    let d = bind_ok (next_line (link_mode_line o.form) b.0.1) (λ links. next_line module_mode_line links.1 >>= λ m. last links.0 m) c.0 c.1 in
    let f = bind_ok (next_line module_mode_line d.0.1) (last d.0.0) c.0 d.2 in
    let word = next_fits (HasWord o.form) (link_mode_line o.form) (λ line m h. (links_take o.form line m h).1) b.0.1 d.0 d.1 in
    let modes : (options d.0.0 f.0.0, f.0.1) ≡ c.0 = ok_is {E = CertRefusal} (options d.0.0 f.0.0, f.0.1) c.0 f.2 in
    let opened : ((said_head o c.0.0, b.0.0), c.0.1) ≡ z.0 = ok_is {E = CertRefusal} ((said_head o c.0.0, b.0.0), c.0.1) z.0 c.2 in
    let is : said_head o c.0.0 ≡ head = ap (λ (x : Opened × Place). x.0.0) opened ∙ ok_is {E = CertRefusal} z.0.0.0 head z.2 in
    subst (Says lines) is (header_said lines a.0 a.1, subst (λ (m : NetOptions × Place). HasWord o.form m.0.links) modes word)

has_word : (rows : NetRows) (net : ScaledNet) (form : Form) → HasWord form net.options.links → HasLinkWord (sheet_for (sheets_of rows net) form)
has_word rows net First h = h
has_word rows net Second h = h

form_is : (f g : Form) → Some f ≡ Some g → f ≡ g
form_is f g e = cc

worded : (rows : NetRows) (net : ScaledNet) (text : List ℕ) (number : ℕ) (head : CertHead) → Says (lines_of text) head → head.links ≡ net.options.links → IsWorded (sheets_of rows net) text number
worded rows net text number head says links = λ form said far.
    let same : head.form ≡ form = form_is head.form form (sym says.0 ∙ said) in
    has_word rows net form (subst (λ (f : Form). HasWord f net.options.links) same (subst (HasWord head.form) links says.1))

pub refusal_is : (r e : CertRefusal) → CertRefused r ≡ CertRefused e → r ≡ e
refusal_is r e h = cc

pub never_said : (o : NetOptions) (net : ScaledNet) (paper : Paper) (r : CertRefusal) → IsSaidOf o net.net paper (CertRefused r) → ⊥
never_said o net (papers.Routing x) r h = h
never_said o net (papers.Full x) r h = h

on_paper : (rows : NetRows) (text : List ℕ) (r : CertRefusal) (head : CertHead) (net : ScaledNet) → AreNetRows rows → rows.skipped ≤ MAX_COUNT → head_in (lines_of text) ≡ Ok head → scaled_of rows (options_of head) ≡ Ok net
    → (read : Result Paper CertRefusal) → paper_in (sheets_of rows net) (lines_of text) ≡ read → IsSaid said_refusal OnPaper (of_text read >>= λ paper. Ok (net, paper)) (CertRefused r) → StopsFor rows text r.line
on_paper rows text r head net well few e scaled (Ok paper) is k = absurd (never_said net.options net paper r k)
on_paper rows text r head net well few e scaled (Err d) is k =
    let own : IsOf rows net = record { well = well; options = options_of head; scaled = scaled } in
    let links : head.links ≡ net.options.links = ap (λ (n : ScaledNet). n.options.links) (is_scaled rows net own) in
    let there = stops (sheets_of rows net) text d (citable_both rows net own few) (worded rows net text d.line head (head_says (lines_of text) head e) links) is in
    inr (record { head = head; says = e; net = net; scaled = scaled; stops = subst (λ (x : CertRefusal). StopsAt (IsPaper (sheets_of rows net)) text x.line) (sym (refusal_is r d k)) there })

abbrev pub behind_net : NetRows → List ℕ → Result ScaledNet NetRefusal → Result (ScaledNet × Paper) Refusal
behind_net rows text scaled = of_net scaled >>= λ net. of_net (unless (nothing_more net)) >>= λ fits. of_text (rest_on rows text net) >>= λ paper. Ok (net, paper)

on_net : (rows : NetRows) (text : List ℕ) (r : CertRefusal) (head : CertHead) → AreNetRows rows → rows.skipped ≤ MAX_COUNT → head_in (lines_of text) ≡ Ok head
    → (scaled : Result ScaledNet NetRefusal) → scaled_of rows (options_of head) ≡ scaled → IsSaid said_refusal OnPaper (behind_net rows text scaled) (CertRefused r) → StopsFor rows text r.line
on_net rows text r head well few e (Err d) is k = absurd cc
on_net rows text r head well few e (Ok net) is k = on_paper rows text r head net well few e is (paper_in (sheets_of rows net) (lines_of text)) refl k

on_head : (rows : NetRows) (text : List ℕ) (r : CertRefusal) → AreNetRows rows → rows.skipped ≤ MAX_COUNT → (head : Result CertHead CertRefusal) → head_in (lines_of text) ≡ head
    → IsSaid said_refusal OnPaper (of_text head >>= λ h. behind_net rows text (scaled_of rows (options_of h))) (CertRefused r) → StopsFor rows text r.line
on_head rows text r well few (Err d) e k = inl (subst (λ (x : CertRefusal). StopsAt IsHeaded text x.line) (sym (refusal_is r d k)) (head_stops text d e))
on_head rows text r well few (Ok head) e k = on_net rows text r head well few e (scaled_of rows (options_of head)) refl k

pub judged_stops : (rows : NetRows) (text : List ℕ) (r : CertRefusal) → AreNetRows rows → rows.skipped ≤ MAX_COUNT → IsJudgement rows text (CertRefused r) → StopsFor rows text r.line
unfolding read_on
judged_stops rows text r well few h = on_head rows text r well few (head_in (lines_of text)) refl h
