-- What is said of texts, from what they are read as.
use Rattle.std.proofs.Common.{◌≡◌, ◌≢◌, ℕ, ◌≤◌, Bool, List, Ok, refl, ap, subst}
use Rattle.text_lines.specs.Lines.{lines_of}
use Rattle.gap_fraction.specs.Fraction.{Fraction}
use Rattle.unit_scale.specs.declared.modes.LinkMode.TheVariants.{Bidirected}
use Rattle.unit_scale.specs.declared.options.NetOptions.{NetOptions}
use Rattle.flow_model.specs.Network.{Network}
use Rattle.flow_paths.specs.declared.certificate.Routing.{Routing}
use Rattle.flow_paths.specs.declared.certificate.Proof.{Proof}
use Rattle.flow_model.specs.Routing.{IsFeasible}
use Rattle.flow_paths.specs.Certificate.{routing_of, IsValid, IsValidRouting}
use Rattle.sndlib_grammar.specs.Rows.{NetRows}
use Rattle.unit_scale.specs.Sizes.{decimals_of, sizes}
use Rattle.unit_scale.specs.Scaling.{ScaledNet, scaled_of, scaled_with, refusal}
use Rattle.cert_lines.specs.Sheet.{IsOf, old_sheet_of, sheet_of, sheets_of, sheet_for}
use Rattle.cert_lines.specs.declared.form.Form.{Form}
use Rattle.cert_lines.specs.declared.form.Form.TheVariants.{First, Second}
use Rattle.cert_lines.specs.declared.net_line.TheConstants.{MAX_COUNT}
use Rattle.cert_text.specs.declared.papers.Paper.{Paper}
use Rattle.cert_text.specs.declared.papers.Paper.TheVariants as papers
use Rattle.cert_text.specs.declared.opening.Known.TheVariants.{Both}
use Rattle.cert_writer.specs.Text.{FitsProof, FitsRouting, certificate_text, routing_text}
use Rattle.cert_judge.specs.Fits.{FitsPaper}
use Rattle.cert_judge.proofs.NewFits.{new_fits}
use Rattle.cert_check.specs.declared.verdict.Fault.{Fault}
use Rattle.cert_check.specs.declared.verdict.Fault.TheVariants.{C1, C2, C3, C4, C5, C6, C7, C8, C9, C10}
use Rattle.cert_check.specs.Verdict.{IsFirstRouteFault, IsFirstFault}
use Rattle.cert_judge.specs.declared.judged.Judged.{Judged}
use Rattle.cert_judge.specs.declared.judged.Judged.TheVariants.{NetRefused, CertRefused, Invalid, Feasible, Valid}
use Rattle.cert_judge.specs.declared.refusal.Refusal.{Refusal}
use Rattle.cert_judge.specs.declared.refusal.Refusal.TheVariants.{Net, Cert}
use Rattle.cert_judge.specs.Papers.{options_of, IsReadOf}
use Rattle.cert_judge.specs.Judgement.{IsSaidOf, IsJudgement, refused}
use Rattle.cert_judge.proofs.Judgements.{judged_by, judged_of}
use Rattle.cert_inverse.specs.Inverse.{IsCitable, IsTextOf, head_of, paper_text}
use Rattle.cert_inverse.specs.Judging.{valid_of, feasible_of, IsValidText, IsFeasibleText}
use Rattle.cert_inverse.proofs.NetworkWords.{accepted, citable, citable_old, in_forms, is_scaled, old_word}
use Rattle.cert_inverse.proofs.HeadsAgain.{HasModes, heads_again}
use Rattle.cert_inverse.proofs.TextAgain.{reads_back}
use Rattle.cert_inverse.proofs.Exactly.{text_of_read}

-- the network was scaled under its options
under_options : (rows : NetRows) (net : ScaledNet) → IsOf rows net → scaled_of rows net.options ≡ Ok net
under_options rows net h = subst (λ (o : NetOptions). scaled_of rows o ≡ Ok net) (ap (λ (n : ScaledNet). n.options) (is_scaled rows net h)) h.scaled

-- what is written in a form is read as what was written
pub written_read : (rows : NetRows) (net : ScaledNet) (form : Form) (paper : Paper) → IsOf rows net → IsCitable (sheet_for (sheets_of rows net) form) → HasModes (sheet_for (sheets_of rows net) form) form net.options
    → FitsPaper (sheet_for (sheets_of rows net) form) paper → IsReadOf Both rows (paper_text (sheet_for (sheets_of rows net) form) paper) net paper
written_read rows net form paper h own modes fits = record {
  head_of = head_of form net.options paper;
  head_read = heads_again (sheet_for (sheets_of rows net) form) form net.options paper own fits modes;
  scaled = under_options rows net h;
  fits = refl;
  rest_read = reads_back (sheets_of rows net) form paper (in_forms rows net) own fits;
}

-- what is written in a form is judged as what was written
module _ (rows : NetRows) (net : ScaledNet) (form : Form) (paper : Paper) (judged : Judged) (h : IsOf rows net) where
  written_in : (own : IsCitable (sheet_for (sheets_of rows net) form)) → HasModes (sheet_for (sheets_of rows net) form) form net.options → FitsPaper (sheet_for (sheets_of rows net) form) paper
      → IsJudgement rows (paper_text (sheet_for (sheets_of rows net) form) paper) judged → IsSaidOf net.options net.net paper judged
  written_in own modes fits said =
      let sheets = sheets_of rows net in
      let sheet = sheet_for sheets form in
      let text = paper_text sheet paper in
      judged_of rows text net paper judged (written_read rows net form paper h own modes fits) said

-- the words of the options stand in the sheet of each form
pub modes_of : (rows : NetRows) (net : ScaledNet) → HasModes (sheet_of rows net) Second net.options
modes_of rows net = record { form_is = refl; links = refl; modules = refl }

old_modes_of : (rows : NetRows) (net : ScaledNet) → HasModes (old_sheet_of rows net) First net.options
old_modes_of rows net = record { form_is = refl; links = refl; modules = refl }

pub written : (rows : NetRows) (net : ScaledNet) (paper : Paper) (judged : Judged) → IsOf rows net → rows.skipped ≤ MAX_COUNT → FitsPaper (sheet_of rows net) paper → IsJudgement rows (paper_text (sheet_of rows net) paper) judged → IsSaidOf net.options net.net paper judged
written rows net paper judged h few fits said = written_in rows net Second paper judged h (citable rows net h few) (modes_of rows net) fits said

pub written_old : (rows : NetRows) (net : ScaledNet) (paper : Paper) (judged : Judged) → IsOf rows net → rows.skipped ≤ MAX_COUNT → net.options.links ≢ Bidirected → FitsPaper (old_sheet_of rows net) paper → IsJudgement rows (paper_text (old_sheet_of rows net) paper) judged
    → IsSaidOf net.options net.net paper judged
written_old rows net paper judged h few ways fits said = written_in rows net First paper judged h (citable_old rows net h few (old_word net.options.links ways)) (old_modes_of rows net) fits said

-- no condition of a valid routing or certificate fails
no_route_fault : (net : Network) (r : Routing) → IsValidRouting net r → (fault : Fault) → IsFirstRouteFault net r fault → ⊥
no_route_fault net r v C1 h = h v.walks
no_route_fault net r v C2 h = h.1 v.carried
no_route_fault net r v C3 h = h.2 v.loads
no_route_fault net r v C4 h = h.3 v.scale
no_route_fault net r v C5 h = h
no_route_fault net r v C6 h = h
no_route_fault net r v C7 h = h
no_route_fault net r v C8 h = h
no_route_fault net r v C9 h = h
no_route_fault net r v C10 h = h

no_fault : (net : Network) (p : Proof) → IsValid net p → (fault : Fault) → IsFirstFault net p fault → ⊥
no_fault net p v C1 h = h v.routing.walks
no_fault net p v C2 h = h.1 v.routing.carried
no_fault net p v C3 h = h.2 v.routing.loads
no_fault net p v C4 h = h.3 v.routing.scale
no_fault net p v C5 h = h.1 v.lengths
no_fault net p v C6 h = h.2 v.sources
no_fault net p v C7 h = h.3 v.potentials
no_fault net p v C8 h = h.4 v.distance
no_fault net p v C9 h = h.5 v.printed
no_fault net p v C10 h = h.6 v.verdict

said_valid : (net : ScaledNet) (p : Proof) → IsValid net.net p → (judged : Judged) → IsSaidOf net.options net.net (papers.Full p) judged → judged ≡ valid_of net p
said_valid net p v (Valid options closed lower upper) h = let o = h.0 in let c = h.1 in let l = h.2 in let u = h.3 in cc
said_valid net p v (Invalid fault) h = absurd (no_fault net.net p v fault h)
said_valid net p v (NetRefused r) h = absurd h
said_valid net p v (CertRefused r) h = absurd h
said_valid net p v (Feasible options value) h = absurd h

said_feasible : (net : ScaledNet) (r : Routing) → IsValidRouting net.net r → (judged : Judged) → IsSaidOf net.options net.net (papers.Routing r) judged → judged ≡ feasible_of net r
said_feasible net r v (Feasible options value) h = let o = h.0 in let l = h.1 in cc
said_feasible net r v (Invalid fault) h = absurd (no_route_fault net.net r v fault h)
said_feasible net r v (NetRefused f) h = absurd h
said_feasible net r v (CertRefused f) h = absurd h
said_feasible net r v (Valid options closed lower upper) h = absurd h

pub valid_certificate : (rows : NetRows) (net : ScaledNet) (p : Proof) (judged : Judged) → IsOf rows net → rows.skipped ≤ MAX_COUNT → FitsProof (sheet_of rows net) p → IsValid net.net p → IsJudgement rows (certificate_text (sheet_of rows net) p) judged → judged ≡ valid_of net p
valid_certificate rows net p judged h few fits v said = said_valid net p v judged (written rows net (papers.Full p) judged h few fits said)

pub valid_routing : (rows : NetRows) (net : ScaledNet) (r : Routing) (judged : Judged) → IsOf rows net → rows.skipped ≤ MAX_COUNT → FitsRouting (sheet_of rows net) r → IsValidRouting net.net r → IsJudgement rows (routing_text (sheet_of rows net) r) judged → judged ≡ feasible_of net r
valid_routing rows net r judged h few fits v said = said_feasible net r v judged (written rows net (papers.Routing r) judged h few fits said)

pub valid_old_certificate : (rows : NetRows) (net : ScaledNet) (p : Proof) (judged : Judged) → IsOf rows net → rows.skipped ≤ MAX_COUNT → net.options.links ≢ Bidirected → FitsProof (old_sheet_of rows net) p → IsValid net.net p → IsJudgement rows (certificate_text (old_sheet_of rows net) p) judged → judged ≡ valid_of net p
valid_old_certificate rows net p judged h few ways fits v said = said_valid net p v judged (written_old rows net (papers.Full p) judged h few ways fits said)

pub valid_old_routing : (rows : NetRows) (net : ScaledNet) (r : Routing) (judged : Judged) → IsOf rows net → rows.skipped ≤ MAX_COUNT → net.options.links ≢ Bidirected → FitsRouting (old_sheet_of rows net) r → IsValidRouting net.net r → IsJudgement rows (routing_text (old_sheet_of rows net) r) judged → judged ≡ feasible_of net r
valid_old_routing rows net r judged h few ways fits v said = said_feasible net r v judged (written_old rows net (papers.Routing r) judged h few ways fits said)

-- ---- from what is said to the text

-- the network that the text's head asks for, and what is read with its names, which fits form 2
record IsReached (rows : NetRows) (text : List ℕ) (judged : Judged) : Type 0 where
  net : ScaledNet
  paper : Paper
  scaled : scaled_of rows net.options ≡ Ok net
  written : IsTextOf (sheets_of rows net) text paper
  fits : FitsPaper (sheet_of rows net) paper
  said : IsSaidOf net.options net.net paper judged

-- the options of a network are those that it was scaled under
its_options : (rows : NetRows) (o : NetOptions) (net : ScaledNet) → scaled_of rows o ≡ Ok net → o ≡ net.options
its_options rows o net e =
    let s = decimals_of (sizes o.modules rows) in
    ap (λ (n : ScaledNet). n.options) (accepted (scaled_with o s rows) net (refusal o.modules s rows) e)

-- something is said of what is read, and not of a refusal
abbrev IsOfPaper : Judged → Type 0
IsOfPaper (NetRefused r) = ⊥
IsOfPaper (CertRefused r) = ⊥
IsOfPaper (Invalid fault) = Unit {0}
IsOfPaper (Feasible options value) = Unit {0}
IsOfPaper (Valid options closed lower upper) = Unit {0}

-- what is said is no refusal
no_refusal : (judged : Judged) → IsOfPaper judged → (r : Refusal) → judged ≡ refused r → ⊥
no_refusal judged own (Net r) e = subst IsOfPaper e own
no_refusal judged own (Cert r) e = subst IsOfPaper e own

reached : (rows : NetRows) (text : List ℕ) (judged : Judged) → IsOfPaper judged → IsJudgement rows text judged → IsReached rows text judged
reached rows text judged own said =
    let a = judged_by rows text judged (no_refusal judged own) said in
    let net = a.0 in
    let paper = a.1 in
    let is = its_options rows (options_of a.2.head_of) net a.2.scaled in
    record {
      net = net;
      paper = paper;
      scaled = subst (λ (q : NetOptions). scaled_of rows q ≡ Ok net) is a.2.scaled;
      written = text_of_read (sheets_of rows net) text paper (in_forms rows net) a.2.rest_read;
      fits = new_fits rows net (lines_of text) paper a.2.rest_read;
      said = a.3;
    }

as_certificate : (rows : NetRows) (text : List ℕ) (net : ScaledNet) (options : NetOptions) (closed : Bool) (lower upper : Fraction) → scaled_of rows net.options ≡ Ok net → (paper : Paper) → IsTextOf (sheets_of rows net) text paper → FitsPaper (sheet_of rows net) paper
    → IsSaidOf net.options net.net paper (Valid options closed lower upper) → IsValidText rows text (Valid options closed lower upper)
as_certificate rows text net options closed lower upper scaled (papers.Full p) written fits said =
    let is : Valid options closed lower upper ≡ valid_of net p = (let o = said.0 in let c = said.1 in let l = said.2 in let u = said.3 in cc) in
    record { net = net; proof = p; form = written.0; scaled = scaled; written = written.1; fits = fits; valid = said.4; certified = said.5; said = is }
as_certificate rows text net options closed lower upper scaled (papers.Routing r) written fits said = absurd said

pub judged_certificate : (rows : NetRows) (text : List ℕ) (options : NetOptions) (closed : Bool) (lower upper : Fraction) → IsJudgement rows text (Valid options closed lower upper) → IsValidText rows text (Valid options closed lower upper)
judged_certificate rows text options closed lower upper said =
    let r = reached rows text (Valid options closed lower upper) tt said in
    as_certificate rows text r.net options closed lower upper r.scaled r.paper r.written r.fits r.said

as_routing : (rows : NetRows) (text : List ℕ) (net : ScaledNet) (options : NetOptions) (value : Fraction) → scaled_of rows net.options ≡ Ok net → (paper : Paper) → IsTextOf (sheets_of rows net) text paper → FitsPaper (sheet_of rows net) paper
    → IsSaidOf net.options net.net paper (Feasible options value) → IsFeasibleText rows text (Feasible options value)
as_routing rows text net options value scaled (papers.Routing r) written fits said =
    let is : Feasible options value ≡ feasible_of net r = (let o = said.0 in let v = said.1 in cc) in
    record { net = net; routing = r; form = written.0; scaled = scaled; written = written.1; fits = fits; valid = said.2; feasible = subst (λ (f : Fraction). IsFeasible net.net (routing_of r) f.num f.den) said.1 said.3; said = is }
as_routing rows text net options value scaled (papers.Full p) written fits said = absurd said

pub judged_routing : (rows : NetRows) (text : List ℕ) (options : NetOptions) (value : Fraction) → IsJudgement rows text (Feasible options value) → IsFeasibleText rows text (Feasible options value)
judged_routing rows text options value said =
    let r = reached rows text (Feasible options value) tt said in
    as_routing rows text r.net options value r.scaled r.paper r.written r.fits r.said
