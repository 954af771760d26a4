-- A certificate or routing that was read with a network's names fits that network.
use Rattle.std.proofs.Common.{◌≡◌, ◌≤◌, ℕ, Bool, List, Option, Result, Ok, Err, refl, ap, sym, subst}
use Rattle.std.specs.Prelude.{IfOk}
use Rattle.text_lines.specs.Lines.{lines_of}
use Rattle.unit_scale.specs.declared.options.NetOptions.{NetOptions}
use Rattle.unit_scale.specs.Scaling.{ScaledNet, scaled_of}
use Rattle.flow_model.specs.Network.{IsNetwork}
use Rattle.sndlib_grammar.specs.Rows.{NetRows, AreNetRows}
use Rattle.cert_lines.specs.Sheet.{IsOf, sheet_of, sheets_of}
use Rattle.cert_lines.specs.declared.net_line.TheConstants.{MAX_COUNT}
use Rattle.cert_text.specs.declared.papers.Paper.{Paper}
use Rattle.cert_text.specs.declared.papers.Paper.TheVariants.{Routing, Full}
use Rattle.cert_text.specs.Reading.{Place}
use Rattle.cert_text.specs.declared.opening.Known.{Known}
use Rattle.cert_text.specs.Whole.{SaysModes, head_by, opened_by, paper_in}
use Rattle.cert_text.specs.declared.opening.CertHead.{CertHead}
use Rattle.cert_judge.specs.Fits.{FitsPaper}
use Rattle.sndlib_grammar.specs.declared.refusal.NetRefusal.{NetRefusal}
use Rattle.cert_lines.specs.declared.refusal.CertRefusal.{CertRefusal}
use Rattle.cert_judge.specs.declared.refusal.Refusal.TheVariants.{Net, Cert}
use Rattle.cert_judge.specs.declared.certifying.Certified.{Certified}
use Rattle.cert_judge.specs.Chain.{read_on}
use Rattle.cert_judge.specs.Papers.{IsOfNet, IsPaperOf, options_of, paper_on}
use Rattle.cert_judge.proofs.Fitting.{IsSized, is_scaled, proof_fits, routing_fits, sized}
use Rattle.cert_judge.proofs.NewFits.{new_fits}

-- the options of a network are those that it was scaled under
pub scaled_options : (rows : NetRows) (o : NetOptions) (net : ScaledNet) → scaled_of rows o ≡ Ok net → net.options ≡ o
scaled_options rows o net e = sym (ap (λ (n : ScaledNet). n.options) (is_scaled rows o net e))

-- a network that rows stand for is theirs under its own options
pub scaled_own : (rows : NetRows) (o : NetOptions) (net : ScaledNet) → scaled_of rows o ≡ Ok net → scaled_of rows net.options ≡ Ok net
scaled_own rows o net e = subst (λ (x : NetOptions). scaled_of rows x ≡ Ok net) (sym (scaled_options rows o net e)) e

pub own_scaled : (rows : NetRows) (net : ScaledNet) → IsOf rows net → scaled_of rows net.options ≡ Ok net
own_scaled rows net of = scaled_own rows of.options net of.scaled

pub says_modes : (rows : NetRows) (head : CertHead) (net : ScaledNet) → scaled_of rows (options_of head) ≡ Ok net → SaysModes net.options head
says_modes rows head net e =
    let is = scaled_options rows (options_of head) net e in
    record { links = sym (ap (λ (o : NetOptions). o.links) is); modules = sym (ap (λ (o : NetOptions). o.modules) is) }

fits_net : (rows : NetRows) (net : ScaledNet) (paper : Paper) → IsSized (sheet_of rows net) net.net → FitsPaper (sheet_of rows net) paper → IsOfNet net.net paper
fits_net rows net (Full p) size fits = proof_fits (sheet_of rows net) net.net size p fits
fits_net rows net (Routing r) size fits = routing_fits (sheet_of rows net) net.net size r fits

-- what was read with the names of a network is of it
pub paper_of : (rows : NetRows) (o : NetOptions) (net : ScaledNet) (text : List ℕ) (paper : Paper) → AreNetRows rows → scaled_of rows o ≡ Ok net → IsNetwork net.net → rows.skipped ≤ MAX_COUNT
    → paper_in (sheets_of rows net) (lines_of text) ≡ Ok paper → IsPaperOf rows net paper
paper_of rows o net text paper well e network few read =
    let fits = new_fits rows net (lines_of text) paper read in
    record {
      names = record { well = well; options = o; scaled = e };
      network = network;
      of_net = fits_net rows net paper (sized rows o net e) fits;
      fits = fits;
      counted = few;
    }

-- ---- the chain, stage by stage

module _ (known : Known) (rows : NetRows) (text : List ℕ) where
  pub head_refused : (r : CertRefusal) → Err r ≡ opened_by known (lines_of text) → paper_on known rows text ≡ Err (Cert r)
  unfolding read_on head_by
  head_refused r e = rw (sym e) refl

  module _ (o : (CertHead × Option Bool) × Place) (opens : Ok o ≡ opened_by known (lines_of text)) where
    pub net_refused : (r : NetRefusal) → scaled_of rows (options_of o.0.0) ≡ Err r → paper_on known rows text ≡ Err (Net r)
    unfolding read_on head_by
    net_refused r s = rw (sym opens, s) refl

    pub rest_refused : (net : ScaledNet) (r : CertRefusal) → scaled_of rows (options_of o.0.0) ≡ Ok net → paper_in (sheets_of rows net) (lines_of text) ≡ Err r → paper_on known rows text ≡ Err (Cert r)
    unfolding read_on head_by
    rest_refused net r s p = rw (sym opens, s, p) refl

    pub paper_read : (net : ScaledNet) (paper : Paper) → scaled_of rows (options_of o.0.0) ≡ Ok net → paper_in (sheets_of rows net) (lines_of text) ≡ Ok paper → paper_on known rows text ≡ Ok (net, paper)
    unfolding read_on head_by
    paper_read net paper s p = rw (sym opens, s, p) refl

-- what holds on all rows of a paper holds on these
pub on_rows : {E : Type 0} (P : NetRows → Certified → Type 0) (rows : NetRows) (net : ScaledNet) (paper : Paper) (result : Result Certified E) → IsPaperOf rows net paper
    → IfOk result (λ c. (r : NetRows) → IsPaperOf r net paper → P r c) → IfOk result (P rows)
on_rows P rows net paper (Ok c) own h = h rows own
on_rows P rows net paper (Err x) own h = tt
