-- What a text stands for on the rows of a network.
use Rattle.std.specs.Prelude.{◌≤◌, ℕ, List, Option, None, Result}
use Rattle.text_lines.specs.Lines.{lines_of}
use Rattle.unit_scale.specs.declared.options.NetOptions.{NetOptions}
use Rattle.unit_scale.specs.Scaling.{ScaledNet}
use Rattle.flow_model.specs.Network.{Network, IsNetwork}
use Rattle.flow_paths.specs.Certificate.{IsProofOf, IsRoutingOf}
use Rattle.sndlib_grammar.specs.Rows.{NetRows}
use Rattle.sndlib_grammar.specs.declared.refusal.NetRefusal.{NetRefusal}
use Rattle.cert_lines.specs.Sheet.{IsOf, sheet_of, sheets_of}
use Rattle.cert_lines.specs.declared.refusal.CertRefusal.{CertRefusal}
use Rattle.cert_lines.specs.declared.net_line.TheConstants.{MAX_COUNT}
use Rattle.cert_text.specs.declared.opening.CertHead.{CertHead}
use Rattle.cert_text.specs.declared.opening.Known.{Known}
use Rattle.cert_text.specs.declared.papers.Paper.{Paper}
use Rattle.cert_text.specs.declared.papers.Paper.TheVariants.{Routing, Full}
use Rattle.cert_text.specs.Whole.{head_by, paper_in}
use Rattle.cert_judge.specs.declared.refusal.Refusal.{Refusal}
use Rattle.cert_judge.specs.Chain.{read_on, AreStages}
use Rattle.cert_judge.specs.Fits.{FitsPaper}

-- the options that the first lines of the text say
abbrev pub options_of : CertHead → NetOptions
options_of head = record { links = head.links; modules = head.modules }

abbrev pub nothing_more : ScaledNet → Option NetRefusal
nothing_more net = None

-- the lines behind the head, with the names of the rows and of their network
abbrev pub rest_on : NetRows → List ℕ → ScaledNet → Result Paper CertRefusal
rest_on rows text net = paper_in (sheets_of rows net) (lines_of text)

-- the network under the options that the text says, and the certificate or routing that it spells with the
-- names of the rows and of that network, in either form, where these headers are known
abbrev pub paper_on : Known → NetRows → List ℕ → Result (ScaledNet × Paper) Refusal
paper_on known rows text =
    read_on rows options_of nothing_more (rest_on rows text) (head_by known (lines_of text))

-- each stage of this accepts: the head, the network under its options, the rest of the text
abbrev pub IsReadOf : Known → NetRows → List ℕ → ScaledNet → Paper → Type 0
IsReadOf known rows text net paper =
    AreStages rows options_of nothing_more (rest_on rows text) (head_by known (lines_of text)) net paper

-- its rows name what the network has
abbrev pub IsOfNet : Network → Paper → Type 0
IsOfNet net (Full proof) = IsProofOf net proof
IsOfNet net (Routing r) = IsRoutingOf net r

-- the network in units is that of the rows, and what was read is of it and can be written with its names
pub record IsPaperOf (rows : NetRows) (net : ScaledNet) (paper : Paper) : Type 0 where
  pub names : IsOf rows net
  pub network : IsNetwork net.net
  pub of_net : IsOfNet net.net paper
  pub fits : FitsPaper (sheet_of rows net) paper
  pub counted : rows.skipped ≤ MAX_COUNT
