-- What comes of the text of a second certificate, which has to be one of the network of a first one, under the
-- same options.
use Rattle.std.specs.Prelude.{◌≡◌, ◌↔◌, ℕ, Bool, true, false, List, Option, Result, Ok, Err, if◌then◌else◌}
use Rattle.text_lines.specs.Lines.{Line, lines_of}
use Rattle.unit_scale.specs.declared.modes.LinkMode.{LinkMode}
use Rattle.unit_scale.specs.declared.modes.LinkMode.TheVariants.{Directed, Undirected, Bidirected}
use Rattle.unit_scale.specs.declared.modes.ModuleMode.{ModuleMode}
use Rattle.unit_scale.specs.declared.modes.ModuleMode.TheVariants.{Ignore, Largest, Sum}
use Rattle.unit_scale.specs.declared.options.NetOptions.{NetOptions}
use Rattle.unit_scale.specs.Scaling.{ScaledNet, scaled_of}
use Rattle.sndlib_grammar.specs.Rows.{NetRows}
use Rattle.cert_lines.specs.declared.refusal.CertKind.TheVariants.{OtherNet}
use Rattle.cert_lines.specs.declared.refusal.CertRefusal.{CertRefusal}
use Rattle.cert_lines.specs.declared.refusal.CertEnd.{CertEnd}
use Rattle.cert_lines.specs.declared.refusal.CertEnd.TheVariants as ends
use Rattle.cert_lines.specs.Forms.{◌>>=◌}
use Rattle.cert_text.specs.declared.opening.CertHead.{CertHead}
use Rattle.cert_text.specs.declared.opening.Known.TheVariants.{Certificates}
use Rattle.cert_text.specs.declared.papers.Paper.{Paper}
use Rattle.cert_text.specs.Reading.{Place}
use Rattle.cert_text.specs.Whole.{head_by, opened_by}
use Rattle.cert_judge.specs.declared.refusal.Refusal.{Refusal}
use Rattle.cert_judge.specs.declared.refusal.Refusal.TheVariants.{Cert}
use Rattle.cert_judge.specs.declared.judged.Judged.TheVariants as judgeds
use Rattle.cert_judge.specs.declared.certifying.Certified.{Certified}
use Rattle.cert_judge.specs.declared.certifying.Certified.TheVariants as certifieds
use Rattle.cert_judge.specs.declared.second.Second.{Second}
use Rattle.cert_judge.specs.declared.second.Second.TheVariants.{Valid, Refused, Invalid}
use Rattle.cert_judge.specs.Chain.{IsSaid, read_on}
use Rattle.cert_judge.specs.Papers.{IsReadOf, nothing_more, options_of, rest_on}
use Rattle.cert_judge.specs.Certified.{OnRead, told}

-- links are read alike
abbrev pub same_links : LinkMode → LinkMode → Bool
same_links Directed Directed = true
same_links Undirected Undirected = true
same_links Bidirected Bidirected = true
same_links a b = false

-- modules are read alike
abbrev pub same_modules : ModuleMode → ModuleMode → Bool
same_modules Ignore Ignore = true
same_modules Largest Largest = true
same_modules Sum Sum = true
same_modules a b = false

-- the line says another network
abbrev pub other_at : ℕ → CertRefusal
other_at line = record { line = line; kind = OtherNet }

-- the head of a certificate that says these options; else it is refused at the first line that says another mode:
-- line 3 has that of links, line 4 that of modules
abbrev pub under : NetOptions → CertHead → Result CertHead CertRefusal
under options head =
    if same_links head.links options.links
    then (if same_modules head.modules options.modules then Ok head else Err (other_at 4))
    else Err (other_at 3)

-- the first lines of a certificate that says these options: what they say, the verdict, and the place behind them
unfoldable pub opened_under : NetOptions → List Line → Result ((CertHead × Option Bool) × Place) CertRefusal
opened_under options lines = do
  opened ← opened_by Certificates lines
  head ← under options opened.0.0
  Ok opened

-- the head of a certificate that says these options
unfoldable pub head_under : NetOptions → List Line → Result CertHead CertRefusal
head_under options lines = do
  head ← head_by Certificates lines
  under options head

-- the network under these options, and the certificate that the text spells with the names of the rows and of that
-- network, in either form, where it says these options
abbrev pub second_on : NetRows → NetOptions → List ℕ → Result (ScaledNet × Paper) Refusal
second_on rows options text =
    read_on rows options_of nothing_more (rest_on rows text) (head_under options (lines_of text))

-- what comes of the text of a second certificate on these rows, where these are the options of a first one
abbrev pub IsSecondText : NetRows → NetOptions → List ℕ → Certified → Type 0
IsSecondText rows options text certified = IsSaid told (OnRead rows) (second_on rows options text) certified

-- what comes of a second certificate, with the network of the first
abbrev pub with_net : ScaledNet → Second → Certified
with_net net (Valid proof) = certifieds.Valid net proof
with_net net (Refused r) = certifieds.Said (judgeds.CertRefused r)
with_net net (Invalid fault) = certifieds.Said (judgeds.Invalid fault)

-- what was read on the network is what the chain gives, unless memory ran out
abbrev pub ReadsOn : ScaledNet → Result Paper CertEnd → Result (ScaledNet × Paper) Refusal → Type 0
ReadsOn net (Ok paper) chain = chain ≡ Ok (net, paper)
ReadsOn net (Err (ends.Refused r)) chain = chain ≡ Err (Cert r)
ReadsOn net (Err ends.Memory) chain = Unit {0}

-- a second text is read on the network of a first one exactly where it would be read as the first one, as one of
-- that same network in units, which has its options
abbrev pub SecondsAreOfOneNetwork : Type 0
SecondsAreOfOneNetwork =
    (rows : NetRows) (net other : ScaledNet) (text : List ℕ) (paper : Paper) → scaled_of rows net.options ≡ Ok net
    → (second_on rows net.options text ≡ Ok (other, paper)) ↔ ((other ≡ net) × IsReadOf Certificates rows text net paper)
