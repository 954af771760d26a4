-- A second text, stage by stage.
use Rattle.std.proofs.Common.{◌≡◌, ◌≤◌, ℕ, Bool, true, false, cond, List, Option, Result, Ok, Err, refl, ap, sym, subst, ◌∙◌}
use Rattle.std.specs.Prelude.{IfOk}
use Rattle.text_lines.specs.Lines.{Line, lines_of}
use Rattle.unit_scale.specs.declared.modes.LinkMode.{LinkMode}
use Rattle.unit_scale.specs.declared.modes.LinkMode.TheVariants.{Directed, Undirected, Bidirected}
use Rattle.unit_scale.specs.declared.modes.ModuleMode.{ModuleMode}
use Rattle.unit_scale.specs.declared.modes.ModuleMode.TheVariants.{Ignore, Largest, Sum}
use Rattle.unit_scale.specs.declared.options.NetOptions.{NetOptions}
use Rattle.unit_scale.specs.Scaling.{ScaledNet, scaled_of}
use Rattle.flow_model.specs.Network.{IsNetwork}
use Rattle.sndlib_grammar.specs.Rows.{NetRows, AreNetRows}
use Rattle.sndlib_grammar.specs.declared.refusal.NetRefusal.{NetRefusal}
use Rattle.flow_paths.specs.declared.certificate.Proof.{Proof}
use Rattle.flow_paths.specs.declared.certificate.Routing.{Routing as RoutingIs}
use Rattle.cert_lines.specs.Sheet.{sheets_of}
use Rattle.cert_lines.specs.declared.net_line.TheConstants.{MAX_COUNT}
use Rattle.cert_lines.specs.declared.refusal.CertRefusal.{CertRefusal}
use Rattle.cert_lines.specs.declared.refusal.CertEnd.{CertEnd}
use Rattle.cert_lines.specs.declared.refusal.CertEnd.TheVariants as ends
use Rattle.cert_lines.specs.Forms.{◌>>=◌}
use Rattle.cert_text.specs.declared.opening.CertHead.{CertHead}
use Rattle.cert_text.specs.declared.opening.Known.TheVariants.{Both, Certificates}
use Rattle.cert_text.specs.declared.papers.Paper.{Paper}
use Rattle.cert_text.specs.declared.papers.Paper.TheVariants.{Full, Routing}
use Rattle.cert_text.specs.Reading.{Gives, Place}
use Rattle.cert_text.specs.Whole.{SaysModes, head_by, opened_by, paper_in}
use Rattle.cert_judge.specs.declared.certifying.Certified.{Certified}
use Rattle.cert_judge.specs.declared.refusal.Refusal.{Refusal}
use Rattle.cert_judge.specs.declared.refusal.Refusal.TheVariants.{Cert}
use Rattle.cert_judge.specs.Certified.{OnCertificate, OnRead, told}
use Rattle.cert_judge.specs.Chain.{AreStages, IsSaid, read_on}
use Rattle.cert_judge.specs.Papers.{IsPaperOf, IsReadOf, nothing_more, options_of, rest_on}
use Rattle.cert_judge.specs.Second.{IsSecondText, ReadsOn, SecondsAreOfOneNetwork, head_under, opened_under, other_at, same_links, same_modules, second_on, under}
use Rattle.cert_judge.proofs.KnownHeaders.{certificate_both, no_routing}
use Rattle.cert_judge.proofs.PaperFacts.{paper_of, says_modes, scaled_options}
use Rattle.cert_judge.proofs.Stages.{read_stages, stages_read}
use Rattle.cert_text.proofs.Steps.{bind_ok, done, ok_is}

-- ---- modes

links_are : (a b : LinkMode) → same_links a b ≡ true → a ≡ b
links_are Directed Directed e = refl
links_are Undirected Undirected e = refl
links_are Bidirected Bidirected e = refl
links_are Directed Undirected e = absurd cc
links_are Directed Bidirected e = absurd cc
links_are Undirected Directed e = absurd cc
links_are Undirected Bidirected e = absurd cc
links_are Bidirected Directed e = absurd cc
links_are Bidirected Undirected e = absurd cc

links_same : (a : LinkMode) → same_links a a ≡ true
links_same Directed = refl
links_same Undirected = refl
links_same Bidirected = refl

modules_are : (a b : ModuleMode) → same_modules a b ≡ true → a ≡ b
modules_are Ignore Ignore e = refl
modules_are Largest Largest e = refl
modules_are Sum Sum e = refl
modules_are Ignore Largest e = absurd cc
modules_are Ignore Sum e = absurd cc
modules_are Largest Ignore e = absurd cc
modules_are Largest Sum e = absurd cc
modules_are Sum Ignore e = absurd cc
modules_are Sum Largest e = absurd cc

modules_same : (a : ModuleMode) → same_modules a a ≡ true
modules_same Ignore = refl
modules_same Largest = refl
modules_same Sum = refl

abbrev done_head : CertHead → Result CertHead CertRefusal
done_head head = Ok head

abbrev fails_at : ℕ → Result CertHead CertRefusal
fails_at line = Err (other_at line)

-- what is read under the options, by both tests
abbrev by_tests : CertHead → Bool → Bool → Result CertHead CertRefusal
by_tests head a b = cond a (cond b (done_head head) (fails_at 4)) (fails_at 3)

-- a head that passes says these options
passes : (options : NetOptions) (head x : CertHead) → under options head ≡ Ok x → (head ≡ x) × (options_of head ≡ options)
passes options head x e = by (same_links head.links options.links) refl (same_modules head.modules options.modules) refl e
  where
    by : (a : Bool) → same_links head.links options.links ≡ a → (b : Bool) → same_modules head.modules options.modules ≡ b
        → by_tests head a b ≡ Ok x → (head ≡ x) × (options_of head ≡ options)
    by true p true q h =
        let links = links_are head.links options.links p in
        let modules = modules_are head.modules options.modules q in (
          ok_is {E = CertRefusal} head x h,
          ap (λ (l : LinkMode). record { links = l; modules = head.modules }) links
              ∙ ap (λ (m : ModuleMode). record { links = options.links; modules = m }) modules,
        )
    by true p false q h = absurd cc
    by false p b q h = absurd cc

-- a head passes the test for its own options
passes_own : (head : CertHead) → under (options_of head) head ≡ Ok head
passes_own head = ap (λ a. by_tests head a (same_modules head.modules head.modules)) (links_same head.links) ∙ ap (by_tests head true) (modules_same head.modules)

-- ---- first lines

abbrev Opening : Type 0
Opening = (CertHead × Option Bool) × Place

-- the head of what was opened under the options
abbrev head_of : Opening → Result CertHead CertRefusal
head_of o = Ok o.0.0

module _ (options : NetOptions) (lines : List Line) where
  abbrev kept : Opening → CertHead → Result Opening CertRefusal
  kept o head = Ok o

  pub head_opened : head_under options lines ≡ (opened_under options lines >>= head_of)
  unfolding head_under opened_under head_by
  head_opened = by (opened_by Certificates lines)
    where
      tested : (o : Opening) (a b : Bool) → by_tests o.0.0 a b ≡ ((by_tests o.0.0 a b >>= kept o) >>= head_of)
      tested o true true = refl
      tested o true false = refl
      tested o false b = refl

      by : (r : Result Opening CertRefusal) → ((r >>= head_of) >>= under options) ≡ ((r >>= λ o. under options o.0.0 >>= kept o) >>= head_of)
      by (Ok o) = tested o (same_links o.0.0.links options.links) (same_modules o.0.0.modules options.modules)
      by (Err e) = refl

  -- what was opened under the options was opened, and says them
  pub opened : (o : Opening) → opened_under options lines ≡ Ok o → (opened_by Certificates lines ≡ Ok o) × (options_of o.0.0 ≡ options)
  unfolding opened_under
  opened o e =
      let a = bind_ok (opened_by Certificates lines) (λ x. under options x.0.0 >>= kept x) o e in
      let b = bind_ok (under options a.0.0.0) (kept a.0) o a.2 in
      let is = ok_is {E = CertRefusal} a.0 o b.2 in (
        a.1 ∙ ap (λ x. Ok x) is,
        subst (λ (x : Opening). options_of x.0.0 ≡ options) is (passes options a.0.0.0 b.0 b.1).1,
      )

-- ---- the chain

module _ (rows : NetRows) (options : NetOptions) (text : List ℕ) where
  pub second_refused : (r : CertRefusal) → Err r ≡ opened_under options (lines_of text) → second_on rows options text ≡ Err (Cert r)
  unfolding read_on
  second_refused r e = rw (head_opened options (lines_of text), sym e) refl

  module _ (o : Opening) (opens : Ok o ≡ opened_under options (lines_of text)) (net : ScaledNet) (scaled : scaled_of rows (options_of o.0.0) ≡ Ok net) where
    rest_refused : (r : CertRefusal) → paper_in (sheets_of rows net) (lines_of text) ≡ Err r → second_on rows options text ≡ Err (Cert r)
    unfolding read_on
    rest_refused r p = rw (head_opened options (lines_of text), sym opens, scaled, p) refl

    rest_read : (paper : Paper) → paper_in (sheets_of rows net) (lines_of text) ≡ Ok paper → second_on rows options text ≡ Ok (net, paper)
    unfolding read_on
    rest_read paper p = rw (head_opened options (lines_of text), sym opens, scaled, p) refl

    -- what is read of the rest is what the chain gives
    pub read_value : (result : Result Paper CertEnd) → Gives (λ x. x) result (paper_in (sheets_of rows net) (lines_of text)) → ReadsOn net result (second_on rows options text)
    read_value (Ok paper) gives = rest_read paper gives
    read_value (Err (ends.Refused r)) gives = rest_refused r gives
    read_value (Err ends.Memory) gives = tt

-- the head of what was opened under the options of the network says its modes, and it is the network under those of the head
pub says_own : (rows : NetRows) (net : ScaledNet) (lines : List Line) (o : Opening) → scaled_of rows net.options ≡ Ok net → Ok o ≡ opened_under net.options lines
    → SaysModes net.options o.0.0 × (scaled_of rows (options_of o.0.0) ≡ Ok net) × (opened_by Certificates lines ≡ Ok o)
says_own rows net lines o scaled opens =
    let a = opened net.options lines o (sym opens) in
    let own : scaled_of rows (options_of o.0.0) ≡ Ok net = subst (λ (x : NetOptions). scaled_of rows x ≡ Ok net) (sym a.1) scaled in
    (says_modes rows o.0.0 net own, own, a.0)

-- what was read of the rest is of the network
pub own_of : (rows : NetRows) (net : ScaledNet) (text : List ℕ) (result : Result Paper CertEnd) → AreNetRows rows → scaled_of rows net.options ≡ Ok net → IsNetwork net.net
    → rows.skipped ≤ MAX_COUNT → Gives (λ x. x) result (paper_in (sheets_of rows net) (lines_of text)) → IfOk result (IsPaperOf rows net)
own_of rows net text (Ok paper) well scaled network few gives = paper_of rows net.options net text paper well scaled network few gives
own_of rows net text (Err end) well scaled network few gives = tt

-- ---- the law

module _ (rows : NetRows) (net : ScaledNet) (text : List ℕ) (scaled : scaled_of rows net.options ≡ Ok net) where
  second_stages : (other : ScaledNet) (paper : Paper) → second_on rows net.options text ≡ Ok (other, paper) → (other ≡ net) × IsReadOf Certificates rows text net paper
  unfolding head_under
  second_stages other paper e =
      let s = read_stages rows options_of nothing_more (rest_on rows text) (head_under net.options (lines_of text)) other paper e in
      let a = bind_ok (head_by Certificates (lines_of text)) (under net.options) s.head_of s.head_read in
      let p = passes net.options a.0 s.head_of a.2 in
      let same : options_of s.head_of ≡ net.options = subst (λ (h : CertHead). options_of h ≡ net.options) p.0 p.1 in
      let two : scaled_of rows net.options ≡ Ok other = subst (λ (x : NetOptions). scaled_of rows x ≡ Ok other) same s.scaled in
      let is : other ≡ net = ok_is {E = NetRefusal} other net (sym two ∙ scaled) in
      let read : IsReadOf Certificates rows text other paper = record {
        head_of = s.head_of;
        head_read = a.1 ∙ ap done_head p.0;
        scaled = s.scaled;
        fits = s.fits;
        rest_read = s.rest_read;
      } in
      (is, subst (λ (n : ScaledNet). IsReadOf Certificates rows text n paper) is read)

  stages_second : (paper : Paper) → IsReadOf Certificates rows text net paper → second_on rows net.options text ≡ Ok (net, paper)
  unfolding head_under
  stages_second paper s =
      let same = scaled_options rows (options_of s.head_of) net s.scaled in
      let passed : under net.options s.head_of ≡ Ok s.head_of = subst (λ (o : NetOptions). under o s.head_of ≡ Ok s.head_of) (sym same) (passes_own s.head_of) in
      let head : head_under net.options (lines_of text) ≡ Ok s.head_of = rw s.head_read passed in
      stages_read rows options_of nothing_more (rest_on rows text) (head_under net.options (lines_of text)) net paper (record {
        head_of = s.head_of;
        head_read = head;
        scaled = s.scaled;
        fits = s.fits;
        rest_read = s.rest_read;
      })

pub seconds_of_one : SecondsAreOfOneNetwork
seconds_of_one rows net other text paper scaled = (
  second_stages rows net text scaled other paper,
  λ both. subst (λ (n : ScaledNet). second_on rows net.options text ≡ Ok (n, paper)) (sym both.0) (stages_second rows net text scaled paper both.1),
)

-- no routing is read
pub no_second_routing : (rows : NetRows) (net : ScaledNet) (text : List ℕ) (other : ScaledNet) (r : RoutingIs) → scaled_of rows net.options ≡ Ok net
    → second_on rows net.options text ≡ Ok (other, Routing r) → ⊥
no_second_routing rows net text other r scaled e =
    let s = (second_stages rows net text scaled other (Routing r) e).1 in
    no_routing (sheets_of rows net) (lines_of text) s.head_of r s.head_read s.rest_read

-- ---- what comes of a second text

module _ (rows : NetRows) (net : ScaledNet) (text : List ℕ) (certified : Certified) (scaled : scaled_of rows net.options ≡ Ok net) where
  -- what comes of a second certificate that was read is of it
  pub second_of : (proof : Proof) → IsReadOf Certificates rows text net (Full proof) → IsSecondText rows net.options text certified → OnCertificate rows net proof certified
  second_of proof s said =
      subst (λ (r : Result (ScaledNet × Paper) Refusal). IsSaid told (OnRead rows) r certified) (stages_second rows net text scaled (Full proof) s) said

  -- where what comes of a second text is no refusal, it is a certificate of the network that was read
  pub second_by : ((r : Refusal) → certified ≡ told r → ⊥) → IsSecondText rows net.options text certified
      → (proof : Proof) × IsReadOf Both rows text net (Full proof) × OnCertificate rows net proof certified
  second_by other said = by (second_on rows net.options text) refl said
    where
      on_paper : (paper : Paper) → IsReadOf Certificates rows text net paper → OnRead rows net paper certified
          → (proof : Proof) × IsReadOf Both rows text net (Full proof) × OnCertificate rows net proof certified
      on_paper (Full proof) s on = (proof, certificate_both rows text net proof s, on)
      on_paper (Routing r) s on = absurd on

      by : (r : Result (ScaledNet × Paper) Refusal) → second_on rows net.options text ≡ r → IsSaid told (OnRead rows) r certified
          → (proof : Proof) × IsReadOf Both rows text net (Full proof) × OnCertificate rows net proof certified
      by (Ok x) e on =
          let s = second_stages rows net text scaled x.0 x.1 e in
          on_paper x.1 s.1 (subst (λ (n : ScaledNet). OnRead rows n x.1 certified) s.0 on)
      by (Err r) e on = absurd (other r on)
