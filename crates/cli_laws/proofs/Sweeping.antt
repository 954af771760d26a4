-- What a run of `sweep` wrote holds on the closed networks.
use Rattle.std.proofs.Common.{◌≡◌, ℕ, ◌≤◌, List, ap, ◌∙◌, arith}
use Rattle.mcf_limits.specs.declared.TheConstants.{MAX_CERT_BYTES}
use Rattle.mcf_base.specs.Shelf.{Holding, with_file}
use Rattle.flow_paths.specs.declared.certificate.Proof.{Proof}
use Rattle.sndlib_grammar.specs.Rows.{NetRows, names_of_links}
use Rattle.unit_scale.specs.Closed.{caps_of, closed}
use Rattle.unit_scale.specs.Scaling.{ScaledNet}
use Rattle.cert_judge.specs.declared.judged.Judged.TheVariants as judges
use Rattle.script.specs.declared.step.Step.TheVariants.{Edit}
use Rattle.whatif.specs.Planned.{AreBounds, after_step}
use Rattle.whatif.proofs.Keeping.{planned_link}
use Rattle.whatif.proofs.Sound.{are_bounds}
use Rattle.sweep.specs.Sweep.{sweep_evaluation}
use Rattle.sweep.specs.Lines.{sweep_text}
use Rattle.cert_judge.specs.declared.certifying.Certified.{Certified}
use Rattle.cert_judge.specs.declared.certifying.Certified.TheVariants as certs
use Rattle.cert_judge.specs.Certified.{IsCertificate, OnCertificate as CertOnCertificate}
use Rattle.net_whatif.specs.Scripted.{start_of}
use Rattle.net_whatif.proofs.SoundLines.{planned_at_start}
use Rattle.mcf_words.specs.declared.request.Command.TheVariants as commands
use Rattle.mcf_words.specs.declared.request.Request.{Request}
use Rattle.base_cmd.specs.declared.ended.Ended.{Ended}
use Rattle.base_cmd.specs.declared.outcome.FileKind.TheVariants as kinds
use Rattle.base_cmd.specs.Answer.{Answer}
use Rattle.base_cmd.specs.Files.{Ends}
use Rattle.sweep_cmd.specs.Sweep.{sweep_answer, worth_without, OnSweep, OfSwept}
use Rattle.mcf_cli.specs.Run.{file_at}
use Rattle.cli_laws.specs.Swept.{IsSweptRun, Sweeps}
use Rattle.cli_laws.proofs.Given.{text_of_file, rows_of_file, ends_full}
use Rattle.cli_laws.proofs.Asked.{cert_read, sweep_full}
use Rattle.cli_laws.proofs.Checking.{run_answered}

-- the answer has a line for each link
swept_is : (rows : NetRows) (net : ScaledNet) (proof : Proof) (certified : Certified) (answer : Answer) → answer.status ≤ 0 → CertOnCertificate rows net proof certified
    → answer ≡ sweep_answer rows certified → IsCertificate rows net proof × (answer.text ≡ sweep_text (names_of_links rows) (worth_without rows net proof))
swept_is rows net proof (certs.Valid n p) answer low is same = (
  is.2,
  ap (λ (a : Answer). a.text) same ∙ ap (λ (m : ScaledNet). sweep_text (names_of_links rows) (worth_without rows m p)) is.0
      ∙ ap (λ (q : Proof). sweep_text (names_of_links rows) (worth_without rows net q)) is.1,
)
swept_is rows net proof (certs.Said (judges.Invalid fault)) answer low is same =
    let one : answer.status ≡ 1 = ap (λ (a : Answer). a.status) same in
    absurd (omega arith)
swept_is rows net proof (certs.Said (judges.NetRefused x)) answer low is same = absurd is
swept_is rows net proof (certs.Said (judges.CertRefused x)) answer low is same = absurd is
swept_is rows net proof (certs.Said (judges.Feasible o v)) answer low is same = absurd is
swept_is rows net proof (certs.Said (judges.Valid o c l u)) answer low is same = absurd is

-- a certificate's fractions without a link hold on the network with the link closed
bounds_without : (rows : NetRows) (net : ScaledNet) (proof : Proof) (link : ℕ) → IsCertificate rows net proof
    → AreBounds (closed net.options.links net.net link) proof (sweep_evaluation net.options.links net.net proof (caps_of net.net) link)
bounds_without rows net proof link c =
    are_bounds (after_step net.options.links (start_of net proof) (Edit link 0)) (planned_link net.options.links (start_of net proof) link 0 (omega arith) (planned_at_start rows net proof c))

pub sweeps : (files : Holding) (request : Request) (text : List ℕ) (ended : Ended) → IsSweptRun files request text ended → Sweeps files request text
sweeps files request text ended run =
    let first = file_at request 0 in
    let cert = file_at request 1 in
    let a = run_answered commands.Sweep 0 files request text ended (omega arith) run in
    let low : a.answer.status ≤ 1 = omega (arith, a.low) in
    let r = rows_of_file files first (λ rows. OfSwept rows cert) a.old a.new a.answer a.tells low a.of in
    let t = text_of_file MAX_CERT_BYTES kinds.Certificate files cert (λ text. Ends (OnSweep r.0 text)) (with_file a.old first) a.new a.answer a.tells low r.2 in
    let on : OnSweep r.0 t.0 a.answer = ends_full (OnSweep r.0 t.0) (with_file (with_file a.old first) cert) a.new a.answer low t.2 in
    let p = cert_read r.0 t.0 on.0 on.1 (sweep_full r.0 on.0 a.answer on.2 low) in
    let s = swept_is r.0 p.net p.proof on.0 a.answer a.low p.on on.2 in
    record {
      rows = r.0;
      net_file = r.1;
      net = p.net;
      proof = p.proof;
      cert_file = record { text = t.0; given = t.1; head = p.head; head_read = p.head_read; scaled = p.scaled; rest_read = p.rest_read };
      valid = s.0.valid;
      lines = a.text_is ∙ s.1;
      bounds = λ link. bounds_without r.0 p.net p.proof link s.0;
    }
