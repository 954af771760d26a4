-- What `checkhops` answers.
use Rattle.std.specs.Prelude.{◌≡◌, ℕ, List, Option, Result, Ok, Err, codes}
use Rattle.mcf_limits.specs.declared.TheConstants.{MAX_CERT_BYTES}
use Rattle.mcf_base.specs.Shelf.{ShelfView}
use Rattle.text_lines.specs.Lines.{Line, lines_of}
use Rattle.flow_paths.specs.Certificate.{lower_of}
use Rattle.sndlib_grammar.specs.Rows.{NetRows}
use Rattle.sndlib_grammar.specs.declared.refusal.NetRefusal.{NetRefusal}
use Rattle.unit_scale.specs.declared.options.NetOptions.{NetOptions}
use Rattle.unit_scale.specs.Scaling.{ScaledNet}
use Rattle.cert_lines.specs.Sheet.{sheet_of}
use Rattle.cert_lines.specs.declared.refusal.CertRefusal.{CertRefusal}
use Rattle.cert_judge.specs.declared.refusal.Refusal.{Refusal}
use Rattle.cert_judge.specs.declared.judged.Judged.{Judged as Judgement}
use Rattle.cert_judge.specs.declared.judged.Judged.TheVariants.{Invalid, Valid, CertRefused}
use Rattle.cert_judge.specs.Chain.{read_on, IsSaid}
use Rattle.cert_judge.specs.Judgement.{refused}
use Rattle.route_tally.specs.Conditions.{IsFirstFailing}
use Rattle.hop_check.specs.declared.hop_proof.HopProof.{HopProof}
use Rattle.hop_check.specs.Layers.{dual_of, hop_upper_of}
use Rattle.hop_check.specs.Conditions.{HopHolds, IsValidHops, IsHopCertified}
use Rattle.hop_check.specs.Limits.{limits_of, hop_refusal}
use Rattle.kind_texts.specs.Heads.{run_head}
use Rattle.kind_texts.specs.HopsRead.{hops_in}
use Rattle.base_cmd.specs.declared.outcome.FileKind.TheVariants.{Certificate}
use Rattle.base_cmd.specs.Answer.{Answer, judged_answer}
use Rattle.base_cmd.specs.Files.{Ends, OfFile, OfNet}

-- of a certificate within these limits it is said that it is valid, with its verdict and both fractions, or which condition fails first
abbrev pub SaysWithin : ScaledNet → List (Option ℕ) → HopProof → Judgement → Type 0
SaysWithin net limits h (Invalid fault) = IsFirstFailing (HopHolds net.net limits h) fault
SaysWithin net limits h (Valid options closed lower upper) =
    (options ≡ net.options) × (closed ≡ h.proof.closed) × (lower ≡ lower_of h.proof.routing)
    × (upper ≡ hop_upper_of net.net limits (dual_of h)) × IsValidHops net.net limits h × IsHopCertified net.net limits h
SaysWithin net limits h _ = ⊥

-- the same of one that was read, within the limits of the rows
abbrev pub SaysHops : NetRows → ScaledNet → HopProof → Judgement → Type 0
SaysHops rows net h judged = SaysWithin net (limits_of rows net) h judged

-- the refusal at a limit that is too far
abbrev pub too_far : NetRows → ScaledNet → Option NetRefusal
too_far rows net = hop_refusal rows

-- the certificate that the lines spell with the names of the rows and of their network
abbrev pub rest_of : NetRows → List Line → ScaledNet → Result HopProof CertRefusal
rest_of rows lines net = hops_in (sheet_of rows net) lines

-- the network under the options of the first lines and the certificate that the lines spell, or the first refusal; a limit
-- that is too far comes behind the network's others and before the rest of the text
abbrev pub hops_on : NetRows → List Line → Result (ScaledNet × HopProof) Refusal
hops_on rows lines = read_on rows (λ (o : NetOptions). o) (too_far rows) (rest_of rows lines) (run_head (codes "mcf-hops 1") lines)

-- what is said of a text on the rows: a refusal, or the verdict on the certificate that was read
abbrev pub IsHopsJudgement : NetRows → List ℕ → Judgement → Type 0
IsHopsJudgement rows text judged = IsSaid refused (SaysHops rows) (hops_on rows (lines_of text)) judged

-- what is said of the lines, where the first of them, the network and its limits are no ground to refuse
abbrev pub SaysRest : ScaledNet → List (Option ℕ) → Result HopProof CertRefusal → Judgement → Type 0
SaysRest net limits (Ok h) judged = SaysWithin net limits h judged
SaysRest net limits (Err r) judged = judged ≡ CertRefused r

-- the answer is what is said of the certificate's text on the rows
abbrev pub OnHopTexts : NetRows → List ℕ → Answer → Type 0
OnHopTexts rows text answer = (judged : Judgement) × IsHopsJudgement rows text judged × (answer ≡ judged_answer judged)

-- the answer of both files, the network's before the certificate's
abbrev pub OfCheckHops : List ℕ → List ℕ → ShelfView → ShelfView → Answer → Type 0
OfCheckHops net cert old new answer =
    OfNet net (λ rows. OfFile MAX_CERT_BYTES Certificate cert (λ text. Ends (OnHopTexts rows text))) old new answer
