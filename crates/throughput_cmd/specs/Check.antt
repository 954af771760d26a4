-- What `checkthroughput` answers.
use Rattle.std.specs.Prelude.{◌≡◌, ℕ, List, Result, Ok, Err, codes}
use Rattle.mcf_limits.specs.declared.TheConstants.{MAX_CERT_BYTES}
use Rattle.mcf_base.specs.Shelf.{ShelfView}
use Rattle.text_lines.specs.Lines.{Line, lines_of}
use Rattle.sndlib_grammar.specs.Rows.{NetRows}
use Rattle.unit_scale.specs.declared.options.NetOptions.{NetOptions}
use Rattle.unit_scale.specs.Scaling.{ScaledNet}
use Rattle.cert_lines.specs.Sheet.{sheet_of}
use Rattle.cert_lines.specs.declared.refusal.CertRefusal.{CertRefusal}
use Rattle.cert_judge.specs.declared.refusal.Refusal.{Refusal}
use Rattle.cert_judge.specs.declared.judged.Judged.{Judged as Judgement}
use Rattle.cert_judge.specs.declared.judged.Judged.TheVariants.{Invalid, Valid, CertRefused}
use Rattle.cert_judge.specs.Chain.{read_on, IsSaid}
use Rattle.cert_judge.specs.Papers.{nothing_more}
use Rattle.cert_judge.specs.Judgement.{refused}
use Rattle.route_tally.specs.Conditions.{IsFirstFailing}
use Rattle.throughput.specs.declared.part_proof.PartProof.{PartProof}
use Rattle.throughput.specs.Partial.{part_lower_of, part_upper_of}
use Rattle.throughput.specs.Conditions.{PartHolds, IsValidPart, IsPartCertified}
use Rattle.kind_texts.specs.Heads.{run_head}
use Rattle.kind_texts.specs.PartRead.{part_in}
use Rattle.base_cmd.specs.declared.outcome.FileKind.TheVariants.{Certificate}
use Rattle.base_cmd.specs.Answer.{Answer, judged_answer}
use Rattle.base_cmd.specs.Files.{Ends, OfFile, OfNet}

-- of a certificate that was read it is said that it is valid, with its verdict and both fractions, or which condition fails first
abbrev pub SaysPart : ScaledNet → PartProof → Judgement → Type 0
SaysPart net p (Invalid fault) = IsFirstFailing (PartHolds net.net p) fault
SaysPart net p (Valid options closed lower upper) = (options ≡ net.options) × (closed ≡ p.closed) × (lower ≡ part_lower_of p.routing)
    × (upper ≡ part_upper_of net.net p.bound) × IsValidPart net.net p × IsPartCertified net.net p
SaysPart net p _ = ⊥

-- the certificate that the lines spell with the names of the rows and of their network
abbrev pub rest_of : NetRows → List Line → ScaledNet → Result PartProof CertRefusal
rest_of rows lines net = part_in (sheet_of rows net) lines

-- the network under the options of the first lines and the certificate that the lines spell, or the first refusal
abbrev pub part_on : NetRows → List Line → Result (ScaledNet × PartProof) Refusal
part_on rows lines = read_on rows (λ (o : NetOptions). o) nothing_more (rest_of rows lines) (run_head (codes "mcf-throughput 1") lines)

-- what is said of a text on the rows: a refusal, or the verdict on the certificate that was read
abbrev pub IsPartJudgement : NetRows → List ℕ → Judgement → Type 0
IsPartJudgement rows text judged = IsSaid refused SaysPart (part_on rows (lines_of text)) judged

-- what is said of the lines, where the first of them and the network are no ground to refuse
abbrev pub SaysRest : ScaledNet → Result PartProof CertRefusal → Judgement → Type 0
SaysRest net (Ok p) judged = SaysPart net p judged
SaysRest net (Err r) judged = judged ≡ CertRefused r

-- the answer is what is said of the certificate's text on the rows
abbrev pub OnPartTexts : NetRows → List ℕ → Answer → Type 0
OnPartTexts rows text answer = (judged : Judgement) × IsPartJudgement rows text judged × (answer ≡ judged_answer judged)

-- the answer of both files, the network's before the certificate's
abbrev pub OfCheckThroughput : List ℕ → List ℕ → ShelfView → ShelfView → Answer → Type 0
OfCheckThroughput net cert old new answer =
    OfNet net (λ rows. OfFile MAX_CERT_BYTES Certificate cert (λ text. Ends (OnPartTexts rows text))) old new answer
