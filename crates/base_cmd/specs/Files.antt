-- The files of a command, each read whole, one after the other; and what is answered of them. An answer is tied to what the shelf has seen
-- before and behind it, so the files that were started are a part of it.
use Rattle.std.specs.Prelude.{◌≡◌, ◌⊎◌, ℕ, ◌≤◌, List, Result, Ok, Err}
use Rattle.std.specs.Global.{Vec}
use Rattle.mcf_limits.specs.declared.TheConstants.{MAX_CERT_BYTES, MAX_NET_BYTES}
use Rattle.mcf_base.specs.Shelf.{ShelfView, IsLonger, FailedAt, LacksMemory, with_file}
use Rattle.mcf_base.specs.Reading.{IsText}
use Rattle.flow_paths.specs.declared.certificate.Proof.{Proof}
use Rattle.sndlib_grammar.specs.declared.refusal.NetRefusal.{NetRefusal}
use Rattle.sndlib_grammar.specs.Rows.{NetRows, AreNetRows}
use Rattle.sndlib_grammar.specs.Net.{rows_of}
use Rattle.unit_scale.specs.Scaling.{ScaledNet}
use Rattle.cert_lines.specs.declared.net_line.TheConstants.{MAX_COUNT}
use Rattle.cert_judge.specs.declared.judged.Judged.{Judged as Judgement}
use Rattle.cert_judge.specs.declared.certifying.Certified.TheVariants.{Valid, Said}
use Rattle.cert_judge.specs.Certified.{IsCertifiedText}
use Rattle.base_cmd.specs.declared.outcome.FileKind.{FileKind}
use Rattle.base_cmd.specs.declared.outcome.FileKind.TheVariants.{Network, Certificate}
use Rattle.base_cmd.specs.declared.outcome.Outcome.{Outcome}
use Rattle.base_cmd.specs.declared.outcome.Outcome.TheVariants.{ReadFault, TooLong, NetRefused, Judged, Memory}
use Rattle.base_cmd.specs.Answer.{Answer, OrWant, answer_of}

-- the rows are those of a text, which skips no more sections than a certificate can count
pub record AreTextRows (rows : NetRows) : Type 0 where
  pub well : AreNetRows rows
  pub counted : rows.skipped ≤ MAX_COUNT

-- no file is started any more: out of memory, or such an answer
abbrev pub Ends : (Answer → Type 0) → ShelfView → ShelfView → Answer → Type 0
Ends Of old new answer = (new ≡ old) × OrWant Of answer

-- out of memory before the next file is started, or what follows
abbrev pub OrMemory : (ShelfView → ShelfView → Answer → Type 0) → ShelfView → ShelfView → Answer → Type 0
OrMemory Of old new answer = ((answer ≡ answer_of Memory) × (new ≡ old)) ⊎ Of old new answer

-- a file that was asked for gave no text: memory was wanting, the shelf failed at it, or it is over its limit
abbrev pub GivesNone : ℕ → FileKind → List ℕ → ShelfView → ShelfView → Answer → Type 0
GivesNone limit kind name old new answer =
    ((answer ≡ answer_of Memory) × LacksMemory name old new)
    ⊎ (((answer ≡ answer_of ReadFault) × FailedAt name old new)
    ⊎ ((answer ≡ answer_of (TooLong kind)) × IsLonger limit old.holds name × (new ≡ with_file old name)))

-- the answer of a file: it gives no text, or its text answers
abbrev pub OfFile : ℕ → FileKind → List ℕ → (List ℕ → ShelfView → ShelfView → Answer → Type 0) → ShelfView → ShelfView → Answer → Type 0
OfFile limit kind name OfText old new answer =
    GivesNone limit kind name old new answer
    ⊎ ((text : List ℕ) × IsText limit old.holds name text × OfText text (with_file old name) new answer)

-- the network's text is refused, or its rows answer
abbrev pub OnRows : (NetRows → ShelfView → ShelfView → Answer → Type 0) → Result NetRows NetRefusal → ShelfView → ShelfView → Answer → Type 0
OnRows OfRows (Err r) old new answer = (answer ≡ answer_of (NetRefused r)) × (new ≡ old)
OnRows OfRows (Ok rows) old new answer = OfRows rows old new answer

-- the answer of the network in the file of that name
abbrev pub OfNet : List ℕ → (NetRows → ShelfView → ShelfView → Answer → Type 0) → ShelfView → ShelfView → Answer → Type 0
OfNet name OfRows old new answer = OfFile MAX_NET_BYTES Network name (λ text. OrMemory (OnRows OfRows (rows_of text))) old new answer

-- ---- what the helpers of a command answer

-- a file's bytes, or the outcome that ends the run
abbrev pub GivesText : ℕ → FileKind → List ℕ → ShelfView → ShelfView → Result (Vec ℕ) Outcome → Type 0
GivesText limit kind name old new (Ok text) = IsText limit old.holds name text.items × (new ≡ with_file old name)
GivesText limit kind name old new (Err outcome) = GivesNone limit kind name old new (answer_of outcome)

-- the rows of a text, or the outcome that ends the run: out of memory, or its refusal
abbrev pub GivesRows : List ℕ → Result NetRows Outcome → Type 0
GivesRows text (Ok rows) = rows_of text ≡ Ok rows
GivesRows text (Err outcome) = (outcome ≡ Memory) ⊎ ((r : NetRefusal) × (rows_of text ≡ Err r) × (outcome ≡ NetRefused r))

-- no rows answer, since none came
abbrev pub Never : NetRows → ShelfView → ShelfView → Answer → Type 0
Never rows old new answer = ⊥

-- the file of that name has a network's text with these rows
pub record HasRows (name : List ℕ) (old : ShelfView) (rows : NetRows) : Type 0 where
  pub text : List ℕ
  pub held : IsText MAX_NET_BYTES old.holds name text
  pub read : rows_of text ≡ Ok rows

-- the answer of a network's file where no rows came of it
pub record GaveNone (name : List ℕ) (old new : ShelfView) (answer : Answer) : Type 0 where
  pub none : OfNet name Never old new answer

-- the rows of the network in a file, or the outcome that ends the run
abbrev pub GivesNet : List ℕ → ShelfView → ShelfView → Result NetRows Outcome → Type 0
GivesNet name old new (Ok rows) = HasRows name old rows × (new ≡ with_file old name)
GivesNet name old new (Err outcome) = GaveNone name old new (answer_of outcome)

-- the file of that name has the text of this certificate, which is valid on the rows
pub record HasCertificate (rows : NetRows) (name : List ℕ) (old : ShelfView) (net : ScaledNet) (proof : Proof) : Type 0 where
  pub text : List ℕ
  pub held : IsText MAX_CERT_BYTES old.holds name text
  pub valid : IsCertifiedText rows text (Valid net proof)

-- the answer is what is said of a certificate's text that is refused or invalid, and no file is started any more
abbrev pub IsSaidOf : NetRows → List ℕ → ShelfView → ShelfView → Answer → Type 0
IsSaidOf rows text old new answer =
    (judged : Judgement) × IsCertifiedText rows text (Said judged) × (answer ≡ answer_of (Judged judged)) × (new ≡ old)

-- the answer of a certificate's file where no valid certificate came of it
pub record GaveNoCertificate (rows : NetRows) (name : List ℕ) (old new : ShelfView) (answer : Answer) : Type 0 where
  pub none : OfFile MAX_CERT_BYTES Certificate name (λ text. OrMemory (IsSaidOf rows text)) old new answer

-- the network in units and the valid certificate in a file, or the outcome that ends the run
abbrev pub GivesCertificate : NetRows → List ℕ → ShelfView → ShelfView → Result (ScaledNet × Proof) Outcome → Type 0
GivesCertificate rows name old new (Ok found) = HasCertificate rows name old found.0 found.1 × (new ≡ with_file old name)
GivesCertificate rows name old new (Err outcome) = GaveNoCertificate rows name old new (answer_of outcome)

-- a value whose answer is such a one, or an outcome that ends the run, with such an answer
abbrev pub Finds : {T : Type 0} → (T → Answer) → (ShelfView → ShelfView → Answer → Type 0) → ShelfView → ShelfView → Result T Outcome → Type 0
Finds to_answer Of old new (Ok x) = Of old new (to_answer x)
Finds to_answer Of old new (Err outcome) = Of old new (answer_of outcome)
