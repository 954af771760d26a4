-- What a file gave, as a statement about the whole run.
use Rattle.std.proofs.Common.{◌≡◌, ℕ, List, Result, Ok, Err, inl, inr, refl, sym, subst}
use Rattle.mcf_limits.specs.declared.TheConstants.{MAX_CERT_BYTES, MAX_NET_BYTES}
use Rattle.mcf_base.specs.Shelf.{ShelfView, with_file}
use Rattle.mcf_base.specs.Sink.{SinkView}
use Rattle.mcf_base.specs.Reading.{IsText}
use Rattle.flow_paths.specs.declared.certificate.Proof.{Proof}
use Rattle.sndlib_grammar.specs.declared.refusal.NetRefusal.{NetRefusal}
use Rattle.sndlib_grammar.specs.Rows.{NetRows}
use Rattle.sndlib_grammar.specs.Net.{rows_of}
use Rattle.unit_scale.specs.Scaling.{ScaledNet}
use Rattle.cert_judge.specs.declared.judged.Judged.{Judged as Judgement}
use Rattle.cert_judge.specs.declared.certifying.Certified.TheVariants.{Valid, Said}
use Rattle.cert_judge.specs.Certified.{IsCertifiedText}
use Rattle.base_cmd.specs.declared.ended.Ended.{Ended}
use Rattle.base_cmd.specs.declared.outcome.FileKind.{FileKind}
use Rattle.base_cmd.specs.declared.outcome.FileKind.TheVariants.{Network, Certificate}
use Rattle.base_cmd.specs.declared.outcome.Outcome.{Outcome}
use Rattle.base_cmd.specs.declared.outcome.Outcome.TheVariants.{Judged, Memory}
use Rattle.base_cmd.specs.Answer.{Answer, IsTold, OrWant, Writes, answer_of}
use Rattle.base_cmd.specs.Files.{Ends, Finds, GaveNoCertificate, GaveNone, HasCertificate, HasRows, IsSaidOf, Never, OfFile, OfNet, OnRows, OrMemory}

-- a command whose file gave a text has the answer of that text
pub file_came : (limit : ℕ) (kind : FileKind) (name : List ℕ) (OfText : List ℕ → ShelfView → ShelfView → Answer → Type 0) (old mid new : ShelfView) (text : List ℕ) (answer : Answer)
    → IsText limit old.holds name text → mid ≡ with_file old name → OfText text mid new answer → OfFile limit kind name OfText old new answer
file_came limit kind name OfText old mid new text answer is same of = inr (text, is, subst (λ (s : ShelfView). OfText text s new answer) same of)

-- a command whose network's file gave a text with rows has the answer of these rows
pub rows_came : (name : List ℕ) (OfRows : NetRows → ShelfView → ShelfView → Answer → Type 0) (old mid new : ShelfView) (text : List ℕ) (rows : NetRows) (answer : Answer)
    → IsText MAX_NET_BYTES old.holds name text → mid ≡ with_file old name → rows_of text ≡ Ok rows → OfRows rows mid new answer → OfNet name OfRows old new answer
rows_came name OfRows old mid new text rows answer is same read of =
    let on : OnRows OfRows (rows_of text) mid new answer = subst (λ (r : Result NetRows NetRefusal). OnRows OfRows r mid new answer) (sym read) of in
    file_came MAX_NET_BYTES Network name (λ t. OrMemory (OnRows OfRows (rows_of t))) old mid new text answer is same (inr on)

-- an answer of one kind is an answer of another kind that has all of its answers
pub found_too : {T : Type 0} (to_answer : T → Answer) (Of Other : ShelfView → ShelfView → Answer → Type 0) (old mid new : ShelfView) (r : Result T Outcome)
    → ((answer : Answer) → Of mid new answer → Other old new answer) → Finds to_answer Of mid new r → Finds to_answer Other old new r
found_too to_answer Of Other old mid new (Ok x) f of = f (to_answer x) of
found_too to_answer Of Other old mid new (Err outcome) f of = f (answer_of outcome) of

-- ---- a network

no_rows_answer : (OfRows : NetRows → ShelfView → ShelfView → Answer → Type 0) (r : Result NetRows NetRefusal) (old new : ShelfView) (answer : Answer)
    → OnRows Never r old new answer → OnRows OfRows r old new answer
no_rows_answer OfRows (Ok rows) old new answer none = absurd none
no_rows_answer OfRows (Err refusal) old new answer none = none

no_net_answers : (name : List ℕ) (OfRows : NetRows → ShelfView → ShelfView → Answer → Type 0) (old new : ShelfView) (answer : Answer)
    → OfNet name Never old new answer → OfNet name OfRows old new answer
no_net_answers name OfRows old new answer (inl no_text) = inl no_text
no_net_answers name OfRows old new answer (inr (text, is, inl memory)) = inr (text, is, inl memory)
no_net_answers name OfRows old new answer (inr (text, is, inr on)) =
    inr (text, is, inr (no_rows_answer OfRows (rows_of text) (with_file old name) new answer on))

-- a command whose network's file gave no rows has the answer that the file gave
pub no_net_found : (name : List ℕ) (OfRows : NetRows → ShelfView → ShelfView → Answer → Type 0) (old new : ShelfView) (answer : Answer)
    → GaveNone name old new answer → OfNet name OfRows old new answer
no_net_found name OfRows old new answer gave = no_net_answers name OfRows old new answer gave.none

-- the same where that answer was written to standard output
pub no_net_told : (name : List ℕ) (OfRows : NetRows → ShelfView → ShelfView → Answer → Type 0) (old new : ShelfView) (before after : SinkView) (ended : Ended) (outcome : Outcome)
    → GaveNone name old new (answer_of outcome) → Writes before after ended (answer_of outcome) → IsTold (OfNet name OfRows old new) before after ended
no_net_told name OfRows old new before after ended outcome gave writes =
    (answer_of outcome, no_net_found name OfRows old new (answer_of outcome) gave, writes)

-- a command whose network's file gave rows has the answer of these rows
pub rows_found : (name : List ℕ) (OfRows : NetRows → ShelfView → ShelfView → Answer → Type 0) (old mid new : ShelfView) (rows : NetRows) (answer : Answer)
    → HasRows name old rows → mid ≡ with_file old name → OfRows rows mid new answer → OfNet name OfRows old new answer
rows_found name OfRows old mid new rows answer has same of = rows_came name OfRows old mid new has.text rows answer has.held same has.read of

-- the same where that answer was written to standard output
pub rows_told : (name : List ℕ) (OfRows : NetRows → ShelfView → ShelfView → Answer → Type 0) (old mid new : ShelfView) (before after : SinkView) (ended : Ended) (rows : NetRows)
    → HasRows name old rows → mid ≡ with_file old name → IsTold (OfRows rows mid new) before after ended → IsTold (OfNet name OfRows old new) before after ended
rows_told name OfRows old mid new before after ended rows has same told =
    (told.0, rows_found name OfRows old mid new rows told.0 has same told.1, told.2)

-- the same for a command that reads no further file
pub rows_end : (name : List ℕ) (OfRows : NetRows → Answer → Type 0) (old mid : ShelfView) (before after : SinkView) (ended : Ended) (rows : NetRows)
    → HasRows name old rows → mid ≡ with_file old name → IsTold (OrWant (OfRows rows)) before after ended → IsTold (OfNet name (λ rows. Ends (OfRows rows)) old mid) before after ended
rows_end name OfRows old mid before after ended rows has same told =
    rows_told name (λ rows. Ends (OfRows rows)) old mid mid before after ended rows has same (told.0, (refl, told.1), told.2)

-- ---- a certificate

-- a command has the answer that its certificate's file gave, where out of memory and each judgement of a text are answers of that command
no_valid_answers : (rows : NetRows) (name : List ℕ) (OfText : List ℕ → ShelfView → ShelfView → Answer → Type 0) (old new : ShelfView) (answer : Answer)
    → ((text : List ℕ) (s : ShelfView) → OfText text s s (answer_of Memory))
    → ((text : List ℕ) (s : ShelfView) (judged : Judgement) → IsCertifiedText rows text (Said judged) → OfText text s s (answer_of (Judged judged)))
    → OfFile MAX_CERT_BYTES Certificate name (λ text. OrMemory (IsSaidOf rows text)) old new answer → OfFile MAX_CERT_BYTES Certificate name OfText old new answer
no_valid_answers rows name OfText old new answer want said (inl no_text) = inl no_text
no_valid_answers rows name OfText old new answer want said (inr (text, is, inl (memory, same))) =
    inr (text, is, subst (λ (a : Answer). OfText text (with_file old name) new a) (sym memory) (subst (λ (s : ShelfView). OfText text (with_file old name) s (answer_of Memory)) (sym same) (want text (with_file old name))))
no_valid_answers rows name OfText old new answer want said (inr (text, is, inr (judged, so, told, same))) =
    inr (text, is, subst (λ (a : Answer). OfText text (with_file old name) new a) (sym told) (subst (λ (s : ShelfView). OfText text (with_file old name) s (answer_of (Judged judged))) (sym same) (said text (with_file old name) judged so)))

-- a command whose certificate's file gave no valid certificate has the answer that the file gave
pub no_certificate_found : (rows : NetRows) (name : List ℕ) (OfText : List ℕ → ShelfView → ShelfView → Answer → Type 0) (old new : ShelfView) (answer : Answer)
    → ((text : List ℕ) (s : ShelfView) → OfText text s s (answer_of Memory))
    → ((text : List ℕ) (s : ShelfView) (judged : Judgement) → IsCertifiedText rows text (Said judged) → OfText text s s (answer_of (Judged judged)))
    → GaveNoCertificate rows name old new answer → OfFile MAX_CERT_BYTES Certificate name OfText old new answer
no_certificate_found rows name OfText old new answer want said gave = no_valid_answers rows name OfText old new answer want said gave.none

-- the same where that answer was written to standard output
pub no_certificate_told : (rows : NetRows) (name : List ℕ) (OfText : List ℕ → ShelfView → ShelfView → Answer → Type 0) (old new : ShelfView) (before after : SinkView) (ended : Ended) (outcome : Outcome)
    → ((text : List ℕ) (s : ShelfView) → OfText text s s (answer_of Memory))
    → ((text : List ℕ) (s : ShelfView) (judged : Judgement) → IsCertifiedText rows text (Said judged) → OfText text s s (answer_of (Judged judged)))
    → GaveNoCertificate rows name old new (answer_of outcome) → Writes before after ended (answer_of outcome)
    → IsTold (OfFile MAX_CERT_BYTES Certificate name OfText old new) before after ended
no_certificate_told rows name OfText old new before after ended outcome want said gave writes =
    (answer_of outcome, no_certificate_found rows name OfText old new (answer_of outcome) want said gave, writes)

-- a command whose certificate's file gave a valid certificate has the answer of that certificate's text
pub certificate_found : (rows : NetRows) (name : List ℕ) (OfText : List ℕ → ShelfView → ShelfView → Answer → Type 0) (old mid new : ShelfView) (net : ScaledNet) (proof : Proof) (answer : Answer)
    → HasCertificate rows name old net proof → mid ≡ with_file old name
    → ((text : List ℕ) → IsCertifiedText rows text (Valid net proof) → OfText text mid new answer)
    → OfFile MAX_CERT_BYTES Certificate name OfText old new answer
certificate_found rows name OfText old mid new net proof answer has same on =
    file_came MAX_CERT_BYTES Certificate name OfText old mid new has.text answer has.held same (on has.text has.valid)

-- the same where that answer was written to standard output
pub certificate_told : (rows : NetRows) (name : List ℕ) (OfText : List ℕ → ShelfView → ShelfView → Answer → Type 0) (old mid new : ShelfView) (before after : SinkView) (ended : Ended) (net : ScaledNet) (proof : Proof)
    → HasCertificate rows name old net proof → mid ≡ with_file old name
    → ((text : List ℕ) → IsCertifiedText rows text (Valid net proof) → IsTold (OfText text mid new) before after ended)
    → IsTold (OfFile MAX_CERT_BYTES Certificate name OfText old new) before after ended
certificate_told rows name OfText old mid new before after ended net proof has same on =
    let told = on has.text has.valid in
    (told.0, file_came MAX_CERT_BYTES Certificate name OfText old mid new has.text told.0 has.held same told.1, told.2)
