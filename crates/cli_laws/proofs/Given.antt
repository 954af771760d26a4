-- What a file gives, where it is accepted and no fault came; and that it is accepted, where the run answered in full.
use Rattle.std.proofs.Common.{◌≡◌, ℕ, ◌≤◌, ◌<◌, List, Option, Some, Result, Ok, Err, length, inl, inr, refl, sym, ap, subst, ◌∙◌, arith}
use Rattle.std.specs.Prelude.{◌⊎◌}
use Rattle.mcf_limits.specs.declared.TheConstants.{MAX_NET_BYTES}
use Rattle.mcf_base.specs.Faults.{Rose}
use Rattle.mcf_base.specs.Shelf.{Holding, ShelfView, IsLonger, with_file}
use Rattle.mcf_base.specs.Reading.{IsText}
use Rattle.sndlib_grammar.specs.declared.refusal.NetRefusal.{NetRefusal}
use Rattle.sndlib_grammar.specs.Rows.{NetRows}
use Rattle.sndlib_grammar.specs.Net.{rows_of}
use Rattle.base_cmd.specs.declared.outcome.FileKind.{FileKind}
use Rattle.base_cmd.specs.declared.outcome.FileKind.TheVariants.{Network}
use Rattle.base_cmd.specs.declared.outcome.Outcome.{Outcome}
use Rattle.base_cmd.specs.declared.outcome.Outcome.TheVariants.{Memory, NetRefused, ReadFault, TooLong}
use Rattle.base_cmd.specs.Answer.{Answer, answer_of, status_of}
use Rattle.base_cmd.specs.Files.{Ends, OfFile, OfNet, OnRows, OrMemory}
use Rattle.cli_laws.specs.Accepted.{IsNetFile}

some_same : {A : Type 0} (x y : A) → Some x ≡ Some y → x ≡ y
some_same x y e = cc

-- a file has one content
one_content : (files : Holding) (name a b : List ℕ) → files name ≡ Some a → files name ≡ Some b → a ≡ b
one_content files name a b h k = some_same a b (sym h ∙ k)

too_long : (limit m n : ℕ) → limit < m → n ≤ limit → m ≡ n → ⊥
too_long limit m n h k e = omega arith

-- a status above 1 is none of a run that answered in full
pub not_full : (answer : Answer) (outcome : Outcome) → answer ≡ answer_of outcome → answer.status ≤ 1 → 2 ≤ status_of outcome → ⊥
not_full answer outcome e full above =
    let is : answer.status ≡ status_of outcome = ap (λ (a : Answer). a.status) e in
    omega arith

-- ---- where files are accepted and nothing failed: out of memory, or what follows

abbrev pub Memories : Answer → Type 0
Memories answer = answer ≡ answer_of Memory

-- the text of the file answers, and nothing else
pub of_text : (limit : ℕ) (paper : FileKind) (files : Holding) (name text : List ℕ) (OfText : List ℕ → ShelfView → ShelfView → Answer → Type 0) (old new : ShelfView) (answer : Answer)
    → old.holds ≡ Some files → ¬ (Rose old.faults.count new.faults.count) → IsText limit (Some files) name text → OfFile limit paper name OfText old new answer
    → Memories answer ⊎ OfText text (with_file old name) new answer
of_text limit paper files name text OfText old new answer tells calm is (inl (inl (memory, lacks))) = inl memory
of_text limit paper files name text OfText old new answer tells calm is (inl (inr (inl (fault, failed)))) = absurd (calm failed.rose)
of_text limit paper files name text OfText old new answer tells calm is (inl (inr (inr (refused, longer, same)))) =
    let long : IsLonger limit (Some files) name = subst (λ (h : Option Holding). IsLonger limit h name) tells longer in
    absurd (too_long limit (length long.0) (length text) long.2 is.short (ap (λ (t : List ℕ). length t) (one_content files name long.0 text long.1 is.file)))
of_text limit paper files name text OfText old new answer tells calm is (inr (given, given_is, of)) =
    let was : IsText limit (Some files) name given = subst (λ (h : Option Holding). IsText limit h name given) tells given_is in
    inr (subst (λ (t : List ℕ). OfText t (with_file old name) new answer) (one_content files name given text was.file is.file) of)

-- the rows of the network's file answer
pub of_rows : (files : Holding) (name : List ℕ) (rows : NetRows) (OfRows : NetRows → ShelfView → ShelfView → Answer → Type 0) (old new : ShelfView) (answer : Answer)
    → old.holds ≡ Some files → ¬ (Rose old.faults.count new.faults.count) → IsNetFile files name rows → OfNet name OfRows old new answer
    → Memories answer ⊎ OfRows rows (with_file old name) new answer
of_rows files name rows OfRows old new answer tells calm net of =
    by (of_text MAX_NET_BYTES Network files name net.text (λ text. OrMemory (OnRows OfRows (rows_of text))) old new answer tells calm net.given of)
  where
    by : Memories answer ⊎ OrMemory (OnRows OfRows (rows_of net.text)) (with_file old name) new answer → Memories answer ⊎ OfRows rows (with_file old name) new answer
    by (inl memory) = inl memory
    by (inr (inl (memory, same))) = inl memory
    by (inr (inr on)) = inr (subst (λ (r : Result NetRows NetRefusal). OnRows OfRows r (with_file old name) new answer) net.read on)

-- ---- where the run answered in full

-- the file gave a text within its limit, which answers
pub text_of_file : (limit : ℕ) (paper : FileKind) (files : Holding) (name : List ℕ) (OfText : List ℕ → ShelfView → ShelfView → Answer → Type 0) (old new : ShelfView) (answer : Answer)
    → old.holds ≡ Some files → answer.status ≤ 1 → OfFile limit paper name OfText old new answer
    → (text : List ℕ) × IsText limit (Some files) name text × OfText text (with_file old name) new answer
text_of_file limit paper files name OfText old new answer tells full (inl (inl (memory, lacks))) = absurd (not_full answer Memory memory full (omega arith))
text_of_file limit paper files name OfText old new answer tells full (inl (inr (inl (fault, failed)))) = absurd (not_full answer ReadFault fault full (omega arith))
text_of_file limit paper files name OfText old new answer tells full (inl (inr (inr (refused, longer, same)))) = absurd (not_full answer (TooLong paper) refused full (omega arith))
text_of_file limit paper files name OfText old new answer tells full (inr (text, is, of)) =
    (text, subst (λ (h : Option Holding). IsText limit h name text) tells is, of)

read_rows : (OfRows : NetRows → ShelfView → ShelfView → Answer → Type 0) (old new : ShelfView) (answer : Answer) (r : Result NetRows NetRefusal) → answer.status ≤ 1 → OnRows OfRows r old new answer
    → (rows : NetRows) × (r ≡ Ok rows) × OfRows rows old new answer
read_rows OfRows old new answer (Ok rows) full on = (rows, refl, on)
read_rows OfRows old new answer (Err x) full (refused, same) = absurd (not_full answer (NetRefused x) refused full (omega arith))

-- the file is a network's, and its rows answer
pub rows_of_file : (files : Holding) (name : List ℕ) (OfRows : NetRows → ShelfView → ShelfView → Answer → Type 0) (old new : ShelfView) (answer : Answer)
    → old.holds ≡ Some files → answer.status ≤ 1 → OfNet name OfRows old new answer → (rows : NetRows) × IsNetFile files name rows × OfRows rows (with_file old name) new answer
rows_of_file files name OfRows old new answer tells full of =
    let t = text_of_file MAX_NET_BYTES Network files name (λ text. OrMemory (OnRows OfRows (rows_of text))) old new answer tells full of in
    by t.0 t.1 t.2
  where
    by : (text : List ℕ) → IsText MAX_NET_BYTES (Some files) name text → OrMemory (OnRows OfRows (rows_of text)) (with_file old name) new answer
        → (rows : NetRows) × IsNetFile files name rows × OfRows rows (with_file old name) new answer
    by text is (inl (memory, same)) = absurd (not_full answer Memory memory full (omega arith))
    by text is (inr on) =
        let r = read_rows OfRows (with_file old name) new answer (rows_of text) full on in
        (r.0, record { text = text; given = is; read = r.1 }, r.2)

-- the answer is such a one, and the run is not out of memory
pub ends_full : (Of : Answer → Type 0) (old new : ShelfView) (answer : Answer) → answer.status ≤ 1 → Ends Of old new answer → Of answer
ends_full Of old new answer full (same, inl memory) = absurd (not_full answer Memory memory full (omega arith))
ends_full Of old new answer full (same, inr of) = of
