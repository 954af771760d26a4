-- The answer to a text from what is kept of it, and its words.
use Rattle.std.proofs.Common.{◌≡◌, ℕ, List, [], ◌∷◌, map, drop, refl, ap, sym, subst, ◌∙◌, Option, Some, None, Result, Ok, Err, inl, inr}
use Rattle.std.specs.Prelude.{All, IfOk}
use Rattle.std.specs.List.{AllByRecursion}
use Rattle.std.specs.declared.vec.Vec.{Vec}
use Rattle.std.specs.declared.alloc.Global.{Global}
use Rattle.std.proofs.lemmas.List.Elements.{All-from_recursion}
use Rattle.sndlib_grammar.specs.Tokens.{Lexeme, lexemes}
use Rattle.sndlib_grammar.specs.Grammar.{demand}
use Rattle.sndlib_grammar.specs.Faults.{or_else}
use Rattle.sndlib_grammar.specs.Rows.{NetRows, AreNetRows, names_of_nodes, net_demand}
use Rattle.sndlib_grammar.specs.Slices.{IsSliceOf}
use Rattle.sndlib_grammar.specs.Words.{OnSymbols, OnDemand}
use Rattle.sndlib_grammar.specs.Text.{end_of}
use Rattle.sndlib_grammar.proofs.RowWords.{through, on_demand}
use Rattle.matrix_batch.specs.Grammar.{MatrixEntry, spelled, tokens_of}
use Rattle.matrix_batch.specs.declared.list_refusal.ListKind.TheVariants.{TooMany, Duplicate, UnknownNode, BadNumber}
use Rattle.matrix_batch.specs.declared.list_refusal.ListRefusal.{ListRefusal}
use Rattle.matrix_batch.specs.Faults.{too_many, repeated, unknown_node, bad_number}
use Rattle.matrix_batch.proofs.Words.{first_matrix, matrices_slices}
use Rattle.matrix_batch.specs.declared.mode.Mode.TheVariants.{Between}
use Rattle.matrix_batch.specs.declared.sofar.Sofar.{Sofar as SofarWords}
use Rattle.matrix_batch.specs.declared.row.MatrixRows.{MatrixRows}
use Rattle.matrix_batch.specs.declared.read_end.ReadListEnd.{ReadListEnd}
use Rattle.matrix_batch.specs.declared.read_end.ReadListEnd.TheVariants.{Refused, Memory}
use Rattle.matrix_batch.specs.Lists.{NamedDemands, named_demands, at_line, entry_fault, IsRead}
use Rattle.matrix_batch.specs.Scaled.{AreOwnRows}
use Rattle.matrix_batch.specs.ListAnswer.{matrices_view, Answers, IsMatrixIn}
use Rattle.matrix_batch.specs.Names.{stored_fault, IsJudged}
use Rattle.matrix_batch.specs.Reading.{scan, nothing_read}
use Rattle.matrix_batch.specs.Stored.{Stored, FitsList}
use Rattle.matrix_batch.specs.ReadSteps.{IsKept, Keeps}
use Rattle.matrix_batch.proofs.Batches.{read_rows_are_sound}
use Rattle.matrix_batch.proofs.Walking.{IsGiven, scan_given}

-- the tokens of a text, scanned
abbrev pub scan_of : List ℕ → Result (List MatrixEntry) ListRefusal
scan_of text = scan (end_of text) Between nothing_read (tokens_of text)

-- what is wrong with what is kept is wrong with the matrices
stored_faults : (rows : NetRows) (k : Stored) (ms : List MatrixEntry) → FitsList k ms → stored_fault rows k ≡ entry_fault rows ms
stored_faults rows k ms fits =
    let rest : List MatrixEntry → Option ListRefusal = λ l. or_else (at_line Duplicate (repeated [] l)) (or_else (at_line UnknownNode (unknown_node rows l)) (at_line BadNumber (bad_number l))) in
    let go = elim (too_many ms) as (λ (o : Option ℕ). too_many ms ≡ o → or_else (at_line TooMany o) (rest k.matrices) ≡ or_else (at_line TooMany o) (rest ms)) [
      | Some line ↦ λ e. refl
      | None ↦ λ e. ap rest (fits.whole e)
    ] in
    ap (λ o. or_else (at_line TooMany o) (rest k.matrices)) fits.extra ∙ go refl

whole_where_none : (rows : NetRows) (k : Stored) (ms : List MatrixEntry) → FitsList k ms → entry_fault rows ms ≡ None → k.matrices ≡ ms
whole_where_none rows k ms fits none =
    let rest = or_else (at_line Duplicate (repeated [] ms)) (or_else (at_line UnknownNode (unknown_node rows ms)) (at_line BadNumber (bad_number ms))) in
    let go = elim (too_many ms) as (λ (o : Option ℕ). too_many ms ≡ o → or_else (at_line TooMany o) rest ≡ None → k.matrices ≡ ms) [
      | Some line ↦ λ e h. absurd cc
      | None ↦ λ e h. fits.whole e
    ] in
    go refl none

pub judged_answers : (rows : NetRows) (text : List ℕ) (k : Stored) (result : Result (Vec MatrixRows Global) ReadListEnd) → IsKept (scan_of text) k → IsJudged rows k result → Answers rows text result
judged_answers rows text k (Err Memory) kept judged = tt
judged_answers rows text k (Err (Refused r)) kept judged =
    let are = subst (IsGiven (tokens_of text) (end_of text)) kept.reads (scan_given (end_of text) (tokens_of text)) in
    inr (kept.found, are, sym (stored_faults rows k kept.found kept.fits) ∙ judged)
judged_answers rows text k (Ok v) kept judged =
    let are = subst (IsGiven (tokens_of text) (end_of text)) kept.reads (scan_given (end_of text) (tokens_of text)) in
    let none = sym (stored_faults rows k kept.found kept.fits) ∙ judged.0 in
    (kept.found, are, none, judged.1 ∙ ap (map (named_demands rows)) (whole_where_none rows k kept.found kept.fits none))

refused_answers : (rows : NetRows) (text : List ℕ) (r : ListRefusal) → scan_of text ≡ Err r → Answers rows text (Err (Refused r))
refused_answers rows text r h =
    let stands = subst (IsGiven (tokens_of text) (end_of text)) h (scan_given (end_of text) (tokens_of text)) in
    inl (r.line, stands.0, stands.1)

-- what was kept or refused of the tokens from the first byte on is of the text
pub kept_of : (text : List ℕ) (result : Result SofarWords ReadListEnd) (tokens : List Lexeme) (end : ℕ) → tokens ≡ lexemes 0 (drop 0 text) 0 1 → end ≡ end_of text → Keeps result (scan end Between nothing_read tokens) → Keeps result (scan_of text)
kept_of text result tokens end is ends h =
    subst (λ n. Keeps result (scan n Between nothing_read (tokens_of text))) ends (subst (λ ts. Keeps result (scan end Between nothing_read ts)) is h)

pub end_answers : (rows : NetRows) (text : List ℕ) (e : ReadListEnd) → Keeps (Err e) (scan_of text) → Answers rows text (Err e)
end_answers rows text Memory h = tt
end_answers rows text (Refused r) h = refused_answers rows text r h

pub sound_rows : (rows : NetRows) (text : List ℕ) (result : Result (Vec MatrixRows Global) ReadListEnd) → AreNetRows rows → Answers rows text result → IfOk result (λ v. AreOwnRows rows (matrices_view v))
sound_rows rows text (Ok v) sound h = read_rows_are_sound rows text (matrices_view v) sound h
sound_rows rows text (Err e) sound h = tt

-- ---- words are slices

-- a matrix whose words are slices
record IsEntryIn (bytes : List ℕ) (m : MatrixEntry) : Type 0 where
  name : IsSliceOf bytes m.name.text
  demands : AllByRecursion (λ d. OnSymbols (IsSliceOf bytes) (demand d)) m.demands

entries_in : (bytes : List ℕ) (ms : List MatrixEntry) → OnSymbols (IsSliceOf bytes) (spelled ms) → AllByRecursion (IsEntryIn bytes) ms
entries_in bytes [] h = tt
entries_in bytes (m ∷ ms) h = let parts = first_matrix (IsSliceOf bytes) m ms h in (record { name = h.0; demands = parts.0 }, entries_in bytes ms parts.1)

matrix_in : (bytes : List ℕ) (rows : NetRows) (m : MatrixEntry) → IsEntryIn bytes m → IsMatrixIn bytes (named_demands rows m)
matrix_in bytes rows m h =
    let P = IsSliceOf bytes in
    let known = names_of_nodes rows in
    record { name = h.name; demands = All-from_recursion (OnDemand P) (map (net_demand known) m.demands) (through (net_demand known) (λ d. OnSymbols P (demand d)) (OnDemand P) (on_demand P known) m.demands h.demands) }

read_in : (rows : NetRows) (text : List ℕ) (read : List NamedDemands) → IsRead rows text (Ok read) → All (IsMatrixIn text) read
read_in rows text read (ms, are, none, is) =
    let each = entries_in text ms (matrices_slices text ms are) in
    subst (All (IsMatrixIn text)) (sym is) (All-from_recursion (IsMatrixIn text) (map (named_demands rows) ms) (through (named_demands rows) (IsEntryIn text) (IsMatrixIn text) (matrix_in text rows) ms each))

pub words_in : (rows : NetRows) (text : List ℕ) (result : Result (Vec MatrixRows Global) ReadListEnd) → Answers rows text result → IfOk result (λ v. All (IsMatrixIn text) (matrices_view v))
words_in rows text (Ok v) h = read_in rows text (matrices_view v) h
words_in rows text (Err e) h = tt
