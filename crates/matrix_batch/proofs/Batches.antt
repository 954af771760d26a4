-- What is read and then scaled is the batch; its rows are sound; a text is read in one way.
use Rattle.std.proofs.Common.{◌≡◌, ℕ, List, [], ◌∷◌, map, refl, ap, sym, subst, ◌∙◌, Option, Some, None, Ok, Err, inl, inr}
use Rattle.sndlib_grammar.specs.Faults.{first_of}
use Rattle.sndlib_grammar.specs.Rows.{NetRows, AreNetRows}
use Rattle.sndlib_grammar.specs.Text.{end_of}
use Rattle.sndlib_grammar.proofs.RowWords.{through}
use Rattle.unit_scale.specs.declared.options.NetOptions.{NetOptions}
use Rattle.unit_scale.specs.Scaling.{or_else}
use Rattle.matrix_batch.specs.Grammar.{MatrixEntry, tokens_of}
use Rattle.matrix_batch.specs.declared.list_refusal.ListKind.TheVariants.{Syntax, TooMany, Duplicate, UnknownNode, BadNumber, TooFine, TooLarge, NoDemand}
use Rattle.matrix_batch.specs.declared.list_refusal.ListRefusal.{ListRefusal}
use Rattle.matrix_batch.specs.Refusals.{BatchRefusal, InList, AreMatricesOf}
use Rattle.matrix_batch.specs.Matrices.{matrix_of}
use Rattle.matrix_batch.specs.Faults.{too_many, repeated, unknown_node, bad_number, fine_link, fine_in, large_in, empty_in, in_list, in_net, batch_fault}
use Rattle.matrix_batch.specs.Batch.{IsBatch}
use Rattle.matrix_batch.proofs.Words.{matrices_words}
use Rattle.matrix_batch.proofs.Sound.{IsSoundEntry, all_counted, sound_entries, rows_are}
use Rattle.matrix_batch.proofs.Only.{same_matrices, syntax_once, not_both}
use Rattle.matrix_batch.specs.Lists.{NamedDemands, named_demands, at_line, entry_fault}
use Rattle.matrix_batch.specs.Scaled.{own_rows, AreOwnRows, fine_demand, large_row, no_commodity, scaling_fault, scaled_matrix, unless_fault, ReadIsScaled, ReadRowsAreSound, ReadIsUnique}

-- ---- the faults of a batch: those of its entries, and those of scaling

first_mapped : {X Y : Type 0} (g : X → Y) (f : Y → Option ℕ) (xs : List X) → first_of f (map g xs) ≡ first_of (λ x. f (g x)) xs
first_mapped g f [] = refl
first_mapped g f (x ∷ xs) = ap (or_else (f (g x))) (first_mapped g f xs)

scaling_of_entries : (rows : NetRows) (o : NetOptions) (ms : List MatrixEntry) → scaling_fault rows o (map (named_demands rows) ms)
    ≡ or_else (in_net (fine_link o.modules rows)) (or_else (in_list TooFine (first_of (fine_in rows) ms)) (or_else (in_list TooLarge (first_of (large_in o rows) ms)) (in_list NoDemand (first_of (empty_in rows) ms))))
scaling_of_entries rows o ms =
    rw (first_mapped (named_demands rows) fine_demand ms, first_mapped (named_demands rows) (large_row o rows) ms, first_mapped (named_demands rows) no_commodity ms) refl

-- a fault of entries, as one of the list
abbrev of_list : Option ListRefusal → Option BatchRefusal
of_list None = None
of_list (Some r) = Some (InList r)

fault_parts : (a b c d : Option ℕ) (rest : Option BatchRefusal) → or_else (in_list TooMany a) (or_else (in_list Duplicate b) (or_else (in_list UnknownNode c) (or_else (in_list BadNumber d) rest)))
    ≡ or_else (of_list (or_else (at_line TooMany a) (or_else (at_line Duplicate b) (or_else (at_line UnknownNode c) (at_line BadNumber d))))) rest
fault_parts (Some n) b c d rest = refl
fault_parts None (Some n) c d rest = refl
fault_parts None None (Some n) d rest = refl
fault_parts None None None (Some n) rest = refl
fault_parts None None None None rest = refl

batch_faults : (rows : NetRows) (o : NetOptions) (ms : List MatrixEntry) → batch_fault rows o ms ≡ or_else (of_list (entry_fault rows ms)) (scaling_fault rows o (map (named_demands rows) ms))
batch_faults rows o ms =
    fault_parts (too_many ms) (repeated [] ms) (unknown_node rows ms) (bad_number ms) _ ∙ ap (or_else (of_list (entry_fault rows ms))) (sym (scaling_of_entries rows o ms))

matrices_mapped : (rows : NetRows) (o : NetOptions) (ms : List MatrixEntry) → map (scaled_matrix rows o) (map (named_demands rows) ms) ≡ map (matrix_of rows o) ms
matrices_mapped rows o [] = refl
matrices_mapped rows o (m ∷ ms) = ap (λ l. matrix_of rows o m ∷ l) (matrices_mapped rows o ms)

scaled_entries : (rows : NetRows) (o : NetOptions) (text : List ℕ) (ms : List MatrixEntry) (fault : Option BatchRefusal) → AreMatricesOf (tokens_of text) ms → batch_fault rows o ms ≡ fault
    → IsBatch rows o text (unless_fault (map (scaled_matrix rows o) (map (named_demands rows) ms)) fault)
scaled_entries rows o text ms None are e = (ms, are, e, matrices_mapped rows o ms)
scaled_entries rows o text ms (Some r) are e = inr (ms, are, e)

pub read_is_scaled : ReadIsScaled
read_is_scaled rows o text (Err r) (inl (line, stands, is)) = inl (line, stands, ap InList is)
read_is_scaled rows o text (Err r) (inr (ms, are, fault)) = inr (ms, are, batch_faults rows o ms ∙ ap (λ f. or_else (of_list f) (scaling_fault rows o (map (named_demands rows) ms))) fault)
read_is_scaled rows o text (Ok read) (ms, are, none, is) =
    let faults : batch_fault rows o ms ≡ scaling_fault rows o (map (named_demands rows) ms) = batch_faults rows o ms ∙ ap (λ f. or_else (of_list f) (scaling_fault rows o (map (named_demands rows) ms))) none in
    subst (λ l. IsBatch rows o text (unless_fault (map (scaled_matrix rows o) l) (scaling_fault rows o l))) (sym is) (scaled_entries rows o text ms (scaling_fault rows o (map (named_demands rows) ms)) are faults)

-- ---- the rows of matrices

-- no fault of a kind
pub record HasNoFault (rows : NetRows) (ms : List MatrixEntry) : Type 0 where
  pub count : too_many ms ≡ None
  pub names : repeated [] ms ≡ None
  pub ends : unknown_node rows ms ≡ None
  pub numbers : bad_number ms ≡ None

no_parts : (a b c d : Option ℕ) → or_else (at_line TooMany a) (or_else (at_line Duplicate b) (or_else (at_line UnknownNode c) (at_line BadNumber d))) ≡ None → (a ≡ None) × (b ≡ None) × (c ≡ None) × (d ≡ None)
no_parts (Some n) b c d h = absurd cc
no_parts None (Some n) c d h = absurd cc
no_parts None None (Some n) d h = absurd cc
no_parts None None None (Some n) h = absurd cc
no_parts None None None None h = (refl, refl, refl, refl)

pub no_fault : (rows : NetRows) (ms : List MatrixEntry) → entry_fault rows ms ≡ None → HasNoFault rows ms
no_fault rows ms h = let parts = no_parts (too_many ms) (repeated [] ms) (unknown_node rows ms) (bad_number ms) h in record { count = parts.0; names = parts.1; ends = parts.2; numbers = parts.3 }

pub read_rows_are_sound : ReadRowsAreSound
read_rows_are_sound rows text read sound (ms, are, none, is) =
    let good = no_fault rows ms none in
    let each = sound_entries rows [] ms (all_counted ms good.count) good.names good.ends good.numbers (matrices_words text ms are) in
    subst (AreOwnRows rows) (sym is) (through (named_demands rows) (IsSoundEntry rows) (λ m. AreNetRows (own_rows rows m)) (λ m entry. rows_are rows m sound entry) ms each)

-- ---- one answer

pub read_is_unique : ReadIsUnique
read_is_unique rows text (Ok a) (Ok b) (ms, is, none, same) (ns, are, also, again) =
    let one = same_matrices (tokens_of text) ms ns is are in
    ap (λ (l : List NamedDemands). Ok l) (same ∙ ap (map (named_demands rows)) one ∙ sym again)
read_is_unique rows text (Ok a) (Err r) (ms, is, none, same) (inl (line, stands, why)) = absurd (not_both (tokens_of text) (end_of text) line ms is stands)
read_is_unique rows text (Ok a) (Err r) (ms, is, none, same) (inr (ns, are, fault)) =
    let one = same_matrices (tokens_of text) ms ns is are in
    let both : None ≡ Some r = sym none ∙ ap (entry_fault rows) one ∙ fault in
    absurd cc
read_is_unique rows text (Err r) (Ok b) (inl (line, stands, why)) (ms, is, none, same) = absurd (not_both (tokens_of text) (end_of text) line ms is stands)
read_is_unique rows text (Err r) (Ok b) (inr (ns, are, fault)) (ms, is, none, same) =
    let one = same_matrices (tokens_of text) ms ns is are in
    let both : None ≡ Some r = sym none ∙ ap (entry_fault rows) one ∙ fault in
    absurd cc
read_is_unique rows text (Err r) (Err s) (inl (line, stands, why)) (inl (other, holds, also)) =
    let one = syntax_once (tokens_of text) (end_of text) line other stands holds in
    ap (λ (e : ListRefusal). Err e) (why ∙ ap (λ n. record { line = n; kind = Syntax }) one ∙ sym also)
read_is_unique rows text (Err r) (Err s) (inl (line, stands, why)) (inr (ns, are, fault)) = absurd (not_both (tokens_of text) (end_of text) line ns are stands)
read_is_unique rows text (Err r) (Err s) (inr (ms, is, fault)) (inl (line, stands, why)) = absurd (not_both (tokens_of text) (end_of text) line ms is stands)
read_is_unique rows text (Err r) (Err s) (inr (ms, is, fault)) (inr (ns, are, other)) =
    let one = same_matrices (tokens_of text) ms ns is are in
    let both : Some r ≡ Some s = sym fault ∙ ap (entry_fault rows) one ∙ other in
    let same : r ≡ s = cc in
    ap (λ (e : ListRefusal). Err e) same
