-- A text has one answer.
use Rattle.std.proofs.Common.{◌≡◌, ℕ, List, [], ◌∷◌, ◌++◌, map, ap, sym, subst, ◌∙◌, append_assoc, append-nil, Some, None, Result, Ok, Err, inl, inr}
use Rattle.std.specs.List.{AllByRecursion}
use Rattle.std.proofs.lemmas.List.{map-append}
use Rattle.sndlib_grammar.specs.Tokens.{Lexeme}
use Rattle.sndlib_grammar.specs.Grammar.{symbol}
use Rattle.sndlib_grammar.specs.Refusals.{symbols_of, IsShort}
use Rattle.sndlib_grammar.specs.Rows.{NetRows}
use Rattle.sndlib_grammar.specs.Text.{end_of}
use Rattle.unit_scale.specs.declared.options.NetOptions.{NetOptions}
use Rattle.matrix_batch.specs.Grammar.{MatrixEntry, tokens_of}
use Rattle.matrix_batch.specs.declared.list_refusal.ListKind.TheVariants.{Syntax}
use Rattle.matrix_batch.specs.Refusals.{BatchRefusal, InList, AreBegun, AreMatricesOf, IsBadTokenAt, IsSyntaxAt}
use Rattle.matrix_batch.specs.Matrices.{Matrix, matrix_of}
use Rattle.matrix_batch.specs.Faults.{batch_fault}
use Rattle.matrix_batch.specs.Batch.{IsBatchOf}
use Rattle.matrix_batch.specs.Laws.{BatchIsUnique}
use Rattle.matrix_batch.proofs.Unique.{list_once}

-- ---- what is begun is begun by each front

front_short : (xs ys : List Lexeme) → AllByRecursion IsShort (xs ++ ys) → AllByRecursion IsShort xs
front_short [] ys h = tt
front_short (x ∷ xs) ys h = (h.0, front_short xs ys h.1)

front_begun : (xs ys : List Lexeme) → AreBegun (xs ++ ys) → AreBegun xs
front_begun xs ys h =
    let b = h.begun in
    let parts : symbols_of (xs ++ ys) ++ b.0 ≡ symbols_of xs ++ (symbols_of ys ++ b.0) = ap (λ l. l ++ b.0) (map-append symbol xs ys) ∙ append_assoc (symbols_of xs) (symbols_of ys) b.0 in
    record { short = front_short xs ys h.short; begun = (symbols_of ys ++ b.0, b.1, sym parts ∙ b.2) }

whole_begun : (tokens : List Lexeme) (ms : List MatrixEntry) → AreMatricesOf tokens ms → AreBegun tokens
whole_begun tokens ms h = record { short = h.short; begun = ([], ms, append-nil (symbols_of tokens) ∙ h.list) }

-- ---- the first token that is refused

-- where a property of lists passes to each front, the first element with which it fails
one_fails : (P : List Lexeme → Type 0) → ((xs ys : List Lexeme) → P (xs ++ ys) → P xs) → (b c : List Lexeme) (t u : Lexeme) (a d : List Lexeme) → b ++ t ∷ a ≡ c ++ u ∷ d
    → P b → P c → (P (b ++ t ∷ []) → ⊥) → (P (c ++ u ∷ []) → ⊥) → t ≡ u
one_fails P front [] [] t u a d h p q n m = cc
one_fails P front [] (x ∷ c) t u a d h p q n m = let same : x ≡ t = cc in absurd (n (front (t ∷ []) c (subst (λ y. P (y ∷ c)) same q)))
one_fails P front (x ∷ b) [] t u a d h p q n m = let same : x ≡ u = cc in absurd (m (front (u ∷ []) b (subst (λ y. P (y ∷ b)) same p)))
one_fails P front (x ∷ b) (y ∷ c) t u a d h p q n m =
    let same : y ≡ x = cc in
    let rest : b ++ t ∷ a ≡ c ++ u ∷ d = cc in
    one_fails (λ l. P (x ∷ l)) (λ xs ys. front (x ∷ xs) ys) b c t u a d rest p (subst (λ z. P (z ∷ c)) same q) n (λ f. m (subst (λ z. P (z ∷ c ++ u ∷ [])) (sym same) f))

bad_once : (tokens : List Lexeme) (line other : ℕ) → IsBadTokenAt tokens line → IsBadTokenAt tokens other → line ≡ other
bad_once tokens line other h k =
    let same = one_fails AreBegun front_begun h.before k.before h.at k.at h.after k.after (sym h.parts ∙ k.parts) h.begun k.begun h.refused k.refused in
    h.line_is ∙ ap (λ (t : Lexeme). t.line) same ∙ sym k.line_is

not_bad : (tokens : List Lexeme) (line : ℕ) → AreBegun tokens → IsBadTokenAt tokens line → ⊥
not_bad tokens line b h = h.refused (front_begun (h.before ++ h.at ∷ []) h.after (subst AreBegun (h.parts ∙ sym (append_assoc h.before (h.at ∷ []) h.after)) b))

pub syntax_once : (tokens : List Lexeme) (end line other : ℕ) → IsSyntaxAt tokens end line → IsSyntaxAt tokens end other → line ≡ other
syntax_once tokens end line other (inl h) (inl k) = bad_once tokens line other h k
syntax_once tokens end line other (inl h) (inr k) = absurd (not_bad tokens line k.begun h)
syntax_once tokens end line other (inr h) (inl k) = absurd (not_bad tokens other h.begun k)
syntax_once tokens end line other (inr h) (inr k) = h.line_is ∙ sym k.line_is

pub not_both : (tokens : List Lexeme) (end line : ℕ) (ms : List MatrixEntry) → AreMatricesOf tokens ms → IsSyntaxAt tokens end line → ⊥
not_both tokens end line ms h (inl k) = not_bad tokens line (whole_begun tokens ms h) k
not_both tokens end line ms h (inr k) = k.none ms h.list

-- ---- answers

pub same_matrices : (tokens : List Lexeme) (ms ns : List MatrixEntry) → AreMatricesOf tokens ms → AreMatricesOf tokens ns → ms ≡ ns
same_matrices tokens ms ns h k = list_once (symbols_of tokens) ms ns h.list k.list

one_answer : (rows : NetRows) (o : NetOptions) (tokens : List Lexeme) (end : ℕ) (answer other : Result (List Matrix) BatchRefusal) → IsBatchOf rows o tokens end answer → IsBatchOf rows o tokens end other → answer ≡ other
one_answer rows o tokens end (Ok a) (Ok b) (ms, is, none, same) (ns, are, some, again) =
    let one = same_matrices tokens ms ns is are in
    ap (λ (batch : List Matrix). Ok batch) (same ∙ ap (map (matrix_of rows o)) one ∙ sym again)
one_answer rows o tokens end (Ok a) (Err r) (ms, is, none, same) (inl (line, stands, why)) = absurd (not_both tokens end line ms is stands)
one_answer rows o tokens end (Ok a) (Err r) (ms, is, none, same) (inr (ns, are, fault)) =
    let one = same_matrices tokens ms ns is are in
    let both : None ≡ Some r = sym none ∙ ap (batch_fault rows o) one ∙ fault in
    absurd cc
one_answer rows o tokens end (Err r) (Ok b) (inl (line, stands, why)) (ms, is, none, same) = absurd (not_both tokens end line ms is stands)
one_answer rows o tokens end (Err r) (Ok b) (inr (ns, are, fault)) (ms, is, none, same) =
    let one = same_matrices tokens ms ns is are in
    let both : None ≡ Some r = sym none ∙ ap (batch_fault rows o) one ∙ fault in
    absurd cc
one_answer rows o tokens end (Err r) (Err s) (inl (line, stands, why)) (inl (other, holds, also)) =
    let one = syntax_once tokens end line other stands holds in
    ap (λ (e : BatchRefusal). Err e) (why ∙ ap (λ n. InList (record { line = n; kind = Syntax })) one ∙ sym also)
one_answer rows o tokens end (Err r) (Err s) (inl (line, stands, why)) (inr (ns, are, fault)) = absurd (not_both tokens end line ns are stands)
one_answer rows o tokens end (Err r) (Err s) (inr (ms, is, fault)) (inl (line, stands, why)) = absurd (not_both tokens end line ms is stands)
one_answer rows o tokens end (Err r) (Err s) (inr (ms, is, fault)) (inr (ns, are, other)) =
    let one = same_matrices tokens ms ns is are in
    let both : Some r ≡ Some s = sym fault ∙ ap (batch_fault rows o) one ∙ other in
    let same : r ≡ s = cc in
    ap (λ (e : BatchRefusal). Err e) same

pub answers_once : BatchIsUnique
answers_once rows o text answer other h k = one_answer rows o (tokens_of text) (end_of text) answer other h k
