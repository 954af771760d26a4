-- What is written of a batch, one matrix after the other.
use Rattle.std.proofs.Common.{◌≡◌, ℕ, zero, suc, ◌+◌, ◌<◌, ◌≤◌, List, [], ◌∷◌, ◌++◌, length, take, drop, get_or, Some, Ok, Err, sym, ap, subst, ◌∙◌, arith, refl, append-nil}
use Rattle.std.specs.Prelude.{slice_get}
use Rattle.std.specs.Global.{Vec}
use Rattle.std.specs.List.{flat_map, AllZip}
use Rattle.std.proofs.lemmas.List.{take_all, take_more, take-append-drop}
use Rattle.std.proofs.lemmas.List.Concat.{flat_map-append}
use Rattle.text_lines.specs.Writing.{ended, failed}
use Rattle.mcf_base.specs.Sink.{SinkView, Wrote}
use Rattle.mcf_base.proofs.Known.{wrote_then, wrote_stops}
use Rattle.matrix_batch.specs.Matrices.{Matrix}
use Rattle.matrix_batch.specs.declared.matrix.Matrix.{Matrix as MatrixRows}
use Rattle.matrix_batch.specs.Views.{matrix_view, batch_view}
use Rattle.solver_run.specs.History.{SolvedView}
use Rattle.batch_cmd.specs.Solves.{IsSolvedMatrix, joined, matrix_text, solved_text}
use Rattle.batch_cmd.specs.Numbered.{IsTextAt}
use Rattle.batch_cmd.proofs.Gathering.{place_is}

-- ---- matrices and their solves by their places

pub same_count : (batch : List Matrix) (many : List SolvedView) → AllZip IsSolvedMatrix batch many → length batch ≡ length many
same_count [] [] h = refl
same_count [] (s ∷ ss) h = absurd h
same_count (m ∷ ms) [] h = absurd h
same_count (m ∷ ms) (s ∷ ss) h = ap suc (same_count ms ss h.1)

pub rows_count : (batch : List MatrixRows) (many : List SolvedView) → AllZip IsSolvedMatrix (batch_view batch) many → length batch ≡ length many
rows_count [] [] h = refl
rows_count [] (s ∷ ss) h = absurd h
rows_count (m ∷ ms) [] h = absurd h
rows_count (m ∷ ms) (s ∷ ss) h = ap suc (rows_count ms ss h.1)

pub solved_at : (batch : List MatrixRows) (many : List SolvedView) (i : ℕ) (m : MatrixRows) (s : SolvedView) → AllZip IsSolvedMatrix (batch_view batch) many → i < length batch
    → m ≡ get_or batch i m → s ≡ get_or many i s → IsSolvedMatrix (matrix_view m) s
solved_at [] many i m s h lt a b = absurd (omega arith)
solved_at (x ∷ xs) [] i m s h lt a b = absurd h
solved_at (x ∷ xs) (y ∷ ys) zero m s h lt a b = subst (λ (n : MatrixRows). IsSolvedMatrix (matrix_view n) s) (sym a) (subst (λ (t : SolvedView). IsSolvedMatrix (matrix_view x) t) (sym b) h.0)
solved_at (x ∷ xs) (y ∷ ys) (suc i) m s h lt a b = (let less : i < length xs = omega arith in solved_at xs ys i m s h.1 less a b)

-- the matrix of that number is the view of its rows
row_is : (batch : List MatrixRows) (i : ℕ) (m : MatrixRows) (v : Matrix) → i < length batch → m ≡ get_or batch i m → slice_get (batch_view batch) i ≡ Some v → matrix_view m ≡ v
row_is [] i m v lt a e = absurd (omega arith)
row_is (x ∷ xs) zero m v lt a e = ap matrix_view a ∙ (let same : Some (matrix_view x) ≡ Some v = e in cc)
row_is (x ∷ xs) (suc i) m v lt a e = (let less : i < length xs = omega arith in row_is xs i m v less a e)

-- the text of a matrix and of its solve has their number
pub text_of_number : (batch : List MatrixRows) (many : List SolvedView) (i : ℕ) (m : MatrixRows) (s : SolvedView) (text : List ℕ) → AllZip IsSolvedMatrix (batch_view batch) many → i < length batch
    → m ≡ get_or batch i m → s ≡ get_or many i s → text ≡ matrix_text (matrix_view m) s → IsTextAt (batch_view batch) many i text
text_of_number batch many i m s text h lt a b is = record {
  value = λ v t at own.
      let count = rows_count batch many h in
      let same : s ≡ t = place_is many i s t (omega (arith, count, lt)) b own in
      is ∙ (ap (λ (x : Matrix). matrix_text x s) (row_is batch i m v lt a at) ∙ ap (matrix_text v) same);
}

-- ---- all texts

pub all_joined : (batch : List Matrix) (many : List SolvedView) (texts : List (Vec ℕ)) → AllZip IsSolvedMatrix batch many → length texts ≡ length batch
    → ((i : ℕ) (d : Vec ℕ) → i < length batch → IsTextAt batch many i (get_or texts i d).items) → joined texts ≡ solved_text batch many
all_joined [] [] [] h count each = refl
all_joined [] [] (t ∷ ts) h count each = absurd (omega arith)
all_joined [] (s ∷ ss) texts h count each = absurd h
all_joined (m ∷ ms) [] texts h count each = absurd h
all_joined (m ∷ ms) (s ∷ ss) [] h count each = absurd (omega arith)
all_joined (m ∷ ms) (s ∷ ss) (t ∷ ts) h count each =
    let first : t.items ≡ matrix_text m s = (each 0 t (omega arith)).value m s refl refl in
    let rest : joined ts ≡ solved_text ms ss = all_joined ms ss ts h.1 (omega arith) (λ i d lt. record { value = (each (suc i) d (omega arith)).value }) in
    ap (λ (x : List ℕ). x ++ joined ts) first ∙ ap (λ (x : List ℕ). matrix_text m s ++ x) rest

-- ---- one after the other

more : (texts : List (Vec ℕ)) (i : ℕ) (t : Vec ℕ) → i < length texts → t ≡ get_or texts i t → joined (take i texts) ++ t.items ≡ joined (take (i + 1) texts)
more texts i t lt is =
    ap (λ (l : List ℕ). joined (take i texts) ++ l) (sym (append-nil t.items)) ∙ (sym (flat_map-append (λ (v : Vec ℕ). v.items) (take i texts) (t ∷ []))
    ∙ (ap (λ (v : Vec ℕ). joined (take i texts ++ v ∷ [])) is ∙ ap joined (sym (take_more texts i t lt))))

-- one text more was written
pub one_wrote : {E : Type 0} (a b c : SinkView) (texts : List (Vec ℕ)) (i : ℕ) (t : Vec ℕ) → i < length texts → t ≡ get_or texts i t
    → Wrote a b (ended (Unit {0}) E tt) (joined (take i texts)) → Wrote b c (ended (Unit {0}) E tt) t.items → Wrote a c (ended (Unit {0}) E tt) (joined (take (i + 1) texts))
one_wrote {E} a b c texts i t lt at h k =
    subst (λ (l : List ℕ). Wrote a c (ended (Unit {0}) E tt) l) (more texts i t lt at)
    (wrote_then {A = Unit {0}} {B = Unit {0}} {E = E} a b c tt (Ok tt) (joined (take i texts)) t.items h k)

-- a text at which the output failed, and all texts
pub one_stops : {E : Type 0} (a b c : SinkView) (z : E) (texts : List (Vec ℕ)) (i : ℕ) (t : Vec ℕ) → i < length texts → t ≡ get_or texts i t
    → Wrote a b (ended (Unit {0}) E tt) (joined (take i texts)) → Wrote b c (failed (Unit {0}) E z) t.items → Wrote a c (failed (Unit {0}) E z) (joined texts)
one_stops {E} a b c z texts i t lt at h k =
    let both = wrote_then {A = Unit {0}} {B = Unit {0}} {E = E} a b c tt (Err z) (joined (take i texts)) t.items h k in
    let up_to = subst (λ (l : List ℕ). Wrote a c (failed (Unit {0}) E z) l) (more texts i t lt at) both in
    let whole = wrote_stops {A = Unit {0}} {B = Unit {0}} {E = E} a c z (joined (take (i + 1) texts)) (joined (drop (i + 1) texts)) up_to in
    subst (λ (l : List ℕ). Wrote a c (failed (Unit {0}) E z) l) (sym (flat_map-append (λ (v : Vec ℕ). v.items) (take (i + 1) texts) (drop (i + 1) texts)) ∙ ap joined (take-append-drop (i + 1) texts)) whole

-- all were written
pub all_written : {E : Type 0} (a b : SinkView) (texts : List (Vec ℕ)) (i : ℕ) → length texts ≤ i → Wrote a b (ended (Unit {0}) E tt) (joined (take i texts)) → Wrote a b (ended (Unit {0}) E tt) (joined texts)
all_written {E} a b texts i le h = subst (λ (l : List ℕ). Wrote a b (ended (Unit {0}) E tt) l) (ap joined (take_all i texts le)) h
