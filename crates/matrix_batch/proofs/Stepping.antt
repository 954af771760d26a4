-- One matrix after the other.
use Rattle.std.proofs.Common.{◌≡◌, ℕ, zero, suc, ◌+◌, ◌<◌, List, [], ◌∷◌, length, get_or, drop, map, Result, Ok, Err, ap, sym, subst, ◌∙◌, arith}
use Rattle.std.specs.List.{AllByRecursion}
use Rattle.std.proofs.lemmas.List.{drop_more}
use Rattle.sndlib_grammar.specs.Rows.{NetRows}
use Rattle.unit_scale.specs.declared.options.NetOptions.{NetOptions}
use Rattle.unit_scale.specs.declared.refusal.RowEnd.{RowEnd}
use Rattle.unit_scale.specs.declared.refusal.RowEnd.TheVariants.{Refused}
use Rattle.unit_scale.specs.declared.refusal.RowRefusal.{RowRefusal}
use Rattle.unit_scale.specs.Scaling.{ScaledNet}
use Rattle.unit_scale.specs.Sorts.{ScalesAt, scaled_at}
use Rattle.matrix_batch.specs.Lists.{NamedDemands}
use Rattle.matrix_batch.specs.Scaled.{own_rows}
use Rattle.matrix_batch.specs.declared.row.MatrixRows.{MatrixRows}
use Rattle.matrix_batch.specs.ListAnswer.{matrix_view as read_view}
use Rattle.matrix_batch.specs.declared.refusal.BatchEnd.{BatchEnd}
use Rattle.matrix_batch.specs.declared.refusal.BatchEnd.TheVariants.{Net, List as OfList, Memory}
use Rattle.matrix_batch.specs.Scaling.{Sofar, with_refusal, behind, then_all, none_yet, scaled_one, scaled_all}
use Rattle.matrix_batch.specs.Steps.{AfterOne, AreScaled}

-- what holds of each image holds of the image of an item
pub image_at : {Y X : Type 0} (P : X → Type 0) (f : Y → X) (ys : List Y) (i : ℕ) (y : Y) → AllByRecursion P (map f ys) → i < length ys → y ≡ get_or ys i y → P (f y)
image_at P f [] i y h lt e = absurd (omega arith)
image_at P f (x ∷ xs) zero y h lt e = subst (λ z. P (f z)) (sym e) h.0
image_at P f (x ∷ xs) (suc i) y h lt e = (let less : i < length xs = omega arith in image_at P f xs i y h.1 less e)

-- a matrix that is refused
pub one_refused : (rows own : NetRows) (o : NetOptions) (m : NamedDemands) (s t : Sofar) (found : Result ScaledNet RowEnd) (row : RowRefusal)
    → own ≡ own_rows rows m → ScalesAt own o found → found ≡ Err (Refused row) → with_refusal m.name.line row.sort row.refusal.line row.refusal.kind s ≡ Ok t → scaled_one rows o m s ≡ Ok t
one_refused rows own o m s t found row is has e h =
    let refused : scaled_at own o ≡ Err row = subst (ScalesAt own o) e has in
    let at : scaled_at (own_rows rows m) o ≡ Err row = subst (λ (r : NetRows). scaled_at r o ≡ Err row) is refused in
    ap (λ (net : Result ScaledNet RowRefusal). behind rows m net s) at ∙ h

-- a matrix at which scaling stops
pub stopped : (rows : NetRows) (o : NetOptions) (lists : List MatrixRows) (i : ℕ) (list : MatrixRows) (s t : Sofar) (end : BatchEnd) (found : Result (Unit {0}) BatchEnd)
    → i < length lists → list ≡ get_or lists i list → scaled_all rows o (map read_view (drop i lists)) s ≡ scaled_all rows o (map read_view lists) none_yet
    → AfterOne rows o (read_view list) s t found → found ≡ Err end → AreScaled rows o (map read_view lists) (Err end)
stopped rows o lists i list s t Memory found lt at before h e = tt
stopped rows o lists i list s t (Net r) found lt at before h e = subst (AfterOne rows o (read_view list) s t) e h
stopped rows o lists i list s t (OfList r) found lt at before h e =
    let one : scaled_one rows o (read_view list) s ≡ Err r = subst (AfterOne rows o (read_view list) s t) e h in
    let here : drop i lists ≡ list ∷ drop (i + 1) lists = drop_more lists i list lt ∙ ap (λ (m : MatrixRows). m ∷ drop (i + 1) lists) (sym at) in
    sym before ∙ (ap (λ (ms : List MatrixRows). scaled_all rows o (map read_view ms) s) here ∙ ap (then_all (scaled_all rows o (map read_view (drop (i + 1) lists)))) one)
