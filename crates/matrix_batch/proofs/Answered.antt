-- From what is read and scaled to what is answered of a list.
use Rattle.std.proofs.Common.{◌≡◌, ℕ, List, length, Option, Some, None, Result, Ok, Err, refl, ap, sym, subst, ◌∙◌, arith}
use Rattle.std.specs.Prelude.{IfOk}
use Rattle.std.specs.declared.vec.Vec.{Vec}
use Rattle.std.specs.declared.alloc.Global.{Global}
use Rattle.std.proofs.lemmas.List.{length-map}
use Rattle.sndlib_grammar.specs.Rows.{NetRows, AreNetRows}
use Rattle.sndlib_grammar.specs.declared.refusal.NetKind.TheVariants as netkinds
use Rattle.unit_scale.specs.declared.options.NetOptions.{NetOptions}
use Rattle.unit_scale.specs.Scaling.{or_else as or_fault}
use Rattle.matrix_batch.specs.declared.list_refusal.ListRefusal.{ListRefusal}
use Rattle.matrix_batch.specs.Refusals.{BatchRefusal, InNet, InList}
use Rattle.matrix_batch.specs.Matrices.{Matrix, matrix_of}
use Rattle.matrix_batch.specs.Faults.{fine_link}
use Rattle.matrix_batch.specs.Batch.{IsBatch}
use Rattle.matrix_batch.specs.declared.list_refusal.ListKind.TheVariants.{TooMany}
use Rattle.matrix_batch.specs.Faults.{too_many, in_list}
use Rattle.matrix_batch.proofs.Sound.{scaled, names_counted}
use Rattle.matrix_batch.specs.Lists.{NamedDemands, IsRead}
use Rattle.matrix_batch.specs.Scaled.{ReadIsScaled, batch_of}
use Rattle.matrix_batch.specs.declared.matrix.Matrix.{Matrix as MatrixRows}
use Rattle.matrix_batch.specs.declared.refusal.BatchEnd.{BatchEnd}
use Rattle.matrix_batch.specs.declared.refusal.BatchEnd.TheVariants.{Net, List as OfList, Memory}
use Rattle.matrix_batch.specs.Answer.{Answers, AreOwn}
use Rattle.matrix_batch.specs.Steps.{AreScaled}
use Rattle.matrix_batch.specs.Views.{batch_view}
use Rattle.matrix_batch.proofs.Batched.{in_batch, scaled_is_batch}

-- what is scaled is the batch of the text
pub answers_scaled : (rows : NetRows) (o : NetOptions) (text : List ℕ) (read : List NamedDemands) (found : Result (Vec MatrixRows Global) BatchEnd)
    → ReadIsScaled → IsRead rows text (Ok read) → fine_link o.modules rows ≡ None → AreScaled rows o read found → Answers rows o text found
answers_scaled rows o text read (Ok v) law is links h =
    subst (IsBatch rows o text) (sym (scaled_is_batch rows o read links) ∙ ap in_batch h) (law rows o text (Ok read) is)
answers_scaled rows o text read (Err Memory) law is links h = tt
answers_scaled rows o text read (Err (OfList r)) law is links h =
    subst (IsBatch rows o text) (sym (scaled_is_batch rows o read links) ∙ ap in_batch h) (law rows o text (Ok read) is)
answers_scaled rows o text read (Err (Net r)) law is links h = absurd h

-- a link that is too fine is the network's refusal
pub answers_fine : (rows : NetRows) (o : NetOptions) (text : List ℕ) (read : List NamedDemands) (line : ℕ)
    → ReadIsScaled → IsRead rows text (Ok read) → fine_link o.modules rows ≡ Some line → IsBatch rows o text (Err (InNet (record { line = line; kind = netkinds.TooFine })))
answers_fine rows o text read line law is links =
    let told : batch_of rows o (Ok read) ≡ Err (InNet (record { line = line; kind = netkinds.TooFine })) = rw links refl in
    subst (IsBatch rows o text) told (law rows o text (Ok read) is)

-- what is refused in reading
pub answers_refused : (rows : NetRows) (o : NetOptions) (text : List ℕ) (r : ListRefusal) → ReadIsScaled → IsRead rows text (Err r) → IsBatch rows o text (Err (InList r))
answers_refused rows o text r law is = law rows o text (Err r) is

none_first : (found : Option ℕ) (rest : Option BatchRefusal) → or_fault (in_list TooMany found) rest ≡ None → found ≡ None
none_first None rest h = refl
none_first (Some line) rest h = absurd cc

-- the matrices that are answered are sound
own_batch : (rows : NetRows) (o : NetOptions) (text : List ℕ) (batch : List Matrix) → AreNetRows rows → IsBatch rows o text (Ok batch) → AreOwn o batch
own_batch rows o text batch are (entries, is, none, same) =
    let count = names_counted entries (none_first (too_many entries) _ none) in
    record {
      few = omega (arith, count, ap length same, length-map entries (matrix_of rows o));
      each = scaled rows o text batch are (entries, is, none, same);
    }

pub own : (rows : NetRows) (o : NetOptions) (text : List ℕ) (found : Result (Vec MatrixRows Global) BatchEnd) → AreNetRows rows → Answers rows o text found → IfOk found (λ v. AreOwn o (batch_view v.items))
own rows o text (Ok v) are h = own_batch rows o text (batch_view v.items) are h
own rows o text (Err end) are h = tt
