-- The hands of a phase by a crew, from one list to the next.
use Rattle.std.proofs.Common.{◌≡◌, ℕ, ◌<◌, List, length, get_or, sym, ap, ◌∙◌, subst, arith}
use Rattle.std.specs.Prelude.{IfOk, Ok, Result}
use Rattle.flow_model.specs.Network.{Network}
use Rattle.load_table.specs.Seen.{LoadsView}
use Rattle.phase_engine.specs.declared.hand.Hand.{Hand}
use Rattle.phase_engine.specs.Hands.{AreSameWorkers, HasRoomOf, IsFresh, IsReady, IsSameWorker, Runs}
use Rattle.phase_engine.proofs.Joining.{same-on}
use Rattle.flow_solver.specs.Turns.{IsOver}

-- hands that were given passes, and their work
pub record AreTaken (net : Network) (table l : LoadsView) (hands out mid back : List Hand) : Type 0 where
  pub words : l ≡ table
  pub of : table.terms.net ≡ net
  pub given : length out ≡ length hands
  pub moved : mid ≡ out
  pub count : length back ≡ length mid
  pub fresh : (k : ℕ) (d : Hand) → k < length hands → IsFresh net k (get_or hands k d)
  pub ready : (k : ℕ) (d : Hand) → k < length hands → ((get_or out k d).worker ≡ k) × IsReady table (get_or out k d)
  pub same : (k : ℕ) (d : Hand) → k < length hands → IsSameWorker (get_or hands k d) (get_or out k d)
  pub runs : (k : ℕ) (d : Hand) → k < length mid → Runs l (get_or mid k d) (get_or back k d)

module _ (net : Network) (table l : LoadsView) (hands out mid back : List Hand) (t : AreTaken net table l hands out mid back) where
  size : length back ≡ length hands
  size = t.count ∙ (ap (λ (hs : List Hand). length hs) t.moved ∙ t.given)

  run-at : (k : ℕ) (d : Hand) → k < length hands → Runs l (get_or out k d) (get_or back k d)
  run-at k d less =
      let long = ap (λ (hs : List Hand). length hs) t.moved in
      let given = t.given in
      subst (λ (hs : List Hand). Runs l (get_or hs k d) (get_or back k d)) t.moved (t.runs k d (omega arith))

  pub over-all : (now : List Hand) → now ≡ back → (k : ℕ) (d : Hand) → k < length now → IsOver net l k (get_or now k d)
  over-all now is k d less =
      let long = ap (λ (hs : List Hand). length hs) is in
      let many = size in
      let inside : k < length hands = omega arith in
      let run = run-at k d inside in
      let same = t.same k d inside in
      let fresh = t.fresh k d inside in
      subst (λ (hs : List Hand). IsOver net l k (get_or hs k d)) (sym is) (
        run.0.0 ∙ (t.ready k d inside).0,
        run.1,
        run.0.1 ∙ (same.1 ∙ fresh.3),
        subst (λ (n : Network). HasRoomOf n (get_or back k d)) (ap (λ (v : LoadsView). v.terms.net) t.words ∙ t.of) run.2,
      )

  pub back-all : (now new final : List Hand) → now ≡ back → final ≡ new → AreSameWorkers now new → AreSameWorkers hands final
  back-all now new final is last ended k d less =
      let long = ap (λ (hs : List Hand). length hs) is in
      let many = size in
      let end : IsSameWorker (get_or back k d) (get_or final k d) =
      subst (λ (p : List Hand × List Hand). IsSameWorker (get_or p.0 k d) (get_or p.1 k d)) (λ i. (is i, sym last i)) (ended k d (omega arith)) in
      same-on (get_or hands k d) (get_or out k d) (get_or final k d) (t.same k d less) (same-on (get_or out k d) (get_or back k d) (get_or final k d) (run-at k d less).0 end)

-- what holds of an answer, where the answer is known
pub from-ok : {T E : Type 0} (r : Result T E) (P : T → Type 0) (x : T) → r ≡ Ok x → IfOk r P → P x
from-ok {T} {E} r P x is fact = subst (λ (s : Result T E). IfOk s P) is fact
