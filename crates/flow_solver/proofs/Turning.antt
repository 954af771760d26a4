-- Turns and hands, one by one.
use Rattle.std.proofs.Common.{◌≡◌, ℕ, ◌<◌, ◌≤◌, Bool, true, false, nat_lt, List, [], ◌∷◌, ◌++◌, length, get_or, Option, None, Some, refl, sym, ap, ◌∙◌, subst, append_assoc, append-nil, arith}
use Rattle.std.proofs.lemmas.Bool.Decides.{nat_tests}
use Rattle.std.proofs.lemmas.List.{length-append, get_or_append_left}
use Rattle.std.proofs.Math.Seq.{get_or-append_seam}
use Rattle.claimed_calls.specs.Jobs.{IsWorked, Waits}
use Rattle.load_table.specs.Seen.{LoadsView}
use Rattle.phase_engine.specs.declared.hand.Hand.{Hand}
use Rattle.phase_engine.specs.Hands.{Runs}
use Rattle.flow_solver.specs.declared.share.Share.{Share}
use Rattle.flow_solver.specs.declared.share.Share.TheVariants.{Turn, Part}
use Rattle.flow_solver.specs.Shares.{CanBeDone, HasHand, IsDoneOf, IsSomeTurn, IsTurnOf}

-- each of the first list and what stands at its place in the second
abbrev pub Each : {A B : Type 0} → (A → B → Type 0) → List A → List B → Type 0
Each {A} {B} P xs ys = (k : ℕ) (d : A) (e : B) → k < length xs → P (get_or xs k d) (get_or ys k e)

pub each-more : {A B : Type 0} (P : A → B → Type 0) (xs : List A) (ys : List B) (x : A) (y : B) → length ys ≡ length xs → Each P xs ys → P x y → Each P (xs ++ x ∷ []) (ys ++ y ∷ [])
each-more {A} {B} P xs ys x y same each last k d e l = by_test (nat_lt k (length xs)) refl
  where
    by_test : (t : Bool) → nat_lt k (length xs) ≡ t → P (get_or (xs ++ x ∷ []) k d) (get_or (ys ++ y ∷ []) k e)
    by_test true is =
        let below : k < length xs = grind (arith, nat_tests) in
        let Q : A × B → Type 0 = λ p. P p.0 p.1 in
        subst Q (λ i. (sym (get_or_append_left xs (x ∷ []) d k below) i, sym (get_or_append_left ys (y ∷ []) e k (omega arith)) i)) (each k d e below)
    by_test false is =
        let more = length-append xs (x ∷ []) in
        let at : k ≡ length xs = (let m : length xs ≤ k = grind (arith, nat_tests) in omega arith) in
        let left : get_or (xs ++ x ∷ []) k d ≡ x = ap (λ (i : ℕ). get_or (xs ++ x ∷ []) i d) at ∙ get_or-append_seam xs x [] d in
        let right : get_or (ys ++ y ∷ []) k e ≡ y = ap (λ (i : ℕ). get_or (ys ++ y ∷ []) i e) (at ∙ sym same) ∙ get_or-append_seam ys y [] e in
        let Q : A × B → Type 0 = λ p. P p.0 p.1 in
        subst Q (λ i. (sym left i, sym right i)) last

-- one more was yielded
pub left-with : {A : Type 0} (yielded rest all : List A) (x : A) (next : List A) → rest ≡ x ∷ next → yielded ++ rest ≡ all → (yielded ++ x ∷ []) ++ next ≡ all
left-with yielded rest all x next is left = append_assoc yielded (x ∷ []) next ∙ (ap (λ xs. yielded ++ xs) (sym is) ∙ left)

-- all were yielded
pub none-left : {A : Type 0} (yielded rest all : List A) → yielded ++ rest ≡ all → length rest ≡ 0 → yielded ≡ all
none-left yielded [] all left none = sym (append-nil yielded) ∙ left
none-left yielded (x ∷ rest) all left none = absurd (omega arith)

-- the hand of a turn that was taken
pub runs-of : {G : Type 0} (l : LoadsView) (h g : Hand) (old new : Option (Share G)) → IsTurnOf l h old → IsWorked IsDoneOf old new → HasHand new g → Runs l h g
runs-of l h g None new of worked has = absurd of
runs-of l h g (Some (Part p)) new of worked has = absurd of
runs-of l h g (Some (Turn t)) None of worked has = absurd worked
runs-of l h g (Some (Turn t)) (Some (Part p)) of worked has = absurd worked
runs-of l h g (Some (Turn t)) (Some (Turn u)) of worked has =
    let Q : LoadsView × Hand × Hand → Type 0 = λ p. Runs p.0 p.1 p.2 in
    subst Q (λ i. (of.1 i, of.2 i, has i)) worked

hand-at : (hs : List Hand) (k : ℕ) → k < length hs → Hand
hand-at [] k l = absurd (omega arith)
hand-at (h ∷ hs) k l = h

module _ {G : Type 0} where
  waits-of : (l : LoadsView) (h : Hand) (o : Option (Share G)) → IsTurnOf l h o → Waits CanBeDone o
  waits-of l h None of = absurd of
  waits-of l h (Some (Part p)) of = absurd of
  waits-of l h (Some (Turn t)) of = of.0

  some-of : (l : LoadsView) (h : Hand) (old new : Option (Share G)) → IsTurnOf l h old → IsWorked IsDoneOf old new → IsSomeTurn new
  some-of l h None new of worked = absurd of
  some-of l h (Some (Part p)) new of worked = absurd of
  some-of l h (Some (Turn t)) None of worked = absurd worked
  some-of l h (Some (Turn t)) (Some (Part p)) of worked = absurd worked
  some-of l h (Some (Turn t)) (Some (Turn u)) of worked = tt

  -- turns of hands can be taken
  pub waits-all : (l : LoadsView) (hands : List Hand) (turns now : List (Option (Share G))) → length turns ≡ length hands → Each (IsTurnOf l) hands turns → now ≡ turns
      → (k : ℕ) (d : Option (Share G)) → k < length now → Waits CanBeDone (get_or now k d)
  waits-all l hands turns now count of is k d less =
      let size = ap (λ (ts : List (Option (Share G))). length ts) is in
      let inside : k < length hands = omega arith in
      subst (λ (ts : List (Option (Share G))). Waits CanBeDone (get_or ts k d)) (sym is) (waits-of l (get_or hands k (hand-at hands k inside)) (get_or turns k d) (of k (hand-at hands k inside) d inside))

  -- turns that were worked on are there
  pub some-all : (l : LoadsView) (hands : List Hand) (turns old new now : List (Option (Share G))) → length turns ≡ length hands → Each (IsTurnOf l) hands turns → old ≡ turns → length new ≡ length old
      → ((k : ℕ) (d : Option (Share G)) → k < length old → IsWorked IsDoneOf (get_or old k d) (get_or new k d)) → now ≡ new
      → (k : ℕ) (d : Option (Share G)) → k < length now → IsSomeTurn (get_or now k d)
  some-all l hands turns old new now count of was same worked is k d less =
      let size = ap (λ (ts : List (Option (Share G))). length ts) is in
      let first = ap (λ (ts : List (Option (Share G))). length ts) was in
      let inside : k < length hands = omega arith in
      let h = hand-at hands k inside in
      let then : IsWorked IsDoneOf (get_or turns k d) (get_or new k d) = subst (λ (ts : List (Option (Share G))). IsWorked IsDoneOf (get_or ts k d) (get_or new k d)) was (worked k d (omega arith)) in
      subst (λ (ts : List (Option (Share G))). IsSomeTurn (get_or ts k d)) (sym is) (some-of l (get_or hands k h) (get_or turns k d) (get_or new k d) (of k h d inside) then)

  -- the hands of turns that were taken
  pub runs-all : (l : LoadsView) (hands back : List Hand) (turns old new now : List (Option (Share G))) → length turns ≡ length hands → Each (IsTurnOf l) hands turns → old ≡ turns → length new ≡ length old
      → ((k : ℕ) (d : Option (Share G)) → k < length old → IsWorked IsDoneOf (get_or old k d) (get_or new k d)) → now ≡ new → Each HasHand now back
      → (k : ℕ) (d : Hand) → k < length hands → Runs l (get_or hands k d) (get_or back k d)
  runs-all l hands back turns old new now count of was same worked is has k d less =
      let size = ap (λ (ts : List (Option (Share G))). length ts) is in
      let first = ap (λ (ts : List (Option (Share G))). length ts) was in
      let then : IsWorked IsDoneOf (get_or turns k None) (get_or now k None) =
      subst (λ (p : List (Option (Share G)) × List (Option (Share G))). IsWorked IsDoneOf (get_or p.0 k None) (get_or p.1 k None)) (λ i. (was i, sym is i)) (worked k None (omega arith)) in
      runs-of l (get_or hands k d) (get_or back k d) (get_or turns k None) (get_or now k None) (of k d None less) then (has k None d (omega arith))
