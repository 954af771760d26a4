-- What is claimed, entry by entry, and what is put into slots.
use Rattle.std.proofs.Common.{◌≡◌, ◌⊎◌, inl, inr, ℕ, zero, suc, ◌+◌, ◌<◌, List, [], ◌∷◌, ◌++◌, length, get_or, set, get_or-set_other, Option, None, Some, Result, Ok, sym, ap, subst, ◌∙◌, append_assoc, arith}
use Rattle.std.specs.List.{Contains}
use Rattle.std.specs.declared.alloc.AllocError.{AllocError}
use Rattle.std.specs.Fn.{FnReturns}
use Rattle.std.proofs.lemmas.List.Elements.{Contains-append_cases, Contains-append_left, Contains-append_right}
use Rattle.std.proofs.lemmas.List.{append-nil}
use Rattle.std.proofs.lemmas.Bool.{cases_lt}
use Rattle.std.proofs.lemmas.Grind.{get_or-set_at}
use denote.Param.Members.{Shared}
use Rattle.claimed_calls.specs.Answers.{IsKept, IsPut, Answers, IsSlot, AreClaimed}

-- the one element
only_one : {X : Type 0} (e y : X) → Contains (e ∷ []) y → e ≡ y
only_one e y (zero, lt, is) = is
only_one e y (suc k, lt, is) = absurd (omega arith)

module _ {F T : Type 0} (g : Shared F (ℕ × Unit {0}) (Result T AllocError)) (f : F) where
  -- an entry more, or none
  pub claimed_more : (i : ℕ) (answer : Result T AllocError) (old new : List (ℕ × T)) → AreClaimed g f old → FnReturns g f (i, tt) answer → IsKept i answer old new → AreClaimed g f new
  claimed_more i answer old new h called kept = by_cases kept.from
    where
      of : (x : T) → answer ≡ Ok x → (j : ℕ) (y : T) → Contains {X = ℕ × T} old (j, y) ⊎ Contains {X = ℕ × T} ((i, x) ∷ []) (j, y) → Answers g f j y
      of x is j y (inl before) = h.each j y before
      of x is j y (inr last) =
          let same : (i, x) ≡ (j, y) = only_one (i, x) (j, y) last in
          let here : Answers g f i x = record { call = subst (λ (r : Result T AllocError). FnReturns g f (i, tt) r) is called } in
          subst (λ (e : ℕ × T). Answers g f e.0 e.1) same here

      by_cases : (new ≡ old) ⊎ ((x : T) × (answer ≡ Ok x) × (new ≡ old ++ (i, x) ∷ [])) → AreClaimed g f new
      by_cases (inl same) = subst (λ (es : List (ℕ × T)). AreClaimed g f es) (sym same) h
      by_cases (inr (x, is, more)) =
          subst (λ (es : List (ℕ × T)). AreClaimed g f es) (sym more) (record { each = λ j y c. of x is j y (Contains-append_cases old ((i, x) ∷ []) (j, y) c) })

  -- what is put into a slot
  pub slot_put : (entries : List (ℕ × T)) (i : ℕ) (old new : Option T) → AreClaimed g f entries → IsSlot g f i old → IsPut entries i old new → IsSlot g f i new
  slot_put entries i old new h was put = by_cases put.from
    where
      by_cases : (new ≡ old) ⊎ ((x : T) × Contains {X = ℕ × T} entries (i, x) × (new ≡ Some x)) → IsSlot g f i new
      by_cases (inl same) = subst (λ (s : Option T). IsSlot g f i s) (sym same) was
      by_cases (inr (x, there, is)) = subst (λ (s : Option T). IsSlot g f i s) (sym is) (record { value = h.each i x there })

-- a place more that is right
pub set_each : {X : Type 0} (P : X → Type 0) (xs : List X) (i : ℕ) (x : X) → P x → ((k : ℕ) (d : X) → k < i → P (get_or xs k d)) → i < length xs
    → (k : ℕ) (d : X) → k < i + 1 → P (get_or (set xs i x) k d)
set_each P xs i x here h lt k d below =
    elim (cases_lt k i) [
      | inl before ↦ subst P (sym (get_or-set_other xs i k x d (omega arith))) (h k d before)
      | inr ge ↦ subst P (sym (get_or-set_at xs i k x d (omega arith) lt)) here
    ]

-- one entry is put into its slot
pub one_put : {T : Type 0} (slots : List (Option T)) (n : ℕ) (x : T) (i : ℕ) → n < length slots → IsPut ((n, x) ∷ []) i (get_or slots i None) (get_or (set slots n (Some x)) i None)
one_put slots n x i lt =
    elim (cases_lt i n) [
      | inl before ↦ record { from = inl (get_or-set_other slots n i (Some x) None (omega arith)) }
      | inr ge ↦ elim (cases_lt n i) [
        | inl after ↦ record { from = inl (get_or-set_other slots n i (Some x) None (omega arith)) }
        | inr le ↦ (let same : i ≡ n = omega arith in
            record { from = inr (x, (0, omega arith, ap (λ (j : ℕ). (j, x)) (sym same)), get_or-set_at slots n i (Some x) None same lt) })
      ]
    ]

-- some entries are put after others
pub then_put : {T : Type 0} (xs ys : List (ℕ × T)) (i : ℕ) (a b c : Option T) → IsPut xs i a b → IsPut ys i b c → IsPut (xs ++ ys) i a c
then_put {T} xs ys i a b c first second = record { from = by_second second.from }
  where
    by_first : c ≡ b → (b ≡ a) ⊎ ((x : T) × Contains {X = ℕ × T} xs (i, x) × (b ≡ Some x)) → (c ≡ a) ⊎ ((x : T) × Contains {X = ℕ × T} (xs ++ ys) (i, x) × (c ≡ Some x))
    by_first same (inl kept) = inl (same ∙ kept)
    by_first same (inr (x, there, is)) = inr (x, Contains-append_left xs ys (i, x) there, same ∙ is)

    by_second : (c ≡ b) ⊎ ((x : T) × Contains {X = ℕ × T} ys (i, x) × (c ≡ Some x)) → (c ≡ a) ⊎ ((x : T) × Contains {X = ℕ × T} (xs ++ ys) (i, x) × (c ≡ Some x))
    by_second (inl same) = by_first same first.from
    by_second (inr (x, there, is)) = inr (x, Contains-append_right xs ys (i, x) there, is)

-- what holds of each in turn holds of the first, and of each of the rest
pub first_of : {X : Type 0} (P : X → Type 0) (all : List X) (x : X) (rest : List X) → all ≡ x ∷ rest → ((k : ℕ) (d : X) → k < length all → P (get_or all k d)) → P x
first_of {X} P all x rest same h = (subst (λ (l : List X). (k : ℕ) (d : X) → k < length l → P (get_or l k d)) same h) 0 x (omega arith)

pub rest_of : {X : Type 0} (P : X → Type 0) (all : List X) (x : X) (rest : List X) → all ≡ x ∷ rest → ((k : ℕ) (d : X) → k < length all → P (get_or all k d))
    → (k : ℕ) (d : X) → k < length rest → P (get_or rest k d)
rest_of {X} P all x rest same h k d lt = (subst (λ (l : List X). (k : ℕ) (d : X) → k < length l → P (get_or l k d)) same h) (suc k) d (omega arith)

-- nothing is left behind what was taken
pub none_left : {X : Type 0} (taken left all : List X) → taken ++ left ≡ all → length left ≡ 0 → taken ≡ all
none_left taken [] all same none = sym (append-nil taken) ∙ same
none_left taken (x ∷ xs) all same none = absurd (omega arith)

-- one more is taken of what is left
pub one_taken : {X : Type 0} (taken left all : List X) (x : X) (rest : List X) → left ≡ x ∷ rest → taken ++ left ≡ all → (taken ++ x ∷ []) ++ rest ≡ all
one_taken {X} taken left all x rest is same = append_assoc taken (x ∷ []) rest ∙ (ap (λ (l : List X). taken ++ l) (sym is) ∙ same)
