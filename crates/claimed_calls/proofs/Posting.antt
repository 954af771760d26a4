-- Each step at a post keeps its rule.
use Rattle.std.proofs.Common.{◌≡◌, ℕ, zero, suc, ◌==◌, List, [], ◌∷◌, ◌++◌, slice_index, slice_set, refl, sym, ap, ◌∙◌, subst, arith, Bool, true, false, MatchBool, Option, None, Some}
use Rattle.std.proofs.lemmas.Bool.Decides.{nat_tests}
use mathlib.Core.Option.{none, some}
use mathlib.Core.Option as maybe
use lib.ListN.{get_elem?}
use prog.Atomic.{either}
use Rattle.atomic_table.specs.Table.{State, step, Act, keeps, takes, gives, carried_after, stepped, Valid, Allows, Splits, opening, rest}
use Rattle.claimed_calls.specs.declared.role.Role.{Role}
use Rattle.claimed_calls.specs.declared.role.Role.TheVariants.{Fresh, Whole, Gives, Given, Serves, Serving}
use Rattle.claimed_calls.specs.Posts.{Stage, fresh, whole, away, free, handed, taken, done, word_of, home_of, roles_of, state_of, Fits, IsAtStage, Sat, role_of, first_in, is_given, SitsDown, IsUnchanged, Leaves, IsRecalled, Recalls, IsBack, TakesBack, IsTaken, TakesJob, Finishes}

module _ {J : Type 0} where
  abbrev number : Role J → ℕ
  number Fresh = 0
  number Whole = 1
  number Gives = 2
  number (Given j) = 3
  number Serves = 4
  number (Serving j) = 5

  abbrev of_some : Role J → maybe.Option (Role J) → Role J
  of_some d none = d
  of_some d (some r) = r

  abbrev is_some : maybe.Option (Role J) → ℕ
  is_some none = 0
  is_some (some r) = 1

  abbrev job_in : J → Role J → J
  job_in d (Serving x) = x
  job_in d (Given x) = x
  job_in d Fresh = d
  job_in d Whole = d
  job_in d Gives = d
  job_in d Serves = d

  -- who sits at a place of two, if the first is another, or the second is
  right : (a b x : Role J) (id : ℕ) → get_elem? (a ∷ b ∷ []) id ≡ some x → (number a ≡ number x → ⊥) → (id ≡ 1) × (b ≡ x)
  right a b x zero at differ = absurd (differ (ap number (ap (of_some x) at)))
  right a b x (suc zero) at differ = (refl, ap (of_some x) at)
  right a b x (suc (suc n)) at differ = absurd (let e : 0 ≡ 1 = ap is_some at in omega arith)

  left : (a b x : Role J) (id : ℕ) → get_elem? (a ∷ b ∷ []) id ≡ some x → (number b ≡ number x → ⊥) → (id ≡ 0) × (a ≡ x)
  left a b x zero at differ = (refl, ap (of_some x) at)
  left a b x (suc zero) at differ = absurd (differ (ap number (ap (of_some x) at)))
  left a b x (suc (suc n)) at differ = absurd (let e : 0 ≡ 1 = ap is_some at in omega arith)

  -- and who sits alone
  alone : (a x : Role J) (id : ℕ) → get_elem? (a ∷ []) id ≡ some x → (id ≡ 0) × (a ≡ x)
  alone a x zero at = (refl, ap (of_some x) at)
  alone a x (suc n) at = absurd (let e : 0 ≡ 1 = ap is_some at in omega arith)

  other : (a x : Role J) → (number a ≡ number x → ⊥) → a ≡ x → ⊥
  other a x differ is = differ (ap number is)

  -- the stages at which the other thread has nothing in hand
  abbrev MateFree : Stage J → Type 0
  MateFree fresh = ⊥
  MateFree whole = ⊥
  MateFree away = Unit {0}
  MateFree free = Unit {0}
  MateFree (handed j) = Unit {0}
  MateFree (taken j) = ⊥
  MateFree (done j k) = Unit {0}

  mate_free : (g : Stage J) (id : ℕ) → get_elem? (roles_of g) id ≡ some Serves → (id ≡ 1) × MateFree g
  mate_free fresh id at = absurd (other Fresh Serves (λ (e : 0 ≡ 4). omega arith) (alone Fresh Serves id at).1)
  mate_free whole id at = absurd (other Whole Serves (λ (e : 1 ≡ 4). omega arith) (alone Whole Serves id at).1)
  mate_free away id at = ((right Gives Serves Serves id at (λ (e : 2 ≡ 4). omega arith)).0, tt)
  mate_free free id at = ((right Gives Serves Serves id at (λ (e : 2 ≡ 4). omega arith)).0, tt)
  mate_free (handed j) id at = ((right (Given j) Serves Serves id at (λ (e : 3 ≡ 4). omega arith)).0, tt)
  mate_free (taken j) id at = absurd (other (Serving j) Serves (λ (e : 5 ≡ 4). omega arith) (right (Given j) (Serving j) Serves id at (λ (e : 3 ≡ 4). omega arith)).1)
  mate_free (done j k) id at = ((right (Given j) Serves Serves id at (λ (e : 3 ≡ 4). omega arith)).0, tt)

  -- the one at which it works on this job
  abbrev MateWorks : J → Stage J → Type 0
  MateWorks i (taken j) = Serving j ≡ Serving i
  MateWorks i fresh = ⊥
  MateWorks i whole = ⊥
  MateWorks i away = ⊥
  MateWorks i free = ⊥
  MateWorks i (handed j) = ⊥
  MateWorks i (done j k) = ⊥

  mate_works : (g : Stage J) (id : ℕ) (i : J) → get_elem? (roles_of g) id ≡ some (Serving i) → (id ≡ 1) × MateWorks i g
  mate_works fresh id i at = absurd (other Fresh (Serving i) (λ (e : 0 ≡ 5). omega arith) (alone Fresh (Serving i) id at).1)
  mate_works whole id i at = absurd (other Whole (Serving i) (λ (e : 1 ≡ 5). omega arith) (alone Whole (Serving i) id at).1)
  mate_works away id i at = absurd (other Serves (Serving i) (λ (e : 4 ≡ 5). omega arith) (right Gives Serves (Serving i) id at (λ (e : 2 ≡ 5). omega arith)).1)
  mate_works free id i at = absurd (other Serves (Serving i) (λ (e : 4 ≡ 5). omega arith) (right Gives Serves (Serving i) id at (λ (e : 2 ≡ 5). omega arith)).1)
  mate_works (handed j) id i at = absurd (other Serves (Serving i) (λ (e : 4 ≡ 5). omega arith) (right (Given j) Serves (Serving i) id at (λ (e : 3 ≡ 5). omega arith)).1)
  mate_works (taken j) id i at = right (Given j) (Serving j) (Serving i) id at (λ (e : 3 ≡ 5). omega arith)
  mate_works (done j k) id i at = absurd (other Serves (Serving i) (λ (e : 4 ≡ 5). omega arith) (right (Given j) Serves (Serving i) id at (λ (e : 3 ≡ 5). omega arith)).1)

  -- the stages at which no job is out
  abbrev EndIdle : Stage J → Type 0
  EndIdle fresh = ⊥
  EndIdle whole = ⊥
  EndIdle away = Unit {0}
  EndIdle free = Unit {0}
  EndIdle (handed j) = ⊥
  EndIdle (taken j) = ⊥
  EndIdle (done j k) = ⊥

  end_idle : (g : Stage J) (id : ℕ) → get_elem? (roles_of g) id ≡ some Gives → (id ≡ 0) × EndIdle g
  end_idle fresh id at = absurd (other Fresh Gives (λ (e : 0 ≡ 2). omega arith) (alone Fresh Gives id at).1)
  end_idle whole id at = absurd (other Whole Gives (λ (e : 1 ≡ 2). omega arith) (alone Whole Gives id at).1)
  end_idle away id at = ((left Gives Serves Gives id at (λ (e : 4 ≡ 2). omega arith)).0, tt)
  end_idle free id at = ((left Gives Serves Gives id at (λ (e : 4 ≡ 2). omega arith)).0, tt)
  end_idle (handed j) id at = absurd (other (Given j) Gives (λ (e : 3 ≡ 2). omega arith) (left (Given j) Serves Gives id at (λ (e : 4 ≡ 2). omega arith)).1)
  end_idle (taken j) id at = absurd (other (Given j) Gives (λ (e : 3 ≡ 2). omega arith) (left (Given j) (Serving j) Gives id at (λ (e : 5 ≡ 2). omega arith)).1)
  end_idle (done j k) id at = absurd (other (Given j) Gives (λ (e : 3 ≡ 2). omega arith) (left (Given j) Serves Gives id at (λ (e : 4 ≡ 2). omega arith)).1)

  -- a seat whose job is out
  job_of : (r : Role J) → is_given r ≡ true → (j : J) × (r ≡ Given j)
  job_of Fresh is = absurd (let e : false ≡ true = is in cc)
  job_of Whole is = absurd (let e : false ≡ true = is in cc)
  job_of Gives is = absurd (let e : false ≡ true = is in cc)
  job_of (Given j) is = (j, refl)
  job_of Serves is = absurd (let e : false ≡ true = is in cc)
  job_of (Serving j) is = absurd (let e : false ≡ true = is in cc)

  -- the stages at which this job is out
  abbrev EndOut : J → Stage J → Type 0
  EndOut i fresh = ⊥
  EndOut i whole = ⊥
  EndOut i away = ⊥
  EndOut i free = ⊥
  EndOut i (handed j) = Given j ≡ Given i
  EndOut i (taken j) = Given j ≡ Given i
  EndOut i (done j k) = Given j ≡ Given i

  end_out : (g : Stage J) (id : ℕ) (i : J) → get_elem? (roles_of g) id ≡ some (Given i) → (id ≡ 0) × EndOut i g
  end_out fresh id i at = absurd (other Fresh (Given i) (λ (e : 0 ≡ 3). omega arith) (alone Fresh (Given i) id at).1)
  end_out whole id i at = absurd (other Whole (Given i) (λ (e : 1 ≡ 3). omega arith) (alone Whole (Given i) id at).1)
  end_out away id i at = absurd (other Gives (Given i) (λ (e : 2 ≡ 3). omega arith) (left Gives Serves (Given i) id at (λ (e : 4 ≡ 3). omega arith)).1)
  end_out free id i at = absurd (other Gives (Given i) (λ (e : 2 ≡ 3). omega arith) (left Gives Serves (Given i) id at (λ (e : 4 ≡ 3). omega arith)).1)
  end_out (handed j) id i at = left (Given j) Serves (Given i) id at (λ (e : 4 ≡ 3). omega arith)
  end_out (taken j) id i at = left (Given j) (Serving j) (Given i) id at (λ (e : 5 ≡ 3). omega arith)
  end_out (done j k) id i at = left (Given j) Serves (Given i) id at (λ (e : 4 ≡ 3). omega arith)

  abbrev IsFresh : Stage J → Type 0
  IsFresh fresh = Unit {0}
  IsFresh whole = ⊥
  IsFresh away = ⊥
  IsFresh free = ⊥
  IsFresh (handed j) = ⊥
  IsFresh (taken j) = ⊥
  IsFresh (done j k) = ⊥

  is_fresh : (g : Stage J) (id : ℕ) → get_elem? (roles_of g) id ≡ some Fresh → (id ≡ 0) × IsFresh g
  is_fresh fresh id at = ((alone Fresh Fresh id at).0, tt)
  is_fresh whole id at = absurd (other Whole Fresh (λ (e : 1 ≡ 0). omega arith) (alone Whole Fresh id at).1)
  is_fresh away id at = absurd (other Serves Fresh (λ (e : 4 ≡ 0). omega arith) (right Gives Serves Fresh id at (λ (e : 2 ≡ 0). omega arith)).1)
  is_fresh free id at = absurd (other Serves Fresh (λ (e : 4 ≡ 0). omega arith) (right Gives Serves Fresh id at (λ (e : 2 ≡ 0). omega arith)).1)
  is_fresh (handed j) id at = absurd (other Serves Fresh (λ (e : 4 ≡ 0). omega arith) (right (Given j) Serves Fresh id at (λ (e : 3 ≡ 0). omega arith)).1)
  is_fresh (taken j) id at = absurd (other (Serving j) Fresh (λ (e : 5 ≡ 0). omega arith) (right (Given j) (Serving j) Fresh id at (λ (e : 3 ≡ 0). omega arith)).1)
  is_fresh (done j k) id at = absurd (other Serves Fresh (λ (e : 4 ≡ 0). omega arith) (right (Given j) Serves Fresh id at (λ (e : 3 ≡ 0). omega arith)).1)

  abbrev IsWhole : Stage J → Type 0
  IsWhole fresh = ⊥
  IsWhole whole = Unit {0}
  IsWhole away = ⊥
  IsWhole free = ⊥
  IsWhole (handed j) = ⊥
  IsWhole (taken j) = ⊥
  IsWhole (done j k) = ⊥

  is_whole : (g : Stage J) (id : ℕ) → get_elem? (roles_of g) id ≡ some Whole → (id ≡ 0) × IsWhole g
  is_whole fresh id at = absurd (other Fresh Whole (λ (e : 0 ≡ 1). omega arith) (alone Fresh Whole id at).1)
  is_whole whole id at = ((alone Whole Whole id at).0, tt)
  is_whole away id at = absurd (other Serves Whole (λ (e : 4 ≡ 1). omega arith) (right Gives Serves Whole id at (λ (e : 2 ≡ 1). omega arith)).1)
  is_whole free id at = absurd (other Serves Whole (λ (e : 4 ≡ 1). omega arith) (right Gives Serves Whole id at (λ (e : 2 ≡ 1). omega arith)).1)
  is_whole (handed j) id at = absurd (other Serves Whole (λ (e : 4 ≡ 1). omega arith) (right (Given j) Serves Whole id at (λ (e : 3 ≡ 1). omega arith)).1)
  is_whole (taken j) id at = absurd (other (Serving j) Whole (λ (e : 5 ≡ 1). omega arith) (right (Given j) (Serving j) Whole id at (λ (e : 3 ≡ 1). omega arith)).1)
  is_whole (done j k) id at = absurd (other Serves Whole (λ (e : 4 ≡ 1). omega arith) (right (Given j) Serves Whole id at (λ (e : 3 ≡ 1). omega arith)).1)

module _ {J : Type 0} where
  abbrev second_of : Option J → List (ℕ × Option J) → Option J
  second_of d [] = d
  second_of d (x ∷ xs) = x.1

module _ {J : Type 0} (asks : J → Type 0) (does : J → J → Type 0) where
  abbrev St : Type 0
  St = State (Option J) (Role J)

  kept : (g : Stage J) → Fits asks does g → IsAtStage asks does (state_of g)
  kept g f = record { stage = g; is = refl; fits = f }

  -- the seat can take the step, and knows this afterwards
  abbrev Can : Sat J → (ℕ → ℕ) → (ℕ → Sat J → Type 0) → ℕ → St → Type 0
  Can me f then id s =
      (w : Role J) × (a : Act (Option J)) × Valid s.homes me.1 a × IsAtStage asks does (stepped s 0 (f (slice_index s.words 0)) id me.1 w a)
      × then (slice_index s.words 0) (w, carried_after me.1 a)

  allows : (slots id : ℕ) (me : Sat J) (f : ℕ → ℕ) (then : ℕ → Sat J → Type 0)
      → ((g : Stage J) → Fits asks does g → get_elem? (roles_of g) id ≡ some me.0 → Can me f then id (state_of g))
      → Allows (IsAtStage asks does) slots id me 0 f then
  allows slots id me f then can s k _ at _ =
      subst (λ (x : St). get_elem? x.views id ≡ some me.0 → Can me f then id x) (sym k.is) (can k.stage k.fits) at

  -- at the place of the owner, and of the other thread
  at_first : (me : Sat J) (f : ℕ → ℕ) (then : ℕ → Sat J → Type 0) (id : ℕ) (s : St) → id ≡ 0 → Can me f then 0 s → Can me f then id s
  at_first me f then id s is can = subst (λ (n : ℕ). Can me f then n s) (sym is) can

  at_second : (me : Sat J) (f : ℕ → ℕ) (then : ℕ → Sat J → Type 0) (id : ℕ) (s : St) → id ≡ 1 → Can me f then 1 s → Can me f then id s
  at_second me f then id s is can = subst (λ (n : ℕ). Can me f then n s) (sym is) can

  pub opens : IsAtStage asks does (opening (0 ∷ []) (None ∷ []) Fresh)
  opens = kept fresh tt

  pub sits : (slots id : ℕ) (me : Sat J) → me ≡ (Fresh, []) → Allows (IsAtStage asks does) slots id me 0 (λ n. n) (SitsDown (step slots 0 0 0 none) me)
  sits slots id me is = subst (λ (m : Sat J). Allows (IsAtStage asks does) slots id m 0 (λ n. n) (SitsDown (step slots 0 0 0 none) m)) (sym is)
      (allows slots id (Fresh, []) (λ n. n) (SitsDown (step slots 0 0 0 none) (Fresh, [])) (λ g f at. (let p = is_fresh g id at in at_first (Fresh, []) (λ n. n) (SitsDown (step slots 0 0 0 none) (Fresh, [])) id (state_of g) p.0 (by_stage g p.1))))
    where
      by_stage : (g : Stage J) → IsFresh g → Can (Fresh, []) (λ n. n) (SitsDown (step slots 0 0 0 none) (Fresh, [])) 0 (state_of g)
      by_stage whole p = absurd p
      by_stage away p = absurd p
      by_stage free p = absurd p
      by_stage (handed j) p = absurd p
      by_stage (taken j) p = absurd p
      by_stage (done j k) p = absurd p
      by_stage fresh p = (Whole, takes 0 None, refl, kept whole tt, refl)

  pub splits : (id : ℕ) (v : Role J) → v ≡ Whole → Splits (IsAtStage asks does) id v Gives Serves
  splits id v is s k at = subst (λ (x : St). get_elem? x.views id ≡ some v → IsAtStage asks does record { words = x.words; homes = x.homes; views = slice_set x.views id Gives ++ Serves ∷ [] }) (sym k.is)
      (λ here. (let p = is_whole k.stage id (here ∙ ap some is) in at_zero k.stage p.0 p.1)) at
    where
      at_zero : (g : Stage J) → id ≡ 0 → IsWhole g → IsAtStage asks does record { words = word_of g ∷ []; homes = home_of g ∷ []; views = slice_set (roles_of g) id Gives ++ Serves ∷ [] }
      at_zero fresh zero_is p = absurd p
      at_zero away zero_is p = absurd p
      at_zero free zero_is p = absurd p
      at_zero (handed j) zero_is p = absurd p
      at_zero (taken j) zero_is p = absurd p
      at_zero (done j k) zero_is p = absurd p
      at_zero whole zero_is p = subst (λ (n : ℕ). IsAtStage asks does record { words = 0 ∷ []; homes = none ∷ []; views = slice_set (Whole ∷ []) n Gives ++ Serves ∷ [] }) (sym zero_is) (kept free tt)

  -- the other thread goes
  pub goes : (slots id : ℕ) (me : Sat J) → me ≡ (Serves, []) → Allows (IsAtStage asks does) slots id me 0 (λ n. either (n == 0) 3 n) (IsUnchanged (step slots 0 0 3 none) me)
  goes slots id me is = subst (λ (m : Sat J). Allows (IsAtStage asks does) slots id m 0 (λ n. either (n == 0) 3 n) (IsUnchanged (step slots 0 0 3 none) m)) (sym is)
      (allows slots id (Serves, []) (λ n. either (n == 0) 3 n) (IsUnchanged (step slots 0 0 3 none) (Serves, [])) (λ g f at. (let p = mate_free g id at in at_second (Serves, []) (λ n. either (n == 0) 3 n) (IsUnchanged (step slots 0 0 3 none) (Serves, [])) id (state_of g) p.0 (by_stage g f p.1))))
    where
      by_stage : (g : Stage J) → Fits asks does g → MateFree g → Can (Serves, []) (λ n. either (n == 0) 3 n) (IsUnchanged (step slots 0 0 3 none) (Serves, [])) 1 (state_of g)
      by_stage fresh f p = absurd p
      by_stage whole f p = absurd p
      by_stage (taken j) f p = absurd p
      by_stage away f p = (Serves, keeps, tt, kept away tt, refl)
      by_stage free f p = (Serves, keeps, tt, kept away tt, refl)
      by_stage (handed j) f p = (Serves, keeps, tt, kept (handed j) f, refl)
      by_stage (done j k) f p = (Serves, keeps, tt, kept (done j k) f, refl)

  -- the other thread takes a job that waits
  pub takes_job : (slots id : ℕ) (me : Sat J) → me ≡ (Serves, []) → Allows (IsAtStage asks does) slots id me 0 (λ n. either (n == 1) 4 n) (TakesJob asks (step slots 0 1 4 none) me)
  takes_job slots id me is = subst (λ (m : Sat J). Allows (IsAtStage asks does) slots id m 0 (λ n. either (n == 1) 4 n) (TakesJob asks (step slots 0 1 4 none) m)) (sym is)
      (allows slots id (Serves, []) (λ n. either (n == 1) 4 n) (TakesJob asks (step slots 0 1 4 none) (Serves, [])) (λ g f at. (let p = mate_free g id at in at_second (Serves, []) (λ n. either (n == 1) 4 n) (TakesJob asks (step slots 0 1 4 none) (Serves, [])) id (state_of g) p.0 (by_stage g f p.1))))
    where
      by_stage : (g : Stage J) → Fits asks does g → MateFree g → Can (Serves, []) (λ n. either (n == 1) 4 n) (TakesJob asks (step slots 0 1 4 none) (Serves, [])) 1 (state_of g)
      by_stage fresh f p = absurd p
      by_stage whole f p = absurd p
      by_stage (taken j) f p = absurd p
      by_stage away f p = (Serves, keeps, tt, kept away tt, refl)
      by_stage free f p = (Serves, keeps, tt, kept free tt, refl)
      by_stage (handed j) f p = (Serving j, takes 0 (Some j), refl, kept (taken j) f, record { job = j; may = f; now = refl })
      by_stage (done j k) f p = (Serves, keeps, tt, kept (done j k) f, refl)

  -- and puts there what it made of the job
  pub finishes : (slots id : ℕ) (me : Sat J) (j k : J) → me ≡ (Serving j, (0, Some k) ∷ []) → does j k → Allows (IsAtStage asks does) slots id me 0 (λ _. 2) (λ _. Finishes (step slots 0 2 0 none) me 2)
  finishes slots id me j k is d = subst (λ (m : Sat J). Allows (IsAtStage asks does) slots id m 0 (λ _. 2) (λ _. Finishes (step slots 0 2 0 none) m 2)) (sym is)
      (allows slots id (Serving j, (0, Some k) ∷ []) (λ _. 2) (λ _. Finishes (step slots 0 2 0 none) (Serving j, (0, Some k) ∷ []) 2) (λ g f at. (let p = mate_works g id j at in at_second (Serving j, (0, Some k) ∷ []) (λ _. 2) (λ _. Finishes (step slots 0 2 0 none) (Serving j, (0, Some k) ∷ []) 2) id (state_of g) p.0 (by_stage g p.1))))
    where
      by_stage : (g : Stage J) → MateWorks j g → Can (Serving j, (0, Some k) ∷ []) (λ _. 2) (λ _. Finishes (step slots 0 2 0 none) (Serving j, (0, Some k) ∷ []) 2) 1 (state_of g)
      by_stage fresh p = absurd p
      by_stage whole p = absurd p
      by_stage away p = absurd p
      by_stage free p = absurd p
      by_stage (handed x) p = absurd p
      by_stage (done x y) p = absurd p
      by_stage (taken x) p = (Serves, gives, tt, kept (done x k) (subst (λ (y : J). does y k) (sym (ap (job_in j) p)) d), refl)

  -- the owner leaves a job
  pub leaves : (slots id : ℕ) (me : Sat J) (j : J) → me ≡ (Gives, (0, Some j) ∷ []) → asks j → Allows (IsAtStage asks does) slots id me 0 (λ n. either (n == 0) 1 n) (Leaves (step slots 0 0 1 none) me)
  leaves slots id me j is may = subst (λ (m : Sat J). Allows (IsAtStage asks does) slots id m 0 (λ n. either (n == 0) 1 n) (Leaves (step slots 0 0 1 none) m)) (sym is)
      (allows slots id (Gives, (0, Some j) ∷ []) (λ n. either (n == 0) 1 n) (Leaves (step slots 0 0 1 none) (Gives, (0, Some j) ∷ [])) (λ g f at. (let p = end_idle g id at in at_first (Gives, (0, Some j) ∷ []) (λ n. either (n == 0) 1 n) (Leaves (step slots 0 0 1 none) (Gives, (0, Some j) ∷ [])) id (state_of g) p.0 (by_stage g p.1))))
    where
      by_stage : (g : Stage J) → EndIdle g → Can (Gives, (0, Some j) ∷ []) (λ n. either (n == 0) 1 n) (Leaves (step slots 0 0 1 none) (Gives, (0, Some j) ∷ [])) 0 (state_of g)
      by_stage fresh p = absurd p
      by_stage whole p = absurd p
      by_stage (handed x) p = absurd p
      by_stage (taken x) p = absurd p
      by_stage (done x y) p = absurd p
      by_stage away p = (Gives, keeps, tt, kept away tt, refl)
      by_stage free p = (Given j, gives, tt, kept (handed j) may, refl)

  -- the owner takes back what was made of the job
  pub takes_back : (slots id : ℕ) (me : Sat J) → is_given me.0 ≡ true → me.1 ≡ [] → Allows (IsAtStage asks does) slots id me 0 (λ n. either (n == 2) 0 n) (TakesBack does (step slots 0 2 0 none) me)
  takes_back slots id me given empty =
      let j = job_of me.0 given in
      let is : me ≡ (Given j.0, []) = (λ i. (j.1 i, empty i)) in
      subst (λ (m : Sat J). Allows (IsAtStage asks does) slots id m 0 (λ n. either (n == 2) 0 n) (TakesBack does (step slots 0 2 0 none) m)) (sym is)
      (allows slots id (Given j.0, []) (λ n. either (n == 2) 0 n) (TakesBack does (step slots 0 2 0 none) (Given j.0, [])) (λ g f at. (let p = end_out g id j.0 at in at_first (Given j.0, []) (λ n. either (n == 2) 0 n) (TakesBack does (step slots 0 2 0 none) (Given j.0, [])) id (state_of g) p.0 (by_stage j.0 g f p.1))))
    where
      by_stage : (i : J) (g : Stage J) → Fits asks does g → EndOut i g → Can (Given i, []) (λ n. either (n == 2) 0 n) (TakesBack does (step slots 0 2 0 none) (Given i, [])) 0 (state_of g)
      by_stage i fresh f p = absurd p
      by_stage i whole f p = absurd p
      by_stage i away f p = absurd p
      by_stage i free f p = absurd p
      by_stage i (handed j) f p = (Given j, keeps, tt, kept (handed j) f, (λ k. (p k, [])))
      by_stage i (taken j) f p = (Given j, keeps, tt, kept (taken j) f, (λ k. (p k, [])))
      by_stage i (done j k) f p = (Gives, takes 0 (Some k), refl, kept free tt, record { job = j; given = sym p; back = k; worked = f; now = refl })

  -- the owner takes back a job that waits
  pub recalls : (slots id : ℕ) (me : Sat J) → is_given me.0 ≡ true → me.1 ≡ [] → Allows (IsAtStage asks does) slots id me 0 (λ n. either (n == 1) 0 n) (Recalls asks (step slots 0 1 0 none) me)
  recalls slots id me given empty =
      let j = job_of me.0 given in
      let is : me ≡ (Given j.0, []) = (λ i. (j.1 i, empty i)) in
      subst (λ (m : Sat J). Allows (IsAtStage asks does) slots id m 0 (λ n. either (n == 1) 0 n) (Recalls asks (step slots 0 1 0 none) m)) (sym is)
      (allows slots id (Given j.0, []) (λ n. either (n == 1) 0 n) (Recalls asks (step slots 0 1 0 none) (Given j.0, [])) (λ g f at. (let p = end_out g id j.0 at in at_first (Given j.0, []) (λ n. either (n == 1) 0 n) (Recalls asks (step slots 0 1 0 none) (Given j.0, [])) id (state_of g) p.0 (by_stage j.0 g f p.1))))
    where
      by_stage : (i : J) (g : Stage J) → Fits asks does g → EndOut i g → Can (Given i, []) (λ n. either (n == 1) 0 n) (Recalls asks (step slots 0 1 0 none) (Given i, [])) 0 (state_of g)
      by_stage i fresh f p = absurd p
      by_stage i whole f p = absurd p
      by_stage i away f p = absurd p
      by_stage i free f p = absurd p
      by_stage i (handed j) f p = (Gives, takes 0 (Some j), refl, kept free tt, record { job = j; given = sym p; may = f; now = refl })
      by_stage i (taken j) f p = (Given j, keeps, tt, kept (taken j) f, (λ k. (p k, [])))
      by_stage i (done x y) f p = (Given x, keeps, tt, kept (done x y) f, (λ k. (p k, [])))

  -- what a step tells where it found this, and where it did not
  pub taken_there : (m n : Sat J) (found : ℕ) → found ≡ 1 → MatchBool (found == 1) (IsTaken asks n) (n ≡ m) → IsTaken asks n
  taken_there m n found is told = subst (λ (x : ℕ). MatchBool (x == 1) (IsTaken asks n) (n ≡ m)) is told

  pub recalled_there : (m n : Sat J) (found : ℕ) → found ≡ 1 → MatchBool (found == 1) (IsRecalled asks m n) (n ≡ m) → IsRecalled asks m n
  recalled_there m n found is told = subst (λ (x : ℕ). MatchBool (x == 1) (IsRecalled asks m n) (n ≡ m)) is told

  pub back_there : (m n : Sat J) (found : ℕ) → found ≡ 2 → MatchBool (found == 2) (IsBack does m n) (n ≡ m) → IsBack does m n
  back_there m n found is told = subst (λ (x : ℕ). MatchBool (x == 2) (IsBack does m n) (n ≡ m)) is told

module _ {J : Type 0} where
  pub left_there : (m n : Sat J) (found : ℕ) → found ≡ 0 → MatchBool (found == 0) (n ≡ (role_of (first_in m.1), [])) (n ≡ m) → n ≡ (role_of (first_in m.1), [])
  left_there m n found is told = subst (λ (x : ℕ). MatchBool (x == 0) (n ≡ (role_of (first_in m.1), [])) (n ≡ m)) is told

  pub not_there : (A : Type 0) (k : ℕ) (m n : Sat J) (found : ℕ) → (found ≡ k → ⊥) → MatchBool (found == k) A (n ≡ m) → n ≡ m
  not_there A k m n found differ told = by_test (found == k) refl told
    where
      by_test : (b : Bool) → (found == k) ≡ b → MatchBool b A (n ≡ m) → n ≡ m
      by_test true e h = absurd (differ (grind (arith, nat_tests)))
      by_test false e h = h

  -- the place in hand, with what lies in it
  pub in_hand : (m : Sat J) (r : Role J) (x : Option J) → m ≡ (r, (0, x) ∷ []) → m.1 ≡ (0, x) ∷ rest m.1
  in_hand m r x is = let e = ap (λ (n : Sat J). n.1) is in e ∙ ap (λ (l : List (ℕ × Option J)). (0, x) ∷ rest l) (sym e)

  -- what was put there
  pub put_in : (m n : Sat J) (r : Role J) (x y : Option J) → m ≡ (r, (0, x) ∷ []) → n ≡ (m.0, (0, y) ∷ rest m.1) → n ≡ (r, (0, y) ∷ [])
  put_in m n r x y is now = now ∙ ap (λ (k : Sat J). (k.0, (0, y) ∷ rest k.1)) is

  -- what was found there
  pub found_in : (m : Sat J) (r : Role J) (x z : Option J) → m ≡ (r, (0, x) ∷ []) → m.1 ≡ (0, z) ∷ rest m.1 → z ≡ x
  found_in m r x z is found = ap (second_of z) (sym found) ∙ ap (λ (k : Sat J). second_of z k.1) is

  abbrev value_or : J → Option J → J
  value_or d None = d
  value_or d (Some x) = x

  -- what is the same inside
  pub some_of : {x : J} (y : J) → Some x ≡ Some y → x ≡ y
  some_of y is = ap (value_or y) is
