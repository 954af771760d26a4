-- A post, where a job waits to be worked on by another thread, and then for its owner.
use Rattle.std.specs.Prelude.{◌≡◌, ℕ, ◌==◌, Bool, true, false, List, [], ◌∷◌, Option, None, Some, MatchBool}
use mathlib.Core.Option.{none, some}
use mathlib.Core.Option as maybe
use Rattle.atomic_table.specs.Table.{State, Me, Step}
use Rattle.atomic_table.specs.Seated.{TableId}
use Rattle.claimed_calls.specs.declared.role.Role.{Role}
use Rattle.claimed_calls.specs.declared.role.Role.TheVariants.{Fresh, Whole, Gives, Given, Serves, Serving}

-- how far things have come: nobody has sat down, one has for both, no job is out (and whether the other thread has gone), one waits, one is
-- being worked on, one is done
pub data Stage (J : Type 0) : Type 0 where
  fresh : Stage J
  whole : Stage J
  away : Stage J
  free : Stage J
  handed : J → Stage J
  taken : J → Stage J
  done : J → J → Stage J

module _ {J : Type 0} where
  abbrev pub word_of : Stage J → ℕ
  word_of fresh = 0
  word_of whole = 0
  word_of away = 3
  word_of free = 0
  word_of (handed j) = 1
  word_of (taken j) = 4
  word_of (done j k) = 2

  -- what lies at the post, while nobody has it in hand
  abbrev pub home_of : Stage J → maybe.Option (Option J)
  home_of fresh = some None
  home_of whole = none
  home_of away = none
  home_of free = none
  home_of (handed j) = some (Some j)
  home_of (taken j) = none
  home_of (done j k) = some (Some k)

  abbrev pub roles_of : Stage J → List (Role J)
  roles_of fresh = Fresh ∷ []
  roles_of whole = Whole ∷ []
  roles_of away = Gives ∷ Serves ∷ []
  roles_of free = Gives ∷ Serves ∷ []
  roles_of (handed j) = Given j ∷ Serves ∷ []
  roles_of (taken j) = Given j ∷ Serving j ∷ []
  roles_of (done j k) = Given j ∷ Serves ∷ []

  abbrev pub state_of : Stage J → State (Option J) (Role J)
  state_of g = record { words = word_of g ∷ []; homes = home_of g ∷ []; views = roles_of g }

  -- a job that waits or is worked on may be, and one that is done is what the work made of it
  abbrev pub Fits : (J → Type 0) → (J → J → Type 0) → Stage J → Type 0
  Fits asks does fresh = Unit {0}
  Fits asks does whole = Unit {0}
  Fits asks does away = Unit {0}
  Fits asks does free = Unit {0}
  Fits asks does (handed j) = asks j
  Fits asks does (taken j) = asks j
  Fits asks does (done j k) = does j k

  pub record IsAtStage (asks : J → Type 0) (does : J → J → Type 0) (s : State (Option J) (Role J)) : Type 0 where
    pub stage : Stage J
    pub is : s ≡ state_of stage
    pub fits : Fits asks does stage

-- the two seats are at the post
abbrev pub AreAt : TableId → TableId → TableId → Type 0
AreAt post end mate = (end ≡ post) × (mate ≡ post)

abbrev pub Sat : Type 0 → Type 0
Sat J = Me (Option J) (Role J)

module _ {J : Type 0} where
  abbrev pub role_of : Option J → Role J
  role_of None = Gives
  role_of (Some j) = Given j

  abbrev pub first_in : List (ℕ × Option J) → Option J
  first_in [] = None
  first_in (x ∷ xs) = x.1

  -- the first seat takes the place in hand
  abbrev pub SitsDown : Step (Option J) → Sat J → ℕ → Sat J → Type 0
  SitsDown s m found n = n ≡ (Whole, (0, None) ∷ [])

  -- nothing more is known than before
  abbrev pub IsUnchanged : Step (Option J) → Sat J → ℕ → Sat J → Type 0
  IsUnchanged s m found n = n ≡ m

  -- the job in hand is left at the post where the other thread was free, and stays in hand else
  abbrev pub Leaves : Step (Option J) → Sat J → ℕ → Sat J → Type 0
  Leaves s m found n = MatchBool (found == 0) (n ≡ (role_of (first_in m.1), [])) (n ≡ m)

  -- the job that is worked on is out no more, and what was made of it is in hand
  pub record IsBack (does : J → J → Type 0) (m n : Sat J) : Type 0 where
    pub job : J
    pub given : m.0 ≡ Given job
    pub back : J
    pub worked : does job back
    pub now : n ≡ (Gives, (0, Some back) ∷ [])

  -- what lay at the post is taken in hand where it was done
  abbrev pub TakesBack : (J → J → Type 0) → Step (Option J) → Sat J → ℕ → Sat J → Type 0
  TakesBack does s m found n = MatchBool (found == 2) (IsBack does m n) (n ≡ m)

  pub record IsRecalled (asks : J → Type 0) (m n : Sat J) : Type 0 where
    pub job : J
    pub given : m.0 ≡ Given job
    pub may : asks job
    pub now : n ≡ (Gives, (0, Some job) ∷ [])

  -- the job is out no more, and in hand as it was, where it waited
  abbrev pub Recalls : (J → Type 0) → Step (Option J) → Sat J → ℕ → Sat J → Type 0
  Recalls asks s m found n = MatchBool (found == 1) (IsRecalled asks m n) (n ≡ m)

  pub record IsTaken (asks : J → Type 0) (n : Sat J) : Type 0 where
    pub job : J
    pub may : asks job
    pub now : n ≡ (Serving job, (0, Some job) ∷ [])

  -- the job is taken in hand where one waited
  abbrev pub TakesJob : (J → Type 0) → Step (Option J) → Sat J → ℕ → Sat J → Type 0
  TakesJob asks s m found n = MatchBool (found == 1) (IsTaken asks n) (n ≡ m)

  -- what was made of the job lies at the post
  abbrev pub Finishes : Step (Option J) → Sat J → ℕ → Sat J → Type 0
  Finishes s m found n = n ≡ (Serves, [])

  abbrev pub is_given : Role J → Bool
  is_given (Given j) = true
  is_given _ = false

  -- the owner's end: no job is out, and it has the place in hand; or one is
  abbrev pub IsEnd : Bool → Sat J → Type 0
  IsEnd out m = (out ≡ false → m ≡ (Gives, (0, None) ∷ [])) × (out ≡ true → (is_given m.0 ≡ true) × (m.1 ≡ []))

  -- the job that was out, as it was
  pub record IsAsGiven (asks : J → Type 0) (m : Sat J) (back : J) : Type 0 where
    pub given : m.0 ≡ Given back
    pub may : asks back

  -- the job that was out, and what the work made of it
  pub record IsMade (does : J → J → Type 0) (m : Sat J) (back : J) : Type 0 where
    pub job : J
    pub given : m.0 ≡ Given job
    pub worked : does job back
