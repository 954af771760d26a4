-- Jobs that are worked on.
use Rattle.std.specs.Prelude.{◌≡◌, Option, None, Some}
use Rattle.claimed_calls.specs.declared.role.Role.{Role}
use Rattle.claimed_calls.specs.declared.role.Role.TheVariants.{Given}

module _ {J : Type 0} where
  -- there is a job, and the fact holds of it
  abbrev pub Waits : (J → Type 0) → Option J → Type 0
  Waits asks None = ⊥
  Waits asks (Some j) = asks j

  -- a job was here, and what the work made of it is
  abbrev pub IsWorked : (J → J → Type 0) → Option J → Option J → Type 0
  IsWorked does (Some j) (Some k) = does j k
  IsWorked does _ _ = ⊥

  -- the job that waited is out at this seat
  abbrev pub IsOut : Option J → Role J → Type 0
  IsOut job seat = (j : J) × (job ≡ Some j) × (seat ≡ Given j)
