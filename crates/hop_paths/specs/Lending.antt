-- The scratch after its path was lent.
use Rattle.std.specs.Prelude.{◌≡◌, ⊤}
use Rattle.std.specs.Borrow.{follows_so, MutBor, Fml}
use mathlib.Core.Option.{none}
use Rattle.hop_paths.specs.contracts.scratch.HopScratch.{the_row}
use Rattle.hop_paths.specs.Searched.{HopSearched}

-- the scratch ends as it was
abbrev pub Keeps : MutBor HopSearched → Fml
Keeps s = follows_so the_row the_row s.ghost_name none (λ _ _. ⊤) (λ n. n ≡ s.now)
