use Rattle.std.proofs.Common.{◌≡◌, ℕ, ◌+◌, ◌<◌, ◌∷◌, get_or}
use Rattle.load_table.specs.Places.{place}
use Rattle.load_table.proofs.loads.put_bases.Given as goal

abbrev pub invariant-loop-cell : goal.invariant-loop-cell
invariant-loop-cell l = record { each : (i : ℕ) → i < l.cell + 1 → get_or l.words (place l.wide i) 0 ≡ get_or (0 ∷ l.base) i 0 }
