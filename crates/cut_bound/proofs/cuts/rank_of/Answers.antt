use Rattle.std.proofs.Common.{◌≡◌, ℕ, ◌+◌, ◌<◌, ◌≤◌, length, get_or, Ok, Err, refl}
use Rattle.std.proofs.lemmas.List.Sorted.{searched}
use Rattle.cut_bound.proofs.Levelling.{not-falling, rank-between, rank-found}
use Rattle.cut_bound.proofs.cuts.rank_of.Goals as goal

pub returns-in-Ok-clause-below : goal.returns-in-Ok-clause-below
returns-in-Ok-clause-below c =
    let levels = c.args.levels.now in
    let i = c.in-Ok.i in
    let found : (i < length levels) × (get_or levels i 0 ≡ c.args.value) = searched levels c.args.value (Ok i) c.in-Ok.ensures.position (not-falling levels c.requires.ascending) in
    rank-found levels c.args.value i (i + 1) c.requires.ascending found.1 found.0 refl

pub returns-in-Err-clause-below : goal.returns-in-Err-clause-below
returns-in-Err-clause-below c =
    let levels = c.args.levels.now in
    let i = c.in-Err.i in
    let found : (i ≤ length levels) × ((k : ℕ) → k < i → get_or levels k 0 < c.args.value) × ((k : ℕ) → i ≤ k → k < length levels → c.args.value < get_or levels k 0)
    = searched levels c.args.value (Err i) c.in-Err.ensures.position (not-falling levels c.requires.ascending) in
    rank-between levels c.args.value i i found.1 found.2 refl
