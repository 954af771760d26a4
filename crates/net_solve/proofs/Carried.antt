-- What all rows of a run carry.
use Rattle.std.proofs.Common.{◌≡◌, ℕ, zero, suc, ◌+◌, ◌*◌, ◌<◌, List, [], ◌∷◌, length, map, get_or, refl, sym, ap, ◌∙◌, inl, inr, arith}
use Rattle.std.specs.Prelude.{All, Some, slice_get}
use Rattle.std.specs.List.{sum_by}
use Rattle.std.proofs.lemmas.List.Elements.{All-head, All-tail}
use Rattle.std.proofs.lemmas.List.Sums.{sum_by-cons}
use Rattle.flow_model.specs.declared.net.Commodity.{Commodity}
use Rattle.flow_model.specs.Network.{Network}
use Rattle.flow_model.specs.Routing.{Row, carried}
use Rattle.flow_model.proofs.Duality.{dot, dot-carried}
use Rattle.flow_paths.specs.Certificate.{IsRowOf}
use Rattle.solver_run.specs.declared.options.Entry.{Entry}
use Rattle.solver_run.specs.declared.options.SolveOptions.{SolveOptions}
use Rattle.solver_run.specs.History.{SolvedView, routed_in}
use Rattle.solver_run.specs.Run.{IsSolverRun}
use Rattle.solver_run.specs.Headline.{IsSolved}
use Rattle.net_solve.specs.Tally.{total_of, routes_of, carried_of}
use Rattle.net_solve.proofs.Entries.{run-routes}

-- 1 for each commodity
abbrev ones : List Commodity → List ℕ
ones ks = map (λ k. 1) ks

one_at : (ks : List Commodity) (i : ℕ) → i < length ks → get_or (ones ks) i 0 ≡ 1
one_at [] i inside = absurd (omega arith)
one_at (k ∷ ks) zero inside = refl
one_at (k ∷ ks) (suc i) inside = one_at ks i (omega arith)

-- the weights of all rows are what all commodities are carried
rows-carried : (net : Network) (rows : List Row) → All (IsRowOf net) rows → sum_by (λ r. r.weight * get_or (ones net.commodities) r.commodity 0) rows ≡ carried_of rows
rows-carried net [] all = refl
rows-carried net (r ∷ rows) all =
    let here : get_or (ones net.commodities) r.commodity 0 ≡ 1 = one_at net.commodities r.commodity (All-head (IsRowOf net) r rows all).commodity in
    let first : r.weight * get_or (ones net.commodities) r.commodity 0 ≡ r.weight = ap (λ (n : ℕ). r.weight * n) here ∙ omega arith in
    let rest = rows-carried net rows (All-tail (IsRowOf net) r rows all) in
    omega (arith, first, rest, sum_by-cons (λ s. s.weight * get_or (ones net.commodities) s.commodity 0) r rows, sum_by-cons (λ s. s.weight) r rows)

-- where each commodity is carried so many times, so is the total
total-carried : (f : ℕ → ℕ) (p : ℕ) (ks : List Commodity) → ((i : ℕ) (k : Commodity) → slice_get ks i ≡ Some k → f i ≡ p * k.amount) → dot f (ones ks) ≡ p * sum_by (λ k. k.amount) ks
total-carried f p [] each = omega arith
total-carried f p (k ∷ ks) each =
    let first : f 0 ≡ p * k.amount = each 0 k refl in
    let rest : dot (λ i. f (suc i)) (ones ks) ≡ p * sum_by (λ k. k.amount) ks = total-carried (λ i. f (suc i)) p ks (λ i c at. each (suc i) c at) in
    let whole : p * sum_by (λ k. k.amount) (k ∷ ks) ≡ p * (k.amount + sum_by (λ k. k.amount) ks) = ap (λ (n : ℕ). p * n) (sum_by-cons (λ k. k.amount) k ks) in
    omega (arith, first, rest, whole)

pub run-carried : (net : Network) (o : SolveOptions) (s : SolvedView) → IsSolved net o s → carried_of s.proof.routing.paths ≡ s.proof.routing.phases * total_of net
run-carried net o s solved =
    let rows = s.proof.routing.paths in
    sym (rows-carried net rows solved.fits.routing.rows) ∙ sym (dot-carried rows (ones net.commodities)) ∙ total-carried (carried rows) s.proof.routing.phases net.commodities solved.valid.routing.carried

-- ---- phases

mapped_count : {X Y : Type 0} (f : X → Y) (xs : List X) → length (map f xs) ≡ length xs
mapped_count f [] = refl
mapped_count f (x ∷ xs) = ap suc (mapped_count f xs)

pub run-phases : (net : Network) (o : SolveOptions) (s : SolvedView) → IsSolverRun net o s → length s.history ≡ s.proof.routing.phases
run-phases net o s (inl cut) = ap (length {A = List Entry}) cut.1 ∙ sym cut.2.phases
run-phases net o s (inr phased) = sym (mapped_count (routed_in s.proof.routing.paths) s.history) ∙ sym phased.1.proof.phases_are

pub routes-of-phases : (net : Network) (o : SolveOptions) (s : SolvedView) → IsSolved net o s → routes_of s ≡ s.proof.routing.phases * length net.commodities
routes-of-phases net o s solved = run-routes net o s solved.history ∙ ap (λ (n : ℕ). length net.commodities * n) (run-phases net o s solved.history) ∙ omega arith
