-- What a solve answers, and what its phases have done.
use Rattle.std.specs.Prelude.{◌≡◌, ℕ, ◌*◌, ◌<◌, ◌≤◌, ◌==◌, true, false, IsTrue, if◌then◌else◌, List, All, AllPairs, length, map, take, flat_map, sum_by, count_by, Some, slice_get}
use Rattle.flow_model.specs.declared.net.Commodity.{Commodity}
use Rattle.flow_model.specs.declared.setting.Setting.{Setting}
use Rattle.flow_model.specs.Network.{Network}
use Rattle.flow_model.specs.Routing.{Row}
use Rattle.gap_fraction.specs.Fraction.{Fraction}
use Rattle.flow_paths.specs.declared.certificate.Proof.{Proof}
use Rattle.flow_paths.specs.PathRows.{row_at}
use Rattle.flow_paths.specs.Evaluation.{fill, loads_of}
use Rattle.flow_paths.specs.RowOrder.{row_lt}
use Rattle.flow_core.specs.Phase.{Routed, amounts_along}
use Rattle.solver_run.specs.declared.options.Entry.{Entry}
use Rattle.solver_run.specs.declared.options.SolveOptions.{SolveOptions}

-- a proof, and for each phase an entry for each commodity
pub record SolvedView : Type 0 where
  pub proof : Proof
  pub history : List (List Entry)

-- the path that an entry names
abbrev pub path_named : List Row → Entry → List ℕ
path_named rows e = (row_at rows e.row).walk

-- the entries of a phase, with their paths
abbrev pub routed_in : List Row → List Entry → List Routed
routed_in rows entries = map (λ (e : Entry). record { worker = e.worker; path = path_named rows e }) entries

-- the entries of all phases, with their paths
abbrev pub phases_of : SolvedView → List (List Routed)
phases_of s = map (routed_in s.proof.routing.paths) s.history

-- the loads after the first p phases
abbrev pub loads_after : Network → List (List Routed) → ℕ → List ℕ
loads_after net phases p = loads_of net (flat_map (amounts_along 0 net.commodities) (take p phases))

-- capacity over load of the fullest cell after p phases
abbrev pub fill_after : Network → List (List Routed) → ℕ → Fraction
fill_after net phases p = fill net.cells (loads_after net phases p)

-- the fraction of every amount that p phases carry
abbrev pub lower_after : Network → List (List Routed) → ℕ → Fraction
lower_after net phases p = record { num = p * (fill_after net phases p).num; den = (fill_after net phases p).den }

-- in the first phase loads have no effect
abbrev pub first_setting : SolveOptions → Setting
first_setting o = record { first = true; ref_cap = 0; ref_load = 1; step = o.step }

-- after it the fullest cell is the reference, for the whole run
abbrev pub later_setting : Network → SolveOptions → List (List Routed) → Setting
later_setting net o phases = record { first = false; ref_cap = (fill_after net phases 1).num; ref_load = (fill_after net phases 1).den; step = o.step }

-- the setting of the phase before which there were p
abbrev pub setting_after : Network → SolveOptions → List (List Routed) → ℕ → Setting
setting_after net o phases p = if p == 0 then first_setting o else later_setting net o phases

-- how many entries name the row
abbrev pub times_named : List (List Entry) → ℕ → ℕ
times_named history n = sum_by (λ (entries : List Entry). count_by (λ (e : Entry). e.row == n) entries) history

-- the row is named, and its weight is its commodity's amount for each entry that names it
pub record IsWeighed (net : Network) (history : List (List Entry)) (n : ℕ) (row : Row) : Type 0 where
  pub named : 1 ≤ times_named history n
  pub weight : (k : Commodity) → slice_get net.commodities row.commodity ≡ Some k → row.weight ≡ k.amount * times_named history n

-- one entry for each commodity, which names a row of it
pub record NamesRows (net : Network) (rows : List Row) (entries : List Entry) : Type 0 where
  pub count : length entries ≡ length net.commodities
  pub each : (k : ℕ) (e : Entry) → slice_get entries k ≡ Some e → (e.row < length rows) × ((row_at rows e.row).commodity ≡ k)

-- each commodity was routed by one of `workers` workers
abbrev pub AreRoutedBy : ℕ → List (List Routed) → Type 0
AreRoutedBy workers phases = All (λ (entries : List Routed). All (λ (r : Routed). r.worker < workers) entries) phases

-- one row for each commodity and path that occurs, in ascending order
pub record AreRowsOf (net : Network) (history : List (List Entry)) (rows : List Row) : Type 0 where
  pub ascending : AllPairs (λ a b. IsTrue (row_lt a b)) rows
  pub entries : All (NamesRows net rows) history
  pub weighed : (n : ℕ) (row : Row) → slice_get rows n ≡ Some row → IsWeighed net history n row
