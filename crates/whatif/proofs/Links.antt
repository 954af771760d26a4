-- The cells of a link, set one after the other.
use Rattle.std.proofs.Common.{◌≡◌, ℕ, zero, suc, ◌+◌, ◌-◌, ◌*◌, ◌≤◌, List, set, sym, ap, subst, ◌∙◌, arith, All}
use Rattle.std.proofs.lemmas.List.Elements.{All-set}
use Rattle.mcf_limits.specs.declared.TheConstants.{MAX_UNITS}
use Rattle.unit_scale.specs.declared.modes.LinkMode.{LinkMode}
use Rattle.unit_scale.specs.declared.modes.LinkMode.TheVariants.{Directed, Undirected, Bidirected}
use Rattle.unit_scale.specs.Names.{cells_of, per}
use Rattle.unit_scale.specs.Closed.{with_link}
use Rattle.whatif.specs.Planned.{Planned}
use Rattle.unit_scale.proofs.LinkCaps.{with_link_directed, with_link_undirected, with_link_bidirected}

-- so many cells from the first on, set one after the other
abbrev pub set_run : List ℕ → ℕ → ℕ → ℕ → List ℕ
set_run caps first cap zero = caps
set_run caps first cap (suc n) = set (set_run caps first cap n) (first + n) cap

run_small : (caps : List ℕ) (first cap n : ℕ) → cap ≤ MAX_UNITS → All (λ k. k ≤ MAX_UNITS) caps → All (λ k. k ≤ MAX_UNITS) (set_run caps first cap n)
run_small caps first cap zero small h = h
run_small caps first cap (suc n) small h =
    All-set (λ k. k ≤ MAX_UNITS) (set_run caps first cap n) (first + n) cap small (run_small caps first cap n small h)

-- all cells of a link, set one after the other, are the link with that capacity
pub link_run : (mode : LinkMode) (caps : List ℕ) (link cap : ℕ) → set_run caps (cells_of mode link) cap (per mode) ≡ with_link mode caps link cap
link_run Directed caps link cap = ap (λ k. set caps k cap) (same link) ∙ sym (with_link_directed caps link cap)
  where
    same : (n : ℕ) → 1 * n + 0 ≡ n
    same n = omega arith
link_run Undirected caps link cap = ap (λ k. set caps k cap) (same link) ∙ sym (with_link_undirected caps link cap)
  where
    same : (n : ℕ) → 1 * n + 0 ≡ n
    same n = omega arith
link_run Bidirected caps link cap = ap (λ k. set (set caps k cap) (2 * link + 1) cap) (same link) ∙ sym (with_link_bidirected caps link cap)
  where
    same : (n : ℕ) → 2 * n + 0 ≡ 2 * n
    same n = omega arith

-- where the link's new capacity is within the limit, all stay so
pub with_link-small : (mode : LinkMode) (caps : List ℕ) (link cap : ℕ) → cap ≤ MAX_UNITS → All (λ k. k ≤ MAX_UNITS) caps → All (λ k. k ≤ MAX_UNITS) (with_link mode caps link cap)
with_link-small mode caps link cap small h =
    subst (λ (l : List ℕ). All (λ k. k ≤ MAX_UNITS) l) (link_run mode caps link cap) (run_small caps (cells_of mode link) cap (per mode) small h)

-- ---- the plan meanwhile

abbrev pub run_of : Planned → ℕ → ℕ → ℕ → Planned
run_of p first cap n = record p { caps = set_run p.caps first cap n }

whole : (mode : LinkMode) (link : ℕ) → cells_of mode (link + 1) - cells_of mode link ≡ per mode
whole Directed link = omega arith
whole Undirected link = omega arith
whole Bidirected link = omega arith

pub run_whole : (mode : LinkMode) (p now : Planned) (link cap cell : ℕ) → cell ≡ cells_of mode (link + 1) → now ≡ run_of p (cells_of mode link) cap (cell - cells_of mode link)
    → now ≡ record p { caps = with_link mode p.caps link cap }
run_whole mode p now link cap cell end e =
    let count : cell - cells_of mode link ≡ per mode = ap (λ (k : ℕ). k - cells_of mode link) end ∙ whole mode link in
    e ∙ (ap (run_of p (cells_of mode link) cap) count ∙ ap (λ (l : List ℕ). record p { caps = l }) (link_run mode p.caps link cap))
