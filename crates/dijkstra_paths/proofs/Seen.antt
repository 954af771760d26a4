-- What the view of a scratch says after a search.
use Rattle.std.proofs.Common.{◌≡◌, inl, inr, ℕ, zero, suc, [], ◌∷◌, ◌<◌, ◌≤◌, List, Option, Some, None, length, map, get_or, refl, arith}
use Rattle.std.proofs.lemmas.Bool.{cases_lt, lt-ltb, le-ltb}
use Rattle.flow_model.specs.Network.{Network}
use Rattle.dijkstra_paths.specs.declared.search.Step.{Step}
use Rattle.dijkstra_paths.specs.Searched.{known, paths_from, IsNear}
use Rattle.flow_model.specs.Least.{IsLeast}
use Rattle.dijkstra_paths.proofs.Least.{IsFound, walk-bound, walk-by, walk-reaches, way-reaches}
use Rattle.dijkstra_paths.proofs.Relaxed.{pass-inside}
use Rattle.mcf_limits.specs.declared.TheConstants.{MAX_LENGTH}

pub known-near : (d : ℕ) → d < MAX_LENGTH → known d ≡ Some d
known-near d h = rw (lt-ltb d MAX_LENGTH h) refl

pub known-far : (d : ℕ) → MAX_LENGTH ≤ d → known d ≡ None
known-far d h = rw (le-ltb d MAX_LENGTH h) refl

-- without distances there are none to be seen
blank_dists : (dist : List ℕ) → ((i : ℕ) → i < length dist → get_or dist i 0 ≡ MAX_LENGTH) → (v : ℕ) → get_or (map known dist) v None ≡ None
blank_dists [] far v = refl
blank_dists (d ∷ dist) far zero = rw (far zero (omega arith)) (known-far MAX_LENGTH (omega arith))
blank_dists (d ∷ dist) far (suc v) = blank_dists dist (λ i l. far (suc i) (omega (arith, l))) v

-- nor paths
blank_paths : (via : List Step) (from nodes u : ℕ) (dist : List ℕ) → ((i : ℕ) → i < length dist → get_or dist i 0 ≡ MAX_LENGTH)
    → (v : ℕ) → get_or (paths_from via from nodes u dist) v None ≡ None
blank_paths via from nodes u [] far v = refl
blank_paths via from nodes u (d ∷ dist) far zero = rw (far zero (omega arith)) refl
blank_paths via from nodes u (d ∷ dist) far (suc v) = blank_paths via from nodes (suc u) dist (λ i l. far (suc i) (omega (arith, l))) v

-- before a search no node has a distance or a path
pub blank_view : (via : List Step) (from nodes : ℕ) (dist : List ℕ) → ((i : ℕ) → i < length dist → get_or dist i 0 ≡ MAX_LENGTH)
    → (v : ℕ) → (get_or (map known dist) v None ≡ None) × (get_or (paths_from via from nodes 0 dist) v None ≡ None)
blank_view via from nodes dist far v = (blank_dists dist far v, blank_paths via from nodes 0 dist far v)

pub known-at : (dist : List ℕ) (v : ℕ) → v < length dist → get_or (map known dist) v None ≡ known (get_or dist v 0)
known-at [] v l = absurd (omega arith)
known-at (d ∷ dist) zero l = refl
known-at (d ∷ dist) (suc v) l = known-at dist v (omega arith)

pub least-seen : (net : Network) (lengths : List ℕ) (from : ℕ) (dist : List ℕ) (steps : List Step) → IsFound net lengths from dist steps
    → (v : ℕ) → v < net.nodes → IsLeast net.cells lengths from v (get_or (map known dist) v None)
least-seen net lengths from dist steps f v l =
    let start : get_or dist from 0 < MAX_LENGTH = omega (arith, f.tree.start) in
    rw (known-at dist v (omega (arith, f.nodes))) (elim (cases_lt (get_or dist v 0) MAX_LENGTH) [
      | inl near ↦ rw (known-near (get_or dist v 0) near) (
        walk-by (suc (get_or dist v 0)) net lengths from dist steps f v l near (omega arith),
        (λ walk w. omega (arith, f.tree.start, walk-bound net lengths from dist steps f walk from v f.first l start w)),
      )
      | inr far ↦ rw (known-far (get_or dist v 0) far)
          (λ walk w. absurd (omega (arith, walk-reaches net lengths from dist steps f walk from v f.first start w)))
    ])

pub near-seen : (net : Network) (lengths : List ℕ) (from : ℕ) (dist : List ℕ) (steps : List Step) (cells : ℕ) (paths : List (Option (List ℕ))) → IsFound net lengths from dist steps
    → IsNear net.cells lengths (record { nodes = net.nodes; cells = cells; dists = map known dist; paths = paths })
near-seen net lengths from dist steps cells paths f = λ c u v l p.
    let inside = (pass-inside net c u v f.fits p).0 in
    rw (known-at dist u (omega (arith, f.nodes)), known-at dist v (omega (arith, f.nodes))) (elim (cases_lt (get_or dist u 0) MAX_LENGTH) [
      | inl near ↦ rw (known-near (get_or dist u 0) near, known-near (get_or dist v 0) (way-reaches net lengths from dist steps f c u v l near p))
          (f.done u (omega (arith, f.nodes)) near c v p)
      | inr far ↦ rw (known-far (get_or dist u 0) far) tt
    ])
