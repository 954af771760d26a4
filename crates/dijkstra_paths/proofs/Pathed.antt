-- What a search leaves for the paths.
use Rattle.std.proofs.Common.{◌≡◌, inl, inr, ℕ, zero, suc, ◌+◌, ◌<◌, ◌≤◌, List, [], ◌∷◌, ◌++◌, Some, None, length, map, get_or, refl, sym, ap, subst, ◌∙◌, arith, length-append}
use Rattle.std.proofs.lemmas.Bool.{cases_eq, cases_lt, lt-ltb, le-ltb}
use Rattle.std.proofs.lemmas.List.Elements.{Contains-get_or}
use Rattle.std.proofs.Math.ListN.{get_or-append}
use Rattle.std.proofs.Math.Seq.{get_or-append_seam}
use Rattle.std.specs.Prelude.{Contains}
use Rattle.flow_model.specs.Network.{Network}
use Rattle.dijkstra_paths.specs.declared.search.Step.{Step}
use Rattle.dijkstra_paths.specs.Tree.{step_at, IsReached}
use Rattle.dijkstra_paths.specs.Searched.{known, trail, Ends, paths_from, IsPath}
use Rattle.flow_model.specs.Least.{AreDifferent}
use Rattle.dijkstra_paths.proofs.Least.{IsFound, rank, rank-few, rank-step, step-exact}
use Rattle.dijkstra_paths.proofs.Trail.{trail-first, trail-next, trail-walk, trail-fresh}
use Rattle.dijkstra_paths.proofs.Traced.{paths-at}
use Rattle.dijkstra_paths.proofs.Seen.{known-at}
use Rattle.mcf_limits.specs.declared.TheConstants.{MAX_LENGTH}

-- the steps lead back to the first node
pub ends-found : (fuel : ℕ) (net : Network) (lengths : List ℕ) (from : ℕ) (dist : List ℕ) (via : List Step) → IsFound net lengths from dist via
    → (v : ℕ) → v < net.nodes → get_or dist v 0 < MAX_LENGTH → rank dist (get_or dist v 0) < fuel → Ends via net.nodes from fuel v
ends-found zero net lengths from dist via f v l near less = absurd (omega arith)
ends-found (suc fuel) net lengths from dist via f v l near less = elim (cases_eq v from) [
  | inl e ↦ inl e
  | inr n ↦
      let s = step_at via v in
      let r : IsReached net.cells lengths dist s v = f.tree.reached v (omega (arith, f.nodes)) n near in
      let exact = step-exact net lengths from dist via f v l n near in
      let grows = rank-step net lengths from dist via f v l n near in
      inr (omega (arith, r.before, f.nodes), ends-found fuel net lengths from dist via f s.from (omega (arith, r.before, f.nodes)) (omega (arith, exact.0)) (omega (arith, grows)))
]

-- one more number that wasn't there
different-more : (xs : List ℕ) (c : ℕ) → AreDifferent xs → (Contains xs c → ⊥) → AreDifferent (xs ++ c ∷ [])
different-more xs c d fresh = λ i j less inside same.
    let long = length-append xs (c ∷ []) in
    let inside' : i < length xs = omega (arith, long) in
    let first : get_or (xs ++ c ∷ []) i 0 ≡ get_or xs i 0 = get_or-append xs (c ∷ []) 0 i inside' in
    elim (cases_lt j (length xs)) [
      | inl q ↦ d i j less q (sym first ∙ (same ∙ get_or-append xs (c ∷ []) 0 j q))
      | inr q ↦
          let last : j ≡ length xs = omega (arith, long) in
          let end : get_or (xs ++ c ∷ []) j 0 ≡ c = ap (λ (k : ℕ). get_or (xs ++ c ∷ []) k 0) last ∙ get_or-append_seam xs c [] 0 in
          fresh (subst (λ (x : ℕ). Contains xs x) (sym first ∙ (same ∙ end)) (Contains-get_or xs i 0 inside'))
    ]

trail-different : (fuel : ℕ) (net : Network) (lengths : List ℕ) (from : ℕ) (dist : List ℕ) (via : List Step) → IsFound net lengths from dist via
    → (v : ℕ) → v < net.nodes → get_or dist v 0 < MAX_LENGTH → rank dist (get_or dist v 0) < fuel → AreDifferent (trail via from fuel v)
trail-different zero net lengths from dist via f v l near less = absurd (omega arith)
trail-different (suc fuel) net lengths from dist via f v l near less = elim (cases_eq v from) [
  | inl e ↦ rw (trail-first via from (suc fuel) v e) (λ i j q z. absurd (omega arith))
  | inr n ↦
      let s = step_at via v in
      let r : IsReached net.cells lengths dist s v = f.tree.reached v (omega (arith, f.nodes)) n near in
      let exact = step-exact net lengths from dist via f v l n near in
      let grows = rank-step net lengths from dist via f v l n near in
      let less' : rank dist (get_or dist s.from 0) < fuel = omega (arith, grows) in
      rw (trail-next via from fuel v n)
      (different-more (trail via from fuel s.from) s.cell
      (trail-different fuel net lengths from dist via f s.from (omega (arith, r.before, f.nodes)) (omega (arith, exact.0)) less')
      (trail-fresh fuel net lengths from dist via f v l n near less'))
]

pub rank-below : (net : Network) (lengths : List ℕ) (from : ℕ) (dist : List ℕ) (via : List Step) → IsFound net lengths from dist via → (v : ℕ) → v < net.nodes → rank dist (get_or dist v 0) < net.nodes
rank-below net lengths from dist via f v l = omega (arith, rank-few dist v (get_or dist v 0) (omega (arith, f.nodes)) refl, f.nodes)

pub path-seen : (net : Network) (lengths : List ℕ) (from : ℕ) (dist : List ℕ) (via : List Step) → IsFound net lengths from dist via
    → (v : ℕ) → v < net.nodes → IsPath net.cells lengths net.nodes from v (get_or (map known dist) v None) (get_or (paths_from via from net.nodes 0 dist) v None)
path-seen net lengths from dist via f v l =
    let small = rank-below net lengths from dist via f v l in
    let zeroth : 0 + v ≡ v = omega arith in
    rw (known-at dist v (omega (arith, f.nodes)), paths-at via from net.nodes 0 dist v (omega (arith, f.nodes)), zeroth) (elim (cases_lt (get_or dist v 0) MAX_LENGTH) [
      | inl near ↦
          let w = trail-walk net.nodes net lengths from dist via f v l near small in
          rw (lt-ltb (get_or dist v 0) MAX_LENGTH near) (w.0, w.1, trail-different net.nodes net lengths from dist via f v l near small, omega (arith, w.2, small))
      | inr far ↦ rw (le-ltb (get_or dist v 0) MAX_LENGTH far) refl
    ])

pub path-far : (via : List Step) (from nodes : ℕ) (dist : List ℕ) (v : ℕ) → v < length dist → MAX_LENGTH ≤ get_or dist v 0 → None ≡ get_or (paths_from via from nodes 0 dist) v None
path-far via from nodes dist v l far = rw (paths-at via from nodes 0 dist v l, le-ltb (get_or dist v 0) MAX_LENGTH far) refl

pub path-near : (via : List Step) (from nodes : ℕ) (dist : List ℕ) (v : ℕ) (walk : List ℕ) → v < length dist → get_or dist v 0 < MAX_LENGTH → walk ≡ trail via from nodes v
    → Some walk ≡ get_or (paths_from via from nodes 0 dist) v None
path-near via from nodes dist v walk l near e =
    let zeroth : 0 + v ≡ v = omega arith in
    rw (paths-at via from nodes 0 dist v l, lt-ltb (get_or dist v 0) MAX_LENGTH near, zeroth, e) refl
