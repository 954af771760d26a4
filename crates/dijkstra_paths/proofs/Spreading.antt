-- Marks spread over arcs until no node that was found is left.
use Rattle.std.proofs.Common.{◌≡◌, ◌≢◌, inl, inr, ℕ, zero, suc, ◌+◌, ◌<◌, ◌≤◌, List, [], ◌∷◌, ◌++◌, Bool, true, false, length, get_or, set, refl, sym, ap, subst, ◌∙◌, arith, below_more, get_or-set_other, get_or-set_same, length-set, length-append, replicate}
use Rattle.std.specs.Prelude.{IsTrue, All, Contains}
use Rattle.std.proofs.Math.Seq.{get_or-append_seam}
use Rattle.std.proofs.lemmas.List.{get_or_append_left, get_or-replicate, get_or_past, length-replicate}
use Rattle.std.proofs.lemmas.Bool.{cases_eq, cases_lt}
use Rattle.flow_model.specs.declared.net.Cell.{Cell}
use Rattle.flow_model.specs.Walk.{PassesOver, PositiveWalk}
use Rattle.flow_model.specs.Least.{IsJoined}
use Rattle.dijkstra_paths.specs.declared.graph.Arc.{Arc}
use Rattle.dijkstra_paths.specs.Reach.{mark_at, end_at, AreReached, unmarked, MarksEnds, IsPassed, IsSpreading}

-- one mark more
pub unmarked-set : (marks : List Bool) (v : ℕ) → v < length marks → mark_at marks v ≡ false → unmarked (set marks v true) + 1 ≡ unmarked marks
unmarked-set [] v l e = absurd (omega arith)
unmarked-set (true ∷ marks) zero l e = cc
unmarked-set (false ∷ marks) zero l e = omega arith
unmarked-set (true ∷ marks) (suc v) l e = unmarked-set marks v (omega arith) e
unmarked-set (false ∷ marks) (suc v) l e = omega (arith, unmarked-set marks v (omega arith) e)

mark-same : (marks : List Bool) (v : ℕ) → v < length marks → mark_at (set marks v true) v ≡ true
mark-same marks v l = rw get_or-set_same refl

mark-other : (marks : List Bool) (v u : ℕ) → u ≢ v → mark_at (set marks v true) u ≡ mark_at marks u
mark-other marks v u n = rw get_or-set_other refl

mark-kept : (marks : List Bool) (v u : ℕ) → v < length marks → IsTrue (mark_at marks u) → IsTrue (mark_at (set marks v true) u)
mark-kept marks v u l h = elim (cases_eq u v) [
  | inl e ↦ subst (λ (k : ℕ). IsTrue (mark_at (set marks v true) k)) (sym e) (mark-same marks v l)
  | inr n ↦ mark-other marks v u n ∙ h
]

-- nothing was marked
pub ends-none : (arcs : List Arc) (marks : List Bool) (found : List ℕ) → MarksEnds arcs marks marks found found
ends-none arcs marks found = record {
  size = refl;
  longer = omega arith;
  kept = λ v h. h;
  only = λ v h. inl h;
  fresh = λ v h. inl h;
  front = λ i l. refl;
  found = λ i l m. absurd (omega arith);
  work = omega arith;
}

-- the end of one more arc was marked
pub ends-more : (arcs : List Arc) (old new : List Bool) (before after : List ℕ) (k v : ℕ) → MarksEnds arcs old new before after → k < length arcs → end_at arcs k ≡ v → v < length new → mark_at new v ≡ false
    → MarksEnds arcs old (set new v true) before (after ++ v ∷ [])
ends-more arcs old new before after k v m inside end within off =
    let long : length (after ++ v ∷ []) ≡ length after + 1 = omega (arith, length-append after (v ∷ [])) in
    let size : length (set new v true) ≡ length new = length-set new v true in
    record {
      size = size ∙ m.size;
      longer = omega (arith, m.longer);
      kept = λ u h. mark-kept new v u within (m.kept u h);
      only = λ u h. elim (cases_eq u v) [
        | inl e ↦ inr (k, inside, end ∙ sym e)
        | inr n ↦ m.only u (sym (mark-other new v u n) ∙ h)
      ];
      fresh = λ u h. elim (cases_eq u v) [
        | inl e ↦ inr (length after, m.longer, omega arith, get_or-append_seam after v [] 0 ∙ sym e)
        | inr n ↦ elim (m.fresh u (sym (mark-other new v u n) ∙ h)) [
          | inl q ↦ inl q
          | inr q ↦ inr (q.0, q.1, omega (arith, q.2), get_or_append_left after (v ∷ []) 0 q.0 q.2 ∙ q.3)
        ]
      ];
      front = λ i l. get_or_append_left after (v ∷ []) 0 i (omega (arith, m.longer)) ∙ m.front i l;
      found = λ i l b. elim (cases_lt i (length after)) [
        | inl q ↦
            let is : get_or (after ++ v ∷ []) i 0 ≡ get_or after i 0 = get_or_append_left after (v ∷ []) 0 i q in
            let was = m.found i l q in
            (omega (arith, was.0), subst (λ (u : ℕ). IsTrue (mark_at (set new v true) u)) (sym is) (mark-kept new v (get_or after i 0) within was.1))
        | inr q ↦
            let last : i ≡ length after = omega arith in
            let is : get_or (after ++ v ∷ []) i 0 ≡ v = ap (λ (j : ℕ). get_or (after ++ v ∷ []) j 0) last ∙ get_or-append_seam after v [] 0 in
            (omega arith, subst (λ (u : ℕ). IsTrue (mark_at (set new v true) u)) (sym is) (mark-same new v within))
      ];
      work = omega (arith, unmarked-set new v within off, m.work);
    }

-- the ends of the arcs so far stay marked
pub all-kept : (arcs : List Arc) (new : List Bool) (k v : ℕ) → v < length new → end_at arcs k ≡ v → ((j : ℕ) → j < k → IsTrue (mark_at new (end_at arcs j))) → (j : ℕ) → j < k + 1 → IsTrue (mark_at (set new v true) (end_at arcs j))
all-kept arcs new k v l e h = below_more (λ (j : ℕ). IsTrue (mark_at (set new v true) (end_at arcs j))) k
    (λ j b. mark-kept new v (end_at arcs j) l (h j b))
    (subst (λ (u : ℕ). IsTrue (mark_at (set new v true) u)) (sym e) (mark-same new v l))

pub all-more : (arcs : List Arc) (new : List Bool) (k : ℕ) → IsTrue (mark_at new (end_at arcs k)) → ((j : ℕ) → j < k → IsTrue (mark_at new (end_at arcs j))) → (j : ℕ) → j < k + 1 → IsTrue (mark_at new (end_at arcs j))
all-more arcs new k e h = below_more (λ (j : ℕ). IsTrue (mark_at new (end_at arcs j))) k h e

-- a walk that goes on over one more cell
pub walk-more : (cells : List Cell) (u x v c : ℕ) (walk : List ℕ) → PositiveWalk cells u x walk → PassesOver cells c x v → PositiveWalk cells u v (walk ++ c ∷ [])
walk-more cells u x v c [] w p = (v, subst (λ (n : ℕ). PassesOver cells c n v) (sym w) p, refl)
walk-more cells u x v c (d ∷ walk) w p = (w.0, w.1, walk-more cells w.0 x v c walk w.2 p)

off-at : (n v : ℕ) (marks : List Bool) → ((k : ℕ) → mark_at marks k ≡ false) → IsTrue (mark_at marks v) → ⊥
off-at n v marks off h = let e = off v in cc

-- only the first node is marked, and it waits
pub spreading-first : (cells : List Cell) (marks : List Bool) (from : ℕ) → from < length marks → ((v : ℕ) → mark_at marks v ≡ false) → IsSpreading cells from (set marks from true) (from ∷ []) 0
spreading-first cells marks from l off =
    let size : length (set marks from true) ≡ length marks = length-set marks from true in
    let here = mark-same marks from l in
    let is : (v : ℕ) → IsTrue (mark_at (set marks from true) v) → v ≡ from = λ v h. elim (cases_eq v from) [
      | inl e ↦ e
      | inr n ↦ absurd (off-at 0 v marks off (sym (mark-other marks from v n) ∙ h))
    ] in
    record {
      inside = λ i b.
          let zeroth : i ≡ 0 = omega arith in
          let e : get_or (from ∷ []) i 0 ≡ from = ap (λ (j : ℕ). get_or (from ∷ []) j 0) zeroth in
          (omega arith, subst (λ (u : ℕ). IsTrue (mark_at (set marks from true) u)) (sym e) here);
      joined = λ v h. ([], sym (is v h));
      first = here;
      waits = λ v h. inr (0, omega arith, omega arith, sym (is v h));
    }

arc-end : (arcs : List Arc) (k c x : ℕ) → k < length arcs → get_or arcs k (record { cell = c; to = x }) ≡ record { cell = c; to = x } → end_at arcs k ≡ x
arc-end [] k c x l e = absurd (omega arith)
arc-end (a ∷ arcs) zero c x l e = ap (λ (b : Arc). b.to) e
arc-end (a ∷ arcs) (suc k) c x l e = arc-end arcs k c x (omega arith) e

-- the next node that was found is gone on from
pub spreading-more : (cells : List Cell) (arcs : List Arc) (from : ℕ) (old new : List Bool) (before after : List ℕ) (next node : ℕ) → IsSpreading cells from old before next
    → next < length before → get_or before next 0 ≡ node → MarksEnds arcs old new before after → ((k : ℕ) → k < length arcs → IsTrue (mark_at new (end_at arcs k)))
    → All (λ arc. PassesOver cells arc.cell node arc.to) arcs → ((c x : ℕ) → PassesOver cells c node x → Contains arcs (record { cell = c; to = x }))
    → IsSpreading cells from new after (next + 1)
spreading-more cells arcs from old new before after next node s l at m all over each =
    let was = s.inside next l in
    let reached : IsJoined cells from node = s.joined node (subst (λ (u : ℕ). IsTrue (mark_at old u)) at was.1) in
    record {
      inside = λ i b. elim (cases_lt i (length before)) [
        | inl q ↦
            let is : get_or after i 0 ≡ get_or before i 0 = m.front i q in
            let p = s.inside i q in
            (omega (arith, p.0, m.size), subst (λ (u : ℕ). IsTrue (mark_at new u)) (sym is) (m.kept (get_or before i 0) p.1))
        | inr q ↦ m.found i q b
      ];
      joined = λ v h. elim (m.only v h) [
        | inl q ↦ s.joined v q
        | inr q ↦
            let p = over q.0 (record { cell = 0; to = 0 }) q.1 in
            let cell = (get_or arcs q.0 (record { cell = 0; to = 0 })).cell in
            (reached.0 ++ cell ∷ [], walk-more cells from node v cell reached.0 reached.1 (subst (λ (u : ℕ). PassesOver cells cell node u) q.2 p))
      ];
      first = m.kept from s.first;
      waits = λ u h. elim (m.fresh u h) [
        | inl q ↦ elim (s.waits u q) [
          | inl p ↦ inl (λ c x w. m.kept x (p c x w))
          | inr p ↦ elim (cases_eq p.0 next) [
            | inl e ↦
                let is : node ≡ u = sym at ∙ (ap (λ (j : ℕ). get_or before j 0) (sym e) ∙ p.3) in
                inl (λ c x w.
                let there = each c x (subst (λ (k : ℕ). PassesOver cells c k x) (sym is) w) in
                let end : end_at arcs there.0 ≡ x = arc-end arcs there.0 c x there.1 there.2 in
                subst (λ (k : ℕ). IsTrue (mark_at new k)) end (all there.0 there.1))
            | inr n ↦ inr (p.0, omega (arith, p.1), omega (arith, p.2, m.longer), m.front p.0 p.2 ∙ p.3)
          ]
        ]
        | inr q ↦ inr (q.0, omega (arith, q.1), q.2, q.3)
      ];
    }

-- a marked node's walk leads to marked nodes where every marked node was gone on from
walk-marked : (cells : List Cell) (marks : List Bool) → ((u : ℕ) → IsTrue (mark_at marks u) → IsPassed cells marks u) → (walk : List ℕ) (u v : ℕ) → IsTrue (mark_at marks u) → PositiveWalk cells u v walk → IsTrue (mark_at marks v)
walk-marked cells marks h [] u v on w = subst (λ (k : ℕ). IsTrue (mark_at marks k)) w on
walk-marked cells marks h (c ∷ walk) u v on w = walk-marked cells marks h walk w.0 v (h u on c w.0 w.1) w.2

-- no node waits
pub spreading-done : (cells : List Cell) (from : ℕ) (marks : List Bool) (found : List ℕ) (next : ℕ) → IsSpreading cells from marks found next → length found ≤ next → AreReached cells from marks
spreading-done cells from marks found next s l =
    let passed : (u : ℕ) → IsTrue (mark_at marks u) → IsPassed cells marks u = λ u h. elim (s.waits u h) [
      | inl p ↦ p
      | inr p ↦ absurd (omega (arith, p.1, p.2))
    ] in
    record { each = λ v b. (s.joined v, λ j. walk-marked cells marks passed j.0 from v s.first j.1) }

-- no mark is set in a list of marks that are not
pub none-marked : (n : ℕ) (marks : List Bool) → marks ≡ replicate n false → (v : ℕ) → mark_at marks v ≡ false
none-marked n marks e v = rw e (elim (cases_lt v n) [
  | inl l ↦ get_or-replicate n v false false l
  | inr l ↦ get_or_past (replicate n false) v false (omega (arith, length-replicate n false))
])
