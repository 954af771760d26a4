-- Laws of arcs.
use Rattle.std.proofs.Common.{◌≡◌, inl, inr, ℕ, zero, suc, ◌+◌, ◌-◌, ◌*◌, ◌^◌, ◌<◌, ◌≤◌, List, [], ◌∷◌, ◌++◌, Bool, true, false, cond, length, get_or, drop, refl, sym, ap, subst, ◌∙◌, arith, add-one, add-suc, add-zero, length-append, append_assoc, drop-cons, eqb, below_more, append-nil}
use Rattle.std.specs.Prelude.{slice_range, ◌&&◌, All, Contains, slice_get, Some}
use Rattle.std.proofs.lemmas.Bool.{cases_eq, eq-eqb, ne_eqb, eqb-true, eqb-false, and_parts, and_from}
use Rattle.std.proofs.lemmas.List.Elements.{All-append, All-push, All-weaker, Contains-append_left, Contains-append_right}
use Rattle.flow_model.specs.Walk.{Goes, PassesOver}
use Rattle.std.proofs.Math.Nat.{mul-le-mul}
use Rattle.std.proofs.Math.Seq.{get_or-append_seam}
use Rattle.std.proofs.lemmas.List.{get_or_append_left}
use Rattle.std.proofs.lemmas.Grind.{common_steps}
use Rattle.flow_model.specs.declared.net.Cell.{Cell}
use Rattle.flow_model.specs.Network.{Network}
use Rattle.dijkstra_paths.specs.declared.graph.Arc.{Arc}
use Rattle.dijkstra_paths.specs.Arcs.{arcs_over, arcs_from, arcs_below, AreArcs}
use Rattle.mcf_limits.specs.declared.TheConstants.{MAX_CELLS, MAX_NODES}

pick-le : (a b c : Bool) (x y : Arc) → length (cond a [] (cond b (x ∷ []) (cond c (y ∷ []) []))) ≤ 1
pick-le true b c x y = omega arith
pick-le false true c x y = omega arith
pick-le false false true x y = omega arith
pick-le false false false x y = omega arith

over-le : (cell : Cell) (number u : ℕ) → length (arcs_over cell number u) ≤ 1
over-le cell number u = pick-le (eqb cell.cap 0) (eqb cell.tail u) (cell.both && eqb cell.head u) (record { cell = number; to = cell.head }) (record { cell = number; to = cell.tail })

-- each cell gives a node at most one arc
pub from-le : (cells : List Cell) (number u : ℕ) → length (arcs_from cells number u) ≤ length cells
from-le [] number u = omega arith
from-le (cell ∷ cells) number u = omega (arith, length-append (arcs_over cell number u) (arcs_from cells (suc number) u), over-le cell number u, from-le cells (suc number) u)

pub below-le : (cells : List Cell) (n : ℕ) → length (arcs_below cells n) ≤ n * length cells
unfolding arcs_below
below-le cells zero = omega arith
below-le cells (suc n) = omega (arith, length-append (arcs_below cells n) (arcs_from cells 0 n), below-le cells n, from-le cells 0 n)

pub below-suc : (cells : List Cell) (u : ℕ) → arcs_below cells (u + 1) ≡ arcs_below cells u ++ arcs_from cells 0 u
unfolding arcs_below
below-suc cells u = rw add-one refl

-- the arcs of the cells from i on, where the cell at i stands first
pub from-drop : (cells : List Cell) (i number u : ℕ) (d : Cell) → i < length cells → arcs_from (drop i cells) number u ≡ arcs_over (get_or cells i d) number u ++ arcs_from (drop (i + 1) cells) (number + 1) u
from-drop cells i number u d l = rw (drop-cons cells i d l, add-one, add-one) refl

-- the arcs below n begin with those below any smaller number
below-more : (cells : List Cell) (u more : ℕ) → (rest : List Arc) × (arcs_below cells (u + more) ≡ arcs_below cells u ++ rest)
unfolding arcs_below
below-more cells u zero = ([], rw add-zero (sym (append-nil (arcs_below cells u))))
below-more cells u (suc more) =
    let front = below-more cells u more in
    (front.0 ++ arcs_from cells 0 (u + more), rw (add-suc, front.1) (append_assoc (arcs_below cells u) front.0 (arcs_from cells 0 (u + more))))

middle : (a b d : List Arc) → slice_range (a ++ (b ++ d)) (length a) (length (a ++ b)) ≡ b
middle a b d = grind (arith, common_steps)

pub below-range : (cells : List Cell) (n u : ℕ) → u < n
    → slice_range (arcs_below cells n) (length (arcs_below cells u)) (length (arcs_below cells (u + 1))) ≡ arcs_from cells 0 u
below-range cells n u l =
    let front = below-more cells (u + 1) (n - (u + 1)) in
    let e : u + 1 + (n - (u + 1)) ≡ n = omega arith in
    let e' : arcs_below cells n ≡ arcs_below cells (u + 1) ++ front.0 = subst (λ (n : ℕ). arcs_below cells n ≡ arcs_below cells (u + 1) ++ front.0) e front.1 in
    let parts : arcs_below cells n ≡ arcs_below cells u ++ (arcs_from cells 0 u ++ front.0) = rw (e', below-suc cells u) (append_assoc (arcs_below cells u) (arcs_from cells 0 u) front.0) in
    rw (parts, below-suc cells u) (middle (arcs_below cells u) (arcs_from cells 0 u) front.0)

pub below-mono : (cells : List Cell) (u v : ℕ) → u ≤ v → length (arcs_below cells u) ≤ length (arcs_below cells v)
below-mono cells u v l =
    let front = below-more cells u (v - u) in
    let e : u + (v - u) ≡ v = omega arith in
    let e' : arcs_below cells v ≡ arcs_below cells u ++ front.0 = subst (λ (n : ℕ). arcs_below cells n ≡ arcs_below cells u ++ front.0) e front.1 in
    rw e' (omega (arith, length-append (arcs_below cells u) front.0))

pub out-range : (cells : List Cell) (n : ℕ) (first : List ℕ) (arcs : List Arc) (u start end : ℕ) → AreArcs cells n first arcs → u < n → start ≡ get_or first u 0 → end ≡ get_or first (u + 1) 0
    → (start ≤ end) × (end ≤ length arcs) × (slice_range arcs start end ≡ arcs_from cells 0 u)
out-range cells n first arcs u start end a l p q =
    let p' : start ≡ length (arcs_below cells u) = p ∙ a.begins u (omega arith) in
    let q' : end ≡ length (arcs_below cells (u + 1)) = q ∙ a.begins (u + 1) (omega arith) in (
      rw (p', q') (below-mono cells u (u + 1) (omega arith)),
      rw (q', a.all) (below-mono cells (u + 1) n (omega arith)),
      rw (p', q', a.all) (below-range cells n u l),
    )

pub below-zero : (cells : List Cell) → arcs_below cells 0 ≡ []
unfolding arcs_below
below-zero cells = refl

-- the number of arcs is small
pub below-fits : (cells : List Cell) (n : ℕ) → length cells ≤ MAX_CELLS → n ≤ MAX_NODES → length (arcs_below cells n) ≤ MAX_CELLS * MAX_NODES
below-fits cells n h l = omega (arith, below-le cells n, mul-le-mul l h)

pub begins-more : (cells : List Cell) (first : List ℕ) (u x : ℕ) → length first ≡ u → x ≡ length (arcs_below cells u)
    → ((k : ℕ) → k < u → get_or first k 0 ≡ length (arcs_below cells k)) → (k : ℕ) → k < u + 1 → get_or (first ++ x ∷ []) k 0 ≡ length (arcs_below cells k)
begins-more cells first u x e p h = below_more (λ (k : ℕ). get_or (first ++ x ∷ []) k 0 ≡ length (arcs_below cells k)) u
    (λ k l. let inside : k < length first = omega arith in rw (get_or_append_left first (x ∷ []) 0 k inside) (h k l))
    (subst (λ (k : ℕ). get_or (first ++ x ∷ []) k 0 ≡ length (arcs_below cells u)) e (rw (get_or-append_seam first x [] 0) p))

pub out-facts : (net seen : Network) (first first' : List ℕ) (arcs arcs' : List Arc) (u : ℕ) → AreArcs net.cells net.nodes first arcs → net ≡ seen → u < seen.nodes → first' ≡ first → arcs' ≡ arcs
    → (get_or first' u 0 ≤ get_or first' (u + 1) 0) × (get_or first' (u + 1) 0 ≤ length arcs') × (slice_range arcs' (get_or first' u 0) (get_or first' (u + 1) 0) ≡ arcs_from seen.cells 0 u)
out-facts net seen first first' arcs arcs' u a n l e f =
    let inside : u < net.nodes = subst (λ (m : Network). u < m.nodes) (sym n) l in
    rw (e, f, ← n) (out-range net.cells net.nodes first arcs u (get_or first u 0) (get_or first (u + 1) 0) a inside refl refl)

positive : (n : ℕ) → (n ≡ 0 → ⊥) → 1 ≤ n
positive zero h = absurd (h refl)
positive (suc n) h = omega arith

pick : Bool → Bool → Bool → Arc → Arc → List Arc
pick a b c x y = cond a [] (cond b (x ∷ []) (cond c (y ∷ []) []))

none-all : (P : Arc → Type 0) → All P []
none-all P = λ k d l. absurd (omega arith)

one-all : (P : Arc → Type 0) (x : Arc) → P x → All P (x ∷ [])
one-all P x h = All-push P [] x (none-all P) h

pick-all : (P : Arc → Type 0) (a b c : Bool) (x y : Arc) → (a ≡ false → b ≡ true → P x) → (a ≡ false → c ≡ true → P y) → All P (pick a b c x y)
unfolding pick
pick-all P true b c x y f g = none-all P
pick-all P false true c x y f g = one-all P x (f refl refl)
pick-all P false false true x y f g = one-all P y (g refl refl)
pick-all P false false false x y f g = none-all P

one-contains : (x z : Arc) → x ≡ z → Contains (x ∷ []) z
one-contains x z e = (0, omega arith, e)

pick-first : (c : Bool) (a b : Bool) (x y z : Arc) → a ≡ false → b ≡ true → x ≡ z → Contains (pick a b c x y) z
unfolding pick
pick-first c a b x y z e f h = rw (e, f) (one-contains x z h)

pick-second : (a b c : Bool) (x y z : Arc) → a ≡ false → b ≡ false → c ≡ true → y ≡ z → Contains (pick a b c x y) z
unfolding pick
pick-second a b c x y z e f g h = rw (e, f, g) (one-contains y z h)

-- the arc is over a cell of the list, whose numbers begin with the given one
abbrev Over : List Cell → ℕ → ℕ → Arc → Type 0
Over cells number u a = (k : ℕ) × (a.cell ≡ number + k) × PassesOver cells k u a.to

over-one : (cell : Cell) (cells : List Cell) (number u : ℕ) → All (Over (cell ∷ cells) number u) (arcs_over cell number u)
unfolding pick
over-one cell cells number u =
    pick-all (Over (cell ∷ cells) number u) (eqb cell.cap 0) (eqb cell.tail u) (cell.both && eqb cell.head u) (record { cell = number; to = cell.head }) (record { cell = number; to = cell.tail })
    (λ a b.
    let cap : 1 ≤ cell.cap = positive cell.cap (eqb-false cell.cap 0 a) in
    let at : slice_get (cell ∷ cells) 0 ≡ Some cell = refl in
    (0, omega arith, (cell, at, cap, inl (sym (eqb-true cell.tail u b), refl))))
    (λ a c.
    let cap : 1 ≤ cell.cap = positive cell.cap (eqb-false cell.cap 0 a) in
    let at : slice_get (cell ∷ cells) 0 ≡ Some cell = refl in
    let both = and_parts cell.both (eqb cell.head u) c in
    (0, omega arith, (cell, at, cap, inr (both.0, sym (eqb-true cell.head u both.1), refl))))

over-all : (cells : List Cell) (number u : ℕ) → All (Over cells number u) (arcs_from cells number u)
over-all [] number u = none-all (Over [] number u)
over-all (cell ∷ cells) number u =
    All-append (Over (cell ∷ cells) number u) (arcs_over cell number u) (arcs_from cells (suc number) u) (over-one cell cells number u)
    (All-weaker (Over cells (suc number) u) (Over (cell ∷ cells) number u) (λ a o. (suc o.0, omega (arith, o.1), o.2)) (arcs_from cells (suc number) u) (over-all cells (suc number) u))

-- each arc goes over its cell
pub arcs-pass : (cells : List Cell) (u : ℕ) → All (λ a. PassesOver cells a.cell u a.to) (arcs_from cells 0 u)
arcs-pass cells u = All-weaker (Over cells 0 u) (λ a. PassesOver cells a.cell u a.to)
    (λ a o. let e : o.0 ≡ a.cell = omega (arith, o.1) in subst (λ (k : ℕ). PassesOver cells k u a.to) e o.2) (arcs_from cells 0 u) (over-all cells 0 u)

each-one : (cell : Cell) (number u x : ℕ) → 1 ≤ cell.cap → Goes cell u x → Contains (arcs_over cell number u) (record { cell = number; to = x })
unfolding pick
each-one cell number u x p (inl g) =
    pick-first (cell.both && eqb cell.head u) (eqb cell.cap 0) (eqb cell.tail u) (record { cell = number; to = cell.head }) (record { cell = number; to = cell.tail }) (record { cell = number; to = x })
    (ne_eqb cell.cap 0 (λ (z : cell.cap ≡ 0). absurd (omega arith))) (eq-eqb cell.tail u (sym g.0)) (ap (λ (n : ℕ). record { cell = number; to = n }) (sym g.1))
each-one cell number u x p (inr g) =
    let cap = ne_eqb cell.cap 0 (λ (z : cell.cap ≡ 0). absurd (omega arith)) in
    elim (cases_eq cell.tail u) [
      | inl e ↦
          pick-first (cell.both && eqb cell.head u) (eqb cell.cap 0) (eqb cell.tail u) (record { cell = number; to = cell.head }) (record { cell = number; to = cell.tail }) (record { cell = number; to = x })
          cap (eq-eqb cell.tail u e) (ap (λ (n : ℕ). record { cell = number; to = n }) (sym g.1 ∙ (sym e ∙ sym g.2)))
      | inr n ↦
          pick-second (eqb cell.cap 0) (eqb cell.tail u) (cell.both && eqb cell.head u) (record { cell = number; to = cell.head }) (record { cell = number; to = cell.tail }) (record { cell = number; to = x })
          cap (ne_eqb cell.tail u n) (and_from cell.both (eqb cell.head u) (g.0) (eq-eqb cell.head u (sym g.1))) (ap (λ (n : ℕ). record { cell = number; to = n }) (sym g.2))
    ]

no-cell : (k : ℕ) (cell : Cell) → slice_get [] k ≡ Some cell → ⊥
no-cell k cell e = cc

same-cell : (cells : List Cell) (a b : Cell) → slice_get (a ∷ cells) 0 ≡ Some b → b ≡ a
same-cell cells a b e = cc

each-from : (cells : List Cell) (number k u x : ℕ) → PassesOver cells k u x → Contains (arcs_from cells number u) (record { cell = number + k; to = x })
each-from [] number k u x p = absurd (no-cell k p.0 p.1)
each-from (cell ∷ cells) number zero u x p =
    let e : p.0 ≡ cell = same-cell cells cell p.0 p.1 in
    let cap : 1 ≤ cell.cap = subst (λ (k : Cell). 1 ≤ k.cap) e p.2 in
    let goes : Goes cell u x = subst (λ (k : Cell). Goes k u x) e p.3 in
    subst (λ (n : ℕ). Contains (arcs_from (cell ∷ cells) number u) (record { cell = n; to = x })) (sym (add-zero number))
    (Contains-append_left (arcs_over cell number u) (arcs_from cells (suc number) u) (record { cell = number; to = x }) (each-one cell number u x cap goes))
each-from (cell ∷ cells) number (suc k) u x p =
    let e : suc number + k ≡ number + suc k = omega arith in
    subst (λ (n : ℕ). Contains (arcs_from (cell ∷ cells) number u) (record { cell = n; to = x })) e
    (Contains-append_right (arcs_over cell number u) (arcs_from cells (suc number) u) (record { cell = suc number + k; to = x }) (each-from cells (suc number) k u x p))

-- each way over a positive cell has its arc
pub arcs-each : (cells : List Cell) (u c x : ℕ) → PassesOver cells c u x → Contains (arcs_from cells 0 u) (record { cell = c; to = x })
arcs-each cells u c x p =
    let e : 0 + c ≡ c = omega arith in
    subst (λ (n : ℕ). Contains (arcs_from cells 0 u) (record { cell = n; to = x })) e (each-from cells 0 c u x p)
