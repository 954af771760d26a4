-- The nodes from which a way on is shorter are opened.
use Rattle.std.proofs.Common.{◌≡◌, ◌≢◌, ◌⊎◌, inl, inr, ℕ, map, ap, ◌+◌, ◌<◌, ◌≤◌, Bool, true, false, cond, List, length, length-set, get_or, set, refl, sym, subst, ◌∙◌, arith}
use Rattle.std.specs.Prelude.{IsTrue, ◌==◌, if◌then◌else◌}
use Rattle.std.proofs.lemmas.Option.{slice_get_within, slice_get-get_or, get_or_from_slice_get}
use Rattle.std.proofs.lemmas.List.{get_or-map, get_or_default, length-map}
use Rattle.std.proofs.lemmas.Bool.Decides.{nat_tests}
use Rattle.std.proofs.lemmas.Bool.{cases_eq}
use Rattle.flow_model.specs.declared.net.Cell.{Cell}
use Rattle.flow_model.specs.Network.{Network, IsCell, IsNetwork}
use Rattle.flow_model.specs.Lengths.{AreLengths}
use Rattle.flow_model.specs.Walk.{PassesOver}
use Rattle.dijkstra_paths.specs.declared.graph.CellEnds.{CellEnds}
use Rattle.dijkstra_paths.specs.Arcs.{ends_of}
use Rattle.dijkstra_paths.specs.declared.search.Step.{Step}
use Rattle.dijkstra_paths.specs.declared.search.Way.{Way}
use Rattle.dijkstra_paths.specs.Tree.{GoBothWays, IsTree, IsWay}
use Rattle.dijkstra_paths.proofs.Relaxed.{at-same, at-other, pass-inside, tree-relaxed}
use Rattle.mcf_limits.specs.declared.TheConstants.{MAX_LENGTH}

-- a way over a positive cell begins at a node
pub pass-from : (net : Network) (c u x : ℕ) → IsNetwork net → PassesOver net.cells c u x → u < net.nodes
pass-from net c u x n p =
    let within : c < length net.cells = slice_get_within net.cells c p.0 p.1 in
    let is : get_or net.cells c p.0 ≡ p.0 = get_or_from_slice_get net.cells c p.0 p.0 p.1 in
    let fits : IsCell net.nodes p.0 = subst (λ (k : Cell). IsCell net.nodes k) is (n.cells c p.0 within) in
    elim p.3 [
      | inl g ↦ rw g.0 fits.tail
      | inr g ↦ rw g.1 fits.head
    ]

-- only the first node has a distance
pub tree-first : (cells : List Cell) (lengths : List ℕ) (from : ℕ) (dist : List ℕ) (steps : List Step) → length steps ≡ length dist → from < length dist
    → ((v : ℕ) → v < length dist → get_or dist v 0 ≡ MAX_LENGTH) → IsTree cells lengths from (set dist from 0) steps
tree-first cells lengths from dist steps sl lf far =
    let same : length (set dist from 0) ≡ length dist = length-set dist from 0 in
    record {
      count = sl ∙ sym same;
      bound = λ v l. elim (cases_eq v from) [
        | inl e ↦ rw (at-same dist from v 0 e lf) (omega arith)
        | inr n ↦ rw (at-other dist from v 0 n, far v (omega (arith, same))) (omega arith)
      ];
      start = at-same dist from from 0 refl lf;
      reached = λ v l apart near. absurd (omega (arith, at-other dist from v 0 apart, far v (omega (arith, same))));
    }

-- what holds of the one and of the other
pub one-of : (P : Way → Type 0) (first : Bool) (one other : Way) → P one → P other → P (cond first one other)
one-of P true one other p q = p
one-of P false one other p q = q

-- where cells go both ways, so does a way over one
pass-back : (cells : List Cell) (c u x : ℕ) → GoBothWays cells → PassesOver cells c u x → PassesOver cells c x u
pass-back cells c u x both p =
    let within : c < length cells = slice_get_within cells c p.0 p.1 in
    let is : get_or cells c p.0 ≡ p.0 = get_or_from_slice_get cells c p.0 p.0 p.1 in
    let goes : IsTrue p.0.both = subst (λ (k : Cell). IsTrue k.both) is (both c p.0 within) in (
      p.0,
      p.1,
      p.2,
      elim p.3 [
        | inl g ↦ inr (goes, g.1, g.0)
        | inr g ↦ inl (g.2, g.1)
      ],
    )

-- over a shorter way to it the node is reached
pub nearer-way : (net : Network) (lengths : List ℕ) (from node : ℕ) (dist : List ℕ) (steps : List Step) (way : Way) → IsNetwork net → AreLengths net.cells lengths → GoBothWays net.cells
    → length dist ≡ net.nodes → IsTree net.cells lengths from dist steps → node < net.nodes → (way.long ≡ get_or dist node 0) ⊎ IsWay net.cells lengths dist node way → way.long < get_or dist node 0
    → IsTree net.cells lengths from (set dist node way.long) (set steps node (record { cell = way.cell; from = way.from }))
nearer-way net lengths from node dist steps way n lens both nodes tree inside of less = elim of [
  | inl e ↦ absurd (omega arith)
  | inr w ↦ let ends = pass-inside net way.cell node way.from n w.back in
      tree-relaxed net.cells lengths from way.from dist steps way.cell node way.long lens tree (omega (arith, ends.0)) (omega arith) (pass-back net.cells way.cell node way.from both w.back) w.long less
]

-- the ends at a place are those of the cell there

abbrev pub no_ends : CellEnds
no_ends = record { tail = 0; head = 0 }

abbrev pub no_cell : Cell
no_cell = record { tail = 0; head = 0; both = false; cap = 0 }

pub ends-at : (cells : List Cell) (ends : List CellEnds) (n : ℕ) → ends ≡ map ends_of cells → n < length cells → get_or ends n no_ends ≡ ends_of (get_or cells n no_cell)
ends-at cells ends n is within = ap (λ (es : List CellEnds). get_or es n no_ends) is ∙ get_or-map ends_of cells n no_cell no_ends within

-- what was read at a place
pub ends-read : (cells : List Cell) (ends : List CellEnds) (n : ℕ) (e : CellEnds) → ends ≡ map ends_of cells → n < length ends → e ≡ get_or ends n e → (n < length cells) × (e ≡ ends_of (get_or cells n no_cell))
ends-read cells ends n e is inside read =
    let within : n < length cells = omega (arith, ap length is, length-map cells ends_of) in
    (within, read ∙ (ap (λ (es : List CellEnds). get_or es n e) is ∙ get_or-map ends_of cells n no_cell e within))

-- ends that differ are those of a positive cell
pub ends-open : (cell : Cell) (ends : CellEnds) → ends ≡ ends_of cell → ends.tail ≢ ends.head → (1 ≤ cell.cap) × (ends.tail ≡ cell.tail) × (ends.head ≡ cell.head)
ends-open cell ends is apart = by_test (cell.cap == 0) refl (ap (λ (e : CellEnds). e.head) is)
  where
    tail_is : ends.tail ≡ cell.tail
    tail_is = ap (λ (e : CellEnds). e.tail) is

    by_test : (b : Bool) → (cell.cap == 0) ≡ b → ends.head ≡ (if b then cell.tail else cell.head) → (1 ≤ cell.cap) × (ends.tail ≡ cell.tail) × (ends.head ≡ cell.head)
    by_test true e h = absurd (apart (tail_is ∙ sym h))
    by_test false e h = (grind (arith, nat_tests), tail_is, h)

-- the ends at a place are nodes
pub ends-inside : (net : Network) (ends : List CellEnds) (n : ℕ) → IsNetwork net → ends ≡ map ends_of net.cells → n < length net.cells
    → ((get_or ends n no_ends).tail < net.nodes) × ((get_or ends n no_ends).head < net.nodes)
ends-inside net ends n fits is within =
    let cell : Cell = get_or net.cells n no_cell in
    let inside : IsCell net.nodes cell = fits.cells n no_cell within in
    let same = ends-at net.cells ends n is within in
    (subst (λ (e : CellEnds). e.tail < net.nodes) (sym same) inside.tail, subst (λ (e : CellEnds). e.head < net.nodes) (sym same) (by_test cell inside (cell.cap == 0)))
  where
    by_test : (cell : Cell) → IsCell net.nodes cell → (b : Bool) → (if b then cell.tail else cell.head) < net.nodes
    by_test cell inside true = inside.tail
    by_test cell inside false = inside.head

-- one passes over the cell between them
pub ends-pass : (cells : List Cell) (c from to : ℕ) (ends : CellEnds) (both : Bool) → c < length cells → ends ≡ ends_of (get_or cells c no_cell) → from ≢ to → (IsTrue both → IsTrue (get_or cells c no_cell).both)
    → ((from ≡ ends.tail) × (to ≡ ends.head)) ⊎ (IsTrue both × (from ≡ ends.head) × (to ≡ ends.tail)) → PassesOver cells c from to
ends-pass cells c from to ends both within is apart goes lead =
    let cell : Cell = get_or cells c no_cell in
    elim lead [
      | inl l ↦ let o = ends-open cell ends is (λ e. apart (l.0 ∙ (e ∙ sym l.1))) in (cell, slice_get-get_or cells c no_cell within, o.0, inl (l.0 ∙ o.1, l.1 ∙ o.2))
      | inr l ↦ let o = ends-open cell ends is (λ e. apart (l.1 ∙ (sym e ∙ sym l.2))) in (cell, slice_get-get_or cells c no_cell within, o.0, inr (goes l.0, l.1 ∙ o.2, l.2 ∙ o.1))
    ]

-- so a way that the ends lead is one, where all cells go both ways or this one does
pub leads-all : (net seen : Network) (ends : List CellEnds) (goes_back : Bool) (c from to : ℕ) (e : CellEnds) → net ≡ seen → ends ≡ map ends_of net.cells → (IsTrue goes_back → GoBothWays net.cells) → c < length ends → e ≡ get_or ends c e → from ≢ to
    → ((from ≡ e.tail) × (to ≡ e.head)) ⊎ (IsTrue goes_back × (from ≡ e.head) × (to ≡ e.tail)) → PassesOver seen.cells c from to
leads-all net seen ends goes_back c from to e same is both inside read apart lead =
    let r = ends-read net.cells ends c e is inside read in
    subst (λ (n : Network). PassesOver n.cells c from to) same
    (ends-pass net.cells c from to e goes_back r.0 r.1 apart (λ t. both t c no_cell r.0) lead)

pub leads-one : (net seen : Network) (ends : List CellEnds) (cells : List Cell) (c from to : ℕ) (e : CellEnds) (cell : Cell) → net ≡ seen → ends ≡ map ends_of net.cells → cells ≡ net.cells → c < length ends → e ≡ get_or ends c e → cell ≡ get_or cells c cell → from ≢ to
    → ((from ≡ e.tail) × (to ≡ e.head)) ⊎ (IsTrue cell.both × (from ≡ e.head) × (to ≡ e.tail)) → PassesOver seen.cells c from to
leads-one net seen ends cells c from to e cell same is are inside read found apart lead =
    let r = ends-read net.cells ends c e is inside read in
    let at : cell ≡ get_or net.cells c no_cell = found ∙ (ap (λ (cs : List Cell). get_or cs c cell) are ∙ get_or_default net.cells c cell no_cell r.0) in
    subst (λ (n : Network). PassesOver n.cells c from to) same
    (ends-pass net.cells c from to e cell.both r.0 r.1 apart (λ t. subst (λ (k : Cell). IsTrue k.both) at t) lead)

-- the way over a cell is no shorter than what is known, or the node before it is open
abbrev pub IsTaken : List ℕ → List ℕ → ℕ → ℕ → ℕ → ℕ → Type 0
IsTaken dist place count u x long = (get_or dist x 0 ≤ get_or dist u 0 + long) ⊎ (get_or place u 0 < count)

-- so are the ways over all cells below a number
abbrev pub AreTaken : List Cell → List ℕ → List ℕ → List ℕ → ℕ → ℕ → Type 0
AreTaken cells lengths dist place count passed = (c u x : ℕ) → c < passed → u < length dist → PassesOver cells c u x → IsTaken dist place count u x (get_or lengths c 0)

-- one cell more
pub taken-more : (cells : List Cell) (lengths dist place place' : List ℕ) (count count' n : ℕ) → AreTaken cells lengths dist place count n → ((v : ℕ) → v < length dist → get_or place v 0 < count → get_or place' v 0 < count')
    → ((u x : ℕ) → PassesOver cells n u x → IsTaken dist place' count' u x (get_or lengths n 0)) → AreTaken cells lengths dist place' count' (n + 1)
taken-more cells lengths dist place place' count count' n before stays now c u x less inside p = elim (cases_eq c n) [
  | inl e ↦ subst (λ (k : ℕ). IsTaken dist place' count' u x (get_or lengths k 0)) (sym e) (now u x (subst (λ (k : ℕ). PassesOver cells k u x) e p))
  | inr ne ↦ elim (before c u x (omega arith) inside p) [
    | inl near ↦ inl near
    | inr opened ↦ inr (stays u inside opened)
  ]
]
