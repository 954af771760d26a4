-- Arcs are gone over, from one open node after the other.
use Rattle.std.proofs.Common.{◌≡◌, ◌≢◌, inl, inr, ℕ, ◌+◌, ◌-◌, ◌<◌, ◌≤◌, List, length, get_or, set, refl, sym, ap, subst, ◌∙◌, arith, get_or-set_other, get_or-set_same, length-set}
use Rattle.std.proofs.lemmas.List.{get_or_default}
use Rattle.std.proofs.lemmas.Option.{slice_get_within, get_or_from_slice_get}
use Rattle.flow_model.specs.Network.{Network, IsCell, IsNetwork}
use Rattle.std.proofs.lemmas.Bool.{cases_eq, cases_lt}
use Rattle.flow_model.specs.declared.net.Cell.{Cell}
use Rattle.std.specs.Prelude.{Contains}
use Rattle.dijkstra_paths.specs.declared.graph.Arc.{Arc}
use Rattle.flow_model.specs.Lengths.{AreLengths}
use Rattle.flow_model.specs.Walk.{PassesOver}
use Rattle.dijkstra_paths.specs.declared.search.Step.{Step}
use Rattle.dijkstra_paths.specs.Heap.{AreInverse, SameOpen}
use Rattle.mcf_limits.specs.declared.TheConstants.{MAX_LENGTH}
use Rattle.dijkstra_paths.specs.Tree.{step_at, arc_at, ArcsDone, IsReached, IsTree, IsDone, AreUnderWay}

pub at-same : (xs : List ℕ) (i k x : ℕ) → k ≡ i → i < length xs → get_or (set xs i x) k 0 ≡ x
at-same xs i k x e l = rw e (let l' : i < length xs = l in rw get_or-set_same refl)

pub at-other : (xs : List ℕ) (i k x : ℕ) → k ≢ i → get_or (set xs i x) k 0 ≡ get_or xs k 0
at-other xs i k x ne = rw get_or-set_other refl

step-same : (steps : List Step) (i k : ℕ) (s : Step) → k ≡ i → i < length steps → step_at (set steps i s) k ≡ s
step-same steps i k s e l = rw e (let l' : i < length steps = l in rw get_or-set_same refl)

step-other : (steps : List Step) (i k : ℕ) (s : Step) → k ≢ i → step_at (set steps i s) k ≡ step_at steps k
step-other steps i k s ne = rw get_or-set_other refl

at-falls : (xs : List ℕ) (i x : ℕ) → i < length xs → x ≤ get_or xs i 0 → (k : ℕ) → get_or (set xs i x) k 0 ≤ get_or xs k 0
at-falls xs i x l h k = elim (cases_eq k i) [
  | inl e ↦ rw (at-same xs i k x e l, e) h
  | inr n ↦ rw (at-other xs i k x n) (omega arith)
]

pub tree-relaxed : (cells : List Cell) (lengths : List ℕ) (from node : ℕ) (dist : List ℕ) (steps : List Step) (c x there : ℕ)
    → AreLengths cells lengths → IsTree cells lengths from dist steps → node < length dist → x < length dist → PassesOver cells c node x
    → there ≡ get_or dist node 0 + get_or lengths c 0 → there < get_or dist x 0
    → IsTree cells lengths from (set dist x there) (set steps x (record { cell = c; from = node }))
tree-relaxed cells lengths from node dist steps c x there lens t ln lx p e less =
    let step : Step = record { cell = c; from = node } in
    let long : 1 ≤ get_or lengths c 0 = lens.low c p.0 p.1 p.2 in
    let apart : node ≢ x = λ (z : node ≡ x). absurd (omega (arith, ap (λ (n : ℕ). get_or dist n 0) z)) in
    let not_first : from ≢ x = λ (z : from ≡ x). absurd (omega (arith, ap (λ (n : ℕ). get_or dist n 0) z, t.start)) in
    let same : length (set dist x there) ≡ length dist = length-set dist x there in
    let same' : length (set steps x step) ≡ length steps = length-set steps x step in
    let inside : x < length steps = omega (arith, t.count) in
    let falls = at-falls dist x there lx (omega arith) in
    record {
      count = same' ∙ (t.count ∙ sym same);
      bound = λ v l. omega (arith, falls v, t.bound v (omega (arith, same)));
      start = at-other dist x from there not_first ∙ t.start;
      reached = λ v l first near. elim (cases_eq v x) [
        | inl z ↦
            let there' : get_or (set dist x there) v 0 ≡ there = at-same dist x v there z lx in
            let node' : get_or (set dist x there) node 0 ≡ get_or dist node 0 = at-other dist x node there apart in
            rw (step-same steps x v step z inside) (record {
              passes = subst (λ (n : ℕ). PassesOver cells c node n) (sym z) p;
              before = omega (arith, same);
              far = omega (arith, there', node');
            })
        | inr n ↦
            let kept : get_or (set dist x there) v 0 ≡ get_or dist v 0 = at-other dist x v there n in
            let old : IsReached cells lengths dist (step_at steps v) v = t.reached v (omega (arith, same)) first (omega (arith, kept)) in
            rw (step-other steps x v step n) (record {
              passes = old.passes;
              before = omega (arith, same, old.before);
              far = omega (arith, kept, old.far, falls (step_at steps v).from);
            })
      ];
    }

pub state-relaxed : (cells : List Cell) (lengths : List ℕ) (from node : ℕ) (dist : List ℕ) (steps : List Step) (order place order' place' : List ℕ) (count count' c x there : ℕ)
    → AreLengths cells lengths → AreUnderWay cells lengths from node dist steps order place count → node < length dist → x < length dist → PassesOver cells c node x
    → there ≡ get_or dist node 0 + get_or lengths c 0 → there < get_or dist x 0
    → AreInverse order' place' → length order' ≡ length order → get_or place' x 0 < count' → SameOpen place count place' count' x → count' ≤ length order
    → AreUnderWay cells lengths from node (set dist x there) (set steps x (record { cell = c; from = node })) order' place' count'
state-relaxed cells lengths from node dist steps order place order' place' count count' c x there lens s ln lx p e less inv long opened others few =
    let same : length (set dist x there) ≡ length dist = length-set dist x there in
    let falls = at-falls dist x there lx (omega arith) in
    let places : length place ≡ length dist = s.inverse.same ∙ s.nodes in
    record {
      tree = tree-relaxed cells lengths from node dist steps c x there lens s.tree ln lx p e less;
      inverse = inv;
      nodes = long ∙ (s.nodes ∙ sym same);
      few = omega (arith, same, few, s.nodes);
      opened = λ v l q. elim (cases_eq v x) [
        | inl z ↦ rw (at-same dist x v there z lx) (omega (arith, s.tree.bound x lx))
        | inr n ↦ rw (at-other dist x v there n) (s.opened v (omega (arith, same)) ((others v (omega (arith, places, same)) n).1 q))
      ];
      done = λ u l apart near shut.
          let other : u ≢ x = λ (z : u ≡ x). absurd (omega (arith, opened, ap (λ (n : ℕ). get_or place' n 0) z)) in
          let kept : get_or (set dist x there) u 0 ≡ get_or dist u 0 = at-other dist x u there other in
          let was_shut : count ≤ get_or place u 0 = elim (cases_lt (get_or place u 0) count) [
            | inl q ↦ absurd (omega (arith, (others u (omega (arith, places, same)) other).0 q))
            | inr q ↦ q
          ] in
          let old : IsDone cells lengths dist u = s.done u (omega (arith, same)) apart (omega (arith, kept)) was_shut in
          λ d y over. omega (arith, kept, old d y over, falls y);
    }

-- the node is done
pub state-closed : (cells : List Cell) (lengths : List ℕ) (from node : ℕ) (dist : List ℕ) (steps : List Step) (order place : List ℕ) (count : ℕ)
    → AreUnderWay cells lengths from node dist steps order place count → IsDone cells lengths dist node → AreUnderWay cells lengths from (length dist) dist steps order place count
state-closed cells lengths from node dist steps order place count s d = record {
  tree = s.tree;
  inverse = s.inverse;
  nodes = s.nodes;
  few = s.few;
  opened = s.opened;
  done = λ u l apart near shut. elim (cases_eq u node) [
    | inl e ↦ subst (λ (n : ℕ). IsDone cells lengths dist n) (sym e) d
    | inr n ↦ s.done u l n near shut
  ];
}

-- an open node is taken out, and worked on
pub state-popped : (cells : List Cell) (lengths : List ℕ) (from node : ℕ) (dist : List ℕ) (steps : List Step) (order place order' place' : List ℕ) (count : ℕ)
    → AreUnderWay cells lengths from (length dist) dist steps order place count → AreInverse order' place' → length order' ≡ length order → 0 < count
    → count ≤ get_or place' node 0 + 1 → SameOpen place count place' (count - 1) node
    → AreUnderWay cells lengths from node dist steps order' place' (count - 1)
state-popped cells lengths from node dist steps order place order' place' count s inv long some shut others =
    let places : length place ≡ length dist = s.inverse.same ∙ s.nodes in
    record {
      tree = s.tree;
      inverse = inv;
      nodes = long ∙ s.nodes;
      few = omega (arith, s.few);
      opened = λ v l q. elim (cases_eq v node) [
        | inl e ↦ absurd (omega (arith, ap (λ (n : ℕ). get_or place' n 0) e))
        | inr n ↦ s.opened v l ((others v (omega (arith, places)) n).1 q)
      ];
      done = λ u l apart near shut'.
          let was_shut : count ≤ get_or place u 0 = elim (cases_lt (get_or place u 0) count) [
            | inl q ↦ absurd (omega (arith, (others u (omega (arith, places)) apart).0 q))
            | inr q ↦ q
          ] in
          s.done u l (λ (e : u ≡ length dist). absurd (omega (arith, e))) near was_shut;
    }

-- only the first node is open
pub state-first : (cells : List Cell) (lengths : List ℕ) (from : ℕ) (dist : List ℕ) (steps : List Step) (order place place₀ : List ℕ) (count : ℕ)
    → length steps ≡ length dist → AreInverse order place → length order ≡ length dist → length place₀ ≡ length dist → count ≤ length dist → from < length dist
    → ((v : ℕ) → v < length dist → get_or dist v 0 ≡ MAX_LENGTH) → get_or place from 0 < count → SameOpen place₀ 0 place count from
    → AreUnderWay cells lengths from (length (set dist from 0)) (set dist from 0) steps order place count
state-first cells lengths from dist steps order place place₀ count sl inv nodes nodes₀ few lf far opened others =
    let same : length (set dist from 0) ≡ length dist = length-set dist from 0 in
    let first : get_or (set dist from 0) from 0 ≡ 0 = at-same dist from from 0 refl lf in
    record {
      tree = record {
        count = sl ∙ sym same;
        bound = λ v l. elim (cases_eq v from) [
          | inl e ↦ rw (at-same dist from v 0 e lf) (omega arith)
          | inr n ↦ rw (at-other dist from v 0 n, far v (omega (arith, same))) (omega arith)
        ];
        start = first;
        reached = λ v l apart near. absurd (omega (arith, at-other dist from v 0 apart, far v (omega (arith, same))));
      };
      inverse = inv;
      nodes = nodes ∙ sym same;
      few = omega (arith, same);
      opened = λ v l q. elim (cases_eq v from) [
        | inl e ↦ rw (at-same dist from v 0 e lf) (omega arith)
        | inr n ↦ absurd (omega (arith, (others v (omega (arith, same)) n).1 q))
      ];
      done = λ u l apart near shut. elim (cases_eq u from) [
        | inl e ↦ absurd (omega (arith, ap (λ (n : ℕ). get_or place n 0) e))
        | inr n ↦ absurd (omega (arith, at-other dist from u 0 n, far u (omega (arith, same))))
      ];
    }

-- all arcs of the node are done, so the node is
pub arcs-done : (cells : List Cell) (lengths dist : List ℕ) (node : ℕ) (arcs : List Arc) → ArcsDone lengths dist node arcs (length arcs)
    → ((c x : ℕ) → PassesOver cells c node x → Contains arcs (record { cell = c; to = x })) → IsDone cells lengths dist node
arcs-done cells lengths dist node arcs h each = λ c x p.
    let a : Arc = record { cell = c; to = x } in
    let found = each c x p in
    let is : arc_at arcs found.0 ≡ a = get_or_default arcs found.0 (record { cell = 0; to = 0 }) a found.1 ∙ found.2 in
    subst (λ (b : Arc). get_or dist b.to 0 ≤ get_or dist node 0 + get_or lengths b.cell 0) is (h found.0 found.1)

-- a way over a positive cell leads to a node, and the cell is one of the network's
pub pass-inside : (net : Network) (c u x : ℕ) → IsNetwork net → PassesOver net.cells c u x → (x < net.nodes) × (c < length net.cells)
pass-inside net c u x n p =
    let within : c < length net.cells = slice_get_within net.cells c p.0 p.1 in
    let is : get_or net.cells c p.0 ≡ p.0 = get_or_from_slice_get net.cells c p.0 p.0 p.1 in
    let fits : IsCell net.nodes p.0 = subst (λ (k : Cell). IsCell net.nodes k) is (n.cells c p.0 within) in
    elim p.3 [
      | inl g ↦ (rw g.1 fits.head, within)
      | inr g ↦ (rw g.2 fits.tail, within)
    ]
