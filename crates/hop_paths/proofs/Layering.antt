-- One layer after the other is made.
use Rattle.std.proofs.Common.{◌≡◌, inl, inr, ℕ, zero, suc, ◌+◌, ◌*◌, ◌<◌, ◌≤◌, List, Option, Some, None, true, false, length, get_or, set, refl, ap, sym, subst, ◌∙◌, arith, get_or-set_other, get_or-set_same}
use Rattle.std.proofs.Math.Nat.{mul-le-mul_right, suc-mul}
use Rattle.std.proofs.lemmas.Bool.{cases_lt, cases_eq}
use Rattle.std.proofs.lemmas.List.{get_or_default}
use Rattle.std.specs.Prelude.{Contains, MatchOption, IsSome}
use Rattle.flow_model.specs.declared.net.Cell.{Cell}
use Rattle.flow_model.specs.Walk.{PassesOver}
use Rattle.dijkstra_paths.specs.declared.graph.Arc.{Arc}
use Rattle.dijkstra_paths.specs.Tree.{arc_at}
use Rattle.hop_paths.specs.declared.search.HopStep.{HopStep}
use Rattle.hop_paths.specs.Searching.{step_at, IsOver, IsNext, IsGoneOn, IsSettled, IsSameBelow, IsBegun, IsBehind, IsSearched}
use Rattle.mcf_limits.specs.declared.TheConstants.{MAX_LENGTH}

-- where there is no step, or the step of a way
pub by_step : (A : Type 0) (B : HopStep → Type 0) (o p : Option HopStep) → o ≡ p → MatchOption p A B → MatchOption o A B
by_step A B o p e h = subst (λ (q : Option HopStep). MatchOption q A B) (sym e) h

-- what leads to a node stays where the numbers do
over-kept : (cells : List Cell) (lengths : List ℕ) (nodes : ℕ) (old new : List ℕ) (base v : ℕ) (o : Option HopStep) → get_or new (base + v) 0 ≡ get_or old (base + v) 0 → get_or new (base + nodes + v) 0 ≡ get_or old (base + nodes + v) 0 → ((u : ℕ) → u < nodes → get_or new (base + u) 0 ≡ get_or old (base + u) 0)
    → MatchOption o (get_or old (base + nodes + v) 0 ≡ get_or old (base + v) 0) (IsOver cells lengths nodes old base v) → MatchOption o (get_or new (base + nodes + v) 0 ≡ get_or new (base + v) 0) (IsOver cells lengths nodes new base v)
over-kept cells lengths nodes old new base v None one two first e = omega (arith, one, two, e)
over-kept cells lengths nodes old new base v (Some s) one two first o = record {
  inside = o.inside;
  near = omega (arith, first s.from o.inside, o.near);
  passes = o.passes;
  is = omega (arith, first s.from o.inside, two, o.is);
}

-- a shorter way to one node
pub next-put : (cells : List Cell) (lengths : List ℕ) (nodes : ℕ) (dist : List ℕ) (steps : List (Option HopStep)) (base at x there : ℕ) (step : HopStep) → step.from < nodes → x < nodes → at ≡ base + nodes + x → at < length dist → length steps ≡ length dist
    → get_or dist (base + step.from) 0 < MAX_LENGTH → PassesOver cells step.cell step.from x → there ≡ get_or dist (base + step.from) 0 + get_or lengths step.cell 0 → there < get_or dist at 0
    → IsNext cells lengths nodes dist steps base → IsNext cells lengths nodes (set dist at there) (set steps at (Some step)) base
next-put cells lengths nodes dist steps base at x there step lf lx is inside room near passes value less n =
    let new = set dist at there in
    let first : (u : ℕ) → u < nodes → get_or new (base + u) 0 ≡ get_or dist (base + u) 0 = λ u l. get_or-set_other dist at (base + u) there 0 (λ (e : base + u ≡ at). omega arith) in
    let here : get_or new at 0 ≡ there = get_or-set_same dist at there 0 inside in
    let within : at < length steps = omega arith in
    let mark : step_at (set steps at (Some step)) at ≡ Some step = get_or-set_same steps at (Some step) None within in
    record {
      falls = λ v l. elim (cases_eq v x) [
        | inl e ↦ omega (arith, n.falls v l, first v l, here, ap (λ (k : ℕ). get_or new k 0) is, ap (λ (k : ℕ). get_or dist k 0) is, ap (λ (k : ℕ). get_or new (base + nodes + k) 0) e, ap (λ (k : ℕ). get_or dist (base + nodes + k) 0) e)
        | inr a ↦ omega (arith, n.falls v l, first v l, get_or-set_other dist at (base + nodes + v) there 0 (λ (e : base + nodes + v ≡ at). a (omega arith)))
      ];
      by = λ v l. elim (cases_eq v x) [
        | inl e ↦
            let there_at : base + nodes + v ≡ at = omega arith in
            by_step (get_or new (base + nodes + v) 0 ≡ get_or new (base + v) 0) (IsOver cells lengths nodes new base v) (step_at (set steps at (Some step)) (base + nodes + v)) (Some step)
            (ap (step_at (set steps at (Some step))) there_at ∙ mark)
            (record {
              inside = lf;
              near = omega (arith, first step.from lf, near);
              passes = subst (λ (k : ℕ). PassesOver cells step.cell step.from k) (sym e) passes;
              is = omega (arith, first step.from lf, here, ap (λ (k : ℕ). get_or new k 0) there_at, value);
            })
        | inr a ↦
            let apart : base + nodes + v ≡ at → ⊥ = λ (e : base + nodes + v ≡ at). a (omega arith) in
            by_step (get_or new (base + nodes + v) 0 ≡ get_or new (base + v) 0) (IsOver cells lengths nodes new base v) (step_at (set steps at (Some step)) (base + nodes + v)) (step_at steps (base + nodes + v))
            (get_or-set_other steps at (base + nodes + v) (Some step) None apart)
            (over-kept cells lengths nodes dist new base v (step_at steps (base + nodes + v)) (first v l) (get_or-set_other dist at (base + nodes + v) there 0 apart) first (n.by v l))
      ];
    }

-- a layer that is as the one before it
pub next-begun : (cells : List Cell) (lengths : List ℕ) (nodes : ℕ) (dist : List ℕ) (steps : List (Option HopStep)) (base : ℕ) → IsBegun nodes dist steps base → IsNext cells lengths nodes dist steps base
next-begun cells lengths nodes dist steps base b = record {
  falls = λ v l. omega (arith, b.same v l);
  by = λ v l. by_step (get_or dist (base + nodes + v) 0 ≡ get_or dist (base + v) 0) (IsOver cells lengths nodes dist base v) (step_at steps (base + nodes + v)) None (b.none v l) (b.same v l);
}

-- what is settled stays so where its layer stays as it was
pub settled-kept : (cells : List Cell) (lengths : List ℕ) (nodes : ℕ) (old new : List ℕ) (old_steps new_steps : List (Option HopStep)) (base : ℕ) → IsSameBelow (base + nodes) old new old_steps new_steps
    → IsSettled cells lengths nodes old old_steps base → IsSettled cells lengths nodes new new_steps base
settled-kept cells lengths nodes old new old_steps new_steps base front s u c x lu lx none near p =
    let from = front.dist (base + u) (omega arith) in
    omega (arith, from, front.dist (base + x) (omega arith), s u c x lu lx (sym (front.steps (base + u) (omega arith)) ∙ none) (omega (arith, from)) p)

-- a node without a step needs no going over
pub gone-settled : (cells : List Cell) (lengths : List ℕ) (nodes : ℕ) (dist : List ℕ) (steps : List (Option HopStep)) (base node : ℕ) → node < nodes → IsSettled cells lengths nodes dist steps base
    → IsNext cells lengths nodes dist steps base → step_at steps (base + node) ≡ None → get_or dist (base + node) 0 < MAX_LENGTH → IsGoneOn cells lengths nodes dist base node
gone-settled cells lengths nodes dist steps base node ln s n none near c x lx p = omega (arith, n.falls x lx, s node c x ln lx none near p)

-- the layer behind a whole one is settled
pub settled-behind : (cells : List Cell) (lengths : List ℕ) (nodes : ℕ) (dist : List ℕ) (steps : List (Option HopStep)) (base : ℕ) → IsBehind cells lengths nodes dist steps base → IsSettled cells lengths nodes dist steps (base + nodes)
settled-behind cells lengths nodes dist steps base b u c x lu lx none near p =
    let is : get_or dist (base + nodes + u) 0 ≡ get_or dist (base + u) 0 =
    by_step (get_or dist (base + nodes + u) 0 ≡ get_or dist (base + u) 0) (IsOver cells lengths nodes dist base u) None (step_at steps (base + nodes + u)) (sym none) (b.next.by u lu) in
    omega (arith, is, b.all u lu (omega (arith, is)) c x lx p)

-- all arcs of the node are gone over
pub arcs-gone : (cells : List Cell) (lengths : List ℕ) (nodes : ℕ) (dist : List ℕ) (base node : ℕ) (arcs : List Arc)
    → ((k : ℕ) → k < length arcs → get_or dist (base + nodes + (arc_at arcs k).to) 0 ≤ get_or dist (base + node) 0 + get_or lengths (arc_at arcs k).cell 0)
    → ((c x : ℕ) → PassesOver cells c node x → Contains arcs (record { cell = c; to = x })) → IsGoneOn cells lengths nodes dist base node
arcs-gone cells lengths nodes dist base node arcs h each = λ c x lx p.
    let a : Arc = record { cell = c; to = x } in
    let found = each c x p in
    let is : arc_at arcs found.0 ≡ a = get_or_default arcs found.0 (record { cell = 0; to = 0 }) a found.1 ∙ found.2 in
    subst (λ (b : Arc). get_or dist (base + nodes + b.to) 0 ≤ get_or dist (base + node) 0 + get_or lengths b.cell 0) is (h found.0 found.1)

-- one node more is gone on from
pub gone-more : (cells : List Cell) (lengths : List ℕ) (nodes : ℕ) (old new : List ℕ) (old_steps new_steps : List (Option HopStep)) (base node : ℕ) → node < nodes
    → ((u : ℕ) → u < node → get_or old (base + u) 0 < MAX_LENGTH → IsGoneOn cells lengths nodes old base u)
    → (get_or old (base + node) 0 < MAX_LENGTH → IsGoneOn cells lengths nodes new base node)
    → ((k : ℕ) → get_or new k 0 ≤ get_or old k 0) → IsSameBelow (base + nodes) old new old_steps new_steps
    → (u : ℕ) → u < node + 1 → get_or new (base + u) 0 < MAX_LENGTH → IsGoneOn cells lengths nodes new base u
gone-more cells lengths nodes old new old_steps new_steps base node ln all done falls front u l near =
    let same : get_or new (base + u) 0 ≡ get_or old (base + u) 0 = front.dist (base + u) (omega arith) in
    elim (cases_lt u node) [
      | inl less ↦ λ c x lx p. omega (arith, same, falls (base + nodes + x), all u less (omega (arith, same)) c x lx p)
      | inr more ↦
          let is : node ≡ u = omega arith in
          subst (λ (n : ℕ). IsGoneOn cells lengths nodes new base n) is (done (omega (arith, same, ap (λ (n : ℕ). get_or old (base + n) 0) is)))
    ]

-- two times in a row
pub same-then : (k : ℕ) (a b c : List ℕ) (sa sb sc : List (Option HopStep)) → IsSameBelow k a b sa sb → IsSameBelow k b c sb sc → IsSameBelow k a c sa sc
same-then k a b c sa sb sc f s = record {
  len = s.len ∙ f.len;
  steps_len = s.steps_len ∙ f.steps_len;
  dist = λ j l. s.dist j l ∙ f.dist j l;
  steps = λ j l. s.steps j l ∙ f.steps j l;
}

-- a whole layer stays so where neither it nor the one before changes
behind-kept : (cells : List Cell) (lengths : List ℕ) (nodes : ℕ) (old new : List ℕ) (old_steps new_steps : List (Option HopStep)) (base k : ℕ) → base + nodes + nodes ≤ k → IsSameBelow k old new old_steps new_steps
    → IsBehind cells lengths nodes old old_steps base → IsBehind cells lengths nodes new new_steps base
behind-kept cells lengths nodes old new old_steps new_steps base k fits same b =
    let first : (v : ℕ) → v < nodes → get_or new (base + v) 0 ≡ get_or old (base + v) 0 = λ v l. same.dist (base + v) (omega arith) in
    let second : (v : ℕ) → v < nodes → get_or new (base + nodes + v) 0 ≡ get_or old (base + nodes + v) 0 = λ v l. same.dist (base + nodes + v) (omega arith) in
    record {
      next = record {
        falls = λ v l. omega (arith, first v l, second v l, b.next.falls v l);
        by = λ v l. by_step (get_or new (base + nodes + v) 0 ≡ get_or new (base + v) 0) (IsOver cells lengths nodes new base v) (step_at new_steps (base + nodes + v)) (step_at old_steps (base + nodes + v)) (same.steps (base + nodes + v) (omega arith))
            (over-kept cells lengths nodes old new base v (step_at old_steps (base + nodes + v)) (first v l) (second v l) first (b.next.by v l));
      };
      all = λ u l near. λ c x lx p. omega (arith, first u l, second x lx, b.all u l (omega (arith, first u l)) c x lx p);
    }

-- the first layer
pub searched-first : (cells : List Cell) (lengths : List ℕ) (from nodes : ℕ) (dist : List ℕ) (steps : List (Option HopStep)) (step : HopStep) → from < nodes → nodes ≤ length dist → length steps ≡ length dist
    → ((v : ℕ) → v < nodes → get_or dist v 0 ≡ MAX_LENGTH) → IsSearched cells lengths from nodes (set dist from 0) (set steps from (Some step)) 0
searched-first cells lengths from nodes dist steps step lf size room far =
    let inside : from < length dist = omega arith in
    let within : from < length steps = omega arith in
    let is : step_at (set steps from (Some step)) from ≡ Some step = get_or-set_same steps from (Some step) None within in
    record {
      start = rw get_or-set_same refl;
      far = λ v l apart. rw get_or-set_other (far v l);
      first = subst (λ (o : Option HopStep). IsSome o) (sym is) refl;
      each = λ i l. absurd (omega arith);
    }

-- one layer more
pub searched-more : (cells : List Cell) (lengths : List ℕ) (from nodes : ℕ) (old new : List ℕ) (old_steps new_steps : List (Option HopStep)) (i : ℕ) → from < nodes → IsSearched cells lengths from nodes old old_steps i
    → IsSameBelow (i * nodes + nodes) old new old_steps new_steps → IsBehind cells lengths nodes new new_steps (i * nodes) → IsSearched cells lengths from nodes new new_steps (i + 1)
searched-more cells lengths from nodes old new old_steps new_steps i lf s front b = record {
  start = front.dist from (omega arith) ∙ s.start;
  far = λ v l apart. front.dist v (omega arith) ∙ s.far v l apart;
  first = subst (λ (o : Option HopStep). IsSome o) (sym (front.steps from (omega arith))) s.first;
  each = λ j l. elim (cases_lt j i) [
    | inl less ↦
        let up : suc j * nodes ≤ i * nodes = mul-le-mul_right nodes (omega arith) in
        behind-kept cells lengths nodes old new old_steps new_steps (j * nodes) (i * nodes + nodes) (omega (arith, up, suc-mul j nodes)) front (s.each j less)
    | inr more ↦
        let is : i ≡ j = omega arith in
        subst (λ (n : ℕ). IsBehind cells lengths nodes new new_steps (n * nodes)) is b
  ];
}

-- the last layer of a search is settled
pub settled-searched : (cells : List Cell) (lengths : List ℕ) (from nodes : ℕ) (dist : List ℕ) (steps : List (Option HopStep)) (i : ℕ) → IsSearched cells lengths from nodes dist steps i → IsSettled cells lengths nodes dist steps (i * nodes)
settled-searched cells lengths from nodes dist steps zero s u c x lu lx none near p =
    let plain : 0 * nodes + u ≡ u = omega arith in
    elim (cases_eq u from) [
      | inl e ↦
          let nothing : step_at steps from ≡ None = ap (step_at steps) (sym e) ∙ ap (step_at steps) (sym plain) ∙ none in
          let no : false ≡ true = subst (λ (o : Option HopStep). IsSome o) nothing s.first in
          absurd cc
      | inr n ↦ absurd (omega (arith, near, ap (λ (k : ℕ). get_or dist k 0) plain, s.far u lu n))
    ]
settled-searched cells lengths from nodes dist steps (suc i) s u c x lu lx none near p =
    let same : suc i * nodes ≡ i * nodes + nodes = suc-mul i nodes in
    let settled : IsSettled cells lengths nodes dist steps (suc i * nodes) = subst (λ (b : ℕ). IsSettled cells lengths nodes dist steps b) (sym same) (settled-behind cells lengths nodes dist steps (i * nodes) (s.each i (omega arith))) in
    settled u c x lu lx none near p

-- behind a layer in which no node came nearer stands the same
pub behind-still : (cells : List Cell) (lengths : List ℕ) (nodes : ℕ) (old new : List ℕ) (steps_old steps_new : List (Option HopStep)) (base : ℕ) → IsSettled cells lengths nodes old steps_old base → IsBegun nodes new steps_new base
    → IsSameBelow (base + nodes) old new steps_old steps_new → ((v : ℕ) → v < nodes → step_at steps_new (base + v) ≡ None) → IsBehind cells lengths nodes new steps_new base
behind-still cells lengths nodes old new steps_old steps_new base settled begun front still = record {
  next = record {
    falls = λ v l. omega (arith, begun.same v l);
    by = λ v l. subst (λ (o : Option HopStep). MatchOption o (get_or new (base + nodes + v) 0 ≡ get_or new (base + v) 0) (IsOver cells lengths nodes new base v)) (sym (begun.none v l)) (begun.same v l);
  };
  all = λ u l near c x lx passes.
      let here : get_or new (base + u) 0 ≡ get_or old (base + u) 0 = front.dist (base + u) (omega arith) in
      let there : get_or new (base + x) 0 ≡ get_or old (base + x) 0 = front.dist (base + x) (omega arith) in
      let none : step_at steps_old (base + u) ≡ None = sym (front.steps (base + u) (omega arith)) ∙ still u l in
      omega (arith, here, there, begun.same x lx, settled u c x l lx none (omega (arith, here, near)) passes);
}
