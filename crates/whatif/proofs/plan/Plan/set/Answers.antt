use Rattle.std.specs.Arc.{arc_value}
use Rattle.std.proofs.Common.{◌≡◌, ◌-◌, ◌*◌, ◌<◌, ◌≤◌, ◌∙◌, ap, sym, subst, arith, length, get_or, ◌+◌, set, List, ℕ, refl}
use Rattle.std.proofs.lemmas.List.{get_or_read}
use Rattle.mcf_limits.specs.declared.TheConstants.{MAX_LENGTH}
use Rattle.whatif.specs.declared.ratio.Ratio.{Ratio}
use Rattle.whatif.specs.Ratios.{ratio_of}
use Rattle.whatif.specs.Planned.{Planned, IsKept}
use Rattle.whatif.proofs.Keeping.{sized, part_within, sum_within, product_within, kept_set}
use Rattle.whatif.proofs.plan.Plan.set.Goals as goal

pub index-requires : goal.index-requires
index-requires c =
    let k = c.self.invariant.1 in
    let p = c.self.inside in
    let s = sized _ p.loads.items p.lengths.items p.tree p.sum p.distance k in
    omega (arith, k.planned.count, s.lengths_count, p.lengths.ok.0, c.requires.cell, ap (λ v. length v.caps) c.self.view_is)

pub overflow_sub-without : goal.overflow_sub-without
overflow_sub-without c =
    let k = c.self.invariant.1 in
    let p = c.self.inside in
    let i = c.args.cell in
    let s = sized _ p.loads.items p.lengths.items p.tree p.sum p.distance k in
    let lt : i < length p.caps.items = omega (arith, c.requires.cell, ap (λ v. length v.caps) c.self.view_is) in
    let inside : i < length p.lengths.items = omega (arith, k.planned.count, s.lengths_count) in
    let part : get_or p.caps.items i 0 * get_or p.lengths.items i 0 ≤ p.sum = part_within _ p.loads.items p.lengths.items p.tree p.sum p.distance i k lt in
    rw (get_or_read p.caps.items i c.index-2.result.now lt c.index-2.ensures 0, get_or_read p.lengths.items i c.index.result.now inside c.index.ensures 0) part

pub overflow_add-self : goal.overflow_add-self
overflow_add-self c =
    let k = c.self.invariant.1 in
    let p = c.self.inside in
    let i = c.args.cell in
    let s = sized _ p.loads.items p.lengths.items p.tree p.sum p.distance k in
    let lt : i < length p.caps.items = omega (arith, c.requires.cell, ap (λ v. length v.caps) c.self.view_is) in
    let inside : i < length p.lengths.items = omega (arith, k.planned.count, s.lengths_count) in
    let small : c.index.result.now ≤ MAX_LENGTH = rw (get_or_read p.lengths.items i c.index.result.now inside c.index.ensures 0) (k.length_limit i 0 inside) in
    omega (arith, sum_within _ p.loads.items p.lengths.items p.tree p.sum p.distance k, product_within c.args.cap c.index.result.now c.requires.cap small)

pub index-requires-3 : goal.index-requires-3
index-requires-3 c =
    let k = c.self.invariant.1 in
    let p = c.self.inside in
    let s = sized _ p.loads.items p.lengths.items p.tree p.sum p.distance k in
    omega (arith, k.planned.count, s.loads_count, p.loads.ok.0, c.requires.cell, ap (λ v. length v.caps) c.self.view_is)

pub ratio_of-requires-clause-load : goal.ratio_of-requires-clause-load
ratio_of-requires-clause-load c =
    let k = c.self.invariant.1 in
    let p = c.self.inside in
    let i = c.args.cell in
    let s = sized _ p.loads.items p.lengths.items p.tree p.sum p.distance k in
    let inside : i < length p.loads.items = omega (arith, k.planned.count, s.loads_count, c.requires.cell, ap (λ v. length v.caps) c.self.view_is) in
    rw (get_or_read p.loads.items i c.index-3.result.now inside c.index-3.ensures 0) (k.load_limit i 0 inside)

pub set-requires-clause-leaf : goal.set-requires-clause-leaf
set-requires-clause-leaf c =
    let k = c.self.invariant.1 in
    let p = c.self.inside in
    let s = sized _ p.loads.items p.lengths.items p.tree p.sum p.distance k in
    omega (arith, k.planned.count, s.tree_count, c.requires.cell, ap (λ v. length v.caps) c.self.view_is)

pub invariant_of-self : goal.invariant_of-self
invariant_of-self c =
    let k = c.self.invariant.1 in
    let p = c.self.inside in
    let i = c.args.cell in
    let now : Planned = record { net = (arc_value p.source).net.value; proof = (arc_value p.source).proof.value; caps = p.caps.items } in
    let next : Planned = record { net = (arc_value p.source).net.value; proof = (arc_value p.source).proof.value; caps = set p.caps.items i c.args.cap } in
    let sum = p.sum - c.index-2.result.now * c.index.result.now + c.args.cap * c.index.result.now in
    let s = sized now p.loads.items p.lengths.items p.tree p.sum p.distance k in
    let lt : i < length p.caps.items = omega (arith, c.requires.cell, ap (λ v. length v.caps) c.self.view_is) in
    let inside : i < length p.lengths.items = omega (arith, k.planned.count, s.lengths_count) in
    let loaded : i < length p.loads.items = omega (arith, k.planned.count, s.loads_count) in
    let cap_is = get_or_read p.caps.items i c.index-2.result.now lt c.index-2.ensures 0 in
    let length_is = get_or_read p.lengths.items i c.index.result.now inside c.index.ensures 0 in
    let load_is = get_or_read p.loads.items i c.index-3.result.now loaded c.index-3.ensures 0 in
    let sum_is : sum ≡ p.sum - get_or p.caps.items i 0 * get_or p.lengths.items i 0 + c.args.cap * get_or p.lengths.items i 0 = rw (← cap_is, ← length_is) refl in
    let tree_is : c.set.new.self ≡ set p.tree i (ratio_of c.args.cap (get_or p.loads.items i 0) i) =
    c.set.ensures ∙ ap (λ (r : Ratio). set p.tree i r) (c.ratio_of.ensures.value ∙ ap (λ (n : ℕ). ratio_of c.args.cap n i) load_is) in
    let kept = kept_set now p.loads.items p.lengths.items p.tree p.sum p.distance i c.args.cap sum k lt c.requires.cap sum_is in
    (c.self.invariant.0, subst (λ (t : List Ratio). IsKept next p.loads.items p.lengths.items t sum p.distance) (sym tree_is) kept)
