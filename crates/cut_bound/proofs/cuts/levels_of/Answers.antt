use Rattle.std.proofs.Common.{◌≡◌, length, sym, subst, List, ℕ, rules}
use Rattle.std.proofs.lemmas.List.Filters.{dedup_is}
use Rattle.cut_bound.specs.Candidates.{AreLevels}
use Rattle.cut_bound.proofs.Levelling.{levels-made, levels-none}
use Rattle.cut_bound.proofs.cuts.levels_of.Goals as goal

pub returns-then-is_empty-clause-levels : goal.returns-then-is_empty-clause-levels
returns-then-is_empty-clause-levels c =
    let is = dedup_is _ _ _ c.dedup.ensures.filtered in
    let none : length c.dedup.new.self.items ≡ 0 = search rules in
    levels-none c.args.values.now c.dedup.new.self.items none
    (levels-made c.args.values.now c.in_ok-levels.levels.items c.sort_unstable.new.self.items c.dedup.new.self.items c.in_ok-levels.ensures.items c.sort_unstable.ensures.permutation c.sort_unstable.ensures.sorted is)

pub returns-clause-levels : goal.returns-clause-levels
returns-clause-levels c =
    let is = dedup_is _ _ _ c.dedup.ensures.filtered in
    subst (λ (xs : List ℕ). AreLevels c.args.values.now xs) (sym c.remove.ensures.items)
    (levels-made c.args.values.now c.in_ok-levels.levels.items c.sort_unstable.new.self.items c.dedup.new.self.items c.in_ok-levels.ensures.items c.sort_unstable.ensures.permutation c.sort_unstable.ensures.sorted is)
