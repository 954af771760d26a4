use Rattle.std.proofs.Common.{arith, ◌≡◌, ◌+◌, ◌<◌, ◌≤◌, ◌++◌, ◌∷◌, [], ◌∙◌, ℕ, List, length, get_or, drop, sym, ap, append_assoc, append-nil}
use Rattle.std.proofs.lemmas.List.{drop_all}
use Rattle.flow_model.specs.Grouped.{first_from, members_from, from_at}
use Rattle.flow_model.proofs.Grouping.{next-is, member-at}
use Rattle.flow_model.proofs.groups.append_members.Goals as goal

pub loop-at-init : goal.loop-at-init
loop-at-init c =
    let cs = c.args.commodities.now in
    let at = get_or c.as_slice-first.result.now c.args.from 0 in
    let e : at ≡ first_from cs 0 c.args.from = rw c.as_slice-first.ensures.value (c.requires.chains.first_is c.args.from c.requires.from) in
    let n = next-is cs 0 c.args.from at (omega arith) e in
    record { within = n.within; of = n.of; all = ap (λ (xs : List ℕ). c.args.members.now.items ++ xs) (sym n.rest) }

pub loop-at-preserved : goal.loop-at-preserved
loop-at-preserved c =
    let cs = c.args.commodities.now in
    let k = c.loop-at.at in
    let v = c.args.from in
    let l : k < length cs = c.loop-at-test.true in
    let of : from_at cs k ≡ v = c.loop-at.invariant.of l in
    let at = get_or c.as_slice-next.result.now k 0 in
    let e : at ≡ first_from (drop (k + 1) cs) (k + 1) v = rw c.as_slice-next.ensures.value (c.requires.chains.next_is k l ∙ ap (first_from (drop (k + 1) cs) (k + 1)) of) in
    let n = next-is cs (k + 1) v at (omega arith) e in
    let m : members_from (drop k cs) k v ≡ k ∷ members_from (drop at cs) at v = member-at cs k v l of ∙ ap (λ (xs : List ℕ). k ∷ xs) n.rest in
    record {
      within = n.within;
      of = n.of;
      all = rw (c.in_ok-push.ensures.items, append_assoc c.loop-at.members.items (k ∷ []) (members_from (drop at cs) at v)) (ap (λ (xs : List ℕ). c.loop-at.members.items ++ xs) (sym m) ∙ c.loop-at.invariant.all);
    }

pub loop-at-smaller : goal.loop-at-smaller
loop-at-smaller c =
    let cs = c.args.commodities.now in
    let k = c.loop-at.at in
    let v = c.args.from in
    let l : k < length cs = c.loop-at-test.true in
    let of : from_at cs k ≡ v = c.loop-at.invariant.of l in
    let at = get_or c.as_slice-next.result.now k 0 in
    let e : at ≡ first_from (drop (k + 1) cs) (k + 1) v = rw c.as_slice-next.ensures.value (c.requires.chains.next_is k l ∙ ap (first_from (drop (k + 1) cs) (k + 1)) of) in
    let n = next-is cs (k + 1) v at (omega arith) e in
    let on : k + 1 ≤ at = n.onward in
    omega arith

pub returns : goal.returns
returns c =
    let e : drop c.loop-at.at c.args.commodities.now ≡ [] = drop_all c.loop-at.at c.args.commodities.now c.loop-at-test.false in
    sym (append-nil c.loop-at.members.items) ∙ (rw e at c.loop-at.invariant.all)
