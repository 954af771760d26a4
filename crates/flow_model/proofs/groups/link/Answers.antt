use Rattle.std.proofs.Common.{arith, ◌≡◌, ◌+◌, ◌-◌, ◌<◌, length, get_or}
use Rattle.std.proofs.lemmas.List.{get_or-map}
use Rattle.std.proofs.Math.Seq.{drop-length}
use Rattle.flow_model.specs.declared.net.Commodity.{Commodity}
use Rattle.flow_model.specs.Grouped.{from_at}
use Rattle.flow_model.proofs.Grouping.{link-first, link-next}
use Rattle.flow_model.proofs.groups.link.Goals as goal

pub loop-k-init : goal.loop-k-init
loop-k-init c = record {
  first = λ v l. rw (drop-length c.args.commodities.now) (c.requires.none v l);
  next = λ j a b. absurd (omega arith);
}

pub loop-k-preserved : goal.loop-k-preserved
loop-k-preserved c =
    let d : Commodity = record { from = 0; to = 0; amount = 0 } in
    let i = c.loop-k.k - 1 in
    let k : c.loop-k.k ≡ i + 1 = omega arith in
    let l : i < length c.args.commodities.now = omega (arith, c.loop-k.auto.k) in
    let at : from_at c.args.commodities.now i ≡ (get_or c.args.commodities.now i d).from = get_or-map (λ (c : Commodity). c.from) c.args.commodities.now i d 0 l in
    let inside : (get_or c.args.commodities.now i d).from < length c.loop-k.first = omega (arith, (c.requires.nodes i d l).from) in
    record {
      first = link-first c.args.commodities.now c.loop-k.first i c.loop-k.k (get_or c.args.commodities.now i d).from k l at inside c.loop-k.invariant.first;
      next = link-next c.args.commodities.now c.loop-k.first c.loop-k.next i c.loop-k.k (get_or c.args.commodities.now i d).from k l (omega arith) at inside c.loop-k.invariant.first c.loop-k.invariant.next;
    }

pub returns : goal.returns
returns c =
    let k : c.loop-k.k ≡ 0 = omega arith in
    record {
      nexts = omega arith;
      first_is = rw k at c.loop-k.invariant.first;
      next_is = λ j l. c.loop-k.invariant.next j (omega arith) l;
    }
