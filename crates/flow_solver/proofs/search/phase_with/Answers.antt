use Rattle.std.proofs.Common.{◌≡◌, ℕ, ◌<◌, List, length, get_or, None, sym, ap, subst, arith}
use Rattle.std.proofs.lemmas.List.{with_items_is}
use Rattle.std.specs.Arc.{arc_value}
use Rattle.flow_core.specs.Core.{Terms}
use Rattle.phase_engine.specs.declared.hand.Hand.{Hand}
use Rattle.phase_engine.specs.Hands.{HasRoomOf, IsSameWorker, IsReady}
use Rattle.flow_solver.proofs.Phasing.{back-all, from-ok, over-all}
use Rattle.flow_solver.proofs.search.phase_with.Goals as goal

pub end_over-requires-clause-over : goal.end_over-requires-clause-over
end_over-requires-clause-over g c κs within =
    let hands = c.args.hands.items in
    let first : c.deref_mut.result.now ≡ hands = c.deref_mut.ensures.value in
    over-all c.args.task.now.on.now.net.now c.in-Ok.words.0 (arc_value c.in-Ok-new.words) hands c.hand_out.new.hands _ c.in-Ok-back.back.items (record {
      words = c.in-Ok-new.ensures.ok;
      of = ap (λ (t : Terms). t.net) c.in-Ok.ensures.loads;
      given = omega (arith, ap (λ (hs : List Hand). length hs) first);
      moved = with_items_is c.args.hands c.hand_out.new.hands (omega arith);
      count = from-ok c.take_all-answer.result.1 _ c.in-Ok-back.back c.in-Ok-back.is c.take_all-answer.ensures.count;
      fresh = c.requires.fresh;
      ready = subst (λ (hs : List Hand). (k : ℕ) (d : Hand) → k < length hs → ((get_or c.hand_out.new.hands k d).worker ≡ k) × IsReady c.in-Ok.words.0 (get_or c.hand_out.new.hands k d)) first c.hand_out.ensures.ready;
      same = subst (λ (hs : List Hand). (k : ℕ) (d : Hand) → k < length hs → IsSameWorker (get_or hs k d) (get_or c.hand_out.new.hands k d)) first c.hand_out.ensures.same;
      runs = from-ok c.take_all-answer.result.1 _ c.in-Ok-back.back c.in-Ok-back.is c.take_all-answer.ensures.runs;
    }) c.deref_mut-2.result.now c.deref_mut-2.ensures.value

pub returns-in-Ok-end_over-clause-back : goal.returns-in-Ok-end_over-clause-back
returns-in-Ok-end_over-clause-back g c =
    let hands = c.args.hands.items in
    let first : c.deref_mut.result.now ≡ hands = c.deref_mut.ensures.value in
    back-all c.args.task.now.on.now.net.now c.in-Ok.words.0 (arc_value c.in-Ok-new.words) hands c.hand_out.new.hands _ c.in-Ok-back.back.items (record {
      words = c.in-Ok-new.ensures.ok;
      of = ap (λ (t : Terms). t.net) c.in-Ok.ensures.loads;
      given = omega (arith, ap (λ (hs : List Hand). length hs) first);
      moved = with_items_is c.args.hands c.hand_out.new.hands (omega arith);
      count = from-ok c.take_all-answer.result.1 _ c.in-Ok-back.back c.in-Ok-back.is c.take_all-answer.ensures.count;
      fresh = c.requires.fresh;
      ready = subst (λ (hs : List Hand). (k : ℕ) (d : Hand) → k < length hs → ((get_or c.hand_out.new.hands k d).worker ≡ k) × IsReady c.in-Ok.words.0 (get_or c.hand_out.new.hands k d)) first c.hand_out.ensures.ready;
      same = subst (λ (hs : List Hand). (k : ℕ) (d : Hand) → k < length hs → IsSameWorker (get_or hs k d) (get_or c.hand_out.new.hands k d)) first c.hand_out.ensures.same;
      runs = from-ok c.take_all-answer.result.1 _ c.in-Ok-back.back c.in-Ok-back.is c.take_all-answer.ensures.runs;
    }) c.deref_mut-2.result.now c.end_over.new.hands _ c.deref_mut-2.ensures.value (with_items_is c.in-Ok-back.back c.end_over.new.hands (omega arith)) c.end_over.ensures.back

pub returns-in-Ok-end_over-clause-turns : goal.returns-in-Ok-end_over-clause-turns
returns-in-Ok-end_over-clause-turns g c = λ k d l.
    let moved = with_items_is c.args.hands c.hand_out.new.hands (omega arith) in
    let long = ap (λ (hs : List Hand). length hs) moved in
    let now = ap (λ (hs : List Hand). length hs) c.deref_mut-2.ensures.value in
    let first = ap (λ (hs : List Hand). length hs) c.deref_mut.ensures.value in
    let count = from-ok c.take_all-answer.result.1 _ c.in-Ok-back.back c.in-Ok-back.is c.take_all-answer.ensures.count in
    subst (λ (hs : List Hand). (get_or hs k d).turn ≡ None) (sym (with_items_is c.in-Ok-back.back c.end_over.new.hands (omega arith))) (c.end_over.ensures.turns k d (omega arith))

pub returns-in-Ok-end_over-clause-rooms : goal.returns-in-Ok-end_over-clause-rooms
returns-in-Ok-end_over-clause-rooms g c = λ k d l.
    let moved = with_items_is c.args.hands c.hand_out.new.hands (omega arith) in
    let long = ap (λ (hs : List Hand). length hs) moved in
    let now = ap (λ (hs : List Hand). length hs) c.deref_mut-2.ensures.value in
    let first = ap (λ (hs : List Hand). length hs) c.deref_mut.ensures.value in
    let count = from-ok c.take_all-answer.result.1 _ c.in-Ok-back.back c.in-Ok-back.is c.take_all-answer.ensures.count in
    subst (λ (hs : List Hand). HasRoomOf c.args.task.now.on.now.net.now (get_or hs k d)) (sym (with_items_is c.in-Ok-back.back c.end_over.new.hands (omega arith))) (c.end_over.ensures.rooms k d (omega arith))
