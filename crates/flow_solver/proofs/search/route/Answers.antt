use Rattle.std.proofs.Common.{◌≡◌, ℕ, ◌<◌, length, refl, sym, ap, ◌∙◌, subst, arith, get_or, List}
use Rattle.std.proofs.lemmas.Result.{on_ok_weaker}
use Rattle.std.proofs.lemmas.List.{with_items_is}
use Rattle.std.specs.Vec.{with_items}
use Rattle.std.specs.declared.vec.Vec.{Vec}
use Rattle.std.specs.declared.alloc.Global.{Global}
use Rattle.flow_core.specs.Core.{IsStart}
use Rattle.phase_engine.specs.declared.hand.Hand.{Hand}
use Rattle.phase_engine.specs.Hands.{IsFresh}
use Rattle.phase_engine.specs.Routing.{IsRoutedPhase}
use Rattle.flow_solver.specs.declared.search.Search.{Search}
use Rattle.flow_solver.specs.Search.{AreIdle}
use Rattle.flow_solver.proofs.Routing.{start-of, fresh-hands, idle-again, routed-phase}
use Rattle.flow_solver.proofs.search.route.Goals as goal

pub phase_over-requires-clause-start : goal.phase_over-requires-clause-start
phase_over-requires-clause-start g c κs within =
    let net = c.args.task.now.on.now.net.now in
    let old = c.args.search.now in
    let swapped = ap (λ (v : Vec Hand Global). length v.items) c.swap.ensures.x_after in
    let hands = with_items_is c.swap.new.x c.forget_all.new.hands (omega arith) in
    let now : c.deref_mut-3.result.now ≡ c.forget_all.new.hands = c.deref_mut-3.ensures.value ∙ hands in
    let idle = c.requires.hands.spare in
    let count = ap (λ (xs : List Hand). length xs) now in
    subst (λ (base : List ℕ). IsStart (record { net = net; setting = c.args.task.now.setting; base = base; workers = length c.deref_mut-3.result.now })) (sym c.deref_mut-2.ensures.value)
    (start-of net c.args.task.now.setting old (length c.deref_mut-3.result.now) c.commodities-commodities.ensures.net c.requires (omega (arith, idle.some)) (omega (arith, idle.few)))

pub phase_over-requires-clause-fresh : goal.phase_over-requires-clause-fresh
phase_over-requires-clause-fresh g c κs within =
    let net = c.args.task.now.on.now.net.now in
    let hands = with_items_is c.swap.new.x c.forget_all.new.hands (omega arith) in
    let now : c.deref_mut-3.result.now ≡ c.forget_all.new.hands = c.deref_mut-3.ensures.value ∙ hands in
    let first : c.deref_mut.result.now ≡ c.args.search.now.spare.items = c.deref_mut.ensures.value ∙ ap (λ (v : Vec Hand Global). v.items) c.swap.ensures.x_after in
    subst (λ (hs : List Hand). (k : ℕ) (d : Hand) → k < length hs → IsFresh net k (get_or hs k d)) (sym now)
    (fresh-hands net c.deref_mut.result.now c.forget_all.new.hands (subst (AreIdle net) (sym first) c.requires.hands.spare) (omega arith) c.forget_all.ensures)

pub returns : goal.returns
returns g c =
    let net = c.args.task.now.on.now.net.now in
    let old = c.args.search.now in
    let fresh_hands = c.deref_mut-3.result.now in
    let loads = with_items_is old.loads c.phase_over.new.loads (omega arith) in
    let first = with_items_is c.swap.new.x c.forget_all.new.hands (omega arith) in
    let hands = with_items_is (with_items c.swap.new.x c.forget_all.new.hands) c.phase_over.new.hands (omega arith) in
    let before : fresh_hands ≡ c.forget_all.new.hands = c.deref_mut-3.ensures.value ∙ first in
    let new : Search = record {
      loads = with_items old.loads c.phase_over.new.loads;
      room = old.room;
      hands = with_items (with_items c.swap.new.x c.forget_all.new.hands) c.phase_over.new.hands;
      spare = c.swap.new.y;
      history = old.history;
      sought = old.sought;
      pace = old.pace;
    } in
    let idle = c.requires.hands.spare in
    let start : c.deref_mut.result.now ≡ old.spare.items = c.deref_mut.ensures.value ∙ ap (λ (v : Vec Hand Global). v.items) c.swap.ensures.x_after in
    let fresh : (k : ℕ) (d : Hand) → k < length fresh_hands → IsFresh net k (get_or fresh_hands k d) =
    subst (λ (hs : List Hand). (k : ℕ) (d : Hand) → k < length hs → IsFresh net k (get_or hs k d)) (sym before)
    (fresh-hands net c.deref_mut.result.now c.forget_all.new.hands (subst (AreIdle net) (sym start) idle) (omega arith) c.forget_all.ensures) in
    let count = ap (λ (xs : List Hand). length xs) before in
    let start_count = ap (λ (xs : List Hand). length xs) start in
    let last_count = ap (λ (xs : List Hand). length xs) hands in
    let spare_count = ap (λ (v : Vec Hand Global). length v.items) c.swap.ensures.y_after in
    let pairs = c.requires.hands.pairs in
    let size = c.requires.count in
    on_ok_weaker c.phase_over.result (λ ok. record {
      routed =
          let routed : IsRoutedPhase net c.args.task.now.setting old.loads.items new.loads.items new.hands.items =
          subst (λ (hs : List Hand). IsRoutedPhase net c.args.task.now.setting old.loads.items new.loads.items hs) (sym hands)
          (subst (λ (xs : List ℕ). IsRoutedPhase net c.args.task.now.setting old.loads.items xs c.phase_over.new.hands) (sym loads)
          (subst (λ (xs : List ℕ). IsRoutedPhase net c.args.task.now.setting xs c.phase_over.new.loads c.phase_over.new.hands) c.deref_mut-2.ensures.value ok)) in
          routed-phase net c.args.task.now.setting old new c.commodities-commodities.ensures.net c.requires routed
          (ap (λ (xs : List ℕ). length xs) loads ∙ omega (arith, size, c.phase_over.auto.loads, c.deref_mut-2.ensures.len))
          (subst (AreIdle net) (sym hands) (idle-again net fresh_hands c.phase_over.new.hands (omega (arith, idle.some)) (omega (arith, idle.few)) fresh (omega arith) c.phase_over.ensures.back c.phase_over.ensures.turns c.phase_over.ensures.rooms))
          (subst (λ (v : Vec Hand Global). AreIdle net v.items) (sym c.swap.ensures.y_after) c.requires.hands.last)
          (omega arith) (omega arith);
      spare = c.swap.ensures.y_after;
      room = refl;
      history = refl;
    }) c.phase_over.ensures.ok
