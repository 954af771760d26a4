use Rattle.std.proofs.Common.{◌≡◌, ℕ, ◌<◌, length, sym, ap, ◌∙◌, subst, arith, get_or, List}
use Rattle.std.proofs.lemmas.List.{with_items_is}
use Rattle.std.specs.Vec.{with_items}
use Rattle.std.specs.declared.vec.Vec.{Vec}
use Rattle.std.specs.declared.alloc.Global.{Global}
use Rattle.flow_core.specs.Core.{IsStart}
use Rattle.phase_engine.specs.declared.hand.Hand.{Hand}
use Rattle.phase_engine.specs.Hands.{IsFresh}
use Rattle.phase_engine.specs.Routing.{IsRoutedPhase}
use Rattle.dual_bound.specs.Rows.{AreRoom}
use Rattle.flow_solver.specs.declared.search.Search.{Search}
use Rattle.flow_solver.specs.Search.{AreIdle}
use Rattle.flow_solver.proofs.Routing.{start-of, fresh-hands, idle-again, routed-phase}
use Rattle.flow_solver.proofs.Phasing.{from-ok}
use Rattle.flow_solver.proofs.Sent.{share-send}
use denote.Exit.{no}
use denote.Param.Send.{arg_send, param_send, param_sync}
use Rattle.flow_solver.proofs.search.route_with.Goals as goal

pub phase_with-begun-requires-clause-start : goal.phase_with-begun-requires-clause-start
phase_with-begun-requires-clause-start g c κs within =
    let net = c.args.task.now.on.now.net.now in
    let old = c.args.search.now in
    let hands = c.replace-hands.result.items in
    let now : hands ≡ c.forget_all.new.hands = ap (λ (v : _). v.items) c.replace-hands.ensures.value ∙ with_items_is old.spare c.forget_all.new.hands (omega arith) in
    let idle = c.requires.can.can.hands.spare in
    let count = ap (λ (xs : List Hand). length xs) now in
    subst (λ (base : List ℕ). IsStart (record { net = net; setting = c.args.task.now.setting; base = base; workers = length hands })) (sym c.as_mut_slice-loads.ensures.value)
    (start-of net c.args.task.now.setting old (length hands) c.commodities-commodities.ensures.net c.requires.can.can (omega (arith, idle.some)) (omega (arith, idle.few)))

pub phase_with-begun-requires-clause-fresh : goal.phase_with-begun-requires-clause-fresh
phase_with-begun-requires-clause-fresh g c κs within =
    let net = c.args.task.now.on.now.net.now in
    let old = c.args.search.now in
    let now : c.replace-hands.result.items ≡ c.forget_all.new.hands = ap (λ (v : _). v.items) c.replace-hands.ensures.value ∙ with_items_is old.spare c.forget_all.new.hands (omega arith) in
    subst (λ (hs : List Hand). (k : ℕ) (d : Hand) → k < length hs → IsFresh net k (get_or hs k d)) (sym now)
    (fresh-hands net c.deref_mut.result.now c.forget_all.new.hands (subst (AreIdle net) (sym c.deref_mut.ensures.value) c.requires.can.can.hands.spare) (omega arith) c.forget_all.ensures)

pub last_waited_for-requires-send-J : goal.last_waited_for-requires-send-J
last_waited_for-requires-send-J g c κs within = param_send 0 _ (arg_send _ no _ (share-send _ _ (param_sync 0 _ c.type_bounds.sync-G)))

pub rests-requires-send-J : goal.rests-requires-send-J
rests-requires-send-J g c κs within = param_send 0 _ (arg_send _ no _ (share-send _ _ (param_sync 0 _ c.type_bounds.sync-G)))

pub judge-requires-send-J : goal.judge-requires-send-J
judge-requires-send-J g c κs within = param_send 0 _ (arg_send _ no _ (share-send _ _ (param_sync 0 _ c.type_bounds.sync-G)))

pub returns-clause-routed : goal.returns-clause-routed
returns-clause-routed g c =
    let net = c.args.task.now.on.now.net.now in
    let old = c.args.search.now in
    let hands = c.replace-hands.result.items in
    let back = c.in_ok-back.field-0 in
    let loads = with_items_is old.loads c.phase_with-begun.new.loads (omega arith) in
    let now : hands ≡ c.forget_all.new.hands = ap (λ (v : _). v.items) c.replace-hands.ensures.value ∙ with_items_is old.spare c.forget_all.new.hands (omega arith) in
    let rows : c.in-Ok.rows ≡ old.room.rows = c.in-Ok.ensures.ok ∙ (c.in_ok-rows.ensures.ok ∙ c.replace.ensures.value) in
    let spare : c.replace-2.result ≡ old.hands = c.replace-2.ensures.value in
    let after : c.replace-2.new.dest ≡ back = c.replace-2.ensures.after in
    let new : Search = record {
      loads = with_items old.loads c.phase_with-begun.new.loads;
      room = record { lengths = old.room.lengths; kept = old.room.kept; rows = c.in-Ok.rows };
      hands = c.replace-2.new.dest;
      spare = c.replace-2.result;
      history = c.phase_with-begun.new.lead.3.now;
      sought = c.phase_with-begun.new.lead.4.now;
      pace = c.after_routing-search.result;
    } in
    let idle = c.requires.can.can.hands.spare in
    let fresh : (k : ℕ) (d : Hand) → k < length hands → IsFresh net k (get_or hands k d) =
    subst (λ (hs : List Hand). (k : ℕ) (d : Hand) → k < length hs → IsFresh net k (get_or hs k d)) (sym now)
    (fresh-hands net c.deref_mut.result.now c.forget_all.new.hands (subst (AreIdle net) (sym c.deref_mut.ensures.value) idle) (omega arith) c.forget_all.ensures) in
    let count = ap (λ (xs : List Hand). length xs) now in
    let start_count = ap (λ (xs : List Hand). length xs) c.deref_mut.ensures.value in
    let size = c.requires.can.can.count in
    let pairs = c.requires.can.can.hands.pairs in
    let base_count = ap (λ (xs : List ℕ). length xs) c.as_mut_slice-loads.ensures.value in
    let back_count = from-ok c.phase_with-begun.result.1 _ c.in_ok-back.field-0 c.in_ok-back.was c.phase_with-begun.ensures.count in
    let last_count = ap (λ (v : Vec Hand Global). length v.items) after in
    let spare_count = ap (λ (v : Vec Hand Global). length v.items) spare in
    let routed : IsRoutedPhase net c.args.task.now.setting old.loads.items new.loads.items new.hands.items =
    subst (λ (v : Vec Hand Global). IsRoutedPhase net c.args.task.now.setting old.loads.items new.loads.items v.items) (sym after)
    (subst (λ (xs : List ℕ). IsRoutedPhase net c.args.task.now.setting old.loads.items xs back.items) (sym loads)
    (subst (λ (xs : List ℕ). IsRoutedPhase net c.args.task.now.setting xs c.phase_with-begun.new.loads back.items) c.as_mut_slice-loads.ensures.value (from-ok c.phase_with-begun.result.1 _ c.in_ok-back.field-0 c.in_ok-back.was c.phase_with-begun.ensures.ok))) in
    record {
      routed = routed-phase net c.args.task.now.setting old new c.commodities-commodities.ensures.net c.requires.can.can routed
          (ap (λ (xs : List ℕ). length xs) loads ∙ omega (arith, size, c.phase_with-begun.auto.loads, base_count))
          (subst (λ (v : Vec Hand Global). AreIdle net v.items) (sym after)
          (idle-again net hands back.items (omega (arith, idle.some)) (omega (arith, idle.few)) fresh back_count (from-ok c.phase_with-begun.result.1 _ c.in_ok-back.field-0 c.in_ok-back.was c.phase_with-begun.ensures.back) (from-ok c.phase_with-begun.result.1 _ c.in_ok-back.field-0 c.in_ok-back.was c.phase_with-begun.ensures.turns) (from-ok c.phase_with-begun.result.1 _ c.in_ok-back.field-0 c.in_ok-back.was c.phase_with-begun.ensures.rooms)))
          (subst (λ (v : Vec Hand Global). AreIdle net v.items) (sym spare) c.requires.can.can.hands.last)
          (omega arith) (omega arith);
      spare = spare;
      room = record {
        lengths = c.requires.can.room.lengths;
        kept = c.requires.can.room.kept;
        rows = subst (λ (v : _). AreRoom net v.items) (sym rows) c.requires.can.room.rows;
      };
    }
