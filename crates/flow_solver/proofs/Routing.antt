-- The search with one phase more.
use Rattle.std.proofs.Common.{◌≡◌, ℕ, ◌+◌, ◌-◌, ◌*◌, ◌<◌, ◌≤◌, Bool, true, false, nat_lt, List, [], ◌∷◌, ◌++◌, length, get_or, None, refl, sym, ap, ◌∙◌, subst, arith}
use Rattle.std.specs.Prelude.{All, IfSome, Option, flat_map, take, replicate}
use Rattle.std.proofs.lemmas.Bool.Decides.{nat_tests}
use Rattle.std.proofs.lemmas.List.{length-map, length-append, length-replicate, get_or-replicate, get_or_append_left}
use Rattle.std.proofs.lemmas.List.FromFn.{fill_by_all, length-map-range_with_len}
use Rattle.std.proofs.lemmas.Option.{slice_get-get_or, slice_get_within}
use Rattle.std.proofs.Math.Seq.{get_or-append_seam}
use Rattle.std.specs.declared.vec.Vec.{Vec}
use Rattle.std.specs.declared.alloc.Global.{Global}
use Rattle.flow_model.specs.declared.setting.Setting.{Setting}
use Rattle.flow_model.specs.Network.{Network, IsNetwork}
use Rattle.flow_model.specs.Least.{HasNoCut}
use Rattle.flow_model.specs.Lengths.{IsSetting}
use Rattle.flow_model.specs.Routing.{load_of}
use Rattle.flow_core.specs.Core.{IsStart}
use Rattle.flow_core.specs.Phase.{Routed, amounts_along}
use Rattle.mcf_limits.specs.declared.TheConstants.{MAX_LENGTH, MAX_PHASES, MAX_TOTAL}
use Rattle.phase_engine.specs.declared.hand.Hand.{Hand}
use Rattle.phase_engine.specs.declared.room.Room.{Room}
use Rattle.phase_engine.specs.Hands.{HasRoomOf, IsFresh, IsSameWorker}
use Rattle.phase_engine.specs.Rooms.{IsRoomOf}
use Rattle.phase_engine.specs.Routing.{IsRoutedPhase}
use Rattle.flow_solver.specs.Routes.{IsRoutedOnce}
use Rattle.flow_solver.specs.Rows.{AreRowsFor, HistoryView, phases_kept}
use Rattle.solver_run.specs.Paths.{IsPathOf, HavePaths}
use Rattle.solver_run.specs.History.{routed_in, loads_after}
use Rattle.solver_run.proofs.Paths.{phase-paths}
use Rattle.flow_solver.specs.declared.search.Search.{Search}
use Rattle.flow_solver.specs.declared.places.Place.{Place}
use Rattle.solver_run.specs.declared.options.Entry.{Entry}
use Rattle.flow_solver.specs.Adding.{ArePlaces, HasBegun, HasNoted, IsNoted}
use Rattle.flow_solver.specs.Search.{AreIdle, CanRoute, HasAdded, HasRouted, IsBoundRoom, IsRouted, IsRoutedByCrew, IsSearch, phases_in}
use Rattle.flow_solver.proofs.Loads.{loads-more, loads-small, loads-within, once, phase-adds, phase-loads, total-amounts, room-above}

-- hands

pub hands-more : (net : Network) (n : ℕ) (hs : List Hand) (h : Hand) → length hs ≡ n → ((k : ℕ) (d : Hand) → k < n → IsFresh net k (get_or hs k d)) → IsFresh net n h
    → (k : ℕ) (d : Hand) → k < n + 1 → IsFresh net k (get_or (hs ++ h ∷ []) k d)
hands-more net n hs h size each last k d l = by_test (nat_lt k n) refl
  where
    by_test : (t : Bool) → nat_lt k n ≡ t → IsFresh net k (get_or (hs ++ h ∷ []) k d)
    by_test true e = let below : k < n = grind (arith, nat_tests) in subst (IsFresh net k) (sym (get_or_append_left hs (h ∷ []) d k (omega arith))) (each k d below)
    by_test false e =
        let same : n ≡ k = (let m : n ≤ k = grind (arith, nat_tests) in omega arith) in
        let at : get_or (hs ++ h ∷ []) k d ≡ h = ap (λ (i : ℕ). get_or (hs ++ h ∷ []) i d) (sym same ∙ sym size) ∙ get_or-append_seam hs h [] d in
        subst (IsFresh net k) (sym at) (subst (λ (i : ℕ). IsFresh net i h) same last)

pub idle-hands : (net : Network) (hs : List Hand) → 1 ≤ length hs → length hs ≤ 16 → ((k : ℕ) (d : Hand) → k < length hs → IsFresh net k (get_or hs k d)) → AreIdle net hs
idle-hands net hs some few each = record {
  some = some;
  few = few;
  each = λ k d l. ((each k d l).0, (each k d l).1, (each k d l).3, (each k d l).4);
}

pub fresh-hands : (net : Network) (old new : List Hand) → AreIdle net old → length new ≡ length old
    → ((k : ℕ) (d : Hand) → k < length old → IsSameWorker (get_or old k d) (get_or new k d) × ((get_or new k d).turn ≡ (get_or old k d).turn) × ((get_or new k d).routes ≡ []) × ((get_or new k d).room ≡ (get_or old k d).room))
    → (k : ℕ) (d : Hand) → k < length new → IsFresh net k (get_or new k d)
fresh-hands net old new idle size same k d l =
    let s = same k d (omega arith) in
    let i = idle.each k d (omega arith) in
    (s.0.0 ∙ i.0, s.1 ∙ i.1, s.2, s.0.1 ∙ i.2, subst (λ (r : Option Room). IfSome r (IsRoomOf net)) (sym s.3) i.3)

pub idle-again : (net : Network) (old new : List Hand) → 1 ≤ length old → length old ≤ 16 → ((k : ℕ) (d : Hand) → k < length old → IsFresh net k (get_or old k d)) → length new ≡ length old
    → ((k : ℕ) (d : Hand) → k < length old → IsSameWorker (get_or old k d) (get_or new k d)) → ((k : ℕ) (d : Hand) → k < length old → (get_or new k d).turn ≡ None)
    → ((k : ℕ) (d : Hand) → k < length old → HasRoomOf net (get_or new k d)) → AreIdle net new
idle-again net old new some few fresh size same over rooms = record {
  some = omega arith;
  few = omega arith;
  each = λ k d l. (
      let s = same k d (omega arith) in
      let f = fresh k d (omega arith) in
      (s.0 ∙ f.0, over k d (omega arith), s.1 ∙ f.3, rooms k d (omega arith))
      );
}

-- loads

pub no-loads : (net : Network) (n : ℕ) → n ≡ length net.cells → replicate n 0 ≡ loads_after net [] 0
no-loads net n e =
    fill_by_all (load_of []) (replicate n 0) (length net.cells) 0 (length-replicate n 0 ∙ e) (λ k l. get_or-replicate n k 0 0 (omega arith))

pub none-above : (xs : List ℕ) (n m : ℕ) → xs ≡ replicate n 0 → All (λ (x : ℕ). x ≤ m) xs
none-above xs n m e = subst (λ (ys : List ℕ). All (λ (x : ℕ). x ≤ m) ys) (sym e) (λ k d l. (let z = get_or-replicate n k 0 d (omega (arith, length-replicate {A = ℕ} n 0)) in omega arith))

pub start-of : (net : Network) (setting : Setting) (s : Search) (workers : ℕ) → IsNetwork net → CanRoute net setting s → 1 ≤ workers → workers ≤ 16
    → IsStart (record { net = net; setting = setting; base = s.loads.items; workers = workers })
start-of net setting s workers n can some most = record {
  net = n;
  base = can.count;
  room = λ c. (
      let all = total-amounts net.commodities in
      let sum = n.total in
      room-above s.loads.items (MAX_LENGTH - MAX_TOTAL) _ MAX_LENGTH (λ k d l. (let small : get_or s.loads.items k d + MAX_TOTAL ≤ MAX_LENGTH = can.small k d l in omega arith)) (omega arith) c
      );
  some_worker = omega arith;
  few_workers = most;
}

pub count-of : (s : Search) → length (phases_in s) ≡ length s.history.history
count-of s = length-map s.history.history (routed_in s.history.rows)

pub loads-size : (net : Network) (phases : List (List Routed)) (s : Search) → IsSearch net phases s → length s.loads.items ≡ length net.cells
loads-size net phases s is = ap (λ (xs : List ℕ). length xs) is.loads ∙ size
  where
    size : length (loads_after net phases (length phases)) ≡ length net.cells
    size = length-map-range_with_len (load_of (flat_map (amounts_along 0 net.commodities) (take (length phases) phases))) 0 (length net.cells)

-- some cell was loaded
pub some-load : (net : Network) (entries : List Routed) (base loads : List ℕ) → IsNetwork net → HavePaths net entries → length entries ≡ length net.commodities
    → ((c : ℕ) → c < length net.cells → get_or loads c 0 ≡ get_or base c 0 + load_of (amounts_along 0 net.commodities entries) c)
    → (c : ℕ) × (c < length net.cells) × (1 ≤ get_or loads c 0)
some-load net [] base loads n have count sums = let some = n.some in absurd (omega arith)
some-load net (e ∷ es) base loads n have count sums = by_path e.path refl
  where
    of : IsPathOf net 0 e.path
    of = have 0 e refl

    by_path : (path : List ℕ) → e.path ≡ path → (c : ℕ) × (c < length net.cells) × (1 ≤ get_or loads c 0)
    by_path [] is = absurd (of.some is)
    by_path (c ∷ rest) is =
        let cells : All (λ (c : ℕ). c < length net.cells) (c ∷ rest) = subst (λ (p : List ℕ). All (λ (c : ℕ). c < length net.cells) p) is of.cells in
        let inside : c < length net.cells = cells 0 0 (omega arith) in
        let load = phase-loads net.commodities (e ∷ es) 0 c rest e n.some (λ j d l. (n.commodities j d l).positive) refl is in
        let sum = sums c inside in
        (c, inside, omega arith)

-- one phase adds at most all amounts to a cell
adds-few : (net : Network) (setting : Setting) (base loads : List ℕ) (hands : List Hand) → IsNetwork net → (p : IsRoutedPhase net setting base loads hands)
    → (c : ℕ) → load_of (amounts_along 0 net.commodities p.entries) c ≤ MAX_TOTAL
adds-few net setting base loads hands n p c =
    let have = phase-paths net setting base loads p.entries n p.phase in
    let sum = n.total in
    let few = phase-adds net.commodities p.entries 0 c (λ k r at. once c r.path (have k r at).different) in
    omega arith

-- the search with one phase more
pub search-more : (net : Network) (setting : Setting) (phases : List (List Routed)) (old new : Search) → IsNetwork net → IsSearch net phases old → (h : HasRouted net setting old new) → IsBoundRoom net new.room
    → new.history.commodities ≡ length net.commodities → AreRowsFor net new.history.history new.history.rows → IsSearch net (phases ++ h.phase.entries ∷ []) new
search-more net setting phases old new n is h room commodities rows =
    let p = h.phase in
    let more : length (phases ++ p.entries ∷ []) ≡ length phases + 1 = length-append phases (p.entries ∷ []) in
    let old_size = loads-size net phases old is in
    let new_size = h.count in
    let loads = loads-more net phases p.entries old.loads.items new.loads.items is.loads new_size p.sums in
    let small = loads-small old.loads.items new.loads.items (load_of (amounts_along 0 net.commodities p.entries)) (length phases) MAX_TOTAL (omega arith) (λ c l. p.sums c (omega arith))
    (adds-few net setting old.loads.items new.loads.items new.hands.items n p) is.small in
    record {
      loads = loads ∙ ap (λ (i : ℕ). loads_after net (phases ++ p.entries ∷ []) i) (sym more);
      small = subst (λ (i : ℕ). All (λ (x : ℕ). x ≤ i * MAX_TOTAL) new.loads.items) (sym more) small;
      room = room;
      hands = h.hands;
      commodities = commodities;
      rows = rows;
    }

-- who routed something is one of the hands
pub few-workers : (net : Network) (setting : Setting) (base loads : List ℕ) (hands : List Hand) (p : IsRoutedPhase net setting base loads hands) → All (λ (r : Routed). r.worker < length hands) p.entries
few-workers net setting base loads hands p = λ k d l. (
    let r = get_or p.entries k d in
    let routed = (p.routes k r.worker r.path).0 (slice_get-get_or p.entries k d l) in
    slice_get_within hands r.worker routed.0 routed.1
    )

-- what the hands have routed
pub routed-phase : (net : Network) (setting : Setting) (old new : Search) → IsNetwork net → CanRoute net setting old → (p : IsRoutedPhase net setting old.loads.items new.loads.items new.hands.items)
    → length new.loads.items ≡ length net.cells → AreIdle net new.hands.items → AreIdle net new.spare.items → length new.hands.items ≡ length old.hands.items → length new.spare.items ≡ length new.hands.items
    → HasRouted net setting old new
routed-phase net setting old new n can p size hands spare same pairs =
    let old_size = can.count in
    record {
      phase = p;
      count = size;
      small = loads-within old.loads.items new.loads.items (load_of (amounts_along 0 net.commodities p.entries)) MAX_TOTAL MAX_LENGTH (omega arith) (λ c l. p.sums c (omega arith))
          (adds-few net setting old.loads.items new.loads.items new.hands.items n p) can.small;
      loaded = some-load net p.entries old.loads.items new.loads.items n (phase-paths net setting old.loads.items new.loads.items p.entries n p.phase) p.count p.sums;
      hands = record { last = hands; spare = spare; pairs = pairs };
      same = same;
    }

-- a search with these loads and hands
abbrev with_hands : Search → Vec ℕ Global × Vec Hand Global × Vec Hand Global → Search
with_hands s t = record { loads = t.0; room = s.room; hands = t.1; spare = t.2; history = s.history; sought = s.sought; pace = s.pace }

-- of history and room nothing is said
pub routed-same : (net : Network) (setting : Setting) (old mid new : Search) → HasRouted net setting old mid → new.loads ≡ mid.loads → new.hands ≡ mid.hands → new.spare ≡ mid.spare → HasRouted net setting old new
routed-same net setting old mid new h loads hands spare =
    let P : Vec ℕ Global × Vec Hand Global × Vec Hand Global → Type 0 = λ t. HasRouted net setting old (with_hands new t) in
    let made : P (mid.loads, mid.hands, mid.spare) = record {
      phase = h.phase;
      count = h.count;
      small = h.small;
      loaded = h.loaded;
      hands = record { last = h.hands.last; spare = h.hands.spare; pairs = h.hands.pairs };
      same = h.same;
    } in
    subst P (λ i. (sym loads i, sym hands i, sym spare i)) made

-- the phase of which these are the places is noted
pub noted-by : (net : Network) (hands : List Hand) (places : List Place) (old new : HistoryView) → new.commodities ≡ old.commodities → IsNoted net places old new → ArePlaces net hands places → HasNoted net hands old new
noted-by net hands places old new same noted are = record {
  commodities = same;
  rows = noted.rows;
  phases = λ entries once. noted.phases hands entries are once;
}

-- a phase of which the first commodities have their entries, and then the others
pub noted-then : (net : Network) (hands : List Hand) (old mid new : HistoryView) (entries : List Entry) → HasBegun net hands old mid entries → HasNoted net hands mid new → HasNoted net hands old new
noted-then net hands old mid new entries begun noted = record {
  commodities = noted.commodities ∙ begun.commodities;
  rows = noted.rows;
  phases = λ last once. noted.phases last once ∙ ap (λ (t : List (List Routed)). t ++ last ∷ []) begun.phases;
}

-- one phase more beside the first entries of the one before, which is noted then
pub added-beside : (net : Network) (setting : Setting) (old mid new : Search) (entries : List Entry) → IsRoutedByCrew net setting old mid → HasBegun net old.hands.items old.history mid.history entries → new.loads ≡ mid.loads → new.hands ≡ mid.hands → new.spare ≡ mid.spare
    → HasNoted net mid.spare.items mid.history new.history → IsBoundRoom net new.room → HasAdded net setting old new
added-beside net setting old mid new entries is begun loads hands spare noted room = record {
  routed = routed-same net setting old mid new is.routed loads hands spare;
  noted = noted-then net old.hands.items old.history mid.history new.history entries begun (subst (λ (hs : Vec Hand Global). HasNoted net hs.items mid.history new.history) is.spare noted);
  room = room;
}

-- one phase more, and the one before it is noted
pub added-phase : (net : Network) (setting : Setting) (old mid new : Search) → IsRouted net setting old mid → new.loads ≡ mid.loads → new.hands ≡ mid.hands → new.spare ≡ mid.spare
    → HasNoted net mid.spare.items mid.history new.history → IsBoundRoom net new.room → HasAdded net setting old new
added-phase net setting old mid new is loads hands spare noted room = record {
  routed = routed-same net setting old mid new is.routed loads hands spare;
  noted = subst (λ (h : HistoryView). HasNoted net old.hands.items h new.history) is.history (subst (λ (hs : Vec Hand Global). HasNoted net hs.items mid.history new.history) is.spare noted);
  room = room;
}

-- from a search of less than the most phases one more can be routed
pub can-route : (net : Network) (setting : Setting) (phases : List (List Routed)) (s : Search) → HasNoCut net → IsSetting setting → IsSearch net phases s → length phases < MAX_PHASES → CanRoute net setting s
can-route net setting phases s no_cut setting_is is few = record {
  no_cut = no_cut;
  setting_is = setting_is;
  count = loads-size net phases s is;
  small = λ k d l. (let small : get_or s.loads.items k d ≤ length phases * MAX_TOTAL = is.small k d l in omega arith);
  hands = is.hands;
}

-- with the phase that is noted there is one more
pub noted-count : (net : Network) (hands : List Hand) (old new : HistoryView) (last : List Routed) → HasNoted net hands old new → IsRoutedOnce net hands last → length new.history ≡ length old.history + 1
noted-count net hands old new last noted once =
    let before = length-map old.history (routed_in old.rows) in
    let after = length-map new.history (routed_in new.rows) in
    let longer = ap (λ (xs : List (List Routed)). length xs) (noted.phases last once) in
    let appended = length-append (phases_kept old) (last ∷ []) in
    omega arith
