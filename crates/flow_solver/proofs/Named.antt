-- A phase that is added: its begin, its entries' paths, and its end.
use Rattle.std.proofs.Common.{◌≡◌, ℕ, ◌+◌, ◌*◌, ◌<◌, ◌≤◌, List, [], ◌∷◌, ◌++◌, length, get_or, map, refl, sym, ap, ◌∙◌, subst, arith, length-append, Some}
use Rattle.std.specs.Prelude.{All, slice_get}
use Rattle.std.proofs.lemmas.List.{same_lists, length-map, get_or-map, map-append}
use Rattle.std.proofs.lemmas.List.Elements.{All-push, All-head, All-tail, All-weaker}
use Rattle.std.proofs.lemmas.Option.{slice_get-get_or, slice_get_within, get_or_from_slice_get}
use Rattle.mcf_limits.specs.declared.TheConstants.{MAX_LENGTH, MAX_PHASES, MAX_UNITS, MAX_WORK}
use Rattle.flow_model.specs.declared.net.Commodity.{Commodity}
use Rattle.flow_model.specs.Network.{Network}
use Rattle.flow_model.specs.Routing.{Row}
use Rattle.flow_paths.specs.PathRows.{row_at, IsFirstRow, Adds}
use Rattle.flow_core.specs.Phase.{Routed}
use Rattle.phase_engine.specs.declared.hand.Hand.{Hand}
use Rattle.phase_engine.specs.Routing.{HasRouted}
use Rattle.solver_run.specs.declared.options.Entry.{Entry}
use Rattle.solver_run.specs.History.{path_named, routed_in, NamesRows}
use Rattle.flow_solver.specs.declared.places.Place.{Place}
use Rattle.flow_solver.specs.Phases.{NamesBelow}
use Rattle.flow_solver.specs.Rows.{AreRowsFor, HistoryView}
use Rattle.flow_solver.specs.Routes.{IsRoutedOnce}
use Rattle.flow_solver.specs.Adding.{no_place, path_at, KeepsRows, AreBegun, ArePlaces, AreRoutedAs, CanNote, HasBegun, HasNoted, IsNoted}
use Rattle.flow_solver.proofs.Adds.{pushed_at, added, keeps_both}
use Rattle.flow_solver.proofs.Times.{can_grow}
use Rattle.flow_solver.proofs.OneMore.{one_more}

pub ends : (net : Network) (h : List (List Entry)) (es : List Entry) (rows : List Row) → AreBegun net h es rows → length es ≡ length net.commodities → AreRowsFor net (h ++ es ∷ []) rows
ends net h es rows b count = record {
  apart = b.apart;
  entries = All-push (NamesRows net rows) h es b.before (record { count = count; each = b.begun });
  weighed = b.weighed;
  few = let f = b.few in let l : length (h ++ es ∷ []) ≡ length h + 1 = length-append h (es ∷ []) in rw l (omega (arith, f, count));
}

-- the old entries are of the paths that they were of
pub routed_kept : (net : Network) (h : List (List Entry)) (hands : List Hand) (es : List Entry) (old new : List Row) → AreBegun net h es old → KeepsRows old new → AreRoutedAs hands old es → AreRoutedAs hands new es
routed_kept net h hands es old new b keeps routed = record {
  each = λ k x at. subst (HasRouted hands x.worker k) (sym (keeps.walk x.row (b.begun k x at).0)) (routed.each k x at);
}

pub routed_more : (hands : List Hand) (rows : List Row) (es : List Entry) (e : Entry) → AreRoutedAs hands rows es → HasRouted hands e.worker (length es) (path_named rows e) → AreRoutedAs hands rows (es ++ e ∷ [])
routed_more hands rows es e routed has = record {
  each = λ k x is. pushed_at es e k x is (λ y i. HasRouted hands y.worker i (path_named rows y)) (λ y at. routed.each k y at)
      (λ last. subst (λ i. HasRouted hands e.worker i (path_named rows e)) (sym last) has);
}

-- no entry
pub none_routed : (hands : List Hand) (rows : List Row) (es : List Entry) → es ≡ [] → AreRoutedAs hands rows es
none_routed hands rows es none = rw none (record { each = λ k e at. absurd (let within = slice_get_within [] k e at in omega (arith, within)) })

-- the entries, with their paths, are what the hands have routed
pub routed_is : (net : Network) (hands : List Hand) (rows : List Row) (es : List Entry) (entries : List Routed) → length es ≡ length net.commodities → AreRoutedAs hands rows es → IsRoutedOnce net hands entries → routed_in rows es ≡ entries
routed_is net hands rows es entries count routed once =
    let long : length (routed_in rows es) ≡ length es = length-map es (λ (e : Entry). record { worker = e.worker; path = path_named rows e }) in
    same_lists (routed_in rows es) entries (long ∙ count ∙ sym once.count) (λ k d l.
    let none : Entry = record { worker = 0; row = 0 } in
    let e = get_or es k none in
    let in' : k < length es = omega (arith, long, l) in
    let is = (once.routes k e.worker (path_named rows e)).1 (routed.each k e (slice_get-get_or es k none in')) in
    get_or-map (λ (e : Entry). record { worker = e.worker; path = path_named rows e }) es k none d in' ∙ sym (get_or_from_slice_get entries k (record { worker = e.worker; path = path_named rows e }) d is))

-- the phases before are as they were
same_phase : (old new : List Row) (es : List Entry) → KeepsRows old new → NamesBelow (length old) es → routed_in new es ≡ routed_in old es
same_phase old new [] keeps below = refl
same_phase old new (e ∷ es) keeps below =
    let first = All-head (λ (x : Entry). x.row < length old) e es below in
    let rest = same_phase old new es keeps (All-tail (λ (x : Entry). x.row < length old) e es below) in
    let walk = keeps.walk e.row first in
    let a : path_named new e ≡ path_named old e = walk in
    let f : List ℕ → List Routed → List Routed = λ p rs. record { worker = e.worker; path = p } ∷ rs in
    ap (λ p. f p (routed_in new es)) a ∙ ap (f (path_named old e)) rest

pub same_phases : (old new : List Row) (h : List (List Entry)) → KeepsRows old new → All (NamesBelow (length old)) h → map (routed_in new) h ≡ map (routed_in old) h
same_phases old new [] keeps below = refl
same_phases old new (es ∷ h) keeps below =
    let first = same_phase old new es keeps (All-head (NamesBelow (length old)) es h below) in
    let rest = same_phases old new h keeps (All-tail (NamesBelow (length old)) es h below) in
    let f : List Routed → List (List Routed) → List (List Routed) = λ p rs. p ∷ rs in
    ap (λ p. f p (map (routed_in new) h)) first ∙ ap (f (routed_in old es)) rest

pub can_add : (net : Network) (h : List (List Entry)) (es : List Entry) (rows : List Row) (c : Commodity) (path : List ℕ) (k : ℕ) → length es ≡ k → AreBegun net h es rows
    → slice_get net.commodities k ≡ Some c → c.amount ≤ MAX_UNITS → length h < MAX_PHASES → (n : ℕ) → IsFirstRow rows k path n → (row_at rows n).weight + c.amount ≤ MAX_LENGTH
can_add net h es rows c path k is b at small few n first =
    can_grow net h es rows c path n b (ap (slice_get net.commodities) is ∙ at) small few (subst (λ i. IsFirstRow rows i path n) (sym is) first)

pub adds_begun : (net : Network) (h : List (List Entry)) (es : List Entry) (old new : List Row) (path : List ℕ) (c : Commodity) (k n w : ℕ) → length es ≡ k → AreBegun net h es old → slice_get net.commodities k ≡ Some c
    → Adds old new k path c.amount n → AreBegun net h (es ++ record { worker = w; row = n } ∷ []) new
adds_begun net h es old new path c k n w is b at adds = one_more net h es old new path c n w b (ap (slice_get net.commodities) is ∙ at) (subst (λ i. Adds old new i path c.amount n) (sym is) adds)

pub adds_routed : (net : Network) (h : List (List Entry)) (hands : List Hand) (places : List Place) (es : List Entry) (old new : List Row) (k n a : ℕ) → length es ≡ k → AreBegun net h es old → Adds old new k (path_at places k) a n
    → HasRouted hands (get_or places k no_place).hand k (path_at places k) → AreRoutedAs hands old es → AreRoutedAs hands new (es ++ record { worker = (get_or places k no_place).hand; row = n } ∷ [])
adds_routed net h hands places es old new k n a is b adds has routed =
    let it = added old new k (path_at places k) a n adds in
    let w = (get_or places k no_place).hand in
    let e : Entry = record { worker = w; row = n } in
    let here : HasRouted hands w k (path_named new e) = subst (HasRouted hands w k) (sym it.walk) has in
    routed_more hands new es e (routed_kept net h hands es old new b it.keeps routed) (subst (λ i. HasRouted hands w i (path_named new e)) (sym is) here)

pub adds_keep : (first old new : List Row) (path : List ℕ) (k n a : ℕ) → KeepsRows first old → Adds old new k path a n → KeepsRows first new
adds_keep first old new path k n a keeps adds = keeps_both first old new keeps (added old new k path a n adds).keeps

-- entries that name rows of their commodity name rows
pub names_below : (net : Network) (rows : List Row) (h : List (List Entry)) → All (NamesRows net rows) h → All (NamesBelow (length rows)) h
names_below net rows h all = All-weaker (NamesRows net rows) (NamesBelow (length rows)) (λ es n k d l. (n.each k (get_or es k d) (slice_get-get_or es k d l)).0) h all

-- the phases before, and the one that the hands have routed
pub phase_added : (net : Network) (hands : List Hand) (rows : List Row) (h : List (List Entry)) (es : List Entry) (entries : List Routed) → length es ≡ length net.commodities → AreRoutedAs hands rows es → IsRoutedOnce net hands entries
    → map (routed_in rows) (h ++ es ∷ []) ≡ map (routed_in rows) h ++ entries ∷ []
phase_added net hands rows h es entries count routed once =
    map-append (routed_in rows) h (es ∷ []) ∙ ap (λ (t : List Routed). map (routed_in rows) h ++ t ∷ []) (routed_is net hands rows es entries count routed once)

-- a history with one phase more, which has these entries
abbrev pub whole : HistoryView → List Entry → HistoryView
whole h es = record { commodities = h.commodities; rows = h.rows; history = h.history ++ es ∷ [] }

abbrev with_history : HistoryView → List (List Entry) → HistoryView
with_history h history = record { commodities = h.commodities; rows = h.rows; history = history }

-- the phase whose entries these are, with that of all places
pub noted-whole : (net : Network) (places : List Place) (old mid new : HistoryView) (es : List Entry) → mid.history ≡ old.history → KeepsRows old.rows mid.rows → All (NamesRows net old.rows) old.history
    → AreBegun net old.history es mid.rows → length es ≡ length net.commodities → ((hands : List Hand) → ArePlaces net hands places → AreRoutedAs hands mid.rows es) → new ≡ whole mid es → IsNoted net places old new
noted-whole net places old mid new es same keeps before begun count named is =
    let made : HistoryView = record { commodities = mid.commodities; rows = mid.rows; history = old.history ++ es ∷ [] } in
    let last : new ≡ made = is ∙ ap (λ (h : List (List Entry)). with_history mid (h ++ es ∷ [])) same in
    let kept = same_phases old.rows mid.rows old.history keeps (names_below net old.rows old.history before) in
    let noted : IsNoted net places old made = record {
      rows = ends net old.history es mid.rows begun count;
      phases = λ hands entries are once. phase_added net hands mid.rows old.history es entries count (named hands are) once ∙ ap (λ (t : List (List Routed)). t ++ entries ∷ []) kept;
    } in
    subst (IsNoted net places old) (sym last) noted

-- the first commodities have these entries
pub has-begun : (net : Network) (hands : List Hand) (places : List Place) (old mid : HistoryView) (first es : List Entry) → CanNote net hands old first → ArePlaces net hands places → mid.commodities ≡ old.commodities → mid.history ≡ old.history
    → KeepsRows old.rows mid.rows → AreBegun net old.history es mid.rows → length es ≤ length net.commodities → (AreRoutedAs hands old.rows first → AreRoutedAs hands mid.rows es) → HasBegun net hands old mid es
has-begun net hands places old mid first es can are commodities same keeps begun few named =
    let takes = can.can in
    record {
      commodities = commodities;
      phases = ap (map (routed_in mid.rows)) same ∙ same_phases old.rows mid.rows old.history keeps (names_below net old.rows old.history takes.begun.before);
      can = record {
        can = record {
          commodities = commodities ∙ takes.commodities;
          begun = subst (λ (h : List (List Entry)). AreBegun net h es mid.rows) (sym same) begun;
          few = few;
          phases = subst (λ (h : List (List Entry)). length h < MAX_PHASES) (sym same) takes.phases;
          work = subst (λ (h : List (List Entry)). length net.commodities * (length h + 1) ≤ MAX_WORK) (sym same) takes.work;
        };
        few = can.few;
        routed = can.routed;
        routed_as = named can.routed_as;
      };
    }

-- nothing was done, since there are as many entries already
pub begun-already : (net : Network) (hands : List Hand) (h : HistoryView) (es : List Entry) → CanNote net hands h es → HasBegun net hands h h es
begun-already net hands h es can = record { commodities = refl; phases = refl; can = can }

-- the phase whose entries these are
pub noted-end : (net : Network) (hands : List Hand) (old mid new : HistoryView) (es : List Entry) → HasBegun net hands old mid es → length es ≡ length net.commodities → new ≡ whole mid es → HasNoted net hands old new
noted-end net hands old mid new es begun count is =
    let noted : HasNoted net hands old (whole mid es) = record {
      commodities = begun.commodities;
      rows = ends net mid.history es mid.rows begun.can.can.begun count;
      phases = λ entries once. phase_added net hands mid.rows mid.history es entries count begun.can.routed_as once ∙ ap (λ (t : List (List Routed)). t ++ entries ∷ []) begun.phases;
    } in
    subst (HasNoted net hands old) (sym is) noted
