-- The entries of a phase have short paths.
use Rattle.std.proofs.Common.{◌≡◌, ◌≢◌, ℕ, ◌<◌, List, [], ◌∷◌, Some, length, get_or, sym, subst, ◌∙◌}
use Rattle.std.specs.Prelude.{All, slice_get}
use Rattle.std.proofs.lemmas.List.Elements.{All-nil, All-cons}
use Rattle.std.proofs.lemmas.Option.{slice_get-get_or}
use Rattle.flow_model.specs.declared.net.Cell.{Cell}
use Rattle.flow_model.specs.declared.setting.Setting.{Setting}
use Rattle.flow_model.specs.Network.{Network, IsNetwork}
use Rattle.flow_model.specs.Walk.{IsWalk, PositiveWalk}
use Rattle.flow_model.specs.Lengths.{greatest_exponent, lengths_of}
use Rattle.flow_model.proofs.Duality.{no_commodity}
use Rattle.fixed_exp.proofs.Passes.{lengths-fit}
use Rattle.dijkstra_paths.proofs.Relaxed.{pass-inside}
use Rattle.flow_core.specs.declared.state.Entry.{Entry}
use Rattle.flow_core.specs.Core.{Terms, State, start, after_schedule, worker_at, idle, path_of, commodity_count, group_of, IsComplete, IsRouted}
use Rattle.flow_core.specs.Laws.{MembersOnly}
use Rattle.flow_core.specs.Phase.{Routed, IsPhase, HasAdded, EachIsComplete, terms_of}
use Rattle.flow_core.proofs.Whole.{log-inside, contained, path-member, no_entry}
use Rattle.solver_run.specs.Paths.{IsPathOf, HavePaths}
use Rattle.solver_run.proofs.Short.{least-short}
use Rattle.solver_run.proofs.Members.{EachOwn, each-own, own-at}

walks : (cells : List Cell) (u v : ℕ) (walk : List ℕ) → PositiveWalk cells u v walk → IsWalk cells u v walk
walks cells u v [] w = w
walks cells u v (c ∷ walk) w = (w.0, (w.1.0, w.1.1, w.1.3), walks cells w.0 v walk w.2)

inside : (net : Network) (u v : ℕ) (walk : List ℕ) → IsNetwork net → PositiveWalk net.cells u v walk → All (λ c. c < length net.cells) walk
inside net u v [] n w = All-nil (λ c. c < length net.cells)
inside net u v (c ∷ walk) n w = All-cons (λ c. c < length net.cells) c walk (pass-inside net c u w.0 n w.1).1 (inside net w.0 v walk n w.2)

-- a commodity that is routed by a complete entry
routed-path : (t : Terms) (e : Entry) (k : ℕ) → IsNetwork t.net → IsComplete t e → k < commodity_count t → group_of t k ≡ e.ticket → path_of k e.adds ≢ [] → IsPathOf t.net k (path_of k e.adds)
routed-path t e k n complete l same some =
    let commodity = get_or t.net.commodities k no_commodity in
    let at : slice_get t.net.commodities k ≡ Some commodity = slice_get-get_or t.net.commodities k no_commodity l in
    let r : IsRouted t e k commodity = complete.members k commodity at same in
    let long = lengths-fit t.setting (greatest_exponent t.setting t.net.cells e.reads) t.net.cells e.reads complete.all_read in
    record {
      commodity = commodity;
      at = at;
      walks = walks t.net.cells commodity.from commodity.to (path_of k e.adds) r.least.walks;
      positive = r.least.walks;
      some = some;
      cells = inside t.net commodity.from commodity.to (path_of k e.adds) n r.least.walks;
      different = r.different;
      few = least-short t.net (lengths_of t.net t.setting e.reads) commodity.from commodity.to (path_of k e.adds) n long.low (n.commodities k no_commodity l).from r.least;
    }

-- what was added for a commodity in a state whose entries are complete
added-path : (t : Terms) (s : State) (k w : ℕ) (path : List ℕ) → IsNetwork t.net → EachOwn t s → EachIsComplete t s → path ≢ [] → HasAdded s w k path → IsPathOf t.net k path
added-path t s k w path n own complete some h =
    let e = h.0 in
    let there : w < length s.workers = log-inside s.workers w e h.1 in
    let c = contained (worker_at s w).log e h.1 in
    let whole : IsComplete t e = subst (IsComplete t) c.2 (complete w idle there c.0 no_entry c.1) in
    let members : MembersOnly t e.ticket e.adds = subst (λ (x : Entry). MembersOnly t x.ticket x.adds) c.2 (own-at t (worker_at s w).log c.0 no_entry (own w there) c.1) in
    let some' : path_of k e.adds ≢ [] = λ none. some (sym h.2 ∙ none) in
    let member = path-member t e.ticket k e.adds members some' in
    subst (IsPathOf t.net k) h.2 (routed-path t e k n whole member.0 member.1 some')

-- each entry of a phase has a short path of its commodity
pub phase-paths : (net : Network) (setting : Setting) (base loads : List ℕ) (entries : List Routed) → IsNetwork net → IsPhase net setting base loads entries → HavePaths net entries
phase-paths net setting base loads entries n p = λ k r at.
    let t : Terms = terms_of net setting base p.workers in
    let s : State = after_schedule t (start t) p.events in
    let has = (p.whole.entries_are k r.worker r.path).0 at in
    added-path t s k r.worker r.path n (each-own t p.events p.legal) p.whole.complete has.0 has.1
