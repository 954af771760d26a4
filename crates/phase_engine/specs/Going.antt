-- A worker between two claims.
use Rattle.std.specs.Prelude.{◌≡◌, ℕ, ◌+◌, false, List, [], ◌∷◌}
use Rattle.flow_core.specs.declared.state.Entry.{Entry}
use Rattle.flow_core.specs.declared.state.Worker.{Worker}
use Rattle.flow_core.specs.Core.{Terms}
use Rattle.flow_core.specs.Laws.{AllComplete}
use Rattle.load_table.specs.declared.view.Hand.{Hand}
use Rattle.load_table.specs.Views.{hand}
use Rattle.phase_engine.specs.Routes.{Route}
use Rattle.phase_engine.specs.Work.{routes_of}

-- worker n alone, with complete entries and these routes, and it goes on
pub record IsGoing (t : Terms) (n : ℕ) (hands : List Hand) (routes : List Route) : Type 0 where
  pub work : Worker
  pub hands_are : hands ≡ hand n work ∷ []
  pub complete : AllComplete t work.log
  pub going : work.stopped ≡ false
  pub routes_are : routes ≡ routes_of t.net work.log

-- the least ticket that the next claim may find
abbrev pub next_ticket : List Hand → ℕ
next_ticket [] = 0
next_ticket (h ∷ hs) = after_log h.work.log
  where
    after_log : List Entry → ℕ
    after_log [] = 0
    after_log (e ∷ es) = e.ticket + 1
