-- The work of one worker.
use Rattle.std.specs.Prelude.{◌≡◌, ℕ, Bool, not, List, [], ◌∷◌, map, reverse, flat_map}
use Rattle.flow_model.specs.Network.{Network}
use Rattle.flow_model.specs.Groups.{members_of}
use Rattle.flow_core.specs.declared.state.Entry.{Entry}
use Rattle.flow_core.specs.declared.state.Worker.{Worker}
use Rattle.flow_core.specs.Core.{Terms, path_of}
use Rattle.flow_core.specs.Laws.{AllComplete}
use Rattle.load_table.specs.declared.view.View.{View}
use Rattle.load_table.specs.Views.{hand}
use Rattle.phase_engine.specs.Routes.{Route}

-- the routes of an entry: a path for each commodity of its group
abbrev pub routes_in : Network → Entry → List Route
routes_in net e = map (λ k. record { commodity = k; path = path_of k e.adds }) (members_of net e.ticket)

-- the routes of a log, the oldest entry first
abbrev pub routes_of : Network → List Entry → List Route
routes_of net log = flat_map (routes_in net) (reverse log)

-- what a worker did: complete entries alone, with these routes, and it has stopped exactly where memory has not ended its work
pub record IsWork (t : Terms) (memory : Bool) (routes : List Route) (u : Worker) : Type 0 where
  pub complete : AllComplete t u.log
  pub stopped : u.stopped ≡ not memory
  pub routes_are : routes ≡ routes_of t.net u.log

-- what the work of worker n made of its view: the splits are as before, and the worker is still alone in it
pub record HasWorked (t : Terms) (n : ℕ) (old new : View) (memory : Bool) (routes : List Route) : Type 0 where
  pub left : new.left ≡ old.left
  pub made : new.made ≡ old.made
  pub work : Worker
  pub hands : new.hands ≡ hand n work ∷ []
  pub is_work : IsWork t memory routes work
