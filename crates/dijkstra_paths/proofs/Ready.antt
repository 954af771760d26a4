-- What a scratch says after a search.
use Rattle.std.proofs.Common.{◌≡◌, ℕ, ◌<◌, List, None, length, map, get_or, arith, sym, subst}
use Rattle.flow_model.specs.Network.{Network, IsNetwork}
use Rattle.flow_model.specs.Lengths.{AreLengths}
use Rattle.flow_model.specs.Least.{IsLeast}
use Rattle.dijkstra_paths.specs.declared.search.Front.{Front}
use Rattle.dijkstra_paths.specs.Tree.{IsFront, IsTree, IsDone}
use Rattle.dijkstra_paths.specs.Searched.{known, paths_from, IsNear, IsPath, IsReady, Ends}
use Rattle.dijkstra_paths.proofs.Least.{IsFound}
use Rattle.dijkstra_paths.proofs.Pathed.{path-seen, ends-found, rank-below}
use Rattle.dijkstra_paths.proofs.Seen.{least-seen, near-seen}
use Rattle.mcf_limits.specs.declared.TheConstants.{MAX_LENGTH}

-- a front that a search has left
pub record IsSearched (net : Network) (lengths : List ℕ) (from : ℕ) (left : Front) : Type 0 where
  pub fits : IsNetwork net
  pub long : AreLengths net.cells lengths
  pub front : IsFront net.nodes left
  pub first : from < net.nodes
  pub tree : IsTree net.cells lengths from left.dist.items left.steps.items
  pub done : (u : ℕ) → u < length left.dist.items → get_or left.dist.items u 0 < MAX_LENGTH → IsDone net.cells lengths left.dist.items u

found : (net : Network) (lengths : List ℕ) (from : ℕ) (front : Front) → IsSearched net lengths from front → IsFound net lengths from front.dist.items front.steps.items
found net lengths from front s = record { fits = s.fits; long = s.long; nodes = s.front.dists; first = s.first; tree = s.tree; done = s.done }

-- what a scratch with that front says of each node's distance and path, and of its own lists
pub record Says (net : Network) (lengths : List ℕ) (from nodes cells : ℕ) (front : Front) (path : List ℕ) : Type 0 where
  pub least : (v : ℕ) → v < nodes → IsLeast net.cells lengths from v (get_or (map known front.dist.items) v None)
  pub paths : (v : ℕ) → v < nodes → IsPath net.cells lengths nodes from v (get_or (map known front.dist.items) v None) (get_or (paths_from front.steps.items from nodes 0 front.dist.items) v None)
  pub near : IsNear net.cells lengths (record { nodes = nodes; cells = cells; dists = map known front.dist.items; paths = paths_from front.steps.items from nodes 0 front.dist.items })
  pub ready : IsReady nodes from front path

pub searched-says : (net : Network) (lengths : List ℕ) (from nodes cells : ℕ) (front : Front) (path : List ℕ) → IsSearched net lengths from front → nodes ≡ net.nodes → length path ≡ nodes
    → Says net lengths from nodes cells front path
searched-says net lengths from nodes cells front path s size room =
    let is = found net lengths from front s in
    let dist = front.dist.items in
    let steps = front.steps.items in
    record {
      least = λ v l. least-seen net lengths from dist steps is v (omega (arith, size));
      paths = λ v l. subst (λ (k : ℕ). IsPath net.cells lengths k from v (get_or (map known dist) v None) (get_or (paths_from steps from k 0 dist) v None)) (sym size)
          (path-seen net lengths from dist steps is v (omega (arith, size)));
      near = λ c u v l p. near-seen net lengths from dist steps cells (paths_from steps from nodes 0 dist) is c u v (omega (arith, size)) p;
      ready = record {
        fits = subst (λ (k : ℕ). IsFront k front) (sym size) s.front;
        room = room;
        first = λ some. omega (arith, size, s.first);
        ends = λ v l short. subst (λ (k : ℕ). Ends steps k from k v) (sym size)
            (ends-found net.nodes net lengths from dist steps is v (omega (arith, size)) short (rank-below net lengths from dist steps is v (omega (arith, size))));
      };
    }
