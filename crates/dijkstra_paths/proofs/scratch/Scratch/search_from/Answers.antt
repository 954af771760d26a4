use Rattle.std.proofs.Common.{arith, ap, subst, ◌≡◌, ℕ, ◌∙◌}
use Rattle.dijkstra_paths.specs.Searched.{Searched}
use Rattle.dijkstra_paths.specs.Tree.{IsFront}
use Rattle.dijkstra_paths.proofs.Ready.{Says, searched-says}
use Rattle.dijkstra_paths.proofs.scratch.Scratch.search_from.Goals as goal
use Rattle.dijkstra_paths.proofs.scratch.Scratch.search_from.Goals.{After-search_along}

said : (c : After-search_along) → Says c.args.graph.now c.args.lengths.now c.args.from c.self.inside.nodes c.self.inside.cells c.search_along.new.front c.self.inside.path.items
said c = searched-says c.args.graph.now c.args.lengths.now c.args.from c.self.inside.nodes c.self.inside.cells c.search_along.new.front c.self.inside.path.items
    (record {
      fits = c.nodes-nodes.ensures.net;
      long = c.requires.lengths;
      front = c.search_along.ensures.front;
      first = omega (arith, c.requires.nodes, c.requires.from);
      tree = c.search_along.ensures.tree;
      done = c.search_along.ensures.done;
    })
    (ap (λ (s : Searched). s.nodes) c.self.view_is ∙ c.requires.nodes) c.self.invariant.room

pub returns-clause-least : goal.returns-clause-least
returns-clause-least c = (said (goal.at.returns-clause-least c).After-search_along).least

pub returns-clause-paths : goal.returns-clause-paths
returns-clause-paths c = (said (goal.at.returns-clause-paths c).After-search_along).paths

pub returns-clause-near : goal.returns-clause-near
returns-clause-near c = (said (goal.at.returns-clause-near c).After-search_along).near

pub invariant_of-self : goal.invariant_of-self
invariant_of-self c = (said (goal.at.invariant_of-self c).After-search_along).ready

pub search_along-requires-clause-front : goal.search_along-requires-clause-front
search_along-requires-clause-front c =
    let size : c.self.inside.nodes ≡ c.args.graph.now.nodes = ap (λ (s : Searched). s.nodes) c.self.view_is ∙ c.requires.nodes in
    subst (λ (k : ℕ). IsFront k c.self.inside.front) size c.self.invariant.fits
