use Rattle.std.proofs.Common.{arith, ap, subst, ◌≡◌, ℕ, ◌∙◌}
use Rattle.dijkstra_paths.specs.Searched.{Searched}
use Rattle.dijkstra_paths.specs.Tree.{IsFront}
use Rattle.dijkstra_paths.proofs.Ready.{Says, searched-says}
use Rattle.dijkstra_paths.proofs.scratch.Scratch.search.Goals as goal
use Rattle.dijkstra_paths.proofs.scratch.Scratch.search.Goals.{After-search_among}

said : (c : After-search_among) → Says c.args.graph.now c.args.lengths.now c.args.from c.self.inside.nodes c.self.inside.cells c.search_among.new.front c.self.inside.path.items
said c = searched-says c.args.graph.now c.args.lengths.now c.args.from c.self.inside.nodes c.self.inside.cells c.search_among.new.front c.self.inside.path.items
    (record {
      fits = c.nodes-nodes.ensures.net;
      long = c.requires.lengths;
      front = c.search_among.ensures.front;
      first = omega (arith, c.requires.nodes, c.requires.from);
      tree = c.search_among.ensures.tree;
      done = c.search_among.ensures.done;
    })
    (ap (λ (s : Searched). s.nodes) c.self.view_is ∙ c.requires.nodes) c.self.invariant.room

pub returns-clause-least : goal.returns-clause-least
returns-clause-least c = (said (goal.at.returns-clause-least c).After-search_among).least

pub returns-clause-paths : goal.returns-clause-paths
returns-clause-paths c = (said (goal.at.returns-clause-paths c).After-search_among).paths

pub returns-clause-near : goal.returns-clause-near
returns-clause-near c = (said (goal.at.returns-clause-near c).After-search_among).near

pub invariant_of-self : goal.invariant_of-self
invariant_of-self c = (said (goal.at.invariant_of-self c).After-search_among).ready

pub search_among-requires-clause-front : goal.search_among-requires-clause-front
search_among-requires-clause-front c =
    let size : c.self.inside.nodes ≡ c.args.graph.now.nodes = ap (λ (s : Searched). s.nodes) c.self.view_is ∙ c.requires.nodes in
    subst (λ (k : ℕ). IsFront k c.self.inside.front) size c.self.invariant.fits
