use Rattle.flow_solver.proofs.search.zeros.Goals as goal

pub returns : goal.returns
returns c = c.in_ok-zeros.ensures.items_if_clones_equal (λ y e. e)
