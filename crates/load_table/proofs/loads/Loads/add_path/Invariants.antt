use Rattle.load_table.proofs.loads.Loads.add_path.Given as goal

abbrev pub ghosts-add_along-J-OfCommodity : goal.ghosts-add_along-J-OfCommodity
ghosts-add_along-J-OfCommodity a = record { commodity = a.k }

abbrev pub ghosts-add_along-L-OfPath : goal.ghosts-add_along-L-OfPath
ghosts-add_along-L-OfPath a = record { path = a.path.now }
