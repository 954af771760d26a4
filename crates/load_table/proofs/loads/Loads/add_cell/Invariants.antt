use Rattle.load_table.proofs.loads.Loads.add_cell.Given as goal

abbrev pub ghosts-add_for-J-OfCommodity : goal.ghosts-add_for-J-OfCommodity
ghosts-add_for-J-OfCommodity a = record { commodity = a.k }

abbrev pub ghosts-add_for-L-OfCell : goal.ghosts-add_for-L-OfCell
ghosts-add_for-L-OfCell a = record { cell = a.cell }

abbrev pub ghosts-add_at-J-OfCommodity : goal.ghosts-add_at-J-OfCommodity
ghosts-add_at-J-OfCommodity a = record { commodity = a.k }

abbrev pub ghosts-add_at-L-OfCell : goal.ghosts-add_at-L-OfCell
ghosts-add_at-L-OfCell a = record { cell = a.cell }
