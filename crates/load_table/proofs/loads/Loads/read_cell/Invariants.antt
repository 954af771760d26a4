use Rattle.load_table.proofs.loads.Loads.read_cell.Given as goal

abbrev pub ghosts-read_at : goal.ghosts-read_at
ghosts-read_at a = record { cell = a.cell }

abbrev pub ghosts-read_shared : goal.ghosts-read_shared
ghosts-read_shared a = record { cell = a.cell }
