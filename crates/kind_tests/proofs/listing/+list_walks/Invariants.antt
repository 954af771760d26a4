use Rattle.kind_tests.proofs.listing.+list_walks.Given as goal

abbrev pub decreases-list_walks : goal.decreases-list_walks
decreases-list_walks l = l.left
