-- Cells and names, by computing.
use Rattle.std.specs.Prelude.{◌≡◌, ℕ, refl, false, [], ◌∷◌, Some, None}
use Rattle.flow_model.specs.Network.{Network}
use Rattle.unit_scale.specs.declared.modes.LinkMode.TheVariants.{Directed, Undirected, Bidirected}
use Rattle.unit_scale.specs.declared.modes.Sign.TheVariants.{Along, Against, Both}
use Rattle.unit_scale.specs.Scaling.{link_cells}
use Rattle.unit_scale.specs.declared.names.CellName.{CellName}
use Rattle.unit_scale.specs.Names.{cells_of, name_of, cell_of}
use Rattle.unit_scale.specs.Closed.{with_link, closed}

abbrev name : ℕ → CellName
name cell = name_of Bidirected cell

back_of_link_2 : name 5 ≡ record { link = 2; sign = Against }
back_of_link_2 = refl

and_again : cell_of Bidirected (name 5) ≡ Some 5
and_again = refl

none_goes_along : cell_of Undirected (record { link = 0; sign = Along }) ≡ None
none_goes_along = refl

none_goes_both_ways : cell_of Bidirected (record { link = 0; sign = Both }) ≡ None
none_goes_both_ways = refl

twice_as_many : cells_of Bidirected 4096 ≡ 8192
twice_as_many = refl

directed_cells : link_cells Directed 3 4 9 ≡ (record { tail = 3; head = 4; both = false; cap = 9 }) ∷ []
directed_cells = refl

bidirected_cells : link_cells Bidirected 3 4 9
    ≡ (record { tail = 3; head = 4; both = false; cap = 9 }) ∷ (record { tail = 4; head = 3; both = false; cap = 9 }) ∷ []
bidirected_cells = refl

both_are_set : with_link Bidirected (1 ∷ 2 ∷ 3 ∷ 4 ∷ 5 ∷ 6 ∷ []) 1 7 ≡ 1 ∷ 2 ∷ 7 ∷ 7 ∷ 5 ∷ 6 ∷ []
both_are_set = refl

one_is_set : with_link Undirected (1 ∷ 2 ∷ 3 ∷ []) 1 7 ≡ 1 ∷ 7 ∷ 3 ∷ []
one_is_set = refl

abbrev one_link : ℕ → Network
one_link cap = record { nodes = 5; cells = link_cells Bidirected 3 4 cap; commodities = [] }

both_are_closed : closed Bidirected (one_link 9) 0 ≡ one_link 0
both_are_closed = refl
