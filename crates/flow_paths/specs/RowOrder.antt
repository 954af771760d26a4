-- The order of path rows.
use Rattle.std.specs.Prelude.{ℕ, ◌==◌, nat_lt, ◌&&◌, ◌||◌, Bool, true, false, List, [], ◌∷◌}
use Rattle.flow_model.specs.Routing.{Row}

-- whether the first list comes before the second: the first number that differs decides, and a part comes before the whole
abbrev pub list_lt : List ℕ → List ℕ → Bool
list_lt xs [] = false
list_lt [] (y ∷ ys) = true
list_lt (x ∷ xs) (y ∷ ys) = nat_lt x y || ((x == y) && list_lt xs ys)

-- whether the first row comes before the second: by commodity, then by cells
abbrev pub row_lt : Row → Row → Bool
row_lt a b = nat_lt a.commodity b.commodity || ((a.commodity == b.commodity) && list_lt a.walk b.walk)
