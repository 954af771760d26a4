-- Where in the table the words lie.
use Rattle.std.specs.Prelude.{ℕ, ◌+◌, ◌*◌, Bool, true, false, length, min, nat_le}
use Rattle.flow_core.specs.Core.{Terms}
use Rattle.load_table.specs.declared.places.TheConstants.{FEW_CELLS}

-- words lie apart where there are no more cells than FEW_CELLS; each of them has a base
abbrev pub is_wide : Terms → Bool
is_wide t = nat_le (length t.base) FEW_CELLS

-- the place of a word, of which the first is that of claims: eight times its number, so that no two share 64 bytes, a line of memory,
-- which processors pass on whole; or, where words lie side by side, 0 for the first and seven more than its number for any other, so
-- that the first alone has its line
abbrev pub place : Bool → ℕ → ℕ
place true i = 8 * i
place false i = min (8 * i) (i + 7)
