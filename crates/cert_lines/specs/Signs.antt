-- Signs and cells of words of form 2, from the mark and the id that such a word is made of.
use Rattle.std.specs.Prelude.{ℕ, Option, Some, None, ◌==◌, if◌then◌else◌, option_and_then}
use Rattle.unit_scale.specs.declared.modes.LinkMode.{LinkMode}
use Rattle.unit_scale.specs.declared.modes.Sign.{Sign}
use Rattle.unit_scale.specs.declared.modes.Sign.TheVariants.{Along, Against, Both}
use Rattle.unit_scale.specs.Names.{cell_of}

-- the sign of that mark
abbrev pub sign_marked : ℕ → Option Sign
sign_marked b =
    if b == 43 then Some Along else (if b == 45 then Some Against else (if b == 61 then Some Both else None))

-- the cell that goes over that link as the mark says, where there are both
abbrev pub marked_cell : LinkMode → ℕ → Option ℕ → Option ℕ
marked_cell mode mark link =
    option_and_then (λ sign. option_and_then (λ l. cell_of mode (record { link = l; sign = sign })) link)
    (sign_marked mark)
