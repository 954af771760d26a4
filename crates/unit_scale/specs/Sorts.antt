-- At which sort of row scaling is refused.
use Rattle.std.specs.Prelude.{◌≡◌, ℕ, Option, Some, None, Result, Ok, Err}
use Rattle.std.specs.Option.{option_map}
use Rattle.sndlib_grammar.specs.Rows.{NetRows}
use Rattle.sndlib_grammar.specs.declared.refusal.NetRefusal.{NetRefusal}
use Rattle.sndlib_grammar.specs.declared.refusal.NetKind.TheVariants.{TooFine, TooLarge, NoDemand}
use Rattle.unit_scale.specs.declared.options.NetOptions.{NetOptions}
use Rattle.unit_scale.specs.declared.modes.ModuleMode.{ModuleMode}
use Rattle.unit_scale.specs.declared.refusal.RowSort.{RowSort}
use Rattle.unit_scale.specs.declared.refusal.RowSort.TheVariants.{Link, Demand, End}
use Rattle.unit_scale.specs.declared.refusal.RowRefusal.{RowRefusal}
use Rattle.unit_scale.specs.declared.refusal.RowEnd.{RowEnd}
use Rattle.unit_scale.specs.declared.refusal.RowEnd.TheVariants as rowends
use Rattle.unit_scale.specs.declared.refusal.ScaleEnd.{ScaleEnd}
use Rattle.unit_scale.specs.declared.refusal.ScaleEnd.TheVariants.{Refused, Memory}
use Rattle.unit_scale.specs.Sizes.{AreDecimals, decimals_of, sizes, is_fine_link, is_fine_demand}
use Rattle.unit_scale.specs.Scaling.{ScaledNet, IsScaled, scaled_with, refused, first_line, first_large, is_large_link, no_demand, or_else}

-- the refusal, at a row of this sort
abbrev pub sorted : RowSort → Option NetRefusal → Option RowRefusal
sorted sort r = option_map (λ f. record { sort = sort; refusal = f }) r

-- the first refusal with the sort of its row, with this number of decimals
abbrev pub refused_row : ModuleMode → ℕ → NetRows → Option RowRefusal
refused_row mode s rows =
    or_else (sorted Link (refused TooFine (first_line (is_fine_link mode) (λ l. l.line) rows.links)))
    (or_else (sorted Demand (refused TooFine (first_line is_fine_demand (λ d. d.line) rows.demands)))
    (or_else (sorted Link (refused TooLarge (first_line (is_large_link mode s) (λ l. l.line) rows.links)))
    (or_else (sorted Demand (refused TooLarge (first_large s 0 rows.demands)))
    (sorted End (refused NoDemand (no_demand rows))))))

abbrev pub unless_refused_row : ScaledNet → Option RowRefusal → Result ScaledNet RowRefusal
unless_refused_row scaled None = Ok scaled
unless_refused_row scaled (Some r) = Err r

-- the network that rows stand for, as `scaled_of`; or their first refusal, with the sort of its row
abbrev pub scaled_at : NetRows → NetOptions → Result ScaledNet RowRefusal
scaled_at rows o =
    let s = decimals_of (sizes o.modules rows) in
    unless_refused_row (scaled_with o s rows) (refused_row o.modules s rows)

-- ---- what scaling answers

-- the network of the rows, or their first refusal with the sort of its row; if memory ran out, nothing is said
abbrev pub ScalesAt : NetRows → NetOptions → Result ScaledNet RowEnd → Type 0
ScalesAt rows o (Ok scaled) = scaled_at rows o ≡ Ok scaled
ScalesAt rows o (Err rowends.Memory) = Unit {0}
ScalesAt rows o (Err (rowends.Refused r)) = scaled_at rows o ≡ Err r

-- this is the first refusal of the rows
abbrev pub IsRefusedRow : NetRows → NetOptions → RowRefusal → Type 0
IsRefusedRow rows o r = (s : ℕ) → AreDecimals (sizes o.modules rows) s → refused_row o.modules s rows ≡ Some r

-- the same by its parts
abbrev pub ScalesByParts : NetRows → NetOptions → Result ScaledNet RowEnd → Type 0
ScalesByParts rows o (Ok scaled) = IsScaled rows o scaled
ScalesByParts rows o (Err rowends.Memory) = Unit {0}
ScalesByParts rows o (Err (rowends.Refused r)) = IsRefusedRow rows o r

-- the end of a stage that looks at rows of this sort
abbrev pub end_at : RowSort → ScaleEnd → RowEnd
end_at sort Memory = rowends.Memory
end_at sort (Refused f) = rowends.Refused (record { sort = sort; refusal = f })
