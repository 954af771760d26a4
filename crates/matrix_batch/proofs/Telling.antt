-- What scaling tells of one matrix.
use Rattle.std.proofs.Common.{◌≡◌, ℕ, Bool, true, false, List, [], ◌∷◌, Option, Some, None, Ok, Err, refl, ap, ◌∙◌}
use Rattle.std.specs.Prelude.{if◌then◌else◌, ◌||◌}
use Rattle.std.specs.List.{list_all, list_any}
use Rattle.sndlib_grammar.specs.Rows.{NetRows, NetLink}
use Rattle.sndlib_grammar.specs.declared.refusal.NetRefusal.{NetRefusal}
use Rattle.sndlib_grammar.specs.declared.refusal.NetKind.TheVariants as netkinds
use Rattle.unit_scale.specs.declared.options.NetOptions.{NetOptions}
use Rattle.unit_scale.specs.declared.refusal.RowSort.{RowSort}
use Rattle.unit_scale.specs.declared.refusal.RowSort.TheVariants.{Link, Demand, End}
use Rattle.unit_scale.specs.declared.refusal.RowRefusal.{RowRefusal}
use Rattle.unit_scale.specs.Sizes.{is_left_out}
use Rattle.unit_scale.specs.Scaling.{ScaledNet, scaled_with, refused, first_line, first_large, is_large_link, no_demand, or_else}
use Rattle.unit_scale.specs.Sorts.{sorted, unless_refused_row, scaled_at}
use Rattle.matrix_batch.specs.Matrices.{decimals_for}
use Rattle.matrix_batch.specs.Faults.{fine_link}
use Rattle.matrix_batch.specs.Lists.{NamedDemands}
use Rattle.matrix_batch.specs.Scaled.{own_rows, fine_demand, large_row, no_commodity}
use Rattle.matrix_batch.specs.Scaling.{line_of_large}

abbrev row_refusal : RowSort → NetRefusal → RowRefusal
row_refusal sort f = record { sort = sort; refusal = f }

-- ---- lines and what passes

pub line_none : {X : Type 0} (p : X → Bool) (line : X → ℕ) (xs : List X) → first_line p line xs ≡ None → list_any p xs ≡ false
line_none p line [] h = refl
line_none p line (x ∷ xs) h =
    let go = elim (p x) as (λ (b : Bool). (if b then Some (line x) else first_line p line xs) ≡ None → (b || list_any p xs) ≡ false) [
      | true ↦ λ e. absurd cc
      | false ↦ λ e. line_none p line xs e
    ] in
    go h

pub line_some : {X : Type 0} (p : X → Bool) (line : X → ℕ) (xs : List X) (n : ℕ) → first_line p line xs ≡ Some n → list_any p xs ≡ true
line_some p line [] n h = absurd cc
line_some p line (x ∷ xs) n h =
    let go = elim (p x) as (λ (b : Bool). (if b then Some (line x) else first_line p line xs) ≡ Some n → (b || list_any p xs) ≡ true) [
      | true ↦ λ e. refl
      | false ↦ λ e. line_some p line xs n e
    ] in
    go h

-- ---- one matrix

-- too fine, too large, without a commodity, or accepted
pub data Told (rows : NetRows) (o : NetOptions) (m : NamedDemands) : Type 0 where
  Fine : (line : ℕ) → fine_demand m ≡ Some line
      → scaled_at (own_rows rows m) o ≡ Err (row_refusal Demand (record { line = line; kind = netkinds.TooFine })) → Told rows o m
  Large : (sort : RowSort) (line : ℕ) → fine_demand m ≡ None → large_row o rows m ≡ Some (line_of_large m.name.line sort line)
      → scaled_at (own_rows rows m) o ≡ Err (row_refusal sort (record { line = line; kind = netkinds.TooLarge })) → Told rows o m
  Empty : (line : ℕ) → fine_demand m ≡ None → large_row o rows m ≡ None → no_commodity m ≡ Some m.name.line
      → scaled_at (own_rows rows m) o ≡ Err (row_refusal End (record { line = line; kind = netkinds.NoDemand })) → Told rows o m
  Whole : fine_demand m ≡ None → large_row o rows m ≡ None → no_commodity m ≡ None
      → scaled_at (own_rows rows m) o ≡ Ok (scaled_with o (decimals_for o (own_rows rows m)) (own_rows rows m)) → Told rows o m

-- the refusals of a matrix by its stages
abbrev staged : Option ℕ → Option ℕ → Option ℕ → Option ℕ → Option RowRefusal
staged fine link demand end =
    or_else (sorted Demand (refused netkinds.TooFine fine))
    (or_else (sorted Link (refused netkinds.TooLarge link))
    (or_else (sorted Demand (refused netkinds.TooLarge demand)) (sorted End (refused netkinds.NoDemand end))))

abbrev large_link : NetRows → NetOptions → NamedDemands → Option ℕ
large_link rows o m = first_line (is_large_link o.modules (decimals_for o (own_rows rows m))) (λ l. l.line) rows.links

abbrev large_demand : NetRows → NetOptions → NamedDemands → Option ℕ
large_demand rows o m = first_large (decimals_for o (own_rows rows m)) 0 m.demands

abbrev own_net : NetRows → NetOptions → NamedDemands → ScaledNet
own_net rows o m = scaled_with o (decimals_for o (own_rows rows m)) (own_rows rows m)

stages : (rows : NetRows) (o : NetOptions) (m : NamedDemands) → fine_link o.modules rows ≡ None
    → scaled_at (own_rows rows m) o ≡ unless_refused_row (own_net rows o m) (staged (fine_demand m) (large_link rows o m) (large_demand rows o m) (no_demand (own_rows rows m)))
stages rows o m links =
    let rest = staged (fine_demand m) (large_link rows o m) (large_demand rows o m) (no_demand (own_rows rows m)) in
    ap (λ (fl : Option ℕ). unless_refused_row (own_net rows o m) (or_else (sorted Link (refused netkinds.TooFine fl)) rest)) links

-- what the stages tell, where the earlier ones tell nothing
tells : (rows : NetRows) (o : NetOptions) (m : NamedDemands) (fine link demand end : Option ℕ) → fine_link o.modules rows ≡ None
    → fine_demand m ≡ fine → large_link rows o m ≡ link → large_demand rows o m ≡ demand → no_demand (own_rows rows m) ≡ end
    → scaled_at (own_rows rows m) o ≡ unless_refused_row (own_net rows o m) (staged fine link demand end)
tells rows o m fine link demand end links f l d e = stages rows o m links ∙ rw (f, l, d, e) refl

none_large : (rows : NetRows) (o : NetOptions) (m : NamedDemands) (demand : Option ℕ) → large_link rows o m ≡ None → large_demand rows o m ≡ demand → large_row o rows m ≡ demand
none_large rows o m demand l d =
    let none = line_none (is_large_link o.modules (decimals_for o (own_rows rows m))) (λ (x : NetLink). x.line) rows.links l in
    ap (λ (any : Bool). if any then Some m.name.line else large_demand rows o m) none ∙ d

some_large : (rows : NetRows) (o : NetOptions) (m : NamedDemands) (n : ℕ) → large_link rows o m ≡ Some n → large_row o rows m ≡ Some m.name.line
some_large rows o m n l =
    let some = line_some (is_large_link o.modules (decimals_for o (own_rows rows m))) (λ (x : NetLink). x.line) rows.links n l in
    ap (λ (any : Bool). if any then Some m.name.line else large_demand rows o m) some

at_end : (rows : NetRows) (o : NetOptions) (m : NamedDemands) (all : Bool) → fine_link o.modules rows ≡ None → fine_demand m ≡ None → large_link rows o m ≡ None → large_demand rows o m ≡ None → list_all is_left_out m.demands ≡ all → Told rows o m
at_end rows o m true links f l d e =
    let end : no_demand (own_rows rows m) ≡ Some rows.end_line = ap (λ (b : Bool). if b then Some rows.end_line else None) e in
    Empty rows.end_line f (none_large rows o m None l d) (ap (λ (b : Bool). if b then Some m.name.line else None) e) (tells rows o m None None None (Some rows.end_line) links f l d end)
at_end rows o m false links f l d e =
    let end : no_demand (own_rows rows m) ≡ None = ap (λ (b : Bool). if b then Some rows.end_line else None) e in
    Whole f (none_large rows o m None l d) (ap (λ (b : Bool). if b then Some m.name.line else None) e) (tells rows o m None None None None links f l d end)

at_demand : (rows : NetRows) (o : NetOptions) (m : NamedDemands) (demand : Option ℕ) → fine_link o.modules rows ≡ None → fine_demand m ≡ None → large_link rows o m ≡ None → large_demand rows o m ≡ demand → Told rows o m
at_demand rows o m (Some n) links f l d = Large Demand n f (none_large rows o m (Some n) l d) (tells rows o m None None (Some n) (no_demand (own_rows rows m)) links f l d refl)
at_demand rows o m None links f l d = at_end rows o m (list_all is_left_out m.demands) links f l d refl

at_link : (rows : NetRows) (o : NetOptions) (m : NamedDemands) (link : Option ℕ) → fine_link o.modules rows ≡ None → fine_demand m ≡ None → large_link rows o m ≡ link → Told rows o m
at_link rows o m (Some n) links f l = Large Link n f (some_large rows o m n l) (tells rows o m None (Some n) (large_demand rows o m) (no_demand (own_rows rows m)) links f l refl refl)
at_link rows o m None links f l = at_demand rows o m (large_demand rows o m) links f l refl

at_fine : (rows : NetRows) (o : NetOptions) (m : NamedDemands) (fine : Option ℕ) → fine_link o.modules rows ≡ None → fine_demand m ≡ fine → Told rows o m
at_fine rows o m (Some n) links f = Fine n f (tells rows o m (Some n) (large_link rows o m) (large_demand rows o m) (no_demand (own_rows rows m)) links f refl refl refl)
at_fine rows o m None links f = at_link rows o m (large_link rows o m) links f refl

-- a matrix is told in one of these ways
pub told : (rows : NetRows) (o : NetOptions) (m : NamedDemands) → fine_link o.modules rows ≡ None → Told rows o m
told rows o m links = at_fine rows o m (fine_demand m) links refl
