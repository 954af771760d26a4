-- What the rows of a parse have, by id.
use Rattle.std.proofs.Common.{◌≡◌, ◌∙◌, ◌||◌, Bool, cond, true, false, refl, sym, ap, List, [], ◌∷◌, ◌++◌, Some, option_map, is_some}
use Rattle.std.specs.List.{find}
use Rattle.std.specs.Option.{unwrap_or}
use Rattle.std.specs.Str.{bytes_eq}
use Rattle.std.proofs.lemmas.Bool.{or_parts, false_from_ne_true, both_ways}
use Rattle.std.proofs.lemmas.Slice.Eq.{bytes_eq-Decides}
use Rattle.clap.specs.Walk.{Row, Text, all_of, has_row, with_values, without}
use Rattle.clap.specs.declared.builder.value_parser.Reading.{Reading}
use Rattle.clap.specs.declared.parser.matches.ValueSource.{ValueSource}

pub same_text : (a : Text) → bytes_eq a a ≡ true
same_text a = (bytes_eq-Decides a a).1 refl

pub text_is : (a b : Text) → bytes_eq a b ≡ true → a ≡ b
text_is a b e = (bytes_eq-Decides a b).0 e

pub other_text : (a b : Text) → bytes_eq a b ≡ false → bytes_eq b a ≡ false
other_text a b e = false_from_ne_true _ (λ t. both_ways _ e ((bytes_eq-Decides a b).1 (sym (text_is b a t))))

pub has_row-all_of : (id : Text) (rows : List Row) → has_row id rows ≡ is_some (all_of id rows)
has_row-all_of id [] = refl
has_row-all_of id (r ∷ rs) = go (bytes_eq r.id id) (has_row-all_of id rs)
  where
    go : (b : Bool) → has_row id rs ≡ is_some (all_of id rs)
        → (b || has_row id rs) ≡ is_some (option_map (λ (x : Row). x.values) (cond b (Some r) (find (λ x. bytes_eq x.id id) rs)))
    go true e = refl
    go false e = e

-- the values of an id after values are added to it
pub all_of-with : (id : Text) (how : Reading) (s : ValueSource) (vs : List Text) (rows : List Row)
    → all_of id (with_values id how s vs rows) ≡ Some (unwrap_or (all_of id rows) [] ++ vs)
all_of-with id how s vs [] = rw (same_text id) refl
all_of-with id how s vs (r ∷ rs) = go (bytes_eq r.id id) refl (all_of-with id how s vs rs)
  where
    go : (b : Bool) → bytes_eq r.id id ≡ b → all_of id (with_values id how s vs rs) ≡ Some (unwrap_or (all_of id rs) [] ++ vs)
        → all_of id (with_values id how s vs (r ∷ rs)) ≡ Some (unwrap_or (all_of id (r ∷ rs)) [] ++ vs)
    go true e h = rw e (rw e refl)
    go false e h = rw e (rw e h)

-- and those of another
pub all_of-other : (id x : Text) (how : Reading) (s : ValueSource) (vs : List Text) (rows : List Row) → bytes_eq id x ≡ false
    → all_of x (with_values id how s vs rows) ≡ all_of x rows
all_of-other id x how s vs [] ne = rw ne refl
all_of-other id x how s vs (r ∷ rs) ne = go (bytes_eq r.id id) refl (all_of-other id x how s vs rs ne)
  where
    more : (b : Bool) → all_of x (with_values id how s vs rs) ≡ all_of x rs
        → option_map (λ (y : Row). y.values) (cond b (Some r) (find (λ y. bytes_eq y.id x) (with_values id how s vs rs)))
        ≡ option_map (λ (y : Row). y.values) (cond b (Some r) (find (λ y. bytes_eq y.id x) rs))
    more true h = refl
    more false h = h

    go : (b : Bool) → bytes_eq r.id id ≡ b → all_of x (with_values id how s vs rs) ≡ all_of x rs
        → all_of x (with_values id how s vs (r ∷ rs)) ≡ all_of x (r ∷ rs)
    go true e h =
        let apart : bytes_eq r.id x ≡ false = ap (λ t. bytes_eq t x) (text_is _ _ e) ∙ ne in
        rw e (rw apart refl)
    go false e h = rw e (more (bytes_eq r.id x) h)

-- an id without a row stays without one
pub without-none : (id : Text) (rows : List Row) → has_row id rows ≡ false → without id rows ≡ rows
without-none id [] none = refl
without-none id (r ∷ rs) none =
    let parts = or_parts (bytes_eq r.id id) (has_row id rs) none in
    rw parts.0 (ap (λ xs. r ∷ xs) (without-none id rs parts.1))
