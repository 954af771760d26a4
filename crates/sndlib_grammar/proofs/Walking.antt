-- Reading symbols in two parts.
use Rattle.std.proofs.Common.{◌≡◌, List, [], ◌∷◌, ◌++◌, refl, ap, Option, Some, None}
use Rattle.std.specs.Prelude.{option_and_then}
use Rattle.sndlib_grammar.specs.declared.mode.Mode.{Mode}
use Rattle.sndlib_grammar.specs.Grammar.{Symbol}
use Rattle.sndlib_grammar.specs.Reading.{Sofar, walk, read, kept, mode_after}

-- what was read first leads to a state, and what follows goes on from there
pub read-append : (xs : List Symbol) (m : Mode) (s : Sofar) (next : Mode) → walk m xs ≡ Some next → (later : Sofar) × ((ys : List Symbol) → read m s (xs ++ ys) ≡ read next later ys)
read-append [] m s next h = (s, λ ys. let same : m ≡ next = cc in ap (λ k. read k s ys) same)
read-append (t ∷ xs) m s next h =
    let go = elim (mode_after m t) as (λ (o : Option Mode). option_and_then (λ k. walk k xs) o ≡ Some next → (later : Sofar) × ((ys : List Symbol) → option_and_then (λ k. read k (kept m t s) (xs ++ ys)) o ≡ read next later ys))
    [ None ↦ λ e. absurd cc | Some k ↦ λ e. read-append xs k (kept m t s) next e ] in
    go h

pub read-refused : (xs : List Symbol) (m : Mode) (s : Sofar) (ys : List Symbol) → walk m xs ≡ None → read m s (xs ++ ys) ≡ None
read-refused [] m s ys h = absurd cc
read-refused (t ∷ xs) m s ys h =
    let go = elim (mode_after m t) as (λ (o : Option Mode). option_and_then (λ k. walk k xs) o ≡ None → option_and_then (λ k. read k (kept m t s) (xs ++ ys)) o ≡ None)
    [ None ↦ λ e. refl | Some k ↦ λ e. read-refused xs k (kept m t s) ys e ] in
    go h

pub walk-append : (xs ys : List Symbol) (m : Mode) → walk m (xs ++ ys) ≡ option_and_then (λ k. walk k ys) (walk m xs)
walk-append [] ys m = refl
walk-append (t ∷ xs) ys m =
    elim (mode_after m t) as (λ (o : Option Mode). option_and_then (λ k. walk k (xs ++ ys)) o ≡ option_and_then (λ k. walk k ys) (option_and_then (λ k. walk k xs) o)) [ None ↦ refl | Some k ↦ walk-append xs ys k ]
