-- A command with one option more.
use Rattle.std.proofs.Common.{◌≡◌, ◌∙◌, ◌<◌, ◌+◌, ℕ, zero, suc, ap, arith, refl, List, [], ◌∷◌, ◌++◌, length, map, take}
use Rattle.std.specs.Borrow.{Bor}
use Rattle.std.specs.List.{slice_index_or}
use Rattle.clap.specs.Walk.{Text}
use Rattle.mcf_words.specs.Parse.{option_rule}

next_rule : (names : List (Bor Text)) (i : ℕ) (d : Bor Text) → i < length names
    → map option_rule (map (λ n. n.now) (take i names)) ++ option_rule (slice_index_or names i d).now ∷ [] ≡ map option_rule (map (λ n. n.now) (take (suc i) names))
next_rule [] i d lt = absurd (omega arith)
next_rule (x ∷ xs) zero d lt = refl
next_rule (x ∷ xs) (suc i) d lt = ap (λ rules. option_rule x.now ∷ rules) (next_rule xs i d (omega arith))

pub rules_more : (names : List (Bor Text)) (i : ℕ) (d : Bor Text) → i < length names
    → map option_rule (map (λ n. n.now) (take i names)) ++ option_rule (slice_index_or names i d).now ∷ [] ≡ map option_rule (map (λ n. n.now) (take (i + 1) names))
rules_more names i d lt =
    let next : suc i ≡ i + 1 = omega arith in
    next_rule names i d lt ∙ ap (λ k. map option_rule (map (λ n. n.now) (take k names))) next
