-- The least number of decimals.
use Rattle.std.proofs.Common.{◌≡◌, ℕ, ◌-◌, ◌%◌, ◌^◌, ◌≤◌, List, [], ◌∷◌, ◌++◌, map, true, false, Bool, refl, ap, sym, ◌∙◌, ◌==◌, ◌||◌, ◌&&◌, if◌then◌else◌}
use Rattle.std.specs.List.{list_all}
use Rattle.std.proofs.lemmas.List.Folds.{list_all-append}
use Rattle.unit_scale.specs.Sizes.{serves}
use Rattle.unit_scale.specs.declared.links.LinkSize.{LinkSize}
use Rattle.unit_scale.specs.declared.demands.DemandSize.{DemandSize}
use Rattle.std.proofs.Math.Nat.{zero-mod, mod-one}

zero_divides : (u : ℕ) → 1 ≤ u → (0 % u == 0) ≡ true
zero_divides u h = rw (zero-mod u) refl

one_divides : (n : ℕ) → (n % 1 == 0) ≡ true
one_divides n = rw (mod-one n) refl

links_serve : (u : ℕ) (zs : List LinkSize) → list_all (λ n. n % u == 0) (map (λ z. z.millionths) zs) ≡ list_all (λ z. z.millionths % u == 0) zs
links_serve u [] = refl
links_serve u (z ∷ zs) = ap (λ b. (z.millionths % u == 0) && b) (links_serve u zs)

demand_serves : (u m : ℕ) (left : Bool) → 1 ≤ u → ((if left then 0 else m) % u == 0) ≡ (left || m % u == 0)
demand_serves u m true h = zero_divides u h
demand_serves u m false h = refl

demands_serve : (u : ℕ) (zs : List DemandSize) → 1 ≤ u → list_all (λ n. n % u == 0) (map (λ z. if z.left then 0 else z.millionths) zs) ≡ list_all (λ z. z.left || z.millionths % u == 0) zs
demands_serve u [] h = refl
demands_serve u (z ∷ zs) h =
    ap (λ b. b && list_all (λ n. n % u == 0) (map (λ z. if z.left then 0 else z.millionths) zs)) (demand_serves u z.millionths z.left h) ∙ ap (λ b. (z.left || z.millionths % u == 0) && b) (demands_serve u zs h)

pub all_serve : (u : ℕ) (ls : List LinkSize) (ds : List DemandSize) → 1 ≤ u → list_all (λ n. n % u == 0) (map (λ z. z.millionths) ls ++ map (λ z. if z.left then 0 else z.millionths) ds) ≡ (list_all (λ z. z.millionths % u == 0) ls && list_all (λ z. z.left || z.millionths % u == 0) ds)
all_serve u ls ds h =
    list_all-append (λ n. n % u == 0) (map (λ z. z.millionths) ls) (map (λ z. if z.left then 0 else z.millionths) ds) ∙ ap (λ b. b && list_all (λ n. n % u == 0) (map (λ z. if z.left then 0 else z.millionths) ds)) (links_serve u ls) ∙ ap (λ b. list_all (λ z. z.millionths % u == 0) ls && b) (demands_serve u ds h)

pub six_serves : (xs : List ℕ) → list_all (λ n. n % 1 == 0) xs ≡ true
six_serves [] = refl
six_serves (x ∷ xs) = rw (one_divides x) (six_serves xs)

pub serve_is : (s u : ℕ) (ls : List LinkSize) (ds : List DemandSize) (a b : Bool) → u ≡ 10 ^ (6 - s) → 1 ≤ u → a ≡ list_all (λ z. z.millionths % u == 0) ls → b ≡ list_all (λ z. z.left || z.millionths % u == 0) ds → list_all (serves s) (map (λ z. z.millionths) ls ++ map (λ z. if z.left then 0 else z.millionths) ds) ≡ (a && b)
serve_is s u ls ds a b e one p q =
    ap (λ u. list_all (λ n. n % u == 0) (map (λ z. z.millionths) ls ++ map (λ z. if z.left then 0 else z.millionths) ds)) (sym e) ∙ all_serve u ls ds one ∙ rw (p, q) refl
