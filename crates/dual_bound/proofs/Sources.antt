-- The sources of commodities, in the order of nodes.
use Rattle.std.proofs.Common.{◌≡◌, ℕ, zero, suc, ◌+◌, List, [], ◌∷◌, ◌++◌, Bool, cond, refl, sym, ap, ◌∙◌, arith, add-one}
use Rattle.std.specs.List.{filter, range_with_len}
use Rattle.std.proofs.lemmas.List.Elements.{filter-append}

range-more : (a n : ℕ) → range_with_len a (suc n) ≡ range_with_len a n ++ (a + n) ∷ []
range-more a zero = let e : a + 0 ≡ a = omega arith in rw e refl
range-more a (suc n) =
    let e : a + 1 + n ≡ a + suc n = omega arith in
    ap (λ (xs : List ℕ). a ∷ xs) (range-more (a + 1) n ∙ ap (λ (x : ℕ). range_with_len (a + 1) n ++ x ∷ []) e)

-- the sources below one more node
pub sources-more : (p : ℕ → Bool) (v : ℕ) (sources : List ℕ) (b : Bool) → b ≡ p v → sources ≡ filter p (range_with_len 0 v) → sources ++ cond b (v ∷ []) [] ≡ filter p (range_with_len 0 (v + 1))
sources-more p v sources b e h =
    let zeroth : 0 + v ≡ v = omega arith in
    let more : range_with_len 0 (suc v) ≡ range_with_len 0 v ++ v ∷ [] = range-more 0 v ∙ ap (λ (x : ℕ). range_with_len 0 v ++ x ∷ []) zeroth in
    rw (add-one, h, e) (sym (ap (filter p) more ∙ filter-append p (range_with_len 0 v) (v ∷ [])))
