-- Units of a number, by its exponent.
use Rattle.std.proofs.Common.{◌≡◌, ℕ, ◌+◌, ◌*◌, ◌^◌, ◌-◌, ◌≤◌, ◌<◌, Some, arith, ◌∙◌, ap}
use Rattle.std.proofs.lemmas.Nat.{pow-add}
use Rattle.sndlib_grammar.specs.Number.{Number}
use Rattle.unit_scale.specs.Units.{digits, places, quotient, units_of}
use Rattle.unit_scale.proofs.Quotients.{quotient_whole, quotient-mul, pow-ten}

raise : (d u p : ℕ) → p ≤ u → quotient (d * 10 ^ u) (10 ^ p) ≡ Some (d * 10 ^ (u - p))
raise d u p h =
    let s : u ≡ u - p + p = omega arith in
    let e : 10 ^ u ≡ 10 ^ (u - p) * 10 ^ p = ap (λ x. 10 ^ x) s ∙ pow-add 10 (u - p) p in
    let f : d * 10 ^ u ≡ d * 10 ^ (u - p) * 10 ^ p = ap (λ x. d * x) e ∙ omega arith in
    rw f (quotient_whole (d * 10 ^ (u - p)) (10 ^ p) (pow-ten p))

cut : (d u p : ℕ) → u < p → quotient (d * 10 ^ u) (10 ^ p) ≡ quotient d (10 ^ (p - u))
cut d u p h =
    let s : p ≡ p - u + u = omega arith in
    let e : 10 ^ p ≡ 10 ^ (p - u) * 10 ^ u = ap (λ x. 10 ^ x) s ∙ pow-add 10 (p - u) u in
    rw e (quotient-mul d (10 ^ (p - u)) (10 ^ u) (pow-ten (p - u)) (pow-ten u))

pub units_raise : (n : Number) (decimals : ℕ) → places n ≤ n.up + decimals → units_of decimals n ≡ Some (digits n * 10 ^ (n.up + decimals - places n))
units_raise n decimals h = raise (digits n) (n.up + decimals) (places n) h

pub units_cut : (n : Number) (decimals : ℕ) → n.up + decimals < places n → units_of decimals n ≡ quotient (digits n) (10 ^ (places n - (n.up + decimals)))
units_cut n decimals h = cut (digits n) (n.up + decimals) (places n) h
