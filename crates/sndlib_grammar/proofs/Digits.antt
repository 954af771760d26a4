-- Numbers and their digits.
use Rattle.std.proofs.Common.{◌≡◌, ℕ, ◌+◌, ◌<◌, List, [], ◌∷◌, take, true, false, Bool, arith, suc, cond, refl, Option, Some, None, subst, sym}
use Rattle.std.specs.Option.{IfSome}
use Rattle.sndlib_grammar.specs.declared.parse.NumberParts.{NumberParts}
use Rattle.sndlib_grammar.specs.Number.{AreDigits}
use Rattle.sndlib_grammar.specs.Views.{number_view}
use Rattle.std.specs.Char.{is_ascii_digit, digit_value}
use Rattle.std.specs.List.{prefix_len}
use Rattle.std.specs.Str.Parse.{AllDigits}
use Rattle.std.proofs.lemmas.Bool.Decides.{nat_tests}

digit_lt : (c : ℕ) → is_ascii_digit c ≡ true → digit_value c < 10
digit_lt c h = grind (arith, nat_tests)

one_more : (b : Bool) (c n : ℕ) (word : List ℕ) → is_ascii_digit c ≡ b → AllDigits 10 (take n word) → AllDigits 10 (take (cond b (1 + n) 0) (c ∷ word))
one_more true c n word h a = let e : 1 + n ≡ suc n = omega arith in rw e (digit_lt c h, a)
one_more false c n word h a = tt

-- the digits at the front are digits
pub front-digits : (word : List ℕ) → AllDigits 10 (take (prefix_len is_ascii_digit word) word)
front-digits [] = tt
front-digits (c ∷ word) = one_more (is_ascii_digit c) c (prefix_len is_ascii_digit word) word refl (front-digits word)

pub digits_of_parts : (r : Option NumberParts) (w f : List ℕ) → AllDigits 10 w → AllDigits 10 f → IfSome r (λ p. (p.whole.now ≡ w) × (p.fraction.now ≡ f)) → IfSome r (λ p. AreDigits (number_view p))
digits_of_parts None w f a b h = tt
digits_of_parts (Some p) w f a b h = (subst (AllDigits 10) (sym h.0) a, subst (AllDigits 10) (sym h.1) b)
