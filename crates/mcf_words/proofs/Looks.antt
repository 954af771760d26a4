-- What a word looks like: `--`, an option by its long name, one by short names, or none of these.
use Rattle.std.proofs.Common.{◌≡◌, ◌∙◌, ℕ, Bool, true, false, refl, sym, ap, subst, arith, List, [], ◌∷◌, length, Some, None}
use Rattle.std.specs.Prelude.{◌==◌, nat_lt, slice_get}
use Rattle.std.specs.Str.{IsUtf8, all_scalars, chars, encode_utf8_all}
use Rattle.std.proofs.lemmas.Bool.{and_from, and_right, eqb-true, lt-ltb}
use Rattle.std.proofs.lemmas.Str.{IsUtf8-drop, IsCharBoundary-after_ascii, chars-encodes}
use Rattle.clap.specs.Lexer.{long_of, short_of}
use Rattle.clap.specs.Walk.{Text}
use Rattle.mcf_words.specs.Items.{is_end, is_option}

-- the word begins with no dash, or is one dash
pub record IsPlainWord (word : Text) : Type 0 where
  pub not_end : is_end word ≡ false
  pub no_option : is_option word ≡ false
  pub no_long : long_of word ≡ None
  pub no_short : short_of word ≡ None

-- one dash, and then no other
pub record IsShortWord (word flags : Text) : Type 0 where
  pub not_end : is_end word ≡ false
  pub option : is_option word ≡ true
  pub no_long : long_of word ≡ None
  pub short : short_of word ≡ Some flags

plain_start : (x : ℕ) (xs : Text) → (x == 45) ≡ false → IsPlainWord (x ∷ xs)
plain_start x [] e = record { not_end = rw e refl; no_option = refl; no_long = rw e refl; no_short = rw e refl }
plain_start x (y ∷ ys) e = record { not_end = rw e refl; no_option = and_right (nat_lt 1 (length (x ∷ y ∷ ys))) (x == 45) e; no_long = rw e refl; no_short = rw e refl }

short_start : (x : ℕ) (xs : Text) → (x == 45) ≡ false → IsShortWord (45 ∷ x ∷ xs) (x ∷ xs)
short_start x xs e = record { not_end = rw e refl; option = and_from (nat_lt 1 (length (45 ∷ x ∷ xs))) true (lt-ltb 1 (length (45 ∷ x ∷ xs)) (omega arith)) refl; no_long = rw e refl; short = rw e refl }

module _ (P : Text → Type 0) (at_end : P (45 ∷ 45 ∷ [])) (at_long : (x : ℕ) (xs : Text) → P (45 ∷ 45 ∷ x ∷ xs))
    (at_short : (x : ℕ) (xs : Text) → (x == 45) ≡ false → IsShortWord (45 ∷ x ∷ xs) (x ∷ xs) → P (45 ∷ x ∷ xs)) (at_plain : (word : Text) → IsPlainWord word → P word) where
  two_dashes : (xs : Text) → P (45 ∷ 45 ∷ xs)
  two_dashes [] = at_end
  two_dashes (x ∷ xs) = at_long x xs

  second : (y : ℕ) (ys : Text) (b : Bool) → (y == 45) ≡ b → P (45 ∷ y ∷ ys)
  second y ys true e = subst (λ k. P (45 ∷ k ∷ ys)) (sym (eqb-true y 45 e)) (two_dashes ys)
  second y ys false e = at_short y ys e (short_start y ys e)

  one_dash : (xs : Text) → P (45 ∷ xs)
  one_dash [] = at_plain (45 ∷ []) (record { not_end = refl; no_option = refl; no_long = refl; no_short = refl })
  one_dash (y ∷ ys) = second y ys (y == 45) refl

  first : (x : ℕ) (xs : Text) (b : Bool) → (x == 45) ≡ b → P (x ∷ xs)
  first x xs true e = subst (λ k. P (k ∷ xs)) (sym (eqb-true x 45 e)) (one_dash xs)
  first x xs false e = at_plain (x ∷ xs) (plain_start x xs e)

  -- every word looks like one of these
  pub looked : (word : Text) → P word
  looked [] = at_plain [] (record { not_end = refl; no_option = refl; no_long = refl; no_short = refl })
  looked (x ∷ xs) = first x xs (x == 45) refl

-- text that is not empty has a first character
pub first_char : (x : ℕ) (xs : Text) → IsUtf8 (45 ∷ x ∷ xs) → (c : ℕ) × (slice_get (chars (x ∷ xs)) 0 ≡ Some c)
first_char x xs text = go rest.0 rest.1.0 rest.1.1
  where
    rest : IsUtf8 (x ∷ xs)
    rest = IsUtf8-drop (45 ∷ x ∷ xs) 1 text (IsCharBoundary-after_ascii (45 ∷ x ∷ xs) 0 text (omega arith) (omega arith))

    go : (cs : List ℕ) → all_scalars cs ≡ true → encode_utf8_all cs ≡ x ∷ xs → (c : ℕ) × (slice_get (chars (x ∷ xs)) 0 ≡ Some c)
    go [] good e = absurd (length_apart (ap length e))
      where
        length_apart : 0 ≡ length (x ∷ xs) → ⊥
        length_apart z = omega arith
    go (c ∷ cs) good e = (c, ap (λ t. slice_get (chars t) 0) (sym e) ∙ ap (λ t. slice_get t 0) (chars-encodes (c ∷ cs) good))
