-- Rows, by their place in the order and by the word with which they begin.
use Rattle.std.proofs.Common.{◌≡◌, ◌⊎◌, ℕ, zero, suc, ◌+◌, ◌<◌, Bool, true, false, cond, List, [], ◌∷◌, length, refl, sym, ap, ◌∙◌, inl, inr, arith}
use Rattle.std.specs.Prelude.{nat_eq}
use Rattle.std.proofs.lemmas.Bool.Decides.{nat_tests}
use Rattle.text_lines.specs.Lines.{Line}
use Rattle.cert_lines.specs.Forms.{begins}
use Rattle.cert_inverse.proofs.Words.{same_bytes}
use Rattle.cli_laws.specs.LineRoles.{RowRole, path, cell, node, layer, order, key_of}

-- ---- by place

row_at : ℕ → RowRole
row_at zero = path
row_at (suc zero) = cell
row_at (suc (suc zero)) = node
row_at (suc (suc (suc n))) = layer

is_at : (role : RowRole) → row_at (order role) ≡ role
unfolding row_at
is_at path = refl
is_at cell = refl
is_at node = refl
is_at layer = refl

pub order_one : (a b : RowRole) → order a ≡ order b → a ≡ b
order_one a b e = sym (is_at a) ∙ ap row_at e ∙ is_at b

pub up_to : (m n : ℕ) → m < n + 1 → (m < n) ⊎ (m ≡ n)
up_to m n h = by (nat_eq m n) refl
  where
    same : (x y : ℕ) → nat_eq x y ≡ true → x ≡ y
    same x y e = grind (arith, nat_tests)

    less : (x y : ℕ) → x < y + 1 → nat_eq x y ≡ false → x < y
    less x y le e = grind (arith, nat_tests)

    by : (b : Bool) → nat_eq m n ≡ b → (m < n) ⊎ (m ≡ n)
    by true e = inr (same m n e)
    by false e = inl (less m n h e)

-- ---- by word

row_sized : ℕ → RowRole
row_sized n = cond (nat_eq n 4) path (cond (nat_eq n 5) layer (cond (nat_eq n 6) cell node))

is_sized : (role : RowRole) → row_sized (length (key_of role)) ≡ role
unfolding row_sized
is_sized path = refl
is_sized cell = refl
is_sized node = refl
is_sized layer = refl

key_one : (a b : RowRole) → key_of a ≡ key_of b → a ≡ b
key_one a b e = sym (is_sized a) ∙ ap (λ (w : List ℕ). row_sized (length w)) e ∙ is_sized b

-- a line begins with the word of one row alone
pub begins_one : (a b : RowRole) (line : Line) → begins (key_of a) line ≡ true → begins (key_of b) line ≡ true → a ≡ b
begins_one a b [] h k = absurd cc
begins_one a b (word ∷ words) h k = key_one a b (sym (same_bytes word (key_of a) h) ∙ same_bytes word (key_of b) k)

-- and that word is longer than that of the end
pub key_long : (role : RowRole) → 3 < length (key_of role)
key_long path = omega arith
key_long cell = omega arith
key_long node = omega arith
key_long layer = omega arith
