use Rattle.std.proofs.Common.{◌≡◌, ℕ, zero, suc, ◌+◌, ◌*◌, ◌^◌, ◌<◌, ◌≤◌, arith, subst, inl, inr}
use Rattle.std.proofs.Math.Nat.{pow-succ'}
use Rattle.std.proofs.lemmas.Bool.{cases_lt, le-leb, lt-leb}
use Rattle.flow_model.specs.Powers.{root_bits}
use Rattle.fixed_exp.proofs.laws.whole_root_is_greatest.Goals as goal

-- the square of the number is not above n, and that of the next is
IsRoot : ℕ → ℕ → Type 0
IsRoot n r = (r * r ≤ n) × (n < (r + 1) * (r + 1))

doubled : (low bit : ℕ) → low + 2 ^ suc bit ≡ low + 2 ^ bit + 2 ^ bit
doubled low bit = omega (arith, pow-succ' 2 bit)

root : (bit n low : ℕ) → low * low ≤ n → n < (low + 2 ^ bit) * (low + 2 ^ bit) → IsRoot n (root_bits bit n low)
unfolding root_bits IsRoot
root zero n low p q = (p, q)
root (suc bit) n low p q = elim (cases_lt n ((low + 2 ^ bit) * (low + 2 ^ bit))) [
  | inl h ↦ rw (lt-leb ((low + 2 ^ bit) * (low + 2 ^ bit)) n h) (root bit n low p h)
  | inr h ↦ rw (le-leb ((low + 2 ^ bit) * (low + 2 ^ bit)) n h) (root bit n (low + 2 ^ bit) h (subst (λ (x : ℕ). n < x * x) (doubled low bit) q))
]

pub returns : goal.returns
unfolding IsRoot
returns c = λ n l. root 32 n 0 (omega arith) l
