-- The words that a seed gives, one after the other.
use Rattle.std.specs.Prelude.{ℕ, ◌%◌}
use Rattle.rand_core.specs.Pcg32Seed.{pcg32_seed}
use Rattle.rand_pcg.specs.Lcg.{Lcg, advance}
use Rattle.rand_pcg.specs.Pcg.{multiplier_128, pcg64, pcg64_of_seed}

-- the generator of a seed
unfoldable pub generator_of : ℕ → Lcg
generator_of seed = pcg64_of_seed (pcg32_seed 32 seed)

-- the generator behind its next k words
unfoldable pub past : ℕ → Lcg → Lcg
past k g = advance 128 multiplier_128 k g

-- the word behind the next k words
unfoldable pub drawn : Lcg → ℕ → ℕ
drawn g k = (pcg64 (past k g)).0

-- the same as a number below n
abbrev pub drawn_below : Lcg → ℕ → ℕ → ℕ
drawn_below g k n = drawn g k % n
