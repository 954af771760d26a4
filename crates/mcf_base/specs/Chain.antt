-- What a part of the chain is given.
use Rattle.std.specs.Prelude.{ℕ, ◌+◌, ◌^◌, ◌<◌, List, length}
use Rattle.std.specs.Fork.Halves.{AllChunks}

-- xs has some elements, P holds of each chunk of size many and its place, and the places fit in a `usize` from base
pub record AreAccepted {X : Type 0} (P : ℕ → List X → Type 0) (base size : ℕ) (xs : List X) : Type 0 where
  pub some : 0 < length xs
  pub some_size : 0 < size
  pub room : base + length xs < 2 ^ 64
  pub each : AllChunks P base size xs
