-- How many files a command reads.
use Rattle.std.proofs.Common.{◌≡◌, ◌≤◌, ℕ, true, refl, arith, le-leb}
use Rattle.std.specs.Prelude.{nat_le}
use Rattle.std.proofs.lemmas.Bool.{and_from, and_parts, leb-true}
use Rattle.mcf_words.specs.declared.request.Command.{Command}
use Rattle.mcf_words.specs.declared.request.Command.TheVariants.{Solve, Check, WhatIf, Upgrade, Tighten, Batch, Sweep, SweepSolve, CheckHops, CheckThroughput, Hops, Throughput, Print, Gen, Trial}
use Rattle.mcf_words.specs.Request.{IsFileCount, least_files, most_files, reads_files}

pub counted : (command : Command) (n : ℕ) → reads_files command n ≡ true → IsFileCount command n
counted command n e =
    let tests = and_parts (nat_le (least_files command) n) (nat_le n (most_files command)) e in
    record { least = leb-true (least_files command) n tests.0; most = leb-true n (most_files command) tests.1 }

pub counts : (command : Command) (n : ℕ) → IsFileCount command n → reads_files command n ≡ true
counts command n is =
    and_from (nat_le (least_files command) n) (nat_le n (most_files command)) (le-leb (least_files command) n is.least) (le-leb n (most_files command) is.most)

-- a command that reads no file at least reads none
pub none_at_most : (command : Command) → least_files command ≡ 0 → most_files command ≡ 0
none_at_most Solve e = absurd cc
none_at_most Check e = absurd cc
none_at_most WhatIf e = absurd cc
none_at_most Upgrade e = absurd cc
none_at_most Tighten e = absurd cc
none_at_most Batch e = absurd cc
none_at_most Sweep e = absurd cc
none_at_most SweepSolve e = absurd cc
none_at_most CheckHops e = absurd cc
none_at_most CheckThroughput e = absurd cc
none_at_most Hops e = absurd cc
none_at_most Throughput e = absurd cc
none_at_most Print e = absurd cc
none_at_most Gen e = refl
none_at_most Trial e = refl

-- so no name is named
pub no_file_counted : (command : Command) (n : ℕ) → least_files command ≡ 0 → IsFileCount command n → n ≡ 0
no_file_counted command n none is = from (most_files command) (none_at_most command none) is.most
  where
    from : (most : ℕ) → most ≡ 0 → n ≤ most → n ≡ 0
    from most e le = omega arith

-- no name is as many as such a command reads
pub none_counted : (command : Command) → least_files command ≡ 0 → IsFileCount command 0
none_counted command none = record { least = from (least_files command) none; most = omega arith }
  where
    from : (least : ℕ) → least ≡ 0 → least ≤ 0
    from least e = omega arith
