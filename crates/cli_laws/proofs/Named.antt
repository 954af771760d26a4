-- The files of a command, one by one, are those that the words name.
use Rattle.std.proofs.Common.{◌≡◌, ◌≤◌, ℕ, List, [], ◌∷◌, length, refl, arith}
use Rattle.std.specs.Prelude.{option_to_list, slice_get, slice_index_or}
use Rattle.mcf_words.specs.declared.request.Command.{Command}
use Rattle.mcf_words.specs.declared.request.Command.TheVariants.{Solve, Check, WhatIf, Upgrade, Tighten, Batch, Sweep, SweepSolve, CheckHops, CheckThroughput, Hops, Throughput, Print, Gen, Trial}
use Rattle.mcf_words.specs.declared.request.Request.{Request}
use Rattle.mcf_words.specs.Request.{IsFileCount}
use Rattle.mcf_cli.specs.Run.{file_at, file_if}

-- the files that a command reads, in their order
abbrev pub files_of : Command → Request → List (List ℕ)
files_of Solve request = file_at request 0 ∷ []
files_of Print request = file_at request 0 ∷ []
files_of Check request = file_at request 0 ∷ file_at request 1 ∷ []
files_of Upgrade request = file_at request 0 ∷ file_at request 1 ∷ []
files_of Tighten request = file_at request 0 ∷ file_at request 1 ∷ option_to_list (file_if request 2)
files_of Batch request = file_at request 0 ∷ file_at request 1 ∷ []
files_of Sweep request = file_at request 0 ∷ file_at request 1 ∷ []
files_of SweepSolve request = file_at request 0 ∷ []
files_of Hops request = file_at request 0 ∷ []
files_of Throughput request = file_at request 0 ∷ []
files_of CheckHops request = file_at request 0 ∷ file_at request 1 ∷ []
files_of CheckThroughput request = file_at request 0 ∷ file_at request 1 ∷ []
files_of WhatIf request = file_at request 0 ∷ file_at request 1 ∷ file_at request 2 ∷ []
files_of Gen request = []
files_of Trial request = []

-- ---- the places of so many names are the names

none_named : (names : List (List ℕ)) → length names ≡ 0 → [] ≡ names
none_named [] e = refl
none_named (x ∷ more) e = absurd (omega arith)

one_named : (names : List (List ℕ)) → length names ≡ 1 → slice_index_or names 0 [] ∷ [] ≡ names
one_named [] e = absurd (omega arith)
one_named (x ∷ []) e = refl
one_named (x ∷ y ∷ more) e = absurd (omega arith)

two_named : (names : List (List ℕ)) → length names ≡ 2 → slice_index_or names 0 [] ∷ slice_index_or names 1 [] ∷ [] ≡ names
two_named [] e = absurd (omega arith)
two_named (x ∷ []) e = absurd (omega arith)
two_named (x ∷ y ∷ []) e = refl
two_named (x ∷ y ∷ z ∷ more) e = absurd (omega arith)

three_named : (names : List (List ℕ)) → length names ≡ 3 → slice_index_or names 0 [] ∷ slice_index_or names 1 [] ∷ slice_index_or names 2 [] ∷ [] ≡ names
three_named [] e = absurd (omega arith)
three_named (x ∷ []) e = absurd (omega arith)
three_named (x ∷ y ∷ []) e = absurd (omega arith)
three_named (x ∷ y ∷ z ∷ []) e = refl
three_named (x ∷ y ∷ z ∷ u ∷ more) e = absurd (omega arith)

-- two or three names
some_named : (names : List (List ℕ)) → 2 ≤ length names → length names ≤ 3
    → slice_index_or names 0 [] ∷ slice_index_or names 1 [] ∷ option_to_list (slice_get names 2) ≡ names
some_named [] few most = absurd (omega arith)
some_named (x ∷ []) few most = absurd (omega arith)
some_named (x ∷ y ∷ []) few most = refl
some_named (x ∷ y ∷ z ∷ []) few most = refl
some_named (x ∷ y ∷ z ∷ u ∷ more) few most = absurd (omega arith)

just : (n m : ℕ) → m ≤ n → n ≤ m → n ≡ m
just n m least most = omega arith

pub names_are : (command : Command) (request : Request) → IsFileCount command (length request.names) → files_of command request ≡ request.names
names_are Solve request is = one_named request.names (just (length request.names) 1 is.least is.most)
names_are Print request is = one_named request.names (just (length request.names) 1 is.least is.most)
names_are Check request is = two_named request.names (just (length request.names) 2 is.least is.most)
names_are Upgrade request is = two_named request.names (just (length request.names) 2 is.least is.most)
names_are Tighten request is = some_named request.names is.least is.most
names_are Batch request is = two_named request.names (just (length request.names) 2 is.least is.most)
names_are Sweep request is = two_named request.names (just (length request.names) 2 is.least is.most)
names_are SweepSolve request is = one_named request.names (just (length request.names) 1 is.least is.most)
names_are Hops request is = one_named request.names (just (length request.names) 1 is.least is.most)
names_are Throughput request is = one_named request.names (just (length request.names) 1 is.least is.most)
names_are CheckHops request is = two_named request.names (just (length request.names) 2 is.least is.most)
names_are CheckThroughput request is = two_named request.names (just (length request.names) 2 is.least is.most)
names_are WhatIf request is = three_named request.names (just (length request.names) 3 is.least is.most)
names_are Gen request is = none_named request.names (just (length request.names) 0 is.least is.most)
names_are Trial request is = none_named request.names (just (length request.names) 0 is.least is.most)
