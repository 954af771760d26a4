-- From the solves by number to the solves of all matrices.
use Rattle.std.proofs.Common.{◌≡◌, ℕ, zero, suc, ◌<◌, List, [], ◌∷◌, length, get_or, map, Some, Bor, refl, sym, ap, subst, ◌∙◌, arith}
use Rattle.std.specs.Prelude.{slice_get}
use Rattle.std.specs.List.{AllByRecursion}
use Rattle.std.proofs.lemmas.Option.{slice_get-get_or}
use Rattle.flow_model.specs.Network.{Network}
use Rattle.solver_run.specs.declared.options.SolveOptions.{SolveOptions}
use Rattle.solver_run.specs.History.{SolvedView}
use Rattle.solver_run.specs.Options.{AreOptions}
use Rattle.solver_run.specs.Headline.{IsSolved}
use Rattle.matrix_batch.specs.Matrices.{Matrix}
use Rattle.std.proofs.lemmas.List.{length-map}
use Rattle.batch_cmd.specs.Asked.{AreSolvable}
use Rattle.batch_cmd.specs.Solves.{AreSolved}
use Rattle.batch_cmd.specs.Numbered.{IsSolvable, IsSolvedAt}

-- the item at that place
pub place_is : {X : Type 0} (xs : List X) (i : ℕ) (x y : X) → i < length xs → x ≡ get_or xs i x → slice_get xs i ≡ Some y → x ≡ y
place_is xs i x y lt at e = (let same : Some x ≡ Some y = ap (λ z. Some z) at ∙ (sym (slice_get-get_or xs i x lt) ∙ e) in cc)

-- the networks of the matrices can be solved
pub options_at : (o : SolveOptions) (batch : List Matrix) (nets : List (Bor Network)) (i : ℕ) (net : Bor Network)
    → map (λ (n : Bor Network). n.now) nets ≡ map (λ (m : Matrix). m.net.net) batch → AllByRecursion (λ (m : Matrix). AreOptions m.net.net o) batch → slice_get nets i ≡ Some net → AreOptions net.now o
options_at o batch [] i net same h at = absurd cc
options_at o [] (n ∷ ns) i net same h at = absurd cc
options_at o (m ∷ ms) (n ∷ ns) zero net same h at =
    let here : n ≡ net = cc in
    let first : m.net.net ≡ n.now = cc in
    subst (λ (x : Network). AreOptions x o) (first ∙ ap (λ (b : Bor Network). b.now) here) h.0
options_at o (m ∷ ms) (n ∷ ns) (suc i) net same h at = (let rest : map (λ (n : Bor Network). n.now) ns ≡ map (λ (m : Matrix). m.net.net) ms = cc in options_at o ms ns i net rest h.1 at)

-- there are as many networks as matrices
pub same_count : (batch : List Matrix) (nets : List (Bor Network)) → map (λ (n : Bor Network). n.now) nets ≡ map (λ (m : Matrix). m.net.net) batch → length nets ≡ length batch
same_count batch nets same = omega (arith, length-map nets (λ (n : Bor Network). n.now), length-map batch (λ (m : Matrix). m.net.net), ap (length {A = Network}) same)

-- each network can be solved
pub solvable_at : (o : SolveOptions) (batch : List Matrix) (nets : List (Bor Network)) → map (λ (n : Bor Network). n.now) nets ≡ map (λ (m : Matrix). m.net.net) batch → AreSolvable batch o
    → (i : ℕ) → i < length nets → IsSolvable nets o i
solvable_at o batch nets same can i lt = record { few = lt; options = λ net at. options_at o batch nets i net same can.each at }

-- the network of that number, with its options
pub options_of_one : (nets : List (Bor Network)) (o : SolveOptions) (i : ℕ) (net : Bor Network) → IsSolvable nets o i → net ≡ get_or nets i net → AreOptions net.now o
options_of_one nets o i net h at = h.options net (slice_get-get_or nets i net h.few ∙ ap (λ z. Some z) (sym at))

-- its solve
pub solved_by : (nets : List (Bor Network)) (o : SolveOptions) (i : ℕ) (net : Bor Network) (s : SolvedView) → i < length nets → net ≡ get_or nets i net → IsSolved net.now o s → IsSolvedAt nets o i s
solved_by nets o i net s lt at h = record { value = λ other e. subst (λ (n : Bor Network). IsSolved n.now o s) (place_is nets i net other lt at e) h }

-- the solves of all matrices
pub all_solved : (o : SolveOptions) (batch : List Matrix) (nets : List (Bor Network)) (many : List SolvedView)
    → map (λ (n : Bor Network). n.now) nets ≡ map (λ (m : Matrix). m.net.net) batch → length many ≡ length nets
    → ((i : ℕ) (d : SolvedView) → i < length nets → IsSolvedAt nets o i (get_or many i d)) → AreSolved o batch many
all_solved o [] [] [] same count h = tt
all_solved o [] [] (s ∷ ss) same count h = absurd (omega arith)
all_solved o [] (n ∷ ns) many same count h = absurd cc
all_solved o (m ∷ ms) [] many same count h = absurd cc
all_solved o (m ∷ ms) (n ∷ ns) [] same count h = absurd (omega arith)
all_solved o (m ∷ ms) (n ∷ ns) (s ∷ ss) same count h =
    let first : n.now ≡ m.net.net = cc in
    let rest : map (λ (n : Bor Network). n.now) ns ≡ map (λ (m : Matrix). m.net.net) ms = cc in
    (subst (λ (x : Network). IsSolved x o s) first ((h 0 s (omega arith)).value n refl), all_solved o ms ns ss rest (omega arith) (λ i d lt. record { value = (h (suc i) d (omega arith)).value }))
