-- The chunks of a list: the first one, and those of the rest.
use Rattle.std.proofs.Common.{◌≡◌, ℕ, ◌+◌, ◌*◌, ◌/◌, ◌%◌, ◌<◌, ◌≤◌, zero, suc, List, ◌++◌, length, take, drop, get_or, refl, sym, subst, ap, ◌∙◌, arith, zero-mul}
use native.Mathlib.Nat.{suc-mul, mul-le-mul_right}
use mathlib.Core.Logic.{⊎_elim}
use Rattle.std.proofs.lemmas.Bool.{cases_lt}
use denote.Ref.{MutBor}
use denote.Param.Members.{Shared}
use Rattle.std.proofs.lemmas.List.{take_all, take-append-le, drop-drop, drop_at, length-drop, length-take, length-append, get_or-take, get_or-drop}
use Rattle.std.proofs.lemmas.Nat.{div-add-mod', mod-mul-add, mod_below}
use Rattle.std.specs.Fork.{slice_chunk, IsChunk, ChangesAt, ChangesChunks, IsInChunk}
use Rattle.std.specs.Fork.Halves.{AllChunks, ChangesByChunks}
use Rattle.mcf_base.specs.Chain.{AreAccepted}

-- a list of one chunk is that chunk
only : {X : Type 0} (size : ℕ) (xs : List X) → length xs ≤ size → slice_chunk xs size 0 ≡ xs
only size xs l = ap (λ k. take size (drop k xs)) (zero-mul size) ∙ take_all size xs l

-- the list in front is the first chunk
front : {X : Type 0} (size : ℕ) (xs ys : List X) → length xs ≡ size → slice_chunk (xs ++ ys) size 0 ≡ xs
front size xs ys e =
    ap (λ k. take size (drop k (xs ++ ys))) (zero-mul size) ∙ (take-append-le size xs ys (omega arith) ∙ take_all size xs (omega arith))

-- each other chunk is one of the rest
back : {X : Type 0} (size n : ℕ) (xs ys : List X) → length xs ≡ size → slice_chunk (xs ++ ys) size (suc n) ≡ slice_chunk ys size n
back size n xs ys e =
    let start : suc n * size ≡ size + n * size = omega (arith, suc-mul n size) in
    ap (λ k. take size (drop k (xs ++ ys))) start ∙ ap (take size) (sym (drop-drop (n * size) size (xs ++ ys)) ∙ ap (drop (n * size)) (drop_at xs ys size e))

moved : {X : Type 0} (R : ℕ → X → X → Type 0) {i j : ℕ} {x x' y y' : X} → i ≡ j → x ≡ x' → y ≡ y' → R i x y → R j x' y'
moved R {i} {j} {x} {x'} {y} {y'} a b c r = subst (λ k. R k x' y') a (subst (λ u. R i u y') b (subst (R i x) c r))

module _ {X : Type 0} (P : ℕ → List X → Type 0) (base size : ℕ) where
  at_only : (xs : List X) → length xs ≤ size → AllChunks P base size xs → 0 < length xs → P base xs
  at_only xs l k some =
      let start : base + 0 * size ≡ base = omega (arith, zero-mul size) in
      subst (λ b. P b xs) start (subst (P (base + 0 * size)) (only size xs l) (k 0 (omega (arith, zero-mul size))))

  -- what is asked of the first chunk and of the rest
  pub of_only : (xs : List X) → length xs ≤ size → AreAccepted P base size xs → P base xs
  of_only xs l are = at_only xs l are.each are.some

  pub of_front : (all xs ys : List X) → all ≡ xs ++ ys → length xs ≡ size → AreAccepted P base size all → P base xs
  of_front all xs ys e l are =
      let start : base + 0 * size ≡ base = omega (arith, zero-mul size) in
      let first : slice_chunk all size 0 ≡ xs = ap (λ zs. slice_chunk zs size 0) e ∙ front size xs ys l in
      subst (λ b. P b xs) start (subst (P (base + 0 * size)) first (are.each 0 (omega (arith, zero-mul size, are.some))))

  pub of_back : (all xs ys : List X) → all ≡ xs ++ ys → length xs ≡ size → size < length all → AreAccepted P base size all → AreAccepted P (base + size) size ys
  of_back all xs ys e l more are =
      let sum : length all ≡ size + length ys = omega (arith, ap length e, length-append xs ys) in
      record {
        some = omega arith;
        some_size = are.some_size;
        room = omega (arith, are.room);
        each = λ n u.
            let start : base + suc n * size ≡ base + size + n * size = omega (arith, suc-mul n size) in
            let is : slice_chunk all size (suc n) ≡ slice_chunk ys size n = ap (λ zs. slice_chunk zs size (suc n)) e ∙ back size n xs ys l in
            subst (λ b. P b (slice_chunk ys size n)) start (subst (P (base + suc n * size)) is (are.each (suc n) (omega (arith, suc-mul n size))));
      }

module _ {X : Type 0} (R : ℕ → List X → List X → Type 0) (base size : ℕ) where
  -- what the one call did, it did to each chunk
  pub by_only : (xs ys : List X) → 0 < length xs → length xs ≤ size → length ys ≡ length xs → R base xs ys → ChangesByChunks R base size xs ys
  by_only xs ys some l e r = record { len = e; each = each } where
    each : (n : ℕ) → n * size < length xs → R (base + n * size) (slice_chunk xs size n) (slice_chunk ys size n)
    each zero u = moved R (omega (arith, zero-mul size)) (sym (only size xs l)) (sym (only size ys (omega arith))) r
    each (suc n) u = absurd (omega (arith, suc-mul n size))

  -- what the calls on the first chunk and on the rest did, they did to each chunk
  pub by_both : (all xs ys xs' ys' : List X) → all ≡ xs ++ ys → length xs ≡ size → length xs' ≡ length xs → 0 < size → R base xs xs' → ChangesByChunks R (base + size) size ys ys' → ChangesByChunks R base size all (xs' ++ ys')
  by_both all xs ys xs' ys' e l l' some first rest = record { len = omega (arith, ap length e, length-append xs ys, length-append xs' ys', rest.len); each = each } where
    each : (n : ℕ) → n * size < length all → R (base + n * size) (slice_chunk all size n) (slice_chunk (xs' ++ ys') size n)
    each zero u = moved R (omega (arith, zero-mul size)) (sym (ap (λ zs. slice_chunk zs size 0) e ∙ front size xs ys l)) (sym (front size xs' ys' (l' ∙ l))) first
    each (suc n) u =
        moved R (omega (arith, suc-mul n size)) (sym (ap (λ zs. slice_chunk zs size (suc n)) e ∙ back size n xs ys l)) (sym (back size n xs' ys' (l' ∙ l)))
        (rest.each n (omega (arith, ap length e, length-append xs ys, suc-mul n size)))

fewer : (n q size : ℕ) → n * size < q * size → n < q
fewer n q size l = ⊎_elim (λ a. a) (λ b. omega (arith, mul-le-mul_right size b)) (cases_lt n q)

ends_below : (n q size : ℕ) → n < q → n * size + size ≤ q * size
ends_below n q size l = let up : suc n ≤ q = omega arith in omega (arith, mul-le-mul_right size up, suc-mul n size)

-- a chunk by its number
pub is_chunk : {X : Type 0} (xs : List X) (size n : ℕ) → 0 < size → n * size < length xs → IsChunk xs size (n * size) (slice_chunk xs size n)
is_chunk xs size n some inside =
    let taken = length-take size (drop (n * size) xs) in let left = length-drop (n * size) xs in
    record {
      value = refl;
      start_is_multiple = subst (λ k. k % size ≡ 0) {x = n * size + 0} (omega arith) (mod-mul-add n size 0 some);
      len = omega arith;
      full_size = λ z. let q = length xs / size in let whole : q * size ≡ length xs = omega (arith, div-add-mod' (length xs) size) in omega (arith, ends_below n q size (fewer n q size (omega arith)));
      nonempty = omega arith;
      at_most_size = omega arith;
      in_bounds = omega arith;
      elements = λ k d h. get_or-take size (drop (n * size) xs) k d (omega arith) ∙ get_or-drop (n * size) xs k d;
    }

pub by_number : {F X : Type 0} (g : Shared F (ℕ × (MutBor (List X) × Unit {0})) (Unit {0} × (MutBor (List X) × Unit {0}))) (f : F) (size : ℕ) (xs ys : List X) → ChangesByChunks (ChangesAt g f) 0 size xs ys → ChangesChunks g f size xs ys
by_number g f size xs ys changes n inside =
    subst (λ k. ChangesAt g f k (slice_chunk xs size n) (slice_chunk ys size n)) {x = 0 + n * size} (omega arith) (changes.each n inside)

-- the chunk in which a place lies
pub in_chunk : {F X : Type 0} (g : Shared F (ℕ × (MutBor (List X) × Unit {0})) (Unit {0} × (MutBor (List X) × Unit {0}))) (f : F) (size : ℕ) (xs ys : List X) → 0 < size → ChangesChunks g f size xs ys → (i : ℕ) (d : X) → i < length xs → IsInChunk g f size xs ys i d
in_chunk g f size xs ys some changes i d l =
    let n = i / size in let o = i % size in
    let adds : n * size + o ≡ i = div-add-mod' i size in
    let low : o < size = mod_below i size some in
    let inside : n * size < length xs = omega arith in
    let it = changes n inside in
    let taken = length-take size (drop (n * size) xs) in let left = length-drop (n * size) xs in
    let read : (zs : List _) → get_or (slice_chunk zs size n) o d ≡ get_or zs i d = λ zs. get_or-take size (drop (n * size) zs) o d low ∙ (get_or-drop (n * size) zs o d ∙ ap (λ j. get_or zs j d) adds) in
    record {
      start = n * size;
      offset = o;
      start_plus_offset = adds;
      argument = it.argument;
      argument_is = subst (IsChunk xs size (n * size)) (sym it.argument_is) (is_chunk xs size n some inside);
      offset_in_chunk = omega (arith, ap length it.argument_is);
      old_element = ap (λ zs. get_or zs o d) it.argument_is ∙ read xs;
      after_call = it.after_call;
      call = it.call;
      new_element = ap (λ zs. get_or zs o d) it.left ∙ read ys;
    }
