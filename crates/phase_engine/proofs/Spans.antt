-- The routes of a buffer: they stay while it gets wider and while free cells are written, and one more is put before them.
use Rattle.std.proofs.Common.{◌≡◌, ℕ, ◌+◌, ◌-◌, ◌≤◌, List, [], ◌∷◌, ◌++◌, length, take, drop, ap, sym, subst, ◌∙◌, arith, refl, length-append}
use Rattle.std.specs.Prelude.{All, map}
use Rattle.std.proofs.Math.Seq.{drop-append-add}
use Rattle.std.proofs.lemmas.List.{map_push, drop-drop, drop_at, take-append-le, take_all}
use Rattle.std.proofs.lemmas.List.Elements.{All-head, All-tail, All-push}
use Rattle.phase_engine.specs.declared.route_buffer.Span.{Span}
use Rattle.phase_engine.specs.Routes.{route_of, AreSpans}

-- what stands at most so far from the end is the same
abbrev AreSameBack : List ℕ → List ℕ → ℕ → Type 0
AreSameBack cells cells' room = (b : ℕ) → b ≤ room → drop (length cells' - b) cells' ≡ drop (length cells - b) cells

abbrev IsBehind : ℕ → List ℕ → Span → Type 0
IsBehind free cells s = (s.len ≤ s.back) × (free + s.back ≤ length cells)

routes-kept : (cells cells' : List ℕ) (free : ℕ) (spans : List Span) → free ≤ length cells → AreSameBack cells cells' (length cells - free) → All (IsBehind free cells) spans
    → map (route_of cells') spans ≡ map (route_of cells) spans
routes-kept cells cells' free [] within same places = refl
routes-kept cells cells' free (s ∷ spans) within same places =
    let behind = All-head (IsBehind free cells) s spans places in
    let first = same s.back (omega (arith, behind.1)) in
    let rest = routes-kept cells cells' free spans within same (All-tail (IsBehind free cells) s spans places) in
    rw (first, rest) refl

-- cells before all others
wider-back : (more cells : List ℕ) (room : ℕ) → room ≤ length cells → AreSameBack cells (more ++ cells) room
wider-back more cells room l = λ b within.
    let long = length-append more cells in
    let e : length (more ++ cells) - b ≡ length more + (length cells - b) = omega (arith, long) in
    rw e (drop-append-add more cells (length cells - b))

pub routes-wider : (more cells cells' : List ℕ) (free : ℕ) (spans : List Span) → AreSpans cells free spans → cells' ≡ more ++ cells → map (route_of cells') spans ≡ map (route_of cells) spans
routes-wider more cells cells' free spans a is =
    ap (λ (xs : List ℕ). map (route_of xs) spans) is ∙ routes-kept cells (more ++ cells) free spans a.within (wider-back more cells (length cells - free) (omega arith)) a.places

-- cells that were appended, and brought to the front
pub rotated : (cells blank xs ys : List ℕ) (n k : ℕ) → xs ≡ cells ++ blank → length blank ≡ k → n ≡ length xs → ys ≡ drop (n - k) xs ++ take (n - k) xs → ys ≡ blank ++ cells
rotated cells blank xs ys n k x b l y =
    let long : length xs ≡ length cells + length blank = ap length x ∙ length-append cells blank in
    let at : n - k ≡ length cells = omega (arith, long, b, l) in
    y ∙ rw (at, x) (λ i. drop_at cells blank (length cells) refl i ++ (take-append-le (length cells) cells blank (omega arith) ∙ take_all (length cells) cells (omega arith)) i)

-- what stands behind the free cells is the same
written-back : (cells cells' : List ℕ) (free : ℕ) → free ≤ length cells → length cells' ≡ length cells → drop free cells' ≡ drop free cells → AreSameBack cells cells' (length cells - free)
written-back cells cells' free l long same = λ b within.
    let at : length cells - b ≡ free + (length cells - b - free) = omega arith in
    let moved : (xs : List ℕ) → drop (free + (length cells - b - free)) xs ≡ drop (length cells - b - free) (drop free xs) = λ xs. sym (drop-drop (length cells - b - free) free xs) in
    rw (long, at) (moved cells' ∙ (ap (drop (length cells - b - free)) same ∙ sym (moved cells)))

abbrev pub span : ℕ → ℕ → ℕ → Span
span k back len = record { commodity = k; back = back; len = len }

pub routes-push : (cells cells' path : List ℕ) (spans spans' : List Span) (k free start : ℕ) → AreSpans cells free spans → length cells' ≡ length cells → drop free cells' ≡ drop free cells
    → start ≤ free → take (free - start) (drop start cells') ≡ path → spans' ≡ spans ++ span k (length cells' - start) (free - start) ∷ []
    → map (route_of cells') spans' ≡ map (route_of cells) spans ++ record { commodity = k; path = path } ∷ []
routes-push cells cells' path spans spans' k free start a long same s is e =
    let within = a.within in
    let at : length cells' - (length cells' - start) ≡ start = omega (arith, long) in
    let last : route_of cells' (span k (length cells' - start) (free - start)) ≡ record { commodity = k; path = path } =
    rw at (ap (λ (p : List ℕ). record { commodity = k; path = p }) is) in
    rw e (map_push (route_of cells') spans (span k (length cells' - start) (free - start))
    ∙ (λ i. routes-kept cells cells' free spans within (written-back cells cells' free within long same) a.places i ++ last i ∷ []))

pub spans-push : (cells cells' : List ℕ) (spans spans' : List Span) (k free start : ℕ) → AreSpans cells free spans → length cells' ≡ length cells
    → start ≤ free → spans' ≡ spans ++ span k (length cells' - start) (free - start) ∷ [] → AreSpans cells' start spans'
spans-push cells cells' spans spans' k free start a long s e =
    let within = a.within in
    let old : All (IsBehind start cells') spans = λ j d l. let p = a.places j d l in (p.0, omega (arith, long, p.1)) in
    record {
      within = omega (arith, long);
      places = subst (All (IsBehind start cells')) (sym e) (All-push (IsBehind start cells') spans (span k (length cells' - start) (free - start)) old (omega arith, omega (arith, long)));
    }
