-- The cells of a closed link get their capacities back.
use Rattle.std.proofs.Common.{◌≡◌, ◌≢◌, ℕ, ◌+◌, ◌*◌, ◌/◌, ◌<◌, ◌≤◌, List, length, get_or, set, ext_get_or, length-set, get_or-set_same, get_or-set_other, ap, sym, ◌∙◌, arith, inl, inr}
use Rattle.std.proofs.lemmas.Bool.{cases_eq}
use Rattle.unit_scale.specs.declared.modes.LinkMode.{LinkMode}
use Rattle.unit_scale.specs.declared.modes.LinkMode.TheVariants.{Directed, Undirected, Bidirected}
use Rattle.unit_scale.specs.Names.{cells_of, name_of}
use Rattle.unit_scale.specs.Closed.{with_link}
use Rattle.unit_scale.proofs.LinkCaps.{set_of_other, with_link_length}
use Rattle.whatif.specs.Planned.{Planned, with_cap}

-- ---- the cells of a link

pub some_cells : (mode : LinkMode) (link : ℕ) → cells_of mode link < cells_of mode (link + 1)
some_cells Directed link = omega arith
some_cells Undirected link = omega arith
some_cells Bidirected link = omega arith

-- the cells of a link are among those of more links
pub cells_within : (mode : LinkMode) (link links n : ℕ) → link < links → cells_of mode links ≤ n → cells_of mode (link + 1) ≤ n
cells_within Directed link links n lt le = omega arith
cells_within Undirected link links n lt le = omega arith
cells_within Bidirected link links n lt le = omega arith

-- a link has a first and a last cell, and no other
elsewhere : (mode : LinkMode) (link first last i : ℕ) → first ≡ cells_of mode link → last + 1 ≡ cells_of mode (link + 1) → i ≢ first → i ≢ last → (name_of mode i).link ≢ link
elsewhere Directed link first last i f l ne ne' e = ne (omega arith)
elsewhere Undirected link first last i f l ne ne' e = ne (omega arith)
elsewhere Bidirected link first last i f l ne ne' e = never i link (λ s. ne (omega arith)) (λ s. ne' (omega arith)) e
  where
    never : (i link : ℕ) → i ≢ 2 * link → i ≢ 2 * link + 1 → i / 2 ≢ link
    never i link s t = grind arith

-- ---- the capacities

pub put_back : (mode : LinkMode) (caps : List ℕ) (link first last u v : ℕ) → first ≡ cells_of mode link → last + 1 ≡ cells_of mode (link + 1) → cells_of mode (link + 1) ≤ length caps
    → u ≡ get_or caps first 0 → v ≡ get_or caps last 0 → set (set (with_link mode caps link 0) first u) last v ≡ caps
put_back mode caps link first last u v f l within is_u is_v =
    let shut : List ℕ = with_link mode caps link 0 in
    let one : List ℕ = set shut first u in
    let some = some_cells mode link in
    let count : length shut ≡ length caps = with_link_length mode caps link 0 in
    let count' : length one ≡ length shut = length-set shut first u in
    ext_get_or 0 (set one last v) caps (omega (arith, length-set one last v)) (λ i lt.
    let h : i < length caps = omega (arith, lt, length-set one last v) in
    elim (cases_eq i last) as (λ _. get_or (set one last v) i 0 ≡ get_or caps i 0) [
      | inl e ↦ ap (λ k. get_or (set one last v) k 0) e ∙ get_or-set_same one last v 0 (omega arith) ∙ is_v ∙ ap (λ k. get_or caps k 0) (sym e)
      | inr e ↦ get_or-set_other one last i v 0 e ∙ (elim (cases_eq i first) as (λ _. get_or one i 0 ≡ get_or caps i 0) [
        | inl s ↦ ap (λ k. get_or one k 0) s ∙ get_or-set_same shut first u 0 (omega arith) ∙ is_u ∙ ap (λ k. get_or caps k 0) (sym s)
        | inr s ↦ get_or-set_other shut first i u 0 s ∙ set_of_other mode caps link 0 i h (elsewhere mode link first last i f l s e)
      ])
    ])

-- ---- the plan

pub plan_back : (mode : LinkMode) (p shut one two : Planned) (link first last u v : ℕ) → first ≡ cells_of mode link → last + 1 ≡ cells_of mode (link + 1) → cells_of mode (link + 1) ≤ length p.caps
    → u ≡ get_or p.caps first 0 → v ≡ get_or p.caps last 0 → shut ≡ record p { caps = with_link mode p.caps link 0 } → one ≡ with_cap shut first u → two ≡ with_cap one last v → two ≡ p
plan_back mode p shut one two link first last u v f l within is_u is_v s o t =
    t ∙ (ap (λ (q : Planned). with_cap q last v) o ∙ (ap (λ (q : Planned). with_cap (with_cap q first u) last v) s ∙ ap (λ (k : List ℕ). record p { caps = k }) (put_back mode p.caps link first last u v f l within is_u is_v)))
