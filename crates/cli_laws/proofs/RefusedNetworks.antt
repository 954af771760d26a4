-- A network with a link: a command of a script can go on.
use Rattle.std.proofs.Common.{◌≡◌, ℕ, ◌<◌, ◌≤◌, List, [], ◌∷◌, length, get_or, Bool, cond, Option, Some, None, refl, ap, arith, inl, inr, All}
use Rattle.std.specs.Prelude.{map}
use Rattle.std.specs.List.{AllByRecursion, range_with_len}
use Rattle.std.proofs.lemmas.Bool.{cases_lt, lt-ltb}
use Rattle.std.proofs.lemmas.List.{get_or_past}
use Rattle.std.proofs.lemmas.List.Elements.{All-from_recursion, All-map}
use Rattle.std.proofs.lemmas.Slice.Eq.{bytes_eq-Decides}
use Rattle.mcf_limits.specs.declared.TheConstants.{MAX_UNITS, MAX_WORD_BYTES}
use Rattle.flow_model.specs.declared.net.Cell.{Cell}
use Rattle.flow_model.specs.Network.{Network, IsNetwork}
use Rattle.sndlib_grammar.specs.Rows.{NetRows, NetLink, AreNetRows, IsNetLink}
use Rattle.unit_scale.specs.Names.{cells_of}
use Rattle.unit_scale.specs.Closed.{caps_of}
use Rattle.unit_scale.specs.Scaling.{ScaledNet}
use Rattle.script.specs.Reading.{link_of, terms_of, at_start}
use Rattle.cli_laws.specs.Scripts.{CanGoOn}

cap_small : (net : Network) (i : ℕ) → IsNetwork net → get_or (caps_of net) i 0 ≤ MAX_UNITS
cap_small net i is = elim (cases_lt i (length (caps_of net))) as (λ _. get_or (caps_of net) i 0 ≤ MAX_UNITS) [
  | inl lt ↦ All-map (λ n. n ≤ MAX_UNITS) (λ (c : Cell). c.cap) net.cells (λ k d inside. (is.cells k d inside).cap) i 0 lt
  | inr ge ↦ rw get_or_past (omega arith)
]

mapped_small : (f : ℕ → ℕ) → ((i : ℕ) → f i ≤ MAX_UNITS) → (xs : List ℕ) → AllByRecursion (λ n. n ≤ MAX_UNITS) (map f xs)
mapped_small f h [] = tt
mapped_small f h (x ∷ xs) = (h x, mapped_small f h xs)

caps_small : (rows : NetRows) (net : ScaledNet) → IsNetwork net.net → All (λ n. n ≤ MAX_UNITS) (at_start rows net).caps
caps_small rows net is =
    let f = λ (link : ℕ). get_or (caps_of net.net) (cells_of net.options.links link) 0 in
    let links = range_with_len 0 (length rows.links) in
    All-from_recursion (λ n. n ≤ MAX_UNITS) (map f links) (mapped_small f (λ i. cap_small net.net (cells_of net.options.links i) is) links)

first_named : (id : List ℕ) (ids : List (List ℕ)) (decimals : ℕ) → link_of (record { links = id ∷ ids; decimals = decimals }) id ≡ Some 0
first_named id ids decimals = rw ((bytes_eq-Decides id id).1 refl) (ap (λ (b : Bool). cond {A = Option ℕ} b (Some 0) None) (lt-ltb 0 (length (id ∷ ids)) (omega arith)))

record FirstNamed (decimals : ℕ) (links : List NetLink) : Type 0 where
  id : List ℕ
  names : link_of (record { links = map (λ l. l.id) links; decimals = decimals }) id ≡ Some 0
  short : length id ≤ MAX_WORD_BYTES

named : (decimals nodes : ℕ) (links : List NetLink) → All (IsNetLink nodes) links → 0 < length links → FirstNamed decimals links
named decimals nodes [] well some = absurd (omega arith)
named decimals nodes (l ∷ ls) well some = record { id = l.id; names = first_named l.id (map (λ x. x.id) ls) decimals; short = (well 0 l (omega arith)).id.short }

pub can_go_on : (rows : NetRows) (net : ScaledNet) → AreNetRows rows → IsNetwork net.net → 0 < length rows.links → CanGoOn (terms_of rows net) (at_start rows net).caps
can_go_on rows net well is some =
    let n = named net.decimals (length rows.nodes) rows.links well.links some in
    record { id = n.id; link = 0; names = n.names; short = n.short; limit = caps_small rows net is }
