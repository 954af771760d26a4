-- The capacities of links, read one after the other.
use Rattle.std.proofs.Common.{◌≡◌, ℕ, ◌+◌, ◌<◌, ◌≤◌, List, [], ◌∷◌, ◌++◌, length, get_or, sym, ap, subst, ◌∙◌, arith, All}
use Rattle.std.proofs.lemmas.List.{get_or-map}
use Rattle.std.proofs.lemmas.List.Elements.{All-push, All-same}
use Rattle.std.proofs.lemmas.List.FromFn.{map-range_with_len_more}
use Rattle.mcf_limits.specs.declared.TheConstants.{MAX_UNITS}
use Rattle.unit_scale.specs.declared.modes.LinkMode.{LinkMode}
use Rattle.unit_scale.specs.declared.modes.LinkMode.TheVariants.{Directed, Undirected, Bidirected}
use Rattle.flow_model.specs.declared.net.Cell.{Cell}
use Rattle.flow_model.specs.Network.{Network, IsNetwork}
use Rattle.unit_scale.specs.Names.{cells_of}
use Rattle.unit_scale.specs.Closed.{caps_of}
use Rattle.script.specs.Reading.{link_caps}

first_below : (mode : LinkMode) (link links : ℕ) → link < links → cells_of mode link < cells_of mode links
first_below Directed link links h = omega arith
first_below Undirected link links h = omega arith
first_below Bidirected link links h = omega arith

-- what is kept of the links so far
pub record AreCaps (mode : LinkMode) (net : Network) (link : ℕ) (caps : List ℕ) : Type 0 where
  pub value : caps ≡ link_caps mode (caps_of net) link
  pub limit : All (λ cap. cap ≤ MAX_UNITS) caps

-- one link more
pub cap_more : (mode : LinkMode) (net : Network) (links link at : ℕ) (cells : List Cell) (none : Cell) (now next : List ℕ) → IsNetwork net → cells ≡ net.cells
    → length net.cells ≡ cells_of mode links → link < links → at ≡ cells_of mode link → AreCaps mode net link now → next ≡ now ++ (get_or cells at none).cap ∷ [] → AreCaps mode net (link + 1) next
cap_more mode net links link at cells none now next is same count lt first h e =
    let inside : cells_of mode link < length net.cells = omega (arith, first_below mode link links lt) in
    let here : (get_or cells at none).cap ≡ get_or (caps_of net) (cells_of mode link) 0 =
    ap (λ (l : List Cell). (get_or l at none).cap) same ∙ (ap (λ k. (get_or net.cells k none).cap) first ∙ sym (get_or-map (λ (c : Cell). c.cap) net.cells (cells_of mode link) none 0 inside)) in
    let small : (get_or cells at none).cap ≤ MAX_UNITS = subst (λ n. n ≤ MAX_UNITS) (sym (ap (λ (l : List Cell). (get_or l at none).cap) same ∙ ap (λ k. (get_or net.cells k none).cap) first)) (is.cells (cells_of mode link) none inside).cap in
    record {
      value =
          e ∙ (ap (λ (l : List ℕ). l ++ (get_or cells at none).cap ∷ []) h.value
          ∙ (ap (λ n. link_caps mode (caps_of net) link ++ n ∷ []) here ∙ sym (map-range_with_len_more (λ k. get_or (caps_of net) (cells_of mode k) 0) 0 link link (omega arith))));
      limit = All-same (λ cap. cap ≤ MAX_UNITS) next (now ++ (get_or cells at none).cap ∷ []) e (All-push (λ cap. cap ≤ MAX_UNITS) now (get_or cells at none).cap h.limit small);
    }
