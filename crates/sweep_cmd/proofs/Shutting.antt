-- The network with a link closed is a network.
use Rattle.std.proofs.Common.{◌≡◌, ℕ, zero, suc, ◌+◌, ◌<◌, ◌≤◌, Bool, true, false, List, [], ◌∷◌, ◌++◌, length, get_or, map, take, sym, ap, subst, ◌∙◌, arith}
use Rattle.std.specs.Prelude.{◌==◌, if◌then◌else◌}
use Rattle.std.specs.List.{enumerate_from}
use Rattle.std.proofs.lemmas.List.{take_all, take_more}
use Rattle.flow_model.specs.declared.net.Cell.{Cell}
use Rattle.flow_model.specs.declared.net.Commodity.{Commodity}
use Rattle.flow_model.specs.Network.{Network, IsNetwork, IsCell}
use Rattle.flow_paths.specs.Evaluation.{with_caps}
use Rattle.unit_scale.specs.declared.modes.LinkMode.{LinkMode}
use Rattle.unit_scale.specs.Names.{name_of}
use Rattle.unit_scale.specs.Closed.{closed, with_link}
use Rattle.whatif.proofs.Sums.{with_caps-length}

-- the cells, those of the link with capacity 0
abbrev pub shut_cells : LinkMode → List Cell → ℕ → List Cell
shut_cells mode cells link = with_caps cells (with_link mode (map (λ (c : Cell). c.cap) cells) link 0)

-- the cell of that number among them
abbrev pub shut_cell : LinkMode → ℕ → ℕ → Cell → Cell
shut_cell mode link c cell = record cell { cap = if (name_of mode c).link == link then 0 else cell.cap }

shut_from : (mode : LinkMode) (link n : ℕ) (cells : List Cell) (i c : ℕ) (d : Cell) → i < length cells → n + i ≡ c
    → get_or (with_caps cells (map (λ p. if (name_of mode p.0).link == link then 0 else p.1) (enumerate_from n (map (λ (c : Cell). c.cap) cells)))) i d
    ≡ shut_cell mode link c (get_or cells i d)
shut_from mode link n [] i c d h e = absurd (omega arith)
shut_from mode link n (x ∷ xs) zero c d h e =
    let here : n ≡ c = omega arith in
    ap (λ (k : ℕ). shut_cell mode link k x) here
shut_from mode link n (x ∷ xs) (suc i) c d h e = shut_from mode link (n + 1) xs i c d (omega arith) (omega arith)

shut_at : (mode : LinkMode) (cells : List Cell) (link c : ℕ) (d : Cell) → c < length cells → get_or (shut_cells mode cells link) c d ≡ shut_cell mode link c (get_or cells c d)
shut_at mode cells link c d h = shut_from mode link 0 cells c c d h (omega arith)

pub shut_length : (mode : LinkMode) (cells : List Cell) (link : ℕ) → length (shut_cells mode cells link) ≡ length cells
shut_length mode cells link = with_caps-length cells (with_link mode (map (λ (c : Cell). c.cap) cells) link 0)

-- ---- one cell after the other

pub shut_more : (mode : LinkMode) (cells done more : List Cell) (link c : ℕ) (d new : Cell) → c < length cells → done ≡ take c (shut_cells mode cells link)
    → new ≡ shut_cell mode link c (get_or cells c d) → more ≡ done ++ new ∷ [] → more ≡ take (c + 1) (shut_cells mode cells link)
shut_more mode cells done more link c d new lt h is pushed =
    let all : List Cell = shut_cells mode cells link in
    let here : get_or all c d ≡ new = shut_at mode cells link c d lt ∙ sym is in
    pushed ∙ (ap (λ (l : List Cell). l ++ new ∷ []) h ∙ (ap (λ (x : Cell). take c all ++ x ∷ []) (sym here) ∙ sym (take_more all c d (omega (arith, shut_length mode cells link)))))

pub shut_all : (mode : LinkMode) (cells done : List Cell) (link c : ℕ) → length cells ≤ c → done ≡ take c (shut_cells mode cells link) → done ≡ shut_cells mode cells link
shut_all mode cells done link c le h = h ∙ take_all c (shut_cells mode cells link) (omega (arith, shut_length mode cells link))

-- ---- the network

shut_is : (b : Bool) (nodes : ℕ) (x : Cell) → IsCell nodes x → IsCell nodes (record x { cap = if b then 0 else x.cap })
shut_is true nodes x h = record { tail = h.tail; head = h.head; cap = omega arith }
shut_is false nodes x h = record { tail = h.tail; head = h.head; cap = h.cap }

pub closed_network : (mode : LinkMode) (net : Network) (link : ℕ) → IsNetwork net → IsNetwork (closed mode net link)
closed_network mode net link n = record {
  nodes = n.nodes;
  cell_count = omega (arith, shut_length mode net.cells link, n.cell_count);
  commodity_count = n.commodity_count;
  some = n.some;
  cells = λ k d lt. each k d (omega (arith, lt, shut_length mode net.cells link));
  commodities = n.commodities;
  total = n.total;
}
  where
    each : (k : ℕ) (d : Cell) → k < length net.cells → IsCell net.nodes (get_or (shut_cells mode net.cells link) k d)
    each k d lt =
        subst (IsCell net.nodes) (sym (shut_at mode net.cells link k d lt))
        (shut_is ((name_of mode k).link == link) net.nodes (get_or net.cells k d) (n.cells k d lt))

-- and its parts make it
pub closed_parts : (mode : LinkMode) (net : Network) (link nodes : ℕ) (own cells : List Cell) (ks : List Commodity) → IsNetwork net → nodes ≡ net.nodes → own ≡ net.cells → cells ≡ shut_cells mode own link
    → ks ≡ net.commodities → IsNetwork (record { nodes = nodes; cells = cells; commodities = ks })
closed_parts mode net link nodes own cells ks n nodes_are own_are cells_are ks_are =
    let shut : cells ≡ shut_cells mode net.cells link = cells_are ∙ ap (λ (l : List Cell). shut_cells mode l link) own_are in
    subst (λ (m : ℕ). IsNetwork (record { nodes = m; cells = cells; commodities = ks })) (sym nodes_are)
    (subst (λ (l : List Cell). IsNetwork (record { nodes = net.nodes; cells = l; commodities = ks })) (sym shut)
    (subst (λ (l : List Commodity). IsNetwork (record { nodes = net.nodes; cells = shut_cells mode net.cells link; commodities = l })) (sym ks_are) (closed_network mode net link n)))
