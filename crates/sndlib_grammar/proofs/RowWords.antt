-- What holds of each word of entries holds of those of their rows.
use Rattle.std.proofs.Common.{ℕ, List, [], ◌∷◌, ◌++◌, Option, Some, None}
use Rattle.std.specs.Prelude.{map, All, IfSome}
use Rattle.std.specs.List.{flat_map, AllByRecursion}
use Rattle.std.specs.Option.{option_map}
use Rattle.std.proofs.lemmas.List.Elements.{All-from_recursion}
use Rattle.sndlib_grammar.specs.Grammar.{Symbol, Right, Word, Module, NodeEntry, LinkEntry, DemandEntry, Entries, names, place, pair, node, link, demand}
use Rattle.sndlib_grammar.specs.Faults.{node_ids, texts}
use Rattle.sndlib_grammar.specs.Rows.{module_words, net_node, net_link, net_demand, net_rows}
use Rattle.sndlib_grammar.specs.Words.{OnSymbols, OnEntries, OnNode, OnLink, OnDemand, OnNetRows}

on_names : (P : List ℕ → Type 0) (ws : List Word) (rest : List Symbol) → OnSymbols P (names ws ++ rest) → AllByRecursion P (texts ws)
on_names P [] rest h = tt
on_names P (w ∷ ws) rest h = (h.0, on_names P ws rest h.1)

on_modules : (P : List ℕ → Type 0) (ms : List Module) (rest : List Symbol) → OnSymbols P (flat_map pair ms ++ rest) → AllByRecursion P (flat_map module_words ms)
on_modules P [] rest h = tt
on_modules P (m ∷ ms) rest h = (h.0, (h.1.0, on_modules P ms rest h.1.1))

pub on_node : (P : List ℕ → Type 0) (n : NodeEntry) → OnSymbols P (node n) → OnNode P (net_node n)
on_node P n h = record { id = h.0; place = on_place n.place h.1 }
  where
    on_place : (p : Option (List Word)) → OnSymbols P (place p) → IfSome (option_map texts p) (All P)
    on_place None h = tt
    on_place (Some ws) h = All-from_recursion P (texts ws) (on_names P ws (Right ∷ []) h.1)

pub on_link : (P : List ℕ → Type 0) (known : List (List ℕ)) (l : LinkEntry) → OnSymbols P (link l) → OnLink P (net_link known l)
on_link P known l h = record {
  id = h.0;
  installed = h.1.1.1.1.1.0;
  costs = All-from_recursion P (texts (l.installed_cost ∷ l.routing_cost ∷ l.setup_cost ∷ [])) (h.1.1.1.1.1.1.0, (h.1.1.1.1.1.1.1.0, (h.1.1.1.1.1.1.1.1.0, tt)));
  modules = All-from_recursion P (flat_map module_words l.modules) (on_modules P l.modules (Right ∷ []) h.1.1.1.1.1.1.1.1.1.1);
}

pub on_demand : (P : List ℕ → Type 0) (known : List (List ℕ)) (d : DemandEntry) → OnSymbols P (demand d) → OnDemand P (net_demand known d)
on_demand P known d h = record { id = h.0; unit = h.1.1.1.1.1.0; value = h.1.1.1.1.1.1.0; longest = h.1.1.1.1.1.1.1.0 }

-- what holds of each element holds of each image
pub through : {X Y : Type 0} (f : X → Y) (A : X → Type 0) (B : Y → Type 0) → ((x : X) → A x → B (f x)) → (xs : List X) → AllByRecursion A xs → AllByRecursion B (map f xs)
through f A B step [] h = tt
through f A B step (x ∷ xs) h = (step x h.0, through f A B step xs h.1)

pub on_rows : (P : List ℕ → Type 0) (end : ℕ) (e : Entries) → OnEntries P e → OnNetRows P (net_rows end e)
on_rows P end e h =
    let known = texts (node_ids e) in
    record {
      nodes = All-from_recursion (OnNode P) (map net_node e.nodes) (through net_node (λ n. OnSymbols P (node n)) (OnNode P) (on_node P) e.nodes h.nodes);
      links = All-from_recursion (OnLink P) (map (net_link known) e.links) (through (net_link known) (λ l. OnSymbols P (link l)) (OnLink P) (on_link P known) e.links h.links);
      demands = All-from_recursion (OnDemand P) (map (net_demand known) e.demands) (through (net_demand known) (λ d. OnSymbols P (demand d)) (OnDemand P) (on_demand P known) e.demands h.demands);
    }
