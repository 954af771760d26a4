-- What is kept of entries follows them token by token, and stands for the same rows and refusals.
use Rattle.std.proofs.Common.{◌≡◌, ℕ, zero, suc, ◌+◌, ◌<◌, ◌≤◌, List, [], ◌∷◌, ◌++◌, length, take, refl, ap, sym, ◌∙◌, arith, append_assoc, Option, Some, None, Ok, Bool, true, false, length-append}
use Rattle.std.specs.Prelude.{map, find, nat_lt, slice_get, if◌then◌else◌}
use Rattle.std.specs.List.{flat_map}
use Rattle.std.proofs.lemmas.List.{take_all, take-append-le, length-take, length-map, map-append}
use Rattle.std.proofs.lemmas.List.Concat.{flat_map-append}
use Rattle.std.proofs.lemmas.Bool.{ltb-true, ltb-false}
use Rattle.mcf_limits.specs.declared.TheConstants.{MAX_DEMANDS, MAX_LINKS, MAX_NODES}
use Rattle.sndlib_grammar.specs.declared.refusal.NetKind.TheVariants as netkinds
use Rattle.sndlib_grammar.specs.declared.refusal.NetRefusal.{NetRefusal}
use Rattle.sndlib_grammar.specs.declared.mode.Mode.{Mode}
use Rattle.sndlib_grammar.specs.declared.mode.Mode.TheVariants.{Between, OpeningNodes, OpeningLinks, OpeningDemands, Naming, Skipping, Nodes, Node, Place, Links, LinkEnds, LinkSource, LinkTarget, LinkEndsClose, Installed, InstalledCost, RoutingCost, SetupCost, Modules, Capacity, CapacityCost, Demands, DemandEnds, DemandSource, DemandTarget, DemandEndsClose, Unit as Units, Value, Longest}
use Rattle.sndlib_grammar.specs.Grammar.{Symbol, Left, Right, Name, Word, Module, NodeEntry, LinkEntry, DemandEntry, Entries}
use Rattle.sndlib_grammar.specs.Faults.{node_ids, link_ids, demand_ids, texts, or_else, line_of, first_of, too_many, repeated, unknown_of_link, unknown_of_demand, unknown, is_bad, bad_module, bad_of_link, bad_of_demand, bad_number, at_line, fault_of}
use Rattle.sndlib_grammar.specs.Reading.{Sofar, kept, with_node, with_link, with_demand, link_of, demand_of}
use Rattle.sndlib_grammar.specs.Rows.{NetNode, NetLink, NetDemand, NetRows, module_words, net_node, net_link, net_demand, net_rows}
use Rattle.sndlib_grammar.specs.Net.{unless_fault}
use Rattle.sndlib_read.specs.Stored.{Stored, stored_node, stored_link, stored, partial, add_below, add_node, add_link, add_demand, put}
use Rattle.sndlib_rows.specs.Stored.{StoredNode, StoredLink}
use Rattle.sndlib_read.specs.Numbering.{stored_nodes, stored_links, stored_demands, too_many_of, repeated_of, unknown_of_stored, unknown_of, bad_of_stored, bad_of, stored_fault, stored_rows, stored_judged}
use Rattle.sndlib_rows.specs.Numbering.{node_of, link_of as link_of_stored}
use Rattle.sndlib_grammar.proofs.RowFacts.{first_none, second_none}

map-map : {X Y Z : Type 0} (f : Y → Z) (g : X → Y) (xs : List X) → map f (map g xs) ≡ map (λ x. f (g x)) xs
map-map f g [] = refl
map-map f g (x ∷ xs) = ap (λ ys. f (g x) ∷ ys) (map-map f g xs)

-- ---- lists up to a length

below : {X : Type 0} (n : ℕ) (xs : List X) (x : X) → length xs < n → take n (xs ++ x ∷ []) ≡ take n xs ++ x ∷ []
below n xs x lt =
    let room : length (xs ++ x ∷ []) ≤ n = omega (arith, length-append xs (x ∷ [])) in
    let fits : length xs ≤ n = omega arith in
    take_all n (xs ++ x ∷ []) room ∙ ap (λ ys. ys ++ x ∷ []) (sym (take_all n xs fits))

pub take-push : {X : Type 0} (n : ℕ) (xs : List X) (x : X) → take n (xs ++ x ∷ []) ≡ add_below n (take n xs) x
take-push n xs x =
    let go = elim (nat_lt (length (take n xs)) n) as (λ (b : Bool). nat_lt (length (take n xs)) n ≡ b → take n (xs ++ x ∷ []) ≡ (if b then take n xs ++ x ∷ [] else take n xs)) [
      | true ↦ λ e. (let lt = ltb-true (length (take n xs)) n e in let less : length xs < n = omega (arith, length-take n xs) in below n xs x less)
      | false ↦ λ e. (let le = ltb-false (length (take n xs)) n e in let full : n ≤ length xs = omega (arith, length-take n xs) in take-append-le n xs (x ∷ []) full)
    ] in
    go refl

take-map-push : {X Y : Type 0} (f : X → Y) (n : ℕ) (xs : List X) (x : X) → take n (map f (xs ++ x ∷ [])) ≡ add_below n (take n (map f xs)) (f x)
take-map-push f n xs x = ap (take n) (map-append f xs (x ∷ [])) ∙ take-push n (map f xs) (f x)

slice_get-take : {X : Type 0} (n : ℕ) (xs : List X) → slice_get (take (n + 1) xs) n ≡ slice_get xs n
slice_get-take n xs = let e : n + 1 ≡ suc n = omega arith in ap (λ k. slice_get (take k xs) n) e ∙ at n xs
  where
    at : {X : Type 0} (n : ℕ) (xs : List X) → slice_get (take (suc n) xs) n ≡ slice_get xs n
    at n [] = refl
    at zero (x ∷ xs) = refl
    at (suc n) (x ∷ xs) = at n xs

-- ---- token by token

nodes_push : (e : Entries) (n : NodeEntry) → stored (with_node e n) ≡ add_node (stored e) (stored_node n)
nodes_push e n = ap (λ (ns : List StoredNode). record (stored e) { nodes = ns }) (take-map-push stored_node (MAX_NODES + 1) e.nodes n)

links_push : (e : Entries) (l : LinkEntry) → stored (with_link e l) ≡ add_link (stored e) (stored_link l)
links_push e l = ap (λ (ls : List StoredLink). record (stored e) { links = ls }) (take-map-push stored_link (MAX_LINKS + 1) e.links l)

demands_push : (e : Entries) (d : DemandEntry) → stored (with_demand e d) ≡ add_demand (stored e) d
demands_push e d = ap (λ (ds : List DemandEntry). record (stored e) { demands = ds }) (take-push (MAX_DEMANDS + 1) e.demands d)

words_push : (ws : List Word) (w : Word) → texts (ws ++ w ∷ []) ≡ texts ws ++ w.text ∷ []
words_push ws w = map-append (λ (w : Word). w.text) ws (w ∷ [])

modules_push : (ms : List Module) (m : Module) → flat_map module_words (ms ++ m ∷ []) ≡ (flat_map module_words ms ++ m.capacity.text ∷ []) ++ m.cost.text ∷ []
modules_push ms m = flat_map-append module_words ms (m ∷ []) ∙ sym (append_assoc (flat_map module_words ms) (m.capacity.text ∷ []) (m.cost.text ∷ []))

bad_push : (ms : List Module) (m : Module) → bad_module (ms ++ m ∷ []) ≡ or_else (bad_module ms) (line_of (find is_bad (m.capacity ∷ [])))
bad_push [] m = refl
bad_push (x ∷ ms) m =
    let go = elim (is_bad x.capacity) as (λ (b : Bool). line_of (if b then Some x.capacity else find is_bad (map (λ y. y.capacity) (ms ++ m ∷ []))) ≡ or_else (line_of (if b then Some x.capacity else find is_bad (map (λ y. y.capacity) ms))) (line_of (find is_bad (m.capacity ∷ []))))
    [ true ↦ refl | false ↦ bad_push ms m ] in
    go

partial-left : (m : Mode) (s : Sofar) → partial (kept m Left s) ≡ put m Left (partial s)
partial-left (Between part) s = refl
partial-left OpeningNodes s = refl
partial-left OpeningLinks s = refl
partial-left OpeningDemands s = refl
partial-left (Naming part) s = refl
partial-left (Skipping part depth) s = refl
partial-left Nodes s = refl
partial-left Node s = refl
partial-left Place s = refl
partial-left Links s = refl
partial-left LinkEnds s = refl
partial-left LinkSource s = refl
partial-left LinkTarget s = refl
partial-left LinkEndsClose s = refl
partial-left Installed s = refl
partial-left InstalledCost s = refl
partial-left RoutingCost s = refl
partial-left SetupCost s = refl
partial-left Modules s = refl
partial-left Capacity s = refl
partial-left CapacityCost s = refl
partial-left Demands s = refl
partial-left DemandEnds s = refl
partial-left DemandSource s = refl
partial-left DemandTarget s = refl
partial-left DemandEndsClose s = refl
partial-left Units s = refl
partial-left Value s = refl
partial-left Longest s = refl

partial-right : (m : Mode) (s : Sofar) → partial (kept m Right s) ≡ put m Right (partial s)
partial-right (Skipping part zero) s = refl
partial-right Node s = ap (λ (r : Stored). record (partial s) { rows = r }) (nodes_push s.entries (record { id = s.draft.id; place = None }))
partial-right Place s = ap (λ (r : Stored). record (partial s) { words = []; rows = r }) (nodes_push s.entries (record { id = s.draft.id; place = Some s.words }))
partial-right Capacity s = ap (λ (r : Stored). record (partial s) { modules = []; bad = None; rows = r }) (links_push s.entries (link_of s.draft s.modules))
partial-right (Skipping part (suc depth)) s = refl
partial-right (Between part) s = refl
partial-right (Naming part) s = refl
partial-right OpeningNodes s = refl
partial-right OpeningLinks s = refl
partial-right OpeningDemands s = refl
partial-right Nodes s = refl
partial-right Links s = refl
partial-right LinkEnds s = refl
partial-right LinkSource s = refl
partial-right LinkTarget s = refl
partial-right LinkEndsClose s = refl
partial-right Installed s = refl
partial-right InstalledCost s = refl
partial-right RoutingCost s = refl
partial-right SetupCost s = refl
partial-right Modules s = refl
partial-right CapacityCost s = refl
partial-right Demands s = refl
partial-right DemandEnds s = refl
partial-right DemandSource s = refl
partial-right DemandTarget s = refl
partial-right DemandEndsClose s = refl
partial-right Units s = refl
partial-right Value s = refl
partial-right Longest s = refl

module_pushed : (s : Sofar) (w : Word) → partial (kept CapacityCost (Name w) s) ≡ put CapacityCost (Name w) (partial s)
module_pushed s w =
    let m : Module = record { capacity = s.draft.capacity; cost = w } in
    ap (λ (ms : List (List ℕ)). record (partial s) { modules = ms; bad = bad_module (s.modules ++ m ∷ []) }) (modules_push s.modules m)
    ∙ ap (λ (o : Option ℕ). record (partial s) { modules = (flat_map module_words s.modules ++ s.draft.capacity.text ∷ []) ++ w.text ∷ []; bad = o }) (bad_push s.modules m)

partial-word : (m : Mode) (w : Word) (s : Sofar) → partial (kept m (Name w) s) ≡ put m (Name w) (partial s)
partial-word (Between part) w s = refl
partial-word OpeningNodes w s = refl
partial-word OpeningLinks w s = refl
partial-word OpeningDemands w s = refl
partial-word (Naming part) w s = refl
partial-word (Skipping part depth) w s = refl
partial-word Nodes w s = refl
partial-word Node w s = ap (λ (r : Stored). record (partial s) { draft = record s.draft { id = w }; rows = r }) (nodes_push s.entries (record { id = s.draft.id; place = None }))
partial-word Place w s = ap (λ (ws : List (List ℕ)). record (partial s) { words = ws }) (words_push s.words w)
partial-word Links w s = refl
partial-word LinkEnds w s = refl
partial-word LinkSource w s = refl
partial-word LinkTarget w s = refl
partial-word LinkEndsClose w s = refl
partial-word Installed w s = refl
partial-word InstalledCost w s = refl
partial-word RoutingCost w s = refl
partial-word SetupCost w s = refl
partial-word Modules w s = refl
partial-word Capacity w s = refl
partial-word CapacityCost w s = module_pushed s w
partial-word Demands w s = refl
partial-word DemandEnds w s = refl
partial-word DemandSource w s = refl
partial-word DemandTarget w s = refl
partial-word DemandEndsClose w s = refl
partial-word Units w s = refl
partial-word Value w s = refl
partial-word Longest w s = ap (λ (r : Stored). record (partial s) { rows = r }) (demands_push s.entries (demand_of s.draft w))

-- what is kept follows what is read
pub partial-kept : (m : Mode) (t : Symbol) (s : Sofar) → partial (kept m t s) ≡ put m t (partial s)
partial-kept m Left s = partial-left m s
partial-kept m Right s = partial-right m s
partial-kept m (Name w) s = partial-word m w s

-- ---- the same refusals

swap_first : {X Y : Type 0} (f : X → Option ℕ) (g : Y → Option ℕ) (h : X → Y) → ((x : X) → g (h x) ≡ f x) → (xs : List X) → first_of g (map h xs) ≡ first_of f xs
swap_first f g h e [] = refl
swap_first f g h e (x ∷ xs) = ap (λ o. or_else o (first_of g (map h xs))) (e x) ∙ ap (or_else (f x)) (swap_first f g h e xs)

pub record IsWhole (e : Entries) : Type 0 where
  pub nodes : (stored e).nodes ≡ map stored_node e.nodes
  pub links : (stored e).links ≡ map stored_link e.links
  pub demands : (stored e).demands ≡ e.demands

at_most : (xs : List Word) (n : ℕ) → line_of (slice_get xs n) ≡ None → length xs ≤ n
at_most [] n h = omega arith
at_most (x ∷ xs) zero h = absurd cc
at_most (x ∷ xs) (suc n) h = let rest = at_most xs n h in omega arith

pub whole : (e : Entries) → too_many e ≡ None → IsWhole e
whole e h =
    let n = line_of (slice_get (node_ids e) MAX_NODES) in
    let l = line_of (slice_get (link_ids e) MAX_LINKS) in
    let d = line_of (slice_get (demand_ids e) MAX_DEMANDS) in
    let later = second_none n (or_else l d) h in
    let ln = at_most (node_ids e) MAX_NODES (first_none n (or_else l d) h) in
    let ll = at_most (link_ids e) MAX_LINKS (first_none l d later) in
    let ld = at_most (demand_ids e) MAX_DEMANDS (second_none l d later) in
    let fn : length (map stored_node e.nodes) ≤ MAX_NODES + 1 = omega (arith, length-map e.nodes (λ (n : NodeEntry). n.id), length-map e.nodes stored_node, ln) in
    let fl : length (map stored_link e.links) ≤ MAX_LINKS + 1 = omega (arith, length-map e.links (λ (l : LinkEntry). l.id), length-map e.links stored_link, ll) in
    let fd : length e.demands ≤ MAX_DEMANDS + 1 = omega (arith, length-map e.demands (λ (d : DemandEntry). d.id), ld) in
    record { nodes = take_all (MAX_NODES + 1) (map stored_node e.nodes) fn; links = take_all (MAX_LINKS + 1) (map stored_link e.links) fl; demands = take_all (MAX_DEMANDS + 1) e.demands fd }

ids-take : {X Y : Type 0} (id : Y → Word) (f : X → Y) (g : X → Word) → ((x : X) → id (f x) ≡ g x) → (xs : List X) (n : ℕ) → map id (take n (map f xs)) ≡ take n (map g xs)
ids-take id f g e xs zero = refl
ids-take id f g e [] (suc n) = refl
ids-take id f g e (x ∷ xs) (suc n) = ap (λ w. w ∷ map id (take n (map f xs))) (e x) ∙ ap (λ ws. g x ∷ ws) (ids-take id f g e xs n)

demand_ids-take : (ds : List DemandEntry) (n : ℕ) → map (λ (d : DemandEntry). d.id) (take n ds) ≡ take n (map (λ (d : DemandEntry). d.id) ds)
demand_ids-take ds zero = refl
demand_ids-take [] (suc n) = refl
demand_ids-take (d ∷ ds) (suc n) = ap (λ (ws : List Word). d.id ∷ ws) (demand_ids-take ds n)

-- the first row too many is kept
pub too_many-stored : (e : Entries) → too_many_of (stored e) ≡ too_many e
too_many-stored e =
    let n : slice_get (stored_nodes (stored e)) MAX_NODES ≡ slice_get (node_ids e) MAX_NODES = ap (λ (ws : List Word). slice_get ws MAX_NODES) (ids-take (λ (n : StoredNode). n.id) stored_node (λ (n : NodeEntry). n.id) (λ n. refl) e.nodes (MAX_NODES + 1)) ∙ slice_get-take MAX_NODES (node_ids e) in
    let l : slice_get (stored_links (stored e)) MAX_LINKS ≡ slice_get (link_ids e) MAX_LINKS = ap (λ (ws : List Word). slice_get ws MAX_LINKS) (ids-take (λ (l : StoredLink). l.id) stored_link (λ (l : LinkEntry). l.id) (λ l. refl) e.links (MAX_LINKS + 1)) ∙ slice_get-take MAX_LINKS (link_ids e) in
    let d : slice_get (stored_demands (stored e)) MAX_DEMANDS ≡ slice_get (demand_ids e) MAX_DEMANDS = ap (λ (ws : List Word). slice_get ws MAX_DEMANDS) (demand_ids-take e.demands (MAX_DEMANDS + 1)) ∙ slice_get-take MAX_DEMANDS (demand_ids e) in
    ap (λ (o : Option Word). or_else (line_of o) (or_else (line_of (slice_get (stored_links (stored e)) MAX_LINKS)) (line_of (slice_get (stored_demands (stored e)) MAX_DEMANDS)))) n
    ∙ ap (λ (o : Option Word). or_else (line_of (slice_get (node_ids e) MAX_NODES)) (or_else (line_of o) (line_of (slice_get (stored_demands (stored e)) MAX_DEMANDS)))) l
    ∙ ap (λ (o : Option Word). or_else (line_of (slice_get (node_ids e) MAX_NODES)) (or_else (line_of (slice_get (link_ids e) MAX_LINKS)) (line_of o))) d

-- the names, where there are not too many
record HasIds (e : Entries) : Type 0 where
  nodes : stored_nodes (stored e) ≡ node_ids e
  links : stored_links (stored e) ≡ link_ids e
  demands : stored_demands (stored e) ≡ demand_ids e

whole_ids : (e : Entries) → IsWhole e → HasIds e
whole_ids e w = record {
  nodes = ap (λ (ns : List StoredNode). map (λ n. n.id) ns) w.nodes ∙ map-map (λ (n : StoredNode). n.id) stored_node e.nodes;
  links = ap (λ (ls : List StoredLink). map (λ l. l.id) ls) w.links ∙ map-map (λ (l : StoredLink). l.id) stored_link e.links;
  demands = ap (λ (ds : List DemandEntry). map (λ d. d.id) ds) w.demands;
}

repeated-stored : (e : Entries) → HasIds e → repeated_of (stored e) ≡ repeated e
repeated-stored e ids = rw (ids.nodes, ids.links, ids.demands) refl

unknown-stored : (e : Entries) → IsWhole e → HasIds e → unknown_of (stored e) ≡ unknown e
unknown-stored e w ids =
    let known = texts (node_ids e) in
    ap (λ (ws : List Word). or_else (first_of (unknown_of_stored (texts ws)) (stored e).links) (first_of (unknown_of_demand (texts ws)) (stored e).demands)) ids.nodes
    ∙ ap (λ (ls : List StoredLink). or_else (first_of (unknown_of_stored known) ls) (first_of (unknown_of_demand known) (stored e).demands)) w.links
    ∙ ap (λ (o : Option ℕ). or_else o (first_of (unknown_of_demand known) (stored e).demands)) (swap_first (unknown_of_link known) (unknown_of_stored known) stored_link (λ l. refl) e.links)
    ∙ ap (λ (ds : List DemandEntry). or_else (first_of (unknown_of_link known) e.links) (first_of (unknown_of_demand known) ds)) w.demands

bad-stored : (e : Entries) → IsWhole e → bad_of (stored e) ≡ bad_number e
bad-stored e w =
    ap (λ (ls : List StoredLink). or_else (first_of bad_of_stored ls) (first_of bad_of_demand (stored e).demands)) w.links
    ∙ ap (λ (o : Option ℕ). or_else o (first_of bad_of_demand (stored e).demands)) (swap_first bad_of_link bad_of_stored stored_link (λ l. refl) e.links)
    ∙ ap (λ (ds : List DemandEntry). or_else (first_of bad_of_link e.links) (first_of bad_of_demand ds)) w.demands

-- ---- the same answer

rows-stored : (end : ℕ) (e : Entries) → IsWhole e → HasIds e → stored_rows end (stored e) ≡ net_rows end e
rows-stored end e w ids =
    let known = texts (node_ids e) in
    ap (λ (ws : List Word). record { nodes = map node_of (stored e).nodes; links = map (link_of_stored (texts ws)) (stored e).links; demands = map (net_demand (texts ws)) (stored e).demands; skipped = e.skipped; end_line = end }) ids.nodes
    ∙ ap (λ (ns : List NetNode). record { nodes = ns; links = map (link_of_stored known) (stored e).links; demands = map (net_demand known) (stored e).demands; skipped = e.skipped; end_line = end }) (ap (map node_of) w.nodes ∙ map-map node_of stored_node e.nodes)
    ∙ ap (λ (ls : List NetLink). record { nodes = map net_node e.nodes; links = ls; demands = map (net_demand known) (stored e).demands; skipped = e.skipped; end_line = end }) (ap (map (link_of_stored known)) w.links ∙ map-map (link_of_stored known) stored_link e.links)
    ∙ ap (λ (ds : List NetDemand). record { nodes = map net_node e.nodes; links = map (net_link known) e.links; demands = ds; skipped = e.skipped; end_line = end }) (ap (map (net_demand known)) w.demands)

pub judged-stored : (end : ℕ) (e : Entries) → stored_judged end (stored e) (stored_fault (stored e)) ≡ unless_fault end e (fault_of e)
judged-stored end e =
    let go = elim (too_many e) as (λ (o : Option ℕ). too_many e ≡ o → stored_judged end (stored e) (or_else (at_line netkinds.TooMany o) (or_else (at_line netkinds.Duplicate (repeated_of (stored e))) (or_else (at_line netkinds.UnknownNode (unknown_of (stored e))) (at_line netkinds.BadNumber (bad_of (stored e))))))
    ≡ unless_fault end e (or_else (at_line netkinds.TooMany o) (or_else (at_line netkinds.Duplicate (repeated e)) (or_else (at_line netkinds.UnknownNode (unknown e)) (at_line netkinds.BadNumber (bad_number e)))))) [
      | Some line ↦ λ h. refl
      | None ↦ λ h. rest (whole e h)
    ] in
    ap (λ (o : Option ℕ). stored_judged end (stored e) (or_else (at_line netkinds.TooMany o) (or_else (at_line netkinds.Duplicate (repeated_of (stored e))) (or_else (at_line netkinds.UnknownNode (unknown_of (stored e))) (at_line netkinds.BadNumber (bad_of (stored e))))))) (too_many-stored e)
    ∙ go refl
  where
    last : IsWhole e → HasIds e → (o : Option NetRefusal) → stored_judged end (stored e) o ≡ unless_fault end e o
    last w ids None = ap (λ (r : NetRows). Ok r) (rows-stored end e w ids)
    last w ids (Some r) = refl

    rest : IsWhole e → stored_judged end (stored e) (or_else (at_line netkinds.Duplicate (repeated_of (stored e))) (or_else (at_line netkinds.UnknownNode (unknown_of (stored e))) (at_line netkinds.BadNumber (bad_of (stored e)))))
        ≡ unless_fault end e (or_else (at_line netkinds.Duplicate (repeated e)) (or_else (at_line netkinds.UnknownNode (unknown e)) (at_line netkinds.BadNumber (bad_number e))))
    rest w =
        let ids = whole_ids e w in
        ap (λ (o : Option ℕ). stored_judged end (stored e) (or_else (at_line netkinds.Duplicate o) (or_else (at_line netkinds.UnknownNode (unknown_of (stored e))) (at_line netkinds.BadNumber (bad_of (stored e)))))) (repeated-stored e ids)
        ∙ ap (λ (o : Option ℕ). stored_judged end (stored e) (or_else (at_line netkinds.Duplicate (repeated e)) (or_else (at_line netkinds.UnknownNode o) (at_line netkinds.BadNumber (bad_of (stored e)))))) (unknown-stored e w ids)
        ∙ ap (λ (o : Option ℕ). stored_judged end (stored e) (or_else (at_line netkinds.Duplicate (repeated e)) (or_else (at_line netkinds.UnknownNode (unknown e)) (at_line netkinds.BadNumber o)))) (bad-stored e w)
        ∙ last w ids (or_else (at_line netkinds.Duplicate (repeated e)) (or_else (at_line netkinds.UnknownNode (unknown e)) (at_line netkinds.BadNumber (bad_number e))))
