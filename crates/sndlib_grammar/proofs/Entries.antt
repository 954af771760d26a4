-- What the lines of entries are made of, and what the grammar sees of them.
use Rattle.std.proofs.Common.{◌≡◌, ℕ, ◌+◌, List, [], ◌∷◌, ◌++◌, length, map, arith, Option, Some, None, refl, ap}
use Rattle.std.specs.Prelude.{slice_index_or, codes}
use Rattle.std.specs.List.{flat_map, AllByRecursion}
use Rattle.std.specs.Option.{option_map}
use Rattle.std.proofs.lemmas.Grind.{flat_map-append}
use Rattle.std.proofs.lemmas.List.{map-append}
use Rattle.sndlib_grammar.specs.Grammar.{Word, Symbol, Left, Right, Name, NodeEntry, Module, LinkEntry, DemandEntry, names, place, node, pair, link, demand}
use Rattle.sndlib_grammar.specs.Rows.{NetNode, NetLink, NetDemand}
use Rattle.sndlib_grammar.specs.Canonical.{AreModules, name_at, place_words, node_line, link_line, demand_line}
use Rattle.sndlib_grammar.proofs.Lexing.{Piece, Gap, Opens, Closes, Named, bytes_of, seen_on, seen_from}

abbrev pub word_on : ℕ → List ℕ → Word
word_on line w = record { text = w; line = line }

-- ---- the entries on their lines

abbrev pub node_entry : ℕ → NetNode → NodeEntry
node_entry line n = record { id = word_on line n.id; place = option_map (map (word_on line)) n.place }

abbrev pub modules_on : ℕ → List (List ℕ) → List Module
modules_on line [] = []
modules_on line (capacity ∷ []) = []
modules_on line (capacity ∷ cost ∷ more) = record { capacity = word_on line capacity; cost = word_on line cost } ∷ modules_on line more

abbrev pub cost_at : NetLink → ℕ → List ℕ
cost_at l i = slice_index_or l.costs i []

abbrev pub link_entry : List (List ℕ) → ℕ → NetLink → LinkEntry
link_entry known line l = record {
  id = word_on line l.id;
  source = word_on line (name_at known l.source);
  target = word_on line (name_at known l.target);
  installed = word_on line l.installed;
  installed_cost = word_on line (cost_at l 0);
  routing_cost = word_on line (cost_at l 1);
  setup_cost = word_on line (cost_at l 2);
  modules = modules_on line l.modules;
}

abbrev pub demand_entry : List (List ℕ) → ℕ → NetDemand → DemandEntry
demand_entry known line d = record {
  id = word_on line d.id;
  source = word_on line (name_at known d.source);
  target = word_on line (name_at known d.target);
  unit = word_on line d.unit;
  value = word_on line d.value;
  longest = word_on line d.longest;
}

-- each on a line of its own, the first on this one
abbrev pub on_lines : {X E : Type 0} → (ℕ → X → E) → ℕ → List X → List E
on_lines entry line [] = []
on_lines entry line (x ∷ xs) = entry line x ∷ on_lines entry (line + 1) xs

-- ---- their pieces, behind the first gap

abbrev pub place_pieces : Option (List (List ℕ)) → List Piece
place_pieces None = []
place_pieces (Some words) = (Opens ∷ map Named words) ++ Closes ∷ []

abbrev pub node_pieces : NetNode → List Piece
node_pieces n = Gap ∷ Named n.id ∷ place_pieces n.place

abbrev pub link_pieces : List (List ℕ) → NetLink → List Piece
link_pieces known l = ((Gap ∷ Named l.id ∷ Opens ∷ Named (name_at known l.source) ∷ Named (name_at known l.target) ∷ Closes ∷ Named l.installed ∷ map Named l.costs) ++ Opens ∷ map Named l.modules) ++ Closes ∷ []

abbrev pub demand_pieces : List (List ℕ) → NetDemand → List Piece
demand_pieces known d = Gap ∷ Named d.id ∷ Opens ∷ Named (name_at known d.source) ∷ Named (name_at known d.target) ∷ Closes ∷ Named d.unit ∷ Named d.value ∷ Named d.longest ∷ []

named_bytes : (ws : List (List ℕ)) → map bytes_of (map Named ws) ≡ ws
named_bytes [] = refl
named_bytes (w ∷ ws) = ap (λ l. w ∷ l) (named_bytes ws)

named_seen : (line : ℕ) (ws : List (List ℕ)) → flat_map (seen_on line) (map Named ws) ≡ names (map (word_on line) ws)
named_seen line [] = refl
named_seen line (w ∷ ws) = ap (λ l. Name (word_on line w) ∷ l) (named_seen line ws)

-- ---- lines are their pieces

pub node_bytes : (n : NetNode) → node_line n ≡ map bytes_of (Gap ∷ node_pieces n)
node_bytes n = ap (λ l. [] ∷ [] ∷ n.id ∷ l) (placed n.place)
  where
    placed : (p : Option (List (List ℕ))) → place_words p ≡ map bytes_of (place_pieces p)
    placed None = refl
    placed (Some ws) = simp (map-append, named_bytes) refl

tail_bytes : (costs modules : List (List ℕ)) → (costs ++ codes "(" ∷ modules) ++ codes ")" ∷ [] ≡ map bytes_of ((map Named costs ++ Opens ∷ map Named modules) ++ Closes ∷ [])
tail_bytes costs modules = rw (map-append bytes_of (map Named costs ++ Opens ∷ map Named modules) (Closes ∷ []), map-append bytes_of (map Named costs) (Opens ∷ map Named modules), named_bytes costs, named_bytes modules) refl

pub link_bytes : (known : List (List ℕ)) (l : NetLink) → link_line known l ≡ map bytes_of (Gap ∷ link_pieces known l)
link_bytes known l = ap (λ t. [] ∷ [] ∷ l.id ∷ codes "(" ∷ name_at known l.source ∷ name_at known l.target ∷ codes ")" ∷ l.installed ∷ t) (tail_bytes l.costs l.modules)

pub demand_bytes : (known : List (List ℕ)) (d : NetDemand) → demand_line known d ≡ map bytes_of (Gap ∷ demand_pieces known d)
demand_bytes known d = refl

-- ---- and the grammar sees the entries

pub node_seen : (line : ℕ) (n : NetNode) → flat_map (seen_on line) (node_pieces n) ≡ node (node_entry line n)
node_seen line n = ap (λ l. Name (word_on line n.id) ∷ l) (placed line n.place)
  where
    placed : (line : ℕ) (p : Option (List (List ℕ))) → flat_map (seen_on line) (place_pieces p) ≡ place (option_map (map (word_on line)) p)
    placed line None = refl
    placed line (Some ws) = ap (λ l. Left ∷ l) (rw (flat_map-append (seen_on line) (map Named ws) (Closes ∷ []), named_seen line ws) refl)

pub demand_seen : (known : List (List ℕ)) (line : ℕ) (d : NetDemand) → flat_map (seen_on line) (demand_pieces known d) ≡ demand (demand_entry known line d)
demand_seen known line d = refl

modules_seen : (line : ℕ) (ms : List (List ℕ)) → AreModules ms → flat_map (seen_on line) (map Named ms) ≡ flat_map pair (modules_on line ms)
modules_seen line [] are = refl
modules_seen line (capacity ∷ []) are = absurd are
modules_seen line (capacity ∷ cost ∷ more) are = ap (λ l. Name (word_on line capacity) ∷ Name (word_on line cost) ∷ l) (modules_seen line more are.1)

tail_seen : (line : ℕ) (costs modules : List (List ℕ)) → length costs ≡ 3 → AreModules modules
    → flat_map (seen_on line) ((map Named costs ++ Opens ∷ map Named modules) ++ Closes ∷ [])
    ≡ Name (word_on line (slice_index_or costs 0 [])) ∷ Name (word_on line (slice_index_or costs 1 [])) ∷ Name (word_on line (slice_index_or costs 2 [])) ∷ Left ∷ flat_map pair (modules_on line modules) ++ Right ∷ []
tail_seen line (a ∷ b ∷ c ∷ []) modules e are = ap (λ l. Name (word_on line a) ∷ Name (word_on line b) ∷ Name (word_on line c) ∷ Left ∷ l) (rw (flat_map-append (seen_on line) (map Named modules) (Closes ∷ []), modules_seen line modules are) refl)
tail_seen line [] modules e are = absurd (omega arith)
tail_seen line (a ∷ []) modules e are = absurd (omega arith)
tail_seen line (a ∷ b ∷ []) modules e are = absurd (omega arith)
tail_seen line (a ∷ b ∷ c ∷ d ∷ more) modules e are = absurd (omega arith)

pub link_seen : (known : List (List ℕ)) (line : ℕ) (l : NetLink) → length l.costs ≡ 3 → AreModules l.modules → flat_map (seen_on line) (link_pieces known l) ≡ link (link_entry known line l)
link_seen known line l e are = ap (λ t. Name (word_on line l.id) ∷ Left ∷ Name (word_on line (name_at known l.source)) ∷ Name (word_on line (name_at known l.target)) ∷ Right ∷ Name (word_on line l.installed) ∷ t) (tail_seen line l.costs l.modules e are)

-- ---- all entries of a section

pub all_seen : {X E : Type 0} (pieces : X → List Piece) (entry : ℕ → X → E) (symbols : E → List Symbol) (line : ℕ) (xs : List X) → AllByRecursion (λ x. (k : ℕ) → flat_map (seen_on k) (pieces x) ≡ symbols (entry k x)) xs
    → seen_from pieces line xs ≡ flat_map symbols (on_lines entry line xs)
all_seen pieces entry symbols line [] are = refl
all_seen pieces entry symbols line (x ∷ xs) are = rw (are.0 line, all_seen pieces entry symbols (line + 1) xs are.1) refl
