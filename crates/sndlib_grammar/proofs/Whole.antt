-- A whole text: read to its end exactly where it is of the grammar, with the entries of the grammar.
use Rattle.std.proofs.Common.{◌≡◌, ℕ, suc, ◌+◌, List, [], ◌∷◌, ◌++◌, length, refl, ap, sym, ◌∙◌, arith, append_assoc, append-nil, Option, Some, None}
use Rattle.std.specs.Prelude.{option_and_then}
use Rattle.std.specs.List.{flat_map, AllByRecursion}
use Rattle.sndlib_grammar.specs.declared.mode.Part.{Part}
use Rattle.sndlib_grammar.specs.declared.mode.Part.TheVariants as parts
use Rattle.sndlib_grammar.specs.declared.mode.Mode.{Mode}
use Rattle.sndlib_grammar.specs.declared.mode.Mode.TheVariants.{Between, Skipping, Nodes, Node, Place, Links, Capacity, Demands}
use Rattle.sndlib_grammar.specs.Grammar.{Symbol, Left, Right, Name, Word, NodeEntry, LinkEntry, DemandEntry, Entries, names, place, node, link, demand, Items, Nothing, AWord, AGroup, items, Skip, skip, section, IsSkip, Module, pair, File, spelled, entries, IsFile, IsNetwork, IsBegun}
use Rattle.sndlib_grammar.specs.Modes.{keyword_of, between}
use Rattle.sndlib_grammar.specs.Reading.{Sofar, Draft, read, walk, at_start, with_node, with_link, with_demand, with_skip}
use Rattle.sndlib_grammar.proofs.Keywords.{IsKeyword, is_keyword}
use Rattle.sndlib_grammar.proofs.Meaning.{with_skips, with_nodes, with_links, with_demands, FromNodes}
use Rattle.sndlib_grammar.proofs.Closing.{closing, closes}
use Rattle.sndlib_grammar.proofs.Walking.{read-append, read-refused}
use Rattle.sndlib_grammar.proofs.Sound.{sound}

-- ---- what was read is of the grammar

whole : (found : Entries) (ts : List Symbol) → FromNodes found at_start.entries ts → IsNetwork ts found
whole found ts a =
    let n = a.then in
    let ns = n.then in
    let b = ns.then in
    let l = b.then in
    let ls = l.then in
    let c = ls.then in
    let d = c.then in
    let ds = d.then in
    let e = ds.then in
    let f : File = record {
      before_nodes = a.skips;
      nodes_name = n.word;
      nodes = ns.nodes;
      before_links = b.skips;
      links_name = l.word;
      links = ls.links;
      before_demands = c.skips;
      demands_name = d.word;
      demands = ds.demands;
      behind = e.skips;
    } in
    let t4 : e.rest ≡ [] = e.then.none in
    let t3 : ds.rest ≡ flat_map skip e.skips = e.text ∙ ap (λ (x : List Symbol). flat_map skip e.skips ++ x) t4 ∙ append-nil (flat_map skip e.skips) in
    let t2 : c.rest ≡ section d.word (flat_map demand ds.demands) ++ flat_map skip e.skips =
    d.text ∙ ap (λ (x : List Symbol). Name d.word ∷ Left ∷ x) (ds.text ∙ ap (λ (x : List Symbol). flat_map demand ds.demands ++ Right ∷ x) t3 ∙ sym (append_assoc (flat_map demand ds.demands) (Right ∷ []) (flat_map skip e.skips))) in
    let r2 = section d.word (flat_map demand ds.demands) ++ flat_map skip e.skips in
    let u2 = flat_map skip c.skips ++ r2 in
    let t1 : b.rest ≡ section l.word (flat_map link ls.links) ++ u2 =
    l.text ∙ ap (λ (x : List Symbol). Name l.word ∷ Left ∷ x) (ls.text ∙ ap (λ (x : List Symbol). flat_map link ls.links ++ Right ∷ x) (c.text ∙ ap (λ (x : List Symbol). flat_map skip c.skips ++ x) t2) ∙ sym (append_assoc (flat_map link ls.links) (Right ∷ []) u2)) in
    let u1 = flat_map skip b.skips ++ (section l.word (flat_map link ls.links) ++ u2) in
    let t0 : a.rest ≡ section n.word (flat_map node ns.nodes) ++ u1 =
    n.text ∙ ap (λ (x : List Symbol). Name n.word ∷ Left ∷ x) (ns.text ∙ ap (λ (x : List Symbol). flat_map node ns.nodes ++ Right ∷ x) (b.text ∙ ap (λ (x : List Symbol). flat_map skip b.skips ++ x) t1) ∙ sym (append_assoc (flat_map node ns.nodes) (Right ∷ []) u1)) in
    let count : 0 + length a.skips + length b.skips + length c.skips + length e.skips ≡ length a.skips + length b.skips + length c.skips + length e.skips = omega arith in
    record {
      file = f;
      fits = record { before_nodes = a.fit; nodes_name = n.is; before_links = b.fit; links_name = l.is; before_demands = c.fit; demands_name = d.is; behind = e.fit };
      text = a.text ∙ ap (λ (x : List Symbol). flat_map skip a.skips ++ x) t0;
      entries_are = e.then.entries ∙ ap (λ (k : ℕ). record { nodes = ns.nodes; links = ls.links; demands = ds.demands; skipped = k }) count;
    }

pub accepted : (ts : List Symbol) (found : Entries) → read (Between parts.Nodes) at_start ts ≡ Some found → IsNetwork ts found
accepted ts found h = whole found ts (sound ts (Between parts.Nodes) at_start found h)

-- ---- what is of the grammar is read

items_read : (i : Items) (p : Part) (depth : ℕ) (s : Sofar) (ts : List Symbol) → read (Skipping p depth) s (items i ++ ts) ≡ read (Skipping p depth) s ts
items_read Nothing p depth s ts = refl
items_read (AWord w more) p depth s ts = items_read more p depth s ts
items_read (AGroup inside more) p depth s ts =
    ap (λ (x : List Symbol). read (Skipping p (suc depth)) s x) (append_assoc (items inside) (Right ∷ items more) ts)
    ∙ items_read inside p (suc depth) s (Right ∷ (items more ++ ts)) ∙ items_read more p depth s ts

skip_read : (x : Skip) (p : Part) (s : Sofar) (ts : List Symbol) → IsSkip x → read (Between p) s (skip x ++ ts) ≡ read (Between p) (record s { entries = with_skip s.entries }) ts
skip_read x p s ts is =
    let other : keyword_of x.name.text ≡ parts.Rest = is_keyword parts.Rest x.name.text (is.not_nodes, is.not_links, is.not_demands) in
    let named : read (Between p) s (skip x ++ ts) ≡ read (Skipping p 0) s ((items x.inside ++ Right ∷ []) ++ ts) =
    ap (λ (k : Part). option_and_then (λ m. read m s (Left ∷ (items x.inside ++ Right ∷ []) ++ ts)) (between p k)) other in
    named ∙ ap (λ (y : List Symbol). read (Skipping p 0) s y) (append_assoc (items x.inside) (Right ∷ []) ts) ∙ items_read x.inside p 0 s (Right ∷ ts)

skips_read : (xs : List Skip) (p : Part) (s : Sofar) (ts : List Symbol) → AllByRecursion IsSkip xs → read (Between p) s (flat_map skip xs ++ ts) ≡ read (Between p) (record s { entries = with_skips s.entries (length xs) }) ts
skips_read [] p s ts is = let none : s.entries.skipped ≡ s.entries.skipped + 0 = omega arith in ap (λ (k : ℕ). read (Between p) (record s { entries = record s.entries { skipped = k } }) ts) none
skips_read (x ∷ xs) p s ts is =
    let count : s.entries.skipped + 1 + length xs ≡ s.entries.skipped + suc (length xs) = omega arith in
    ap (λ (y : List Symbol). read (Between p) s y) (append_assoc (skip x) (flat_map skip xs) ts)
    ∙ skip_read x p s (flat_map skip xs ++ ts) is.0
    ∙ skips_read xs p (record s { entries = with_skip s.entries }) ts is.1
    ∙ ap (λ (k : ℕ). read (Between p) (record s { entries = record s.entries { skipped = k } }) ts) count

-- from this state, whatever was read of a next entry, the symbols lead to these entries
abbrev Leads : Mode → Entries → List Symbol → Entries → Type 0
Leads m r ts found = (draft : Draft) (words : List Word) (ms : List Module) → read m (record { draft = draft; words = words; modules = ms; entries = r }) ts ≡ Some found

place_read : (ws : List Word) (s : Sofar) (ts : List Symbol) → read Place s (names ws ++ ts) ≡ read Place (record s { words = s.words ++ ws }) ts
place_read [] s ts = ap (λ (ws : List Word). read Place (record s { words = ws }) ts) (sym (append-nil s.words))
place_read (w ∷ ws) s ts = place_read ws (record s { words = s.words ++ w ∷ [] }) ts ∙ ap (λ (ws : List Word). read Place (record s { words = ws }) ts) (append_assoc s.words (w ∷ []) ws)

modules_read : (ms : List Module) (s : Sofar) (ts : List Symbol) (found : Entries) → ((w : Word) → read Capacity (record s { draft = record s.draft { capacity = w }; modules = s.modules ++ ms }) ts ≡ Some found)
    → read Capacity s (flat_map pair ms ++ ts) ≡ Some found
modules_read [] s ts found h = ap (λ (ms : List Module). read Capacity (record s { modules = ms }) ts) (sym (append-nil s.modules)) ∙ h s.draft.capacity
modules_read (m ∷ ms) s ts found h =
    modules_read ms (record s { draft = record s.draft { capacity = m.capacity }; modules = s.modules ++ m ∷ [] }) ts found
    (λ w. ap (λ (all : List Module). read Capacity (record s { draft = record s.draft { capacity = w }; modules = all }) ts) (append_assoc s.modules (m ∷ []) ms) ∙ h w)

-- behind the id of a node without a place
bare_read : (ns : List NodeEntry) (s : Sofar) (ts : List Symbol) → read Node s (flat_map node ns ++ Right ∷ ts) ≡ read Nodes (record s { entries = with_node s.entries (record { id = s.draft.id; place = None }) }) (flat_map node ns ++ Right ∷ ts)
bare_read [] s ts = refl
bare_read (n ∷ ns) s ts = refl

node_read : (id : Word) (at : Option (List Word)) (ns : List NodeEntry) (r found : Entries) (ts : List Symbol) → Leads Nodes (with_node r (record { id = id; place = at })) (flat_map node ns ++ Right ∷ ts) found
    → (draft : Draft) (words : List Word) (ms : List Module) → read Node (record { draft = record draft { id = id }; words = words; modules = ms; entries = r }) ((place at ++ flat_map node ns) ++ Right ∷ ts) ≡ Some found
node_read id None ns r found ts next draft words ms = bare_read ns (record { draft = record draft { id = id }; words = words; modules = ms; entries = r }) ts ∙ next (record draft { id = id }) words ms
node_read id (Some ws) ns r found ts next draft words ms =
    let s : Sofar = record { draft = record draft { id = id }; words = []; modules = ms; entries = r } in
    let regroup : ((names ws ++ Right ∷ []) ++ flat_map node ns) ++ Right ∷ ts ≡ names ws ++ (Right ∷ (flat_map node ns ++ Right ∷ ts)) = simp append_assoc in
    ap (λ (y : List Symbol). read Place s y) regroup ∙ place_read ws s (Right ∷ (flat_map node ns ++ Right ∷ ts)) ∙ next (record draft { id = id }) [] ms

nodes_read : (ns : List NodeEntry) (r found : Entries) (ts : List Symbol) → Leads (Between parts.Links) (with_nodes r ns) ts found → Leads Nodes r (flat_map node ns ++ Right ∷ ts) found
nodes_read [] r found ts h draft words ms = ap (λ (ns : List NodeEntry). read (Between parts.Links) (record { draft = draft; words = words; modules = ms; entries = record r { nodes = ns } }) ts) (sym (append-nil r.nodes)) ∙ h draft words ms
nodes_read (n ∷ ns) r found ts h draft words ms =
    let next = nodes_read ns (with_node r n) found ts (λ (d : Draft) (ws : List Word) (os : List Module). ap (λ (all : List NodeEntry). read (Between parts.Links) (record { draft = d; words = ws; modules = os; entries = record r { nodes = all } }) ts) (append_assoc r.nodes (n ∷ []) ns) ∙ h d ws os) in
    node_read n.id n.place ns r found ts next draft words ms

links_read : (ls : List LinkEntry) (r found : Entries) (ts : List Symbol) → Leads (Between parts.Demands) (with_links r ls) ts found → Leads Links r (flat_map link ls ++ Right ∷ ts) found
links_read [] r found ts h draft words ms = ap (λ (ls : List LinkEntry). read (Between parts.Demands) (record { draft = draft; words = words; modules = ms; entries = record r { links = ls } }) ts) (sym (append-nil r.links)) ∙ h draft words ms
links_read (l ∷ ls) r found ts h draft words ms =
    let next = links_read ls (with_link r l) found ts (λ (d : Draft) (ws : List Word) (os : List Module). ap (λ (all : List LinkEntry). read (Between parts.Demands) (record { draft = d; words = ws; modules = os; entries = record r { links = all } }) ts) (append_assoc r.links (l ∷ []) ls) ∙ h d ws os) in
    let d : Draft = record { id = l.id; source = l.source; target = l.target; first = l.installed; second = l.installed_cost; third = l.routing_cost; fourth = l.setup_cost; capacity = draft.capacity } in
    let s : Sofar = record { draft = d; words = words; modules = []; entries = r } in
    let regroup : ((flat_map pair l.modules ++ Right ∷ []) ++ flat_map link ls) ++ Right ∷ ts ≡ flat_map pair l.modules ++ (Right ∷ (flat_map link ls ++ Right ∷ ts)) = simp append_assoc in
    ap (λ (y : List Symbol). read Capacity s y) regroup ∙ modules_read l.modules s (Right ∷ (flat_map link ls ++ Right ∷ ts)) found (λ w. next (record d { capacity = w }) words [])

demands_read : (ds : List DemandEntry) (r found : Entries) (ts : List Symbol) → Leads (Between parts.Rest) (with_demands r ds) ts found → Leads Demands r (flat_map demand ds ++ Right ∷ ts) found
demands_read [] r found ts h draft words ms = ap (λ (ds : List DemandEntry). read (Between parts.Rest) (record { draft = draft; words = words; modules = ms; entries = record r { demands = ds } }) ts) (sym (append-nil r.demands)) ∙ h draft words ms
demands_read (d ∷ ds) r found ts h draft words ms =
    let next = demands_read ds (with_demand r d) found ts (λ (e : Draft) (ws : List Word) (os : List Module). ap (λ (all : List DemandEntry). read (Between parts.Rest) (record { draft = e; words = ws; modules = os; entries = record r { demands = all } }) ts) (append_assoc r.demands (d ∷ []) ds) ∙ h e ws os) in
    next (record draft { id = d.id; source = d.source; target = d.target; first = d.unit; second = d.value }) words ms

-- a section of entries, where the name is the one that comes next
opened : (p : Part) (m : Mode) (name : Word) (inside rest : List Symbol) (s : Sofar) (found : Entries) → ((x : List Symbol) → option_and_then (λ k. read k s (Left ∷ x)) (between p p) ≡ read m s x)
    → IsKeyword p name.text → read m s (inside ++ Right ∷ rest) ≡ Some found → read (Between p) s (section name inside ++ rest) ≡ Some found
opened p m name inside rest s found steps is h =
    let key : keyword_of name.text ≡ p = is_keyword p name.text is in
    ap (λ (k : Part). option_and_then (λ n. read n s (Left ∷ (inside ++ Right ∷ []) ++ rest)) (between p k)) key
    ∙ steps ((inside ++ Right ∷ []) ++ rest) ∙ ap (λ (y : List Symbol). read m s y) (append_assoc inside (Right ∷ []) rest) ∙ h

pub read_whole : (f : File) → IsFile f → read (Between parts.Nodes) at_start (spelled f) ≡ Some (entries f)
read_whole f is =
    let n0 = length f.before_nodes in
    let n1 = length f.before_links in
    let n2 = length f.before_demands in
    let n3 = length f.behind in
    let count : 0 + n0 + n1 + n2 + n3 ≡ n0 + n1 + n2 + n3 = omega arith in
    let t3 = flat_map skip f.behind in
    let t2 = flat_map skip f.before_demands ++ (section f.demands_name (flat_map demand f.demands) ++ t3) in
    let t1 = flat_map skip f.before_links ++ (section f.links_name (flat_map link f.links) ++ t2) in
    let r0 : Entries = record { nodes = []; links = []; demands = []; skipped = 0 + n0 } in
    let r1 : Entries = record { nodes = f.nodes; links = []; demands = []; skipped = 0 + n0 + n1 } in
    let r2 : Entries = record { nodes = f.nodes; links = f.links; demands = []; skipped = 0 + n0 + n1 + n2 } in
    let last : Leads (Between parts.Rest) (with_demands r2 f.demands) t3 (entries f) = λ (d : Draft) (ws : List Word) (ms : List Module).
    let s : Sofar = record { draft = d; words = ws; modules = ms; entries = with_demands r2 f.demands } in
    ap (λ (y : List Symbol). read (Between parts.Rest) s y) (sym (append-nil t3)) ∙ skips_read f.behind parts.Rest s [] is.behind
    ∙ ap (λ (k : ℕ). Some (record { nodes = f.nodes; links = f.links; demands = f.demands; skipped = k })) count in
    let third : Leads (Between parts.Demands) (record { nodes = f.nodes; links = f.links; demands = []; skipped = 0 + n0 + n1 }) t2 (entries f) = λ (d : Draft) (ws : List Word) (ms : List Module).
    skips_read f.before_demands parts.Demands (record { draft = d; words = ws; modules = ms; entries = record { nodes = f.nodes; links = f.links; demands = []; skipped = 0 + n0 + n1 } }) (section f.demands_name (flat_map demand f.demands) ++ t3) is.before_demands
    ∙ opened parts.Demands Demands f.demands_name (flat_map demand f.demands) t3 (record { draft = d; words = ws; modules = ms; entries = r2 }) (entries f) (λ x. refl) is.demands_name (demands_read f.demands r2 (entries f) t3 last d ws ms) in
    let second : Leads (Between parts.Links) (record { nodes = f.nodes; links = []; demands = []; skipped = 0 + n0 }) t1 (entries f) = λ (d : Draft) (ws : List Word) (ms : List Module).
    skips_read f.before_links parts.Links (record { draft = d; words = ws; modules = ms; entries = record { nodes = f.nodes; links = []; demands = []; skipped = 0 + n0 } }) (section f.links_name (flat_map link f.links) ++ t2) is.before_links
    ∙ opened parts.Links Links f.links_name (flat_map link f.links) t2 (record { draft = d; words = ws; modules = ms; entries = r1 }) (entries f) (λ x. refl) is.links_name (links_read f.links r1 (entries f) t2 third d ws ms) in
    skips_read f.before_nodes parts.Nodes at_start (section f.nodes_name (flat_map node f.nodes) ++ t1) is.before_nodes
    ∙ opened parts.Nodes Nodes f.nodes_name (flat_map node f.nodes) t1 (record at_start { entries = r0 }) (entries f) (λ x. refl) is.nodes_name (nodes_read f.nodes r0 (entries f) t1 second at_start.draft at_start.words at_start.modules)

pub completed : (ts : List Symbol) (found : Entries) → IsNetwork ts found → read (Between parts.Nodes) at_start ts ≡ Some found
completed ts found net = ap (λ (y : List Symbol). read (Between parts.Nodes) at_start y) net.text ∙ read_whole net.file net.fits ∙ ap (λ (r : Entries). Some r) (sym net.entries_are)

-- ---- laws

-- a text has one list of entries
pub one_reading : (ts : List Symbol) (a b : Entries) → IsNetwork ts a → IsNetwork ts b → a ≡ b
one_reading ts a b x y = let e = completed ts a x in let f = completed ts b y in cc

-- some text begins with the symbols exactly where reading has a state behind them
pub begun : (ts : List Symbol) (m : Mode) → walk (Between parts.Nodes) ts ≡ Some m → IsBegun ts
begun ts m h =
    let go = read-append ts (Between parts.Nodes) at_start m h in
    let end = closes m go.0 in
    (closing m, end.0, accepted (ts ++ closing m) end.0 (go.1 (closing m) ∙ end.1))

pub not_begun : (ts : List Symbol) → walk (Between parts.Nodes) ts ≡ None → IsBegun ts → ⊥
not_begun ts h b = let e = completed (ts ++ b.0) b.1 b.2 in let f = read-refused ts (Between parts.Nodes) at_start b.0 h in absurd cc
