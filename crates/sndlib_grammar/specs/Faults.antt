-- What is wrong with entries: the refusals behind those of the grammar.
use Rattle.std.specs.Prelude.{ℕ, Bool, not, ◌||◌, List, [], ◌∷◌, ◌++◌, map, Option, Some, None, if◌then◌else◌, codes, slice_get, find}
use Rattle.std.specs.List.{list_any}
use Rattle.std.specs.Option.{option_map}
use Rattle.std.specs.Str.{bytes_eq}
use Rattle.sndlib_grammar.specs.declared.refusal.NetKind.{NetKind}
use Rattle.sndlib_grammar.specs.declared.refusal.NetKind.TheVariants as netkinds
use Rattle.sndlib_grammar.specs.declared.refusal.NetRefusal.{NetRefusal}
use Rattle.mcf_limits.specs.declared.TheConstants.{MAX_DEMANDS, MAX_LINKS, MAX_NODES}
use Rattle.sndlib_grammar.specs.Grammar.{Word, Module, LinkEntry, DemandEntry, Entries}
use Rattle.sndlib_grammar.specs.Number.{is_number}

abbrev pub node_ids : Entries → List Word
node_ids r = map (λ n. n.id) r.nodes

abbrev pub link_ids : Entries → List Word
link_ids r = map (λ l. l.id) r.links

abbrev pub demand_ids : Entries → List Word
demand_ids r = map (λ d. d.id) r.demands

abbrev pub texts : List Word → List (List ℕ)
texts words = map (λ w. w.text) words

-- whether the word is one of these
abbrev pub is_among : List (List ℕ) → Word → Bool
is_among known w = list_any (bytes_eq w.text) known

abbrev pub or_else : {X : Type 0} → Option X → Option X → Option X
or_else None other = other
or_else (Some x) other = Some x

abbrev pub line_of : Option Word → Option ℕ
line_of found = option_map (λ w. w.line) found

-- what the first of the entries gives that gives something
abbrev pub first_of : {X Y : Type 0} → (X → Option Y) → List X → Option Y
first_of f [] = None
first_of f (x ∷ xs) = or_else (f x) (first_of f xs)

-- the line of the id at which there is one entry too many
abbrev pub too_many : Entries → Option ℕ
too_many r = or_else (line_of (slice_get (node_ids r) MAX_NODES)) (or_else (line_of (slice_get (link_ids r) MAX_LINKS)) (line_of (slice_get (demand_ids r) MAX_DEMANDS)))

-- the first of the words that a known one or an earlier one equals
abbrev pub first_repeated : List (List ℕ) → List Word → Option Word
first_repeated known [] = None
first_repeated known (w ∷ ws) = if is_among known w then Some w else first_repeated (known ++ w.text ∷ []) ws

abbrev pub repeated : Entries → Option ℕ
repeated r = or_else (line_of (first_repeated [] (node_ids r))) (or_else (line_of (first_repeated [] (link_ids r))) (line_of (first_repeated [] (demand_ids r))))

-- the first end of a entry that is no name of a node
abbrev pub first_unknown : List (List ℕ) → List Word → Option ℕ
first_unknown known ends = line_of (find (λ w. not (is_among known w)) ends)

abbrev pub unknown_of_link : List (List ℕ) → LinkEntry → Option ℕ
unknown_of_link known l = first_unknown known (l.source ∷ l.target ∷ [])

abbrev pub unknown_of_demand : List (List ℕ) → DemandEntry → Option ℕ
unknown_of_demand known d = first_unknown known (d.source ∷ d.target ∷ [])

abbrev pub unknown_among : List (List ℕ) → Entries → Option ℕ
unknown_among known r = or_else (first_of (unknown_of_link known) r.links) (first_of (unknown_of_demand known) r.demands)

abbrev pub unknown : Entries → Option ℕ
unknown r = unknown_among (texts (node_ids r)) r

abbrev pub is_bad : Word → Bool
is_bad w = not (is_number w.text)

-- the longest path is a number, or there is no limit
abbrev pub is_bad_longest : Word → Bool
is_bad_longest w = not (bytes_eq w.text (codes "UNLIMITED") || is_number w.text)

-- the first capacity among those of modules that is no number
abbrev pub bad_module : List Module → Option ℕ
bad_module modules = line_of (find is_bad (map (λ m. m.capacity) modules))

abbrev pub bad_of_link : LinkEntry → Option ℕ
bad_of_link l = or_else (line_of (find is_bad (l.installed ∷ []))) (bad_module l.modules)

abbrev pub bad_of_demand : DemandEntry → Option ℕ
bad_of_demand d = line_of (or_else (find is_bad (d.unit ∷ d.value ∷ [])) (find is_bad_longest (d.longest ∷ [])))

abbrev pub bad_number : Entries → Option ℕ
bad_number r = or_else (first_of bad_of_link r.links) (first_of bad_of_demand r.demands)

abbrev pub at_line : NetKind → Option ℕ → Option NetRefusal
at_line kind found = option_map (λ line. record { line = line; kind = kind }) found

-- the refusal of the entries, in the order of the kinds
abbrev pub fault_of : Entries → Option NetRefusal
fault_of r = or_else (at_line netkinds.TooMany (too_many r)) (or_else (at_line netkinds.Duplicate (repeated r)) (or_else (at_line netkinds.UnknownNode (unknown r)) (at_line netkinds.BadNumber (bad_number r))))
