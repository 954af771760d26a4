-- The entries of tokens, read one by one.
use Rattle.std.specs.Prelude.{ℕ, zero, ◌+◌, List, [], ◌∷◌, ◌++◌, length, Option, Some, None, Result, Ok, Err, nat_lt, if◌then◌else◌, option_and_then}
use Rattle.std.specs.Option.{option_map_or}
use Rattle.mcf_limits.specs.declared.TheConstants.{MAX_WORD_BYTES}
use Rattle.sndlib_grammar.specs.Tokens.{Lexeme}
use Rattle.sndlib_grammar.specs.declared.mode.Part.TheVariants as parts
use Rattle.sndlib_grammar.specs.declared.mode.Mode.{Mode}
use Rattle.sndlib_grammar.specs.declared.mode.Mode.TheVariants.{Between, Skipping, Nodes, Node, Place, Links, LinkSource, LinkTarget, Installed, InstalledCost, RoutingCost, SetupCost, Modules, Capacity, CapacityCost, Demands, DemandSource, DemandTarget, Unit as Units, Value, Longest}
use Rattle.sndlib_grammar.specs.declared.refusal.NetKind.{NetKind}
use Rattle.sndlib_grammar.specs.declared.refusal.NetKind.TheVariants as netkinds
use Rattle.sndlib_grammar.specs.declared.refusal.NetRefusal.{NetRefusal}
use Rattle.sndlib_grammar.specs.Grammar.{Word, Symbol, Left, Right, Name, NodeEntry, Module, LinkEntry, DemandEntry, Entries, symbol}
use Rattle.sndlib_grammar.specs.Modes.{opened, closed, named}

-- the first words of the entry that is being read, and the capacity of a module whose cost comes next
pub record Draft : Type 0 where
  pub id : Word
  pub source : Word
  pub target : Word
  pub first : Word
  pub second : Word
  pub third : Word
  pub fourth : Word
  pub capacity : Word

-- the entries so far, and what was read of the next: its first words, a node's coordinates, and a link's modules
pub record Sofar : Type 0 where
  pub draft : Draft
  pub words : List Word
  pub modules : List Module
  pub entries : Entries

abbrev pub with_node : Entries → NodeEntry → Entries
with_node r n = record r { nodes = r.nodes ++ n ∷ [] }

abbrev pub with_link : Entries → LinkEntry → Entries
with_link r l = record r { links = r.links ++ l ∷ [] }

abbrev pub with_demand : Entries → DemandEntry → Entries
with_demand r d = record r { demands = r.demands ++ d ∷ [] }

abbrev pub with_skip : Entries → Entries
with_skip r = record r { skipped = r.skipped + 1 }

abbrev pub link_of : Draft → List Module → LinkEntry
link_of d modules = record { id = d.id; source = d.source; target = d.target; installed = d.first; installed_cost = d.second; routing_cost = d.third; setup_cost = d.fourth; modules = modules }

abbrev pub demand_of : Draft → Word → DemandEntry
demand_of d longest = record { id = d.id; source = d.source; target = d.target; unit = d.first; value = d.second; longest = longest }

-- what is kept at a left parenthesis
abbrev pub at_left : Mode → Sofar → Sofar
at_left Node s = record s { words = [] }
at_left Modules s = record s { modules = [] }
at_left _ s = s

-- what is kept at a right parenthesis
abbrev pub at_right : Mode → Sofar → Sofar
at_right (Skipping part zero) s = record s { entries = with_skip s.entries }
at_right Node s = record s { entries = with_node s.entries (record { id = s.draft.id; place = None }) }
at_right Place s = record s { words = []; entries = with_node s.entries (record { id = s.draft.id; place = Some s.words }) }
at_right Capacity s = record s { modules = []; entries = with_link s.entries (link_of s.draft s.modules) }
at_right _ s = s

-- what is kept at a word
abbrev pub at_word : Mode → Word → Sofar → Sofar
at_word Nodes w s = record s { draft = record s.draft { id = w } }
at_word Node w s = record s { draft = record s.draft { id = w }; entries = with_node s.entries (record { id = s.draft.id; place = None }) }
at_word Place w s = record s { words = s.words ++ w ∷ [] }
at_word Links w s = record s { draft = record s.draft { id = w } }
at_word LinkSource w s = record s { draft = record s.draft { source = w } }
at_word LinkTarget w s = record s { draft = record s.draft { target = w } }
at_word Installed w s = record s { draft = record s.draft { first = w } }
at_word InstalledCost w s = record s { draft = record s.draft { second = w } }
at_word RoutingCost w s = record s { draft = record s.draft { third = w } }
at_word SetupCost w s = record s { draft = record s.draft { fourth = w } }
at_word Capacity w s = record s { draft = record s.draft { capacity = w } }
at_word CapacityCost w s = record s { modules = s.modules ++ record { capacity = s.draft.capacity; cost = w } ∷ [] }
at_word Demands w s = record s { draft = record s.draft { id = w } }
at_word DemandSource w s = record s { draft = record s.draft { source = w } }
at_word DemandTarget w s = record s { draft = record s.draft { target = w } }
at_word Units w s = record s { draft = record s.draft { first = w } }
at_word Value w s = record s { draft = record s.draft { second = w } }
at_word Longest w s = record s { entries = with_demand s.entries (demand_of s.draft w) }
at_word _ w s = s

abbrev pub mode_after : Mode → Symbol → Option Mode
mode_after m Left = opened m
mode_after m Right = closed m
mode_after m (Name w) = named m w.text

abbrev pub kept : Mode → Symbol → Sofar → Sofar
kept m Left s = at_left m s
kept m Right s = at_right m s
kept m (Name w) s = at_word m w s

-- nothing more has to come
abbrev pub finished : Mode → Entries → Option Entries
finished (Between parts.Rest) r = Some r
finished _ r = None

-- where reading stands after the symbols
abbrev pub walk : Mode → List Symbol → Option Mode
walk m [] = Some m
walk m (t ∷ ts) = option_and_then (λ next. walk next ts) (mode_after m t)

-- the entries that reading ends with, where these symbols come to the end
abbrev pub read : Mode → Sofar → List Symbol → Option Entries
read m s [] = finished m s.entries
read m s (t ∷ ts) = option_and_then (λ next. read next (kept m t s) ts) (mode_after m t)

abbrev pub refused : NetKind → ℕ → Result Entries NetRefusal
refused kind line = Err (record { line = line; kind = kind })

-- the same of the tokens of a text, with the first refusal; `end` is the line of the end
abbrev pub scan : ℕ → Mode → Sofar → List Lexeme → Result Entries NetRefusal
scan end m s [] = option_map_or Ok (finished m s.entries) (refused netkinds.Syntax end)
scan end m s (t ∷ ts) =
    if nat_lt MAX_WORD_BYTES (length t.text) then refused netkinds.LongWord t.line
    else option_map_or (λ next. scan end next (kept m (symbol t) s) ts) (mode_after m (symbol t)) (refused netkinds.Syntax t.line)

-- before the first token
abbrev pub no_word : Word
no_word = record { text = []; line = 0 }

abbrev pub at_start : Sofar
at_start = record {
  draft = record { id = no_word; source = no_word; target = no_word; first = no_word; second = no_word; third = no_word; fourth = no_word; capacity = no_word };
  words = [];
  modules = [];
  entries = record { nodes = []; links = []; demands = []; skipped = 0 };
}
