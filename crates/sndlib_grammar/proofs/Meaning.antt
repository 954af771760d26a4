-- What symbols that lead from a state to the end of a text are.
use Rattle.std.proofs.Common.{◌≡◌, ℕ, zero, suc, ◌+◌, List, [], ◌∷◌, ◌++◌, length, Option, Some}
use Rattle.std.specs.Prelude.{codes}
use Rattle.std.specs.List.{flat_map, AllByRecursion}
use Rattle.sndlib_grammar.specs.declared.mode.Part.{Part}
use Rattle.sndlib_grammar.specs.declared.mode.Part.TheVariants as parts
use Rattle.sndlib_grammar.specs.declared.mode.Mode.{Mode}
use Rattle.sndlib_grammar.specs.declared.mode.Mode.TheVariants.{Between, OpeningNodes, OpeningLinks, OpeningDemands, Naming, Skipping, Nodes, Node, Place, Links, Capacity, Demands}
use Rattle.sndlib_grammar.specs.Grammar.{Symbol, Left, Right, Name, Word, NodeEntry, LinkEntry, DemandEntry, Entries, names, place, node, link, demand, Items, items, Skip, skip, IsSkip, Module, pair}
use Rattle.sndlib_grammar.specs.Reading.{Sofar, Draft, with_node, with_link, with_skip, link_of}

abbrev pub with_skips : Entries → ℕ → Entries
with_skips r n = record r { skipped = r.skipped + n }

abbrev pub with_nodes : Entries → List NodeEntry → Entries
with_nodes r nodes = record r { nodes = r.nodes ++ nodes }

abbrev pub with_links : Entries → List LinkEntry → Entries
with_links r links = record r { links = r.links ++ links }

abbrev pub with_demands : Entries → List DemandEntry → Entries
with_demands r demands = record r { demands = r.demands ++ demands }

-- skipped sections, and then the rest
pub record AfterSkips (r : Entries) (ts : List Symbol) (P : Entries → List Symbol → Type 0) : Type 0 where
  pub skips : List Skip
  pub rest : List Symbol
  pub fit : AllByRecursion IsSkip skips
  pub text : ts ≡ flat_map skip skips ++ rest
  pub then : P (with_skips r (length skips)) rest

-- the name of a section and what its group begins with
pub record Opens (name : List ℕ) (r : Entries) (ts : List Symbol) (P : Entries → List Symbol → Type 0) : Type 0 where
  pub word : Word
  pub rest : List Symbol
  pub is : word.text ≡ name
  pub text : ts ≡ Name word ∷ Left ∷ rest
  pub then : P r rest

pub record Ends (found r : Entries) (ts : List Symbol) : Type 0 where
  pub none : ts ≡ []
  pub entries : found ≡ r

abbrev pub FromRest : Entries → Entries → List Symbol → Type 0
FromRest found r ts = AfterSkips r ts (Ends found)

pub record InDemands (found r : Entries) (ts : List Symbol) : Type 0 where
  pub demands : List DemandEntry
  pub rest : List Symbol
  pub text : ts ≡ flat_map demand demands ++ Right ∷ rest
  pub then : FromRest found (with_demands r demands) rest

abbrev pub FromDemands : Entries → Entries → List Symbol → Type 0
FromDemands found r ts = AfterSkips r ts (λ r ts. Opens (codes "DEMANDS") r ts (InDemands found))

pub record InLinks (found r : Entries) (ts : List Symbol) : Type 0 where
  pub links : List LinkEntry
  pub rest : List Symbol
  pub text : ts ≡ flat_map link links ++ Right ∷ rest
  pub then : FromDemands found (with_links r links) rest

abbrev pub FromLinks : Entries → Entries → List Symbol → Type 0
FromLinks found r ts = AfterSkips r ts (λ r ts. Opens (codes "LINKS") r ts (InLinks found))

pub record InNodes (found r : Entries) (ts : List Symbol) : Type 0 where
  pub nodes : List NodeEntry
  pub rest : List Symbol
  pub text : ts ≡ flat_map node nodes ++ Right ∷ rest
  pub then : FromLinks found (with_nodes r nodes) rest

abbrev pub FromNodes : Entries → Entries → List Symbol → Type 0
FromNodes found r ts = AfterSkips r ts (λ r ts. Opens (codes "NODES") r ts (InNodes found))

abbrev pub From : Part → Entries → Entries → List Symbol → Type 0
From parts.Rest found r ts = FromRest found r ts
From parts.Demands found r ts = FromDemands found r ts
From parts.Links found r ts = FromLinks found r ts
From parts.Nodes found r ts = FromNodes found r ts

-- what closes the groups that are open
pub record Closes (ts : List Symbol) (P : List Symbol → Type 0) : Type 0 where
  pub inside : Items
  pub rest : List Symbol
  pub text : ts ≡ items inside ++ Right ∷ rest
  pub then : P rest

abbrev pub InGroups : ℕ → Part → Entries → Entries → List Symbol → Type 0
InGroups zero part found r ts = Closes ts (From part found (with_skip r))
InGroups (suc depth) part found r ts = Closes ts (InGroups depth part found r)

pub record OpensGroup (ts : List Symbol) (P : List Symbol → Type 0) : Type 0 where
  pub rest : List Symbol
  pub text : ts ≡ Left ∷ rest
  pub then : P rest

-- a node whose id was read
pub record InNode (found r : Entries) (id : Word) (ts : List Symbol) : Type 0 where
  pub at : Option (List Word)
  pub rest : List Symbol
  pub text : ts ≡ place at ++ rest
  pub then : InNodes found (with_node r (record { id = id; place = at })) rest

-- words up to the end of a place
pub record InPlace (found r : Entries) (id : Word) (before : List Word) (ts : List Symbol) : Type 0 where
  pub words : List Word
  pub rest : List Symbol
  pub text : ts ≡ names words ++ Right ∷ rest
  pub then : InNodes found (with_node r (record { id = id; place = Some (before ++ words) })) rest

-- capacities and costs up to the end of the modules
pub record InModules (found r : Entries) (draft : Draft) (before : List Module) (ts : List Symbol) : Type 0 where
  pub modules : List Module
  pub rest : List Symbol
  pub text : ts ≡ flat_map pair modules ++ Right ∷ rest
  pub then : InLinks found (with_link r (link_of draft (before ++ modules))) rest

-- for the states where entries and sections begin and end
abbrev pub Meaning : Mode → Sofar → Entries → List Symbol → Type 0
Meaning (Between part) s found ts = From part found s.entries ts
Meaning OpeningNodes s found ts = OpensGroup ts (InNodes found s.entries)
Meaning OpeningLinks s found ts = OpensGroup ts (InLinks found s.entries)
Meaning OpeningDemands s found ts = OpensGroup ts (InDemands found s.entries)
Meaning (Naming part) s found ts = OpensGroup ts (InGroups 0 part found s.entries)
Meaning (Skipping part depth) s found ts = InGroups depth part found s.entries ts
Meaning Nodes s found ts = InNodes found s.entries ts
Meaning Node s found ts = InNode found s.entries s.draft.id ts
Meaning Place s found ts = InPlace found s.entries s.draft.id s.words ts
Meaning Links s found ts = InLinks found s.entries ts
Meaning Capacity s found ts = InModules found s.entries s.draft s.modules ts
Meaning Demands s found ts = InDemands found s.entries ts
Meaning _ s found ts = Unit {0}
