-- The grammar of network texts: tokens, the entries that they spell, and skipped sections.
use Rattle.std.specs.Prelude.{◌≡◌, ◌≢◌, ℕ, ◌+◌, List, [], ◌∷◌, ◌++◌, length, map, Option, Some, None, codes}
use Rattle.std.specs.List.{flat_map, AllByRecursion}
use Rattle.sndlib_grammar.specs.Tokens.{Lexeme}
use Rattle.sndlib_grammar.specs.declared.token.TokenKind.TheVariants as kinds

-- a word, and the line on which it stands
pub record Word : Type 0 where
  pub text : List ℕ
  pub line : ℕ

-- what the grammar sees of a token
pub data Symbol : Type 0 where
  Left : Symbol
  Right : Symbol
  Name : Word → Symbol

-- ---- entries

-- an id, and the words of the place where there is one
pub record NodeEntry : Type 0 where
  pub id : Word
  pub place : Option (List Word)

-- a module of a link
pub record Module : Type 0 where
  pub capacity : Word
  pub cost : Word

-- the words of a link, and its modules
pub record LinkEntry : Type 0 where
  pub id : Word
  pub source : Word
  pub target : Word
  pub installed : Word
  pub installed_cost : Word
  pub routing_cost : Word
  pub setup_cost : Word
  pub modules : List Module

pub record DemandEntry : Type 0 where
  pub id : Word
  pub source : Word
  pub target : Word
  pub unit : Word
  pub value : Word
  pub longest : Word

pub record Entries : Type 0 where
  pub nodes : List NodeEntry
  pub links : List LinkEntry
  pub demands : List DemandEntry
  pub skipped : ℕ

-- ---- how they are spelled

abbrev pub names : List Word → List Symbol
names words = map Name words

abbrev pub place : Option (List Word) → List Symbol
place None = []
place (Some words) = Left ∷ names words ++ Right ∷ []

abbrev pub node : NodeEntry → List Symbol
node n = Name n.id ∷ place n.place

abbrev pub pair : Module → List Symbol
pair m = Name m.capacity ∷ Name m.cost ∷ []

abbrev pub link : LinkEntry → List Symbol
link l = Name l.id ∷ Left ∷ Name l.source ∷ Name l.target ∷ Right ∷ Name l.installed ∷ Name l.installed_cost ∷ Name l.routing_cost ∷ Name l.setup_cost ∷ Left ∷ flat_map pair l.modules ++ Right ∷ []

abbrev pub demand : DemandEntry → List Symbol
demand d = Name d.id ∷ Left ∷ Name d.source ∷ Name d.target ∷ Right ∷ Name d.unit ∷ Name d.value ∷ Name d.longest ∷ []

-- words and groups, in any order
pub data Items : Type 0 where
  Nothing : Items
  AWord : Word → Items → Items
  AGroup : Items → Items → Items

abbrev pub items : Items → List Symbol
items Nothing = []
items (AWord word more) = Name word ∷ items more
items (AGroup inside more) = Left ∷ items inside ++ Right ∷ items more

-- a section that is skipped: its name, and what stands in its group
pub record Skip : Type 0 where
  pub name : Word
  pub inside : Items

abbrev pub skip : Skip → List Symbol
skip s = Name s.name ∷ Left ∷ items s.inside ++ Right ∷ []

abbrev pub section : Word → List Symbol → List Symbol
section name entries = Name name ∷ Left ∷ entries ++ Right ∷ []

-- ---- a whole text

-- the parts of a text, in order
pub record File : Type 0 where
  pub before_nodes : List Skip
  pub nodes_name : Word
  pub nodes : List NodeEntry
  pub before_links : List Skip
  pub links_name : Word
  pub links : List LinkEntry
  pub before_demands : List Skip
  pub demands_name : Word
  pub demands : List DemandEntry
  pub behind : List Skip

abbrev pub spelled : File → List Symbol
spelled f =
    flat_map skip f.before_nodes ++ (section f.nodes_name (flat_map node f.nodes)
    ++ (flat_map skip f.before_links ++ (section f.links_name (flat_map link f.links)
    ++ (flat_map skip f.before_demands ++ (section f.demands_name (flat_map demand f.demands)
    ++ flat_map skip f.behind)))))

abbrev pub entries : File → Entries
entries f = record {
  nodes = f.nodes;
  links = f.links;
  demands = f.demands;
  skipped = length f.before_nodes + length f.before_links + length f.before_demands + length f.behind;
}

-- the name of no section of its own
pub record IsSkip (s : Skip) : Type 0 where
  pub not_nodes : s.name.text ≢ codes "NODES"
  pub not_links : s.name.text ≢ codes "LINKS"
  pub not_demands : s.name.text ≢ codes "DEMANDS"

pub record IsFile (f : File) : Type 0 where
  pub before_nodes : AllByRecursion IsSkip f.before_nodes
  pub nodes_name : f.nodes_name.text ≡ codes "NODES"
  pub before_links : AllByRecursion IsSkip f.before_links
  pub links_name : f.links_name.text ≡ codes "LINKS"
  pub before_demands : AllByRecursion IsSkip f.before_demands
  pub demands_name : f.demands_name.text ≡ codes "DEMANDS"
  pub behind : AllByRecursion IsSkip f.behind

-- the symbols are a text of the grammar, with these entries
pub record IsNetwork (symbols : List Symbol) (found : Entries) : Type 0 where
  pub file : File
  pub fits : IsFile file
  pub text : symbols ≡ spelled file
  pub entries_are : found ≡ entries file

-- some text of the grammar begins with these symbols
abbrev pub IsBegun : List Symbol → Type 0
IsBegun symbols = (more : List Symbol) × (found : Entries) × IsNetwork (symbols ++ more) found

-- what the grammar sees of a token of a text
abbrev pub symbol : Lexeme → Symbol
symbol t = elim t.kind [ kinds.LeftParen ↦ Left | kinds.RightParen ↦ Right | kinds.Word ↦ Name (record { text = t.text; line = t.line }) ]
