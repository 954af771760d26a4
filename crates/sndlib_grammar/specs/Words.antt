-- What holds of each word of entries, by the symbols that spell them, and of each word of rows.
use Rattle.std.specs.Prelude.{ℕ, List, All, IfSome}
use Rattle.std.specs.List.{AllByRecursion}
use Rattle.sndlib_grammar.specs.Grammar.{Symbol, Left, Right, Name, Entries, node, link, demand}
use Rattle.sndlib_grammar.specs.Rows.{NetNode, NetLink, NetDemand, NetRows, IsWord}

-- ---- entries

abbrev pub OnSymbol : (List ℕ → Type 0) → Symbol → Type 0
OnSymbol P Left = Unit {0}
OnSymbol P Right = Unit {0}
OnSymbol P (Name w) = P w.text

abbrev pub OnSymbols : (List ℕ → Type 0) → List Symbol → Type 0
OnSymbols P symbols = AllByRecursion (OnSymbol P) symbols

-- P holds of each word that spells the entries
pub record OnEntries (P : List ℕ → Type 0) (e : Entries) : Type 0 where
  pub nodes : AllByRecursion (λ n. OnSymbols P (node n)) e.nodes
  pub links : AllByRecursion (λ l. OnSymbols P (link l)) e.links
  pub demands : AllByRecursion (λ d. OnSymbols P (demand d)) e.demands

-- the words that spell the entries are words of a text
abbrev pub AreWordEntries : Entries → Type 0
AreWordEntries e = OnEntries IsWord e

-- ---- rows

pub record OnNode (P : List ℕ → Type 0) (n : NetNode) : Type 0 where
  pub id : P n.id
  pub place : IfSome n.place (All P)

pub record OnLink (P : List ℕ → Type 0) (l : NetLink) : Type 0 where
  pub id : P l.id
  pub installed : P l.installed
  pub costs : All P l.costs
  pub modules : All P l.modules

pub record OnDemand (P : List ℕ → Type 0) (d : NetDemand) : Type 0 where
  pub id : P d.id
  pub unit : P d.unit
  pub value : P d.value
  pub longest : P d.longest

-- P holds of each word of the rows
pub record OnNetRows (P : List ℕ → Type 0) (rows : NetRows) : Type 0 where
  pub nodes : All (OnNode P) rows.nodes
  pub links : All (OnLink P) rows.links
  pub demands : All (OnDemand P) rows.demands
