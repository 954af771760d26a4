-- Where reading stands after one more token.
use Rattle.std.specs.Prelude.{ℕ, zero, suc, List, Option, Some, None, if◌then◌else◌, codes}
use Rattle.std.specs.Str.{bytes_eq}
use Rattle.sndlib_grammar.specs.declared.mode.Part.{Part}
use Rattle.sndlib_grammar.specs.declared.mode.Part.TheVariants as parts
use Rattle.sndlib_grammar.specs.declared.mode.Mode.{Mode}
use Rattle.sndlib_grammar.specs.declared.mode.Mode.TheVariants.{Between, OpeningNodes, OpeningLinks, OpeningDemands, Naming, Skipping, Nodes, Node, Place, Links, LinkEnds, LinkSource, LinkTarget, LinkEndsClose, Installed, InstalledCost, RoutingCost, SetupCost, Modules, Capacity, CapacityCost, Demands, DemandEnds, DemandSource, DemandTarget, DemandEndsClose, Unit as Units, Value, Longest}

-- the section of that name, or `Rest` where it is another name
abbrev pub keyword_of : List ℕ → Part
keyword_of word =
    if bytes_eq word (codes "NODES") then parts.Nodes
    else (if bytes_eq word (codes "LINKS") then parts.Links
    else (if bytes_eq word (codes "DEMANDS") then parts.Demands
    else parts.Rest))

-- the groups that are open in a skipped section
abbrev pub depth_of : Mode → ℕ
depth_of (Skipping part depth) = depth
depth_of _ = 0

-- behind a word between two sections
abbrev pub between : Part → Part → Option Mode
between part parts.Rest = Some (Naming part)
between parts.Nodes parts.Nodes = Some OpeningNodes
between parts.Links parts.Links = Some OpeningLinks
between parts.Demands parts.Demands = Some OpeningDemands
between _ _ = None

-- behind a left parenthesis
abbrev pub opened : Mode → Option Mode
opened OpeningNodes = Some Nodes
opened OpeningLinks = Some Links
opened OpeningDemands = Some Demands
opened (Naming part) = Some (Skipping part 0)
opened (Skipping part depth) = Some (Skipping part (suc depth))
opened Node = Some Place
opened LinkEnds = Some LinkSource
opened Modules = Some Capacity
opened DemandEnds = Some DemandSource
opened _ = None

-- behind a right parenthesis
abbrev pub closed : Mode → Option Mode
closed (Skipping part zero) = Some (Between part)
closed (Skipping part (suc depth)) = Some (Skipping part depth)
closed Nodes = Some (Between parts.Links)
closed Node = Some (Between parts.Links)
closed Place = Some Nodes
closed Links = Some (Between parts.Demands)
closed LinkEndsClose = Some Installed
closed Capacity = Some Links
closed Demands = Some (Between parts.Rest)
closed DemandEndsClose = Some Units
closed _ = None

-- behind a word
abbrev pub named : Mode → List ℕ → Option Mode
named (Between part) word = between part (keyword_of word)
named (Skipping part depth) word = Some (Skipping part depth)
named Nodes word = Some Node
named Node word = Some Node
named Place word = Some Place
named Links word = Some LinkEnds
named LinkSource word = Some LinkTarget
named LinkTarget word = Some LinkEndsClose
named Installed word = Some InstalledCost
named InstalledCost word = Some RoutingCost
named RoutingCost word = Some SetupCost
named SetupCost word = Some Modules
named Capacity word = Some CapacityCost
named CapacityCost word = Some Capacity
named Demands word = Some DemandEnds
named DemandSource word = Some DemandTarget
named DemandTarget word = Some DemandEndsClose
named Units word = Some Value
named Value word = Some Longest
named Longest word = Some Demands
named _ word = None
