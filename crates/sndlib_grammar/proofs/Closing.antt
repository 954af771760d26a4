-- Each state of reading has a way to the end.
use Rattle.std.proofs.Common.{◌≡◌, ℕ, zero, suc, List, [], ◌∷◌, refl, Some}
use Rattle.std.specs.Prelude.{codes}
use Rattle.sndlib_grammar.specs.declared.mode.Part.{Part}
use Rattle.sndlib_grammar.specs.declared.mode.Part.TheVariants as parts
use Rattle.sndlib_grammar.specs.declared.mode.Mode.{Mode}
use Rattle.sndlib_grammar.specs.declared.mode.Mode.TheVariants.{Between, OpeningNodes, OpeningLinks, OpeningDemands, Naming, Skipping, Nodes, Node, Place, Links, LinkEnds, LinkSource, LinkTarget, LinkEndsClose, Installed, InstalledCost, RoutingCost, SetupCost, Modules, Capacity, CapacityCost, Demands, DemandEnds, DemandSource, DemandTarget, DemandEndsClose, Unit as Units, Value, Longest}
use Rattle.sndlib_grammar.specs.Grammar.{Symbol, Left, Right, Name, Entries}
use Rattle.sndlib_grammar.specs.Reading.{Sofar, read, no_word, kept}

abbrev word : List ℕ → Symbol
word text = Name (record { text = text; line = 0 })

-- symbols that end a text between two sections
abbrev ending : Part → List Symbol
ending parts.Rest = []
ending parts.Demands = word (codes "DEMANDS") ∷ Left ∷ Right ∷ []
ending parts.Links = word (codes "LINKS") ∷ Left ∷ Right ∷ word (codes "DEMANDS") ∷ Left ∷ Right ∷ []
ending parts.Nodes = word (codes "NODES") ∷ Left ∷ Right ∷ word (codes "LINKS") ∷ Left ∷ Right ∷ word (codes "DEMANDS") ∷ Left ∷ Right ∷ []

-- as many right parentheses, and then that
abbrev rights : ℕ → List Symbol → List Symbol
rights zero ts = ts
rights (suc n) ts = Right ∷ rights n ts

abbrev any : Symbol
any = Name no_word

abbrev links_end : List Symbol
links_end = Right ∷ ending parts.Demands

abbrev modules_end : List Symbol
modules_end = Right ∷ links_end

abbrev pub closing : Mode → List Symbol
closing (Between part) = ending part
closing OpeningNodes = Left ∷ Right ∷ ending parts.Links
closing OpeningLinks = Left ∷ links_end
closing OpeningDemands = Left ∷ Right ∷ []
closing (Naming part) = Left ∷ Right ∷ ending part
closing (Skipping part depth) = rights depth (Right ∷ ending part)
closing Nodes = Right ∷ ending parts.Links
closing Node = Right ∷ ending parts.Links
closing Place = Right ∷ Right ∷ ending parts.Links
closing Links = links_end
closing LinkEnds = Left ∷ any ∷ any ∷ Right ∷ any ∷ any ∷ any ∷ any ∷ Left ∷ modules_end
closing LinkSource = any ∷ any ∷ Right ∷ any ∷ any ∷ any ∷ any ∷ Left ∷ modules_end
closing LinkTarget = any ∷ Right ∷ any ∷ any ∷ any ∷ any ∷ Left ∷ modules_end
closing LinkEndsClose = Right ∷ any ∷ any ∷ any ∷ any ∷ Left ∷ modules_end
closing Installed = any ∷ any ∷ any ∷ any ∷ Left ∷ modules_end
closing InstalledCost = any ∷ any ∷ any ∷ Left ∷ modules_end
closing RoutingCost = any ∷ any ∷ Left ∷ modules_end
closing SetupCost = any ∷ Left ∷ modules_end
closing Modules = Left ∷ modules_end
closing Capacity = modules_end
closing CapacityCost = any ∷ modules_end
closing Demands = Right ∷ []
closing DemandEnds = Left ∷ any ∷ any ∷ Right ∷ any ∷ any ∷ any ∷ Right ∷ []
closing DemandSource = any ∷ any ∷ Right ∷ any ∷ any ∷ any ∷ Right ∷ []
closing DemandTarget = any ∷ Right ∷ any ∷ any ∷ any ∷ Right ∷ []
closing DemandEndsClose = Right ∷ any ∷ any ∷ any ∷ Right ∷ []
closing Units = any ∷ any ∷ any ∷ Right ∷ []
closing Value = any ∷ any ∷ Right ∷ []
closing Longest = any ∷ Right ∷ []

between_closes : (part : Part) (s : Sofar) → (r : Entries) × (read (Between part) s (ending part) ≡ Some r)
between_closes parts.Rest s = (_, refl)
between_closes parts.Demands s = (_, refl)
between_closes parts.Links s = (_, refl)
between_closes parts.Nodes s = (_, refl)

skipping_closes : (depth : ℕ) (part : Part) (s : Sofar) → (r : Entries) × (read (Skipping part depth) s (rights depth (Right ∷ ending part)) ≡ Some r)
skipping_closes zero part s = between_closes part (kept (Skipping part zero) Right s)
skipping_closes (suc depth) part s = skipping_closes depth part s

pub closes : (m : Mode) (s : Sofar) → (r : Entries) × (read m s (closing m) ≡ Some r)
closes (Between part) s = between_closes part s
closes OpeningNodes s = (_, refl)
closes OpeningLinks s = (_, refl)
closes OpeningDemands s = (_, refl)
closes (Naming part) s = between_closes part (kept (Skipping part zero) Right s)
closes (Skipping part depth) s = skipping_closes depth part s
closes Nodes s = (_, refl)
closes Node s = (_, refl)
closes Place s = (_, refl)
closes Links s = (_, refl)
closes LinkEnds s = (_, refl)
closes LinkSource s = (_, refl)
closes LinkTarget s = (_, refl)
closes LinkEndsClose s = (_, refl)
closes Installed s = (_, refl)
closes InstalledCost s = (_, refl)
closes RoutingCost s = (_, refl)
closes SetupCost s = (_, refl)
closes Modules s = (_, refl)
closes Capacity s = (_, refl)
closes CapacityCost s = (_, refl)
closes Demands s = (_, refl)
closes DemandEnds s = (_, refl)
closes DemandSource s = (_, refl)
closes DemandTarget s = (_, refl)
closes DemandEndsClose s = (_, refl)
closes Units s = (_, refl)
closes Value s = (_, refl)
closes Longest s = (_, refl)
