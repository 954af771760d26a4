-- Which words spell which requests.
use Rattle.std.specs.Prelude.{◌≡◌, ℕ, ◌-◌, ◌^◌, ◌≤◌, ◌⊎◌, List, [], ◌∷◌, None, codes, length}
use Rattle.mcf_limits.specs.declared.TheConstants.{DEFAULT_GAP, DEFAULT_STEP, MAX_NODES, MAX_LINKS, MAX_DEMANDS, MAX_STEP}
use Rattle.unit_scale.specs.declared.modes.LinkMode.TheVariants.{Undirected}
use Rattle.unit_scale.specs.declared.modes.ModuleMode.TheVariants.{Largest}
use Rattle.mcf_words.specs.declared.request.Request.{Request}
use Rattle.mcf_words.specs.Items.{Setting}
use Rattle.mcf_words.specs.Request.{IsFileCount, form_of, least_files}
use Rattle.mcf_words.specs.Parts.{AreParts}
use Rattle.mcf_words.specs.WordValues.{IsLinkWord, IsModuleWord, IsNumberWord, IsGapWord, IsPhasesWord, IsWorkersWord, Says}

-- each option says what the request has
pub record OptionsSay (settings : List Setting) (r : Request) : Type 0 where
  pub links : Says (codes "--links") IsLinkWord Undirected settings r.net.links
  pub modules : Says (codes "--modules") IsModuleWord Largest settings r.net.modules
  pub gap : Says (codes "--gap") IsGapWord DEFAULT_GAP settings r.gap
  pub phases : Says (codes "--phases") IsPhasesWord None settings r.phases
  pub workers : Says (codes "--workers") IsWorkersWord None settings r.workers
  pub step : Says (codes "--step") (IsNumberWord 1 MAX_STEP) DEFAULT_STEP settings r.step

-- the positional words of a command that reads files: as many as it reads, their names
pub record NameFiles (plain : List (List ℕ)) (r : Request) : Type 0 where
  pub some : 1 ≤ least_files r.command
  pub count : IsFileCount r.command (length plain)
  pub files : r.names ≡ plain
  pub no_numbers : r.numbers ≡ 0 ∷ 0 ∷ 0 ∷ 0 ∷ []

-- and of one that draws a network: its seed, and how many nodes, links and demands, not fewer links than nodes
pub record NameNumbers (plain : List (List ℕ)) (r : Request) : Type 0 where
  pub none : least_files r.command ≡ 0
  pub no_files : r.names ≡ []
  pub seed_word : List ℕ
  pub nodes_word : List ℕ
  pub links_word : List ℕ
  pub demands_word : List ℕ
  pub seed : ℕ
  pub nodes : ℕ
  pub links : ℕ
  pub demands : ℕ
  pub words : plain ≡ seed_word ∷ nodes_word ∷ links_word ∷ demands_word ∷ []
  pub numbers : r.numbers ≡ seed ∷ nodes ∷ links ∷ demands ∷ []
  pub seed_is : IsNumberWord 0 (2 ^ 64 - 1) seed_word seed
  pub nodes_are : IsNumberWord 2 MAX_NODES nodes_word nodes
  pub links_are : IsNumberWord nodes MAX_LINKS links_word links
  pub demands_are : IsNumberWord 1 MAX_DEMANDS demands_word demands

-- The words spell the request: first the word of its command, then, in any order, its positional words and options that say the rest.
pub record IsSpelled (words : List (List ℕ)) (r : Request) : Type 0 where
  pub others : List (List ℕ)
  pub first : words ≡ (form_of r.command).word ∷ others
  pub plain : List (List ℕ)
  pub settings : List Setting
  pub parts : AreParts r.command others plain settings
  pub options : OptionsSay settings r
  pub positional : NameFiles plain r ⊎ NameNumbers plain r
