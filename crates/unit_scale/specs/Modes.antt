-- How links and modules are read, and the words for it.
use Rattle.std.specs.Prelude.{ℕ, List, [], ◌∷◌, Option, Some, None, codes, if◌then◌else◌}
use Rattle.std.specs.Str.{bytes_eq}
use Rattle.unit_scale.specs.declared.modes.LinkMode.{LinkMode}
use Rattle.unit_scale.specs.declared.modes.LinkMode.TheVariants.{Directed, Undirected, Bidirected}
use Rattle.unit_scale.specs.declared.modes.Sign.{Sign}
use Rattle.unit_scale.specs.declared.modes.Sign.TheVariants.{Along, Against, Both}
use Rattle.unit_scale.specs.declared.modes.ModuleMode.{ModuleMode}
use Rattle.unit_scale.specs.declared.modes.ModuleMode.TheVariants.{Ignore, Largest, Sum}

-- which ways the cells of a link go, in their order
abbrev pub signs : LinkMode → List Sign
signs Directed = Along ∷ []
signs Undirected = Both ∷ []
signs Bidirected = Along ∷ Against ∷ []

-- the word of a mode, on the command line and in form 2 of certificates
abbrev pub link_word : LinkMode → List ℕ
link_word Directed = codes "directed"
link_word Undirected = codes "undirected"
link_word Bidirected = codes "bidirected"

-- the word in form 1: none for bidirected links, and no line has a word without bytes
abbrev pub old_link_word : LinkMode → List ℕ
old_link_word Directed = codes "directed"
old_link_word Undirected = codes "undirected"
old_link_word Bidirected = []

abbrev pub module_word : ModuleMode → List ℕ
module_word Ignore = codes "none"
module_word Largest = codes "largest"
module_word Sum = codes "sum"

-- the mode of which this is the word
abbrev pub link_mode_of : List ℕ → Option LinkMode
link_mode_of word =
    if bytes_eq word (codes "directed") then Some Directed
    else (if bytes_eq word (codes "undirected") then Some Undirected
    else (if bytes_eq word (codes "bidirected") then Some Bidirected
    else None))

-- the mode of which this is the word in form 1
abbrev pub old_link_mode_of : List ℕ → Option LinkMode
old_link_mode_of word =
    if bytes_eq word (codes "directed") then Some Directed
    else (if bytes_eq word (codes "undirected") then Some Undirected
    else None)

abbrev pub module_mode_of : List ℕ → Option ModuleMode
module_mode_of word =
    if bytes_eq word (codes "none") then Some Ignore
    else (if bytes_eq word (codes "largest") then Some Largest
    else (if bytes_eq word (codes "sum") then Some Sum
    else None))
