-- What the words of the command line ask for.
use Rattle.std.specs.Prelude.{ℕ, IfSome, ◌≤◌, ◌^◌, ◌-◌, Bool, List, [], ◌∷◌, length, slice_index, Option, Some, None, codes, ◌==◌, ◌&&◌, nat_le, if◌then◌else◌}
use Rattle.std.specs.List.{find, list_all, list_any}
use Rattle.std.specs.Option.{option_map}
use Rattle.std.specs.Str.{bytes_eq}
use Rattle.mcf_limits.specs.declared.TheConstants.{DEFAULT_GAP, DEFAULT_STEP, MAX_GAP, MAX_NODES, MAX_LINKS, MAX_DEMANDS, MAX_PHASES, MAX_WORKERS, MAX_STEP}
use Rattle.unit_scale.specs.declared.modes.LinkMode.TheVariants.{Undirected}
use Rattle.unit_scale.specs.declared.modes.ModuleMode.TheVariants.{Largest}
use Rattle.unit_scale.specs.declared.options.NetOptions.{NetOptions}
use Rattle.mcf_words.specs.declared.request.Command.{Command}
use Rattle.mcf_words.specs.declared.request.Command.TheVariants.{Solve, Check, WhatIf, Upgrade, Tighten, Batch, Sweep, SweepSolve, CheckHops, CheckThroughput, Hops, Throughput, Print, Gen, Trial}
use Rattle.mcf_words.specs.declared.request.Request.{Request}
use Rattle.mcf_words.specs.Items.{Setting, Items, items_of}
use Rattle.mcf_words.specs.Values.{number_in, gap_of, values_of, choice}
use Rattle.unit_scale.specs.Modes.{link_mode_of, module_mode_of}

infixl 10 ◌>>=◌
abbrev pub ◌>>=◌ : {A B : Type 0} → Option A → (A → Option B) → Option B
None >>= f = None
(Some x) >>= f = f x

-- the phase budget, where one was given, is within its limits
abbrev pub IsBudget : Option ℕ → Type 0
IsBudget phases = IfSome phases (λ p. (1 ≤ p) × (p ≤ MAX_PHASES))

-- the number of workers, where one was given, is within its limits
abbrev pub AreWorkers : Option ℕ → Type 0
AreWorkers workers = IfSome workers (λ w. (1 ≤ w) × (w ≤ MAX_WORKERS))

-- gap, phase budget, workers and step are within their limits
pub record AreWithinLimits (gap : ℕ) (phases workers : Option ℕ) (step : ℕ) : Type 0 where
  pub gap_limit : gap ≤ MAX_GAP
  pub budget : IsBudget phases
  pub workers_limit : AreWorkers workers
  pub some_step : 1 ≤ step
  pub step_limit : step ≤ MAX_STEP

-- the options of the request are within their limits
abbrev pub IsWithinLimits : Request → Type 0
IsWithinLimits r = AreWithinLimits r.gap r.phases r.workers r.step

-- a seed, and numbers of nodes, links and demands with which a network may be generated
abbrev pub AreDrawn : List ℕ → Type 0
AreDrawn numbers = (2 ≤ slice_index numbers 1) × (slice_index numbers 1 ≤ MAX_NODES) × (slice_index numbers 1 ≤ slice_index numbers 2) × (slice_index numbers 2 ≤ MAX_LINKS) × (1 ≤ slice_index numbers 3) × (slice_index numbers 3 ≤ MAX_DEMANDS)

-- the options of a solve
abbrev pub solver_options : List (List ℕ)
solver_options = codes "--links" ∷ codes "--modules" ∷ codes "--gap" ∷ codes "--phases" ∷ codes "--workers" ∷ codes "--step" ∷ []

-- and those of a solve with one worker
abbrev pub one_worker_options : List (List ℕ)
one_worker_options = codes "--links" ∷ codes "--modules" ∷ codes "--gap" ∷ codes "--phases" ∷ codes "--step" ∷ []

-- a command's word, how many files it reads at least, none where it takes numbers, and at most, and its options
pub record Form : Type 0 where
  pub word : List ℕ
  pub least : ℕ
  pub most : ℕ
  pub options : List (List ℕ)

abbrev pub form_of : Command → Form
form_of Solve = record { word = codes "solve"; least = 1; most = 1; options = solver_options }
form_of Check = record { word = codes "check"; least = 2; most = 2; options = [] }
form_of WhatIf = record { word = codes "whatif"; least = 3; most = 3; options = [] }
form_of Upgrade = record { word = codes "upgrade"; least = 2; most = 2; options = [] }
form_of Tighten = record { word = codes "tighten"; least = 2; most = 3; options = [] }
form_of Batch = record { word = codes "batch"; least = 2; most = 2; options = one_worker_options }
form_of Sweep = record { word = codes "sweep"; least = 2; most = 2; options = [] }
form_of SweepSolve = record { word = codes "sweepsolve"; least = 1; most = 1; options = one_worker_options }
form_of CheckHops = record { word = codes "checkhops"; least = 2; most = 2; options = [] }
form_of CheckThroughput = record { word = codes "checkthroughput"; least = 2; most = 2; options = [] }
form_of Hops = record { word = codes "hops"; least = 1; most = 1; options = one_worker_options }
form_of Throughput = record { word = codes "throughput"; least = 1; most = 1; options = one_worker_options }
form_of Print = record { word = codes "print"; least = 1; most = 1; options = [] }
form_of Gen = record { word = codes "gen"; least = 0; most = 0; options = [] }
form_of Trial = record { word = codes "trial"; least = 0; most = 0; options = solver_options }

-- the commands that there are
abbrev pub commands : List Command
commands = Solve ∷ Check ∷ WhatIf ∷ Upgrade ∷ Tighten ∷ Batch ∷ Sweep ∷ SweepSolve ∷ CheckHops ∷ CheckThroughput ∷ Hops ∷ Throughput ∷ Print ∷ Gen ∷ Trial ∷ []

-- the word is that of the command
abbrev pub has_word : List ℕ → Command → Bool
has_word word command = bytes_eq word (form_of command).word

-- the command of that word
abbrev pub command_of : List ℕ → Option Command
command_of word = find (has_word word) commands

-- how many files the command reads at least
abbrev pub least_files : Command → ℕ
least_files command = (form_of command).least

-- how many it reads at most
abbrev pub most_files : Command → ℕ
most_files command = (form_of command).most

-- whether the command reads n files
abbrev pub reads_files : Command → ℕ → Bool
reads_files command n = nat_le (least_files command) n && nat_le n (most_files command)

pub record IsFileCount (command : Command) (n : ℕ) : Type 0 where
  pub least : least_files command ≤ n
  pub most : n ≤ most_files command

-- the options of the command
abbrev pub options_of : Command → List (List ℕ)
options_of command = (form_of command).options

-- every option is one of the command's
abbrev pub are_known : Command → List Setting → Bool
are_known command settings = list_all (λ s. list_any (bytes_eq s.name) (options_of command)) settings

-- what the options say, and the defaults of those that do not stand
pub record Choices : Type 0 where
  pub net : NetOptions
  pub gap : ℕ
  pub phases : Option ℕ
  pub workers : Option ℕ
  pub step : ℕ

unfoldable pub choices_of : List Setting → Option Choices
choices_of settings = do
  links ← choice link_mode_of Undirected (values_of (codes "--links") settings)
  modules ← choice module_mode_of Largest (values_of (codes "--modules") settings)
  gap ← choice gap_of DEFAULT_GAP (values_of (codes "--gap") settings)
  phases ← choice (λ w. option_map Some (number_in 1 MAX_PHASES w)) None (values_of (codes "--phases") settings)
  workers ← choice (λ w. option_map Some (number_in 1 MAX_WORKERS w)) None (values_of (codes "--workers") settings)
  step ← choice (number_in 1 MAX_STEP) DEFAULT_STEP (values_of (codes "--step") settings)
  Some (record { net = record { links = links; modules = modules }; gap = gap; phases = phases; workers = workers; step = step })

-- seed, nodes, links and demands
abbrev pub four_numbers : List (List ℕ) → Option (List ℕ)
four_numbers (seed ∷ nodes ∷ links ∷ demands ∷ []) = do
  s ← number_in 0 (2 ^ 64 - 1) seed
  n ← number_in 2 MAX_NODES nodes
  l ← number_in n MAX_LINKS links
  d ← number_in 1 MAX_DEMANDS demands
  Some (s ∷ n ∷ l ∷ d ∷ [])
four_numbers _ = None

-- the numbers of a command that takes them, and else four zeros
abbrev pub numbers_of : Command → List (List ℕ) → Option (List ℕ)
numbers_of command positional = if least_files command == 0 then four_numbers positional else Some (0 ∷ 0 ∷ 0 ∷ 0 ∷ [])

-- the files of a command that reads some
abbrev pub files_of : Command → List (List ℕ) → Option (List (List ℕ))
files_of command positional = if least_files command == 0 then Some [] else (if reads_files command (length positional) then Some positional else None)

unfoldable pub request_from : Command → Items → Option Request
request_from command items = if are_known command items.settings then (do
  choices ← choices_of items.settings
  numbers ← numbers_of command items.positional
  names ← files_of command items.positional
  Some (record { command = command; names = names; numbers = numbers; net = choices.net; gap = choices.gap; phases = choices.phases; workers = choices.workers; step = choices.step }))
    else None

-- what the words ask for; none where they are not in the grammar
abbrev pub request_of : List (List ℕ) → Option Request
request_of [] = None
request_of (word ∷ words) = do
  command ← command_of word
  items ← items_of words
  request_from command items
