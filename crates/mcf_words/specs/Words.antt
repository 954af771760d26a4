-- Words for every request.
use Rattle.std.specs.Prelude.{◌≡◌, ℕ, ◌≤◌, ◌<◌, ◌^◌, Bool, false, List, [], ◌∷◌, ◌++◌, length, map, Option, Some, None, codes, decimal, slice_index, ◌==◌, if◌then◌else◌}
use Rattle.std.specs.List.{list_any}
use Rattle.std.specs.Str.{bytes_eq}
use Rattle.mcf_limits.specs.declared.TheConstants.{DEFAULT_GAP, DEFAULT_STEP}
use Rattle.unit_scale.specs.Modes.{link_word, module_word}
use Rattle.unit_scale.specs.declared.modes.LinkMode.TheVariants.{Undirected}
use Rattle.unit_scale.specs.declared.modes.ModuleMode.TheVariants.{Largest}
use Rattle.mcf_words.specs.declared.request.Command.{Command}
use Rattle.mcf_words.specs.declared.request.Command.TheVariants.{Solve, Check, WhatIf, Upgrade, Tighten, Batch, Sweep, SweepSolve, CheckHops, CheckThroughput, Hops, Throughput, Print, Gen, Trial}
use Rattle.mcf_words.specs.declared.request.Request.{Request}
use Rattle.mcf_words.specs.Request.{AreDrawn, IsFileCount, IsWithinLimits, least_files, form_of, options_of}

-- what the options of a request say is the default
pub record HasDefaults (r : Request) : Type 0 where
  pub links : r.net.links ≡ Undirected
  pub modules : r.net.modules ≡ Largest
  pub gap : r.gap ≡ DEFAULT_GAP
  pub phases : r.phases ≡ None
  pub workers : r.workers ≡ None
  pub step : r.step ≡ DEFAULT_STEP

-- four numbers with which a network may be drawn, the seed in 64 bits
pub record AreFour (numbers : List ℕ) : Type 0 where
  pub count : length numbers ≡ 4
  pub seed : slice_index numbers 0 < 2 ^ 64
  pub drawn : AreDrawn numbers

-- the command has the option of workers
abbrev pub takes_workers : Command → Bool
takes_workers command = list_any (bytes_eq (codes "--workers")) (options_of command)

-- A request that there may be: within its limits, and what its command does not have is as if nothing were said.
pub record IsRequest (r : Request) : Type 0 where
  pub limits : IsWithinLimits r
  pub options : options_of r.command ≡ [] → HasDefaults r
  pub workers : takes_workers r.command ≡ false → r.workers ≡ None
  pub files : IsFileCount r.command (length r.names)
  pub drawn : least_files r.command ≡ 0 → AreFour r.numbers
  pub not_drawn : 1 ≤ least_files r.command → r.numbers ≡ 0 ∷ 0 ∷ 0 ∷ 0 ∷ []

abbrev pub phases_words : Option ℕ → List (List ℕ)
phases_words None = []
phases_words (Some n) = codes "--phases" ∷ decimal n ∷ []

-- a number of millionths, as a whole number and an exponent
abbrev pub gap_word : ℕ → List ℕ
gap_word gap = decimal gap ++ codes "E-6"

abbrev pub workers_words : Option ℕ → List (List ℕ)
workers_words None = []
workers_words (Some n) = codes "--workers" ∷ decimal n ∷ []

-- every option with its value; no budget of phases and no number of workers where none is given
abbrev pub option_words : Request → List (List ℕ)
option_words r =
    codes "--links" ∷ link_word r.net.links ∷ codes "--modules" ∷ module_word r.net.modules ∷ codes "--gap" ∷ gap_word r.gap
    ∷ (phases_words r.phases ++ workers_words r.workers ++ codes "--step" ∷ decimal r.step ∷ [])

abbrev pub options_for : Command → Request → List (List ℕ)
options_for Solve r = option_words r
options_for Check r = []
options_for WhatIf r = []
options_for Upgrade r = []
options_for Tighten r = []
options_for Batch r = option_words r
options_for Sweep r = []
options_for SweepSolve r = option_words r
options_for CheckHops r = []
options_for CheckThroughput r = []
options_for Hops r = option_words r
options_for Throughput r = option_words r
options_for Print r = []
options_for Gen r = []
options_for Trial r = option_words r

-- the files, or the numbers where the command reads no file
abbrev pub plain_for : Request → List (List ℕ)
plain_for r = if least_files r.command == 0 then map decimal r.numbers else r.names

-- Words for the request: its command, every option of it, and behind `--` the positional words.
abbrev pub words_for : Request → List (List ℕ)
words_for r = (form_of r.command).word ∷ (options_for r.command r ++ codes "--" ∷ plain_for r)
