-- How the words after the command are parsed, and what the matches tell.
use Rattle.std.specs.Prelude.{◌≡◌, ℕ, false, List, true, [], ◌∷◌, ◌++◌, map, drop, Option, Some, None, Result, Ok, Err, codes, option_map, unwrap_or, IsSomeAnd}
use Rattle.std.specs.Str.{bytes_eq}
use Rattle.clap.specs.Words.{App, Rule, Text, found_of, first_value, matched_of, new_rule, raw_values}
use Rattle.clap.specs.Simple.{new_shape}
use Rattle.clap.specs.declared.builder.action.ArgAction.TheVariants.{Set, Append}
use Rattle.clap.specs.declared.parser.matches.ArgMatches.{ArgMatches}
use Rattle.clap.specs.declared.parser.matches.Found.{Found}
use Rattle.mcf_limits.specs.declared.TheConstants.{DEFAULT_GAP, DEFAULT_STEP, MAX_PHASES, MAX_WORKERS, MAX_STEP}
use Rattle.unit_scale.specs.Modes.{link_mode_of, module_mode_of}
use Rattle.unit_scale.specs.declared.modes.LinkMode.TheVariants.{Undirected}
use Rattle.unit_scale.specs.declared.modes.ModuleMode.TheVariants.{Largest}
use Rattle.mcf_words.specs.declared.request.Command.{Command}
use Rattle.mcf_words.specs.declared.request.Request.{Request}
use Rattle.mcf_words.specs.declared.request.WordsEnd.{WordsEnd}
use Rattle.mcf_words.specs.declared.request.WordsEnd.TheVariants.{Usage, Memory}
use Rattle.mcf_words.specs.Items.{Items, items_of}
use Rattle.mcf_words.specs.Values.{number_in, gap_of, read_or, single, values_of}
use Rattle.mcf_words.specs.Request.{Choices, ◌>>=◌, are_known, files_of, numbers_of, options_of, request_from}

-- the id of the positional words
abbrev pub words_id : Text
words_id = codes "WORDS"

-- the names of the command's options, without their dashes
abbrev pub names_of : Command → List Text
names_of command = map (drop 2) (options_of command)

-- an option that takes one value
abbrev pub option_rule : Text → Rule
option_rule name = record (new_rule name) { long = Some name; action = Some Set }

-- any number of positional words
abbrev pub words_rule : Rule
words_rule = record (new_rule words_id) { action = Some Append }

-- a command with these arguments, without help and version
abbrev pub app_with : List Rule → App
app_with rules = record {
  top = record (new_shape (codes "mcf")) { rules = rules; no_binary_name = true; disable_help_flag = true; disable_version_flag = true };
  subs = [];
}

-- a command with these options
abbrev pub app_of_names : List Text → App
app_of_names names = app_with (map option_rule names ++ words_rule ∷ [])

-- the positional words
abbrev pub words_in : Found → List Text
words_in found = unwrap_or (option_map raw_values (matched_of found words_id)) []

-- The matches tell the items: every option is one of the command's and stands at most once, with the value that is found; the
-- positional words are those that are found.
pub record Tells (command : Command) (items : Items) (found : Found) : Type 0 where
  pub known : are_known command items.settings ≡ true
  pub value : (name : Text) → bytes_eq name words_id ≡ false → single (values_of (codes "--" ++ name) items.settings) ≡ Some (first_value found name)
  pub words : items.positional ≡ words_in found

-- what the words after the command ask for
abbrev pub request_after : Command → List Text → Option Request
request_after command words = items_of words >>= request_from command

-- The matches tell the items of the words; where the words are refused, they ask for nothing.
abbrev pub Parses : Command → List Text → Result ArgMatches WordsEnd → Type 0
Parses command words (Ok m) = IsSomeAnd (items_of words) (λ items. Tells command items (found_of m))
Parses command words (Err Usage) = request_after command words ≡ None
Parses command words (Err Memory) = Unit {0}

-- what is read of an option's value, or the default
abbrev pub read_in : {X : Type 0} → Found → Text → (List ℕ → Option X) → X → Option X
read_in found name read default = read_or read default (first_value found name)

-- what the options say, as the matches have them
unfoldable pub choices_in : Found → Option Choices
choices_in found = do
  links ← read_in found (codes "links") link_mode_of Undirected
  modules ← read_in found (codes "modules") module_mode_of Largest
  gap ← read_in found (codes "gap") gap_of DEFAULT_GAP
  phases ← read_in found (codes "phases") (λ w. option_map Some (number_in 1 MAX_PHASES w)) None
  workers ← read_in found (codes "workers") (λ w. option_map Some (number_in 1 MAX_WORKERS w)) None
  step ← read_in found (codes "step") (number_in 1 MAX_STEP) DEFAULT_STEP
  Some (record { net = record { links = links; modules = modules }; gap = gap; phases = phases; workers = workers; step = step })

-- what the matches ask for
unfoldable pub request_in : Command → Found → Option Request
request_in command found = do
  choices ← choices_in found
  numbers ← numbers_of command (words_in found)
  names ← files_of command (words_in found)
  Some (record { command = command; names = names; numbers = numbers; net = choices.net; gap = choices.gap; phases = choices.phases; workers = choices.workers; step = choices.step })
