-- Which words stand for which values.
use Rattle.std.specs.Prelude.{◌≡◌, ℕ, ◌+◌, ◌*◌, ◌^◌, ◌≤◌, true, ◌⊎◌, List, Option, Some}
use Rattle.std.specs.Str.Parse.{digits_value}
use Rattle.mcf_limits.specs.declared.TheConstants.{MAX_DECIMALS, MAX_GAP, MAX_PHASES, MAX_WORKERS}
use Rattle.sndlib_grammar.specs.Number.{Number, number_of}
use Rattle.unit_scale.specs.Units.{digits, places}
use Rattle.unit_scale.specs.Modes.{link_word, module_word}
use Rattle.unit_scale.specs.declared.modes.LinkMode.{LinkMode}
use Rattle.unit_scale.specs.declared.modes.ModuleMode.{ModuleMode}
use Rattle.mcf_words.specs.Items.{Setting}
use Rattle.mcf_words.specs.Values.{is_whole}
use Rattle.mcf_words.specs.Parts.{IsAbsent, StandsOnce}

abbrev pub IsLinkWord : List ℕ → LinkMode → Type 0
IsLinkWord word mode = word ≡ link_word mode

abbrev pub IsModuleWord : List ℕ → ModuleMode → Type 0
IsModuleWord word mode = word ≡ module_word mode

-- 1 to 20 digits that write n, a number between these two
pub record IsNumberWord (low high : ℕ) (word : List ℕ) (n : ℕ) : Type 0 where
  pub form : is_whole word ≡ true
  pub value : digits_value 10 word ≡ n
  pub from_low : low ≤ n
  pub to_high : n ≤ high

-- a number of the form in network files, whose value is just this number of millionths, within the limit
pub record IsGapWord (word : List ℕ) (gap : ℕ) : Type 0 where
  pub number : Number
  pub form : number_of word ≡ Some number
  pub value : digits number * 10 ^ (number.up + MAX_DECIMALS) ≡ gap * 10 ^ places number
  pub limit : gap ≤ MAX_GAP

-- a phase budget that is given
abbrev pub IsPhasesWord : List ℕ → Option ℕ → Type 0
IsPhasesWord word phases = (n : ℕ) × (phases ≡ Some n) × IsNumberWord 1 MAX_PHASES word n

-- a number of workers that is given
abbrev pub IsWorkersWord : List ℕ → Option ℕ → Type 0
IsWorkersWord word workers = (n : ℕ) × (workers ≡ Some n) × IsNumberWord 1 MAX_WORKERS word n

-- The option of that name stands once, with a word for x; or it does not stand, and x is the default.
abbrev pub Says : {X : Type 0} → List ℕ → (List ℕ → X → Type 0) → X → List Setting → X → Type 0
Says name Means default settings x = ((value : List ℕ) × StandsOnce name value settings × Means value x) ⊎ (IsAbsent name settings × (x ≡ default))
