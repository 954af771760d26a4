-- The words behind the command, as positional words and options.
use Rattle.std.specs.Prelude.{◌≡◌, ℕ, false, List, [], ◌∷◌, ◌++◌, Option, Some, None, codes, unwrap_or, All, Contains}
use Rattle.std.specs.List.{flat_map}
use Rattle.mcf_words.specs.declared.request.Command.{Command}
use Rattle.mcf_words.specs.Items.{Setting, is_option}
use Rattle.mcf_words.specs.Request.{options_of}

-- a positional word, an option as two words, its name and its value, or an option as one word, with `=` between them
pub data Part : Type 0 where
  Plain : List ℕ → Part
  Apart : Setting → Part
  Joined : Setting → Part

abbrev pub words_of : Part → List (List ℕ)
words_of (Plain word) = word ∷ []
words_of (Apart s) = s.name ∷ s.value ∷ []
words_of (Joined s) = (s.name ++ 61 ∷ s.value) ∷ []

abbrev pub plain_of : Part → List (List ℕ)
plain_of (Plain word) = word ∷ []
plain_of (Apart s) = []
plain_of (Joined s) = []

abbrev pub settings_of : Part → List Setting
settings_of (Plain word) = []
settings_of (Apart s) = s ∷ []
settings_of (Joined s) = s ∷ []

-- A positional word may stand where it begins with no dash or is one dash alone, an option where its name is one of the command's.
abbrev pub MayStand : Command → Part → Type 0
MayStand command (Plain word) = is_option word ≡ false
MayStand command (Apart s) = Contains (options_of command) s.name
MayStand command (Joined s) = Contains (options_of command) s.name

-- the word `--` and words behind it, which are positional whatever they begin with; or nothing
abbrev pub ending : Option (List (List ℕ)) → List (List ℕ)
ending None = []
ending (Some words) = codes "--" ∷ words

-- The words are these positional words and these options of the command, each kind in its order, mixed in any way.
pub record AreParts (command : Command) (words plain : List (List ℕ)) (settings : List Setting) : Type 0 where
  pub parts : List Part
  pub last : Option (List (List ℕ))
  pub spelled : words ≡ flat_map words_of parts ++ ending last
  pub stand : All (MayStand command) parts
  pub positional : plain ≡ flat_map plain_of parts ++ unwrap_or last []
  pub options : settings ≡ flat_map settings_of parts

-- no option of that name stands
abbrev pub IsAbsent : List ℕ → List Setting → Type 0
IsAbsent name settings = All (λ s. s.name ≡ name → ⊥) settings

-- an option of that name stands once, with that value
pub record StandsOnce (name value : List ℕ) (settings : List Setting) : Type 0 where
  pub before : List Setting
  pub after : List Setting
  pub place : settings ≡ before ++ record { name = name; value = value } ∷ after
  pub none_before : IsAbsent name before
  pub none_after : IsAbsent name after
