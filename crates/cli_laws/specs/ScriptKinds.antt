-- What the kind of a refusal says of the token at which a script is refused.
use Rattle.std.specs.Prelude.{◌≡◌, ◌≢◌, ◌⊎◌, ℕ, ◌+◌, ◌<◌, ◌≤◌, List, [], ◌∷◌, ◌++◌, codes, Some, None, slice_index, slice_set}
use Rattle.mcf_limits.specs.declared.TheConstants.{MAX_UNITS}
use Rattle.sndlib_grammar.specs.Tokens.{Lexeme}
use Rattle.sndlib_grammar.specs.Number.{Number as Numeral, number_of}
use Rattle.unit_scale.specs.Units.{units_of}
use Rattle.script.specs.declared.refusal.ScriptKind.{ScriptKind}
use Rattle.script.specs.declared.refusal.ScriptKind.TheVariants.{Syntax, UnknownLink, BadNumber, TooFine, TooLarge, BelowZero}
use Rattle.script.specs.declared.refusal.ScriptRefusal.{ScriptRefusal}
use Rattle.script.specs.declared.step.Step.{Step}
use Rattle.script.specs.declared.step.Step.TheVariants.{Edit, Show}
use Rattle.script.specs.declared.word.Change.TheVariants.{Add, Sub}
use Rattle.script.specs.declared.word.Expected.{Expected}
use Rattle.script.specs.declared.word.Expected.TheVariants.{Command, Link, Closing, Number}
use Rattle.script.specs.Reading.{Terms, link_of}
use Rattle.script.specs.Commands.{IsWord, AreCommands, change_word}

-- the capacities of links after these steps
abbrev pub caps_after : List ℕ → List Step → List ℕ
caps_after caps [] = caps
caps_after caps (Show ∷ steps) = caps_after caps steps
caps_after caps (Edit link cap ∷ steps) = caps_after (slice_set caps link cap) steps

-- a word with this text
pub record IsVerb (t : Lexeme) (text : List ℕ) : Type 0 where
  pub word : IsWord t
  pub says : t.text ≡ text

-- a word that is the id of this link
pub record IsId (terms : Terms) (t : Lexeme) (link : ℕ) : Type 0 where
  pub word : IsWord t
  pub names : link_of terms t.text ≡ Some link

-- the words of a command that has begun, by what has to stand next
abbrev pub IsOpened : Terms → Expected → List Lexeme → Type 0
IsOpened terms Command part = part ≡ []
IsOpened terms (Link change) part = (verb : Lexeme) × (part ≡ verb ∷ []) × IsVerb verb (change_word change)
IsOpened terms Closing part = (verb : Lexeme) × (part ≡ verb ∷ []) × IsVerb verb (codes "close")
IsOpened terms (Number change link) part =
    (verb : Lexeme) × (id : Lexeme) × (part ≡ verb ∷ id ∷ []) × IsVerb verb (change_word change) × IsId terms id link

-- the tokens are commands, after which links have the capacities `now`, and the words of a command that has begun
pub record IsWithin (terms : Terms) (caps : List ℕ) (tokens : List Lexeme) (next : Expected) (now : List ℕ) : Type 0 where
  pub done : List Lexeme
  pub part : List Lexeme
  pub steps : List Step
  pub parts : tokens ≡ done ++ part
  pub commands : AreCommands terms caps done steps
  pub opened : IsOpened terms next part
  pub left : now ≡ caps_after caps steps

-- the word is none of the five commands
pub record IsNoCommand (text : List ℕ) : Type 0 where
  pub set : text ≢ codes "set"
  pub add : text ≢ codes "add"
  pub sub : text ≢ codes "sub"
  pub close : text ≢ codes "close"
  pub show : text ≢ codes "show"

-- the token is a word, and a number of this many units
pub record IsUnits (terms : Terms) (t : Lexeme) (units : ℕ) : Type 0 where
  pub word : IsWord t
  pub value : Numeral
  pub reads : number_of t.text ≡ Some value
  pub whole : units_of terms.decimals value ≡ Some units

-- the token is a word, and a number that is no whole number of units
pub record IsFine (terms : Terms) (t : Lexeme) : Type 0 where
  pub word : IsWord t
  pub value : Numeral
  pub reads : number_of t.text ≡ Some value
  pub fine : units_of terms.decimals value ≡ None

-- What is wrong with a token where this has to stand, and links have these capacities: no word, or no command where one
-- has to stand; a word that is the id of no link; no number; no whole number of units; more units than the limit, or
-- with them more than the limit; no more units than the limit, but more than there are.
abbrev pub IsFault : Terms → List ℕ → Lexeme → Expected → ScriptKind → Type 0
IsFault terms caps t next Syntax = ¬ (IsWord t) ⊎ (IsWord t × (next ≡ Command) × IsNoCommand t.text)
IsFault terms caps t (Link change) UnknownLink = IsWord t × (link_of terms t.text ≡ None)
IsFault terms caps t Closing UnknownLink = IsWord t × (link_of terms t.text ≡ None)
IsFault terms caps t (Number change link) BadNumber = IsWord t × (number_of t.text ≡ None)
IsFault terms caps t (Number change link) TooFine = IsFine terms t
IsFault terms caps t (Number change link) TooLarge =
    (units : ℕ) × IsUnits terms t units × ((MAX_UNITS < units) ⊎ ((change ≡ Add) × (MAX_UNITS < slice_index caps link + units)))
IsFault terms caps t (Number change link) BelowZero =
    (units : ℕ) × IsUnits terms t units × (units ≤ MAX_UNITS) × (change ≡ Sub) × (slice_index caps link < units)
IsFault terms caps t next kind = ⊥

-- the refusal is of a token, behind commands and the words of one that has begun
pub record IsOfToken (terms : Terms) (caps : List ℕ) (tokens : List Lexeme) (r : ScriptRefusal) : Type 0 where
  pub before : List Lexeme
  pub at : Lexeme
  pub after : List Lexeme
  pub parts : tokens ≡ before ++ at ∷ after
  pub next : Expected
  pub now : List ℕ
  pub within : IsWithin terms caps before next now
  pub fault : IsFault terms now at next r.kind
  pub line : r.line ≡ at.line

-- the refusal is of the end, behind commands and the words of one that has begun
pub record IsOfEnd (terms : Terms) (caps : List ℕ) (tokens : List Lexeme) (end : ℕ) (r : ScriptRefusal) : Type 0 where
  pub next : Expected
  pub now : List ℕ
  pub within : IsWithin terms caps tokens next now
  pub unfinished : next ≢ Command
  pub kind : r.kind ≡ Syntax
  pub line : r.line ≡ end
