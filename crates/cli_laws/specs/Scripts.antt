-- Where the tokens of a script stop to be commands.
use Rattle.std.specs.Prelude.{◌≡◌, ◌⊎◌, ℕ, ◌≤◌, All, List, [], ◌∷◌, ◌++◌, length, Some}
use Rattle.mcf_limits.specs.declared.TheConstants.{MAX_UNITS, MAX_WORD_BYTES}
use Rattle.sndlib_grammar.specs.Tokens.{Lexeme}
use Rattle.script.specs.declared.step.Step.{Step}
use Rattle.script.specs.Reading.{Terms, link_of}
use Rattle.script.specs.Commands.{AreCommands}

-- the tokens are commands, under these capacities of links
abbrev pub IsScript : Terms → List ℕ → List Lexeme → Type 0
IsScript terms caps tokens = (steps : List Step) × AreCommands terms caps tokens steps

-- some script begins with these tokens
abbrev pub IsBegun : Terms → List ℕ → List Lexeme → Type 0
IsBegun terms caps tokens = (more : List Lexeme) × IsScript terms caps (tokens ++ more)

-- some script begins with the tokens before this one, and none with them and this one
pub record IsBadToken (terms : Terms) (caps : List ℕ) (tokens : List Lexeme) (number : ℕ) : Type 0 where
  pub before : List Lexeme
  pub at : Lexeme
  pub after : List Lexeme
  pub parts : tokens ≡ before ++ at ∷ after
  pub begun : IsBegun terms caps before
  pub refused : ¬ (IsBegun terms caps (before ++ at ∷ []))
  pub line : number ≡ at.line

-- some script begins with all the tokens, and they are none
pub record IsCutOff (terms : Terms) (caps : List ℕ) (tokens : List Lexeme) (end number : ℕ) : Type 0 where
  pub begun : IsBegun terms caps tokens
  pub none : ¬ (IsScript terms caps tokens)
  pub line : number ≡ end

-- a command can go on: a word names a link, and no capacity is above the limit
pub record CanGoOn (terms : Terms) (caps : List ℕ) : Type 0 where
  pub id : List ℕ
  pub link : ℕ
  pub names : link_of terms id ≡ Some link
  pub short : length id ≤ MAX_WORD_BYTES
  pub limit : All (λ cap. cap ≤ MAX_UNITS) caps

-- the first token that is no more a script's, or the end, stands in this line
abbrev pub IsStoppedAt : Terms → List ℕ → List Lexeme → ℕ → ℕ → Type 0
IsStoppedAt terms caps tokens end line = IsBadToken terms caps tokens line ⊎ IsCutOff terms caps tokens end line
