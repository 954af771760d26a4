-- Scripts as commands: which tokens spell which steps.
use Rattle.std.specs.Prelude.{◌≡◌, ◌⊎◌, ℕ, ◌≤◌, List, [], ◌∷◌, length, codes, Some, Ok, slice_index, slice_set}
use Rattle.mcf_limits.specs.declared.TheConstants.{MAX_WORD_BYTES}
use Rattle.sndlib_grammar.specs.Tokens.{Lexeme}
use Rattle.sndlib_grammar.specs.declared.token.TokenKind.TheVariants.{Word}
use Rattle.sndlib_grammar.specs.Number.{number_of}
use Rattle.unit_scale.specs.Units.{units_read}
use Rattle.script.specs.declared.step.Step.{Step}
use Rattle.script.specs.declared.step.Step.TheVariants.{Edit, Show}
use Rattle.script.specs.declared.word.Change.{Change}
use Rattle.script.specs.declared.word.Change.TheVariants.{Set, Add, Sub}
use Rattle.script.specs.Reading.{Terms, link_of, changed}

-- a word that is not too long
pub record IsWord (t : Lexeme) : Type 0 where
  pub kind : t.kind ≡ Word
  pub short : length t.text ≤ MAX_WORD_BYTES

abbrev pub change_word : Change → List ℕ
change_word Set = codes "set"
change_word Add = codes "add"
change_word Sub = codes "sub"

-- the tokens begin with `show`
pub record IsShow (tokens rest : List Lexeme) : Type 0 where
  pub verb : Lexeme
  pub spelled : tokens ≡ verb ∷ rest
  pub word : IsWord verb
  pub shows : verb.text ≡ codes "show"

-- the tokens begin with `close` and the id of the link
pub record IsClose (terms : Terms) (tokens rest : List Lexeme) (link : ℕ) : Type 0 where
  pub verb : Lexeme
  pub id : Lexeme
  pub spelled : tokens ≡ verb ∷ id ∷ rest
  pub word : IsWord verb
  pub closes : verb.text ≡ codes "close"
  pub id_word : IsWord id
  pub names : link_of terms id.text ≡ Some link

-- the tokens begin with a change, the id of the link and a number of units that changes its capacity to that
pub record IsChange (terms : Terms) (caps : List ℕ) (change : Change) (tokens rest : List Lexeme) (link cap : ℕ) : Type 0 where
  pub verb : Lexeme
  pub id : Lexeme
  pub number : Lexeme
  pub spelled : tokens ≡ verb ∷ id ∷ number ∷ rest
  pub word : IsWord verb
  pub changes : verb.text ≡ change_word change
  pub id_word : IsWord id
  pub names : link_of terms id.text ≡ Some link
  pub number_word : IsWord number
  pub count : ℕ
  pub reads : units_read terms.decimals (number_of number.text) ≡ Ok count
  pub gives : changed change (slice_index caps link) count ≡ Ok cap

-- the tokens are commands, one after the other, that do these steps under these capacities of links
abbrev pub AreCommands : Terms → List ℕ → List Lexeme → List Step → Type 0
AreCommands terms caps tokens [] = tokens ≡ []
AreCommands terms caps tokens (Show ∷ steps) = (rest : List Lexeme) × IsShow tokens rest × AreCommands terms caps rest steps
AreCommands terms caps tokens (Edit link cap ∷ steps) =
    (rest : List Lexeme) × ((IsClose terms tokens rest link × (cap ≡ 0)) ⊎ ((change : Change) × IsChange terms caps change tokens rest link cap))
    × AreCommands terms (slice_set caps link cap) rest steps
