-- What is said of all words and requests.
use Rattle.std.specs.Prelude.{◌≡◌, ◌↔◌, ℕ, List, Some, None}
use Rattle.mcf_words.specs.declared.request.Request.{Request}
use Rattle.mcf_words.specs.Request.{request_of}
use Rattle.mcf_words.specs.Spelled.{IsSpelled}
use Rattle.mcf_words.specs.Words.{IsRequest, words_for}

-- what words ask for, they spell
abbrev pub RequestsAreSpelled : Type 0
RequestsAreSpelled = (words : List (List ℕ)) (r : Request) → request_of words ≡ Some r → IsSpelled words r

-- and what they spell, they ask for
abbrev pub SpelledAreRead : Type 0
SpelledAreRead = (words : List (List ℕ)) (r : Request) → IsSpelled words r → request_of words ≡ Some r

-- words are usage exactly where they spell no request
abbrev pub UsageIsNoSpelling : Type 0
UsageIsNoSpelling = (words : List (List ℕ)) → (request_of words ≡ None) ↔ ((r : Request) → IsSpelled words r → ⊥)

abbrev pub WordsSpellOne : Type 0
WordsSpellOne = (words : List (List ℕ)) (r other : Request) → IsSpelled words r → IsSpelled words other → r ≡ other

-- every request has words
abbrev pub RequestsHaveWords : Type 0
RequestsHaveWords = (r : Request) → IsRequest r → IsSpelled (words_for r) r

-- and is read from them
abbrev pub WordsAreRead : Type 0
WordsAreRead = (r : Request) → IsRequest r → request_of (words_for r) ≡ Some r
