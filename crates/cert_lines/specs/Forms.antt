-- Forms of lines: a keyword, and words behind it.
use Rattle.std.specs.Prelude.{ℕ, ◌+◌, Bool, false, List, [], ◌∷◌, length, take, drop, Option, Some, None, Result, Ok, Err, position, nat_lt, ◌==◌, ◌&&◌, if◌then◌else◌}
use Rattle.std.specs.Option.{option_map}
use Rattle.std.specs.Str.{bytes_eq}
use Rattle.std.specs.List.{join_with_byte, list_all}
use Rattle.text_lines.specs.Lines.{Line, words_of}
use Rattle.cert_lines.specs.declared.refusal.CertKind.{CertKind}

infixl 10 ◌>>=◌
-- one step after another, up to the first that fails
abbrev pub ◌>>=◌ : {A B E : Type 0} → Result A E → (A → Result B E) → Result B E
(Ok x) >>= f = f x
(Err e) >>= f = Err e

-- what was read, as the model sees it
abbrev pub seen : {A B E : Type 0} → (A → B) → Result A E → Result B E
seen view (Ok x) = Ok (view x)
seen view (Err e) = Err e

-- what is there, or else that fault
abbrev pub or_fault : {A : Type 0} → CertKind → Option A → Result A CertKind
or_fault kind None = Err kind
or_fault kind (Some x) = Ok x

abbrev pub is_full : List ℕ → Bool
is_full word = nat_lt 0 (length word)

-- the line begins with that word
abbrev pub begins : List ℕ → Line → Bool
begins key [] = false
begins key (word ∷ words) = bytes_eq word key

-- the line is this text
abbrev pub is_fixed : List ℕ → Line → Bool
is_fixed text words = bytes_eq (join_with_byte 32 words) text

-- the words of what follows a word
abbrev pub words_in : Option (List ℕ) → Line
words_in None = []
words_in (Some line) = words_of line

-- the word behind the keyword, where the line is the keyword and one word that is not empty
abbrev pub one_behind : List ℕ → Line → Option (List ℕ)
one_behind key (word ∷ first ∷ []) = if bytes_eq word key && is_full first then Some first else None
one_behind key _ = None

-- the two words behind the keyword, where the line is the keyword and two words that are not empty
abbrev pub two_behind : List ℕ → Line → Option (List ℕ × List ℕ)
two_behind key (word ∷ first ∷ second ∷ []) =
    if bytes_eq word key && is_full first && is_full second then Some (first, second) else None
two_behind key _ = None

-- the word behind the keyword and any number of words, none of them empty
abbrev pub list_behind : List ℕ → Line → Option (List ℕ × Line)
list_behind key (word ∷ first ∷ others) =
    if bytes_eq word key && list_all is_full (first ∷ others) then Some (first, others) else None
list_behind key _ = None

-- the two words behind the keyword and any number of words, none of them empty
abbrev pub row_behind : List ℕ → Line → Option (List ℕ × List ℕ × Line)
row_behind key (word ∷ first ∷ second ∷ others) =
    if bytes_eq word key && list_all is_full (first ∷ second ∷ others) then Some (first, second, others) else None
row_behind key _ = None

-- what stands before and behind the first stroke
abbrev pub stroke_parts : List ℕ → Option (List ℕ × List ℕ)
stroke_parts word = option_map (λ i. (take i word, drop (i + 1) word)) (position (λ b. b == 47) word)

-- the name and a word that is not empty at the front of these words, and what follows
abbrev pub named_first : List ℕ → Line → Option (List ℕ × Line)
named_first name (word ∷ value ∷ words) = if bytes_eq word name && is_full value then Some (value, words) else None
named_first name _ = None
