-- Where a text can no longer be one of some kind: the first line with which it begins none.
use Rattle.std.specs.Prelude.{◌≡◌, ◌⊎◌, ℕ, ◌+◌, List, [], ◌∷◌, ◌++◌, ◌==◌, length, false}
use Rattle.std.specs.List.{AllByRecursion, flat_map}

-- the bytes of lines, each with its line feed
abbrev pub whole_lines : List (List ℕ) → List ℕ
whole_lines lines = flat_map (λ line. line ++ 10 ∷ []) lines

-- there is no line feed in these bytes
abbrev pub IsOneLine : List ℕ → Type 0
IsOneLine bytes = AllByRecursion (λ b. (b == 10) ≡ false) bytes

-- some text of the kind begins with these bytes
abbrev pub Begins : (List ℕ → Type 0) → List ℕ → Type 0
Begins IsText bytes = (more : List ℕ) × IsText (bytes ++ more)

-- the line of this number in the text stands behind these lines, and this behind it
pub record IsLineOf (text : List ℕ) (number : ℕ) (before : List (List ℕ)) (line after : List ℕ) : Type 0 where
  pub parts : text ≡ whole_lines before ++ (line ++ after)
  pub lines : AllByRecursion IsOneLine before
  pub here : IsOneLine line
  pub count : number ≡ length before + 1

-- the line has its line feed: some text of the kind begins with the lines before it, and none with them and it
pub record IsBadLine (IsText : List ℕ → Type 0) (text : List ℕ) (number : ℕ) : Type 0 where
  pub before : List (List ℕ)
  pub line : List ℕ
  pub after : List ℕ
  pub stands : IsLineOf text number before line (10 ∷ after)
  pub begun : Begins IsText (whole_lines before)
  pub refused : ¬ (Begins IsText (whole_lines before ++ (line ++ 10 ∷ [])))

-- the text ends in the line: some text of the kind begins with the lines before it, and this is none
pub record IsCutLine (IsText : List ℕ → Type 0) (text : List ℕ) (number : ℕ) : Type 0 where
  pub before : List (List ℕ)
  pub line : List ℕ
  pub stands : IsLineOf text number before line []
  pub begun : Begins IsText (whole_lines before)
  pub none : ¬ (IsText text)

-- with the line of this number the text can no longer be one of the kind
abbrev pub StopsAt : (List ℕ → Type 0) → List ℕ → ℕ → Type 0
StopsAt IsText text number = IsBadLine IsText text number ⊎ IsCutLine IsText text number
