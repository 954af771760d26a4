-- What a reader of words answers.
use Rattle.std.specs.Prelude.{◌≡◌, Option, Some, None, Result, Ok, Err}
use Rattle.mcf_words.specs.declared.request.WordsEnd.{WordsEnd}
use Rattle.mcf_words.specs.declared.request.WordsEnd.TheVariants.{Usage, Memory}

-- usage exactly where nothing is read; if memory ran out, nothing is said
abbrev pub Fails : {Y : Type 0} → WordsEnd → Option Y → Type 0
Fails Usage read = read ≡ None
Fails Memory read = Unit {0}

-- what was read, as the view sees it
abbrev pub Answers : {X Y : Type 0} → (X → Y) → Result X WordsEnd → Option Y → Type 0
Answers view (Ok x) read = read ≡ Some (view x)
Answers view (Err end) read = Fails end read
