-- Words as items: positional words, and options with their values.
use Rattle.std.specs.Prelude.{ℕ, Bool, List, [], ◌∷◌, ◌++◌, length, take, drop, position, Option, Some, None, codes, nat_lt, ◌+◌, ◌==◌, ◌&&◌, slice_index, if◌then◌else◌}
use Rattle.std.specs.Option.{option_map}
use Rattle.std.specs.Str.{bytes_eq}

-- an option with its value
pub record Setting : Type 0 where
  pub name : List ℕ
  pub value : List ℕ

-- the positional words and the options, each in order
pub record Items : Type 0 where
  pub positional : List (List ℕ)
  pub settings : List Setting

-- what the next word may be: anything, the value of the option of that name, or a positional word alone
pub data Reading : Type 0 where
  Open : Reading
  Waiting : List ℕ → Reading
  Closed : Reading

abbrev pub no_items : Items
no_items = record { positional = []; settings = [] }

-- the items of both, one after the other
abbrev pub joined : Items → Items → Items
joined a b = record { positional = a.positional ++ b.positional; settings = a.settings ++ b.settings }

abbrev pub word_item : List ℕ → Items
word_item word = record { positional = word ∷ []; settings = [] }

abbrev pub setting_item : List ℕ → List ℕ → Items
setting_item name value = record { positional = []; settings = record { name = name; value = value } ∷ [] }

-- the word ends the options
abbrev pub is_end : List ℕ → Bool
is_end word = bytes_eq word (codes "--")

-- the word begins with a dash and has more bytes
abbrev pub is_option : List ℕ → Bool
is_option word = nat_lt 1 (length word) && slice_index word 0 == 45

abbrev pub is_equals : ℕ → Bool
is_equals b = b == 61

-- the items that a word is, and how one reads on
pub record Step : Type 0 where
  pub items : Items
  pub next : Reading

-- an option whose name and value are joined by the `=` at that place, or one whose value is the next word
abbrev pub step_at : List ℕ → Option ℕ → Step
step_at word None = record { items = no_items; next = Waiting word }
step_at word (Some at) = record { items = setting_item (take at word) (drop (at + 1) word); next = Open }

abbrev pub step_of : Reading → List ℕ → Step
step_of Open word =
    if is_end word then record { items = no_items; next = Closed }
    else (if is_option word then step_at word (position is_equals word) else record { items = word_item word; next = Open })
step_of (Waiting name) word = record { items = setting_item name word; next = Open }
step_of Closed word = record { items = word_item word; next = Closed }

-- the items of the words, unless the last option lacks its value
abbrev pub items_from : Reading → List (List ℕ) → Option Items
items_from Open [] = Some no_items
items_from (Waiting name) [] = None
items_from Closed [] = Some no_items
items_from reading (word ∷ words) = let step = step_of reading word in option_map (joined step.items) (items_from step.next words)

abbrev pub items_of : List (List ℕ) → Option Items
items_of words = items_from Open words
