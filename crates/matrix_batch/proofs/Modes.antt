-- Where reading a list stands: a list begins with symbols exactly where they lead to a mode.
use Rattle.std.proofs.Common.{◌≡◌, List, [], ◌∷◌, ◌++◌, refl, ap, sym, ◌∙◌, append_assoc, Option, Some, None}
use Rattle.std.specs.Prelude.{option_and_then}
use Rattle.std.specs.List.{flat_map}
use Rattle.sndlib_grammar.specs.Grammar.{Symbol, Left, Right, Name, Word, DemandEntry, demand}
use Rattle.matrix_batch.specs.Grammar.{MatrixEntry, matrix, spelled, IsList, IsBegun}

-- what comes next: a matrix, what opens it, or a demand or the end of the matrix; and within a demand each of its symbols
pub data Mode : Type 0 where
  Between : Mode
  Opening : Mode
  Inside : Mode
  Ends : Mode
  Source : Mode
  Target : Mode
  EndsClose : Mode
  Units : Mode
  Value : Mode
  Longest : Mode

abbrev pub after : Mode → Symbol → Option Mode
after Between (Name w) = Some Opening
after Opening Left = Some Inside
after Inside (Name w) = Some Ends
after Inside Right = Some Between
after Ends Left = Some Source
after Source (Name w) = Some Target
after Target (Name w) = Some EndsClose
after EndsClose Right = Some Units
after Units (Name w) = Some Value
after Value (Name w) = Some Longest
after Longest (Name w) = Some Inside
after _ _ = None

abbrev pub walk : Mode → List Symbol → Option Mode
walk m [] = Some m
walk m (t ∷ ts) = option_and_then (λ k. walk k ts) (after m t)

pub walk-append : (xs ys : List Symbol) (m : Mode) → walk m (xs ++ ys) ≡ option_and_then (λ k. walk k ys) (walk m xs)
walk-append [] ys m = refl
walk-append (x ∷ xs) ys m =
    elim (after m x) as (λ (o : Option Mode). option_and_then (λ k. walk k (xs ++ ys)) o ≡ option_and_then (λ k. walk k ys) (option_and_then (λ k. walk k xs) o))
    [ None ↦ refl | Some k ↦ walk-append xs ys k ]

-- ---- lists are walked over to their ends

demands_walked : (ds : List DemandEntry) (ts : List Symbol) → walk Inside (flat_map demand ds ++ ts) ≡ walk Inside ts
demands_walked [] ts = refl
demands_walked (d ∷ ds) ts = demands_walked ds ts

matrix_walked : (m : MatrixEntry) (ts : List Symbol) → walk Between (matrix m ++ ts) ≡ walk Between ts
matrix_walked m ts = ap (walk Inside) (append_assoc (flat_map demand m.demands) (Right ∷ []) ts) ∙ demands_walked m.demands (Right ∷ ts)

pub list_walked : (ms : List MatrixEntry) → walk Between (spelled ms) ≡ Some Between
list_walked [] = refl
list_walked (m ∷ ms) = matrix_walked m (spelled ms) ∙ list_walked ms

-- ---- what is walked over to the end is a list

-- the symbols are a list; or demands, the end of their matrix, and a list
record IsWhole (ts : List Symbol) : Type 0 where
  matrices : List MatrixEntry
  are : ts ≡ spelled matrices

record IsRest (ts : List Symbol) : Type 0 where
  demands : List DemandEntry
  matrices : List MatrixEntry
  are : ts ≡ flat_map demand demands ++ Right ∷ spelled matrices

abbrev Meaning : Mode → List Symbol → Type 0
Meaning Between ts = IsWhole ts
Meaning Inside ts = IsRest ts
Meaning _ ts = Unit {0}

one_matrix : (w : Word) (ts : List Symbol) → IsRest ts → IsWhole (Name w ∷ Left ∷ ts)
one_matrix w ts h =
    let m : MatrixEntry = record { name = w; demands = h.demands } in
    record { matrices = m ∷ h.matrices; are = ap (λ (l : List Symbol). Name w ∷ Left ∷ l) (h.are ∙ sym (append_assoc (flat_map demand h.demands) (Right ∷ []) (spelled h.matrices))) }

one_demand : (d : DemandEntry) (ts : List Symbol) → IsRest ts → IsRest (demand d ++ ts)
one_demand d ts h = record { demands = d ∷ h.demands; matrices = h.matrices; are = ap (λ (l : List Symbol). demand d ++ l) h.are }

sound : (ts : List Symbol) (m : Mode) → walk m ts ≡ Some Between → Meaning m ts
sound [] Between h = record { matrices = []; are = refl }
sound (Name w ∷ Left ∷ ts) Between h = one_matrix w ts (sound ts Inside h)
sound ts Between h = absurd cc
sound (Right ∷ ts) Inside h = let more = sound ts Between h in record { demands = []; matrices = more.matrices; are = ap (λ (l : List Symbol). Right ∷ l) more.are }
sound (Name id ∷ Left ∷ Name source ∷ Name target ∷ Right ∷ Name unit ∷ Name value ∷ Name longest ∷ ts) Inside h =
    one_demand (record { id = id; source = source; target = target; unit = unit; value = value; longest = longest }) ts (sound ts Inside h)
sound ts Inside h = absurd cc
sound ts _ h = tt

pub whole : (ts : List Symbol) → walk Between ts ≡ Some Between → (ms : List MatrixEntry) × IsList ts ms
whole ts h = let is = sound ts Between h in (is.matrices, is.are)

-- ---- each mode has a way to the end

abbrev any : Symbol
any = Name (record { text = []; line = 0 })

abbrev closing : Mode → List Symbol
closing Between = []
closing Opening = Left ∷ Right ∷ []
closing Inside = Right ∷ []
closing Ends = Left ∷ any ∷ any ∷ Right ∷ any ∷ any ∷ any ∷ Right ∷ []
closing Source = any ∷ any ∷ Right ∷ any ∷ any ∷ any ∷ Right ∷ []
closing Target = any ∷ Right ∷ any ∷ any ∷ any ∷ Right ∷ []
closing EndsClose = Right ∷ any ∷ any ∷ any ∷ Right ∷ []
closing Units = any ∷ any ∷ any ∷ Right ∷ []
closing Value = any ∷ any ∷ Right ∷ []
closing Longest = any ∷ Right ∷ []

closes : (m : Mode) → walk m (closing m) ≡ Some Between
closes Between = refl
closes Opening = refl
closes Inside = refl
closes Ends = refl
closes Source = refl
closes Target = refl
closes EndsClose = refl
closes Units = refl
closes Value = refl
closes Longest = refl

-- where symbols lead to a mode, some list begins with them
pub begun : (ts : List Symbol) (m : Mode) → walk Between ts ≡ Some m → IsBegun ts
begun ts m h =
    let end : walk Between (ts ++ closing m) ≡ Some Between = walk-append ts (closing m) Between ∙ ap (λ (o : Option Mode). option_and_then (λ k. walk k (closing m)) o) h ∙ closes m in
    let is = whole (ts ++ closing m) end in
    (closing m, is.0, is.1)

-- and where they lead to none, no list does
pub not_begun : (ts : List Symbol) → walk Between ts ≡ None → IsBegun ts → ⊥
not_begun ts h b =
    let end : None ≡ Some Between = sym (ap (λ (o : Option Mode). option_and_then (λ k. walk k b.0) o) h) ∙ sym (walk-append ts b.0 Between) ∙ ap (walk Between) b.2 ∙ list_walked b.1 in
    absurd cc
