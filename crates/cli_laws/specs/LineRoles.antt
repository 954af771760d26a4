-- What the lines of a text have to be, and what is wrong with one that is not so: of a certificate, of a routing, of a certificate
-- with hop limits, and of one of a total.
use Rattle.std.specs.Prelude.{◌≡◌, ◌≢◌, ◌⊎◌, ℕ, ◌+◌, ◌-◌, ◌<◌, ◌≤◌, Bool, true, List, [], ◌∷◌, ◌++◌, length, map, codes, slice_get, Option, Some, None, Result, Ok, Err}
use Rattle.std.specs.List.{AllByRecursion, join_with_byte}
use Rattle.std.specs.Str.Parse.{digits_value}
use Rattle.gap_fraction.specs.declared.fraction.TheConstants.{MAX_PART}
use Rattle.mcf_limits.specs.declared.TheConstants.{MAX_LENGTH}
use Rattle.text_lines.specs.Lines.{Line}
use Rattle.cert_lines.specs.Sheet.{Sheet}
use Rattle.cert_lines.specs.declared.net_line.TheConstants.{MAX_COUNT}
use Rattle.cert_lines.specs.declared.refusal.CertKind.{CertKind}
use Rattle.cert_lines.specs.declared.refusal.CertKind.TheVariants.{Syntax, OtherNet}
use Rattle.cert_lines.specs.Forms.{begins}
use Rattle.cert_lines.specs.HeadLines.{count_words}
use Rattle.cert_lines.specs.Spelling.{verdict_words, links_words, modules_words}
use Rattle.cert_text.specs.declared.opening.Kind.{Kind}
use Rattle.cert_text.specs.declared.opening.Kind.TheVariants.{Certificate, Routing}
use Rattle.cli_laws.specs.CertKinds.{Sorted, number, IsRight, IsLineFault, gap_form, phases_form, scale_form, value_form, path_form, length_form, potential_form, layer_form, threshold_form}
use Rattle.cli_laws.specs.Refusals.{Reason}

-- a certificate of `solve`, or a routing; a certificate with hop limits; a certificate of a total
pub data TextKind : Type 0 where
  paper : Kind → TextKind
  hops : TextKind
  total : TextKind

-- what a line before the rows has to be; of the lower fraction, neither part is above that number
pub data HeadRole : Type 0 where
  verdict : HeadRole
  links : HeadRole
  modules : HeadRole
  counts : HeadRole
  gap : HeadRole
  phases : HeadRole
  scale : HeadRole
  lower : ℕ → HeadRole
  upper : HeadRole
  threshold : HeadRole

-- a row: a path, the length of a cell, the potentials of a node, a layer
pub data RowRole : Type 0 where
  path : RowRole
  cell : RowRole
  node : RowRole
  layer : RowRole

-- what a line behind the first one has to be: one before the rows, a row, the end, or not there
pub data Role : Type 0 where
  head_line : HeadRole → Role
  row_line : RowRole → Role
  last : Role
  nothing : Role

-- ---- where lines stand

-- the lines from the second on, up to the rows
abbrev pub head_of : TextKind → List HeadRole
head_of (paper Routing) = links ∷ modules ∷ phases ∷ scale ∷ []
head_of (paper Certificate) = verdict ∷ links ∷ modules ∷ counts ∷ gap ∷ phases ∷ scale ∷ lower MAX_LENGTH ∷ upper ∷ []
head_of hops = verdict ∷ links ∷ modules ∷ counts ∷ gap ∷ phases ∷ scale ∷ lower MAX_LENGTH ∷ upper ∷ []
head_of total = verdict ∷ links ∷ modules ∷ counts ∷ gap ∷ phases ∷ scale ∷ lower MAX_PART ∷ upper ∷ threshold ∷ []

-- how many lines stand before the rows
abbrev pub head_count : TextKind → ℕ
head_count kind = length (head_of kind) + 1

-- the place of a row in their order
abbrev pub order : RowRole → ℕ
order path = 0
order cell = 1
order node = 2
order layer = 3

-- how many kinds of rows a text may have: so many of the first ones in that order
abbrev pub row_count : TextKind → ℕ
row_count (paper Routing) = 1
row_count (paper Certificate) = 3
row_count hops = 4
row_count total = 3

abbrev pub HasRow : TextKind → RowRole → Type 0
HasRow kind role = order role < row_count kind

-- the line of this number has to be so; rows, the end and what may not stand behind it come at any later line
abbrev pub StandsAt : TextKind → Role → ℕ → Type 0
StandsAt kind (head_line role) n = (2 ≤ n) × (slice_get (head_of kind) (n - 2) ≡ Some role)
StandsAt kind (row_line role) n = HasRow kind role × (head_count kind < n)
StandsAt kind last n = head_count kind < n
StandsAt kind nothing n = head_count kind + 1 < n

-- the word with which a row begins
abbrev pub key_of : RowRole → List ℕ
key_of path = codes "path"
key_of cell = codes "length"
key_of node = codes "potential"
key_of layer = codes "layer"

-- the lines are all those before the rows
abbrev pub AreBeforeRows : TextKind → List Line → Type 0
AreBeforeRows kind lines = length lines ≡ head_count kind

-- the last of the lines stands behind those, and begins as such a row does
abbrev pub EndsWith : TextKind → RowRole → List Line → Type 0
EndsWith kind role lines =
    (front : List Line) × (line : Line) × (lines ≡ front ++ line ∷ []) × (head_count kind ≤ length front)
    × (begins (key_of role) line ≡ true)

-- the last of the lines is a row that comes later in that order than such a row
abbrev pub IsPast : TextKind → RowRole → List Line → Type 0
IsPast kind role lines = (later : RowRole) × (order role < order later) × HasRow kind later × EndsWith kind later lines

-- the line begins with the word of no row that may stand behind these lines
abbrev pub BeginsNoRow : TextKind → List Line → Line → Type 0
BeginsNoRow kind before line = (role : RowRole) → HasRow kind role → begins (key_of role) line ≡ true → IsPast kind role before

-- the last of the lines is the end
abbrev pub AreEnded : List Line → Type 0
AreEnded lines = (front : List Line) × (line : Line) × (lines ≡ front ++ line ∷ []) × (join_with_byte 32 line ≡ codes "end")

-- a row stands behind the lines before the rows, or behind a row that comes no later in the order; the end is no row that
-- may still stand, and stands before what may not stand
abbrev pub IsInOrder : TextKind → Role → List Line → Line → Type 0
IsInOrder kind (head_line role) before line = Unit {0}
IsInOrder kind (row_line role) before line =
    AreBeforeRows kind before ⊎ ((earlier : RowRole) × (order earlier ≤ order role) × EndsWith kind earlier before)
IsInOrder kind last before line = BeginsNoRow kind before line
IsInOrder kind nothing before line = AreEnded before

-- ---- what is wrong with a line

-- the words of the counts, where the line has its form
abbrev pub counts_in : Result ((List ℕ × List ℕ × List ℕ × List ℕ × Line) × (List ℕ × List ℕ × List ℕ × Line)) CertKind → Option (List (List ℕ))
counts_in (Err kind) = None
counts_in (Ok w) = Some (w.0.0 ∷ w.0.1 ∷ w.0.2 ∷ w.0.3 ∷ w.1.0 ∷ w.1.1 ∷ w.1.2 ∷ [])

abbrev pub as_counts : Option (List (List ℕ)) → Option (List Sorted)
as_counts None = None
as_counts (Some words) = Some (map (λ word. (number MAX_COUNT, word)) words)

-- the line has its form, and its counts are numbers within their limit, but not those of the network
pub record IsOtherNet (sheet : Sheet) (line : Line) (kind : CertKind) : Type 0 where
  pub other : kind ≡ OtherNet
  pub words : List (List ℕ)
  pub form : counts_in (count_words line) ≡ Some words
  pub right : AllByRecursion (λ word. IsRight (number MAX_COUNT, word)) words
  pub differs : map (digits_value 10) words ≢ sheet.counts

-- what is wrong with a line before the rows that has to be so
abbrev pub IsHeadFault : Sheet → HeadRole → Line → CertKind → Type 0
IsHeadFault sheet verdict line kind = (kind ≡ Syntax) × ((closed : Bool) → join_with_byte 32 line ≢ join_with_byte 32 (verdict_words closed))
IsHeadFault sheet links line kind = (kind ≡ Syntax) × ¬ ((line ≡ links_words sheet) × (0 < length sheet.link_mode))
IsHeadFault sheet modules line kind = (kind ≡ Syntax) × ¬ ((line ≡ modules_words sheet) × (0 < length sheet.module_mode))
IsHeadFault sheet counts line kind = IsLineFault (as_counts (counts_in (count_words line))) kind ⊎ IsOtherNet sheet line kind
IsHeadFault sheet gap line kind = IsLineFault (gap_form line) kind
IsHeadFault sheet phases line kind = IsLineFault (phases_form line) kind
IsHeadFault sheet scale line kind = IsLineFault (scale_form line) kind
IsHeadFault sheet (lower most) line kind = IsLineFault (value_form (codes "lower") most line) kind
IsHeadFault sheet upper line kind = IsLineFault (value_form (codes "upper") MAX_PART line) kind
IsHeadFault sheet threshold line kind = IsLineFault (threshold_form line) kind

-- the words of a row that has its form
abbrev pub row_form : Sheet → RowRole → Line → Option (List Sorted)
row_form sheet path line = path_form sheet line
row_form sheet cell line = length_form sheet line
row_form sheet node line = potential_form sheet line
row_form sheet layer line = layer_form sheet line

-- what is wrong with a line that has to be so
abbrev pub IsRoleFault : Sheet → Role → Line → CertKind → Type 0
IsRoleFault sheet (head_line role) line kind = IsHeadFault sheet role line kind
IsRoleFault sheet (row_line role) line kind = (begins (key_of role) line ≡ true) × IsLineFault (row_form sheet role line) kind
IsRoleFault sheet last line kind = (kind ≡ Syntax) × (join_with_byte 32 line ≢ codes "end")
IsRoleFault sheet nothing line kind = kind ≡ Syntax

-- what is wrong with the line between these, behind the first one: it is the last, without a line feed; or it has one, and
-- is not what it has to be
abbrev pub IsBodyReason : Sheet → TextKind → Reason
IsBodyReason sheet kind before line after r =
    ((after ≡ []) × (r.kind ≡ Syntax))
    ⊎ ((after ≢ []) × (role : Role) × StandsAt kind role r.line × IsInOrder kind role before line
    × IsRoleFault sheet role line r.kind)
