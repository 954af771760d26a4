-- A text read line by line, with the first fault that is met.
use Rattle.std.specs.Prelude.{◌≡◌, ℕ, ◌+◌, Bool, true, false, List, [], ◌∷◌, map, Result, Ok, Err, ◌&&◌, codes, if◌then◌else◌}
use Rattle.std.specs.List.{join_with_byte}
use Rattle.text_lines.specs.Lines.{Line}
use Rattle.cert_lines.specs.declared.refusal.CertKind.{CertKind}
use Rattle.cert_lines.specs.declared.refusal.CertKind.TheVariants.{Syntax}
use Rattle.cert_lines.specs.declared.refusal.CertRefusal.{CertRefusal}
use Rattle.cert_lines.specs.declared.refusal.CertEnd.{CertEnd}
use Rattle.cert_lines.specs.declared.refusal.CertEnd.TheVariants.{Refused, Memory}
use Rattle.cert_lines.specs.Forms.{◌>>=◌, or_fault, one_behind, begins, is_full, is_fixed}
use Rattle.std.specs.Str.{bytes_eq}

-- where reading stands: the number of the next line, and the lines that are left
pub record Place : Type 0 where
  pub at : ℕ
  pub rest : List Line

-- the fault, at that line
abbrev pub at_line : {A : Type 0} → ℕ → Result A CertKind → Result A CertRefusal
at_line at (Ok x) = Ok x
at_line at (Err kind) = Err (record { line = at; kind = kind })

-- a line follows, be it without a line feed or empty
abbrev pub has_more : List Line → Bool
has_more [] = false
has_more (line ∷ lines) = true

-- one line, and the place behind it: a line that is not there, or that no line feed ends, is a fault of form
abbrev pub line_from : {X : Type 0} → (Line → Result X CertKind) → ℕ → List Line → Result (X × Place) CertRefusal
line_from read at [] = Err (record { line = at; kind = Syntax })
line_from read at (line ∷ lines) = if has_more lines then (do
  x ← at_line at (read line)
  Ok (x, record { at = at + 1; rest = lines })) else Err (record { line = at; kind = Syntax })

unfoldable pub next_line : {X : Type 0} → (Line → Result X CertKind) → Place → Result (X × Place) CertRefusal
next_line read place = line_from read place.at place.rest

-- the rows with that keyword that stand at the front, and the place behind them; a line that no line feed ends is none
unfoldable pub rows_from : {X : Type 0} → List ℕ → (Line → Result X CertKind) → ℕ → List Line
    → Result (List X × Place) CertRefusal
rows_from key row at [] = Ok ([], record { at = at; rest = [] })
rows_from key row at (line ∷ lines) = if has_more lines && begins key line
    then (do
      x ← at_line at (row line)
      more ← rows_from key row (at + 1) lines
      Ok (x ∷ more.0, more.1))
    else Ok ([], record { at = at; rest = line ∷ lines })

abbrev pub rows_at : {X : Type 0} → List ℕ → (Line → Result X CertKind) → Place → Result (List X × Place) CertRefusal
rows_at key row place = rows_from key row place.at place.rest

-- the line is this text
abbrev pub fixed_line : List ℕ → Line → Result (Unit {0}) CertKind
fixed_line text words = if is_fixed text words then Ok tt else Err Syntax

-- the keyword and this word
unfoldable pub mode_line : List ℕ → List ℕ → Line → Result (Unit {0}) CertKind
mode_line key mode words = do
  word ← or_fault Syntax (one_behind key words)
  if bytes_eq word mode then Ok tt else Err Syntax

-- the bytes of which these are the lines
abbrev pub bytes_of : List Line → List ℕ
bytes_of lines = join_with_byte 10 (map (join_with_byte 32) lines)

-- the end: nothing stands behind its line feed
unfoldable pub closing : Place → Result (Unit {0}) CertRefusal
closing place = do
  rest ← next_line (fixed_line (codes "end")) place
  if is_full (bytes_of rest.1.rest) then Err (record { line = rest.1.at; kind = Syntax }) else Ok tt

-- what a function returned, seen by view, is what reading gives, unless memory ran out
abbrev pub Fails : {Y : Type 0} → CertEnd → Result Y CertRefusal → Type 0
Fails Memory read = Unit {0}
Fails (Refused refusal) read = read ≡ Err refusal

abbrev pub Gives : {X Y : Type 0} → (X → Y) → Result X CertEnd → Result Y CertRefusal → Type 0
Gives view (Ok x) read = read ≡ Ok (view x)
Gives view (Err end) read = Fails end read
