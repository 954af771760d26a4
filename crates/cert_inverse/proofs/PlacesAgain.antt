-- Lines and rows at a place of a text: what is spelled there is read, and what follows is left.
use Rattle.std.proofs.Common.{◌≡◌, ℕ, ◌+◌, Bool, true, false, cond, List, [], ◌∷◌, ◌++◌, length, Result, Ok, Err, refl, ap, ◌∙◌, arith}
use Rattle.std.specs.Prelude.{map, ◌&&◌}
use Rattle.std.specs.List.{AllByRecursion}
use Rattle.text_lines.specs.Lines.{Line}
use Rattle.text_lines.proofs.Laws.{ended}
use Rattle.cert_lines.specs.declared.refusal.CertKind.{CertKind}
use Rattle.cert_lines.specs.declared.refusal.CertKind.TheVariants.{Syntax}
use Rattle.cert_lines.specs.declared.refusal.CertRefusal.{CertRefusal}
use Rattle.cert_lines.specs.Forms.{◌>>=◌, begins, is_full}
use Rattle.cert_text.specs.Reading.{Place, at_line, has_more, next_line, rows_from, bytes_of, closing}
use Rattle.cert_writer.specs.Text.{end_line}

-- the place with that number before these lines
abbrev pub place : ℕ → List Line → Place
place at lines = record { at = at; rest = lines }

-- a line follows, and it does not begin with that word
abbrev pub Stops : List ℕ → List Line → Type 0
Stops key [] = ⊥
Stops key (line ∷ lines) = begins key line ≡ false

pub stops_rows : {X : Type 0} (key : List ℕ) (spelling : X → Line) → ((x : X) → begins key (spelling x) ≡ false) → (rows : List X) (rest : List Line) → Stops key rest → Stops key (map spelling rows ++ rest)
stops_rows key spelling other [] rest h = h
stops_rows key spelling other (x ∷ rows) rest h = other x

pub more_rows : {X : Type 0} (key : List ℕ) (spelling : X → Line) (rows : List X) (rest : List Line) → Stops key rest → has_more (map spelling rows ++ rest) ≡ true
more_rows key spelling [] [] h = absurd h
more_rows key spelling [] (line ∷ rest) h = refl
more_rows key spelling (x ∷ rows) rest h = refl

pub next_again : {X : Type 0} (read : Line → Result X CertKind) (at : ℕ) (line : Line) (rest : List Line) (x : X) → has_more rest ≡ true → read line ≡ Ok x → next_line read (place at (line ∷ rest)) ≡ Ok (x, place (at + 1) rest)
unfolding next_line
next_again read at line rest x more value = rw (more, value) refl

-- rows are read up to a line that begins otherwise
pub rows_again : {X : Type 0} (key : List ℕ) (row : Line → Result X CertKind) (spelling : X → Line) (Fits : X → Type 0) → ((x : X) → Fits x → row (spelling x) ≡ Ok x) → ((x : X) → begins key (spelling x) ≡ true)
    → (at : ℕ) (rows : List X) (rest : List Line) → AllByRecursion Fits rows → Stops key rest → rows_from key row at (map spelling rows ++ rest) ≡ Ok (rows, place (at + length rows) rest)
unfolding rows_from
rows_again key row spelling Fits complete opens at [] [] fit stop = absurd stop
rows_again {X} key row spelling Fits complete opens at [] (line ∷ more) fit stop =
    halts (has_more more) (at_line at (row line) >>= λ x. rows_from key row (at + 1) more >>= λ others. Ok (x ∷ others.0, others.1)) ∙ ap (λ (n : ℕ). Ok ([], place n (line ∷ more))) (omega arith)
  where
    halts : (b : Bool) (r : Result (List X × Place) CertRefusal) → cond (b && begins key line) r (Ok ([], place at (line ∷ more))) ≡ Ok ([], place at (line ∷ more))
    halts true r = rw stop refl
    halts false r = refl
rows_again {X} key row spelling Fits complete opens at (x ∷ rows) rest fit stop =
    let next : at + 1 + length rows ≡ at + length (x ∷ rows) = omega arith in
    rw (more_rows key spelling rows rest stop, opens x, complete x fit.0, rows_again key row spelling Fits complete opens (at + 1) rows rest fit.1 stop) (ap (λ (n : ℕ). Ok (x ∷ rows, place n rest)) next)

pub closing_again : (at : ℕ) → closing (place at (end_line ∷ ended)) ≡ Ok tt
unfolding closing next_line
closing_again at = refl

-- behind the end no byte may stand
pub closing_over : (at : ℕ) (tail : List Line) → has_more tail ≡ true → is_full (bytes_of tail) ≡ true → closing (place at (end_line ∷ tail)) ≡ Err (record { line = at + 1; kind = Syntax })
unfolding closing next_line
closing_over at tail more some = rw (more, some) refl
