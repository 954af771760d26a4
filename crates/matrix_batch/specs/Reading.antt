-- The matrices of tokens, read one by one.
use Rattle.std.specs.Prelude.{ℕ, List, [], ◌∷◌, ◌++◌, length, Option, Some, None, Result, Ok, Err, nat_lt, if◌then◌else◌}
use Rattle.std.specs.Option.{option_map_or}
use Rattle.mcf_limits.specs.declared.TheConstants.{MAX_WORD_BYTES}
use Rattle.sndlib_grammar.specs.Tokens.{Lexeme}
use Rattle.sndlib_grammar.specs.declared.token.TokenKind.{TokenKind}
use Rattle.sndlib_grammar.specs.declared.token.TokenKind.TheVariants as kinds
use Rattle.sndlib_grammar.specs.Grammar.{Word, DemandEntry}
use Rattle.sndlib_grammar.specs.Reading.{no_word}
use Rattle.matrix_batch.specs.Grammar.{MatrixEntry}
use Rattle.matrix_batch.specs.declared.list_refusal.ListKind.TheVariants.{Syntax}
use Rattle.matrix_batch.specs.declared.list_refusal.ListRefusal.{ListRefusal}
use Rattle.matrix_batch.specs.declared.mode.Mode.{Mode}
use Rattle.matrix_batch.specs.declared.mode.Mode.TheVariants.{Between, Opening, Inside, Ends, Source, Target, EndsClose, Unit as Units, Value, Longest}

-- behind a token of that kind
abbrev pub after : Mode → TokenKind → Option Mode
after Between kinds.Word = Some Opening
after Opening kinds.LeftParen = Some Inside
after Inside kinds.RightParen = Some Between
after Inside kinds.Word = Some Ends
after Ends kinds.LeftParen = Some Source
after Source kinds.Word = Some Target
after Target kinds.Word = Some EndsClose
after EndsClose kinds.RightParen = Some Units
after Units kinds.Word = Some Value
after Value kinds.Word = Some Longest
after Longest kinds.Word = Some Inside
after _ _ = None

-- the first words of the demand that is being read
pub record Draft : Type 0 where
  pub id : Word
  pub source : Word
  pub target : Word
  pub unit : Word
  pub value : Word

-- the matrices so far, and what was read of the next: its name, its demands, and the first words of another demand
pub record Sofar : Type 0 where
  pub name : Word
  pub draft : Draft
  pub demands : List DemandEntry
  pub matrices : List MatrixEntry

abbrev pub demand_of : Draft → Word → DemandEntry
demand_of d longest = record {
  id = d.id;
  source = d.source;
  target = d.target;
  unit = d.unit;
  value = d.value;
  longest = longest;
}

abbrev pub with_matrix : Sofar → Sofar
with_matrix s = record s {
  demands = [];
  matrices = s.matrices ++ record { name = s.name; demands = s.demands } ∷ [];
}

-- what is kept at a right parenthesis
abbrev pub at_right : Mode → Sofar → Sofar
at_right Inside s = with_matrix s
at_right _ s = s

-- what is kept at a word
abbrev pub at_word : Mode → Word → Sofar → Sofar
at_word Between w s = record s { name = w }
at_word Inside w s = record s { draft = record s.draft { id = w } }
at_word Source w s = record s { draft = record s.draft { source = w } }
at_word Target w s = record s { draft = record s.draft { target = w } }
at_word Units w s = record s { draft = record s.draft { unit = w } }
at_word Value w s = record s { draft = record s.draft { value = w } }
at_word Longest w s = record s { demands = s.demands ++ demand_of s.draft w ∷ [] }
at_word _ w s = s

abbrev pub kept_by : TokenKind → Mode → Word → Sofar → Sofar
kept_by kinds.LeftParen m w s = s
kept_by kinds.RightParen m w s = at_right m s
kept_by kinds.Word m w s = at_word m w s

abbrev pub word_of : Lexeme → Word
word_of t = record { text = t.text; line = t.line }

-- what is kept at a token
abbrev pub kept : Mode → Lexeme → Sofar → Sofar
kept m t s = kept_by t.kind m (word_of t) s

abbrev pub refused : ℕ → Result (List MatrixEntry) ListRefusal
refused line = Err (record { line = line; kind = Syntax })

-- nothing more has to come
abbrev pub finished : ℕ → Mode → List MatrixEntry → Result (List MatrixEntry) ListRefusal
finished end Between matrices = Ok matrices
finished end _ matrices = refused end

-- the matrices of the tokens, or the first token that is refused; `end` is the line of the end
abbrev pub scan : ℕ → Mode → Sofar → List Lexeme → Result (List MatrixEntry) ListRefusal
scan end m s [] = finished end m s.matrices
scan end m s (t ∷ ts) =
    if nat_lt MAX_WORD_BYTES (length t.text) then refused t.line
    else option_map_or (λ next. scan end next (kept m t s) ts) (after m t.kind) (refused t.line)

abbrev pub no_draft : Draft
no_draft = record { id = no_word; source = no_word; target = no_word; unit = no_word; value = no_word }

-- before the first token
abbrev pub nothing_read : Sofar
nothing_read = record { name = no_word; draft = no_draft; demands = []; matrices = [] }
