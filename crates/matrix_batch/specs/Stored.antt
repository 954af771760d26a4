-- What the reader keeps of matrices: none past the first one too many, and no demands past the first one too many.
use Rattle.std.specs.Prelude.{◌≡◌, ℕ, ◌+◌, ◌≤◌, List, [], ◌∷◌, ◌++◌, length, map, min, Option, Some, None, nat_lt, slice_get, if◌then◌else◌}
use Rattle.mcf_limits.specs.declared.TheConstants.{MAX_DEMANDS, MAX_MATRICES}
use Rattle.sndlib_grammar.specs.Tokens.{Lexeme}
use Rattle.sndlib_grammar.specs.declared.token.TokenKind.{TokenKind}
use Rattle.sndlib_grammar.specs.declared.token.TokenKind.TheVariants as kinds
use Rattle.sndlib_grammar.specs.Grammar.{Word, DemandEntry}
use Rattle.sndlib_grammar.specs.Faults.{or_else, line_of}
use Rattle.sndlib_grammar.specs.Reading.{no_word}
use Rattle.matrix_batch.specs.Grammar.{MatrixEntry}
use Rattle.matrix_batch.specs.Faults.{all_demands, lesser_line, too_many}
use Rattle.matrix_batch.specs.declared.mode.Mode.{Mode}
use Rattle.matrix_batch.specs.declared.mode.Mode.TheVariants.{Between, Inside, Source, Target, Unit as Units, Value, Longest}
use Rattle.matrix_batch.specs.Reading.{Draft, Sofar, demand_of, word_of, no_draft}

-- the matrices that are kept, the next one, how many demands are kept in all, and the lines of the first ones too many
pub record Stored : Type 0 where
  pub name : Word
  pub draft : Draft
  pub demands : List DemandEntry
  pub matrices : List MatrixEntry
  pub count : ℕ
  pub extra_demand : Option ℕ
  pub extra_matrix : Option ℕ

abbrev pub at_start : Stored
at_start = record {
  name = no_word;
  draft = no_draft;
  demands = [];
  matrices = [];
  count = 0;
  extra_demand = None;
  extra_matrix = None;
}

-- ---- one token more

abbrev pub add_demand : Stored → DemandEntry → Stored
add_demand k d =
    if nat_lt k.count MAX_DEMANDS then record k { demands = k.demands ++ d ∷ []; count = k.count + 1 }
    else record k { extra_demand = or_else k.extra_demand (Some d.id.line) }

abbrev pub add_matrix : Stored → Stored
add_matrix k =
    if nat_lt (length k.matrices) MAX_MATRICES
    then record k { demands = []; matrices = k.matrices ++ record { name = k.name; demands = k.demands } ∷ [] }
    else record k { demands = []; extra_matrix = or_else k.extra_matrix (Some k.name.line) }

abbrev pub put_right : Mode → Stored → Stored
put_right Inside k = add_matrix k
put_right _ k = k

abbrev pub put_word : Mode → Word → Stored → Stored
put_word Between w k = record k { name = w }
put_word Inside w k = record k { draft = record k.draft { id = w } }
put_word Source w k = record k { draft = record k.draft { source = w } }
put_word Target w k = record k { draft = record k.draft { target = w } }
put_word Units w k = record k { draft = record k.draft { unit = w } }
put_word Value w k = record k { draft = record k.draft { value = w } }
put_word Longest w k = add_demand k (demand_of k.draft w)
put_word _ w k = k

abbrev pub put_by : TokenKind → Mode → Word → Stored → Stored
put_by kinds.LeftParen m w k = k
put_by kinds.RightParen m w k = put_right m k
put_by kinds.Word m w k = put_word m w k

abbrev pub put : Mode → Lexeme → Stored → Stored
put m t k = put_by t.kind m (word_of t) k

-- ---- what is kept of matrices

-- all demands so far, those of the next matrix too
abbrev pub demands_so_far : Sofar → List DemandEntry
demands_so_far s = all_demands s.matrices ++ s.demands

abbrev pub demand_ids : List DemandEntry → List Word
demand_ids demands = map (λ (d : DemandEntry). d.id) demands

abbrev pub matrix_names : List MatrixEntry → List Word
matrix_names matrices = map (λ (m : MatrixEntry). m.name) matrices

-- this is kept: all of it, as long as nothing is too much
pub record Fits (k : Stored) (s : Sofar) : Type 0 where
  pub name : k.name ≡ s.name
  pub draft : k.draft ≡ s.draft
  pub demand_count : k.count ≡ min MAX_DEMANDS (length (demands_so_far s))
  pub matrix_count : length k.matrices ≡ min MAX_MATRICES (length s.matrices)
  pub extra_demand : k.extra_demand ≡ line_of (slice_get (demand_ids (demands_so_far s)) MAX_DEMANDS)
  pub extra_matrix : k.extra_matrix ≡ line_of (slice_get (matrix_names s.matrices) MAX_MATRICES)
  pub demands : length (demands_so_far s) ≤ MAX_DEMANDS → k.demands ≡ s.demands
  pub matrices : length (demands_so_far s) ≤ MAX_DEMANDS → length s.matrices ≤ MAX_MATRICES
      → k.matrices ≡ s.matrices

-- the same of a whole list: the line of what is too much; and all matrices, where nothing is
pub record FitsList (k : Stored) (matrices : List MatrixEntry) : Type 0 where
  pub extra : lesser_line k.extra_matrix k.extra_demand ≡ too_many matrices
  pub whole : too_many matrices ≡ None → k.matrices ≡ matrices
