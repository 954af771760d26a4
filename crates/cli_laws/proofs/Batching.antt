-- What a run of `batch` wrote for a matrix is judged valid by a run of `check` on the network with that matrix's demands.
use Rattle.std.proofs.Common.{◌≡◌, ℕ, ◌≤◌, List, [], ◌∷◌, Some, Result, Ok, Err, inl, inr, map, sym, ap, subst, ◌∙◌, arith}
use Rattle.std.specs.List.{AllByRecursion, AllZip}
use Rattle.std.proofs.lemmas.List.Elements.{recursion_from_All}
use Rattle.mcf_limits.specs.declared.TheConstants.{MAX_LIST_BYTES}
use Rattle.mcf_base.specs.Reading.{IsText}
use Rattle.mcf_base.specs.Shelf.{Holding, with_file}
use Rattle.flow_model.specs.Network.{IsNetwork}
use Rattle.sndlib_grammar.specs.Rows.{AreNetRows, NetRows}
use Rattle.sndlib_grammar.specs.Canonical.{ArePrintable, canonical_text}
use Rattle.sndlib_grammar.proofs.Printable.{text_printable}
use Rattle.sndlib_grammar.proofs.RowFacts.{text_rows_hold}
use Rattle.unit_scale.specs.declared.options.NetOptions.{NetOptions}
use Rattle.unit_scale.specs.Scaling.{ScaledNet, scaled_of}
use Rattle.unit_scale.specs.ScaledFacts.{IsScaledNet}
use Rattle.solver_run.specs.declared.options.SolveOptions.{SolveOptions}
use Rattle.solver_run.specs.History.{SolvedView}
use Rattle.solver_run.specs.Headline.{IsSolved}
use Rattle.cert_lines.specs.Sheet.{IsOf, Sheet, sheet_of}
use Rattle.cert_lines.specs.declared.net_line.TheConstants.{MAX_COUNT}
use Rattle.cert_writer.specs.Text.{certificate_text}
use Rattle.cert_judge.specs.declared.judged.Judged.{Judged}
use Rattle.cert_judge.specs.Judgement.{IsJudgement}
use Rattle.cert_inverse.specs.Judging.{valid_of}
use Rattle.matrix_batch.specs.Grammar.{MatrixEntry}
use Rattle.matrix_batch.specs.Matrices.{Matrix, matrix_of, rows_of}
use Rattle.matrix_batch.specs.Batch.{IsBatch}
use Rattle.matrix_batch.specs.Refusals.{BatchRefusal, InList, InNet}
use Rattle.mcf_words.specs.declared.request.Command.TheVariants as commands
use Rattle.mcf_words.specs.declared.request.Request.{Request}
use Rattle.base_cmd.specs.declared.ended.Ended.{Ended}
use Rattle.base_cmd.specs.declared.outcome.FileKind.TheVariants as kinds
use Rattle.base_cmd.specs.declared.outcome.Outcome.TheVariants as outcomes
use Rattle.base_cmd.specs.Answer.{Answer}
use Rattle.base_cmd.specs.Files.{Ends}
use Rattle.batch_cmd.specs.Asked.{batch_options}
use Rattle.batch_cmd.specs.Batch.{OfList, OnBatch, OnList, SolvesBatch, batch_asked_of}
use Rattle.batch_cmd.specs.Solves.{IsSolvedMatrix}
use Rattle.batch_cmd.proofs.Solved.{can_be_written}
use Rattle.mcf_cli.specs.Run.{file_at}
use Rattle.cli_laws.specs.Accepted.{IsNetFile}
use Rattle.cli_laws.specs.Batched.{AreAlike, BatchRunsCheck, Batches, ChecksMatrix, IsTextOfRows, text_for}
use Rattle.cli_laws.proofs.Alike.{scaled_alike, sheet_alike}
use Rattle.cli_laws.proofs.Canonical.{text_of_rows}
use Rattle.cli_laws.proofs.Checking.{RunAnswer, SaysValid, checked, run_answered}
use Rattle.cli_laws.proofs.Given.{ends_full, not_full, rows_of_file, text_of_file}
use Rattle.cli_laws.proofs.Networks.{net_is_sound}
use Rattle.cli_laws.proofs.Skipping.{can_be_counted}

-- the law of what is solved: its text is judged valid on such rows, and nothing else is said of it
abbrev pub SolvesAlone : Type 0
SolvesAlone =
    (rows : NetRows) (net : ScaledNet) (o : SolveOptions) (s : SolvedView) (judged : Judged) → IsOf rows net → rows.skipped ≤ MAX_COUNT → IsScaledNet net → IsNetwork net.net → IsSolved net.net o s
    → IsJudgement rows (certificate_text (sheet_of rows net) s.proof) judged → judged ≡ valid_of net s.proof

-- ---- the certificate of a matrix

turned : (a b : NetRows) → AreAlike a b → AreAlike b a
turned a b h = record { same = sym h.same; skipped = sym h.skipped }

matrix_checks : SolvesAlone → (m : Matrix) (s : SolvedView) → IsSolvedMatrix m s → ChecksMatrix m s
matrix_checks alone m s is again check before after ended on =
    let found = on.found in
    let file = on.net_file in
    let alike = turned found m.rows on.alike in
    let of : IsOf found m.net = record {
      well = text_rows_hold file.text found file.read;
      options = is.named.options;
      scaled = scaled_alike m.rows found is.named.options m.net alike is.named.scaled;
    } in
    let sound = net_is_sound found is.named.options m.net of.well of.scaled in
    let counted = can_be_counted file.text found file.given.short file.read in
    let says : SaysValid found m.net s.proof (text_for m s) = λ judged said.
    alone found m.net is.options s judged of counted sound.1 sound.0 is.solved
    (subst (λ (sheet : Sheet). IsJudgement found (certificate_text sheet s.proof) judged) (sheet_alike m.rows found m.net alike) said) in
    checked again again check check (text_for m s) before after ended found m.net s.proof file says on.run

all_check : SolvesAlone → (batch : List Matrix) (many : List SolvedView) → AllZip IsSolvedMatrix batch many → AllZip ChecksMatrix batch many
all_check alone [] [] h = tt
all_check alone [] (s ∷ ss) h = absurd h
all_check alone (m ∷ ms) [] h = absurd h
all_check alone (m ∷ ms) (s ∷ ss) h = (matrix_checks alone m s h.0, all_check alone ms ss h.1)

-- ---- the canonical text of a matrix's rows

abbrev IsOwn : NetOptions → Matrix → Type 0
IsOwn o m = AreNetRows m.rows × (scaled_of m.rows o ≡ Ok m.net)

abbrev IsPrinted : Matrix → Type 0
IsPrinted m = IsTextOfRows m.rows (canonical_text m.rows)

all_printed : (rows : NetRows) (o : NetOptions) (entries : List MatrixEntry) → ArePrintable rows → rows.skipped ≡ 0 → AllByRecursion (IsOwn o) (map (matrix_of rows o) entries)
    → AllByRecursion IsPrinted (map (matrix_of rows o) entries)
all_printed rows o [] p none own = tt
all_printed rows o (m ∷ ms) p none own =
    (text_of_rows (rows_of rows m) (record { sound = own.0.0; modules = p.modules }) none, all_printed rows o ms p none own.1)

batch_printed : (rows : NetRows) (o : NetOptions) (list : List ℕ) (batch : List Matrix) → ArePrintable rows → rows.skipped ≡ 0 → IsBatch rows o list (Ok batch) → AllByRecursion (IsOwn o) batch
    → AllByRecursion IsPrinted batch
batch_printed rows o list batch p none (entries, are, faultless, same) own =
    subst (AllByRecursion IsPrinted) (sym same) (all_printed rows o entries p none (subst (AllByRecursion (IsOwn o)) same own))

-- ---- the run of `batch`

module _ (alone : SolvesAlone) (files : Holding) (request : Request) (text : List ℕ) (ended : Ended) (a : RunAnswer commands.Batch 1 files request text ended) (rows : NetRows)
    (net_file : IsNetFile files (file_at request 0) rows) (list : List ℕ) (given : IsText MAX_LIST_BYTES (Some files) (file_at request 1) list) where
  solves_told : (batch : List Matrix) → IsBatch rows request.net list (Ok batch) → SolvesBatch request.net (batch_asked_of request) batch a.answer → Batches files request text ended
  solves_told batch read (inl (n, is, same)) = absurd (not_full a.answer (outcomes.TooMuch n) same a.low (omega arith))
  solves_told batch read (inr (many, are, same)) = record {
    rows = rows;
    net_file = net_file;
    list_file = record { text = list; given = given; batch = batch; read = read; work = are.work };
    many = many;
    solves = are;
    is = a.text_is ∙ ap (λ (x : Answer). x.text) same;
    status = a.status_is ∙ ap (λ (x : Answer). x.status) same;
    checks = all_check alone batch many (can_be_written request.net (batch_options batch (batch_asked_of request)) batch many are.own are.solved);
    printed = λ none. batch_printed rows request.net list batch (text_printable net_file.text rows net_file.read) none read (recursion_from_All (IsOwn request.net) batch are.own.each);
  }

  list_told : (found : Result (List Matrix) BatchRefusal) → IsBatch rows request.net list found → OnBatch request.net (batch_asked_of request) found a.answer → Batches files request text ended
  list_told (Err (InNet r)) read same = absurd (not_full a.answer (outcomes.NetRefused r) same a.low (omega arith))
  list_told (Err (InList r)) read same = absurd (not_full a.answer (outcomes.ListRefused r) same a.low (omega arith))
  list_told (Ok batch) read solves = solves_told batch read solves

pub batch_checks : SolvesAlone → BatchRunsCheck
batch_checks alone files request text ended run =
    let first = file_at request 0 in
    let list = file_at request 1 in
    let a = run_answered commands.Batch 1 files request text ended (omega arith) run in
    let r = rows_of_file files first (λ rows. OfList request rows list) a.old a.new a.answer a.tells a.low a.of in
    let t = text_of_file MAX_LIST_BYTES kinds.List files list (λ text. Ends (OnList request r.0 text)) (with_file a.old first) a.new a.answer a.tells a.low r.2 in
    let on : OnList request r.0 t.0 a.answer = ends_full (OnList request r.0 t.0) (with_file (with_file a.old first) list) a.new a.answer a.low t.2 in
    list_told alone files request text ended a r.0 r.1 t.0 t.1 on.0 on.1 on.2
