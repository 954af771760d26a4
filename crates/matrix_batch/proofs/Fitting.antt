-- What is kept of matrices fits them, token by token.
use Rattle.std.proofs.Common.{◌≡◌, ℕ, zero, suc, ◌+◌, ◌≤◌, List, [], ◌∷◌, ◌++◌, length, min, refl, ap, sym, subst, ◌∙◌, arith, append_assoc, append-nil, Some, None, Bool, true, false}
use Rattle.std.specs.Prelude.{nat_lt, slice_get, if◌then◌else◌}
use Rattle.std.proofs.lemmas.List.{map-append, length-map, length-append}
use Rattle.std.proofs.lemmas.Bool.{ltb-false, ltb-true}
use Rattle.std.proofs.lemmas.Option.{slice_get_past}
use Rattle.mcf_limits.specs.declared.TheConstants.{MAX_DEMANDS, MAX_MATRICES}
use Rattle.sndlib_grammar.specs.Tokens.{Lexeme}
use Rattle.sndlib_grammar.specs.declared.token.TokenKind.{TokenKind}
use Rattle.sndlib_grammar.specs.declared.token.TokenKind.TheVariants as kinds
use Rattle.sndlib_grammar.specs.Grammar.{Word, DemandEntry}
use Rattle.sndlib_grammar.specs.Faults.{or_else, line_of}
use Rattle.matrix_batch.specs.Grammar.{MatrixEntry}
use Rattle.matrix_batch.specs.Faults.{all_demands, lesser_line}
use Rattle.matrix_batch.proofs.Sound.{all_counted, names_counted}
use Rattle.matrix_batch.specs.declared.mode.Mode.{Mode}
use Rattle.matrix_batch.specs.declared.mode.Mode.TheVariants.{Between, Opening, Inside, Ends, Source, Target, EndsClose, Unit as Units, Value, Longest}
use Rattle.matrix_batch.specs.Reading.{Draft, Sofar, demand_of, with_matrix, word_of, kept, kept_by, nothing_read}
use Rattle.matrix_batch.specs.Stored.{Stored, at_start, add_demand, add_matrix, put, put_by, demands_so_far, demand_ids, matrix_names, Fits, FitsList}

pub fits_at_start : Fits at_start nothing_read
fits_at_start = record { name = refl; draft = refl; demand_count = refl; matrix_count = refl; extra_demand = refl; extra_matrix = refl; demands = λ h. refl; matrices = λ h k. refl }

renamed : (k : Stored) (s : Sofar) (w : Word) → Fits k s → Fits (record k { name = w }) (record s { name = w })
renamed k s w h = record { name = refl; draft = h.draft; demand_count = h.demand_count; matrix_count = h.matrix_count; extra_demand = h.extra_demand; extra_matrix = h.extra_matrix; demands = h.demands; matrices = h.matrices }

redrafted : (k : Stored) (s : Sofar) (f : Draft → Draft) → Fits k s → Fits (record k { draft = f k.draft }) (record s { draft = f s.draft })
redrafted k s f h = record { name = h.name; draft = ap f h.draft; demand_count = h.demand_count; matrix_count = h.matrix_count; extra_demand = h.extra_demand; extra_matrix = h.extra_matrix; demands = h.demands; matrices = h.matrices }

-- ---- the line of the first one too many

not_yet : (xs : List Word) (n : ℕ) → length xs ≤ n → line_of (slice_get xs n) ≡ None
not_yet xs n h = ap line_of (slice_get_past xs n h)

one_past : (xs : List Word) (x : Word) (n : ℕ) → n ≤ length xs → or_else (line_of (slice_get xs n)) (Some x.line) ≡ line_of (slice_get (xs ++ x ∷ []) n)
one_past [] x zero h = refl
one_past [] x (suc n) h = absurd (omega (arith, h))
one_past (y ∷ ys) x zero h = refl
one_past (y ∷ ys) x (suc n) h = one_past ys x n (omega (arith, h))

-- ---- a demand

fits_demand : (k : Stored) (s : Sofar) (d : DemandEntry) → Fits k s → Fits (add_demand k d) (record s { demands = s.demands ++ d ∷ [] })
fits_demand k s d h =
    let so_far = demands_so_far s in
    let more = all_demands s.matrices ++ (s.demands ++ d ∷ []) in
    let parts : more ≡ so_far ++ d ∷ [] = sym (append_assoc (all_demands s.matrices) s.demands (d ∷ [])) in
    let size : length more ≡ length so_far + 1 = ap (length {A = DemandEntry}) parts ∙ length-append so_far (d ∷ []) in
    let ids : demand_ids more ≡ demand_ids so_far ++ d.id ∷ [] = ap demand_ids parts ∙ map-append (λ (d : DemandEntry). d.id) so_far (d ∷ []) in
    let ids_size : length (demand_ids so_far) ≡ length so_far = length-map so_far (λ (d : DemandEntry). d.id) in
    let more_size : length (demand_ids more) ≡ length more = length-map more (λ (d : DemandEntry). d.id) in
    let count = h.demand_count in
    let go = elim (nat_lt k.count MAX_DEMANDS) as (λ (c : Bool). nat_lt k.count MAX_DEMANDS ≡ c
    → Fits (if c then record k { demands = k.demands ++ d ∷ []; count = k.count + 1 } else record k { extra_demand = or_else k.extra_demand (Some d.id.line) }) (record s { demands = s.demands ++ d ∷ [] })) [
      | true ↦ λ e. (let less = ltb-true k.count MAX_DEMANDS e in
          record {
            name = h.name;
            draft = h.draft;
            demand_count = omega (arith, less, count, size);
            matrix_count = h.matrix_count;
            extra_demand = h.extra_demand ∙ not_yet (demand_ids so_far) MAX_DEMANDS (omega (arith, less, count, ids_size)) ∙ sym (not_yet (demand_ids more) MAX_DEMANDS (omega (arith, less, count, size, more_size)));
            extra_matrix = h.extra_matrix;
            demands = λ few. ap (λ l. l ++ d ∷ []) (h.demands (omega (arith, less, count)));
            matrices = λ few. h.matrices (omega (arith, less, count));
          })
      | false ↦ λ e. (let full = ltb-false k.count MAX_DEMANDS e in
          record {
            name = h.name;
            draft = h.draft;
            demand_count = omega (arith, full, count, size);
            matrix_count = h.matrix_count;
            extra_demand = ap (λ o. or_else o (Some d.id.line)) h.extra_demand ∙ one_past (demand_ids so_far) d.id MAX_DEMANDS (omega (arith, full, count, ids_size)) ∙ ap (λ l. line_of (slice_get l MAX_DEMANDS)) (sym ids);
            extra_matrix = h.extra_matrix;
            demands = λ few. absurd (omega (arith, full, count, size, few));
            matrices = λ few. absurd (omega (arith, full, count, size, few));
          })
    ] in
    go refl

-- ---- a matrix

demands-push : (ms : List MatrixEntry) (m : MatrixEntry) → all_demands (ms ++ m ∷ []) ≡ all_demands ms ++ m.demands
demands-push [] m = append-nil m.demands
demands-push (x ∷ xs) m = ap (λ l. x.demands ++ l) (demands-push xs m) ∙ sym (append_assoc x.demands (all_demands xs) m.demands)

fits_matrix : (k : Stored) (s : Sofar) → Fits k s → Fits (add_matrix k) (with_matrix s)
fits_matrix k s h =
    let m : MatrixEntry = record { name = s.name; demands = s.demands } in
    let own : MatrixEntry = record { name = k.name; demands = k.demands } in
    let more = s.matrices ++ m ∷ [] in
    let same : all_demands more ++ [] ≡ demands_so_far s = append-nil (all_demands more) ∙ demands-push s.matrices m in
    let size : length more ≡ length s.matrices + 1 = length-append s.matrices (m ∷ []) in
    let kept_size : length (k.matrices ++ own ∷ []) ≡ length k.matrices + 1 = length-append k.matrices (own ∷ []) in
    let names : matrix_names more ≡ matrix_names s.matrices ++ s.name ∷ [] = map-append (λ (m : MatrixEntry). m.name) s.matrices (m ∷ []) in
    let names_size : length (matrix_names s.matrices) ≡ length s.matrices = length-map s.matrices (λ (m : MatrixEntry). m.name) in
    let more_size : length (matrix_names more) ≡ length more = length-map more (λ (m : MatrixEntry). m.name) in
    let few_demands : length (all_demands more ++ []) ≤ MAX_DEMANDS → length (demands_so_far s) ≤ MAX_DEMANDS = λ few. subst (λ l. length l ≤ MAX_DEMANDS) same few in
    let count = h.matrix_count in
    let demand_count : k.count ≡ min MAX_DEMANDS (length (all_demands more ++ [])) = h.demand_count ∙ ap (λ l. min MAX_DEMANDS (length {A = DemandEntry} l)) (sym same) in
    let extra_demand : k.extra_demand ≡ line_of (slice_get (demand_ids (all_demands more ++ [])) MAX_DEMANDS) = h.extra_demand ∙ ap (λ l. line_of (slice_get (demand_ids l) MAX_DEMANDS)) (sym same) in
    let go = elim (nat_lt (length k.matrices) MAX_MATRICES) as (λ (c : Bool). nat_lt (length k.matrices) MAX_MATRICES ≡ c
    → Fits (if c then record k { demands = []; matrices = k.matrices ++ own ∷ [] } else record k { demands = []; extra_matrix = or_else k.extra_matrix (Some k.name.line) }) (with_matrix s)) [
      | true ↦ λ e. (let less = ltb-true (length k.matrices) MAX_MATRICES e in
          record {
            name = h.name;
            draft = h.draft;
            demand_count = demand_count;
            matrix_count = omega (arith, less, count, size, kept_size);
            extra_demand = extra_demand;
            extra_matrix = h.extra_matrix ∙ not_yet (matrix_names s.matrices) MAX_MATRICES (omega (arith, less, count, names_size)) ∙ sym (not_yet (matrix_names more) MAX_MATRICES (omega (arith, less, count, size, more_size)));
            demands = λ few. refl;
            matrices = λ few small. ap (λ l. l ++ own ∷ []) (h.matrices (few_demands few) (omega (arith, less, count)))
                ∙ ap (λ n. s.matrices ++ record { name = n; demands = k.demands } ∷ []) h.name
                ∙ ap (λ ds. s.matrices ++ record { name = s.name; demands = ds } ∷ []) (h.demands (few_demands few));
          })
      | false ↦ λ e. (let full = ltb-false (length k.matrices) MAX_MATRICES e in
          record {
            name = h.name;
            draft = h.draft;
            demand_count = demand_count;
            matrix_count = omega (arith, full, count, size);
            extra_demand = extra_demand;
            extra_matrix = ap (λ o. or_else o (Some k.name.line)) h.extra_matrix ∙ ap (λ (w : Word). or_else (line_of (slice_get (matrix_names s.matrices) MAX_MATRICES)) (Some w.line)) h.name
                ∙ one_past (matrix_names s.matrices) s.name MAX_MATRICES (omega (arith, full, count, names_size)) ∙ ap (λ l. line_of (slice_get l MAX_MATRICES)) (sym names);
            demands = λ few. refl;
            matrices = λ few small. absurd (omega (arith, full, count, size, small));
          })
    ] in
    go refl

-- ---- a token

fits_by : (kind : TokenKind) (m : Mode) (w : Word) (k : Stored) (s : Sofar) → Fits k s → Fits (put_by kind m w k) (kept_by kind m w s)
fits_by kinds.LeftParen m w k s h = h
fits_by kinds.RightParen Inside w k s h = fits_matrix k s h
fits_by kinds.RightParen Between w k s h = h
fits_by kinds.RightParen Opening w k s h = h
fits_by kinds.RightParen Ends w k s h = h
fits_by kinds.RightParen Source w k s h = h
fits_by kinds.RightParen Target w k s h = h
fits_by kinds.RightParen EndsClose w k s h = h
fits_by kinds.RightParen Units w k s h = h
fits_by kinds.RightParen Value w k s h = h
fits_by kinds.RightParen Longest w k s h = h
fits_by kinds.Word Between w k s h = renamed k s w h
fits_by kinds.Word Opening w k s h = h
fits_by kinds.Word Inside w k s h = redrafted k s (λ d. record d { id = w }) h
fits_by kinds.Word Ends w k s h = h
fits_by kinds.Word Source w k s h = redrafted k s (λ d. record d { source = w }) h
fits_by kinds.Word Target w k s h = redrafted k s (λ d. record d { target = w }) h
fits_by kinds.Word EndsClose w k s h = h
fits_by kinds.Word Units w k s h = redrafted k s (λ d. record d { unit = w }) h
fits_by kinds.Word Value w k s h = redrafted k s (λ d. record d { value = w }) h
fits_by kinds.Word Longest w k s h =
    subst (λ (d : DemandEntry). Fits (add_demand k d) (record s { demands = s.demands ++ demand_of s.draft w ∷ [] })) (ap (λ (d : Draft). demand_of d w) (sym h.draft)) (fits_demand k s (demand_of s.draft w) h)

pub fits_kept : (m : Mode) (t : Lexeme) (k : Stored) (s : Sofar) → Fits k s → Fits (put m t k) (kept m t s)
fits_kept m t k s h = fits_by t.kind m (word_of t) k s h

-- ---- at the end

pub fits_list : (k : Stored) (s : Sofar) → Fits k s → s.demands ≡ [] → FitsList k s.matrices
fits_list k s h clear =
    let all : demands_so_far s ≡ all_demands s.matrices = ap (λ l. all_demands s.matrices ++ l) clear ∙ append-nil (all_demands s.matrices) in
    let demand : k.extra_demand ≡ line_of (slice_get (demand_ids (all_demands s.matrices)) MAX_DEMANDS) = h.extra_demand ∙ ap (λ l. line_of (slice_get (demand_ids l) MAX_DEMANDS)) all in
    record {
      extra = ap (λ o. lesser_line o k.extra_demand) h.extra_matrix ∙ ap (lesser_line (line_of (slice_get (matrix_names s.matrices) MAX_MATRICES))) demand;
      whole = λ none. h.matrices (subst (λ l. length l ≤ MAX_DEMANDS) (sym all) (all_counted s.matrices none)) (names_counted s.matrices none);
    }
