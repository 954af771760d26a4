-- The words for a request spell it.
use Rattle.std.proofs.Common.{◌≡◌, ◌∙◌, ◌&&◌, ◌*◌, ◌+◌, ◌-◌, ◌^◌, ◌≤◌, ◌<◌, ◌⊎◌, inl, inr, ℕ, Bool, cond, true, false, refl, sym, ap, subst, arith, List, [], ◌∷◌, ◌++◌, append-nil, length, map, take, drop, Option, Some, None, All, Contains, codes, decimal, le-leb, eq-eqb, eqb-true}
use Rattle.std.specs.Prelude.{◌==◌, nat_le, slice_index_or}
use Rattle.std.specs.Char.{is_ascii_digit}
use Rattle.std.specs.Int.{IsInRange}
use Rattle.std.specs.List.{flat_map, list_all, prefix_len}
use Rattle.std.specs.Str.Parse.{AllDigits, digits_value}
use Rattle.std.proofs.Math.Seq.{take-append_seam, drop-append_seam}
use Rattle.std.proofs.lemmas.Bool.{and_from, eqb-false, ne_eqb}
use Rattle.std.proofs.lemmas.Bool.Decides.{nat_tests}
use Rattle.std.proofs.lemmas.Fmt.{decimal_is_IsNumeral, length-decimal-le}
use Rattle.std.proofs.lemmas.List.Elements.{All-nil, All-from_recursion, All-map}
use Rattle.std.proofs.lemmas.Str.Parse.{digit_from_value}
use Rattle.mcf_limits.specs.declared.TheConstants.{MAX_GAP, MAX_NODES, MAX_LINKS, MAX_DEMANDS, MAX_PHASES, MAX_WORKERS, MAX_STEP}
use Rattle.sndlib_grammar.specs.Number.{Number, behind_digits, behind_whole, front_digits, number_of, plain}
use Rattle.unit_scale.specs.Modes.{link_word, module_word}
use Rattle.mcf_words.specs.declared.request.Command.{Command}
use Rattle.mcf_words.specs.declared.request.Command.TheVariants.{Solve, Check, WhatIf, Upgrade, Tighten, Batch, Sweep, SweepSolve, CheckHops, CheckThroughput, Hops, Throughput, Print, Gen, Trial}
use Rattle.mcf_words.specs.declared.request.Request.{Request}
use Rattle.mcf_words.specs.Items.{Setting}
use Rattle.mcf_words.specs.Values.{values_of}
use Rattle.mcf_words.specs.Request.{AreWorkers, IsBudget, IsFileCount, IsWithinLimits, least_files, options_of, one_worker_options, solver_options}
use Rattle.mcf_words.specs.Parts.{Apart, AreParts, MayStand, words_of, plain_of, settings_of}
use Rattle.mcf_words.specs.WordValues.{IsGapWord, IsNumberWord, IsPhasesWord, IsWorkersWord, Says}
use Rattle.mcf_words.specs.Spelled.{IsSpelled, NameFiles, NameNumbers, OptionsSay}
use Rattle.mcf_words.specs.Words.{AreFour, HasDefaults, IsRequest, gap_word, option_words, options_for, phases_words, plain_for, takes_workers, words_for, workers_words}
use Rattle.mcf_words.proofs.FileCounts.{no_file_counted}
use Rattle.mcf_words.proofs.PartsRead.{IsKnown}
use Rattle.mcf_words.proofs.Saying.{values_absent, values_once}

-- ---- numbers

digit_test : (c : ℕ) → IsInRange 48 57 c → is_ascii_digit c ≡ true
digit_test c r = grind (arith, nat_tests)

are_digits : (ds : List ℕ) → AllDigits 10 ds → list_all is_ascii_digit ds ≡ true
are_digits [] d = refl
are_digits (c ∷ cs) d = rw (digit_test c (digit_from_value c d.0), are_digits cs d.1) refl

pub number_word : (low high n : ℕ) → low ≤ n → n ≤ high → n < 2 ^ 64 → IsNumberWord low high (decimal n) n
number_word low high n from_low to_high small =
    let k = decimal_is_IsNumeral n small in
    let some : 1 ≤ length (decimal n) = omega (arith, k.0.0) in
    let few : length (decimal n) ≤ 20 = length-decimal-le 20 n (omega arith) (omega arith) small in
    record {
      form = and_from (nat_le 1 (length (decimal n)) && nat_le (length (decimal n)) 20) (list_all is_ascii_digit (decimal n))
          (and_from (nat_le 1 (length (decimal n))) (nat_le (length (decimal n)) 20) (le-leb 1 (length (decimal n)) some) (le-leb (length (decimal n)) 20 few))
          (are_digits (decimal n) k.0.1);
      value = k.1;
      from_low = from_low;
      to_high = to_high;
    }

-- the exponent of millionths
abbrev sixth : List ℕ
sixth = codes "E-6"

all_front : (ds : List ℕ) → AllDigits 10 ds → prefix_len is_ascii_digit (ds ++ sixth) ≡ length ds
all_front [] d = refl
all_front (c ∷ cs) d = rw (digit_test c (digit_from_value c d.0)) (omega (arith, all_front cs d.1))

abbrev millionths : List ℕ → Number
millionths ds = record { whole = ds; fraction = []; up = 0; down = 6 }

read_millionths : (ds : List ℕ) → AllDigits 10 ds → 0 < length ds → number_of (ds ++ sixth) ≡ Some (millionths ds)
read_millionths ds digits some =
    let front : front_digits (ds ++ sixth) ≡ ds = ap (λ k. take k (ds ++ sixth)) (all_front ds digits) ∙ take-append_seam ds sixth in
    let behind : behind_digits (ds ++ sixth) ≡ sixth = ap (λ k. drop k (ds ++ sixth)) (all_front ds digits) ∙ drop-append_seam ds sixth in
    ap (λ w. behind_whole w (behind_digits (ds ++ sixth))) front ∙ ap (behind_whole ds) behind ∙ ap (λ b. cond b None (Some (millionths ds))) (some_digit (length ds) some)
  where
    some_digit : (n : ℕ) → 0 < n → (n + 0 == 0) ≡ false
    some_digit n some = grind (arith, nat_tests)

pub gap_is : (gap : ℕ) → gap ≤ MAX_GAP → IsGapWord (gap_word gap) gap
gap_is gap limit =
    let k = decimal_is_IsNumeral gap (omega arith) in
    record {
      number = millionths (decimal gap);
      form = read_millionths (decimal gap) k.0.1 k.0.0;
      value = ap (λ ds. digits_value 10 ds * 10 ^ 6) (append-nil (decimal gap)) ∙ ap (λ v. v * 10 ^ 6) k.1;
      limit = limit;
    }

-- ---- options

abbrev phases_settings : Option ℕ → List Setting
phases_settings None = []
phases_settings (Some n) = record { name = codes "--phases"; value = decimal n } ∷ []

abbrev workers_settings : Option ℕ → List Setting
workers_settings None = []
workers_settings (Some n) = record { name = codes "--workers"; value = decimal n } ∷ []

abbrev settings_with : Request → Option ℕ → Option ℕ → List Setting
settings_with r phases workers =
    record { name = codes "--links"; value = link_word r.net.links } ∷ record { name = codes "--modules"; value = module_word r.net.modules }
    ∷ record { name = codes "--gap"; value = gap_word r.gap }
    ∷ (phases_settings phases ++ workers_settings workers ++ record { name = codes "--step"; value = decimal r.step } ∷ [])

abbrev words_with : Request → Option ℕ → Option ℕ → List (List ℕ)
words_with r phases workers =
    codes "--links" ∷ link_word r.net.links ∷ codes "--modules" ∷ module_word r.net.modules ∷ codes "--gap" ∷ gap_word r.gap
    ∷ (phases_words phases ++ workers_words workers ++ codes "--step" ∷ decimal r.step ∷ [])

words_apart : (r : Request) (phases workers : Option ℕ) → flat_map words_of (map Apart (settings_with r phases workers)) ≡ words_with r phases workers
words_apart r None None = refl
words_apart r (Some n) None = refl
words_apart r None (Some w) = refl
words_apart r (Some n) (Some w) = refl

none_plain : (ss : List Setting) → flat_map plain_of (map Apart ss) ≡ []
none_plain [] = refl
none_plain (s ∷ ss) = none_plain ss

all_settings : (ss : List Setting) → flat_map settings_of (map Apart ss) ≡ ss
all_settings [] = refl
all_settings (s ∷ ss) = ap (λ t. s ∷ t) (all_settings ss)

-- a command with all options but that of workers
record HasAll (c : Command) : Type 0 where
  links : Contains (options_of c) (codes "--links")
  modules : Contains (options_of c) (codes "--modules")
  gap : Contains (options_of c) (codes "--gap")
  phases : Contains (options_of c) (codes "--phases")
  step : Contains (options_of c) (codes "--step")

-- where a number of workers is given, the command has that option
abbrev MayWork : Command → Option ℕ → Type 0
MayWork c None = Unit {0}
MayWork c (Some w) = Contains (options_of c) (codes "--workers")

-- the place of an option
place_of : (k : ℕ) (name : List ℕ) → k < 6 → slice_index_or solver_options k name ≡ name → Contains solver_options name
place_of k name below is = (k, below, is)

place_alone : (k : ℕ) (name : List ℕ) → k < 5 → slice_index_or one_worker_options k name ≡ name → Contains one_worker_options name
place_alone k name below is = (k, below, is)

by_place_alone : (c : Command) → options_of c ≡ one_worker_options → HasAll c
by_place_alone c is = record {
  links = at (codes "--links") (place_alone 0 (codes "--links") (omega arith) refl);
  modules = at (codes "--modules") (place_alone 1 (codes "--modules") (omega arith) refl);
  gap = at (codes "--gap") (place_alone 2 (codes "--gap") (omega arith) refl);
  phases = at (codes "--phases") (place_alone 3 (codes "--phases") (omega arith) refl);
  step = at (codes "--step") (place_alone 4 (codes "--step") (omega arith) refl);
}
  where
    at : (name : List ℕ) → Contains one_worker_options name → Contains (options_of c) name
    at name has = subst (λ os. Contains os name) (sym is) has

by_place : (c : Command) → options_of c ≡ solver_options → HasAll c
by_place c is = record {
  links = at (codes "--links") (place_of 0 (codes "--links") (omega arith) refl);
  modules = at (codes "--modules") (place_of 1 (codes "--modules") (omega arith) refl);
  gap = at (codes "--gap") (place_of 2 (codes "--gap") (omega arith) refl);
  phases = at (codes "--phases") (place_of 3 (codes "--phases") (omega arith) refl);
  step = at (codes "--step") (place_of 5 (codes "--step") (omega arith) refl);
}
  where
    at : (name : List ℕ) → Contains solver_options name → Contains (options_of c) name
    at name has = subst (λ os. Contains os name) (sym is) has

-- one that has that option may be given any number of workers
may_work : (c : Command) → Contains (options_of c) (codes "--workers") → (workers : Option ℕ) → MayWork c workers
may_work c has None = tt
may_work c has (Some w) = has

workers_of_all : (c : Command) → options_of c ≡ solver_options → (workers : Option ℕ) → MayWork c workers
workers_of_all c is = may_work c (subst (λ os. Contains os (codes "--workers")) (sym is) (place_of 4 (codes "--workers") (omega arith) refl))

known_with : (c : Command) (r : Request) → HasAll c → (phases workers : Option ℕ) → MayWork c workers → All (IsKnown c) (settings_with r phases workers)
known_with c r has None None may = All-from_recursion (IsKnown c) (settings_with r None None) (has.links, (has.modules, (has.gap, (has.step, tt))))
known_with c r has (Some n) None may = All-from_recursion (IsKnown c) (settings_with r (Some n) None) (has.links, (has.modules, (has.gap, (has.phases, (has.step, tt)))))
known_with c r has None (Some w) may = All-from_recursion (IsKnown c) (settings_with r None (Some w)) (has.links, (has.modules, (has.gap, (may, (has.step, tt)))))
known_with c r has (Some n) (Some w) may = All-from_recursion (IsKnown c) (settings_with r (Some n) (Some w)) (has.links, (has.modules, (has.gap, (has.phases, (may, (has.step, tt))))))

-- options apart, and then `--`
with_options : (c : Command) (r : Request) (plain : List (List ℕ)) → HasAll c → MayWork c r.workers → AreParts c (option_words r ++ codes "--" ∷ plain) plain (settings_with r r.phases r.workers)
with_options c r plain has may = record {
  parts = map Apart (settings_with r r.phases r.workers);
  last = Some plain;
  spelled = ap (λ t. t ++ codes "--" ∷ plain) (sym (words_apart r r.phases r.workers));
  stand = All-map (MayStand c) Apart (settings_with r r.phases r.workers) (known_with c r has r.phases r.workers may);
  positional = ap (λ t. t ++ plain) (sym (none_plain (settings_with r r.phases r.workers)));
  options = sym (all_settings (settings_with r r.phases r.workers));
}

without_options : (c : Command) (plain : List (List ℕ)) → AreParts c (codes "--" ∷ plain) plain []
without_options c plain = record { parts = []; last = Some plain; spelled = refl; stand = All-nil (MayStand c); positional = refl; options = refl }

abbrev settings_for : Command → Request → List Setting
settings_for Solve r = settings_with r r.phases r.workers
settings_for Check r = []
settings_for WhatIf r = []
settings_for Upgrade r = []
settings_for Tighten r = []
settings_for Batch r = settings_with r r.phases r.workers
settings_for Sweep r = []
settings_for SweepSolve r = settings_with r r.phases r.workers
settings_for CheckHops r = []
settings_for CheckThroughput r = []
settings_for Hops r = settings_with r r.phases r.workers
settings_for Throughput r = settings_with r r.phases r.workers
settings_for Print r = []
settings_for Gen r = []
settings_for Trial r = settings_with r r.phases r.workers

parts_for : (c : Command) (r : Request) (plain : List (List ℕ)) → (takes_workers c ≡ false → r.workers ≡ None) → AreParts c (options_for c r ++ codes "--" ∷ plain) plain (settings_for c r)
parts_for Solve r plain none = with_options Solve r plain (by_place Solve refl) (workers_of_all Solve refl r.workers)
parts_for Check r plain none = without_options Check plain
parts_for WhatIf r plain none = without_options WhatIf plain
parts_for Upgrade r plain none = without_options Upgrade plain
parts_for Tighten r plain none = without_options Tighten plain
parts_for Batch r plain none = with_options Batch r plain (by_place_alone Batch refl) (subst (MayWork Batch) (sym (none refl)) tt)
parts_for Sweep r plain none = without_options Sweep plain
parts_for SweepSolve r plain none = with_options SweepSolve r plain (by_place_alone SweepSolve refl) (subst (MayWork SweepSolve) (sym (none refl)) tt)
parts_for CheckHops r plain none = without_options CheckHops plain
parts_for CheckThroughput r plain none = without_options CheckThroughput plain
parts_for Hops r plain none = with_options Hops r plain (by_place_alone Hops refl) (subst (MayWork Hops) (sym (none refl)) tt)
parts_for Throughput r plain none = with_options Throughput r plain (by_place_alone Throughput refl) (subst (MayWork Throughput) (sym (none refl)) tt)
parts_for Print r plain none = without_options Print plain
parts_for Gen r plain none = without_options Gen plain
parts_for Trial r plain none = with_options Trial r plain (by_place Trial refl) (workers_of_all Trial refl r.workers)

-- ---- what the options say

module _ (r : Request) (limits : IsWithinLimits r) where
  gap_said : IsGapWord (gap_word r.gap) r.gap
  gap_said = gap_is r.gap limits.gap_limit

  workers_said : (n : ℕ) → r.workers ≡ Some n → IsNumberWord 1 MAX_WORKERS (decimal n) n
  workers_said n is =
      let given : (1 ≤ n) × (n ≤ MAX_WORKERS) = subst AreWorkers is limits.workers_limit in
      let limit : n ≤ MAX_WORKERS = given.1 in
      number_word 1 MAX_WORKERS n given.0 limit (omega arith)

  step_said : IsNumberWord 1 MAX_STEP (decimal r.step) r.step
  step_said = let limit : r.step ≤ MAX_STEP = limits.step_limit in number_word 1 MAX_STEP r.step limits.some_step limit (omega arith)

  phases_said : (n : ℕ) → r.phases ≡ Some n → IsNumberWord 1 MAX_PHASES (decimal n) n
  phases_said n is =
      let budget : (1 ≤ n) × (n ≤ MAX_PHASES) = subst IsBudget is limits.budget in
      let limit : n ≤ MAX_PHASES = budget.1 in
      number_word 1 MAX_PHASES n budget.0 limit (omega arith)

  said : (ss : List Setting) → values_of (codes "--links") ss ≡ link_word r.net.links ∷ [] → values_of (codes "--modules") ss ≡ module_word r.net.modules ∷ []
      → values_of (codes "--gap") ss ≡ gap_word r.gap ∷ [] → values_of (codes "--step") ss ≡ decimal r.step ∷ []
      → Says (codes "--phases") IsPhasesWord None ss r.phases → Says (codes "--workers") IsWorkersWord None ss r.workers → OptionsSay ss r
  said ss links modules gap step phases workers = record {
    links = inl (link_word r.net.links, values_once (codes "--links") (link_word r.net.links) ss links, refl);
    modules = inl (module_word r.net.modules, values_once (codes "--modules") (module_word r.net.modules) ss modules, refl);
    gap = inl (gap_word r.gap, values_once (codes "--gap") (gap_word r.gap) ss gap, gap_said);
    phases = phases;
    workers = workers;
    step = inl (decimal r.step, values_once (codes "--step") (decimal r.step) ss step, step_said);
  }

  no_phases : (ss : List Setting) → r.phases ≡ None → values_of (codes "--phases") ss ≡ [] → Says (codes "--phases") IsPhasesWord None ss r.phases
  no_phases ss is none = inr (values_absent (codes "--phases") ss none, is)

  so_many : (ss : List Setting) (n : ℕ) → r.phases ≡ Some n → values_of (codes "--phases") ss ≡ decimal n ∷ [] → Says (codes "--phases") IsPhasesWord None ss r.phases
  so_many ss n is once = inl (decimal n, values_once (codes "--phases") (decimal n) ss once, (n, is, phases_said n is))

  no_workers : (ss : List Setting) → r.workers ≡ None → values_of (codes "--workers") ss ≡ [] → Says (codes "--workers") IsWorkersWord None ss r.workers
  no_workers ss is none = inr (values_absent (codes "--workers") ss none, is)

  works : (ss : List Setting) (n : ℕ) → r.workers ≡ Some n → values_of (codes "--workers") ss ≡ decimal n ∷ [] → Says (codes "--workers") IsWorkersWord None ss r.workers
  works ss n is once = inl (decimal n, values_once (codes "--workers") (decimal n) ss once, (n, is, workers_said n is))

  all_said : (phases workers : Option ℕ) → r.phases ≡ phases → r.workers ≡ workers → OptionsSay (settings_with r phases workers) r
  all_said None None is w = said (settings_with r None None) refl refl refl refl (no_phases (settings_with r None None) is refl) (no_workers (settings_with r None None) w refl)
  all_said (Some n) None is w = said (settings_with r (Some n) None) refl refl refl refl (so_many (settings_with r (Some n) None) n is refl) (no_workers (settings_with r (Some n) None) w refl)
  all_said None (Some m) is w = said (settings_with r None (Some m)) refl refl refl refl (no_phases (settings_with r None (Some m)) is refl) (works (settings_with r None (Some m)) m w refl)
  all_said (Some n) (Some m) is w = said (settings_with r (Some n) (Some m)) refl refl refl refl (so_many (settings_with r (Some n) (Some m)) n is refl) (works (settings_with r (Some n) (Some m)) m w refl)

  none_said : HasDefaults r → OptionsSay [] r
  none_said is = record {
    links = inr (All-nil _, is.links);
    modules = inr (All-nil _, is.modules);
    gap = inr (All-nil _, is.gap);
    phases = inr (All-nil _, is.phases);
    workers = inr (All-nil _, is.workers);
    step = inr (All-nil _, is.step);
  }

  options_said : (c : Command) → (options_of c ≡ [] → HasDefaults r) → OptionsSay (settings_for c r) r
  options_said Solve none = all_said r.phases r.workers refl refl
  options_said Check none = none_said (none refl)
  options_said WhatIf none = none_said (none refl)
  options_said Upgrade none = none_said (none refl)
  options_said Tighten none = none_said (none refl)
  options_said Batch none = all_said r.phases r.workers refl refl
  options_said Sweep none = none_said (none refl)
  options_said SweepSolve none = all_said r.phases r.workers refl refl
  options_said CheckHops none = none_said (none refl)
  options_said CheckThroughput none = none_said (none refl)
  options_said Hops none = all_said r.phases r.workers refl refl
  options_said Throughput none = all_said r.phases r.workers refl refl
  options_said Print none = none_said (none refl)
  options_said Gen none = none_said (none refl)
  options_said Trial none = all_said r.phases r.workers refl refl

-- ---- positional words

record FourFacts (numbers : List ℕ) : Type 0 where
  seed : ℕ
  nodes : ℕ
  links : ℕ
  demands : ℕ
  are : numbers ≡ seed ∷ nodes ∷ links ∷ demands ∷ []
  seed_fits : seed < 2 ^ 64
  some_nodes : 2 ≤ nodes
  few_nodes : nodes ≤ MAX_NODES
  some_links : nodes ≤ links
  few_links : links ≤ MAX_LINKS
  some_demands : 1 ≤ demands
  few_demands : demands ≤ MAX_DEMANDS

too_few : (n : ℕ) → n < 4 → n ≡ 4 → ⊥
too_few n few e = omega arith

too_many : (n : ℕ) → 4 < n → n ≡ 4 → ⊥
too_many n many e = omega arith

four_facts : (numbers : List ℕ) → AreFour numbers → FourFacts numbers
four_facts [] is = absurd (too_few 0 (omega arith) is.count)
four_facts (a ∷ []) is = absurd (too_few 1 (omega arith) is.count)
four_facts (a ∷ b ∷ []) is = absurd (too_few 2 (omega arith) is.count)
four_facts (a ∷ b ∷ c ∷ []) is = absurd (too_few 3 (omega arith) is.count)
four_facts (a ∷ b ∷ c ∷ d ∷ []) is = record {
  seed = a;
  nodes = b;
  links = c;
  demands = d;
  are = refl;
  seed_fits = is.seed;
  some_nodes = is.drawn.0;
  few_nodes = is.drawn.1;
  some_links = is.drawn.2;
  few_links = is.drawn.3;
  some_demands = is.drawn.4;
  few_demands = is.drawn.5;
}
four_facts (a ∷ b ∷ c ∷ d ∷ x ∷ more) is = absurd (too_many (length (a ∷ b ∷ c ∷ d ∷ x ∷ more)) (omega arith) is.count)

empty : (n : ℕ) → 1 ≤ n → n ≡ 0 → ⊥
empty n some e = omega arith

module _ (r : Request) (is : IsRequest r) where
  by_numbers : least_files r.command ≡ 0 → NameNumbers (plain_for r) r
  by_numbers none =
      let f : FourFacts r.numbers = four_facts r.numbers (is.drawn none) in
      let seed_fits : f.seed < 2 ^ 64 = f.seed_fits in
      let few_nodes : f.nodes ≤ MAX_NODES = f.few_nodes in
      let few_links : f.links ≤ MAX_LINKS = f.few_links in
      let few_demands : f.demands ≤ MAX_DEMANDS = f.few_demands in
      record {
        none = none;
        no_files = no_names r.names (no_file_counted r.command (length r.names) none is.files);
        seed_word = decimal f.seed;
        nodes_word = decimal f.nodes;
        links_word = decimal f.links;
        demands_word = decimal f.demands;
        seed = f.seed;
        nodes = f.nodes;
        links = f.links;
        demands = f.demands;
        words = ap (λ b. cond b (map decimal r.numbers) r.names) (eq-eqb (least_files r.command) 0 none) ∙ ap (map decimal) f.are;
        numbers = f.are;
        seed_is = number_word 0 (2 ^ 64 - 1) f.seed (omega arith) (omega arith) seed_fits;
        nodes_are = number_word 2 MAX_NODES f.nodes f.some_nodes few_nodes (omega arith);
        links_are = number_word f.nodes MAX_LINKS f.links f.some_links few_links (omega arith);
        demands_are = number_word 1 MAX_DEMANDS f.demands f.some_demands few_demands (omega arith);
      }
    where
      no_names : (names : List (List ℕ)) → length names ≡ 0 → names ≡ []
      no_names [] e = refl
      no_names (x ∷ xs) e = absurd (empty (length (x ∷ xs)) (omega arith) e)

  by_files : (least_files r.command ≡ 0 → ⊥) → NameFiles (plain_for r) r
  by_files some =
      let plain_is : plain_for r ≡ r.names = ap (λ b. cond b (map decimal r.numbers) r.names) (ne_eqb (least_files r.command) 0 some) in
      let one : 1 ≤ least_files r.command = from (least_files r.command) some in
      record {
        some = one;
        count = subst (λ (ns : List (List ℕ)). IsFileCount r.command (length ns)) (sym plain_is) is.files;
        files = sym plain_is;
        no_numbers = is.not_drawn one;
      }
    where
      from : (n : ℕ) → (n ≡ 0 → ⊥) → 1 ≤ n
      from n apart = omega arith

  positional_said : NameFiles (plain_for r) r ⊎ NameNumbers (plain_for r) r
  positional_said = by (least_files r.command == 0) refl
    where
      by : (b : Bool) → (least_files r.command == 0) ≡ b → NameFiles (plain_for r) r ⊎ NameNumbers (plain_for r) r
      by true e = inr (by_numbers (eqb-true (least_files r.command) 0 e))
      by false e = inl (by_files (eqb-false (least_files r.command) 0 e))

  pub words_spelled : IsSpelled (words_for r) r
  words_spelled = record {
    others = options_for r.command r ++ codes "--" ∷ plain_for r;
    first = refl;
    plain = plain_for r;
    settings = settings_for r.command r;
    parts = parts_for r.command r (plain_for r) is.workers;
    options = options_said r is.limits r.command is.options;
    positional = positional_said;
  }
