-- What is read of items, piece by piece.
use Rattle.std.proofs.Common.{◌≡◌, ◌∙◌, ◌-◌, ◌^◌, ◌≤◌, ◌⊎◌, inl, inr, ℕ, Bool, cond, true, false, refl, sym, ap, ap₂, subst, arith, List, [], ◌∷◌, length, Option, Some, None, option_map, codes, eqb-true, eq-eqb}
use Rattle.std.specs.Prelude.{◌==◌}
use Rattle.std.proofs.lemmas.Bool.{eqb-false, ne_eqb}
use Rattle.mcf_limits.specs.declared.TheConstants.{DEFAULT_GAP, DEFAULT_STEP, MAX_NODES, MAX_LINKS, MAX_DEMANDS, MAX_PHASES, MAX_WORKERS, MAX_STEP}
use Rattle.unit_scale.specs.Modes.{link_mode_of, module_mode_of}
use Rattle.unit_scale.specs.declared.modes.LinkMode.{LinkMode}
use Rattle.unit_scale.specs.declared.modes.LinkMode.TheVariants.{Undirected}
use Rattle.unit_scale.specs.declared.modes.ModuleMode.{ModuleMode}
use Rattle.unit_scale.specs.declared.modes.ModuleMode.TheVariants.{Largest}
use Rattle.mcf_words.specs.declared.request.Command.{Command}
use Rattle.mcf_words.specs.declared.request.Command.TheVariants.{Solve, Check, WhatIf, Upgrade, Tighten, Batch, Sweep, SweepSolve, CheckHops, CheckThroughput, Hops, Throughput, Print, Gen, Trial}
use Rattle.mcf_words.specs.declared.request.Request.{Request}
use Rattle.mcf_words.specs.Items.{Items, Setting, items_of}
use Rattle.mcf_words.specs.Values.{choice, gap_of, number_in, values_of}
use Rattle.mcf_words.specs.Request.{◌>>=◌, Choices, are_known, choices_of, command_of, commands, least_files, files_of, form_of, four_numbers, has_word, numbers_of, reads_files, request_from, request_of}
use Rattle.std.specs.List.{find}
use Rattle.mcf_words.proofs.Rows.{text_is}
use Rattle.mcf_words.specs.Parts.{AreParts}
use Rattle.mcf_words.specs.Spelled.{IsSpelled, NameFiles, NameNumbers, OptionsSay}
use Rattle.mcf_words.proofs.Basics.{bind_some, none_is, some_is}
use Rattle.mcf_words.proofs.FileCounts.{counted, counts}
use Rattle.mcf_words.proofs.PartsRead.{known_settings, known_test, parts_read}
use Rattle.mcf_words.proofs.PartsFound.{parts_found}
use Rattle.mcf_words.proofs.Saying.{choice_says, gaps_agree, links_agree, modules_agree, numbers_agree, phases_agree, says_choice, workers_agree}

-- ---- options

module _ (ss : List Setting) where
  abbrev pub made : LinkMode → ModuleMode → ℕ → Option ℕ → Option ℕ → ℕ → Choices
  made links modules gap phases workers step = record { net = record { links = links; modules = modules }; gap = gap; phases = phases; workers = workers; step = step }

  abbrev links_in : Option LinkMode
  links_in = choice link_mode_of Undirected (values_of (codes "--links") ss)

  abbrev modules_in : Option ModuleMode
  modules_in = choice module_mode_of Largest (values_of (codes "--modules") ss)

  abbrev gap_in : Option ℕ
  gap_in = choice gap_of DEFAULT_GAP (values_of (codes "--gap") ss)

  abbrev phases_in : Option (Option ℕ)
  phases_in = choice (λ w. option_map Some (number_in 1 MAX_PHASES w)) None (values_of (codes "--phases") ss)

  abbrev workers_in : Option (Option ℕ)
  workers_in = choice (λ w. option_map Some (number_in 1 MAX_WORKERS w)) None (values_of (codes "--workers") ss)

  abbrev step_in : Option ℕ
  step_in = choice (number_in 1 MAX_STEP) DEFAULT_STEP (values_of (codes "--step") ss)

  abbrev with_workers : LinkMode → ModuleMode → ℕ → Option ℕ → Option ℕ → Option Choices
  with_workers l m g p w = step_in >>= λ s. Some (made l m g p w s)

  abbrev with_phases : LinkMode → ModuleMode → ℕ → Option ℕ → Option Choices
  with_phases l m g p = workers_in >>= with_workers l m g p

  abbrev with_gap : LinkMode → ModuleMode → ℕ → Option Choices
  with_gap l m g = phases_in >>= with_phases l m g

  abbrev with_modules : LinkMode → ModuleMode → Option Choices
  with_modules l m = gap_in >>= with_gap l m

  abbrev with_links : LinkMode → Option Choices
  with_links l = modules_in >>= with_modules l

  -- the options have these values
  record Chosen (c : Choices) : Type 0 where
    links : links_in ≡ Some c.net.links
    modules : modules_in ≡ Some c.net.modules
    gap : gap_in ≡ Some c.gap
    phases : phases_in ≡ Some c.phases
    workers : workers_in ≡ Some c.workers
    step : step_in ≡ Some c.step

  chosen : (c : Choices) → choices_of ss ≡ Some c → Chosen c
  unfolding choices_of
  chosen c e =
      let l = bind_some links_in with_links c e in
      let m = bind_some modules_in (with_modules l.0) c l.2 in
      let g = bind_some gap_in (with_gap l.0 m.0) c m.2 in
      let p = bind_some phases_in (with_phases l.0 m.0 g.0) c g.2 in
      let w = bind_some workers_in (with_workers l.0 m.0 g.0 p.0) c p.2 in
      let s = bind_some step_in (λ s. Some (made l.0 m.0 g.0 p.0 w.0 s)) c w.2 in
      subst Chosen (some_is (made l.0 m.0 g.0 p.0 w.0 s.0) c s.2) (record { links = l.1; modules = m.1; gap = g.1; phases = p.1; workers = w.1; step = s.1 })

  choices_are : (c : Choices) → Chosen c → choices_of ss ≡ Some c
  unfolding choices_of
  choices_are c is =
      ap (λ o. o >>= with_links) is.links ∙ ap (λ o. o >>= with_modules c.net.links) is.modules ∙ ap (λ o. o >>= with_gap c.net.links c.net.modules) is.gap
      ∙ ap (λ o. o >>= with_phases c.net.links c.net.modules c.gap) is.phases ∙ ap (λ o. o >>= with_workers c.net.links c.net.modules c.gap c.phases) is.workers
      ∙ ap (λ o. o >>= λ s. Some (made c.net.links c.net.modules c.gap c.phases c.workers s)) is.step

  options_chosen : (r : Request) → OptionsSay ss r → Chosen (made r.net.links r.net.modules r.gap r.phases r.workers r.step)
  options_chosen r say = record {
    links = says_choice (codes "--links") link_mode_of _ links_agree Undirected ss r.net.links say.links;
    modules = says_choice (codes "--modules") module_mode_of _ modules_agree Largest ss r.net.modules say.modules;
    gap = says_choice (codes "--gap") gap_of _ gaps_agree DEFAULT_GAP ss r.gap say.gap;
    phases = says_choice (codes "--phases") (λ w. option_map Some (number_in 1 MAX_PHASES w)) _ phases_agree None ss r.phases say.phases;
    workers = says_choice (codes "--workers") (λ w. option_map Some (number_in 1 MAX_WORKERS w)) _ workers_agree None ss r.workers say.workers;
    step = says_choice (codes "--step") (number_in 1 MAX_STEP) _ (numbers_agree 1 MAX_STEP) DEFAULT_STEP ss r.step say.step;
  }

  chosen_options : (r : Request) → Chosen (made r.net.links r.net.modules r.gap r.phases r.workers r.step) → OptionsSay ss r
  chosen_options r is = record {
    links = choice_says (codes "--links") link_mode_of _ links_agree Undirected ss r.net.links is.links;
    modules = choice_says (codes "--modules") module_mode_of _ modules_agree Largest ss r.net.modules is.modules;
    gap = choice_says (codes "--gap") gap_of _ gaps_agree DEFAULT_GAP ss r.gap is.gap;
    phases = choice_says (codes "--phases") (λ w. option_map Some (number_in 1 MAX_PHASES w)) _ phases_agree None ss r.phases is.phases;
    workers = choice_says (codes "--workers") (λ w. option_map Some (number_in 1 MAX_WORKERS w)) _ workers_agree None ss r.workers is.workers;
    step = choice_says (codes "--step") (number_in 1 MAX_STEP) _ (numbers_agree 1 MAX_STEP) DEFAULT_STEP ss r.step is.step;
  }

-- ---- positional words

abbrev zeros : List ℕ
zeros = 0 ∷ 0 ∷ 0 ∷ 0 ∷ []

abbrev Stand : List (List ℕ) → Request → Type 0
Stand plain r = NameFiles plain r ⊎ NameNumbers plain r

module _ (r : Request) (none : least_files r.command ≡ 0) (no_files : r.names ≡ []) where
  module _ (a b c d : List ℕ) where
    abbrev with_link : ℕ → ℕ → ℕ → Option (List ℕ)
    with_link s n l = number_in 1 MAX_DEMANDS d >>= λ k. Some (s ∷ n ∷ l ∷ k ∷ [])

    abbrev with_node : ℕ → ℕ → Option (List ℕ)
    with_node s n = number_in n MAX_LINKS c >>= with_link s n

    abbrev with_seed : ℕ → Option (List ℕ)
    with_seed s = number_in 2 MAX_NODES b >>= with_node s

    four_found : four_numbers (a ∷ b ∷ c ∷ d ∷ []) ≡ Some r.numbers → NameNumbers (a ∷ b ∷ c ∷ d ∷ []) r
    four_found e =
        let s = bind_some (number_in 0 (2 ^ 64 - 1) a) with_seed r.numbers e in
        let n = bind_some (number_in 2 MAX_NODES b) (with_node s.0) r.numbers s.2 in
        let l = bind_some (number_in n.0 MAX_LINKS c) (with_link s.0 n.0) r.numbers n.2 in
        let k = bind_some (number_in 1 MAX_DEMANDS d) (λ k. Some (s.0 ∷ n.0 ∷ l.0 ∷ k ∷ [])) r.numbers l.2 in
        record {
          none = none;
          no_files = no_files;
          seed_word = a;
          nodes_word = b;
          links_word = c;
          demands_word = d;
          seed = s.0;
          nodes = n.0;
          links = l.0;
          demands = k.0;
          words = refl;
          numbers = sym (some_is (s.0 ∷ n.0 ∷ l.0 ∷ k.0 ∷ []) r.numbers k.2);
          seed_is = (numbers_agree 0 (2 ^ 64 - 1)).means a s.0 s.1;
          nodes_are = (numbers_agree 2 MAX_NODES).means b n.0 n.1;
          links_are = (numbers_agree n.0 MAX_LINKS).means c l.0 l.1;
          demands_are = (numbers_agree 1 MAX_DEMANDS).means d k.0 k.1;
        }

    four_read : (s n l k : ℕ) → number_in 0 (2 ^ 64 - 1) a ≡ Some s → number_in 2 MAX_NODES b ≡ Some n → number_in n MAX_LINKS c ≡ Some l → number_in 1 MAX_DEMANDS d ≡ Some k
        → four_numbers (a ∷ b ∷ c ∷ d ∷ []) ≡ Some (s ∷ n ∷ l ∷ k ∷ [])
    four_read s n l k es en el ek = ap (λ o. o >>= with_seed) es ∙ ap (λ o. o >>= with_node s) en ∙ ap (λ o. o >>= with_link s n) el ∙ ap (λ o. o >>= λ k. Some (s ∷ n ∷ l ∷ k ∷ [])) ek

  four : (plain : List (List ℕ)) → four_numbers plain ≡ Some r.numbers → NameNumbers plain r
  four [] e = absurd (none_is r.numbers e)
  four (a ∷ []) e = absurd (none_is r.numbers e)
  four (a ∷ b ∷ []) e = absurd (none_is r.numbers e)
  four (a ∷ b ∷ c ∷ []) e = absurd (none_is r.numbers e)
  four (a ∷ b ∷ c ∷ d ∷ []) e = four_found a b c d e
  four (a ∷ b ∷ c ∷ d ∷ x ∷ more) e = absurd (none_is r.numbers e)

module _ (r : Request) (plain : List (List ℕ)) where
  abbrev numbers_by : Bool → Option (List ℕ)
  numbers_by b = cond b (four_numbers plain) (Some zeros)

  abbrev all_by : Bool → Option (List (List ℕ))
  all_by b = cond b (Some plain) None

  abbrev files_by : Bool → Option (List (List ℕ))
  files_by b = cond b (Some []) (all_by (reads_files r.command (length plain)))

  some_files : (least_files r.command == 0) ≡ false → 1 ≤ least_files r.command
  some_files is = from (least_files r.command) (eqb-false (least_files r.command) 0 is)
    where
      from : (n : ℕ) → (n ≡ 0 → ⊥) → 1 ≤ n
      from n apart = omega arith

  named_files : (least_files r.command == 0) ≡ false → Some zeros ≡ Some r.numbers → (b : Bool) → reads_files r.command (length plain) ≡ b → all_by b ≡ Some r.names → NameFiles plain r
  named_files is numbers true count names = record {
    some = some_files is;
    count = counted r.command (length plain) count;
    files = sym (some_is plain r.names names);
    no_numbers = sym (some_is zeros r.numbers numbers);
  }
  named_files is numbers false count names = absurd (none_is r.names names)

  stand_found : numbers_of r.command plain ≡ Some r.numbers → files_of r.command plain ≡ Some r.names → Stand plain r
  stand_found numbers names = by (least_files r.command == 0) refl numbers names
    where
      by : (b : Bool) → (least_files r.command == 0) ≡ b → numbers_by b ≡ Some r.numbers → files_by b ≡ Some r.names → Stand plain r
      by true is numbers names = inr (four r (eqb-true (least_files r.command) 0 is) (sym (some_is [] r.names names)) plain numbers)
      by false is numbers names = inl (named_files is numbers (reads_files r.command (length plain)) refl names)

  stand_numbers : Stand plain r → numbers_of r.command plain ≡ Some r.numbers
  stand_numbers (inl files) =
      let apart : (least_files r.command == 0) ≡ false = ne_eqb (least_files r.command) 0 (some_none (least_files r.command) files.some) in
      ap numbers_by apart ∙ ap (λ ns. Some ns) (sym files.no_numbers)
    where
      some_none : (n : ℕ) → 1 ≤ n → n ≡ 0 → ⊥
      some_none n some none = omega arith
  stand_numbers (inr four) =
      ap numbers_by (eq-eqb (least_files r.command) 0 four.none) ∙ ap four_numbers four.words
      ∙ four_read r four.none four.no_files four.seed_word four.nodes_word four.links_word four.demands_word four.seed four.nodes four.links four.demands
      ((numbers_agree 0 (2 ^ 64 - 1)).reads four.seed_word four.seed four.seed_is)
      ((numbers_agree 2 MAX_NODES).reads four.nodes_word four.nodes four.nodes_are)
      ((numbers_agree four.nodes MAX_LINKS).reads four.links_word four.links four.links_are)
      ((numbers_agree 1 MAX_DEMANDS).reads four.demands_word four.demands four.demands_are)
      ∙ ap (λ ns. Some ns) (sym four.numbers)

  stand_files : Stand plain r → files_of r.command plain ≡ Some r.names
  stand_files (inl files) =
      let apart : (least_files r.command == 0) ≡ false = ne_eqb (least_files r.command) 0 (some_none (least_files r.command) files.some) in
      ap files_by apart ∙ ap all_by (counts r.command (length plain) files.count) ∙ ap (λ ns. Some ns) (sym files.files)
    where
      some_none : (n : ℕ) → 1 ≤ n → n ≡ 0 → ⊥
      some_none n some none = omega arith
  stand_files (inr four) = ap files_by (eq-eqb (least_files r.command) 0 four.none) ∙ ap (λ ns. Some ns) (sym four.no_files)

-- ---- requests

module _ (command : Command) (items : Items) where
  abbrev request_with : Choices → List ℕ → List (List ℕ) → Request
  request_with choices numbers names = record { command = command; names = names; numbers = numbers; net = choices.net; gap = choices.gap; phases = choices.phases; workers = choices.workers; step = choices.step }

  abbrev with_numbers : Choices → List ℕ → Option Request
  with_numbers choices numbers = files_of command items.positional >>= λ names. Some (request_with choices numbers names)

  abbrev with_choices : Choices → Option Request
  with_choices choices = numbers_of command items.positional >>= with_numbers choices

  abbrev if_known : Bool → Option Request
  if_known b = cond b (choices_of items.settings >>= with_choices) None

  -- the request is of the command, and has what the items say
  record IsOf (r : Request) : Type 0 where
    same : r.command ≡ command
    known : are_known command items.settings ≡ true
    options : OptionsSay items.settings r
    positional : Stand items.positional r

  request_is : (r : Request) → request_from command items ≡ Some r → IsOf r
  unfolding request_from
  request_is r e = by (are_known command items.settings) refl e
    where
      by : (b : Bool) → are_known command items.settings ≡ b → if_known b ≡ Some r → IsOf r
      by false is e = absurd (none_is r e)
      by true is e =
          let c = bind_some (choices_of items.settings) with_choices r e in
          let n = bind_some (numbers_of command items.positional) (with_numbers c.0) r c.2 in
          let f = bind_some (files_of command items.positional) (λ names. Some (request_with c.0 n.0 names)) r n.2 in
          let found : Request = request_with c.0 n.0 f.0 in
          subst IsOf (some_is found r f.2) (record {
            same = refl;
            known = is;
            options = chosen_options items.settings found (chosen items.settings c.0 c.1);
            positional = stand_found found items.positional n.1 f.1;
          })

-- a request of its own command, with what the items say
request_again : (r : Request) (items : Items) → are_known r.command items.settings ≡ true → OptionsSay items.settings r → Stand items.positional r → request_from r.command items ≡ Some r
unfolding request_from
request_again r items known options positional =
    let choices : Choices = made items.settings r.net.links r.net.modules r.gap r.phases r.workers r.step in
    ap (if_known r.command items) known
    ∙ ap (λ o. o >>= with_choices r.command items) (choices_are items.settings choices (options_chosen items.settings r options))
    ∙ ap (λ o. o >>= with_numbers r.command items choices) (stand_numbers r items.positional positional)
    ∙ ap (λ o. o >>= λ names. Some (request_with r.command items choices r.numbers names)) (stand_files r items.positional positional)

-- ---- the command's word

found_passes : (p : Command → Bool) (cs : List Command) (c : Command) → find p cs ≡ Some c → p c ≡ true
found_passes p [] c e = absurd (none_is c e)
found_passes p (k ∷ ks) c e = by (p k) refl e (λ more. found_passes p ks c more)
  where
    by : (b : Bool) → p k ≡ b → cond b (Some k) (find p ks) ≡ Some c → (find p ks ≡ Some c → p c ≡ true) → p c ≡ true
    by true is e rest = ap p (sym (some_is k c e)) ∙ is
    by false is e rest = rest e

pub word_is : (word : List ℕ) (c : Command) → command_of word ≡ Some c → word ≡ (form_of c).word
word_is word c e = text_is word (form_of c).word (found_passes (has_word word) commands c e)

pub command_again : (c : Command) → command_of (form_of c).word ≡ Some c
command_again Solve = refl
command_again Check = refl
command_again WhatIf = refl
command_again Upgrade = refl
command_again Tighten = refl
command_again Batch = refl
command_again Sweep = refl
command_again SweepSolve = refl
command_again CheckHops = refl
command_again CheckThroughput = refl
command_again Hops = refl
command_again Throughput = refl
command_again Print = refl
command_again Gen = refl
command_again Trial = refl

-- ---- words

abbrev after_command : List (List ℕ) → Command → Option Request
after_command words command = items_of words >>= request_from command

pub spelled : (words : List (List ℕ)) (r : Request) → request_of words ≡ Some r → IsSpelled words r
spelled [] r e = absurd (none_is r e)
spelled (word ∷ words) r e =
    let c = bind_some (command_of word) (after_command words) r e in
    let i = bind_some (items_of words) (request_from c.0) r c.2 in
    let is = request_is c.0 i.0 r i.2 in
    record {
      others = words;
      first = ap (λ w. w ∷ words) (word_is word c.0 c.1 ∙ ap (λ k. (form_of k).word) (sym is.same));
      plain = i.0.positional;
      settings = i.0.settings;
      parts = subst (λ k. AreParts k words i.0.positional i.0.settings) (sym is.same) (parts_found c.0 words i.0 i.1 is.known);
      options = is.options;
      positional = is.positional;
    }

pub read_again : (words : List (List ℕ)) (r : Request) → IsSpelled words r → request_of words ≡ Some r
read_again words r is =
    let items : Items = record { positional = is.plain; settings = is.settings } in
    let parts : AreParts r.command is.others is.plain is.settings = is.parts in
    let found : items_of is.others ≡ Some items = ap items_of parts.spelled ∙ parts_read r.command parts.parts parts.last parts.stand
    ∙ ap₂ (λ (p : List (List ℕ)) (s : List Setting). Some (record { positional = p; settings = s })) (sym parts.positional) (sym parts.options) in
    let known : are_known r.command is.settings ≡ true = ap (are_known r.command) parts.options ∙ known_test r.command _ (known_settings r.command parts.parts parts.stand) in
    ap request_of is.first ∙ ap (λ o. o >>= after_command is.others) (command_again r.command) ∙ ap (λ o. o >>= request_from r.command) found
    ∙ request_again r items known is.options is.positional

pub usage_is : (words : List (List ℕ)) → request_of words ≡ None → (r : Request) → IsSpelled words r → ⊥
usage_is words none r is = none_is r (sym none ∙ read_again words r is)

pub no_spelling : (words : List (List ℕ)) → ((r : Request) → IsSpelled words r → ⊥) → request_of words ≡ None
no_spelling words none = by (request_of words) refl
  where
    by : (o : Option Request) → request_of words ≡ o → request_of words ≡ None
    by None is = is
    by (Some r) is = absurd (none r (spelled words r is))

pub one_request : (words : List (List ℕ)) (r other : Request) → IsSpelled words r → IsSpelled words other → r ≡ other
one_request words r other is also = some_is r other (sym (read_again words r is) ∙ read_again words other also)
