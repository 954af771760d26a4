-- Items that do not fit ask for nothing.
use Rattle.std.proofs.Common.{◌≡◌, ◌∙◌, ◌&&◌, ◌||◌, ◌⊎◌, inl, inr, ℕ, Bool, cond, true, false, refl, sym, ap, subst, List, [], ◌∷◌, length, Option, Some, None, option_map, is_some, true≢false}
use Rattle.std.specs.Prelude.{◌==◌, codes, nat_le, nat_lt}
use Rattle.std.specs.Char.{is_ascii_digit}
use Rattle.std.specs.List.{cons_option, list_all, list_any}
use Rattle.std.specs.Str.{bytes_eq}
use Rattle.std.proofs.lemmas.Bool.{and_parts, and_right, eqb-true, false≢true, not-false, or_cases}
use Rattle.mcf_limits.specs.declared.TheConstants.{DEFAULT_GAP, DEFAULT_STEP, MAX_PHASES, MAX_WORKERS, MAX_STEP}
use Rattle.unit_scale.specs.Modes.{link_mode_of, module_mode_of}
use Rattle.unit_scale.specs.declared.modes.LinkMode.{LinkMode}
use Rattle.unit_scale.specs.declared.modes.LinkMode.TheVariants.{Undirected}
use Rattle.unit_scale.specs.declared.modes.ModuleMode.{ModuleMode}
use Rattle.unit_scale.specs.declared.modes.ModuleMode.TheVariants.{Largest}
use Rattle.mcf_words.specs.declared.request.Command.{Command}
use Rattle.mcf_words.specs.declared.request.Command.TheVariants.{Solve, Check, WhatIf, Upgrade, Tighten, Batch, Sweep, SweepSolve, CheckHops, CheckThroughput, Hops, Throughput, Print, Gen, Trial}
use Rattle.mcf_words.specs.declared.request.Request.{Request}
use Rattle.mcf_words.specs.Items.{Setting, Items, is_option}
use Rattle.mcf_words.specs.Values.{choice, gap_of, is_whole, number_in, values_of}
use Rattle.mcf_words.specs.Request.{◌>>=◌, are_known, choices_of, files_of, numbers_of, options_of, request_from, one_worker_options, solver_options}
use Rattle.mcf_words.proofs.Rows.{text_is}
use Rattle.mcf_words.proofs.Fitting.{Misfits, are_of, is_one_value}

apart : {X : Type 0} (x : X) → Some x ≡ None → ⊥
apart x e = true≢false (ap is_some e)

-- ---- no value begins with a dash and has more bytes

begins : (P : List ℕ → Type 0) → ((y : ℕ) (ys : List ℕ) → P (45 ∷ y ∷ ys)) → (v : List ℕ) → is_option v ≡ true → P v
begins P each [] e = absurd (false≢true e)
begins P each (x ∷ []) e = absurd (false≢true e)
begins P each (x ∷ y ∷ ys) e = subst (λ k. P (k ∷ y ∷ ys)) (sym (eqb-true x 45 (and_parts (nat_lt 1 (length (x ∷ y ∷ ys))) (x == 45) e).1)) (each y ys)

no_link : (v : List ℕ) → is_option v ≡ true → link_mode_of v ≡ None
no_link = begins (λ v. link_mode_of v ≡ None) (λ y ys. refl)

no_module : (v : List ℕ) → is_option v ≡ true → module_mode_of v ≡ None
no_module = begins (λ v. module_mode_of v ≡ None) (λ y ys. refl)

no_gap : (v : List ℕ) → is_option v ≡ true → gap_of v ≡ None
no_gap = begins (λ v. gap_of v ≡ None) (λ y ys. refl)

not_whole : (y : ℕ) (ys : List ℕ) → is_whole (45 ∷ y ∷ ys) ≡ false
not_whole y ys = and_right (nat_le 1 (length (45 ∷ y ∷ ys)) && nat_le (length (45 ∷ y ∷ ys)) 20) (list_all is_ascii_digit (45 ∷ y ∷ ys)) refl

no_number : (least most : ℕ) (v : List ℕ) → is_option v ≡ true → number_in least most v ≡ None
no_number least most = begins (λ v. number_in least most v ≡ None) (λ y ys. rw (not_whole y ys) refl)

no_choice : {X : Type 0} (read : List ℕ → Option X) (default : X) (vs : List (List ℕ)) → ((v : List ℕ) → is_option v ≡ true → read v ≡ None) → is_one_value vs ≡ false
    → choice read default vs ≡ None
no_choice read default [] none e = absurd (true≢false e)
no_choice read default (v ∷ []) none e = none v (not-false (is_option v) e)
no_choice read default (v ∷ w ∷ more) none e = refl

-- ---- six values, one of which there is not

abbrev AnyNone : {A B C D E F : Type 0} → Option A → Option B → Option C → Option D → Option E → Option F → Type 0
AnyNone a b c d e f = (a ≡ None) ⊎ ((b ≡ None) ⊎ ((c ≡ None) ⊎ ((d ≡ None) ⊎ ((e ≡ None) ⊎ (f ≡ None)))))

not_all : {A B C D E F : Type 0} (x : A) (y : B) (z : C) (u : D) (v : E) (w : F) → AnyNone (Some x) (Some y) (Some z) (Some u) (Some v) (Some w) → ⊥
not_all x y z u v w (inl p) = apart x p
not_all x y z u v w (inr (inl p)) = apart y p
not_all x y z u v w (inr (inr (inl p))) = apart z p
not_all x y z u v w (inr (inr (inr (inl p)))) = apart u p
not_all x y z u v w (inr (inr (inr (inr (inl p))))) = apart v p
not_all x y z u v w (inr (inr (inr (inr (inr p))))) = apart w p

no_six : {A B C D E F G : Type 0} (a : Option A) (b : Option B) (c : Option C) (d : Option D) (e : Option E) (f : Option F) (g : A → B → C → D → E → F → Option G)
    → AnyNone a b c d e f → (a >>= λ x. b >>= λ y. c >>= λ z. d >>= λ u. e >>= λ v. f >>= λ w. g x y z u v w) ≡ None
no_six None b c d e f g h = refl
no_six (Some x) None c d e f g h = refl
no_six (Some x) (Some y) None d e f g h = refl
no_six (Some x) (Some y) (Some z) None e f g h = refl
no_six (Some x) (Some y) (Some z) (Some u) None f g h = refl
no_six (Some x) (Some y) (Some z) (Some u) (Some v) None g h = refl
no_six (Some x) (Some y) (Some z) (Some u) (Some v) (Some w) g h = absurd (not_all x y z u v w h)

module _ (settings : List Setting) where
  abbrev links : Option LinkMode
  links = choice link_mode_of Undirected (values_of (codes "--links") settings)

  abbrev modules : Option ModuleMode
  modules = choice module_mode_of Largest (values_of (codes "--modules") settings)

  abbrev gap : Option ℕ
  gap = choice gap_of DEFAULT_GAP (values_of (codes "--gap") settings)

  abbrev phases : Option (Option ℕ)
  phases = choice (λ w. option_map Some (number_in 1 MAX_PHASES w)) None (values_of (codes "--phases") settings)

  abbrev workers : Option (Option ℕ)
  workers = choice (λ w. option_map Some (number_in 1 MAX_WORKERS w)) None (values_of (codes "--workers") settings)

  abbrev step : Option ℕ
  step = choice (number_in 1 MAX_STEP) DEFAULT_STEP (values_of (codes "--step") settings)

  abbrev Fails : List ℕ → Type 0
  Fails name = is_one_value (values_of name settings) ≡ false

  no_choices : AnyNone links modules gap phases workers step → choices_of settings ≡ None
  unfolding choices_of
  no_choices h = no_six links modules gap phases workers step
      (λ l m g p w s. Some (record { net = record { links = l; modules = m }; gap = g; phases = p; workers = w; step = s })) h

  here_or : (name o : List ℕ) (os : List (List ℕ)) → list_any (bytes_eq name) (o ∷ os) ≡ true → (name ≡ o) ⊎ (list_any (bytes_eq name) os ≡ true)
  here_or name o os e = elim (or_cases (bytes_eq name o) (list_any (bytes_eq name) os) e) [
    | inl h ↦ inl (text_is name o h)
    | inr h ↦ inr h
  ]

  fails_at : (name o : List ℕ) → name ≡ o → Fails name → Fails o
  fails_at name o e f = subst Fails e f

  step_fails : (name : List ℕ) → Fails name → list_any (bytes_eq name) (codes "--step" ∷ []) ≡ true → step ≡ None
  step_fails name f e = elim (here_or name (codes "--step") [] e) [
    | inl h ↦ no_choice (number_in 1 MAX_STEP) DEFAULT_STEP (values_of (codes "--step") settings) (no_number 1 MAX_STEP) (fails_at name _ h f)
    | inr h ↦ absurd (false≢true h)
  ]

  workers_fail : (name : List ℕ) → Fails name → list_any (bytes_eq name) (codes "--workers" ∷ codes "--step" ∷ []) ≡ true → (workers ≡ None) ⊎ (step ≡ None)
  workers_fail name f e = elim (here_or name (codes "--workers") (codes "--step" ∷ []) e) [
    | inl h ↦ inl (no_choice (λ w. option_map Some (number_in 1 MAX_WORKERS w)) None (values_of (codes "--workers") settings)
        (λ v d. ap (option_map Some) (no_number 1 MAX_WORKERS v d)) (fails_at name _ h f))
    | inr h ↦ inr (step_fails name f h)
  ]

  phases_fail : (name : List ℕ) → Fails name → list_any (bytes_eq name) (codes "--phases" ∷ codes "--workers" ∷ codes "--step" ∷ []) ≡ true
      → (phases ≡ None) ⊎ ((workers ≡ None) ⊎ (step ≡ None))
  phases_fail name f e = elim (here_or name (codes "--phases") (codes "--workers" ∷ codes "--step" ∷ []) e) [
    | inl h ↦ inl (no_choice (λ w. option_map Some (number_in 1 MAX_PHASES w)) None (values_of (codes "--phases") settings)
        (λ v d. ap (option_map Some) (no_number 1 MAX_PHASES v d)) (fails_at name _ h f))
    | inr h ↦ inr (workers_fail name f h)
  ]

  any_fails : (name : List ℕ) → Fails name → list_any (bytes_eq name) solver_options ≡ true → AnyNone links modules gap phases workers step
  any_fails name f e = elim (here_or name (codes "--links") (codes "--modules" ∷ codes "--gap" ∷ codes "--phases" ∷ codes "--workers" ∷ codes "--step" ∷ []) e) [
    | inl h ↦ inl (no_choice link_mode_of Undirected (values_of (codes "--links") settings) no_link (fails_at name _ h f))
    | inr h ↦ inr (elim (here_or name (codes "--modules") (codes "--gap" ∷ codes "--phases" ∷ codes "--workers" ∷ codes "--step" ∷ []) h) [
      | inl k ↦ inl (no_choice module_mode_of Largest (values_of (codes "--modules") settings) no_module (fails_at name _ k f))
      | inr k ↦ inr (elim (here_or name (codes "--gap") (codes "--phases" ∷ codes "--workers" ∷ codes "--step" ∷ []) k) [
        | inl j ↦ inl (no_choice gap_of DEFAULT_GAP (values_of (codes "--gap") settings) no_gap (fails_at name _ j f))
        | inr j ↦ inr (phases_fail name f j)
      ])
    ])
  ]

-- ---- an option that has a value is one of those

known_name : (names : List (List ℕ)) (settings : List Setting) (name : List ℕ) → are_of names settings ≡ true → is_one_value (values_of name settings) ≡ false
    → list_any (bytes_eq name) names ≡ true
known_name names settings name known f = go settings known (λ e. true≢false (sym (ap is_one_value e) ∙ f))
  where
    go : (ss : List Setting) → are_of names ss ≡ true → (values_of name ss ≡ [] → ⊥) → list_any (bytes_eq name) names ≡ true
    go [] k some = absurd (some refl)
    go (s ∷ ss) k some = here (bytes_eq s.name name) refl (go ss (and_parts (list_any (bytes_eq s.name) names) (are_of names ss) k).1)
      where
        here : (b : Bool) → bytes_eq s.name name ≡ b → ((values_of name ss ≡ [] → ⊥) → list_any (bytes_eq name) names ≡ true) → list_any (bytes_eq name) names ≡ true
        here true e rest = subst (λ n. list_any (bytes_eq n) names ≡ true) (text_is s.name name e) (and_parts (list_any (bytes_eq s.name) names) (are_of names ss) k).0
        here false e rest = rest (λ none. some (ap (λ b. cons_option (cond b (Some s.value) None) (values_of name ss)) e ∙ none))

unknown_refused : (command : Command) (items : Items) → are_of (options_of command) items.settings ≡ false → request_from command items ≡ None
unfolding request_from
unknown_refused command items e = ap (λ b. cond b (choices_of items.settings >>= λ choices. numbers_of command items.positional >>= λ numbers. files_of command items.positional >>= λ names.
    Some (record { command = command; names = names; numbers = numbers; net = choices.net; gap = choices.gap; phases = choices.phases; workers = choices.workers; step = choices.step })) None) e

choices_refused : (command : Command) (items : Items) → choices_of items.settings ≡ None → request_from command items ≡ None
unfolding request_from
choices_refused command items e = ap (λ o. cond (are_known command items.settings) (o >>= λ choices. numbers_of command items.positional >>= λ numbers. files_of command items.positional >>= λ names.
    Some (record { command = command; names = names; numbers = numbers; net = choices.net; gap = choices.gap; phases = choices.phases; workers = choices.workers; step = choices.step })) None) e
    ∙ either (are_known command items.settings)
  where
    either : (b : Bool) → cond {A = Option Request} b None None ≡ None
    either true = refl
    either false = refl

no_option : (name : List ℕ) → list_any (bytes_eq name) [] ≡ true → ⊥
no_option name e = false≢true e

one_more : (a b c d e f : Bool) → (a || (b || (c || (d || (f || false))))) ≡ true → (a || (b || (c || (d || (e || (f || false)))))) ≡ true
one_more true b c d e f is = refl
one_more false true c d e f is = refl
one_more false false true d e f is = refl
one_more false false false true e f is = refl
one_more false false false false true f is = refl
one_more false false false false false f is = is

-- the options of a solve with one worker are among those of a solve
among_solvers : (name : List ℕ) → list_any (bytes_eq name) one_worker_options ≡ true → list_any (bytes_eq name) solver_options ≡ true
among_solvers name = one_more (bytes_eq name (codes "--links")) (bytes_eq name (codes "--modules")) (bytes_eq name (codes "--gap")) (bytes_eq name (codes "--phases")) (bytes_eq name (codes "--workers")) (bytes_eq name (codes "--step"))

option_refused : (command : Command) (items : Items) (name : List ℕ) → is_one_value (values_of name items.settings) ≡ false → list_any (bytes_eq name) (options_of command) ≡ true
    → request_from command items ≡ None
option_refused Solve items name f known = choices_refused Solve items (no_choices items.settings (any_fails items.settings name f known))
option_refused Trial items name f known = choices_refused Trial items (no_choices items.settings (any_fails items.settings name f known))
option_refused Check items name f known = absurd (no_option name known)
option_refused WhatIf items name f known = absurd (no_option name known)
option_refused Upgrade items name f known = absurd (no_option name known)
option_refused Tighten items name f known = absurd (no_option name known)
option_refused Batch items name f known = choices_refused Batch items (no_choices items.settings (any_fails items.settings name f (among_solvers name known)))
option_refused Sweep items name f known = absurd (no_option name known)
option_refused SweepSolve items name f known = choices_refused SweepSolve items (no_choices items.settings (any_fails items.settings name f (among_solvers name known)))
option_refused CheckHops items name f known = absurd (no_option name known)
option_refused CheckThroughput items name f known = absurd (no_option name known)
option_refused Hops items name f known = choices_refused Hops items (no_choices items.settings (any_fails items.settings name f (among_solvers name known)))
option_refused Throughput items name f known = choices_refused Throughput items (no_choices items.settings (any_fails items.settings name f (among_solvers name known)))
option_refused Print items name f known = absurd (no_option name known)
option_refused Gen items name f known = absurd (no_option name known)

-- Items that do not fit ask for nothing.
pub misfits_refused : (command : Command) (items : Items) → Misfits (options_of command) items → request_from command items ≡ None
misfits_refused command items (inl unknown) = unknown_refused command items unknown
misfits_refused command items (inr fails) = go (are_of (options_of command) items.settings) refl
  where
    go : (b : Bool) → are_of (options_of command) items.settings ≡ b → request_from command items ≡ None
    go true e = option_refused command items fails.0 fails.1 (known_name (options_of command) items.settings fails.0 e fails.1)
    go false e = unknown_refused command items e
