-- Passes joined one after the other.
use Rattle.std.proofs.Common.{◌≡◌, ℕ, zero, suc, ◌+◌, ◌<◌, true, false, nat_eq, List, [], ◌∷◌, ◌++◌, length, get_or, set, Option, Some, get_or-set_same, get_or-set_other, refl, sym, ap, ◌∙◌, subst, arith}
use Rattle.std.specs.Prelude.{if◌then◌else◌}
use Rattle.std.proofs.lemmas.List.{get_or_append_left, length-append}
use Rattle.std.proofs.Math.Seq.{get_or-append_seam}
use Rattle.std.proofs.lemmas.Bool.Decides.{nat_tests}
use mathlib.Core.Logic.{dite}
use native.Mathlib.Decide.{ℕ_discrete}
use Rattle.flow_core.specs.declared.state.Worker.{Worker}
use Rattle.flow_core.specs.Core.{Terms}
use Rattle.flow_core.specs.Laws.{AllComplete}
use Rattle.load_table.specs.declared.view.Hand as table
use Rattle.load_table.specs.Views.{hand}
use Rattle.load_table.specs.Seen.{LoadsView, IsPassOf}
use Rattle.phase_engine.specs.declared.worker.Worked.{Worked}
use Rattle.phase_engine.specs.Work.{HasWorked, routes_of}
use Rattle.phase_engine.specs.declared.hand.Hand.{Hand}
use Rattle.phase_engine.specs.Hands.{OfTurn, IsDone, IsBack, IsSameWorker, start_view, no_hand, IsWorkOf, SomeStopped, NoneStopped}

-- what a hand has after the work
abbrev pub AfterWork : LoadsView → Hand → Worked → Type 0
AfterWork l h w = IsPassOf l w.pass × HasWorked l.terms h.worker (start_view l.terms h.worker) w.pass.view w.memory h.routes

pub turn_of : (l : LoadsView) (h : Hand) (w : Worked) → h.turn ≡ Some w → IsDone l h → AfterWork l h w
turn_of l h w is done = let P : Option Worked → Type 0 = λ o. OfTurn o (AfterWork l h) in subst P is done

append_before : (works : List table.Hand) (x : table.Hand) (k : ℕ) → k < length works → get_or (works ++ x ∷ []) k no_hand ≡ get_or works k no_hand
append_before works x k h = get_or_append_left works (x ∷ []) no_hand k h

append_last : (works : List table.Hand) (x : table.Hand) → get_or (works ++ x ∷ []) (length works) no_hand ≡ x
append_last works x = get_or-append_seam works x [] no_hand

pub next_works : (t : Terms) (hands : List Hand) (i : ℕ) (h g : Hand) (works : List table.Hand) (u : Worker) → length works ≡ i → i < length hands
    → ((k : ℕ) (d : Hand) → k < i → IsWorkOf t works k (get_or hands k d)) → AllComplete t u.log → h.routes ≡ routes_of t.net u.log → g.routes ≡ h.routes
    → (k : ℕ) (d : Hand) → k < i + 1 → IsWorkOf t (works ++ hand i u ∷ []) k (get_or (set hands i g) k d)
next_works t hands i h g works u long inside below complete routes same k d here = dite (ℕ_discrete k i)
    (λ at.
    let last : get_or (works ++ hand i u ∷ []) i no_hand ≡ hand i u = subst (λ (n : ℕ). get_or (works ++ hand i u ∷ []) n no_hand ≡ hand i u) long (append_last works (hand i u)) in
    let P : ℕ → Type 0 = λ n. IsWorkOf t (works ++ hand i u ∷ []) n (get_or (set hands i g) n d) in
    let Q : Hand × table.Hand → Type 0 = λ x. (x.1.number ≡ i) × AllComplete t x.1.work.log × (x.0.routes ≡ routes_of t.net x.1.work.log) in
    subst P (sym at) (subst Q (λ j. (sym (get_or-set_same hands i g d inside) j, sym last j)) (refl, complete, same ∙ routes)))
    (λ apart.
    let before : k < i = omega arith in
    let Q : Hand × table.Hand → Type 0 = λ x. (x.1.number ≡ k) × AllComplete t x.1.work.log × (x.0.routes ≡ routes_of t.net x.1.work.log) in
    subst Q (λ j. (sym (get_or-set_other hands i k g d apart) j, sym (append_before works (hand i u) k (omega arith)) j)) (below k d before))

pub stopped_before : (works : List table.Hand) (x : table.Hand) → SomeStopped works → SomeStopped (works ++ x ∷ [])
stopped_before works x s =
    let inside : s.0 < length works = s.1 in
    (s.0, omega (arith, length-append works (x ∷ [])), ap (λ (h : table.Hand). h.work.stopped) (append_before works x s.0 inside) ∙ s.2)

pub stopped_last : (works : List table.Hand) (n : ℕ) (u : Worker) → u.stopped ≡ true → SomeStopped (works ++ hand n u ∷ [])
stopped_last works n u e = (length works, omega (arith, length-append works (hand n u ∷ [])), ap (λ (h : table.Hand). h.work.stopped) (append_last works (hand n u)) ∙ e)

pub not_first : (i : ℕ) (n : ℕ) → 0 < i → (if nat_eq i 0 then n else 0) ≡ 0
not_first i n h = grind (arith, nat_tests)

pub next_back : (orig hands : List Hand) (i : ℕ) (g : Hand) → i < length hands → ((k : ℕ) (d : Hand) → k < i → IsBack (get_or orig k d) (get_or hands k d)) → ((d : Hand) → IsBack (get_or orig i d) g)
    → (k : ℕ) (d : Hand) → k < i + 1 → IsBack (get_or orig k d) (get_or (set hands i g) k d)
next_back orig hands i g inside below here k d less = dite (ℕ_discrete k i)
    (λ at. let P : ℕ → Type 0 = λ n. IsBack (get_or orig n d) (get_or (set hands i g) n d) in
    subst P (sym at) (subst (IsBack (get_or orig i d)) (sym (get_or-set_same hands i g d inside)) (here d)))
    (λ apart. subst (IsBack (get_or orig k d)) (sym (get_or-set_other hands i k g d apart)) (below k d (omega arith)))

pub none-more : (works : List table.Hand) (x : table.Hand) → NoneStopped works → x.work.stopped ≡ false → NoneStopped (works ++ x ∷ [])
none-more [] x none e zero d l = e
none-more [] x none e (suc k) d l = absurd (omega arith)
none-more (w ∷ ws) x none e zero d l = none zero d (omega arith)
none-more (w ∷ ws) x none e (suc k) d l = none-more ws x (λ j d' l'. none (suc j) d' (omega arith)) e k d (omega arith)

pub none_first : (works : List table.Hand) (n : ℕ) (u : Worker) → works ≡ hand n u ∷ [] → u.stopped ≡ false → NoneStopped works
none_first works n u is e = subst NoneStopped (sym is) (none-more [] (hand n u) (λ k d l. absurd (omega arith)) e)

pub same-on : (h i j : Hand) → IsSameWorker h i → IsSameWorker i j → IsSameWorker h j
same-on h i j a b = (b.0 ∙ a.0, b.1 ∙ a.1, b.2 ∙ a.2)

pub any_hand : (xs : List Hand) (k : ℕ) (d e : Hand) → k < length xs → get_or xs k d ≡ get_or xs k e
any_hand [] k d e l = absurd (omega arith)
any_hand (x ∷ xs) zero d e l = refl
any_hand (x ∷ xs) (suc k) d e l = any_hand xs k d e (omega arith)
