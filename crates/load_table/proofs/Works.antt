-- How the one worker of a view gets on.
use Rattle.std.proofs.Common.{◌≡◌, ℕ, ◌+◌, ◌<◌, ◌≤◌, List, [], ◌∷◌, ◌++◌, length, get_or, set, refl, sym, ap, ◌∙◌, subst, arith, get_or-set_same, get_or-set_other}
use mathlib.Core.Logic.{dite}
use native.Mathlib.Decide.{ℕ_discrete}
use Rattle.flow_core.specs.declared.state.Entry.{Entry}
use Rattle.flow_core.specs.declared.state.Worker.{Worker}
use Rattle.flow_core.specs.Core.{Terms, entry, worker, cell_count, with_read, has_read}
use Rattle.load_table.specs.declared.view.View.{View}
use Rattle.load_table.specs.declared.view.Hand.{Hand}
use Rattle.load_table.specs.Views.{hand, view_of, first_works, with_work}
use Rattle.load_table.specs.Rule.{MayRead, LastReads}
use Rattle.load_table.specs.Reading.{LastWhere, OneWhere, IsFresh, put_reads, reads_all}

-- two steps of the first worker are one
works-works : (f g h : Worker → Worker) → ((u : Worker) → f (g u) ≡ h u) → (hs : List Hand) → first_works f (first_works g hs) ≡ first_works h hs
works-works f g h same [] = refl
works-works f g h same (x ∷ xs) = ap (λ (u : Worker). hand x.number u ∷ xs) (same x.work)

pub with-with : (f g h : Worker → Worker) → ((u : Worker) → f (g u) ≡ h u) → (v : View) → with_work f (with_work g v) ≡ with_work h v
with-with f g h same v = ap (view_of v.terms v.left v.made) (works-works f g h same v.hands)

-- a step that changes nothing where the fact holds
same-work : (P : Entry → Type 0) (f : Worker → Worker) → ((u : Worker) → LastWhere P u.log → u ≡ f u) → (v : View) → OneWhere P v.hands → v ≡ with_work f v
same-work P f same v one = ap (view_of v.terms v.left v.made) (hands v.hands one)
  where
    hands : (hs : List Hand) → OneWhere P hs → hs ≡ first_works f hs
    hands [] h = absurd h
    hands (x ∷ []) h = ap (λ (u : Worker). hand x.number u ∷ []) (same x.work h)
    hands (x ∷ y ∷ xs) h = absurd h

-- reads

reads-more : (x : ℕ) (rs : List ℕ) (u : Worker) → has_read x (reads_all rs u) ≡ reads_all (rs ++ x ∷ []) u
reads-more x rs u = ap (λ (l : List Entry). worker l u.stopped u.ticket u.found) (log u.log)
  where
    log : (l : List Entry) → with_read x (put_reads rs l) ≡ put_reads (rs ++ x ∷ []) l
    log [] = refl
    log (e ∷ es) = refl

pub reads_one : (x : ℕ) (rs : List ℕ) (v w : View) → w ≡ with_work (reads_all rs) v → with_work (has_read x) w ≡ with_work (reads_all (rs ++ x ∷ [])) v
reads_one x rs v w is = ap (with_work (has_read x)) is ∙ with-with (has_read x) (reads_all rs) (reads_all (rs ++ x ∷ [])) (reads-more x rs) v

pub reads_none : (v : View) → OneWhere IsFresh v.hands → v ≡ with_work (reads_all []) v
reads_none v one = same-work IsFresh (reads_all []) (λ u h. ap (λ (l : List Entry). worker l u.stopped u.ticket u.found) (log u.log h)) v one
  where
    log : (l : List Entry) → LastWhere IsFresh l → l ≡ put_reads [] l
    log [] h = absurd h
    log (e ∷ es) h = ap (λ (rs : List ℕ). entry e.ticket rs e.adds ∷ es) h.0

pub may_read : (t : Terms) (c : ℕ) (rs : List ℕ) (v w : View) → OneWhere IsFresh v.hands → w ≡ with_work (reads_all rs) v → length rs ≡ c → c < cell_count t → MayRead t c w.hands
may_read t c rs v w one is here few = subst (λ (x : View). MayRead t c x.hands) (sym is) (hands v.hands one)
  where
    log : (l : List Entry) → LastWhere IsFresh l → LastReads t c (put_reads rs l)
    log [] h = absurd h
    log (e ∷ es) h = (here, few, h.1)

    hands : (hs : List Hand) → OneWhere IsFresh hs → MayRead t c (first_works (reads_all rs) hs)
    hands [] h = absurd h
    hands (x ∷ []) h = log x.work.log h
    hands (x ∷ y ∷ xs) h = absurd h

-- numbers within a limit, and one more
pub small-more : (xs : List ℕ) (c x most : ℕ) → c < length xs → ((k : ℕ) → k < c → get_or xs k 0 ≤ most) → x ≤ most → (k : ℕ) → k < c + 1 → get_or (set xs c x) k 0 ≤ most
small-more xs c x most inside below here k l = dite (ℕ_discrete k c)
    (λ same. subst (λ (j : ℕ). get_or (set xs c x) j 0 ≤ most) (sym same) (subst (λ (y : ℕ). y ≤ most) (sym (get_or-set_same xs c x 0 inside)) here))
    (λ apart. subst (λ (y : ℕ). y ≤ most) (sym (get_or-set_other xs c k x 0 apart)) (below k (omega arith)))
