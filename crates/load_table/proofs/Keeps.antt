-- Each step keeps the rule.
use Rattle.std.proofs.Common.{◌≡◌, ◌≢◌, ℕ, zero, suc, ◌+◌, ◌%◌, ◌^◌, ◌<◌, ◌≤◌, Bool, true, false, nat_eq, nat_lt, List, [], ◌∷◌, ◌++◌, length, get_or, set, min, refl, sym, ap, ◌∙◌, subst, ⊎_elim, arith, add-one, get_or-set_same, get_or-set_other, length-set, length-append, eq-eqb, ne_eqb}
use Rattle.std.specs.Prelude.{◌==◌, if◌then◌else◌}
use Rattle.std.proofs.lemmas.Bool.Decides.{nat_tests}
use Rattle.std.proofs.lemmas.List.{set-get_or}
use mathlib.Core.Logic.{dite}
use native.Mathlib.Decide.{ℕ_discrete}
use mathlib.Core.Option.{some, some-ne-none, some-injective}
use lib.ListN.{get_elem?}
use Rattle.atomic_table.specs.Table.{State, keeps, Allows, Splits, Joins, opening, Final, Seen}
use Rattle.atomic_table.proofs.Lists.{at_set, at_snoc}
use Rattle.flow_core.specs.declared.state.Entry.{Entry}
use Rattle.flow_core.specs.declared.state.Worker.{Worker}
use Rattle.flow_core.specs.Core as core
use Rattle.flow_core.specs.Core.{Terms, Event, claim, read, add, IsLegal, AreLegal, Leads, start, after_event, after_schedule, worker_at, idle, IsStart, total, cell_count, ticket_count, commodity_count, amount_of, LastIsComplete, LastIsReading, LastMayAdd, claimed, has_read, has_added, next_cell}
use Rattle.flow_core.specs.Laws.{one_if, IsFalling, added}
use Rattle.mcf_limits.specs.declared.TheConstants.{MAX_LENGTH}
use Rattle.flow_core.proofs.Members.{few-groups}
use Rattle.flow_core.proofs.Sums.{total-set, once-more, get_or-replicate, length-replicate}
use Rattle.flow_core.proofs.Steps.{Inv, laws, falls-more, counts_of, loads_of}
use Rattle.load_table.specs.declared.view.Hand.{Hand}
use Rattle.load_table.specs.declared.view.Known.{Known}
use Rattle.load_table.specs.Views.{hand, known, first_known, times_in, hands_of, made_of, splits_of, first_works, with_work, keeps_known, cuts_known, joins_known, spent_known}
use Rattle.load_table.specs.Rule.{AllFallBelow, AllFit, FitsView, Kept, Holds, words_of, IsStep, first_number, M, HasClaimed, HasRead, HasAdded, HasPlaced, MayClaim, LastReads, MayRead, MayAdd, MayClose, Closes}
use Rattle.load_table.specs.Places.{is_wide, place}
use Rattle.load_table.specs.Seen.{shared_cells}
use Rattle.load_table.proofs.Placing.{place-zero, placed_set}
use Rattle.load_table.proofs.Totals.{total-put, total-snoc, total-append, total-of, total-two, total-whole, same_lists}

abbrev St : Type 0
St = State (Unit {0}) Known

-- one more event

schedule-snoc : (t : Terms) (s : core.State) (es : List Event) (e : Event) → after_schedule t s (es ++ e ∷ []) ≡ after_event t (after_schedule t s es) e
schedule-snoc t s [] e = refl
schedule-snoc t s (d ∷ es) e = schedule-snoc t (after_event t s d) es e

AreLegal-snoc : (t : Terms) (s : core.State) (es : List Event) (e : Event) → AreLegal t s es → IsLegal t (after_schedule t s es) e → AreLegal t s (es ++ e ∷ [])
AreLegal-snoc t s [] e legal now = (now, tt)
AreLegal-snoc t s (d ∷ es) e legal now = (legal.0, AreLegal-snoc t (after_event t s d) es e legal.1 now)

leads-more : (t : Terms) (a s : core.State) (e : Event) → Leads t a s → IsLegal t s e → Leads t a (after_event t s e)
leads-more t a s e l now = (l.0 ++ e ∷ [], AreLegal-snoc t a l.0 e l.1 (subst (λ (x : core.State). IsLegal t x e) (sym l.2) now), schedule-snoc t a l.0 e ∙ ap (λ (x : core.State). after_event t x e) l.2)

pub leads-on : (t : Terms) (a b c : core.State) → Leads t a b → Leads t b c → Leads t a c
leads-on t a b c l m = go l.0 a l.1 l.2
  where
    go : (es : List Event) (x : core.State) → AreLegal t x es → after_schedule t x es ≡ b → Leads t x c
    go [] x legal is = subst (λ (y : core.State). Leads t y c) (sym is) m
    go (e ∷ es) x legal is = let r = go es (after_event t x e) legal.1 is in (e ∷ r.0, (legal.0, r.1), r.2)

-- a step leads on from what the pass saw
pub step_leads : (t : Terms) (hands : List Hand) (seen now : core.State) (event : ℕ → Event) (word found : ℕ) → IsStep t hands seen now event word found → Leads t seen now
step_leads t hands seen now event word found s = subst (Leads t seen) (sym s.now_is) (leads-more t seen s.before (event (first_number hands)) s.since s.legal)

-- hands fit on where another worker gets on

fits-on : (s s' : core.State) (w : ℕ) (hs : List Hand) → length s'.workers ≡ length s.workers → ((j : ℕ) → j ≢ w → worker_at s' j ≡ worker_at s j)
    → total (λ (h : Hand). one_if (nat_eq w h.number)) hs ≡ 0 → AllFit s hs → AllFit s' hs
fits-on s s' w [] same others no_time f = tt
fits-on s s' w (h ∷ hs) same others no_time f =
    let apart : h.number ≢ w = other (nat_eq w h.number) refl in
    let here = f.0.0 in
    ((omega arith, others h.number apart ∙ f.0.1), fits-on s s' w hs same others (omega arith) f.1)
  where
    other : (b : Bool) → nat_eq w h.number ≡ b → h.number ≢ w
    other true e = absurd (let z : one_if (nat_eq w h.number) ≡ 1 = ap one_if e in omega arith)
    other false e = grind (arith, nat_tests)

fits-append : (s : core.State) (hs is : List Hand) → AllFit s hs → AllFit s is → AllFit s (hs ++ is)
fits-append s [] is f g = g
fits-append s (h ∷ hs) is f g = (f.0, fits-append s hs is f.1 g)

length-first_works : (f : Worker → Worker) (hs : List Hand) → length (first_works f hs) ≡ length hs
length-first_works f [] = refl
length-first_works f (h ∷ hs) = refl

times-first_works : (f : Worker → Worker) (n : ℕ) (hs : List Hand) → total (λ (h : Hand). one_if (nat_eq n h.number)) (first_works f hs) ≡ total (λ (h : Hand). one_if (nat_eq n h.number)) hs
times-first_works f n [] = refl
times-first_works f n (h ∷ hs) = refl

-- an event of the one worker of a view

record Moves (t : Terms) (s : core.State) (e : Event) (w : ℕ) (u : Worker) : Type 0 where
  legal : IsLegal t s e
  workers : (after_event t s e).workers ≡ set s.workers w u

moved : (t : Terms) (s : St) (k : Kept t s) (id : ℕ) (v : Known) (h : Hand) (f : Worker → Worker) (e : Event) (words : List ℕ)
    → get_elem? s.views id ≡ some v → v.view.hands ≡ h ∷ [] → v.view.terms ≡ t → h.number < length (after_schedule t (start t) k.events).workers
    → Moves t (after_schedule t (start t) k.events) e h.number (f h.work) → words ≡ (after_event t (after_schedule t (start t) k.events) e).claims ∷ (after_event t (after_schedule t (start t) k.events) e).loads
    → Kept t record { words = words; homes = s.homes; views = set s.views id (known (with_work f v.view) (after_event t (after_schedule t (start t) k.events) e)) }
moved t s k id v h f e words at alone same inside m words_are =
    let old : core.State = after_schedule t (start t) k.events in
    let w : Known = known (with_work f v.view) (after_event t old e) in
    let last = schedule-snoc t (start t) k.events e in
    let made = total-put made_of s.views id v w at in
    let same_made : total made_of (set s.views id w) ≡ total made_of s.views = omega arith in
    let own_times : (n : ℕ) → times_in n w ≡ times_in n v = λ n. times-first_works f n v.view.hands in
    let others : (j : ℕ) → j ≢ h.number → worker_at (after_event t old e) j ≡ worker_at old j =
    λ j apart. ap (λ (us : List Worker). get_or us j idle) m.workers ∙ get_or-set_other old.workers h.number j (f h.work) idle apart in
    let mine : worker_at (after_event t old e) h.number ≡ f h.work =
    ap (λ (us : List Worker). get_or us h.number idle) m.workers ∙ get_or-set_same old.workers h.number (f h.work) idle inside in
    let as_long : length (after_event t old e).workers ≡ length old.workers = ap length m.workers ∙ length-set old.workers h.number (f h.work) in
    let one : times_in h.number v ≡ 1 = ap (λ (hs : List Hand). total (λ (i : Hand). one_if (nat_eq h.number i.number)) hs) alone ∙ ap (λ (b : Bool). one_if b + 0) (eq-eqb h.number h.number refl) in
    record {
      is_start = k.is_start;
      events = k.events ++ e ∷ [];
      legal = AreLegal-snoc t (start t) k.events e k.legal m.legal;
      words = words_are ∙ ap (λ (c : core.State). c.claims ∷ c.loads) (sym last);
      splits = (let a = total-put splits_of s.views id v w at in let b = k.splits in omega arith);
      hands = (let a = total-put hands_of s.views id v w at in let l = length-first_works f v.view.hands in let b = k.hands in omega arith);
      once = λ n. (let a = total-put (times_in n) s.views id v w at in let l = own_times n in let b = k.once n in
          let c : total (times_in n) (set s.views id w) ≡ one_if (nat_lt n (total made_of s.views + 1)) = omega arith in
          c ∙ ap (λ (m : ℕ). one_if (nat_lt n (m + 1))) (sym same_made));
      fits = λ j u is. subst (λ (c : core.State). FitsView t c u) (sym last) (⊎_elim
          (λ (x : (j ≡ id) × (w ≡ u)). subst (FitsView t (after_event t old e)) x.1 record {
            terms = λ _. same;
            splits = (k.fits id v at).splits;
            works = subst (λ (hs : List Hand). AllFit (after_event t old e) (first_works f hs)) (sym alone) ((subst (λ (n : ℕ). h.number < n) (sym as_long) inside, mine), tt);
            seen = λ _. (leads-more t (start t) old e (k.events, k.legal, refl) m.legal, ([], tt, refl));
          })
          (λ (x : (j ≢ id) × (get_elem? s.views j ≡ some u)).
          let two = total-two (times_in h.number) s.views j id u v x.1 at x.0 in
          let b = k.once h.number in
          let most = one-le (nat_lt h.number (total made_of s.views + 1)) in
          record {
            terms = (k.fits j u x.1).terms;
            splits = (k.fits j u x.1).splits;
            works = fits-on old (after_event t old e) h.number u.view.hands as_long others (let z : times_in h.number u ≡ 0 = omega arith in z) (k.fits j u x.1).works;
            seen = λ of. (let was_seen = (k.fits j u x.1).seen of in (was_seen.0, leads-more t u.seen old e was_seen.1 m.legal));
          })
          (at_set s.views id j w u is));
      fresh = λ n more. ap (λ (c : core.State). worker_at c n) last ∙ (others n (apart n h.number v.view.hands alone one (k.once h.number) (total-of (times_in h.number) s.views id v at) (omega arith)) ∙ k.fresh n (omega arith));
    }
  where
    one-le : (b : Bool) → one_if b ≤ 1
    one-le true = omega arith
    one-le false = omega arith

    apart : (n w : ℕ) (hs : List Hand) → hs ≡ h ∷ [] → times_in w v ≡ 1 → total (times_in w) s.views ≡ one_if (nat_lt w (total made_of s.views + 1)) → times_in w v ≤ total (times_in w) s.views → total made_of s.views < n → n ≢ w
    apart n w hs is one all part more same = absurd (let past : nat_lt w (total made_of s.views + 1) ≡ false = grind (arith, nat_tests) in let z : one_if (nat_lt w (total made_of s.views + 1)) ≡ 0 = ap one_if past in omega arith)

-- what a step tells

stepped_so : (t : Terms) (s : St) (k : Kept t s) (id : ℕ) (v : Known) (h : Hand) (event : ℕ → Event) (i : ℕ) → get_elem? s.views id ≡ some v → v.view.hands ≡ h ∷ [] → v.view.terms ≡ t
    → IsLegal t (after_schedule t (start t) k.events) (event h.number)
    → IsStep v.view.terms v.view.hands v.seen (after_event t (after_schedule t (start t) k.events) (event h.number)) event i (get_or s.words i 0)
stepped_so t s k id v h event i at alone same legal =
    let old : core.State = after_schedule t (start t) k.events in
    let fit = k.fits id v at in
    let seen = fit.seen same in
    let P : Terms × List Hand → Type 0 = λ x. IsStep x.0 x.1 v.seen (after_event t old (event h.number)) event i (get_or s.words i 0) in
    subst P (λ j. (sym same j, sym alone j)) record {
      from = seen.0;
      before = old;
      since = seen.1;
      found_there = ap (λ (ws : List ℕ). get_or ws i 0) (sym k.words);
      works = subst (AllFit old) alone fit.works;
      legal = legal;
      now_is = refl;
    }

-- what may be read or added to is there

pub read_inside : (t : Terms) (c : ℕ) (hs : List Hand) → MayRead t c hs → c < cell_count t
read_inside t c [] may = absurd may
read_inside t c (h ∷ []) may = last h.work.log may
  where
    last : (log : List Entry) → LastReads t c log → c < cell_count t
    last [] l = absurd l
    last (e ∷ es) l = l.1
read_inside t c (h ∷ i ∷ hs) may = absurd may

pub add_inside : (t : Terms) (n c : ℕ) (hs : List Hand) → MayAdd t n c hs → (c < cell_count t) × (n < commodity_count t)
add_inside t n c [] may = absurd may
add_inside t n c (h ∷ []) may = (may.0, last h.work.log may.1)
  where
    last : (log : List Entry) → LastMayAdd t n c log → n < commodity_count t
    last [] l = absurd l
    last (e ∷ es) l = l.1
add_inside t n c (h ∷ i ∷ hs) may = absurd may

-- the claim

claim_moves : (t : Terms) (s : core.State) (count found : ℕ) (h : Hand) → count ≡ ticket_count t → found ≡ s.claims → h.number < length s.workers → worker_at s h.number ≡ h.work
    → h.work.stopped ≡ false → LastIsComplete t h.work.log → Moves t s (claim h.number) h.number (claimed count found h.work)
claim_moves t s count found h c f inside is going complete = record {
  legal = (inside, ap (λ (u : Worker). u.stopped) is ∙ going, subst (λ (u : Worker). LastIsComplete t u.log) (sym is) complete);
  workers = λ i. set s.workers h.number (claimed (sym c i) (sym f i) (is i));
}

-- the seat can take the step in this state, and then has seen what the step made of the words
abbrev pub Can : Terms → St → ℕ → M → ℕ → ℕ → (M → Type 0) → Type 0
Can t s id me i n tells = (w : Known) × Kept t record { words = set s.words i n; homes = s.homes; views = set s.views id w } × tells (w, me.1) × (words_of w.seen ≡ set s.words i n)

-- how many words there are
kept_count : (t : Terms) (s : St) → Kept t s → length s.words ≡ cell_count t + 1
kept_count t s k =
    let old : core.State = after_schedule t (start t) k.events in
    let law = loads_of t old k.is_start (laws t k.events k.is_start k.legal) in
    ap (λ (ws : List ℕ). length ws) k.words ∙ (let l = law.cells in omega arith)

-- what `Allows` asks of several workers, of the word at this place
pub several : (t : Terms) (slots id : ℕ) (me : M) (i : ℕ) (f : ℕ → ℕ) (tells : ℕ → M → Type 0) → 1 < t.workers → i < cell_count t + 1
    → ((s : St) → Kept t s → get_elem? s.views id ≡ some me.0 → Can t s id me i (f (get_or s.words i 0)) (tells (get_or s.words i 0)))
    → Allows (Holds t) slots id me (place (is_wide t) i) f tells
several t slots id me i f tells more inside can s h _ at small =
    let a = h.several more in
    let ws : List ℕ = a.0 in
    let here : St = record { words = ws; homes = s.homes; views = s.views } in
    let long : i < length ws = (let n = kept_count t here a.2 in omega arith) in
    let same : get_or ws i 0 ≡ get_or s.words (place (is_wide t) i) 0 = sym (a.1.each i long) in
    let r = can here a.2 at in
    let x : ℕ = f (get_or ws i 0) in
    let y : ℕ = f (get_or s.words (place (is_wide t) i) 0) in
    let now : x ≡ y = ap f same in
    let P : ℕ → Type 0 = λ z. tells z (r.0, me.1) in
    let p : ℕ = place (is_wide t) i in
    let placed : HasPlaced (is_wide t) (set s.words p y) (set ws i x) = subst (λ (z : ℕ). HasPlaced (is_wide t) (set s.words p z) (set ws i x)) now (placed_set (is_wide t) s.words ws i x long a.1) in
    (r.0, keeps, tt, record { one = λ is. absurd (omega arith); several = λ _. (set ws i x, placed, r.1) }, subst P same r.2)

pub claims_of : (t : Terms) (id : ℕ) (me : M) (s : St) (k : Kept t s) → get_elem? s.views id ≡ some me.0 → me.0.view.terms ≡ t → (hs : List Hand) → me.0.view.hands ≡ hs → MayClaim t hs
    → Can t s id me 0 ((get_or s.words 0 0 + 1) % 18446744073709551616) (HasClaimed me (get_or s.words 0 0))
claims_of t id me s k at same [] is may = absurd may
claims_of t id me s k at same (h ∷ i ∷ hs) is may = absurd may
claims_of t id me s k at same (h ∷ []) is may =
    let old : core.State = after_schedule t (start t) k.events in
    let v = me.0 in
    let x : ℕ = get_or s.words 0 0 in
    let found : x ≡ old.claims = ap (λ (ws : List ℕ). get_or ws 0 0) k.words in
    let fit : AllFit old (h ∷ []) = subst (AllFit old) is (k.fits id v at).works in
    let law = counts_of t old (laws t k.events k.is_start k.legal) in
    let small : (x + 1) % 18446744073709551616 ≡ x + 1 = (let a = law.few in let b = few-groups t.net k.is_start.net in let d = k.is_start.few_workers in omega arith) in
    let f : Worker → Worker = claimed (ticket_count v.view.terms) x in
    let m = claim_moves t old (ticket_count v.view.terms) x h (ap ticket_count same) found fit.0.0 fit.0.1 may.0 may.1 in
    let words : set s.words 0 ((x + 1) % 18446744073709551616) ≡ (old.claims + 1) ∷ old.loads =
    ap (λ (n : ℕ). set s.words 0 n) small ∙ (ap (λ (ws : List ℕ). set ws 0 (x + 1)) k.words ∙ ap (λ (n : ℕ). (n + 1) ∷ old.loads) found) in (
      known (with_work f v.view) (after_event t old (claim h.number)),
      moved t s k id v h f (claim h.number) (set s.words 0 ((x + 1) % 18446744073709551616)) at is same fit.0.0 m words,
      record { view_is = refl; rest_is = refl; step = stepped_so t s k id v h claim 0 at is same m.legal },
      sym words,
    )

pub claims : (t : Terms) (slots id : ℕ) (me : M) → 1 < t.workers → me.0.view.terms ≡ t → MayClaim t me.0.view.hands → Allows (Holds t) slots id me 0 (λ n. (n + 1) % 2 ^ 64) (HasClaimed me)
claims t slots id me more same may = subst (λ (p : ℕ). Allows (Holds t) slots id me p (λ n. (n + 1) % 2 ^ 64) (HasClaimed me)) (place-zero (is_wide t))
    (several t slots id me 0 (λ n. (n + 1) % 2 ^ 64) (HasClaimed me) more (omega arith) (λ s k at. claims_of t id me s k at same me.0.view.hands refl may))

-- the read

read_moves : (t : Terms) (s : core.State) (c found : ℕ) (h : Hand) → found ≡ get_or s.loads c 0 → h.number < length s.workers → worker_at s h.number ≡ h.work → LastReads t c h.work.log
    → Moves t s (read h.number) h.number (has_read found h.work)
read_moves t s c found h f inside is may =
    let here : next_cell h.work.log ≡ c = next h.work.log may in
    record {
      legal = (inside, subst (λ (u : Worker). LastIsReading t u.log) (sym is) (reading h.work.log may));
      workers = λ i. set s.workers h.number (has_read ((ap (λ (u : Worker). get_or s.loads (next_cell u.log) 0) is ∙ (ap (λ (n : ℕ). get_or s.loads n 0) here ∙ sym f)) i) (is i));
    }
  where
    next : (log : List Entry) → LastReads t c log → next_cell log ≡ c
    next [] l = absurd l
    next (e ∷ es) l = l.0

    reading : (log : List Entry) → LastReads t c log → LastIsReading t log
    reading [] l = absurd l
    reading (e ∷ es) l = (let a = l.0 in let b = l.1 in omega arith, l.2)

pub reads_of : (t : Terms) (id c : ℕ) (me : M) (s : St) (k : Kept t s) → get_elem? s.views id ≡ some me.0 → me.0.view.terms ≡ t → (hs : List Hand) → me.0.view.hands ≡ hs → MayRead t c hs
    → Can t s id me (c + 1) (get_or s.words (c + 1) 0) (HasRead c me (get_or s.words (c + 1) 0))
reads_of t id c me s k at same [] is may = absurd may
reads_of t id c me s k at same (h ∷ i ∷ hs) is may = absurd may
reads_of t id c me s k at same (h ∷ []) is may =
    let old : core.State = after_schedule t (start t) k.events in
    let v = me.0 in
    let x : ℕ = get_or s.words (c + 1) 0 in
    let found : x ≡ get_or old.loads c 0 = ap (λ (ws : List ℕ). get_or ws (c + 1) 0) k.words ∙ ap (λ (n : ℕ). get_or (old.claims ∷ old.loads) n 0) (add-one c) in
    let fit : AllFit old (h ∷ []) = subst (AllFit old) is (k.fits id v at).works in
    let f : Worker → Worker = has_read x in
    let m = read_moves t old c x h found fit.0.0 fit.0.1 may in (
      known (with_work f v.view) (after_event t old (read h.number)),
      moved t s k id v h f (read h.number) (set s.words (c + 1) x) at is same fit.0.0 m (set-get_or s.words (c + 1) 0 ∙ k.words),
      record { view_is = refl; rest_is = refl; step = stepped_so t s k id v h read (c + 1) at is same m.legal },
      sym (set-get_or s.words (c + 1) 0 ∙ k.words),
    )

pub reads : (t : Terms) (slots id c : ℕ) (me : M) → 1 < t.workers → me.0.view.terms ≡ t → MayRead t c me.0.view.hands → Allows (Holds t) slots id me (place (is_wide t) (c + 1)) (λ n. n) (HasRead c me)
reads t slots id c me more same may = several t slots id me (c + 1) (λ n. n) (HasRead c me) more (let few = read_inside t c me.0.view.hands may in omega arith) (λ s k at. reads_of t id c me s k at same me.0.view.hands refl may)

-- what a step of one worker leaves in its hand

fits-moved : (t : Terms) (s : core.State) (e : Event) (h : Hand) (u : Worker) → Moves t s e h.number u → h.number < length s.workers → AllFit (after_event t s e) (hand h.number u ∷ [])
fits-moved t s e h u m inside = (
  (
    subst (λ (n : ℕ). h.number < n) (sym (ap length m.workers ∙ length-set s.workers h.number u)) inside,
    ap (λ (us : List Worker). get_or us h.number idle) m.workers ∙ get_or-set_same s.workers h.number u idle inside,
  ),
  tt,
)

pub read_fits : (t : Terms) (c x : ℕ) (hs : List Hand) (seen now : core.State) → IsStep t hs seen now read (c + 1) x → MayRead t c hs → AllFit now (first_works (has_read x) hs)
read_fits t c x [] seen now s may = absurd may
read_fits t c x (h ∷ i ∷ hs) seen now s may = absurd may
read_fits t c x (h ∷ []) seen now s may =
    let old : core.State = s.before in
    let found : get_or old.loads c 0 ≡ x = subst (λ (n : ℕ). get_or (old.claims ∷ old.loads) n 0 ≡ x) (add-one c) s.found_there in
    let m = read_moves t old c x h (sym found) s.works.0.0 s.works.0.1 may in
    subst (λ (y : core.State). AllFit y (first_works (has_read x) (h ∷ []))) (sym s.now_is) (fits-moved t old (read h.number) h (has_read x h.work) m s.works.0.0)

-- the add

add_moves : (t : Terms) (s : core.State) (k c found : ℕ) (h : Hand) → found ≡ get_or s.loads c 0 → h.number < length s.workers → worker_at s h.number ≡ h.work → (c < cell_count t) × LastMayAdd t k c h.work.log
    → Moves t s (add h.number k c) h.number (has_added k c found h.work)
add_moves t s k c found h f inside is may = record {
  legal = (inside, may.0, subst (λ (u : Worker). LastMayAdd t k c u.log) (sym is) may.1);
  workers = λ i. set s.workers h.number (has_added k c (sym f i) (is i));
}

pub add_fits : (t : Terms) (k c x : ℕ) (hs : List Hand) (seen now : core.State) → IsStep t hs seen now (λ n. add n k c) (c + 1) x → MayAdd t k c hs → AllFit now (first_works (has_added k c x) hs)
add_fits t k c x [] seen now s may = absurd may
add_fits t k c x (h ∷ i ∷ hs) seen now s may = absurd may
add_fits t k c x (h ∷ []) seen now s may =
    let old : core.State = s.before in
    let found : get_or old.loads c 0 ≡ x = subst (λ (n : ℕ). get_or (old.claims ∷ old.loads) n 0 ≡ x) (add-one c) s.found_there in
    let m = add_moves t old k c x h (sym found) s.works.0.0 s.works.0.1 may in
    subst (λ (y : core.State). AllFit y (first_works (has_added k c x) (h ∷ []))) (sym s.now_is) (fits-moved t old (add h.number k c) h (has_added k c x h.work) m s.works.0.0)

pub adds_of : (t : Terms) (id n c a : ℕ) (me : M) (s : St) (k : Kept t s) → get_elem? s.views id ≡ some me.0 → me.0.view.terms ≡ t → (hs : List Hand) → me.0.view.hands ≡ hs → MayAdd t n c hs → a ≡ amount_of t n
    → Can t s id me (c + 1) ((get_or s.words (c + 1) 0 + a) % 18446744073709551616) (HasAdded n c me (get_or s.words (c + 1) 0))
adds_of t id n c a me s k at same [] is may amount = absurd may
adds_of t id n c a me s k at same (h ∷ i ∷ hs) is may amount = absurd may
adds_of t id n c a me s k at same (h ∷ []) is may amount =
    let old : core.State = after_schedule t (start t) k.events in
    let v = me.0 in
    let x : ℕ = get_or s.words (c + 1) 0 in
    let found : x ≡ get_or old.loads c 0 = ap (λ (ws : List ℕ). get_or ws (c + 1) 0) k.words ∙ ap (λ (m : ℕ). get_or (old.claims ∷ old.loads) m 0) (add-one c) in
    let fit : AllFit old (h ∷ []) = subst (AllFit old) is (k.fits id v at).works in
    let f : Worker → Worker = has_added n c x in
    let m = add_moves t old n c x h found fit.0.0 fit.0.1 may in
    let e : Event = add h.number n c in
    let last = schedule-snoc t (start t) k.events e in
    let law = loads_of t _ k.is_start (laws t (k.events ++ e ∷ []) k.is_start (AreLegal-snoc t (start t) k.events e k.legal m.legal)) in
    let within : get_or (after_event t old e).loads c 0 ≤ 4611686018427387904 = subst (λ (s : core.State). get_or s.loads c 0 ≤ 4611686018427387904) last (law.within c may.0) in
    let before = loads_of t old k.is_start (laws t k.events k.is_start k.legal) in
    let sum : ℕ = get_or old.loads c 0 + amount_of t n in
    let here : get_or (after_event t old e).loads c 0 ≡ sum = get_or-set_same old.loads c sum 0 (let l = before.cells in let inside = may.0 in omega arith) in
    let small : (x + a) % 18446744073709551616 ≡ sum = omega arith in
    let words : set s.words (c + 1) ((x + a) % 18446744073709551616) ≡ old.claims ∷ (after_event t old e).loads =
    ap (λ (m : ℕ). set s.words (c + 1) m) small ∙ (ap (λ (ws : List ℕ). set ws (c + 1) sum) k.words ∙ ap (λ (m : ℕ). set (old.claims ∷ old.loads) m sum) (add-one c)) in (
      known (with_work f v.view) (after_event t old e),
      moved t s k id v h f e (set s.words (c + 1) ((x + a) % 18446744073709551616)) at is same fit.0.0 m words,
      record { view_is = refl; rest_is = refl; step = stepped_so t s k id v h (λ w. add w n c) (c + 1) at is same m.legal },
      sym words,
    )

pub adds : (t : Terms) (slots id n c a : ℕ) (me : M) → 1 < t.workers → me.0.view.terms ≡ t → MayAdd t n c me.0.view.hands → a ≡ amount_of t n → Allows (Holds t) slots id me (place (is_wide t) (c + 1)) (λ m. (m + a) % 2 ^ 64) (HasAdded n c me)
adds t slots id n c a me more same may amount = several t slots id me (c + 1) (λ m. (m + a) % 2 ^ 64) (HasAdded n c me) more (let few = add_inside t n c me.0.view.hands may in omega (arith, few.0)) (λ s k at. adds_of t id n c a me s k at same me.0.view.hands refl may amount)

-- the split

made-splits : (v : Known) → made_of v ≤ splits_of v
made-splits v = omega arith

splits_several : (t : Terms) (id : ℕ) (v : Known) → v.view.terms ≡ t → 0 < v.view.left → Splits (Kept t) id v (keeps_known v) (cuts_known v)
splits_several t id v same some_left s k at =
    let old : core.State = after_schedule t (start t) k.events in
    let made = total-put made_of s.views id v (keeps_known v) at in
    let made' = total-snoc made_of (set s.views id (keeps_known v)) (cuts_known v) in
    let all = (k.fits id v at).splits in
    let sum = k.splits in
    let mine : total made_of s.views ≡ v.view.made = total-whole made_of splits_of made-splits s.views id v at (let a = all (omega arith) in omega arith) in
    let more_made : total made_of (set s.views id (keeps_known v) ++ cuts_known v ∷ []) ≡ total made_of s.views + 1 = omega arith in
    let law = counts_of t old (laws t k.events k.is_start k.legal) in
    let room : v.view.made + 1 < length old.workers = (let a = all (omega arith) in let b = law.workers in omega arith) in
    record {
      is_start = k.is_start;
      events = k.events;
      legal = k.legal;
      words = k.words;
      splits = (let a = total-put splits_of s.views id v (keeps_known v) at in let b = total-snoc splits_of (set s.views id (keeps_known v)) (cuts_known v) in omega arith);
      hands = (let a = total-put hands_of s.views id v (keeps_known v) at in let b = total-snoc hands_of (set s.views id (keeps_known v)) (cuts_known v) in let c = k.hands in omega arith);
      once = λ n. (let a = total-put (times_in n) s.views id v (keeps_known v) at in let b = total-snoc (times_in n) (set s.views id (keeps_known v)) (cuts_known v) in let c = k.once n in
          let d = once-more n (v.view.made + 1) in
          let c' : total (times_in n) s.views ≡ one_if (nat_lt n (v.view.made + 1)) = c ∙ ap (λ (m : ℕ). one_if (nat_lt n (m + 1))) mine in
          let e : total (times_in n) (set s.views id (keeps_known v) ++ cuts_known v ∷ []) ≡ one_if (nat_lt n ((v.view.made + 1) + 1)) = omega arith in
          e ∙ ap (λ (m : ℕ). one_if (nat_lt n (m + 1))) (let z : v.view.made + 1 ≡ total made_of (set s.views id (keeps_known v) ++ cuts_known v ∷ []) = omega arith in z));
      fits = λ j u is. ⊎_elim
          (λ was_there. ⊎_elim
          (λ (x : (j ≡ id) × (keeps_known v ≡ u)). subst (FitsView t old) x.1 record {
            terms = λ _. same;
            splits = λ _. (let a = all (omega arith) in omega arith);
            works = (k.fits id v at).works;
            seen = (k.fits id v at).seen;
          })
          (λ (x : (j ≢ id) × (get_elem? s.views j ≡ some u)). k.fits j u x.1)
          (at_set s.views id j (keeps_known v) u was_there))
          (λ (new : cuts_known v ≡ u). subst (FitsView t old) new record {
            terms = λ _. same;
            splits = λ some_of. absurd (omega arith);
            works = ((room, k.fresh (v.view.made + 1) (omega arith)), tt);
            seen = λ _. (k.fits id v at).seen same;
          })
          (at_snoc (set s.views id (keeps_known v)) (cuts_known v) u j is);
      fresh = λ n more. k.fresh n (omega arith);
    }

-- the join

joins_several : (t : Terms) (id other : ℕ) (v w : Known) → v.view.terms ≡ t → Joins (Kept t) id v other w (joins_known v w) spent_known
joins_several t id other v w same s k at apart there =
    let old : core.State = after_schedule t (start t) k.events in
    let both : Known = joins_known v w in
    let mid : List Known = set s.views id both in
    let theirs : get_elem? s.views other ≡ some w = ⊎_elim (λ (x : (other ≡ id) × (both ≡ w)). absurd (apart x.0)) (λ (x : (other ≢ id) × (get_elem? s.views other ≡ some w)). x.1) (at_set s.views id other both w there) in
    let made = total-put made_of s.views id v both at in
    let made' = total-put made_of mid other w spent_known there in
    let same_made : total made_of (set mid other spent_known) ≡ total made_of s.views = omega arith in
    let two = total-two splits_of s.views id other v w at theirs (λ e. apart (sym e)) in
    let sum = k.splits in
    let mine = (k.fits id v at).splits in
    let their = (k.fits other w theirs).splits in
    record {
      is_start = k.is_start;
      events = k.events;
      legal = k.legal;
      words = k.words;
      splits = (let a = total-put splits_of s.views id v both at in let b = total-put splits_of mid other w spent_known there in omega arith);
      hands = (let a = total-put hands_of s.views id v both at in let b = total-put hands_of mid other w spent_known there in let c = k.hands in let l = length-append v.view.hands w.view.hands in omega arith);
      once = λ n. (let a = total-put (times_in n) s.views id v both at in let b = total-put (times_in n) mid other w spent_known there in let c = k.once n in
          let l = total-append (λ (h : Hand). one_if (nat_eq n h.number)) v.view.hands w.view.hands in
          let e : total (times_in n) (set mid other spent_known) ≡ one_if (nat_lt n (total made_of s.views + 1)) = omega arith in
          e ∙ ap (λ (m : ℕ). one_if (nat_lt n (m + 1))) (sym same_made));
      fits = λ j u is. ⊎_elim
          (λ (x : (j ≡ other) × (spent_known ≡ u)). subst (FitsView t old) x.1 record { terms = λ some_of. absurd (omega arith); splits = λ some_of. absurd (omega arith); works = tt; seen = λ of. absurd (let some_of = k.is_start.some_worker in let none : 0 ≡ t.workers = ap (λ (x : Terms). x.workers) of in omega arith) })
          (λ (x : (j ≢ other) × (get_elem? mid j ≡ some u)). ⊎_elim
          (λ (y : (j ≡ id) × (both ≡ u)). subst (FitsView t old) y.1 record {
            terms = λ _. same;
            splits = λ some_of. grind arith;
            works = fits-append old v.view.hands w.view.hands (k.fits id v at).works (k.fits other w theirs).works;
            seen = λ _. (k.fits id v at).seen same;
          })
          (λ (y : (j ≢ id) × (get_elem? s.views j ≡ some u)). k.fits j u y.1)
          (at_set s.views id j both u x.1))
          (at_set mid other j spent_known u is);
      fresh = λ n more. k.fresh n (omega arith);
    }

-- one worker alone has the one view

pub only_view : (l : List Known) (id : ℕ) (u v : Known) → l ≡ u ∷ [] → get_elem? l id ≡ some v → (id ≡ 0) × (u ≡ v)
only_view l id u v is at = by_place id (subst (λ (m : List Known). get_elem? m id ≡ some v) is at)
  where
    by_place : (i : ℕ) → get_elem? (u ∷ []) i ≡ some v → (i ≡ 0) × (u ≡ v)
    by_place zero e = (refl, some-injective u v e)
    by_place (suc i) e = absurd (some-ne-none v (sym e))

pub splits : (t : Terms) (id : ℕ) (v : Known) → v.view.terms ≡ t → 0 < v.view.left → Splits (Holds t) id v (keeps_known v) (cuts_known v)
splits t id v same some_left s h at = record {
  one = λ is. absurd (let k = h.one is in let only = only_view s.views id k.0 v k.1 at in
      let none_left : total splits_of (k.0 ∷ []) + 1 ≡ t.workers = k.2.splits in
      let more : 0 < k.0.view.left = subst (λ (u : Known). 0 < u.view.left) (sym only.1) some_left in omega arith);
  several = λ more. (
      let a = h.several more in
      (a.0, a.1, splits_several t id v same some_left record { words = a.0; homes = s.homes; views = s.views } a.2 at)
      );
}

pub joins : (t : Terms) (id other : ℕ) (v w : Known) → v.view.terms ≡ t → Joins (Holds t) id v other w (joins_known v w) spent_known
joins t id other v w same s h at apart there = record {
  one = λ is. absurd (let k = h.one is in let only = only_view s.views id k.0 v k.1 at in
      let now : set s.views id (joins_known v w) ≡ joins_known v w ∷ [] = (λ i. set (k.1 i) (only.0 i) (joins_known v w)) in
      apart ((only_view _ other (joins_known v w) w now there).0 ∙ sym only.0));
  several = λ more. (
      let a = h.several more in
      (a.0, a.1, joins_several t id other v w same record { words = a.0; homes = s.homes; views = s.views } a.2 at apart there)
      );
}

-- the start

pub begins : (t : Terms) → IsStart t → Kept t (opening (0 ∷ t.base) [] (first_known t))
begins t h =
    let some_of = h.some_worker in
    record {
      is_start = h;
      events = [];
      legal = tt;
      words = refl;
      splits = omega arith;
      hands = refl;
      once = λ n. grind (arith, nat_tests);
      fits = one;
      fresh = λ n _. get_or-replicate t.workers n idle;
    }
  where
    one : (j : ℕ) (v : Known) → get_elem? (first_known t ∷ []) j ≡ some v → FitsView t (start t) v
    one zero v e = subst (FitsView t (start t)) (some-injective _ _ e) record {
      terms = λ _. refl;
      splits = λ _. (let a = h.some_worker in omega arith);
      works = (((let a = h.some_worker in let b = length-replicate t.workers idle in omega arith), get_or-replicate t.workers 0 idle), tt);
      seen = λ _. (([], tt, refl), ([], tt, refl));
    }
    one (suc j) v e = absurd (some-ne-none v (sym e))

-- what the workers have is what hands have that have each worker once

total-idle : (f : Worker → ℕ) → f idle ≡ 0 → (ws : List Worker) → ((n : ℕ) → get_or ws n idle ≡ idle) → total f ws ≡ 0
total-idle f zero_idle [] all = refl
total-idle f zero_idle (u ∷ us) all = let a : f u ≡ 0 = ap f (all 0) ∙ zero_idle in let b = total-idle f zero_idle us (λ n. all (suc n)) in omega arith

abbrev AllHave : List Worker → List Hand → Type 0
AllHave ws [] = Unit {0}
AllHave ws (h ∷ hs) = ((h.number < length ws) × (get_or ws h.number idle ≡ h.work)) × AllHave ws hs

abbrev TimesIn : ℕ → List Hand → ℕ
TimesIn n hs = total (λ (h : Hand). one_if (nat_eq n h.number)) hs

have-set : (ws : List Worker) (w : ℕ) (hs : List Hand) → TimesIn w hs ≡ 0 → AllHave ws hs → AllHave (set ws w idle) hs
have-set ws w [] gone f = tt
have-set ws w (h ∷ hs) gone f =
    let apart : h.number ≢ w = other (nat_eq w h.number) refl in
    let inside = f.0.0 in
    let same = length-set ws w idle in
    ((omega arith, get_or-set_other ws w h.number idle idle apart ∙ f.0.1), have-set ws w hs (omega arith) f.1)
  where
    other : (b : Bool) → nat_eq w h.number ≡ b → h.number ≢ w
    other true e = absurd (let z : one_if (nat_eq w h.number) ≡ 1 = ap one_if e in omega arith)
    other false e = grind (arith, nat_tests)

total-hands : (f : Worker → ℕ) → f idle ≡ 0 → (hs : List Hand) (ws : List Worker) → AllHave ws hs → ((n : ℕ) → TimesIn n hs ≤ 1) → ((n : ℕ) → TimesIn n hs ≡ 0 → get_or ws n idle ≡ idle)
    → total f ws ≡ total (λ (h : Hand). f h.work) hs
total-hands f zero_idle [] ws have once others = total-idle f zero_idle ws (λ n. others n refl)
total-hands f zero_idle (h ∷ hs) ws have once others =
    let one : one_if (nat_eq h.number h.number) ≡ 1 = ap one_if (eq-eqb h.number h.number refl) in
    let most = once h.number in
    let gone : TimesIn h.number hs ≡ 0 = omega arith in
    let mine : f (get_or ws h.number idle) ≡ f h.work = ap f have.0.1 in
    let e = total-set f ws h.number idle idle have.0.0 in
    let r = total-hands f zero_idle hs (set ws h.number idle) (have-set ws h.number hs gone have.1) (λ n. let a = once n in omega arith)
    (λ n zero_there. dite (ℕ_discrete n h.number)
    (λ same. subst (λ (k : ℕ). get_or (set ws h.number idle) k idle ≡ idle) (sym same) (get_or-set_same ws h.number idle idle have.0.0))
    (λ apart. get_or-set_other ws h.number n idle idle apart ∙ others n (let z : one_if (nat_eq n h.number) ≡ 0 = ap one_if (ne_eqb n h.number apart) in omega arith))) in
    omega arith

fit-have : (s : core.State) (hs : List Hand) → AllFit s hs → AllHave s.workers hs
fit-have s [] f = tt
fit-have s (h ∷ hs) f = (f.0, fit-have s hs f.1)

-- the end

times-hands : (n : ℕ) (v : Known) → times_in n v ≤ hands_of v
times-hands n v = all v.view.hands
  where
    one : (b : Bool) → one_if b ≤ 1
    one true = omega arith
    one false = omega arith

    all : (hs : List Hand) → total (λ (h : Hand). one_if (nat_eq n h.number)) hs ≤ length hs
    all [] = omega arith
    all (h ∷ hs) = let a = one (nat_eq n h.number) in let b = all hs in omega arith

pub closes : (t : Terms) (id : ℕ) (v : Known) (ws : List ℕ) (xs : List (Unit {0})) (loads : List ℕ) → MayClose t v.view → v.view.terms ≡ t → Final (Seen (Kept t) id v) ws xs
    → length loads ≡ cell_count t → ((i : ℕ) → i < length loads → get_or loads i 0 ≡ get_or ws (i + 1) 0) → Closes t v.seen v.view.hands loads
closes t id v ws xs loads may same f long each =
    let s : St = f.0 in
    let k : Kept t s = f.1.0 in
    let at = f.1.1 in
    let old : core.State = after_schedule t (start t) k.events in
    let words : old.claims ∷ old.loads ≡ ws = sym k.words ∙ f.2 in
    let law = loads_of t old k.is_start (laws t k.events k.is_start k.legal) in
    let whole : total splits_of s.views ≡ splits_of v = (let a = k.splits in let b = may.splits in omega arith) in
    let made : total made_of s.views ≡ v.view.made = total-whole made_of splits_of made-splits s.views id v at whole in
    let hands : total hands_of s.views ≡ hands_of v = (let a = k.hands in let b = may.hands in omega arith) in
    let all : (n : ℕ) → total (times_in n) s.views ≡ times_in n v = λ n. total-whole (times_in n) hands_of (times-hands n) s.views id v at hands in
    let one_each : (n : ℕ) → times_in n v ≤ 1 = λ n. (let a = all n in let b = k.once n in let c = one-le (nat_lt n (total made_of s.views + 1)) in omega arith) in
    let no_others : (n : ℕ) → times_in n v ≡ 0 → worker_at old n ≡ idle = λ n no_time. k.fresh n (late n no_time (sym (k.once n) ∙ all n)) in
    record {
      events = k.events;
      legal = k.legal;
      since = ((k.fits id v at).seen same).1;
      loads_there = same_lists old.loads loads (law.cells ∙ sym long)
          (λ i inside. sym (each i (let a = law.cells in omega arith) ∙ (ap (λ (us : List ℕ). get_or us (i + 1) 0) (sym words) ∙ ap (λ (n : ℕ). get_or (old.claims ∷ old.loads) n 0) (add-one i))));
      works = (k.fits id v at).works;
      once = one_each;
      others = no_others;
      sums = λ c few.
          let into : get_or loads c 0 ≡ get_or old.loads c 0 = each c (omega arith) ∙ (ap (λ (us : List ℕ). get_or us (c + 1) 0) (sym words) ∙ ap (λ (n : ℕ). get_or (old.claims ∷ old.loads) n 0) (add-one c)) in
          let sum = law.sums c few in
          let parts = total-hands (λ (u : Worker). added t c u.log) refl v.view.hands old.workers (fit-have old v.view.hands (k.fits id v at).works) one_each no_others in
          omega arith;
    }
  where
    one-le : (b : Bool) → one_if b ≤ 1
    one-le true = omega arith
    one-le false = omega arith

    late : (n : ℕ) → times_in n v ≡ 0 → one_if (nat_lt n (total made_of f.0.views + 1)) ≡ times_in n v → total made_of f.0.views < n
    late n no_time e = by_test (nat_lt n (total made_of f.0.views + 1)) refl (e ∙ no_time)
      where
        by_test : (b : Bool) → nat_lt n (total made_of f.0.views + 1) ≡ b → one_if b ≡ 0 → total made_of f.0.views < n
        by_test true is zero_there = absurd (omega arith)
        by_test false is zero_there = grind (arith, nat_tests)

-- lemmas for the contracts of `Loads`

abbrev pub shared_bases : List ℕ → ℕ → List ℕ
shared_bases base workers = if workers == 1 then [] else base

pub bases_of_several : (base : List ℕ) (workers : ℕ) → 1 < workers → shared_bases base workers ≡ base
bases_of_several base workers more = ap (λ (b : Bool). if b then [] else base) (ne_eqb workers 1 (λ e. omega arith))

pub cells_of_several : (t : Terms) → 1 < t.workers → shared_cells t ≡ cell_count t
cells_of_several t more = ap (λ (b : Bool). if b then 0 else cell_count t) (ne_eqb t.workers 1 (λ e. omega arith))

pub begins_at : (t t' : Terms) (ws : List ℕ) → t' ≡ t → HasPlaced (is_wide t) ws (0 ∷ shared_bases t.base t.workers) → IsStart t → Holds t' (opening ws [] (first_known t'))
begins_at t t' ws same placed h =
    let P : Terms → Type 0 = λ x. Holds x (opening ws [] (first_known x)) in
    subst P (sym same) record { one = λ _. (first_known t, refl, begins t h); several = λ more. (0 ∷ t.base, subst (λ (xs : List ℕ). HasPlaced (is_wide t) ws (0 ∷ xs)) (bases_of_several t.base t.workers more) placed, begins t h) }

-- several workers end as their rule says, and one alone on the words that it has seen
pub ends_several : (t : Terms) (id : ℕ) (v : Known) (ws : List ℕ) (xs : List (Unit {0})) → 1 < t.workers → Final (Seen (Holds t) id v) ws xs
    → (words : List ℕ) × HasPlaced (is_wide t) ws words × (length words ≡ cell_count t + 1) × Final (Seen (Kept t) id v) words xs
ends_several t id v ws xs more f =
    let a = f.1.0.several more in
    let here : St = record { words = a.0; homes = f.0.homes; views = f.0.views } in
    (a.0, subst (λ (us : List ℕ). HasPlaced (is_wide t) us a.0) f.2 a.1, kept_count t here a.2, (here, (a.2, f.1.1), refl, f.3, f.4))

pub ends_alone : (t : Terms) (id : ℕ) (v : Known) (ws : List ℕ) (xs : List (Unit {0})) → t.workers ≡ 1 → Final (Seen (Holds t) id v) ws xs → Final (Seen (Kept t) 0 v) (words_of v.seen) xs
ends_alone t id v ws xs is f =
    let k = f.1.0.one is in
    let only = only_view f.0.views id k.0 v k.1 f.1.1 in
    let kept : Kept t record { words = words_of v.seen; homes = f.0.homes; views = v ∷ [] } = subst (λ (u : Known). Kept t record { words = words_of u.seen; homes = f.0.homes; views = u ∷ [] }) only.1 k.2 in
    (record { words = words_of v.seen; homes = f.0.homes; views = v ∷ [] }, (kept, refl), refl, f.3, f.4)

read_at : (l : List ℕ) (i a : ℕ) → get_elem? l i ≡ some a → get_or l i 0 ≡ a
read_at [] i a e = absurd (some-ne-none a (sym e))
read_at (x ∷ xs) zero a e = some-injective x a e
read_at (x ∷ xs) (suc i) a e = read_at xs i a e

pub copied : (wide : Bool) (into ws : List ℕ) (i x p : ℕ) → i < length into → ((k : ℕ) → k < i → get_or into k 0 ≡ get_or ws (place wide (k + 1)) 0) → p ≡ place wide (i + 1) → get_elem? ws p ≡ some x
    → (k : ℕ) → k < i + 1 → get_or (set into i x) k 0 ≡ get_or ws (place wide (k + 1)) 0
copied wide into ws i x p inside below is here k less = dite (ℕ_discrete k i)
    (λ same. subst (λ (j : ℕ). get_or (set into i x) j 0 ≡ get_or ws (place wide (j + 1)) 0) (sym same) (get_or-set_same into i x 0 inside ∙ sym (ap (λ (q : ℕ). get_or ws q 0) (sym is) ∙ read_at ws p x here)))
    (λ apart. get_or-set_other into i k x 0 apart ∙ below k (omega arith))

-- what holds where a step came
at_step : (t : Terms) (seen before : core.State) → IsStart t → Leads t (start t) seen → Leads t seen before → Inv t before
at_step t seen before h from since = (let l = leads-on t (start t) seen before from since in subst (Inv t) l.2 (laws t l.0 h l.1))

-- a claim's ticket is above those that the hands have
pub order_of : (t : Terms) (hands : List Hand) (seen now : core.State) (event : ℕ → Event) (ticket : ℕ) → IsStart t → IsStep t hands seen now event 0 ticket → AllFallBelow ticket hands
order_of t hands seen now event ticket h step = all hands step.works
  where
    all : (hs : List Hand) → AllFit step.before hs → AllFallBelow ticket hs
    all [] f = tt
    all (x ∷ xs) f =
        let s : core.State = step.before in
        let i = at_step t seen s h step.from step.since in
        let is = step.found_there in
        (falls-more (min s.claims (ticket_count t)) ticket x.work.log (omega arith) (subst (λ (u : Worker). IsFalling (min s.claims (ticket_count t)) u.log) f.0.1 (i.falling x.number f.0.0)), all xs f.1)

-- a load that was read is within its limit
pub word_within : (t : Terms) (hands : List Hand) (seen now : core.State) (event : ℕ → Event) (c x : ℕ) → IsStart t → c < cell_count t → IsStep t hands seen now event (c + 1) x → x ≤ MAX_LENGTH
word_within t hands seen now event c x h few step =
    let s : core.State = step.before in
    let law = loads_of t s h (at_step t seen s h step.from step.since) in
    let is : get_or s.loads c 0 ≡ x = subst (λ (n : ℕ). get_or (s.claims ∷ s.loads) n 0 ≡ x) (add-one c) step.found_there in
    let within = law.within c few in
    omega arith
