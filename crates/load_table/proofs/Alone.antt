-- The steps of one worker alone, whose words are its own.
use Rattle.std.proofs.Common.{◌≡◌, ℕ, zero, suc, ◌+◌, ◌%◌, ◌<◌, ◌≤◌, List, [], ◌∷◌, ◌++◌, take, length, min, get_or, set, refl, sym, ap, ◌∙◌, subst, arith, length-set, drop, add-one}
use Rattle.std.proofs.lemmas.List.{get_or_default, set-get_or, take_more, length-take, take_all}
use mathlib.Core.Option.{Option}
use Rattle.atomic_table.specs.Table.{State, keeps, Allows}
use Rattle.flow_core.specs.Core as core
use Rattle.flow_core.specs.Core.{Terms, Event, Leads, start, after_schedule, read, add, has_read, has_added, amount_of, cell_count}
use Rattle.flow_core.specs.Laws.{Loads}
use Rattle.flow_core.proofs.Steps.{laws, loads_of}
use Rattle.mcf_limits.specs.declared.TheConstants.{MAX_LENGTH}
use Rattle.atomic_table.specs.Seated.{TableId}
use Rattle.load_table.specs.declared.view.Known.{Known}
use Rattle.load_table.specs.declared.view.View.{View}
use Rattle.load_table.specs.Rule.{Kept, KeepsWorks, Holds, words_of, M, HasClaimed, HasRead, HasAdded, HasClaimedAlone, HasReadAlone, HasAddedAlone, HasFoundAndPut, HasReadAll, HasAddedAlong, IsStep, AllFit, MayClaim, MayRead, MayAdd}
use Rattle.load_table.specs.Seen.{LoadsView, PassView, IsPassOf, AreWordsOf}
use Rattle.load_table.specs.Views.{with_work}
use Rattle.load_table.specs.Reading.{OneWhere, IsFresh, reads_all}
use Rattle.load_table.specs.Adding.{IsReadyFor, HasAddedAll, adds_along, AreMoreAlong}
use Rattle.load_table.proofs.Adding.{adds_none, adds_one, may_add, along-more, fresh-at, more_none, more_next}
use Rattle.std.specs.Prelude.{All}
use Rattle.flow_model.specs.Least.{AreDifferent}
use Rattle.load_table.proofs.Works.{reads_none, reads_one, may_read}
use Rattle.load_table.proofs.Keeps.{Can, leads-on, step_leads, claims_of, reads_of, adds_of, only_view, read_fits, add_fits}

abbrev St : Type 0
St = State (Unit {0}) Known

-- the state of the table with the words that the view has seen
abbrev own_state : List (Option (Unit {0})) → Known → St
own_state homes v = record { words = words_of v.seen; homes = homes; views = v ∷ [] }

-- a step that can be taken on the words that were seen can be taken beside a load of the table
alone : (t : Terms) (slots id word i : ℕ) (me : M) (f : ℕ → ℕ) (tells : ℕ → M → Type 0) → t.workers ≡ 1
    → ((homes : List (Option (Unit {0}))) → Kept t (own_state homes me.0) → Can t (own_state homes me.0) 0 me i (f (get_or (words_of me.0.seen) i 0)) (tells (get_or (words_of me.0.seen) i 0)))
    → Allows (Holds t) slots id me word (λ n. n) (λ _ w. HasFoundAndPut i f tells me w)
alone t slots id word i me f tells is can s h _ at small =
    let k = h.one is in
    let only = only_view s.views id k.0 me.0 k.1 at in
    let kept : Kept t (own_state s.homes me.0) = subst (λ (v : Known). Kept t (own_state s.homes v)) only.1 k.2 in
    let r = can s.homes kept in
    let views : set s.views id r.0 ≡ r.0 ∷ [] = (λ j. set (k.1 j) (only.0 j) r.0) in
    let now : Kept t (own_state s.homes r.0) = subst (λ (ws : List ℕ). Kept t record { words = ws; homes = s.homes; views = r.0 ∷ [] }) (sym r.3) r.1 in
    (r.0, keeps, tt, record { one = λ _. (r.0, views, now); several = λ more. absurd (omega arith) }, (r.2, r.3))

pub claims_alone : (t : Terms) (slots id : ℕ) (me : M) → t.workers ≡ 1 → me.0.view.terms ≡ t → MayClaim t me.0.view.hands
    → Allows (Holds t) slots id me 0 (λ n. n) (λ _ w. HasClaimedAlone me w)
claims_alone t slots id me is same may =
    alone t slots id 0 0 me (λ n. (n + 1) % 18446744073709551616) (HasClaimed me) is (λ homes k. claims_of t 0 me _ k refl same me.0.view.hands refl may)

pub reads_alone : (t : Terms) (slots id c : ℕ) (me : M) → t.workers ≡ 1 → me.0.view.terms ≡ t → MayRead t c me.0.view.hands
    → Allows (Holds t) slots id me 0 (λ n. n) (λ _ w. HasReadAlone c me w)
reads_alone t slots id c me is same may =
    alone t slots id 0 (c + 1) me (λ n. n) (HasRead c me) is (λ homes k. reads_of t 0 c me _ k refl same me.0.view.hands refl may)

pub adds_alone : (t : Terms) (slots id n c : ℕ) (me : M) → t.workers ≡ 1 → me.0.view.terms ≡ t → MayAdd t n c me.0.view.hands
    → Allows (Holds t) slots id me 0 (λ m. m) (λ _ w. HasAddedAlone n c me w)
adds_alone t slots id n c me is same may =
    let a = amount_of me.0.view.terms n in
    alone t slots id 0 (c + 1) me (λ m. (m + a) % 18446744073709551616) (HasAdded n c me) is
    (λ homes k. adds_of t 0 n c a me _ k refl same me.0.view.hands refl may (ap (λ (x : Terms). amount_of x n) same))

pub own_rest : (s : core.State) (own : List ℕ) (n : ℕ) → own ≡ words_of s → length own ≤ n + 1 → take n (drop 1 own) ≡ s.loads
own_rest s own n is few = ap (λ (ws : List ℕ). take n (drop 1 ws)) is ∙ take_all n s.loads (let l = ap (λ (ws : List ℕ). length ws) is in omega arith)

-- all reads, one after the other

record ReadSoFar (t : Terms) (homes : List (Option (Unit {0}))) (v : Known) (c : ℕ) : Type 0 where
  known : Known
  kept : Kept t (own_state homes known)
  view_is : known.view ≡ with_work (reads_all (take c v.seen.loads)) v.view
  words : words_of known.seen ≡ words_of v.seen
  since : Leads t v.seen known.seen
  works : KeepsWorks v.seen v.view.hands known.seen known.view.hands

-- the loads that were seen are those after the events
loads_law : (t : Terms) (homes : List (Option (Unit {0}))) (v : Known) (k : Kept t (own_state homes v)) → Loads t record { claims = v.seen.claims; loads = v.seen.loads; workers = (after_schedule t (start t) k.events).workers }
loads_law t homes v k =
    let old : core.State = after_schedule t (start t) k.events in
    let parts : List ℕ → core.State = λ ws. record { claims = get_or ws 0 0; loads = drop 1 ws; workers = old.workers } in
    subst (Loads t) (ap parts (sym k.words)) (loads_of t old k.is_start (laws t k.events k.is_start k.legal))

read_so_far : (t : Terms) (homes : List (Option (Unit {0}))) (v : Known) → Kept t (own_state homes v) → v.view.terms ≡ t → OneWhere IsFresh v.view.hands → (c : ℕ) → c ≤ cell_count t → ReadSoFar t homes v c
read_so_far t homes v k same fresh zero few = record { known = v; kept = k; view_is = reads_none v.view fresh; words = refl; since = ([], tt, refl); works = λ fit. fit }
read_so_far t homes v k same fresh (suc c) few =
    let r = read_so_far t homes v k same fresh c (omega arith) in
    let u = r.known in
    let law = loads_law t homes v k in
    let long : c < length v.seen.loads = (let l = law.cells in omega arith) in
    let of : u.view.terms ≡ t = ap (λ (x : View). x.terms) r.view_is ∙ same in
    let may : MayRead t c u.view.hands = may_read t c (take c v.seen.loads) v.view u.view fresh r.view_is (length-take c v.seen.loads ∙ (let z : min c (length v.seen.loads) ≡ c = omega arith in z)) (omega arith) in
    let got = reads_of t 0 c (u, []) (own_state homes u) r.kept refl of u.view.hands refl may in
    let x : ℕ = get_or (words_of u.seen) (c + 1) 0 in
    let is : x ≡ get_or v.seen.loads c 0 = ap (λ (ws : List ℕ). get_or ws (c + 1) 0) r.words ∙ ap (λ (n : ℕ). get_or (words_of v.seen) n 0) (add-one c) in
    let all : take c v.seen.loads ++ x ∷ [] ≡ take (suc c) v.seen.loads = ap (λ (y : ℕ). take c v.seen.loads ++ y ∷ []) is ∙ (sym (take_more v.seen.loads c 0 long) ∙ ap (λ (n : ℕ). take n v.seen.loads) (add-one c)) in
    let words : words_of got.0.seen ≡ words_of u.seen = got.3 ∙ set-get_or (words_of u.seen) (c + 1) 0 in
    record {
      known = got.0;
      kept = subst (λ (ws : List ℕ). Kept t record { words = ws; homes = homes; views = got.0 ∷ [] }) {y = words_of got.0.seen} (sym got.3) got.1;
      view_is = got.2.view_is ∙ (reads_one x (take c v.seen.loads) v.view u.view r.view_is ∙ ap (λ (rs : List ℕ). with_work (reads_all rs) v.view) all);
      words = words ∙ r.words;
      since = leads-on t v.seen u.seen got.0.seen r.since (subst (λ (x : Terms). Leads x u.seen got.0.seen) of (step_leads u.view.terms u.view.hands u.seen got.0.seen read (c + 1) x got.2.step));
      works = λ _. subst (λ (w : View). AllFit got.0.seen w.hands) (sym got.2.view_is)
          (read_fits t c x u.view.hands u.seen got.0.seen (subst (λ (y : Terms). IsStep y u.view.hands u.seen got.0.seen read (c + 1) x) of got.2.step) may);
    }

pub all_read : (t : Terms) (slots id : ℕ) (me : M) → t.workers ≡ 1 → me.0.view.terms ≡ t → OneWhere IsFresh me.0.view.hands
    → Allows (Holds t) slots id me 0 (λ n. n) (λ _ w. HasReadAll me w)
all_read t slots id me is same fresh s h _ at small =
    let k = h.one is in
    let only = only_view s.views id k.0 me.0 k.1 at in
    let v = me.0 in
    let kept : Kept t (own_state s.homes v) = subst (λ (u : Known). Kept t (own_state s.homes u)) only.1 k.2 in
    let r = read_so_far t s.homes v kept same fresh (cell_count t) (omega arith) in
    let views : set s.views id r.known ≡ r.known ∷ [] = (λ j. set (k.1 j) (only.0 j) r.known) in
    let law = loads_law t s.homes v kept in
    let whole : take (cell_count t) v.seen.loads ≡ v.seen.loads = take_all (cell_count t) v.seen.loads (let l = law.cells in omega arith) in (
      r.known,
      keeps,
      tt,
      record { one = λ _. (r.known, views, r.kept); several = λ more. absurd (omega arith) },
      record {
        view_is = r.view_is ∙ ap (λ (rs : List ℕ). with_work (reads_all rs) v.view) whole;
        rest_is = refl;
        small = λ i d inside. (let w = law.within i (let l = law.cells in omega arith) in subst (λ (x : ℕ). x ≤ MAX_LENGTH) (get_or_default v.seen.loads i 0 d inside) w);
        words = r.words;
        since = subst (λ (x : Terms). Leads x v.seen r.known.seen) (sym same) r.since;
        works = r.works;
      },
    )

-- all adds along a path, one after the other

record AddedSoFar (t : Terms) (homes : List (Option (Unit {0}))) (v : Known) (k : ℕ) (path : List ℕ) (i : ℕ) : Type 0 where
  known : Known
  kept : Kept t (own_state homes known)
  view_is : HasAddedAll (adds_along k (take i path)) v.view known.view
  words : AreMoreAlong (amount_of t k) (take i path) (words_of v.seen) (words_of known.seen)
  since : Leads t v.seen known.seen
  works : KeepsWorks v.seen v.view.hands known.seen known.view.hands

added_so_far : (t : Terms) (homes : List (Option (Unit {0}))) (v : Known) (k : ℕ) (path : List ℕ) → Kept t (own_state homes v) → v.view.terms ≡ t → OneWhere (IsReadyFor t k) v.view.hands
    → All (λ c. c < cell_count t) path → AreDifferent path → (i : ℕ) → i ≤ length path → AddedSoFar t homes v k path i
added_so_far t homes v k path kept same ready inside different zero few = record { known = v; kept = kept; view_is = adds_none v.view; words = more_none (amount_of t k) (words_of v.seen); since = ([], tt, refl); works = λ fit. fit }
added_so_far t homes v k path kept same ready inside different (suc i) few =
    let r = added_so_far t homes v k path kept same ready inside different i (omega arith) in
    let u = r.known in
    let l : i < length path = omega arith in
    let c = get_or path i 0 in
    let a = amount_of t k in
    let of : u.view.terms ≡ t = ap (λ (x : View). x.terms) r.view_is.2 ∙ same in
    let may : MayAdd t k c u.view.hands = may_add t k c (take i path) v.view u.view ready r.view_is (inside i 0 l) (fresh-at path i l different) in
    let got = adds_of t 0 k c a (u, []) (own_state homes u) r.kept refl of u.view.hands refl may refl in
    let x : ℕ = get_or (words_of u.seen) (c + 1) 0 in
    let s : HasAdded k c (u, []) x (got.0, []) = got.2 in
    let long : length (words_of v.seen) ≡ cell_count t + 1 = (let law = loads_law t homes v kept in let n = law.cells in omega arith) in
    let next = more_next a path i (words_of v.seen) (words_of u.seen) l different (let n = inside i 0 l in omega arith) r.words in
    record {
      known = got.0;
      kept = subst (λ (ws : List ℕ). Kept t record { words = ws; homes = homes; views = got.0 ∷ [] }) {y = words_of got.0.seen} (sym got.3) got.1;
      view_is = subst (λ (n : ℕ). HasAddedAll (adds_along k (take n path)) v.view got.0.view) (add-one i)
          (subst (λ (ps : List (ℕ × ℕ)). HasAddedAll ps v.view got.0.view) (sym (along-more k path i l)) (adds_one k c x (adds_along k (take i path)) v.view u.view got.0.view r.view_is s.view_is));
      words = subst (λ (n : ℕ). AreMoreAlong a (take n path) (words_of v.seen) (words_of got.0.seen)) (add-one i)
          (subst (AreMoreAlong a (take (i + 1) path) (words_of v.seen)) (sym got.3) next);
      since = leads-on t v.seen u.seen got.0.seen r.since (subst (λ (x : Terms). Leads x u.seen got.0.seen) of (step_leads u.view.terms u.view.hands u.seen got.0.seen (λ n. add n k c) (c + 1) x s.step));
      works = λ _. subst (λ (w : View). AllFit got.0.seen w.hands) (sym s.view_is)
          (add_fits t k c x u.view.hands u.seen got.0.seen (subst (λ (y : Terms). IsStep y u.view.hands u.seen got.0.seen (λ n. add n k c) (c + 1) x) of s.step) may);
    }

pub all_added : (t : Terms) (slots id k : ℕ) (path : List ℕ) (me : M) → t.workers ≡ 1 → me.0.view.terms ≡ t → OneWhere (IsReadyFor t k) me.0.view.hands
    → All (λ c. c < cell_count t) path → AreDifferent path → Allows (Holds t) slots id me 0 (λ n. n) (λ _ w. HasAddedAlong k path me w)
all_added t slots id k path me is same ready inside different s h _ at small =
    let one = h.one is in
    let only = only_view s.views id one.0 me.0 one.1 at in
    let v = me.0 in
    let kept : Kept t (own_state s.homes v) = subst (λ (u : Known). Kept t (own_state s.homes u)) only.1 one.2 in
    let r = added_so_far t s.homes v k path kept same ready inside different (length path) (omega arith) in
    let views : set s.views id r.known ≡ r.known ∷ [] = (λ j. set (one.1 j) (only.0 j) r.known) in
    let whole : take (length path) path ≡ path = take_all (length path) path (omega arith) in (
      r.known,
      keeps,
      tt,
      record { one = λ _. (r.known, views, r.kept); several = λ more. absurd (omega arith) },
      record {
        view_is = subst (λ (cs : List ℕ). HasAddedAll (adds_along k cs) v.view r.known.view) whole r.view_is;
        rest_is = refl;
        since = subst (λ (x : Terms). Leads x v.seen r.known.seen) (sym same) r.since;
        works = r.works;
        words = subst (λ (z : Terms × List ℕ). AreMoreAlong (amount_of z.0 k) z.1 (words_of v.seen) (words_of r.known.seen)) (λ i. (sym same i, whole i)) r.words;
      },
    )

-- what a call makes of such a step

pub one_inside : (l : LoadsView) (p : PassView) (table : TableId) (v : Known) → record { table = table; view = v.view; seen = v.seen } ≡ p → IsPassOf l p → l.terms.workers ≡ 1 → v.view.terms.workers ≡ 1
one_inside l p table v is of one = ap (λ (q : PassView). q.view.terms.workers) is ∙ (ap (λ (t : Terms). t.workers) of.1 ∙ one)

pub outside : (l : LoadsView) (p : PassView) (table : TableId) (v : Known) (now : core.State) (event : ℕ → Event) (word x : ℕ) → record { table = table; view = v.view; seen = v.seen } ≡ p → IsPassOf l p
    → IsStep v.view.terms v.view.hands v.seen now event word x → IsStep l.terms p.view.hands p.seen now event word x
outside l p table v now event word x is of s =
    let here : IsStep p.view.terms p.view.hands p.seen now event word x = subst (λ (q : PassView). IsStep q.view.terms q.view.hands q.seen now event word x) is s in
    subst (λ (t : Terms). IsStep t p.view.hands p.seen now event word x) of.1 here

pub word_at : (v : Known) (own : List ℕ) (i x : ℕ) → AreWordsOf v own → i < length own → x ≡ get_or own i x → x ≡ get_or (words_of v.seen) i 0
word_at v own i x are inside is = is ∙ (get_or_default own i x 0 inside ∙ ap (λ (ws : List ℕ). get_or ws i 0) are.words)

pub own_after : (v w : M) (own : List ℕ) (i y : ℕ) → AreWordsOf v.0 own → (words_of w.0.seen ≡ set (words_of v.0.seen) i y) → w.0.view.terms ≡ v.0.view.terms → w.0.view.left ≡ v.0.view.left → AreWordsOf w.0 (set own i y)
own_after v w own i y are is terms left = record {
  words = ap (λ (ws : List ℕ). set ws i y) are.words ∙ sym is;
  count = length-set own i y ∙ (are.count ∙ ap (λ (t : Terms). cell_count t + 1) (sym terms));
  none_left = left ∙ are.none_left;
}

-- a read leaves the words as they were
pub own_same : (v w : M) (own : List ℕ) (i : ℕ) → AreWordsOf v.0 own → (words_of w.0.seen ≡ set (words_of v.0.seen) i (get_or (words_of v.0.seen) i 0)) → w.0.view.terms ≡ v.0.view.terms → w.0.view.left ≡ v.0.view.left → AreWordsOf w.0 own
own_same v w own i are is terms left = record {
  words = are.words ∙ sym (is ∙ set-get_or (words_of v.0.seen) i 0);
  count = are.count ∙ ap (λ (t : Terms). cell_count t + 1) (sym terms);
  none_left = left ∙ are.none_left;
}

pub own_count : (l : LoadsView) (p : PassView) (table : TableId) (v : Known) (own : List ℕ) → record { table = table; view = v.view; seen = v.seen } ≡ p → IsPassOf l p → AreWordsOf v own → length own ≡ cell_count l.terms + 1
own_count l p table v own is of are = are.count ∙ ap (λ (t : Terms). cell_count t + 1) (ap (λ (q : PassView). q.view.terms) is ∙ of.1)
