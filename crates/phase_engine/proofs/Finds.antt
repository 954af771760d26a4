-- What a search finds for the members of a group.
use Rattle.std.proofs.Common.{◌≡◌, ◌≢◌, inl, inr, ℕ, zero, suc, ◌+◌, ◌<◌, ◌≤◌, Bool, true, false, nat_eq, List, [], ◌∷◌, ◌++◌, cond, length, get_or, refl, sym, ap, ◌∙◌, subst, arith, append-nil, eq-eqb, ne_eqb}
use Rattle.std.specs.Prelude.{All, map, Option, Some, None, slice_get}
use Rattle.std.specs.List.{filter, range_with_len, position_or_len}
use Rattle.std.specs.Option.{option_map_or}
use Rattle.std.specs.List.Sorted.{IsStrictlyIncreasing}
use Rattle.std.proofs.lemmas.Bool.{cases_eq, eqb-true}
use Rattle.std.proofs.lemmas.List.{get_or-map}
use Rattle.std.proofs.lemmas.List.Elements.{All-filter, filter_passes}
use Rattle.std.proofs.lemmas.List.Sums.{passes_at_first, length-filter, count_by-le-length}
use Rattle.std.proofs.lemmas.List.FromFn.{get_or-range_with_len, length-range_with_len}
use Rattle.std.proofs.lemmas.List.Kept.{IsStrictlyIncreasing-filter, AllPairs-from_increasing}
use Rattle.std.proofs.lemmas.Option.{get_or_from_slice_get}
use Rattle.flow_model.specs.declared.net.Cell.{Cell}
use Rattle.flow_model.specs.declared.net.Commodity.{Commodity}
use Rattle.flow_model.specs.Network.{Network, IsNetwork}
use Rattle.flow_model.specs.Walk.{PositiveWalk}
use Rattle.flow_model.specs.Bound.{walk_length}
use Rattle.flow_model.specs.Lengths.{lengths_of}
use Rattle.flow_model.specs.Groups.{is_source, group_count, group_in, group_sources, members_of}
use Rattle.flow_model.specs.Least.{IsLeast, IsLeastWalk, IsJoined, HasNoCut, AreDifferent}
use Rattle.dijkstra_paths.specs.Searched.{Searched, path_at, dist_at, IsPath}
use Rattle.flow_core.specs.Core.{Terms, IsComplete, entry, path_of}
use Rattle.flow_core.proofs.Whole.{in-groups}
use Rattle.load_table.specs.declared.view.View.{View}
use Rattle.load_table.specs.declared.view.Hand.{Hand}
use Rattle.load_table.specs.Views.{with_work, first_works}
use Rattle.flow_core.specs.declared.state.Entry.{Entry}
use Rattle.phase_engine.specs.Routes.{Route}
use Rattle.load_table.specs.Reading.{LastWhere, OneWhere, reads_all, put_reads}
use Rattle.load_table.specs.Adding.{adds_along}
use Rattle.phase_engine.specs.Steps.{IsClaimed, IsReadyForAll, adds_of}
use Rattle.phase_engine.specs.Found.{known_path, HasPath, to_at, routes_to, IsSearch}
use Rattle.phase_engine.specs.Work.{routes_in}

-- the members of a group

increasing-range : (a n : ℕ) → IsStrictlyIncreasing (range_with_len a n)
increasing-range a n = λ k l. let n' : length (range_with_len a n) ≡ n = length-range_with_len a n in
    rw (get_or-range_with_len a n k 0 (omega arith), get_or-range_with_len a n (k + 1) 0 (omega arith)) (omega arith)

pub members-ascend : (net : Network) (g : ℕ) → IsStrictlyIncreasing (members_of net g)
members-ascend net g = IsStrictlyIncreasing-filter (λ k. nat_eq (group_in net k) g) (range_with_len 0 (length net.commodities)) (increasing-range 0 (length net.commodities))

pub members-few : (net : Network) (g : ℕ) → length (members_of net g) ≤ length net.commodities
members-few net g =
    let test : ℕ → Bool = λ k. nat_eq (group_in net k) g in
    let r = range_with_len 0 (length net.commodities) in
    omega (arith, length-filter test r, count_by-le-length test r, length-range_with_len 0 (length net.commodities))

pub members-inside : (net : Network) (g : ℕ) → All (λ k. k < length net.commodities) (members_of net g)
members-inside net g = All-filter (λ k. nat_eq (group_in net k) g) (λ k. k < length net.commodities) (range_with_len 0 (length net.commodities))
    (λ k d less. let n : length (range_with_len 0 (length net.commodities)) ≡ length net.commodities = length-range_with_len 0 (length net.commodities) in rw (get_or-range_with_len 0 (length net.commodities) k d (omega arith)) (omega arith))

pub members-of-group : (net : Network) (g : ℕ) → All (λ k. group_in net k ≡ g) (members_of net g)
members-of-group net g = λ j d l. eqb-true (group_in net (get_or (members_of net g) j d)) g (filter_passes (λ k. nat_eq (group_in net k) g) (range_with_len 0 (length net.commodities)) j d l)

-- the place of a member
in-filter : (test : ℕ → Bool) (a n k : ℕ) → a ≤ k → k < a + n → test k ≡ true → (j : ℕ) × (j < length (filter test (range_with_len a n))) × (get_or (filter test (range_with_len a n)) j 0 ≡ k)
in-filter test a zero k low high passes = absurd (omega arith)
in-filter test a (suc n) k low high passes =
    elim (cases_eq a k) [
      | inl e ↦ here (test a) (ap test e ∙ passes) (filter test (range_with_len (a + 1) n)) e
      | inr apart ↦ let low' : a + 1 ≤ k = omega arith in later (test a) (filter test (range_with_len (a + 1) n)) (in-filter test (a + 1) n k low' (omega arith) passes)
    ]
  where
    here : (b : Bool) → b ≡ true → (rest : List ℕ) → a ≡ k → (j : ℕ) × (j < length (cond b (a ∷ rest) rest)) × (get_or (cond b (a ∷ rest) rest) j 0 ≡ k)
    here true e rest same = (0, omega arith, same)
    here false e rest same = absurd (let z : false ≡ true = e in cc)

    later : (b : Bool) (rest : List ℕ) → (j : ℕ) × (j < length rest) × (get_or rest j 0 ≡ k) → (j : ℕ) × (j < length (cond b (a ∷ rest) rest)) × (get_or (cond b (a ∷ rest) rest) j 0 ≡ k)
    later true rest h = let l = h.1 in (suc h.0, omega arith, h.2)
    later false rest h = h

pub member-place : (net : Network) (g k : ℕ) → k < length net.commodities → group_in net k ≡ g → (j : ℕ) × (j < length (members_of net g)) × (get_or (members_of net g) j 0 ≡ k)
member-place net g k l e = in-filter (λ k. nat_eq (group_in net k) g) 0 (length net.commodities) k (omega arith) (omega arith) (eq-eqb (group_in net k) g e)

-- a member starts at the group's source
pub member-from : (net : Network) (g k : ℕ) → IsNetwork net → k < length net.commodities → group_in net k ≡ g → get_or (map (λ (c : Commodity). c.from) net.commodities) k 0 ≡ get_or (group_sources net) g 0
unfolding group_in group_count
member-from net g k n l e =
    let from = get_or (map (λ (c : Commodity). c.from) net.commodities) k 0 in
    let inside : position_or_len (λ v. nat_eq v from) (group_sources net) < length (group_sources net) = in-groups net k n l in
    let found : nat_eq (get_or (group_sources net) (position_or_len (λ v. nat_eq v from) (group_sources net)) 0) from ≡ true = passes_at_first (λ v. nat_eq v from) (group_sources net) 0 inside in
    sym (ap (λ (j : ℕ). get_or (group_sources net) j 0) (sym e) ∙ eqb-true (get_or (group_sources net) (position_or_len (λ v. nat_eq v from) (group_sources net)) 0) from found)

-- the path that was found

at-inside : (cells : List Cell) (c : ℕ) (cell : Cell) → slice_get cells c ≡ Some cell → c < length cells
at-inside [] c cell e = absurd (let z : None ≡ Some cell = e in cc)
at-inside (x ∷ xs) zero cell e = omega arith
at-inside (x ∷ xs) (suc c) cell e = let r = at-inside xs c cell e in omega arith

walk-inside : (cells : List Cell) (u v : ℕ) (walk : List ℕ) → PositiveWalk cells u v walk → All (λ c. c < length cells) walk
walk-inside cells u v [] w = λ j d l. absurd (omega arith)
walk-inside cells u v (c ∷ cs) w = go (at-inside cells c w.1.0 w.1.1) (walk-inside cells w.0 v cs w.2)
  where
    go : c < length cells → All (λ c. c < length cells) cs → (j d : ℕ) → j < length (c ∷ cs) → get_or (c ∷ cs) j d < length cells
    go first rest zero d l = first
    go first rest (suc j) d l = rest j d (omega arith)

-- where there is a walk, the search has a path, and it is a least walk
pub record FoundPath (cells : List Cell) (lengths : List ℕ) (from v : ℕ) (s : Searched) : Type 0 where
  pub has : HasPath cells s v
  pub least : IsLeastWalk cells lengths from v (known_path s v)

some-path : (cells : List Cell) (lengths : List ℕ) (from v : ℕ) (s : Searched) (d : Option ℕ) (p : Option (List ℕ)) → path_at s v ≡ p → IsJoined cells from v → IsLeast cells lengths from v d → IsPath cells lengths s.nodes from v d p → FoundPath cells lengths from v s
some-path cells lengths from v s None p at joined least path = absurd (least joined.0 joined.1)
some-path cells lengths from v s (Some d) None at joined least path = absurd path
some-path cells lengths from v s (Some d) (Some walk) at joined least path =
    let known : known_path s v ≡ walk = ap (λ (o : Option (List ℕ)). option_map_or (λ p. p) o []) at in
    record {
      has = record {
        found = at ∙ ap (λ (w : List ℕ). Some w) (sym known);
        inside = subst (All (λ c. c < length cells)) (sym known) (walk-inside cells from v walk path.0);
        different = subst AreDifferent (sym known) path.2;
        short = subst (λ (w : List ℕ). length w < s.nodes) (sym known) path.3;
      };
      least = subst (IsLeastWalk cells lengths from v) (sym known) record {
        walks = path.0;
        least = λ other w. let a = least.1 other w in let b : walk_length lengths walk ≡ d = path.1 in omega arith;
      };
    }

pub found-path : (net : Network) (lengths : List ℕ) (g k : ℕ) (s : Searched) → IsNetwork net → HasNoCut net → IsSearch net.cells lengths (get_or (group_sources net) g 0) s → s.nodes ≡ net.nodes
    → k < length net.commodities → group_in net k ≡ g → FoundPath net.cells lengths (get_or (group_sources net) g 0) (to_at net k) s
found-path net lengths g k s n no_cut search nodes l e =
    let d : Commodity = record { from = 0; to = 0; amount = 0 } in
    let commodity = get_or net.commodities k d in
    let from : commodity.from ≡ get_or (group_sources net) g 0 = sym (get_or-map (λ (c : Commodity). c.from) net.commodities k d 0 l) ∙ member-from net g k n l e in
    let to : commodity.to ≡ to_at net k = sym (get_or-map (λ (c : Commodity). c.to) net.commodities k d 0 l) in
    let J : ℕ × ℕ → Type 0 = λ x. IsJoined net.cells x.0 x.1 in
    let joined : IsJoined net.cells (get_or (group_sources net) g 0) (to_at net k) = subst J (λ i. (from i, to i)) (no_cut k d l) in
    let fits = (n.commodities k d l).to in
    let inside : to_at net k < s.nodes = omega arith in
    some-path net.cells lengths (get_or (group_sources net) g 0) (to_at net k) s (dist_at s (to_at net k)) (path_at s (to_at net k)) refl joined (search.least (to_at net k) inside) (search.paths (to_at net k) inside)

pub found-all : (net : Network) (lengths : List ℕ) (g : ℕ) (s : Searched) → IsNetwork net → HasNoCut net → IsSearch net.cells lengths (get_or (group_sources net) g 0) s → s.nodes ≡ net.nodes
    → All (λ k. HasPath net.cells s (to_at net k)) (members_of net g)
found-all net lengths g s n no_cut search nodes = λ j d l.
    (found-path net lengths g (get_or (members_of net g) j d) s n no_cut search nodes (members-inside net g j d l) (members-of-group net g j d l)).has

-- what an entry has for a member

path_of-append : (k : ℕ) (xs ys : List (ℕ × ℕ)) → path_of k (xs ++ ys) ≡ path_of k xs ++ path_of k ys
path_of-append k [] ys = refl
path_of-append k (x ∷ xs) ys =
    elim (cases_eq k x.0) [
      | inl e ↦ rw (eq-eqb k x.0 e) (ap (λ (p : List ℕ). x.1 ∷ p) (path_of-append k xs ys))
      | inr n ↦ rw (ne_eqb k x.0 n) (path_of-append k xs ys)
    ]

path_of-same : (k : ℕ) (path : List ℕ) → path_of k (adds_along k path) ≡ path
path_of-same k [] = refl
path_of-same k (c ∷ cs) = rw (eq-eqb k k refl) (ap (λ (p : List ℕ). c ∷ p) (path_of-same k cs))

path_of-other : (k m : ℕ) (path : List ℕ) → k ≢ m → path_of k (adds_along m path) ≡ []
path_of-other k m [] n = refl
path_of-other k m (c ∷ cs) n = rw (ne_eqb k m n) (path_of-other k m cs n)

path_of-none : (net : Network) (s : Searched) (k : ℕ) (ms : List ℕ) → ((j : ℕ) → j < length ms → k ≢ get_or ms j 0) → path_of k (adds_of (routes_to net s ms)) ≡ []
path_of-none net s k [] h = refl
path_of-none net s k (m ∷ ms) h =
    path_of-append k (adds_along m (known_path s (to_at net m))) (adds_of (routes_to net s ms))
    ∙ (ap (λ (p : List ℕ). p ++ path_of k (adds_of (routes_to net s ms))) (path_of-other k m (known_path s (to_at net m)) (h 0 (omega arith)))
    ∙ path_of-none net s k ms (λ j l. h (suc j) (omega arith)))

pub path_of-route : (net : Network) (s : Searched) (ms : List ℕ) (i : ℕ) → IsStrictlyIncreasing ms → i < length ms → path_of (get_or ms i 0) (adds_of (routes_to net s ms)) ≡ known_path s (to_at net (get_or ms i 0))
path_of-route net s [] i up l = absurd (omega arith)
path_of-route net s (m ∷ ms) zero up l =
    let pairs = AllPairs-from_increasing (m ∷ ms) up in
    path_of-append m (adds_along m (known_path s (to_at net m))) (adds_of (routes_to net s ms))
    ∙ (ap (λ (p : List ℕ). p ++ path_of m (adds_of (routes_to net s ms))) (path_of-same m (known_path s (to_at net m)))
    ∙ (ap (λ (p : List ℕ). known_path s (to_at net m) ++ p) (path_of-none net s m ms (λ j inside e. let less : m < get_or ms j 0 = pairs 0 (suc j) 0 (omega arith) (omega arith) in omega arith))
    ∙ append-nil (known_path s (to_at net m))))
path_of-route net s (m ∷ ms) (suc i) up l =
    let pairs = AllPairs-from_increasing (m ∷ ms) up in
    let less : m < get_or ms i 0 = pairs 0 (suc i) 0 (omega arith) (omega arith) in
    path_of-append (get_or ms i 0) (adds_along m (known_path s (to_at net m))) (adds_of (routes_to net s ms))
    ∙ (ap (λ (p : List ℕ). p ++ path_of (get_or ms i 0) (adds_of (routes_to net s ms))) (path_of-other (get_or ms i 0) m (known_path s (to_at net m)) (λ e. omega arith))
    ∙ path_of-route net s ms i (λ k inside. let e : suc k + 1 ≡ suc (k + 1) = omega arith in subst (λ (n : ℕ). get_or ms k 0 < get_or (m ∷ ms) n 0) e (up (suc k) (omega arith))) (omega arith))

map-same : (f h : ℕ → Route) (xs : List ℕ) → ((i : ℕ) → i < length xs → f (get_or xs i 0) ≡ h (get_or xs i 0)) → map f xs ≡ map h xs
map-same f h [] e = refl
map-same f h (x ∷ xs) e = λ j. e 0 (omega arith) j ∷ map-same f h xs (λ i l. e (suc i) (omega arith)) j

pub routes-are : (net : Network) (g : ℕ) (s : Searched) (reads : List ℕ) → routes_to net s (members_of net g) ≡ routes_in net (entry g reads (adds_of (routes_to net s (members_of net g))))
routes-are net g s reads =
    let ms = members_of net g in
    map-same (λ k. record { commodity = k; path = known_path s (to_at net k) }) (λ k. record { commodity = k; path = path_of k (adds_of (routes_to net s ms)) }) ms
    (λ i l. ap (λ (p : List ℕ). record { commodity = get_or ms i 0; path = p }) (sym (path_of-route net s ms i (members-ascend net g) l)))

pub complete-entry : (t : Terms) (net : Network) (lengths : List ℕ) (g : ℕ) (s : Searched) (reads : List ℕ) → t.net ≡ net → IsNetwork net → HasNoCut net → IsSearch net.cells lengths (get_or (group_sources net) g 0) s → s.nodes ≡ net.nodes
    → length reads ≡ length net.cells → lengths ≡ lengths_of net t.setting reads → IsComplete t (entry g reads (adds_of (routes_to net s (members_of net g))))
complete-entry t net lengths g s reads same n no_cut search nodes all under =
    let adds = adds_of (routes_to net s (members_of net g)) in
    let t' : Terms = record { net = net; setting = t.setting; base = t.base; workers = t.workers } in
    let T : Network → Type 0 = λ m. IsComplete (record { net = m; setting = t.setting; base = t.base; workers = t.workers }) (entry g reads adds) in
    subst T (sym same) record {
      all_read = all;
      members = λ k commodity at is.
          let d : Commodity = record { from = 0; to = 0; amount = 0 } in
          let l = commodity-inside net.commodities k commodity at in
          let here : get_or net.commodities k d ≡ commodity = get_or_from_slice_get net.commodities k commodity d at in
          let place = member-place net g k l is in
          let path : path_of k adds ≡ known_path s (to_at net k) =
          subst (λ (j : ℕ). path_of j adds ≡ known_path s (to_at net j)) place.2 (path_of-route net s (members_of net g) place.0 (members-ascend net g) place.1) in
          let found = found-path net lengths g k s n no_cut search nodes l is in
          let from : get_or (group_sources net) g 0 ≡ commodity.from = sym (member-from net g k n l is) ∙ (get_or-map (λ (c : Commodity). c.from) net.commodities k d 0 l ∙ ap (λ (c : Commodity). c.from) here) in
          let to : to_at net k ≡ commodity.to = get_or-map (λ (c : Commodity). c.to) net.commodities k d 0 l ∙ ap (λ (c : Commodity). c.to) here in
          let W : ℕ × ℕ × List ℕ × List ℕ → Type 0 = λ x. IsLeastWalk net.cells x.2 x.0 x.1 x.3 in
          record {
            least = subst W (λ i. (from i, to i, under i, sym path i)) found.least;
            different = subst AreDifferent (sym path) found.has.different;
          };
    }
  where
    commodity-inside : (xs : List Commodity) (k : ℕ) (c : Commodity) → slice_get xs k ≡ Some c → k < length xs
    commodity-inside [] k c e = absurd (let z : None ≡ Some c = e in cc)
    commodity-inside (x ∷ xs) zero c e = omega arith
    commodity-inside (x ∷ xs) (suc k) c e = let r = commodity-inside xs k c e in omega arith

pub ready-all : (t : Terms) (net : Network) (g : ℕ) (reads : List ℕ) (v w : View) → t.net ≡ net → OneWhere (IsClaimed g) v.hands → w ≡ with_work (reads_all reads) v → length reads ≡ length net.cells → OneWhere (IsReadyForAll t (members_of net g)) w.hands
ready-all t net g reads v w same one is all = subst (λ (x : View). OneWhere (IsReadyForAll t (members_of net g)) x.hands) (sym is) (hands v.hands one)
  where
    log : (es : List Entry) → LastWhere (IsClaimed g) es → LastWhere (IsReadyForAll t (members_of net g)) (put_reads reads es)
    log [] h = absurd h
    log (e ∷ es) h = (
      all ∙ ap (λ (m : Network). length m.cells) (sym same),
      ap (λ (e : Entry). e.adds) h,
      λ j d l. (
        subst (λ (m : Network). get_or (members_of net g) j d < length m.commodities) (sym same) (members-inside net g j d l),
        ap (λ (m : Network). group_in m (get_or (members_of net g) j d)) same ∙ (members-of-group net g j d l ∙ sym (ap (λ (e : Entry). e.ticket) h)),
      ),
    )

    hands : (hs : List Hand) → OneWhere (IsClaimed g) hs → OneWhere (IsReadyForAll t (members_of net g)) (first_works (reads_all reads) hs)
    hands [] h = absurd h
    hands (x ∷ []) h = log x.work.log h
    hands (x ∷ y ∷ xs) h = absurd h

pub claimed-fresh : (g : ℕ) (hs : List Hand) → OneWhere (IsClaimed g) hs → OneWhere (λ e. (e.reads ≡ []) × (e.adds ≡ [])) hs
claimed-fresh g [] h = absurd h
claimed-fresh g (x ∷ []) h = log x.work.log h
  where
    log : (es : List Entry) → LastWhere (IsClaimed g) es → LastWhere (λ e. (e.reads ≡ []) × (e.adds ≡ [])) es
    log [] h = absurd h
    log (e ∷ es) h = (ap (λ (e : Entry). e.reads) h, ap (λ (e : Entry). e.adds) h)
claimed-fresh g (x ∷ y ∷ xs) h = absurd h

pub source-inside : (net : Network) (g : ℕ) → g < group_count net → get_or (group_sources net) g 0 < net.nodes
unfolding group_count
source-inside net g l =
    let each : All (λ v. v < net.nodes) (group_sources net) = All-filter (is_source net.commodities) (λ v. v < net.nodes) (range_with_len 0 net.nodes)
    (λ k d less. let n : length (range_with_len 0 net.nodes) ≡ net.nodes = length-range_with_len 0 net.nodes in rw (get_or-range_with_len 0 net.nodes k d (omega arith)) (omega arith)) in
    each g 0 l

pub search-is : (net graph groups : Network) (lengths : List ℕ) (from g : ℕ) (s : Searched) → graph ≡ net → groups ≡ net → from ≡ get_or (group_sources groups) g 0
    → ((v : ℕ) → v < s.nodes → IsLeast graph.cells lengths from v (dist_at s v)) → ((v : ℕ) → v < s.nodes → IsPath graph.cells lengths s.nodes from v (dist_at s v) (path_at s v))
    → IsSearch net.cells lengths (get_or (group_sources net) g 0) s
search-is net graph groups lengths from g s same same' at least paths =
    let from' : from ≡ get_or (group_sources net) g 0 = at ∙ ap (λ (m : Network). get_or (group_sources m) g 0) same' in
    let S : Network × ℕ → Type 0 = λ x. IsSearch x.0.cells lengths x.1 s in
    subst S (λ i. (same i, from' i)) (record { least = least; paths = paths })
