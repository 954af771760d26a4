-- Layers that are appended, one more at a time.
use Rattle.std.proofs.Common.{◌≡◌, ℕ, zero, suc, ◌+◌, ◌<◌, ◌≤◌, Bool, true, false, nat_lt, cond, List, [], ◌∷◌, ◌++◌, length, get_or, map, Option, refl, sym, ap, subst, ◌∙◌, arith, lt-ltb, le-ltb, append_assoc, append-nil}
use Rattle.std.specs.Prelude.{All, flat_map}
use Rattle.std.specs.List.{filter, range_with_len}
use Rattle.std.proofs.lemmas.List.{map-append, length-map, get_or-map, flat_map_more}
use Rattle.std.proofs.lemmas.List.Elements.{All-nil, All-push, All-append}
use Rattle.std.proofs.lemmas.List.FromFn.{length-range_with_len, get_or-range_with_len}
use Rattle.mcf_limits.specs.declared.TheConstants.{MAX_HOPS}
use Rattle.flow_model.specs.Network.{Network}
use Rattle.hop_paths.specs.Allowed.{has_layer}
use Rattle.hop_check.specs.LayerRows.{Layer}
use Rattle.hop_check.specs.Tables.{AreCounts}
use Rattle.hop_solve.specs.Run.{IsLayerWith}
use Rattle.hop_solve.specs.Numbers.{AddsLayers, first_layers, asked_of}

pub range-more : (a n : ℕ) → range_with_len a (suc n) ≡ range_with_len a n ++ (a + n) ∷ []
range-more a zero = let e : a + 0 ≡ a = omega arith in rw e refl
range-more a (suc n) =
    let e : a + 1 + n ≡ a + suc n = omega arith in
    ap (λ (xs : List ℕ). a ∷ xs) (range-more (a + 1) n ∙ ap (λ (x : ℕ). range_with_len (a + 1) n ++ x ∷ []) e)

range-next : (n : ℕ) → range_with_len 0 (n + 1) ≡ range_with_len 0 n ++ n ∷ []
range-next n =
    let e : n + 1 ≡ suc n = omega arith in
    let z : 0 + n ≡ n = omega arith in
    ap (range_with_len 0) e ∙ range-more 0 n ∙ ap (λ (x : ℕ). range_with_len 0 n ++ x ∷ []) z

first-more : (node i : ℕ) → first_layers node (i + 1) ≡ first_layers node i ++ (node, i) ∷ []
first-more node i = ap (map (λ j. (node, j))) (range-next i) ∙ map-append (λ j. (node, j)) (range_with_len 0 i) (i ∷ [])

-- no row yet
pub adds-none : (nodes node : ℕ) (Q : ℕ → ℕ → ℕ → ℕ → Type 0) (rows : List Layer) → AddsLayers nodes Q (first_layers node 0) rows rows
adds-none nodes node Q rows = record { rows = []; appended = sym (append-nil rows); places_are = refl; each = All-nil (IsLayerWith nodes Q) }

-- one row more
pub adds-more : (nodes node i : ℕ) (Q : ℕ → ℕ → ℕ → ℕ → Type 0) (old now new : List Layer) (row : Layer) → AddsLayers nodes Q (first_layers node i) old now → new ≡ now ++ row ∷ [] → row.node ≡ node → row.index ≡ i → IsLayerWith nodes Q row
    → AddsLayers nodes Q (first_layers node (i + 1)) old new
adds-more nodes node i Q old now new row a is at index with = record {
  rows = a.rows ++ row ∷ [];
  appended = is ∙ ap (λ (rows : List Layer). rows ++ row ∷ []) a.appended ∙ append_assoc old a.rows (row ∷ []);
  places_are = map-append (λ (r : Layer). (r.node, r.index)) a.rows (row ∷ []) ∙ ap (λ (ps : List (ℕ × ℕ)). ps ++ (row.node, row.index) ∷ []) a.places_are
      ∙ ap (λ (v : ℕ). first_layers node i ++ (v, row.index) ∷ []) at ∙ ap (λ (j : ℕ). first_layers node i ++ (node, j) ∷ []) index ∙ sym (first-more node i);
  each = All-push (IsLayerWith nodes Q) a.rows row a.each with;
}

-- rows by another fact, that follows for each of them
pub adds-as : (nodes node count : ℕ) (Q R : ℕ → ℕ → ℕ → ℕ → Type 0) (old new : List Layer) → ((i w n : ℕ) → i < count → w < nodes → Q node i w n → R node i w n) → AddsLayers nodes Q (first_layers node count) old new → AddsLayers nodes R (first_layers node count) old new
adds-as nodes node count Q R old new go a = record {
  rows = a.rows;
  appended = a.appended;
  places_are = a.places_are;
  each = λ k d l.
      let many : length a.rows ≡ count = sym (length-map a.rows (λ (r : Layer). (r.node, r.index))) ∙ ap (λ (ps : List (ℕ × ℕ)). length ps) a.places_are ∙ length-map (range_with_len 0 count) (λ j. (node, j)) ∙ length-range_with_len 0 count in
      let inside : k < count = omega (arith, many, l) in
      let row = get_or a.rows k d in
      let z : 0 + k ≡ k = omega arith in
      let place : (row.node, row.index) ≡ (node, k)
      = sym (get_or-map (λ (r : Layer). (r.node, r.index)) a.rows k d (0, 0) l) ∙ ap (λ (ps : List (ℕ × ℕ)). get_or ps k (0, 0)) a.places_are
      ∙ get_or-map (λ j. (node, j)) (range_with_len 0 count) k 0 (0, 0) (omega (arith, length-range_with_len 0 count)) ∙ ap (λ (j : ℕ). (node, j)) (get_or-range_with_len 0 count k 0 inside ∙ z) in
      let at : row.node ≡ node = ap (λ (p : ℕ × ℕ). p.0) place in
      let index : row.index ≡ k = ap (λ (p : ℕ × ℕ). p.1) place in
      let with = a.each k d l in
      record {
        count = with.count;
        each = λ w lw.
            let n = get_or row.values w 0 in
            let q : Q node k w n = subst (λ (v : ℕ). Q v k w n) at (subst (λ (j : ℕ). Q row.node j w n) index (with.each w lw)) in
            subst (λ (j : ℕ). R row.node j w n) (sym index) (subst (λ (v : ℕ). R v k w n) (sym at) (go k w n inside lw q));
      };
}

filter-none : (p : ℕ → Bool) (a m : ℕ) → ((i : ℕ) → a ≤ i → p i ≡ false) → filter p (range_with_len a m) ≡ []
filter-none p a zero h = refl
filter-none p a (suc m) h = ap (λ (b : Bool). cond b (a ∷ filter p (range_with_len (a + 1) m)) (filter p (range_with_len (a + 1) m))) (h a (omega arith)) ∙ filter-none p (a + 1) m (λ i l. h i (omega arith))

filter-front : (p : ℕ → Bool) (a m k : ℕ) → k ≤ m → ((i : ℕ) → a ≤ i → p i ≡ nat_lt i (a + k)) → filter p (range_with_len a m) ≡ range_with_len a k
filter-front p a m zero l h = filter-none p a m (λ i above. h i above ∙ le-ltb i (a + 0) (omega arith))
filter-front p a zero (suc k) l h = absurd (omega arith)
filter-front p a (suc m) (suc k) l h =
    let here : p a ≡ true = h a (omega arith) ∙ lt-ltb a (a + suc k) (omega arith) in
    let place : a + suc k ≡ a + 1 + k = omega arith in
    let rest = filter-front p (a + 1) m k (omega arith) (λ i above. h i (omega arith) ∙ ap (nat_lt i) place) in
    ap (λ (b : Bool). cond b (a ∷ filter p (range_with_len (a + 1) m)) (filter p (range_with_len (a + 1) m))) here ∙ ap (λ (xs : List ℕ). a ∷ xs) rest

-- a node is asked for its first layers
pub asked-first : (net : Network) (limits : List (Option ℕ)) (counts : List ℕ) (v : ℕ) → AreCounts net limits counts → v < net.nodes → asked_of net limits v ≡ first_layers v (get_or counts v 0)
asked-first net limits counts v are l =
    ap (map (λ i. (v, i))) (filter-front (has_layer net limits v) 0 (MAX_HOPS + 1) (get_or counts v 0) (are.small v l) (λ i above. let z : get_or counts v 0 ≡ 0 + get_or counts v 0 = omega arith in are.each v i l ∙ ap (nat_lt i) z))

-- no layer more, where none is asked for
pub adds-nothing : (net : Network) (limits : List (Option ℕ)) (counts : List ℕ) (v : ℕ) (Q : ℕ → ℕ → ℕ → ℕ → Type 0) (rows : List Layer) → AreCounts net limits counts → v < net.nodes → get_or counts v 0 ≡ 0 → AddsLayers net.nodes Q (asked_of net limits v) rows rows
adds-nothing net limits counts v Q rows are l none =
    subst (λ (ps : List (ℕ × ℕ)). AddsLayers net.nodes Q ps rows rows) (sym (asked-first net limits counts v are l ∙ ap (first_layers v) none)) (adds-none net.nodes v Q rows)

-- the layers of one node more
pub places-more : (net : Network) (limits : List (Option ℕ)) (v : ℕ) (old new : List Layer) (Q : ℕ → ℕ → ℕ → ℕ → Type 0) → AddsLayers net.nodes Q (asked_of net limits v) old new
    → map (λ (r : Layer). (r.node, r.index)) old ≡ flat_map (asked_of net limits) (range_with_len 0 v) → map (λ (r : Layer). (r.node, r.index)) new ≡ flat_map (asked_of net limits) (range_with_len 0 (v + 1))
places-more net limits v old new Q a h =
    let place : Layer → ℕ × ℕ = λ (r : Layer). (r.node, r.index) in
    ap (map place) a.appended ∙ map-append place old a.rows ∙ ap (λ (ps : List (ℕ × ℕ)). ps ++ map place a.rows) h ∙ ap (λ (ps : List (ℕ × ℕ)). flat_map (asked_of net limits) (range_with_len 0 v) ++ ps) a.places_are
    ∙ flat_map_more (asked_of net limits) [] (range_with_len 0 v) v ∙ ap (flat_map (asked_of net limits)) (sym (range-next v))

pub each-more : (nodes : ℕ) (Q : ℕ → ℕ → ℕ → ℕ → Type 0) (places : List (ℕ × ℕ)) (old new : List Layer) → AddsLayers nodes Q places old new → All (IsLayerWith nodes Q) old → All (IsLayerWith nodes Q) new
each-more nodes Q places old new a h = subst (All (IsLayerWith nodes Q)) (sym a.appended) (All-append (IsLayerWith nodes Q) old a.rows h a.each)
