-- The dual of a cut, made row by row.
use Rattle.std.proofs.Common.{◌≡◌, ℕ, zero, suc, ◌+◌, ◌<◌, ◌≤◌, Bool, false, cond, ltb, List, [], ◌∷◌, ◌++◌, length, get_or, map, take, refl, sym, ap, subst, ◌∙◌, arith, add-one}
use Rattle.std.specs.Prelude.{◌&&◌, ◌||◌, not, All}
use Rattle.std.specs.List.{range_with_len}
use Rattle.std.proofs.lemmas.List.{get_or-map, get_or_default, length-map, map_more, take_all, take_more}
use Rattle.std.proofs.lemmas.List.Elements.{All-filter, All-head, All-push, All-tail}
use Rattle.std.proofs.lemmas.List.FromFn.{get_or-map-range_with_len, get_or-range_with_len, length-range_with_len, map-range_with_len_more}
use Rattle.flow_model.specs.declared.net.Cell.{Cell}
use Rattle.flow_model.specs.Network.{Network, IsCell, IsNetwork}
use Rattle.flow_model.specs.Groups.{is_source, group_count, group_sources}
use Rattle.flow_paths.specs.DualRows.{Length, Potential, DualRows, length_at, potential_at, no_length, no_potential}
use Rattle.cut_bound.specs.Cuts.{Side, leaves, length_rows, side_lengths, side_potential, side_row, cut_dual}
use Rattle.cut_bound.specs.Search.{marked, potential_by}

pub mk : List Length → List Potential → DualRows
mk a b = record { lengths = a; potentials = b }

pot : ℕ → List ℕ → Potential
pot n vs = record { node = n; values = vs }

one : ℕ → ℕ → Length
one c x = record { cell = c; value = x }

-- ---- two sides that differ at no node

map-same : {X Y : Type 0} (f g : X → Y) (xs : List X) → All (λ x. f x ≡ g x) xs → map f xs ≡ map g xs
map-same f g [] h = refl
map-same f g (x ∷ xs) h =
    let here : f x ≡ g x = All-head (λ y. f y ≡ g y) x xs h in
    let rest : map f xs ≡ map g xs = map-same f g xs (All-tail (λ y. f y ≡ g y) x xs h) in
    ap (λ y. y ∷ map f xs) here ∙ ap (λ ys. g x ∷ ys) rest

leaves-same : (side other : Side) (nodes : ℕ) (cell : Cell) → ((v : ℕ) → v < nodes → side v ≡ other v) → IsCell nodes cell → leaves side cell ≡ leaves other cell
leaves-same side other nodes cell same fits =
    ap (λ (x : Bool). (x && not (side cell.head)) || (cell.both && (side cell.head && not x))) (same cell.tail fits.tail)
    ∙ ap (λ (y : Bool). (other cell.tail && not y) || (cell.both && (y && not (other cell.tail)))) (same cell.head fits.head)

pub range-below : (n : ℕ) → All (λ v. v < n) (range_with_len 0 n)
range-below n = λ i d l. let is = get_or-range_with_len 0 n i d (omega (arith, length-range_with_len 0 n)) in omega (arith, length-range_with_len 0 n)

row-same : (net : Network) (both : Bool) (side other : Side) (source : ℕ) → ((v : ℕ) → v < net.nodes → side v ≡ other v) → source < net.nodes → side_row net both side source ≡ side_row net both other source
unfolding pot
row-same net both side other source same l =
    ap (pot source) (map-same (side_potential both side source) (side_potential both other source) (range_with_len 0 net.nodes) (λ i d m.
    let inside = range-below net.nodes i d m in
    let v = get_or (range_with_len 0 net.nodes) i d in
    ap (λ (x : Bool). cond {A = ℕ} x (cond (side v) 0 1) (cond (both && side v) 1 0)) (same source l)
    ∙ ap (λ (y : Bool). cond {A = ℕ} (other source) (cond y 0 1) (cond (both && y) 1 0)) (same v inside)))

pub dual-same : (net : Network) (both : Bool) (side other : Side) → IsNetwork net → ((v : ℕ) → v < net.nodes → side v ≡ other v) → cut_dual net both side ≡ cut_dual net both other
unfolding mk
dual-same net both side other n same =
    let lengths : side_lengths net side ≡ side_lengths net other
    = map-same (λ (c : Cell). cond {A = ℕ} (leaves side c) 1 0) (λ (c : Cell). cond {A = ℕ} (leaves other c) 1 0) net.cells (λ i d l. ap (λ (b : Bool). cond {A = ℕ} b 1 0) (leaves-same side other net.nodes (get_or net.cells i d) same (n.cells i d l))) in
    let rows : map (side_row net both side) (group_sources net) ≡ map (side_row net both other) (group_sources net)
    = map-same (side_row net both side) (side_row net both other) (group_sources net) (λ i d l. row-same net both side other (get_or (group_sources net) i d) same
    (All-filter (is_source net.commodities) (λ v. v < net.nodes) (range_with_len 0 net.nodes) (range-below net.nodes) i d l)) in
    ap (λ (ls : List ℕ). mk (length_rows 0 ls) (map (side_row net both side) (group_sources net))) lengths ∙ ap (mk (length_rows 0 (side_lengths net other))) rows

-- ---- lengths

length_rows-more : (a i : ℕ) (xs : List ℕ) → i < length xs → length_rows a (take (suc i) xs) ≡ length_rows a (take i xs) ++ record { cell = a + i; value = get_or xs i 0 } ∷ []
length_rows-more a i [] l = absurd (omega arith)
length_rows-more a zero (x ∷ xs) l = let e : a + 0 ≡ a = omega arith in rw e refl
length_rows-more a (suc i) (x ∷ xs) l =
    let e : a + 1 + i ≡ a + suc i = omega arith in
    ap (λ (rows : List Length). record { cell = a; value = x } ∷ rows)
    (length_rows-more (a + 1) i xs (omega arith) ∙ ap (λ (n : ℕ). length_rows (a + 1) (take i xs) ++ record { cell = n; value = get_or xs i 0 } ∷ []) e)

-- one more length
pub lengths-more : (xs : List ℕ) (i x : ℕ) (dual new : DualRows) → i < length xs → x ≡ get_or xs i 0 → dual ≡ record { lengths = length_rows 0 (take i xs); potentials = [] }
    → new ≡ record { lengths = dual.lengths ++ record { cell = i; value = x } ∷ []; potentials = dual.potentials } → new ≡ record { lengths = length_rows 0 (take (i + 1) xs); potentials = [] }
unfolding mk
lengths-more xs i x dual new l is e n =
    let zeroth : 0 + i ≡ i = omega arith in
    let more : length_rows 0 (take (i + 1) xs) ≡ length_rows 0 (take i xs) ++ record { cell = i; value = x } ∷ []
    = rw add-one (length_rows-more 0 i xs l ∙ ap (λ (c : ℕ). length_rows 0 (take i xs) ++ record { cell = c; value = get_or xs i 0 } ∷ []) zeroth ∙ ap (λ (y : ℕ). length_rows 0 (take i xs) ++ record { cell = i; value = y } ∷ []) (sym is)) in
    n ∙ (ap (λ (d : DualRows). mk (d.lengths ++ record { cell = i; value = x } ∷ []) d.potentials) e ∙ ap (λ (rows : List Length). mk rows []) (sym more))

-- the length of a cell
pub side-length : (net : Network) (side : Side) (cells : List Cell) (i : ℕ) (d : Cell) → cells ≡ net.cells → i < length cells → get_or (side_lengths net side) i 0 ≡ cond {A = ℕ} (leaves side (get_or cells i d)) 1 0
side-length net side cells i d e l =
    let inside : i < length net.cells = omega (arith, ap length e) in
    get_or-map (λ (c : Cell). cond {A = ℕ} (leaves side c) 1 0) net.cells i d 0 inside ∙ ap (λ (cs : List Cell). cond {A = ℕ} (leaves side (get_or cs i d)) 1 0) (sym e)

pub sides-long : (net : Network) (side : Side) (cells : List Cell) (i : ℕ) → cells ≡ net.cells → i < length cells → i < length (side_lengths net side)
sides-long net side cells i e l = omega (arith, ap length e, length-map net.cells (λ (c : Cell). cond {A = ℕ} (leaves side c) 1 0))

-- ---- rows

-- one row more
pub rows-more : (net : Network) (both : Bool) (side : Side) (lengths : List Length) (g source : ℕ) (values : List ℕ) (dual new : DualRows) → g < length (group_sources net) → source ≡ get_or (group_sources net) g 0
    → values ≡ (side_row net both side source).values → dual ≡ record { lengths = lengths; potentials = map (side_row net both side) (take g (group_sources net)) }
    → new ≡ record { lengths = dual.lengths; potentials = dual.potentials ++ record { node = source; values = values } ∷ [] }
    → new ≡ record { lengths = lengths; potentials = map (side_row net both side) (take (g + 1) (group_sources net)) }
unfolding mk pot
rows-more net both side lengths g source values dual new l is are e n =
    let row : pot source values ≡ side_row net both side (get_or (group_sources net) g 0)
    = ap (pot source) are ∙ ap (λ (s : ℕ). side_row net both side s) is in
    let more = map_more (side_row net both side) (group_sources net) g 0 l in
    n ∙ (ap (λ (d : DualRows). mk d.lengths (d.potentials ++ pot source values ∷ [])) e
    ∙ (ap (λ (r : Potential). mk lengths (map (side_row net both side) (take g (group_sources net)) ++ r ∷ [])) row
    ∙ ap (mk lengths) (sym more)))

-- all rows
pub rows-all : (net : Network) (both : Bool) (side : Side) (g : ℕ) (dual : DualRows) → length (group_sources net) ≤ g
    → dual ≡ record { lengths = length_rows 0 (side_lengths net side); potentials = map (side_row net both side) (take g (group_sources net)) } → dual ≡ cut_dual net both side
unfolding mk
rows-all net both side g dual l e = e ∙ ap (λ (xs : List ℕ). mk (length_rows 0 (side_lengths net side)) (map (side_row net both side) xs)) (take_all g (group_sources net) l)

pub count-is : (net : Network) → group_count net ≡ length (group_sources net)
unfolding group_count
count-is net = refl

-- ---- marks

pub marked-range : (f : ℕ → Bool) (n v : ℕ) → v < n → marked (map f (range_with_len 0 n)) v ≡ f v
marked-range f n v l = get_or-map-range_with_len f 0 n v v false l (omega arith)

pub marked-values : (values : List ℕ) (level v : ℕ) → v < length values → marked (map (λ x. ltb x level) values) v ≡ ltb (get_or values v 0) level
marked-values values level v l = get_or-map (λ x. ltb x level) values v 0 false l

-- one potential more
pub values-more : (both : Bool) (marks : List Bool) (source i x : ℕ) (d e : Bool) (values new : List ℕ) → source < length marks → i < length marks
    → x ≡ potential_by both (get_or marks source d) (get_or marks i e) → values ≡ map (side_potential both (marked marks) source) (range_with_len 0 i)
    → new ≡ values ++ x ∷ [] → new ≡ map (side_potential both (marked marks) source) (range_with_len 0 (i + 1))
values-more both marks source i x d e values new l m is h n =
    let here : x ≡ side_potential both (marked marks) source i
    = is ∙ (ap (λ (b : Bool). potential_by both b (get_or marks i e)) (get_or_default marks source d false l) ∙ ap (λ (b : Bool). potential_by both (marked marks source) b) (get_or_default marks i e false m)) in
    n ∙ (ap (λ (vs : List ℕ). vs ++ x ∷ []) h ∙ (ap (λ (y : ℕ). map (side_potential both (marked marks) source) (range_with_len 0 i) ++ y ∷ []) here
    ∙ sym (map-range_with_len_more (side_potential both (marked marks) source) 0 i i (omega arith))))

pub small-more : (values new : List ℕ) (x : ℕ) → new ≡ values ++ x ∷ [] → All (λ p. p ≤ 1) values → x ≤ 1 → All (λ p. p ≤ 1) new
small-more values new x e h l = subst (λ (xs : List ℕ). All (λ p. p ≤ 1) xs) (sym e) (All-push (λ p. p ≤ 1) values x h l)

-- one mark more
pub marks-more : (f : ℕ → Bool) (v : ℕ) (b : Bool) (marks new : List Bool) → b ≡ f v → marks ≡ map f (range_with_len 0 v) → new ≡ marks ++ b ∷ [] → new ≡ map f (range_with_len 0 (v + 1))
marks-more f v b marks new is h n =
    n ∙ (ap (λ (ms : List Bool). ms ++ b ∷ []) h ∙ (ap (λ (c : Bool). map f (range_with_len 0 v) ++ c ∷ []) is ∙ sym (map-range_with_len_more f 0 v v (omega arith))))

-- a source is a node
pub source-below : (net : Network) (g : ℕ) → g < length (group_sources net) → get_or (group_sources net) g 0 < net.nodes
source-below net g l = All-filter (is_source net.commodities) (λ v. v < net.nodes) (range_with_len 0 net.nodes) (range-below net.nodes) g 0 l

-- ---- copies

pub copy-lengths-more : (from : List Length) (i c x : ℕ) (dual new : DualRows) → i < length from → c ≡ (length_at from i).cell → x ≡ (length_at from i).value
    → dual ≡ record { lengths = take i from; potentials = [] } → new ≡ record { lengths = dual.lengths ++ record { cell = c; value = x } ∷ []; potentials = dual.potentials }
    → new ≡ record { lengths = take (i + 1) from; potentials = [] }
unfolding mk one
copy-lengths-more from i c x dual new l is value e n =
    let row : one c x ≡ get_or from i no_length = ap (λ (a : ℕ). one a x) is ∙ ap (one (length_at from i).cell) value in
    n ∙ (ap (λ (d : DualRows). mk (d.lengths ++ one c x ∷ []) d.potentials) e
    ∙ (ap (λ (r : Length). mk (take i from ++ r ∷ []) []) row ∙ ap (λ (rs : List Length). mk rs []) (sym (take_more from i no_length l))))

pub copy-rows-more : (lengths : List Length) (from : List Potential) (i v : ℕ) (values : List ℕ) (dual new : DualRows) → i < length from → v ≡ (potential_at from i).node → values ≡ (potential_at from i).values
    → dual ≡ record { lengths = lengths; potentials = take i from } → new ≡ record { lengths = dual.lengths; potentials = dual.potentials ++ record { node = v; values = values } ∷ [] }
    → new ≡ record { lengths = lengths; potentials = take (i + 1) from }
unfolding mk pot
copy-rows-more lengths from i v values dual new l is are e n =
    let row : pot v values ≡ get_or from i no_potential = ap (λ (a : ℕ). pot a values) is ∙ ap (pot (potential_at from i).node) are in
    n ∙ (ap (λ (d : DualRows). mk d.lengths (d.potentials ++ pot v values ∷ [])) e
    ∙ (ap (λ (r : Potential). mk lengths (take i from ++ r ∷ [])) row ∙ ap (mk lengths) (sym (take_more from i no_potential l))))
