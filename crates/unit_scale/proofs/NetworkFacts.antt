-- The network of rows that are not refused is within the limits.
use Rattle.std.proofs.Common.{◌≡◌, ◌≢◌, ◌⊎◌, inl, inr, ℕ, ◌+◌, ◌-◌, ◌*◌, ◌/◌, ◌%◌, ◌^◌, ◌≤◌, ◌<◌, List, [], ◌∷◌, ◌++◌, map, Option, Some, None, true, false, Bool, arith, refl, ap, sym, subst, ◌∙◌, ◌==◌, ◌&&◌, ◌||◌, if◌then◌else◌, length, All, zero, suc, nat_lt, get_or}
use Rattle.std.specs.List.{list_all, filter_map, flat_map, sum_by}
use Rattle.mcf_limits.specs.declared.TheConstants.{MAX_TOTAL, MAX_UNITS, MAX_LINKS, MAX_CELLS}
use Rattle.std.proofs.lemmas.List.Sums.{sum_by-cons}
use Rattle.std.proofs.lemmas.List.Folds.{list_all-append}
use Rattle.std.proofs.lemmas.List.Elements.{All-cons, All-nil}
use Rattle.std.proofs.lemmas.List.{length-append, length-map}
use Rattle.std.proofs.Math.Nat.{mod-add-div', mul-suc}
use Rattle.std.proofs.lemmas.Bool.{cases_lt}
use Rattle.std.proofs.lemmas.Bool.Decides.{nat_tests}
use Rattle.flow_model.specs.declared.net.Cell.{Cell}
use Rattle.flow_model.specs.declared.net.Commodity.{Commodity}
use Rattle.flow_model.specs.Network.{IsCell, IsCommodity, IsNetwork}
use Rattle.sndlib_grammar.specs.Rows.{NetLink, NetDemand, NetRows, AreNetRows, IsNetLink, IsNetDemand}
use Rattle.unit_scale.specs.ScaledFacts.{AreKeptRows}
use Rattle.unit_scale.specs.declared.options.NetOptions.{NetOptions}
use Rattle.unit_scale.specs.Sizes.{serves, AreDecimals, sizes, capacity, counted, amount, in_units, is_left_out}
use Rattle.unit_scale.specs.Scaling.{first_line, first_large, is_large_link, is_large_demand, counted_units, kept_from, cell_going, link_cells, capacity_in, cells_of_link, commodity_of, net_of}
use Rattle.unit_scale.specs.declared.modes.LinkMode.{LinkMode}
use Rattle.unit_scale.specs.declared.modes.LinkMode.TheVariants.{Directed, Undirected, Bidirected}
use Rattle.unit_scale.specs.declared.modes.Sign.{Sign}
use Rattle.unit_scale.specs.declared.modes.Sign.TheVariants.{Along, Against, Both}
use Rattle.unit_scale.specs.Modes.{signs}

bool_is : (b : Bool) → (b ≡ true) ⊎ (b ≡ false)
bool_is true = inl refl
bool_is false = inr refl

or_no : (x y : Bool) → (x || y) ≡ false → (x ≡ false) × (y ≡ false)
or_no true y e = cc
or_no false y e = (refl, e)

and_all : (x y : Bool) → (x && y) ≡ true → (x ≡ true) × (y ≡ true)
and_all true y e = (refl, e)
and_all false y e = cc

not_over : (n m : ℕ) → nat_lt n m ≡ false → m ≤ n
not_over n m h = grind (arith, nat_tests)

not_same : (n m : ℕ) → (n == m) ≡ false → n ≢ m
not_same n m h = grind (arith, nat_tests)

head_of : {X : Type 0} (P : X → Type 0) (x : X) (xs : List X) → All P (x ∷ xs) → P x
head_of P x xs h = h 0 x (omega arith)

rest_of : {X : Type 0} (P : X → Type 0) (x : X) (xs : List X) → All P (x ∷ xs) → All P xs
rest_of P x xs h k d l = h (suc k) d (omega arith)

first_none : (b : Bool) (line : ℕ) (o : Option ℕ) → (if b then Some line else o) ≡ None → (b ≡ false) × (o ≡ None)
first_none true line o e = cc
first_none false line o e = (refl, e)

-- the cell that goes some way over a link with ends among the nodes
cell_ok : (nodes source target cap : ℕ) → source < nodes → target < nodes → cap ≤ MAX_UNITS → (sign : Sign)
    → IsCell nodes (cell_going source target cap sign)
cell_ok nodes source target cap a b c Along = record { tail = a; head = b; cap = c }
cell_ok nodes source target cap a b c Against = record { tail = b; head = a; cap = c }
cell_ok nodes source target cap a b c Both = record { tail = a; head = b; cap = c }

-- the cells of a link in front of others
going_ok : (nodes source target cap : ℕ) → source < nodes → target < nodes → cap ≤ MAX_UNITS → (ways : List Sign) (cs : List Cell)
    → All (IsCell nodes) cs → All (IsCell nodes) (map (cell_going source target cap) ways ++ cs)
going_ok nodes source target cap a b c [] cs h = h
going_ok nodes source target cap a b c (sign ∷ ways) cs h =
    All-cons (IsCell nodes) (cell_going source target cap sign) (map (cell_going source target cap) ways ++ cs)
    (cell_ok nodes source target cap a b c sign) (going_ok nodes source target cap a b c ways cs h)

-- a link has as many cells as there are ways to go over it
pub link_count : (mode : LinkMode) (source target cap : ℕ) → length (link_cells mode source target cap) ≡ length (signs mode)
link_count mode source target cap = length-map (signs mode) (cell_going source target cap)

one_link : (n k : ℕ) → n + n * k ≡ n * suc k
one_link n k = omega arith ∙ sym (mul-suc n k)

-- and so have all links together
pub cell_count : (o : NetOptions) (s : ℕ) (ls : List NetLink)
    → length (flat_map (cells_of_link o s) ls) ≡ length (signs o.links) * length ls
cell_count o s [] = omega arith
cell_count o s (l ∷ ls) =
    let here : length (cells_of_link o s l) ≡ length (signs o.links) = link_count o.links l.source l.target (capacity_in o s l) in
    let next : length (signs o.links) + length (signs o.links) * length ls ≡ length (signs o.links) * length (l ∷ ls) =
    one_link (length (signs o.links)) (length ls) in
    omega (arith, length-append (cells_of_link o s l) (flat_map (cells_of_link o s) ls), here, next, cell_count o s ls)

-- so few links have cells within the limit
cells_fit : (mode : LinkMode) (links : ℕ) → links ≤ MAX_LINKS → length (signs mode) * links ≤ MAX_CELLS
cells_fit Directed links h = omega arith
cells_fit Undirected links h = omega arith
cells_fit Bidirected links h = omega arith

cells_ok : (nodes : ℕ) (o : NetOptions) (s : ℕ) (ls : List NetLink) → All (IsNetLink nodes) ls → first_line (is_large_link o.modules s) (λ l. l.line) ls ≡ None → All (IsCell nodes) (flat_map (cells_of_link o s) ls)
cells_ok nodes o s [] a e = All-nil (IsCell nodes)
cells_ok nodes o s (l ∷ ls) a e =
    let f = first_none (is_large_link o.modules s l) l.line (first_line (is_large_link o.modules s) (λ l. l.line) ls) e in
    let n = or_no _ _ f.0 in
    let h = head_of (IsNetLink nodes) l ls a in
    going_ok nodes l.source l.target (capacity_in o s l) h.source h.target (not_over MAX_UNITS (capacity_in o s l) n.1) (signs o.links) (flat_map (cells_of_link o s) ls) (cells_ok nodes o s ls (rest_of (IsNetLink nodes) l ls a) f.1)

none_units : (r q u n : ℕ) → r ≡ 0 → r + q * u ≡ n → q ≤ 0 → n ≡ 0
none_units r q u n z d h = let e : q ≡ 0 = omega arith in rw e at (sym d) ∙ omega arith

some_units : (n u : ℕ) → (n % u == 0) ≡ true → n ≢ 0 → 1 ≤ n / u
some_units n u e h =
    let z : n % u ≡ 0 = grind (arith, nat_tests) in
    let d : n % u + n / u * u ≡ n = mod-add-div' n u in
    elim (cases_lt 0 (n / u)) [ inl some ↦ some | inr none ↦ absurd (h (none_units (n % u) (n / u) u n z d none)) ]

commodity_ok : (nodes s total : ℕ) (d : NetDemand) → IsNetDemand nodes d → is_large_demand s total d ≡ false → is_left_out d ≡ false → serves s (counted d) ≡ true → IsCommodity nodes (record { from = d.source; to = d.target; amount = in_units s (amount d) })
commodity_ok nodes s total d i large out serve =
    let n = or_no (amount d == 0) (d.source == d.target) out in
    let m = or_no _ _ (or_no _ _ large).1 in
    let c : counted_units s d ≡ in_units s (amount d) = rw out refl in
    let v : counted d ≡ amount d = rw out refl in
    record {
      from = i.source;
      to = i.target;
      apart = not_same _ _ n.1;
      positive = some_units (amount d) (10 ^ (6 - s)) (ap (serves s) (sym v) ∙ serve) (not_same _ _ n.0);
      amount = rw c at (not_over MAX_UNITS (counted_units s d) m.0);
    }

commodities_ok : (nodes s total : ℕ) (ds : List NetDemand) → All (IsNetDemand nodes) ds → first_large s total ds ≡ None → list_all (serves s) (map counted ds) ≡ true → All (IsCommodity nodes) (filter_map (commodity_of s) ds)
commodities_ok nodes s total [] a e v = All-nil (IsCommodity nodes)
commodities_ok nodes s total (d ∷ ds) a e v =
    let f = first_none (is_large_demand s total d) d.line (first_large s (total + counted_units s d) ds) e in
    let w = and_all _ _ v in
    let rest = commodities_ok nodes s (total + counted_units s d) ds (rest_of (IsNetDemand nodes) d ds a) f.1 w.1 in
    elim (bool_is (is_left_out d)) [
      | inl out ↦ rw out rest
      | inr kept ↦ rw kept (All-cons (IsCommodity nodes) (record { from = d.source; to = d.target; amount = in_units s (amount d) }) (filter_map (commodity_of s) ds) (commodity_ok nodes s total d (head_of (IsNetDemand nodes) d ds a) f.0 kept w.0) rest)
    ]

total_ok : (s total : ℕ) (ds : List NetDemand) → total ≤ MAX_TOTAL → first_large s total ds ≡ None → total + sum_by (λ (k : Commodity). k.amount) (filter_map (commodity_of s) ds) ≤ MAX_TOTAL
total_ok s total [] h e = omega arith
total_ok s total (d ∷ ds) h e =
    let f = first_none (is_large_demand s total d) d.line (first_large s (total + counted_units s d) ds) e in
    let m = or_no _ _ (or_no _ _ f.0).1 in
    let w = not_over (MAX_TOTAL) (total + counted_units s d) m.1 in
    let rest = total_ok s (total + counted_units s d) ds w f.1 in
    elim (bool_is (is_left_out d)) [
      | inl out ↦ let r = rw out at rest in rw out (omega (arith, r))
      | inr kept ↦
          let k : Commodity = record { from = d.source; to = d.target; amount = in_units s (amount d) } in
          let c : counted_units s d ≡ in_units s (amount d) = rw kept refl in
          let u : sum_by (λ (k : Commodity). k.amount) (k ∷ filter_map (commodity_of s) ds) ≡ in_units s (amount d) + sum_by (λ (k : Commodity). k.amount) (filter_map (commodity_of s) ds) = sum_by-cons (λ (k : Commodity). k.amount) k (filter_map (commodity_of s) ds) in
          let t : total + sum_by (λ (k : Commodity). k.amount) (k ∷ filter_map (commodity_of s) ds) ≤ MAX_TOTAL = omega (arith, rest, u, c) in
          rw kept t
    ]

count_ok : (s : ℕ) (ds : List NetDemand) → length (filter_map (commodity_of s) ds) ≤ length ds
count_ok s [] = omega arith
count_ok s (d ∷ ds) = elim (bool_is (is_left_out d)) [
  | inl out ↦ rw out (omega (arith, count_ok s ds))
  | inr kept ↦ rw kept (omega (arith, count_ok s ds))
]

pub network_ok : (rows : NetRows) (o : NetOptions) (s : ℕ) → AreNetRows rows → AreDecimals (sizes o.modules rows) s → first_line (is_large_link o.modules s) (λ l. l.line) rows.links ≡ None → first_large s 0 rows.demands ≡ None → 1 ≤ length (filter_map (commodity_of s) rows.demands) → IsNetwork (net_of o s rows)
network_ok rows o s a d n m some =
    let v = and_all _ _ (sym (list_all-append (serves s) (map (capacity o.modules) rows.links) (map counted rows.demands)) ∙ d.serve) in
    record {
      nodes = a.node_count;
      cell_count = omega (arith, cells_fit o.links (length rows.links) a.link_count, cell_count o s rows.links);
      commodity_count = omega (arith, a.demand_count, count_ok s rows.demands);
      some = some;
      cells = cells_ok (length rows.nodes) o s rows.links a.links n;
      commodities = commodities_ok (length rows.nodes) s 0 rows.demands a.demands m v.1;
      total = omega (arith, total_ok s 0 rows.demands (omega arith) m);
    }

pub same_network : (n m : ℕ) (cs ds : List Cell) (ks ls : List Commodity) → n ≡ m → cs ≡ ds → ks ≡ ls → IsNetwork (record { nodes = m; cells = ds; commodities = ls }) → IsNetwork (record { nodes = n; cells = cs; commodities = ks })
same_network n m cs ds ks ls p q r h = rw (p, q, r) h

some_list : (ks : List Commodity) → false ≡ (length ks == 0) → 1 ≤ length ks
some_list ks h = grind (arith, nat_tests)

pub some_length : (ks ls : List Commodity) → ks ≡ ls → false ≡ (length ks == 0) → 1 ≤ length ls
some_length ks ls e h = subst (λ ks. 1 ≤ length ks) e (some_list ks h)

pub kept_count : (n : ℕ) (ds : List NetDemand) → length (kept_from n ds) ≤ length ds
kept_count n [] = omega arith
kept_count n (d ∷ ds) = elim (bool_is (is_left_out d)) [
  | inl out ↦ rw out (omega (arith, kept_count (n + 1) ds))
  | inr kept ↦ rw kept (omega (arith, kept_count (n + 1) ds))
]

-- the numbers of what is kept are no less than the first
kept_least : (n : ℕ) (ds : List NetDemand) (k : ℕ) → k < length (kept_from n ds) → n ≤ get_or (kept_from n ds) k 0
kept_least n [] k h = absurd (omega arith)
kept_least n (d ∷ ds) k h = elim (bool_is (is_left_out d)) [
  | inl out ↦ (let h1 = rw out at h in let rest = kept_least (n + 1) ds k h1 in rw out (omega (arith, rest)))
  | inr kept ↦ (let h1 = rw kept at h in rw kept (least_of n (kept_from (n + 1) ds) k h1 (λ i l. kept_least (n + 1) ds i l)))
]
  where
    least_of : (n : ℕ) (ks : List ℕ) (k : ℕ) → k < length (n ∷ ks) → ((i : ℕ) → i < length ks → n + 1 ≤ get_or ks i 0) → n ≤ get_or (n ∷ ks) k 0
    least_of n ks zero h f = omega arith
    least_of n ks (suc k) h f = let l : k < length ks = omega arith in omega (arith, f k l)

kept_rise : (n : ℕ) (ds : List NetDemand) (i j : ℕ) → i < j → j < length (kept_from n ds) → get_or (kept_from n ds) i 0 < get_or (kept_from n ds) j 0
kept_rise n [] i j lt h = absurd (omega arith)
kept_rise n (d ∷ ds) i j lt h = elim (bool_is (is_left_out d)) [
  | inl out ↦ (let h1 = rw out at h in rw out (kept_rise (n + 1) ds i j lt h1))
  | inr kept ↦ (let h1 = rw kept at h in rw kept (rise_of n (kept_from (n + 1) ds) i j lt h1 (λ k l. kept_least (n + 1) ds k l) (λ a b x y. kept_rise (n + 1) ds a b x y)))
]
  where
    rise_of : (n : ℕ) (ks : List ℕ) (i j : ℕ) → i < j → j < length (n ∷ ks) → ((k : ℕ) → k < length ks → n + 1 ≤ get_or ks k 0) → ((a b : ℕ) → a < b → b < length ks → get_or ks a 0 < get_or ks b 0) → get_or (n ∷ ks) i 0 < get_or (n ∷ ks) j 0
    rise_of n ks i zero lt h f g = absurd (omega arith)
    rise_of n ks zero (suc j) lt h f g = let l : j < length ks = omega arith in omega (arith, f j l)
    rise_of n ks (suc i) (suc j) lt h f g = g i j (omega arith) (omega arith)

pub kept_rows : (rows : NetRows) (ks : List ℕ) → AreNetRows rows → ks ≡ kept_from 0 rows.demands → AreKeptRows ks
kept_rows rows ks a e = subst AreKeptRows (sym e) (record { count = omega (arith, a.demand_count, kept_count 0 rows.demands); rise = λ i j lt h. kept_rise 0 rows.demands i j lt h })

pub kept_same_count : (s n : ℕ) (ds : List NetDemand) → length (kept_from n ds) ≡ length (filter_map (commodity_of s) ds)
kept_same_count s n [] = refl
kept_same_count s n (d ∷ ds) = elim (bool_is (is_left_out d)) [
  | inl out ↦ rw out (kept_same_count s (n + 1) ds)
  | inr kept ↦ rw kept (ap suc (kept_same_count s (n + 1) ds))
]
