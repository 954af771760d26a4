-- What tables tell of the rows of a certificate.
use Rattle.std.proofs.Common.{◌≡◌, ℕ, ◌+◌, ◌*◌, ◌<◌, ◌≤◌, Bool, true, false, ◌&&◌, cond, eqb, eq-eqb, ltb, leb, List, [], ◌∷◌, length, get_or, Option, Some, None, inl, inr, sym, ap, subst, ◌∙◌, arith, refl}
use Rattle.std.specs.Prelude.{All, MatchOption, count_by, find, IsTrue, ◌↔◌, slice_get}
use Rattle.std.specs.Option.{option_map_or, is_none}
use Rattle.std.specs.List.{list_any, enumerate_from}
use Rattle.std.proofs.lemmas.Bool.{cases_lt, lt-ltb, ltb-true, le-ltb, le-leb, leb-true}
use Rattle.std.proofs.lemmas.Bool.Decides.{eqb_tells}
use Rattle.std.proofs.lemmas.List.Elements.{All-head, All-tail}
use Rattle.std.proofs.lemmas.List.Folds.{list_any_at, Any-from_list_any}
use Rattle.std.proofs.lemmas.List.FromFn.{length-enumerate_from, get_or-enumerate_from}
use Rattle.std.proofs.lemmas.List.Sums.{sum_by-cons}
use Rattle.std.proofs.lemmas.Option.{slice_get_within, slice_get-get_or, get_or_from_slice_get}
use Rattle.mcf_limits.specs.declared.TheConstants.{MAX_HOPS}
use Rattle.flow_model.specs.declared.net.Commodity.{Commodity}
use Rattle.flow_model.specs.Network.{Network, IsNetwork, IsCommodity}
use Rattle.flow_model.proofs.Duality.{no_commodity}
use Rattle.hop_paths.specs.Allowed.{limit_at, is_unlimited, has_layer, AreLimits}
use Rattle.hop_paths.specs.Layers.{IsLayers}
use Rattle.hop_check.specs.LayerRows.{Layer, no_layer, layer_at}
use Rattle.hop_check.specs.Layers.{HopDual, layer_in}
use Rattle.hop_check.specs.Conditions.{IsLayerOf}
use Rattle.hop_check.specs.Tables.{place_of, AreCounts, IsRowPlaced, IsPlaced, ArePlaces, HasPlaces, AreNext, LayersAreAsked, LayersBound}
use Rattle.hop_check.proofs.Asking.{asks}
use Rattle.hop_check.proofs.Placing.{AreNamed, place_within}

pub are_named : (net : Network) (rows : List Layer) → All (IsLayerOf net) rows → AreNamed net.nodes rows
are_named net rows all = λ k d lt. let r = all k d lt in (r.node, r.index)

none_counted : {X : Type 0} (p : X → Bool) (xs : List X) → All (λ x. p x ≡ false) xs → count_by p xs ≡ 0
none_counted p [] all = refl
none_counted p (x ∷ xs) all =
    let here : p x ≡ false = All-head (λ y. p y ≡ false) x xs all in
    let rest = none_counted p xs (All-tail (λ y. p y ≡ false) x xs all) in
    sum_by-cons (λ y. cond {A = ℕ} (p y) 1 0) x xs ∙ ap (λ (b : Bool). cond {A = ℕ} b 1 0 + count_by p xs) here ∙ omega arith

-- no row has an index over the greatest limit
none_over : (nodes : ℕ) (rows : List Layer) (v i : ℕ) → AreNamed nodes rows → MAX_HOPS < i → count_by (λ r. eqb r.node v && eqb r.index i) rows ≡ 0
none_over nodes rows v i named over = none_counted (λ r. eqb r.node v && eqb r.index i) rows (λ k d lt. apart (get_or rows k d) (named k d lt).1)
  where
    both : (a b : Bool) → b ≡ false → (a && b) ≡ false
    both true b e = e
    both false b e = refl

    apart : (r : Layer) → r.index ≤ MAX_HOPS → (eqb r.node v && eqb r.index i) ≡ false
    apart r l = elim (eqb_tells r.index i) as (λ _. (eqb r.node v && eqb r.index i) ≡ false) [
      | inl p ↦ absurd (omega (arith, p.1))
      | inr p ↦ both (eqb r.node v) (eqb r.index i) p.0
    ]

-- counts of rows at all places tell of all indices
pub layers-tested : (net : Network) (limits : List (Option ℕ)) (counts table : List ℕ) (layers : List Layer) (b : Bool) → AreCounts net limits counts → AreNamed net.nodes layers
    → ((v i : ℕ) → v < net.nodes → i ≤ MAX_HOPS → get_or table (place_of v i) 0 ≡ count_by (λ r. eqb r.node v && eqb r.index i) layers)
    → (IsTrue b ↔ ((v i : ℕ) → v < length counts → i ≤ MAX_HOPS → get_or table (place_of v i) 0 ≡ cond (ltb i (get_or counts v 0)) 1 0)) → IsTrue b ↔ LayersAreAsked net limits layers
layers-tested net limits counts table layers b are named value test = (there, back)
  where
    wanted : (v i : ℕ) → v < net.nodes → cond {A = ℕ} (ltb i (get_or counts v 0)) 1 0 ≡ cond (has_layer net limits v i) 1 0
    wanted v i lv = ap (λ (x : Bool). cond {A = ℕ} x 1 0) (sym (are.each v i lv))

    there : IsTrue b → LayersAreAsked net limits layers
    there t v i lv = elim (cases_lt MAX_HOPS i) as (λ _. count_by (λ r. eqb r.node v && eqb r.index i) layers ≡ cond (has_layer net limits v i) 1 0) [
      | inr l ↦ sym (value v i lv l) ∙ test.0 t v i (omega (arith, are.len)) l ∙ wanted v i lv
      | inl l ↦ none_over net.nodes layers v i named l ∙ sym (sym (wanted v i lv) ∙ ap (λ (x : Bool). cond {A = ℕ} x 1 0) (le-ltb i (get_or counts v 0) (omega (arith, are.small v lv))))
    ]

    back : LayersAreAsked net limits layers → IsTrue b
    back all = test.1 (λ v i lv l. let lt : v < net.nodes = omega (arith, are.len) in value v i lt l ∙ all v i lt ∙ sym (wanted v i lt))

-- whether a commodity from the node, of whose number the test holds, is one of these
asked_at : (cs : List Commodity) (q : ℕ → Bool) (s k : ℕ) (commodity : Commodity) → slice_get cs k ≡ Some commodity → commodity.from ≡ s → q k ≡ true → list_any (asks q s) (enumerate_from 0 cs) ≡ true
asked_at cs q s k commodity at is holds =
    let inside = slice_get_within cs k commodity at in
    let all = enumerate_from 0 cs in
    let many = length-enumerate_from 0 cs in
    let d : ℕ × Commodity = (0, no_commodity) in
    let found : get_or all k d ≡ (0 + k, get_or cs k no_commodity) = get_or-enumerate_from 0 cs k d inside in
    let plain : 0 + k ≡ k = omega arith in
    let found2 : get_or all k d ≡ (k, commodity) = found ∙ ap (λ (n : ℕ). (n, get_or cs k no_commodity)) plain ∙ ap (λ (x : Commodity). (k, x)) (get_or_from_slice_get cs k commodity no_commodity at) in
    list_any_at (asks q s) all k d (omega arith) (ap (asks q s) found2 ∙ ap (λ (b : Bool). b && q k) (eq-eqb commodity.from s is) ∙ holds)

asked_by : (cs : List Commodity) (q : ℕ → Bool) (s : ℕ) → list_any (asks q s) (enumerate_from 0 cs) ≡ true → (k : ℕ) × (commodity : Commodity) × (slice_get cs k ≡ Some commodity) × (commodity.from ≡ s) × (q k ≡ true)
asked_by cs q s e =
    let all = enumerate_from 0 cs in
    let many = length-enumerate_from 0 cs in
    let a = Any-from_list_any (asks q s) all e in
    let k = a.0 in
    let inside : k < length cs = omega (arith, a.2) in
    let d : ℕ × Commodity = (0, no_commodity) in
    let commodity = get_or cs k no_commodity in
    let plain : 0 + k ≡ k = omega arith in
    let found : get_or all k a.1 ≡ (0 + k, get_or cs k a.1.1) = get_or-enumerate_from 0 cs k a.1 inside in
    let at : slice_get cs k ≡ Some (get_or cs k a.1.1) = slice_get-get_or cs k a.1.1 inside in
    let holds : asks q s (k, get_or cs k a.1.1) ≡ true = sym (ap (asks q s) (sym a.3 ∙ found ∙ ap (λ (n : ℕ). (n, get_or cs k a.1.1)) plain)) ∙ a.4 in
    let two = both (eqb (get_or cs k a.1.1).from s) (q k) holds in
    (k, get_or cs k a.1.1, at, is (get_or cs k a.1.1).from s two.0, two.1)
  where
    both : (x y : Bool) → (x && y) ≡ true → (x ≡ true) × (y ≡ true)
    both true y h = (refl, h)
    both false y h = absurd cc

    is : (x y : ℕ) → eqb x y ≡ true → x ≡ y
    is x y h = elim (eqb_tells x y) as (λ _. x ≡ y) [
      | inl p ↦ p.1
      | inr p ↦ absurd (let no : eqb x y ≡ false = p.0 in cc)
    ]

-- a commodity's layers are asked for up to its limit
pub layer_is_asked : (net : Network) (limits : List (Option ℕ)) (k n i : ℕ) (commodity : Commodity) → slice_get net.commodities k ≡ Some commodity → limit_at limits k ≡ Some n → i ≤ n → has_layer net limits commodity.from i ≡ true
layer_is_asked net limits k n i commodity at is l =
    asked_at net.commodities (λ j. option_map_or (leb i) (limit_at limits j) false) commodity.from k commodity at refl (ap (λ (o : Option ℕ). option_map_or (leb i) o false) is ∙ le-leb i n l)

pub source_is_unlimited : (net : Network) (limits : List (Option ℕ)) (k : ℕ) (commodity : Commodity) → slice_get net.commodities k ≡ Some commodity → limit_at limits k ≡ None → is_unlimited net limits commodity.from ≡ true
source_is_unlimited net limits k commodity at is = asked_at net.commodities (λ j. is_none (limit_at limits j)) commodity.from k commodity at refl (ap (λ (o : Option ℕ). is_none o) is)

-- a layer that is asked for is within some commodity's limit
layer_has_limit : (net : Network) (limits : List (Option ℕ)) (v i : ℕ) → has_layer net limits v i ≡ true → (k n : ℕ) × (commodity : Commodity) × (slice_get net.commodities k ≡ Some commodity) × (commodity.from ≡ v) × (limit_at limits k ≡ Some n) × (i ≤ n)
layer_has_limit net limits v i e =
    let a = asked_by net.commodities (λ j. option_map_or (leb i) (limit_at limits j) false) v e in
    let o = limited (limit_at limits a.0) a.4 in
    (a.0, o.0, a.1, a.2, a.3, o.1, o.2)
  where
    limited : (o : Option ℕ) → option_map_or (leb i) o false ≡ true → (n : ℕ) × (o ≡ Some n) × (i ≤ n)
    limited None h = absurd cc
    limited (Some n) h = (n, refl, leb-true i n h)

starts_at : (net : Network) (k : ℕ) (commodity : Commodity) → IsNetwork net → slice_get net.commodities k ≡ Some commodity → commodity.from < net.nodes
starts_at net k commodity fits at =
    let named : IsCommodity net.nodes commodity = subst (λ (x : Commodity). IsCommodity net.nodes x) (get_or_from_slice_get net.commodities k commodity no_commodity at) (fits.commodities k no_commodity (slice_get_within net.commodities k commodity at)) in
    named.from

-- layers that are asked for are layers up to each commodity's limit, and the other way round
pub next-bound : (net : Network) (limits : List (Option ℕ)) (counts lengths : List ℕ) (layers : List Layer) (b : Bool) → IsNetwork net → AreCounts net limits counts → (IsTrue b ↔ AreNext net counts lengths layers) → IsTrue b ↔ LayersBound net limits lengths layers
next-bound net limits counts lengths layers b fits are test = (λ t. there (test.0 t), λ all. test.1 (back all))
  where
    there : AreNext net counts lengths layers → LayersBound net limits lengths layers
    there next k n commodity at is =
        let from = starts_at net k commodity fits at in
        let within : (i : ℕ) → i < n → i + 1 < get_or counts commodity.from 0 = λ i l. ltb-true (i + 1) (get_or counts commodity.from 0) (sym (are.each commodity.from (i + 1) from) ∙ layer_is_asked net limits k n (i + 1) commodity at is (omega arith)) in
        record {
          goes = λ i c cell u v l found passes. (next commodity.from i from (within i l)).goes c cell u v found passes;
          falls = λ i v l lv. (next commodity.from i from (within i l)).falls v lv;
        }

    back : LayersBound net limits lengths layers → AreNext net counts lengths layers
    back all v i lv l =
        let a = layer_has_limit net limits v (i + 1) (are.each v (i + 1) lv ∙ lt-ltb (i + 1) (get_or counts v 0) l) in
        let are_layers : IsLayers net lengths (layer_in layers v) a.1 = subst (λ (s : ℕ). IsLayers net lengths (layer_in layers s) a.1) a.4 (all a.0 a.1 a.2 a.3 a.5) in
        let less : i < a.1 = omega (arith, a.6) in
        record {
          goes = λ c cell u w found passes. are_layers.goes i c cell u w less found passes;
          falls = λ w lw. are_layers.falls i w less lw;
        }

-- where each layer's row stands
pub placed : (net : Network) (limits : List (Option ℕ)) (counts places : List ℕ) (layers : List Layer) → AreCounts net limits counts → All (IsLayerOf net) layers → LayersAreAsked net limits layers → length places ≡ net.nodes * (MAX_HOPS + 1)
    → ((v i : ℕ) → v < net.nodes → i ≤ MAX_HOPS → count_by (λ r. eqb r.node v && eqb r.index i) layers ≡ 1
    → (get_or places (place_of v i) 0 < length layers) × (find (λ r. eqb r.node v && eqb r.index i) layers ≡ Some (layer_at layers (get_or places (place_of v i) 0))))
    → ArePlaces net.nodes counts layers places
placed net limits counts places layers are rows asked len value v i lv l =
    let small : i ≤ MAX_HOPS = omega (arith, are.small v lv) in
    let one : count_by (λ r. eqb r.node v && eqb r.index i) layers ≡ 1 = asked v i lv ∙ ap (λ (x : Bool). cond {A = ℕ} x 1 0) (are.each v i lv ∙ lt-ltb i (get_or counts v 0) l) in
    let there = value v i lv small one in
    let is : layer_in layers v i ≡ (layer_at layers (get_or places (place_of v i) 0)).values = ap (λ (o : Option Layer). option_map_or (λ r. r.values) o []) there.1 in
    let row : IsLayerOf net (layer_at layers (get_or places (place_of v i) 0)) = rows (get_or places (place_of v i) 0) no_layer there.0 in
    record {
      inside = omega (arith, place_within net.nodes v i lv small);
      row = there.0;
      found = is;
      long = ap length is ∙ row.values;
    }

-- where the row of a layer that is asked for stands
pub placed_where : (net : Network) (limits : List (Option ℕ)) (places : List ℕ) (layers : List Layer) (v i : ℕ) → AreLimits net limits → All (IsLayerOf net) layers → LayersAreAsked net limits layers → length places ≡ net.nodes * (MAX_HOPS + 1)
    → ((v i : ℕ) → v < net.nodes → i ≤ MAX_HOPS → count_by (λ r. eqb r.node v && eqb r.index i) layers ≡ 1
    → (get_or places (place_of v i) 0 < length layers) × (find (λ r. eqb r.node v && eqb r.index i) layers ≡ Some (layer_at layers (get_or places (place_of v i) 0))))
    → v < net.nodes → has_layer net limits v i ≡ true → IsPlaced net.nodes layers places v i
placed_where net limits places layers v i are rows asked len value lv has =
    let limit = layer_has_limit net limits v i has in
    let inside = slice_get_within net.commodities limit.0 limit.2 limit.3 in
    let most : limit.1 ≤ MAX_HOPS = subst (λ (o : Option ℕ). MatchOption o (Unit {0}) (λ n. n ≤ MAX_HOPS)) limit.5 (are.small limit.0 None (omega (arith, are.count))) in
    let small : i ≤ MAX_HOPS = omega (arith, most, limit.6) in
    let one : count_by (λ r. eqb r.node v && eqb r.index i) layers ≡ 1 = asked v i lv ∙ ap (λ (x : Bool). cond {A = ℕ} x 1 0) has in
    let there = value v i lv small one in
    let is : layer_in layers v i ≡ (layer_at layers (get_or places (place_of v i) 0)).values = ap (λ (o : Option Layer). option_map_or (λ r. r.values) o []) there.1 in
    let row : IsLayerOf net (layer_at layers (get_or places (place_of v i) 0)) = rows (get_or places (place_of v i) 0) no_layer there.0 in
    record {
      inside = omega (arith, place_within net.nodes v i lv small, len);
      row = there.0;
      found = is;
      long = ap length is ∙ row.values;
    }

-- where the rows stand that a commodity's distance is taken from
pub has_places : (net : Network) (limits : List (Option ℕ)) (rows places : List ℕ) (d : HopDual) (k : ℕ) (commodity : Commodity) (limit : Option ℕ) → IsNetwork net
    → ((v i : ℕ) → v < net.nodes → has_layer net limits v i ≡ true → IsPlaced net.nodes d.layers places v i)
    → ((v : ℕ) → v < net.nodes → is_unlimited net limits v ≡ true → IsRowPlaced net.nodes d.dual.potentials rows v)
    → slice_get net.commodities k ≡ Some commodity → limit_at limits k ≡ limit → HasPlaces net.nodes d rows places limit commodity
has_places net limits rows places d k commodity None fits all each at is =
    each commodity.from (starts_at net k commodity fits at) (source_is_unlimited net limits k commodity at is)
has_places net limits rows places d k commodity (Some n) fits all each at is =
    let from = starts_at net k commodity fits at in
    (all commodity.from n from (layer_is_asked net limits k n n commodity at is (omega arith)), all commodity.from 0 from (layer_is_asked net limits k n 0 commodity at is (omega arith)))
