-- Loops over rows.
use Rattle.std.proofs.Common.{◌≡◌, ℕ, ◌+◌, ◌≤◌, ◌<◌, List, [], ◌∷◌, ◌++◌, length, take, drop, get_or, map, Some, None, true, false, Bool, arith, refl, ap, sym, ◌∙◌, add-one, drop-cons}
use Rattle.std.proofs.lemmas.List.{take_more, drop_all, take_all, map-append}
use Rattle.sndlib_grammar.specs.Rows.{NetLink, NetDemand, no_link, no_demand}
use Rattle.sndlib_grammar.specs.declared.refusal.NetKind.TheVariants.{TooFine}
use Rattle.unit_scale.specs.Scaling.{first_line}
use Rattle.unit_scale.specs.Sizes.{is_fine_link, is_fine_demand}
use Rattle.unit_scale.specs.Seen.{seen_size, seen_link, seen_amount, seen_demand}
use Rattle.unit_scale.specs.Stages.{Faulted, AreLinkSizes, AreDemandSizes}
use Rattle.unit_scale.specs.declared.modes.ModuleMode.{ModuleMode}
use Rattle.unit_scale.specs.declared.links.LinkSize.{LinkSize}
use Rattle.unit_scale.specs.declared.demands.DemandSize.{DemandSize}
use Rattle.unit_scale.specs.declared.refusal.ScaleEnd.{ScaleEnd}
use Rattle.unit_scale.specs.declared.refusal.ScaleEnd.TheVariants.{Refused}

module _ {X : Type 0} where
  head_drop : (xs : List X) (i : ℕ) (d : X) → i < length xs → drop i xs ≡ get_or xs i d ∷ drop (i + 1) xs
  head_drop xs i d h = rw (add-one i) (drop-cons xs i d h)

  pub passed : (p : X → Bool) (line : X → ℕ) (xs : List X) (i : ℕ) (d : X) → i < length xs → p (get_or xs i d) ≡ false → first_line p line (drop i xs) ≡ first_line p line (drop (i + 1) xs)
  passed p line xs i d h miss = rw (head_drop xs i d h, miss) refl

  pub found : (p : X → Bool) (line : X → ℕ) (xs : List X) (i : ℕ) (d : X) → i < length xs → p (get_or xs i d) ≡ true → first_line p line (drop i xs) ≡ Some (line (get_or xs i d))
  found p line xs i d h hit = rw (head_drop xs i d h, hit) refl

  pub ended : (p : X → Bool) (line : X → ℕ) (xs : List X) (i : ℕ) → length xs ≤ i → first_line p line (drop i xs) ≡ None
  ended p line xs i h = rw (drop_all i xs h) refl

  pub mapped : {Z Y : Type 0} (f : Z → Y) (g : X → Y) (zs : List Z) (xs : List X) (i : ℕ) (d : X) (z : Z) → i < length xs → map f zs ≡ map g (take i xs) → f z ≡ g (get_or xs i d) → map f (zs ++ z ∷ []) ≡ map g (take (i + 1) xs)
  mapped f g zs xs i d z h e s = rw (take_more xs i d h, map-append f zs (z ∷ []), map-append g (take i xs) (get_or xs i d ∷ []), e, s) refl

-- the first i links have no fault, and their sizes are kept
pub record InLinks (mode : ModuleMode) (links : List NetLink) (i end : ℕ) (zs : List LinkSize) : Type 0 where
  pub all : end ≡ length links
  pub passed : first_line (is_fine_link mode) (λ l. l.line) links ≡ first_line (is_fine_link mode) (λ l. l.line) (drop i links)
  pub seen : map seen_size zs ≡ map (seen_link mode) (take i links)

pub links_step : (mode : ModuleMode) (links : List NetLink) (i end : ℕ) (zs : List LinkSize) (z : LinkSize) (l : NetLink) → InLinks mode links i end zs → i < end → get_or links i no_link ≡ l → (is_fine_link mode l ≡ false) × (seen_size z ≡ seen_link mode l) → InLinks mode links (i + 1) end (zs ++ z ∷ [])
links_step mode links i end zs z l v h e s =
    let lt : i < length links = omega (arith, v.all, h) in
    record {
      all = v.all;
      passed = v.passed ∙ passed (is_fine_link mode) (λ l. l.line) links i no_link lt (ap (is_fine_link mode) e ∙ s.0);
      seen = mapped seen_size (seen_link mode) zs links i no_link z lt v.seen (s.1 ∙ ap (seen_link mode) (sym e));
    }

pub links_found : (mode : ModuleMode) (links : List NetLink) (i end : ℕ) (zs : List LinkSize) (l : NetLink) (n : ℕ) (r : ScaleEnd) → InLinks mode links i end zs → i < end → get_or links i no_link ≡ l → is_fine_link mode l ≡ true → l.line ≡ n → r ≡ Refused (record { line = n; kind = TooFine }) → Faulted TooFine (first_line (is_fine_link mode) (λ l. l.line) links) r
links_found mode links i end zs l n r v h e f m is =
    let lt : i < length links = omega (arith, v.all, h) in
    let k : first_line (is_fine_link mode) (λ l. l.line) links ≡ Some n = v.passed ∙ found (is_fine_link mode) (λ l. l.line) links i no_link lt (ap (is_fine_link mode) e ∙ f) ∙ ap Some (ap (λ (l : NetLink). l.line) e ∙ m) in
    rw (is, k) refl

pub links_end : (mode : ModuleMode) (links : List NetLink) (i end : ℕ) (zs : List LinkSize) → InLinks mode links i end zs → end ≤ i → (first_line (is_fine_link mode) (λ l. l.line) links ≡ None) × AreLinkSizes mode links zs
links_end mode links i end zs v h =
    let le : length links ≤ i = omega (arith, v.all, h) in
    (v.passed ∙ ended (is_fine_link mode) (λ l. l.line) links i le, record { seen = rw (take_all i links le) at v.seen })

-- the same of demands
pub record InDemands (demands : List NetDemand) (i end : ℕ) (zs : List DemandSize) : Type 0 where
  pub all : end ≡ length demands
  pub passed : first_line is_fine_demand (λ d. d.line) demands ≡ first_line is_fine_demand (λ d. d.line) (drop i demands)
  pub seen : map seen_amount zs ≡ map seen_demand (take i demands)

pub demands_step : (demands : List NetDemand) (i end : ℕ) (zs : List DemandSize) (z : DemandSize) (d : NetDemand) → InDemands demands i end zs → i < end → d ≡ get_or demands i no_demand → (is_fine_demand d ≡ false) × (seen_amount z ≡ seen_demand d) → InDemands demands (i + 1) end (zs ++ z ∷ [])
demands_step demands i end zs z d v h e s =
    let lt : i < length demands = omega (arith, v.all, h) in
    record {
      all = v.all;
      passed = v.passed ∙ passed is_fine_demand (λ d. d.line) demands i no_demand lt (ap is_fine_demand (sym e) ∙ s.0);
      seen = mapped seen_amount seen_demand zs demands i no_demand z lt v.seen (s.1 ∙ ap seen_demand e);
    }

pub demands_found : (demands : List NetDemand) (i end : ℕ) (zs : List DemandSize) (d : NetDemand) (r : ScaleEnd) → InDemands demands i end zs → i < end → d ≡ get_or demands i no_demand → is_fine_demand d ≡ true → r ≡ Refused (record { line = d.line; kind = TooFine }) → Faulted TooFine (first_line is_fine_demand (λ d. d.line) demands) r
demands_found demands i end zs d r v h e f is =
    let lt : i < length demands = omega (arith, v.all, h) in
    let k : first_line is_fine_demand (λ d. d.line) demands ≡ Some d.line = v.passed ∙ found is_fine_demand (λ d. d.line) demands i no_demand lt (ap is_fine_demand (sym e) ∙ f) ∙ ap Some (ap (λ (d : NetDemand). d.line) (sym e)) in
    rw (is, k) refl

pub demands_end : (demands : List NetDemand) (i end : ℕ) (zs : List DemandSize) → InDemands demands i end zs → end ≤ i → (first_line is_fine_demand (λ d. d.line) demands ≡ None) × AreDemandSizes demands zs
demands_end demands i end zs v h =
    let le : length demands ≤ i = omega (arith, v.all, h) in
    (v.passed ∙ ended is_fine_demand (λ d. d.line) demands i le, record { seen = rw (take_all i demands le) at v.seen })
