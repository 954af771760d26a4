-- What a plan shows.
use Rattle.std.proofs.Common.{◌≡◌, ◌≢◌, ℕ, ◌*◌, ◌<◌, ◌≤◌, List, length, get_or, inl, inr, sym, ap, subst, ◌∙◌, arith, refl}
use Rattle.std.proofs.Math.Nat.{mul-le-mul_left}
use Rattle.std.proofs.lemmas.Nat.{mul-le}
use Rattle.std.proofs.lemmas.Bool.Decides.{eqb_tells}
use Rattle.mcf_limits.specs.declared.TheConstants.{MAX_PHASES, MAX_UNITS}
use Rattle.gap_fraction.specs.Fraction.{Fraction, IsFraction}
use Rattle.flow_model.specs.Bound.{volume}
use Rattle.flow_paths.specs.Certificate.{lengths_in, upper_of}
use Rattle.flow_paths.specs.Evaluation.{edited, fill, loads_of, lower_under, with_caps}
use Rattle.whatif.specs.declared.ratio.Ratio.{Ratio}
use Rattle.whatif.specs.Ratios.{IsRatio}
use Rattle.whatif.specs.Tournament.{node, IsFirstLeast}
use Rattle.whatif.specs.Planned.{Planned, IsKept}
use Rattle.whatif.proofs.Sums.{with_caps-length}
use Rattle.whatif.proofs.Filling.{ratios-load, top_fills}
use Rattle.whatif.proofs.Keeping.{sized, sum_within}
use Rattle.whatif.proofs.Sound.{lengths_same, loads_same}

abbrev fraction : ℕ → ℕ → Fraction
fraction num den = record { num = num; den = den }

parts : (a b x y : ℕ) → a ≡ x → b ≡ y → fraction a b ≡ fraction x y
parts a b x y e f = ap (λ n. fraction n b) e ∙ ap (fraction x) f

-- ---- the upper fraction

pub upper_is : (p : Planned) (loads lengths : List ℕ) (tree : List Ratio) (sum distance : ℕ) → IsKept p loads lengths tree sum distance → fraction sum distance ≡ upper_of (edited p.net p.caps) p.proof.dual
upper_is p loads lengths tree sum distance k =
    let cells = with_caps p.net.cells p.caps in
    parts sum distance (volume cells (lengths_in (edited p.net p.caps) p.proof.dual)) (upper_of (edited p.net p.caps) p.proof.dual).den
    (k.sum_is ∙ ap (volume cells) (k.lengths_are ∙ sym (lengths_same p.net p.caps p.proof.dual))) k.distance_is

pub upper_fits : (p : Planned) (loads lengths : List ℕ) (tree : List Ratio) (sum distance : ℕ) → IsKept p loads lengths tree sum distance → IsFraction (fraction sum distance)
upper_fits p loads lengths tree sum distance k = record {
  positive = k.distance_low;
  num = omega (arith, sum_within p loads lengths tree sum distance k);
  den = k.distance_high;
}

-- ---- the lower fraction

pub tree_some : (p : Planned) (loads lengths : List ℕ) (tree : List Ratio) (sum distance : ℕ) → IsKept p loads lengths tree sum distance → p.proof.routing.phases ≢ 0 → 0 < length tree
tree_some p loads lengths tree sum distance k some =
    let s = sized p loads lengths tree sum distance k in
    let inside = (k.loaded some).1 in
    omega (arith, s.loads_count, s.tree_count)

pub top_loaded : (p : Planned) (loads lengths : List ℕ) (tree : List Ratio) (sum distance : ℕ) (r : Ratio) → IsKept p loads lengths tree sum distance → IsFirstLeast tree r → IsRatio r → p.proof.routing.phases ≢ 0 → r.load ≢ 0
top_loaded p loads lengths tree sum distance r k first ratio some = λ none. never none (k.loaded some)
  where
    never : r.load ≡ 0 → (c : ℕ) × (c < length loads) × (get_or loads c 0 ≢ 0) → ⊥
    never none (c, lt, loaded) =
        let s = sized p loads lengths tree sum distance k in
        let cells = with_caps p.net.cells p.caps in
        let size = with_caps-length p.net.cells p.caps in
        let here : (node tree c).load ≡ get_or loads c 0 = ap (λ (t : List Ratio). (node t c).load) k.tree_is ∙ ratios-load 0 cells loads c (omega (arith, s.loads_count)) (omega (arith, s.loads_count)) in
        let value = (first.before c (omega (arith, s.loads_count, s.tree_count))).value in
        let low = ratio.some none in
        let le : r.cap * (node tree c).load ≤ (node tree c).cap * 0 = subst (λ (n : ℕ). r.cap * (node tree c).load ≤ (node tree c).cap * n) none value in
        let product : (node tree c).load * 1 ≤ (node tree c).load * r.cap = mul-le-mul_left (node tree c).load low in
        loaded (omega arith)

pub lower_fits : (phases : ℕ) (r : Ratio) → phases ≤ MAX_PHASES → IsRatio r → r.load ≢ 0 → IsFraction (fraction (phases * r.cap) r.load)
lower_fits phases r few ratio some =
    let product = mul-le phases r.cap MAX_PHASES MAX_UNITS few ratio.cap in
    record {
      positive = omega arith;
      num = omega arith;
      den = omega (arith, ratio.load);
    }

pub lower_is : (p : Planned) (loads lengths : List ℕ) (tree : List Ratio) (sum distance : ℕ) (r : Ratio) → IsKept p loads lengths tree sum distance → IsFirstLeast tree r → r.load ≢ 0 → p.proof.routing.phases ≢ 0
    → fraction (p.proof.routing.phases * r.cap) r.load ≡ lower_under (edited p.net p.caps) p.proof.routing.phases p.proof.routing.paths
lower_is p loads lengths tree sum distance r k first loaded some =
    let s = sized p loads lengths tree sum distance k in
    let cells = with_caps p.net.cells p.caps in
    let size = with_caps-length p.net.cells p.caps in
    let rows = p.proof.routing.paths in
    let least = subst (λ (t : List Ratio). IsFirstLeast t r) k.tree_is first in
    let full : fill cells loads ≡ fraction r.cap r.load = top_fills cells loads r (s.loads_count ∙ sym size) least loaded in
    let same : fill cells (loads_of (edited p.net p.caps) rows) ≡ fraction r.cap r.load = ap (fill cells) (loads_same p.net p.caps rows ∙ sym k.loads_are) ∙ full in
    elim (eqb_tells p.proof.routing.phases 0) as (λ _. fraction (p.proof.routing.phases * r.cap) r.load ≡ lower_under (edited p.net p.caps) p.proof.routing.phases rows) [
      | inl e ↦ absurd (some e.1)
      | inr e ↦ rw (e.0, same) refl
    ]
