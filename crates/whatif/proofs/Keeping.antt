-- What a plan keeps, after an edit.
use Rattle.std.proofs.Common.{◌≡◌, ℕ, ◌+◌, ◌-◌, ◌*◌, ◌^◌, ◌<◌, ◌≤◌, List, length, get_or, set, sym, ap, ◌∙◌, arith}
use Rattle.std.proofs.lemmas.List.{length-set}
use Rattle.std.proofs.lemmas.List.Elements.{All-set}
use Rattle.std.proofs.lemmas.List.FromFn.{length-map-range_with_len}
use Rattle.std.proofs.lemmas.Nat.{mul-le}
use Rattle.mcf_limits.specs.declared.TheConstants.{MAX_CELLS, MAX_LENGTH, MAX_UNITS}
use Rattle.flow_model.specs.Routing.{load_of}
use Rattle.flow_paths.specs.Certificate.{length_of}
use Rattle.flow_paths.specs.Evaluation.{with_caps}
use Rattle.whatif.specs.declared.ratio.Ratio.{Ratio}
use Rattle.whatif.specs.Ratios.{ratio_of}
use Rattle.unit_scale.specs.declared.modes.LinkMode.{LinkMode}
use Rattle.script.specs.declared.step.Step.TheVariants.{Edit}
use Rattle.whatif.specs.Planned.{Planned, IsPlanned, IsKept, after_step, with_cap}
use Rattle.unit_scale.proofs.LinkCaps.{with_link_length}
use Rattle.whatif.proofs.Links.{with_link-small}
use Rattle.whatif.proofs.Sums.{with_caps-length, volume-set, volume-le, part-le, ratios-set}
use Rattle.whatif.proofs.Filling.{ratios-length}

-- one load, length and ratio a cell
pub record IsSized (p : Planned) (loads lengths : List ℕ) (tree : List Ratio) : Type 0 where
  pub loads_count : length loads ≡ length p.net.cells
  pub lengths_count : length lengths ≡ length p.net.cells
  pub tree_count : length tree ≡ length p.net.cells
  pub few : length p.net.cells ≤ MAX_CELLS

pub sized : (p : Planned) (loads lengths : List ℕ) (tree : List Ratio) (sum distance : ℕ) → IsKept p loads lengths tree sum distance → IsSized p loads lengths tree
sized p loads lengths tree sum distance k =
    let n = length p.net.cells in
    let l : length loads ≡ n = ap length k.loads_are ∙ length-map-range_with_len (load_of p.proof.routing.paths) 0 n in
    let same : length (with_caps p.net.cells p.caps) ≡ n = with_caps-length p.net.cells p.caps in
    record {
      loads_count = l;
      lengths_count = ap length k.lengths_are ∙ length-map-range_with_len (length_of p.proof.dual.lengths) 0 n;
      tree_count = ap length k.tree_is ∙ (ratios-length 0 (with_caps p.net.cells p.caps) loads (l ∙ sym same) ∙ same);
      few = k.planned.net.cell_count;
    }

pub part_within : (p : Planned) (loads lengths : List ℕ) (tree : List Ratio) (sum distance c : ℕ) → IsKept p loads lengths tree sum distance → c < length p.caps → get_or p.caps c 0 * get_or lengths c 0 ≤ sum
part_within p loads lengths tree sum distance c k lt =
    let s = sized p loads lengths tree sum distance k in
    let part = part-le p.net.cells p.caps lengths c lt k.planned.count s.lengths_count in
    omega (arith, k.sum_is)

pub sum_within : (p : Planned) (loads lengths : List ℕ) (tree : List Ratio) (sum distance : ℕ) → IsKept p loads lengths tree sum distance → sum ≤ 2 ^ 119
sum_within p loads lengths tree sum distance k =
    let le = volume-le p.net.cells p.caps lengths k.planned.count k.planned.caps k.length_limit in
    omega (arith, k.sum_is, k.planned.net.cell_count)

pub product_within : (cap length : ℕ) → cap ≤ MAX_UNITS → length ≤ MAX_LENGTH → cap * length ≤ 2 ^ 106
product_within cap length a b = mul-le cap length MAX_UNITS MAX_LENGTH a b

pub planned_set : (p : Planned) (c cap : ℕ) → cap ≤ MAX_UNITS → IsPlanned p → IsPlanned (with_cap p c cap)
planned_set p c cap small h = record {
  net = h.net;
  proof = h.proof;
  valid = h.valid;
  count = length-set p.caps c cap ∙ h.count;
  caps = All-set (λ n. n ≤ MAX_UNITS) p.caps c cap small h.caps;
}

-- the same with each cell of a link
pub planned_link : (mode : LinkMode) (p : Planned) (link cap : ℕ) → cap ≤ MAX_UNITS → IsPlanned p → IsPlanned (after_step mode p (Edit link cap))
planned_link mode p link cap small h = record {
  net = h.net;
  proof = h.proof;
  valid = h.valid;
  count = with_link_length mode p.caps link cap ∙ h.count;
  caps = with_link-small mode p.caps link cap small h.caps;
}

pub kept_set : (p : Planned) (loads lengths : List ℕ) (tree : List Ratio) (sum distance c cap next : ℕ) → IsKept p loads lengths tree sum distance → c < length p.caps → cap ≤ MAX_UNITS
    → next ≡ sum - get_or p.caps c 0 * get_or lengths c 0 + cap * get_or lengths c 0 → IsKept (with_cap p c cap) loads lengths (set tree c (ratio_of cap (get_or loads c 0) c)) next distance
kept_set p loads lengths tree sum distance c cap next k lt small is =
    let s = sized p loads lengths tree sum distance k in
    let part = part_within p loads lengths tree sum distance c k lt in
    let moved = volume-set p.net.cells p.caps lengths c cap lt k.planned.count s.lengths_count in
    record {
      planned = planned_set p c cap small k.planned;
      loads_are = k.loads_are;
      load_limit = k.load_limit;
      loaded = k.loaded;
      lengths_are = k.lengths_are;
      length_limit = k.length_limit;
      tree_is = ap (λ (l : List Ratio). set l c (ratio_of cap (get_or loads c 0) c)) k.tree_is ∙ sym (ratios-set p.net.cells p.caps loads c cap lt k.planned.count s.loads_count);
      sum_is = omega (arith, k.sum_is);
      distance_is = k.distance_is;
      distance_low = k.distance_low;
      distance_high = k.distance_high;
    }
