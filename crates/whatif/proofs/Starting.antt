-- What a new plan keeps.
use Rattle.std.proofs.Common.{◌≡◌, ℕ, ◌<◌, ◌≤◌, List, length, get_or, map, sym, ap, subst, ◌∙◌, arith, All}
use Rattle.std.proofs.lemmas.List.{length-map}
use Rattle.std.proofs.lemmas.List.FromFn.{fill_by_all, get_or-map-range_with_len, length-map-range_with_len}
use Rattle.std.proofs.lemmas.List.Elements.{All-map}
use Rattle.mcf_limits.specs.declared.TheConstants.{MAX_LENGTH, MAX_UNITS}
use Rattle.flow_model.specs.declared.net.Cell.{Cell}
use Rattle.flow_model.specs.Network.{Network, IsNetwork}
use Rattle.flow_model.specs.Routing.{load_of}
use Rattle.flow_model.specs.Bound.{volume}
use Rattle.flow_paths.specs.declared.certificate.Proof.{Proof}
use Rattle.flow_paths.specs.Certificate.{IsProofOf, IsValid, lengths_in, upper_of}
use Rattle.flow_paths.specs.Evaluation.{loads_of, with_caps}
use Rattle.gap_fraction.specs.declared.fraction.TheConstants.{MAX_PART}
use Rattle.whatif.specs.declared.ratio.TheConstants.{MAX_LOAD}
use Rattle.whatif.specs.Ratios.{ratios}
use Rattle.whatif.specs.Planned.{Planned, IsPlanned, IsKept}
use Rattle.whatif.proofs.Sums.{with_caps-own}
use Rattle.whatif.proofs.Limits.{AreSmall, distance_within, load_within, some_load}

abbrev pub started : Network → Proof → Planned
started net proof = record { net = net; proof = proof; caps = map (λ c. c.cap) net.cells }

started_planned : (net : Network) (proof : Proof) → IsNetwork net → IsProofOf net proof → IsValid net proof → IsPlanned (started net proof)
started_planned net proof n known v = record {
  net = n;
  proof = known;
  valid = v;
  count = length-map net.cells (λ c. c.cap);
  caps = All-map (λ n. n ≤ MAX_UNITS) (λ c. c.cap) net.cells (λ k d lt. (n.cells k d lt).cap);
}

pub all_loads : (net : Network) (proof : Proof) (loads : List ℕ) → length loads ≡ length net.cells → ((c : ℕ) → c < length net.cells → get_or loads c 0 ≡ load_of proof.routing.paths c) → loads ≡ loads_of net proof.routing.paths
all_loads net proof loads len each = fill_by_all (load_of proof.routing.paths) loads (length net.cells) 0 len (λ j lt. each j lt)

pub loads_small : (net : Network) (proof : Proof) (loads : List ℕ) → IsNetwork net → IsProofOf net proof → IsValid net proof → loads ≡ loads_of net proof.routing.paths → All (λ n. n ≤ MAX_LOAD) loads
loads_small net proof loads n known v is = subst (λ (l : List ℕ). All (λ n. n ≤ MAX_LOAD) l) (sym is) (λ k d lt. each k d lt)
  where
    each : (k d : ℕ) → k < length (loads_of net proof.routing.paths) → get_or (loads_of net proof.routing.paths) k d ≤ MAX_LOAD
    each k d lt =
        let size = length-map-range_with_len (load_of proof.routing.paths) 0 (length net.cells) in
        let here = get_or-map-range_with_len (load_of proof.routing.paths) 0 (length net.cells) k k d (omega arith) (omega arith) in
        let le = load_within net proof n known v k in
        omega arith

positive : (a b : ℕ) → a ≡ b → (b ≡ 0 → ⊥) → 1 ≤ a
positive a b e ne = omega arith

pub kept_new : (net : Network) (proof : Proof) (loads lengths : List ℕ) → IsNetwork net → IsProofOf net proof → IsValid net proof → AreSmall proof.dual.potentials
    → loads ≡ loads_of net proof.routing.paths → lengths ≡ lengths_in net proof.dual → All (λ n. n ≤ MAX_LENGTH) lengths
    → IsKept (started net proof) loads lengths (ratios 0 net.cells loads) proof.upper.num proof.upper.den
kept_new net proof loads lengths n known v small loads_are lengths_are limit = record {
  planned = started_planned net proof n known v;
  loads_are = loads_are;
  load_limit = loads_small net proof loads n known v loads_are;
  loaded = λ some. subst (λ (l : List ℕ). (c : ℕ) × (c < length l) × (get_or l c 0 ≡ 0 → ⊥)) (sym loads_are) (some_load net proof n v some);
  lengths_are = lengths_are;
  length_limit = limit;
  tree_is = ap (λ (cells : List Cell). ratios 0 cells loads) (sym (with_caps-own net.cells));
  sum_is = v.printed.upper.num ∙ (ap (λ (cells : List Cell). volume cells (lengths_in net proof.dual)) (sym (with_caps-own net.cells)) ∙ ap (volume (with_caps net.cells (map (λ c. c.cap) net.cells))) (sym lengths_are));
  distance_is = v.printed.upper.den;
  distance_low = positive proof.upper.den (upper_of net proof.dual).den v.printed.upper.den v.distance.divides;
  distance_high = subst (λ (d : ℕ). d ≤ MAX_PART) (sym v.printed.upper.den) (distance_within net proof n small);
}
