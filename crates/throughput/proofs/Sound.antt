-- A valid certificate of a total is sound.
use Rattle.std.proofs.Common.{◌≡◌, ◌≢◌, ℕ, ◌*◌, ◌≤◌, List, [], ◌∷◌, length, get_or, ap, ◌∙◌, arith}
use Rattle.std.specs.Prelude.{All}
use Rattle.std.proofs.lemmas.List.{length-map}
use Rattle.std.proofs.lemmas.List.Sums.{sum_by-cons}
use Rattle.std.proofs.lemmas.List.Elements.{All-map}
use Rattle.std.proofs.lemmas.List.FromFn.{length-map-range_with_len}
use Rattle.flow_model.specs.Network.{Network}
use Rattle.flow_model.specs.Routing.{Row, Joins, scaled}
use Rattle.flow_model.specs.Bound.{IsBelowEveryWalk, IsBelowItsRows}
use Rattle.flow_paths.specs.declared.certificate.Routing.{Routing}
use Rattle.flow_paths.specs.Certificate.{routing_of, length_of, lengths_in, distance_of, distances_in, PathsAreWalks, LoadsFit, ScaleDivides}
use Rattle.cert_check.proofs.Carrying.{carried-scaled, load_of-scaled}
use Rattle.cert_check.proofs.Sound.{distances_below}
use Rattle.throughput.specs.declared.part_proof.PartProof.{PartProof}
use Rattle.throughput.specs.Partial.{IsPartial, total_of}
use Rattle.throughput.specs.Conditions.{AmountsFit, IsValidPart, IsPartCertified}
use Rattle.throughput.proofs.Excess.{threshold_bounds}

positive : (n : ℕ) → n ≢ 0 → 1 ≤ n
positive n h = omega arith

total-scaled : (f : ℕ) (rows : List Row) → total_of (scaled f rows) ≡ f * total_of rows
total-scaled f [] = omega arith
total-scaled f (r ∷ rows) =
    let g = λ (x : Row). x.weight in
    let rest = total-scaled f rows in
    sum_by-cons g (record { commodity = r.commodity; walk = r.walk; weight = f * r.weight }) (scaled f rows) ∙ rw rest (omega (arith, ap (λ n. f * n) (sum_by-cons g r rows)))

routing_is_partial : (net : Network) (r : Routing) → PathsAreWalks net r → AmountsFit net r → LoadsFit net r → ScaleDivides r → IsPartial net (routing_of r) r.scale_load
routing_is_partial net r walks amounts loads scale = record {
  parts = positive r.scale_load scale;
  walks = All-map (Joins net) (λ (x : Row). record { commodity = x.commodity; walk = x.walk; weight = r.scale_cap * x.weight }) r.paths walks;
  carried = λ k commodity at. omega (arith, carried-scaled r.scale_cap k r.paths, amounts k commodity at);
  within = λ c cell at. omega (arith, load_of-scaled r.scale_cap c r.paths, loads c cell at);
}

below_rows : (net : Network) (lengths distances : List ℕ) (rows : List Row) → IsBelowEveryWalk net lengths distances → All (Joins net) rows → IsBelowItsRows lengths distances rows
below_rows net lengths distances rows below joins = λ i d lt.
    let j : Joins net (get_or rows i d) = joins i d lt in
    below (get_or rows i d).commodity j.0 (get_or rows i d).walk j.1 j.2

pub parts_certify : (net : Network) (p : PartProof) → IsValidPart net p → IsPartCertified net p
parts_certify net p v =
    let lengths = lengths_in net p.bound.dual in
    let distances = distances_in net p.bound.dual in
    let below = distances_below net p.bound.dual v.1.1.1.1.1.1.0.each in
    record {
      partial = routing_is_partial net p.routing v.0 v.1.0 v.1.1.0 v.1.1.1.0;
      total = total-scaled p.routing.scale_cap p.routing.paths ∙ omega arith;
      bounds_all = record {
        below = below;
        positive = positive p.bound.threshold v.1.1.1.1.1.1.1.0;
        bounds = λ rows q f. threshold_bounds net p.bound.threshold lengths distances rows q (length-map-range_with_len (length_of p.bound.dual.lengths) 0 (length net.cells)) (length-map net.commodities (distance_of p.bound.dual.potentials)) (below_rows net lengths distances rows below f.walks) f;
      };
      closed = v.1.1.1.1.1.1.1.1.1.0;
    }
