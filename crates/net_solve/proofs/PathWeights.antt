-- The weights of a routing that carries its phases are at most 2 ^ 60.
use Rattle.std.proofs.Common.{◌≡◌, ℕ, ◌*◌, ◌<◌, ◌≤◌, cond, eqb, List, length, get_or, refl, subst, arith}
use Rattle.std.specs.Prelude.{All}
use Rattle.std.proofs.Math.Nat.{mul-le-mul}
use Rattle.std.proofs.lemmas.Bool.{eq-eqb}
use Rattle.std.proofs.lemmas.List.Sums.{get_or-le-sum_by}
use Rattle.std.proofs.lemmas.Option.{slice_get-get_or}
use Rattle.mcf_limits.specs.declared.TheConstants.{MAX_LENGTH, MAX_PHASES, MAX_UNITS}
use Rattle.flow_model.specs.Network.{Network, IsNetwork, IsCommodity}
use Rattle.flow_model.specs.Routing.{Row, carried}
use Rattle.flow_model.proofs.Duality.{no_commodity}
use Rattle.flow_paths.specs.declared.certificate.Routing.{Routing}
use Rattle.flow_paths.specs.Certificate.{PhasesAreCarried, IsRoutingOf}

-- a row's weight is part of what its commodity carries
weight-carried : (rows : List Row) (i : ℕ) (d : Row) → i < length rows → (get_or rows i d).weight ≤ carried rows (get_or rows i d).commodity
weight-carried rows i d l =
    let row = get_or rows i d in
    let part = get_or-le-sum_by (λ (r : Row). cond {A = ℕ} (eqb r.commodity row.commodity) r.weight 0) rows i d l in
    subst (λ n. n ≤ carried rows row.commodity) (rw (eq-eqb row.commodity row.commodity refl) refl) part

pub weights-small : (net : Network) (r : Routing) → IsNetwork net → IsRoutingOf net r → PhasesAreCarried net r → All (λ (row : Row). row.weight ≤ MAX_LENGTH) r.paths
weights-small net r n limits carries = λ i d l.
    let row = get_or r.paths i d in
    let k = get_or net.commodities row.commodity no_commodity in
    let inside : row.commodity < length net.commodities = (limits.rows i d l).commodity in
    let fits : IsCommodity net.nodes k = n.commodities row.commodity no_commodity inside in
    let whole : carried r.paths row.commodity ≡ r.phases * k.amount = carries row.commodity k (slice_get-get_or net.commodities row.commodity no_commodity inside) in
    let most : r.phases * k.amount ≤ MAX_PHASES * MAX_UNITS = mul-le-mul limits.phases fits.amount in
    omega (arith, weight-carried r.paths i d l)
