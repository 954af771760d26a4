-- What a certificate is worth without each link, and its lines.
use Rattle.std.proofs.Common.{◌≡◌, ℕ, ◌≤◌, List, length, map, sym, ap, ◌∙◌, arith}
use Rattle.std.proofs.lemmas.List.{length-map}
use Rattle.std.proofs.lemmas.List.FromFn.{length-map-range_with_len}
use Rattle.flow_paths.specs.declared.certificate.Proof.{Proof}
use Rattle.flow_model.specs.Network.{Network}
use Rattle.sndlib_grammar.specs.Rows.{NetRows, NetLink, names_of_links}
use Rattle.unit_scale.specs.declared.modes.LinkMode.{LinkMode}
use Rattle.unit_scale.specs.Names.{cells_of}
use Rattle.unit_scale.specs.Closed.{caps_of}
use Rattle.unit_scale.specs.Scaling.{ScaledNet}
use Rattle.cert_lines.specs.Sheet.{IsOf}
use Rattle.cert_lines.proofs.Looked.{cells_are, cells_are_counted}
use Rattle.whatif.specs.declared.bounds.Bounds.{Bounds}
use Rattle.whatif.specs.Planned.{Planned, evaluation_of}
use Rattle.sweep.specs.Sweep.{sweep_evaluation, sweep_evaluations}
use Rattle.sweep_cmd.specs.Sweep.{worth_without}

-- the plan of the certificate, with the network's own capacities
abbrev pub start_of : ScaledNet → Proof → Planned
start_of net proof = record { net = net.net; proof = proof; caps = caps_of net.net }

pub plan_is : (net : ScaledNet) (proof : Proof) (network : Network) (plan : Planned) → network ≡ net.net → plan ≡ record { net = network; proof = proof; caps = caps_of network } → plan ≡ start_of net proof
plan_is net proof network plan same is = is ∙ ap (λ (n : Network). record { net = n; proof = proof; caps = caps_of n }) same

-- the plan of the certificate has the cells of all links
pub plan_cells : (rows : NetRows) (net : ScaledNet) (proof : Proof) (plan : Planned) (mode : LinkMode) (links : ℕ) → IsOf rows net → plan ≡ start_of net proof → mode ≡ net.options.links → links ≡ length rows.links
    → cells_of mode links ≤ length plan.caps
plan_cells rows net proof plan mode links names is m l =
    let count : length plan.caps ≡ cells_of net.options.links (length rows.links) = ap (λ (p : Planned). length p.caps) is ∙ (length-map net.net.cells (λ c. c.cap) ∙ sym (cells_are_counted rows net names) ∙ cells_are rows net) in
    let same : cells_of mode links ≡ cells_of net.options.links (length rows.links) = ap (λ (k : LinkMode). cells_of k links) m ∙ ap (cells_of net.options.links) l in
    omega (arith, count, same)

-- what is shown of it is what the certificate is worth
pub worth_is : (rows : NetRows) (net : ScaledNet) (proof : Proof) (plan : Planned) (mode : LinkMode) (links : ℕ) → plan ≡ start_of net proof → mode ≡ net.options.links → links ≡ length rows.links
    → sweep_evaluations mode plan.net plan.proof plan.caps links ≡ worth_without rows net proof
worth_is rows net proof plan mode links is m l =
    ap (λ (p : Planned). sweep_evaluations mode p.net p.proof p.caps links) is
    ∙ (ap (λ (k : LinkMode). sweep_evaluations k net.net proof (caps_of net.net) links) m ∙ ap (sweep_evaluations net.options.links net.net proof (caps_of net.net)) l)

-- there is one for each link
pub worth_count : {X : Type 0} (f : X → List ℕ) (ids : List X) (rows : NetRows) (net : ScaledNet) (proof : Proof) (bounds : List Bounds) → map f ids ≡ names_of_links rows → map evaluation_of bounds ≡ worth_without rows net proof → length ids ≡ length bounds
worth_count f ids rows net proof bounds named is =
    let names : length ids ≡ length rows.links = sym (length-map ids f) ∙ (ap length named ∙ length-map rows.links (λ (l : NetLink). l.id)) in
    let all : length bounds ≡ length rows.links = sym (length-map bounds evaluation_of) ∙ (ap length is ∙ length-map-range_with_len (sweep_evaluation net.options.links net.net proof (caps_of net.net)) 0 (length rows.links)) in
    names ∙ sym all
