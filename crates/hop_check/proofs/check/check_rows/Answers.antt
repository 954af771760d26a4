use Rattle.std.proofs.Common.{◌≡◌, ◌+◌, ◌*◌, ℕ, true, List, length, sym, ap, subst, ◌∙◌, arith}
use Rattle.mcf_limits.specs.declared.TheConstants.{MAX_HOPS}
use Rattle.gap_fraction.specs.Fraction.{Fraction}
use Rattle.cert_check.proofs.Counting.{cond_le}
use Rattle.flow_model.specs.declared.net.Cell.{Cell}
use Rattle.flow_model.specs.Bound.{volume}
use Rattle.flow_paths.specs.Certificate.{lengths_in, lower_of}
use Rattle.route_tally.specs.Conditions.{IsVerdictBy}
use Rattle.hop_paths.specs.Allowed.{has_layer}
use Rattle.hop_check.specs.Layers.{dual_of, hop_upper_of}
use Rattle.hop_check.specs.Conditions.{HopHolds, RowsAreAsked, RowsBound}
use Rattle.hop_check.specs.Tables.{AreCounts, ArePlaces}
use Rattle.hop_check.proofs.AskedRows.{placed}
use Rattle.hop_check.proofs.Certified.{verdict_certifies}
use Rattle.hop_check.proofs.check.check_rows.Goals as goal

pub layer_places-requires-clause-once : goal.layer_places-requires-clause-once
layer_places-requires-clause-once c = λ v i lv li.
    let asked : RowsAreAsked c.args.net.now c.args.limits.now c.args.h.now = c.in_ok-rows_are_asked.ensures.0 c.if-not-branch.false in
    let h = asked.layers v i (omega (arith, c.nodes.ensures.value)) in
    let few = cond_le (has_layer c.args.net.now c.args.limits.now v i) in
    omega arith

pub rows_bound-requires-clause-placed : goal.rows_bound-requires-clause-placed
rows_bound-requires-clause-placed c =
    let net = c.args.net.now in
    let limits = c.args.limits.now in
    let rows = c.args.h.now.layers in
    let counts = c.in_ok-counts.counts.items in
    let places = c.in_ok-places.places.items in
    let asked : RowsAreAsked net limits c.args.h.now = c.in_ok-rows_are_asked.ensures.0 c.if-not-branch.false in
    let nodes : c.nodes.result ≡ net.nodes = c.nodes.ensures.value in
    let len : length places ≡ net.nodes * (MAX_HOPS + 1) = omega (arith, c.in_ok-places.ensures.len, nodes) in
    let all : ArePlaces net.nodes counts rows places =
    placed net limits counts places rows c.in_ok-counts.ensures c.requires.proof.layers asked.layers len (λ v i lv li one. c.in_ok-places.ensures.value v i (omega (arith, nodes)) li one) in
    let first : ArePlaces net.nodes c.deref-3.result.now rows places = subst (λ (l : List ℕ). ArePlaces net.nodes l rows places) (sym c.deref-3.ensures.value) all in
    subst (λ (l : List ℕ). ArePlaces net.nodes c.deref-3.result.now rows l) (sym c.deref-2.ensures.value) first

pub returns-then-not-rows_bound : goal.returns-then-not-rows_bound
returns-then-not-rows_bound c =
    let net = c.args.net.now in
    let limits = c.args.limits.now in
    let h = c.requires.holds in
    let asked : RowsAreAsked net limits c.args.h.now = c.in_ok-rows_are_asked.ensures.0 c.if-not-branch.false in
    let are : AreCounts net limits c.deref-3.result.now = subst (λ (l : List ℕ). AreCounts net limits l) (sym c.deref-3.ensures.value) c.in_ok-counts.ensures in
    let test = c.rows_bound.ensures limits are in
    let no : RowsBound net limits c.args.h.now → ⊥ = λ bound. (let yes : c.rows_bound.result ≡ true = test.1 bound in absurd cc) in
    record {
      verdict = ((h.0, (h.1.0, (h.1.1.0, (h.1.1.1.0, (h.1.1.1.1.0, (asked, tt)))))), no);
      certifies = tt;
    }

pub returns : goal.returns
returns c =
    let net = c.args.net.now in
    let limits = c.args.limits.now in
    let p = c.args.h.now in
    let h = c.requires.holds in
    let asked : RowsAreAsked net limits p = c.in_ok-rows_are_asked.ensures.0 c.if-not-branch.false in
    let are : AreCounts net limits c.deref-3.result.now = subst (λ (l : List ℕ). AreCounts net limits l) (sym c.deref-3.ensures.value) c.in_ok-counts.ensures in
    let test = c.rows_bound.ensures limits are in
    let bound : RowsBound net limits p = test.0 c.if-not-rows_bound.false in
    let num : c.volume.result ≡ volume net.cells (lengths_in net p.proof.dual) =
    c.volume.ensures.value ∙ ap (λ (l : List Cell). volume l c.args.lengths.now) c.cells.ensures.value ∙ ap (volume net.cells) c.requires.lengths in
    let upper : Fraction = record { num = c.volume.result; den = c.in_ok-den.den } in
    let same : upper ≡ hop_upper_of net limits (dual_of p) = let den = c.in_ok-den.ensures.value in cc in
    let first = c.figures.ensures net limits c.requires.lower.0 same (h.0, (h.1.0, (h.1.1.0, (h.1.1.1.0, (h.1.1.1.1.0, (asked, (bound, tt))))))) in
    let second : IsVerdictBy (HopHolds net limits p) (lower_of p.proof.routing) upper p.proof.closed c.figures.result =
    subst (λ (l : Fraction). IsVerdictBy (HopHolds net limits p) l upper p.proof.closed c.figures.result) c.requires.lower.0 first in
    let third : IsVerdictBy (HopHolds net limits p) (lower_of p.proof.routing) (hop_upper_of net limits (dual_of p)) p.proof.closed c.figures.result =
    subst (λ (u : Fraction). IsVerdictBy (HopHolds net limits p) (lower_of p.proof.routing) u p.proof.closed c.figures.result) same second in
    record {
      verdict = third;
      certifies = verdict_certifies net limits p (lower_of p.proof.routing) (hop_upper_of net limits (dual_of p)) p.proof.closed c.figures.result c.nodes.ensures.net third;
    }
