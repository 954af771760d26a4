use Rattle.std.proofs.Common.{◌≡◌, ◌∙◌, ap, sym, subst, arith, length, ◌≤◌, map, List, ℕ, All}
use Rattle.std.specs.Arc.{arc_value}
use Rattle.std.specs.List.{range_with_len}
use Rattle.flow_model.specs.declared.net.Cell.{Cell}
use Rattle.flow_model.specs.Network.{Network}
use Rattle.flow_paths.specs.declared.certificate.Proof.{Proof}
use Rattle.flow_paths.specs.Certificate.{length_of, lengths_in}
use Rattle.whatif.specs.declared.ratio.Ratio.{Ratio}
use Rattle.whatif.specs.declared.ratio.TheConstants.{MAX_LOAD}
use Rattle.whatif.specs.Ratios.{ratios}
use Rattle.whatif.specs.Planned.{IsKept}
use Rattle.whatif.proofs.Filling.{ratios-length}
use Rattle.whatif.proofs.Starting.{all_loads, loads_small, kept_new}
use Rattle.whatif.proofs.plan.Plan.new.Goals as goal

pub cell_lengths-requires-clause-once : goal.cell_lengths-requires-clause-once
cell_lengths-requires-clause-once c = λ j lt. c.requires.valid.lengths.each j (omega (arith, ap length c.cells-cells.ensures.value))

pub ratios_of-requires-clause-small : goal.ratios_of-requires-clause-small
ratios_of-requires-clause-small c =
    let net = c.args.net.now in
    let proof = c.args.proof.now in
    let loads = c.in_ok-loads.loads.items in
    let count = ap length c.cells-cells.ensures.value in
    let is = all_loads net proof loads (c.in_ok-loads.ensures.len ∙ count) (λ j lt. c.in_ok-loads.ensures.value j (omega arith)) in
    subst (λ (l : List ℕ). All (λ n. n ≤ MAX_LOAD) l) (sym c.deref.ensures.value) (loads_small net proof loads c.cells-cells.ensures.net c.requires.proof c.requires.valid is)

pub new-requires-clause-few : goal.new-requires-clause-few
new-requires-clause-few c =
    let cells = c.cells-cells.result.now in
    let count = ap length c.cells-cells.ensures.value in
    let loads : length c.deref.result.now ≡ length cells = ap length c.deref.ensures.value ∙ c.in_ok-loads.ensures.len in
    let size = ap length c.deref-2.ensures.value ∙ (ap length c.in_ok-ratios_of.ensures.value ∙ ratios-length 0 cells c.deref.result.now loads) in
    omega (arith, c.cells-cells.ensures.net.cell_count)

pub invariant_of-result : goal.invariant_of-result
invariant_of-result c =
    let net = c.args.net.now in
    let proof = c.args.proof.now in
    let loads = c.in_ok-loads.loads.items in
    let lengths = c.in_ok-lengths.lengths.items in
    let count = ap length c.cells-cells.ensures.value in
    let loads_are = all_loads net proof loads (c.in_ok-loads.ensures.len ∙ count) (λ j lt. c.in_ok-loads.ensures.value j (omega arith)) in
    let lengths_are : lengths ≡ lengths_in net proof.dual = c.in_ok-lengths.ensures.value ∙ ap (λ n. map (length_of proof.dual.lengths) (range_with_len 0 n)) count in
    let tree_is : c.in_ok-tree.tree ≡ ratios 0 net.cells loads = c.in_ok-tree.ensures ∙ (c.deref-2.ensures.value ∙ (c.in_ok-ratios_of.ensures.value ∙ (ap (λ (cells : List Cell). ratios 0 cells c.deref.result.now) c.cells-cells.ensures.value ∙ ap (ratios 0 net.cells) c.deref.ensures.value))) in
    let caps_are : c.in_ok-caps.caps.items ≡ map (λ c. c.cap) net.cells = c.in_ok-caps.ensures ∙ ap (λ (cells : List Cell). map (λ c. c.cap) cells) c.cells-cells.ensures.value in
    let kept = kept_new net proof loads lengths c.cells-cells.ensures.net c.requires.proof c.requires.valid c.rows-rows.ensures.limits loads_are lengths_are c.in_ok-lengths.ensures.limit in
    let with_tree = subst (λ (t : List Ratio). IsKept (record { net = net; proof = proof; caps = map (λ c. c.cap) net.cells }) loads lengths t proof.upper.num proof.upper.den) (sym tree_is) kept in
    let with_caps = subst (λ (l : List ℕ). IsKept (record { net = net; proof = proof; caps = l }) loads lengths c.in_ok-tree.tree proof.upper.num proof.upper.den) (sym caps_are) with_tree in
    let net_is : (arc_value c.in_ok-new.field-0).net.value ≡ net = ap (λ s. s.net.value) c.in_ok-new.ensures.ok ∙ c.of.ensures in
    let proof_is : (arc_value c.in_ok-new.field-0).proof.value ≡ proof = ap (λ s. s.proof.value) c.in_ok-new.ensures.ok ∙ c.of-2.ensures in
    let with_net = subst (λ (n : Network). IsKept (record { net = n; proof = proof; caps = c.in_ok-caps.caps.items }) loads lengths c.in_ok-tree.tree proof.upper.num proof.upper.den) (sym net_is) with_caps in
    let with_proof = subst (λ (p : Proof). IsKept (record { net = (arc_value c.in_ok-new.field-0).net.value; proof = p; caps = c.in_ok-caps.caps.items }) loads lengths c.in_ok-tree.tree proof.upper.num proof.upper.den) (sym proof_is) with_net in
    (ap (λ (p : Proof). p.routing.phases) (sym proof_is), with_proof)
