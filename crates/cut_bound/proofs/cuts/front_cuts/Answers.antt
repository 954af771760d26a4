use Rattle.std.proofs.Common.{◌≡◌, ◌∙◌, ℕ, ◌+◌, ◌<◌, List, length, get_or, map, sym, ap, subst, arith}
use Rattle.std.specs.Prelude.{◌↔◌}
use Rattle.std.proofs.lemmas.Result.{IfOk-weaker}
use Rattle.flow_model.specs.declared.net.Cell.{Cell}
use Rattle.cut_bound.specs.declared.choice.SummedCut.{SummedCut}
use Rattle.cut_bound.specs.Candidates.{AreLevels}
use Rattle.cut_bound.specs.Search.{front_cut, level_cut}
use Rattle.cut_bound.specs.Sums.{leaving, rank_front, total_capacity}
use Rattle.cut_bound.proofs.Adding.{if-both}
use Rattle.cut_bound.proofs.Leaving.{cells-total}
use Rattle.cut_bound.proofs.Levelling.{cuts-are}
use Rattle.cut_bound.proofs.cuts.front_cuts.Goals as goal

pub front_sums-requires-clause-total : goal.front_sums-requires-clause-total
front_sums-requires-clause-total c = omega (arith, ap total_capacity c.cells-cells.ensures.value, cells-total c.args.net.now c.cells-cells.ensures.net)

pub returns : goal.returns
returns c =
    let net = c.args.net.now in
    let demands = c.args.demands.now in
    let values = c.args.values.now in
    let row = c.args.row in
    let ranks = c.in_ok-ranks.ranks.items in
    let levels = c.deref-4.result.now in
    let out = c.deref-5.result.now in
    let over = c.deref-6.result.now in
    let count : length levels ≡ c.len-count.result = omega (arith, c.len-count.ensures, c.deref-4.ensures.len, ap length c.deref-4.ensures.value) in
    let are : AreLevels values levels = subst (λ (xs : List ℕ). AreLevels values xs) (sym c.deref-4.ensures.value) c.in_ok-levels.ensures.levels in
    let below : (v : ℕ) → v < length values → (i : ℕ) → i < length levels → (get_or ranks v 0 < i + 1) ↔ (get_or values v 0 < get_or levels i 0)
    = subst (λ (xs : List ℕ). (v : ℕ) → v < length values → (i : ℕ) → i < length xs → (get_or ranks v 0 < i + 1) ↔ (get_or values v 0 < get_or xs i 0)) (c.deref.ensures.value ∙ sym c.deref-4.ensures.value) c.in_ok-ranks.ensures.below in
    let outs : (j : ℕ) → j < length levels + 1 → get_or out j 0 ≡ leaving (rank_front (λ v. get_or ranks v 0) j) net.cells
    = λ j l. ap (λ (xs : List ℕ). get_or xs j 0) c.deref-5.ensures.value ∙ (c.in_ok-leaving.ensures.each j (omega arith)
    ∙ (ap (λ (rs : List ℕ). leaving (rank_front (λ v. get_or rs v 0) j) c.cells-cells.result.now) c.deref-2.ensures.value ∙ ap (λ (cs : List Cell). leaving (rank_front (λ v. get_or ranks v 0) j) cs) c.cells-cells.ensures.value)) in
    let overs : (j : ℕ) → j < length levels + 1 → get_or over j 0 ≡ leaving (rank_front (λ v. get_or ranks v 0) j) demands
    = λ j l. ap (λ (xs : List ℕ). get_or xs j 0) c.deref-6.ensures.value ∙ (c.in_ok-crossing.ensures.each j (omega arith) ∙ ap (λ (rs : List ℕ). leaving (rank_front (λ v. get_or rs v 0) j) demands) c.deref-3.ensures.value) in
    let Each : List SummedCut → Type 0 = λ xs. (i : ℕ) (d : SummedCut) → i < length levels → get_or xs i d ≡ front_cut row (get_or levels i 0) (get_or out (i + 1) 0) (get_or over (i + 1) 0) in
    IfOk-weaker c.cuts_at.result (λ v. (length v.items ≡ length levels) × Each v.items) (λ v. (ts : List ℕ) × AreLevels values ts × (v.items ≡ map (level_cut net.cells demands row values) ts))
    (λ v e. (levels, are, cuts-are net.cells demands row values ranks levels out over net.nodes v.items c.cells-cells.ensures.net.cells c.requires.demands c.requires.values below outs overs e.0 e.1))
    (if-both c.cuts_at.result (λ v. length v.items ≡ length levels) (λ v. Each v.items) c.cuts_at.ensures.len c.cuts_at.ensures.each)
