use Rattle.std.proofs.Common.{◌≡◌, ℕ, ◌*◌, List, length, sym, ap, ◌∙◌, subst, arith}
use Rattle.std.proofs.lemmas.List.{length-replicate}
use Rattle.std.proofs.lemmas.List.Elements.{All-weaker}
use Rattle.dual_bound.specs.Rows.{IsBlank, IsRoom}
use Rattle.flow_model.specs.declared.net.Cell.{Cell}
use Rattle.flow_solver.specs.Rows.{HistoryView, AreRowsFor}
use Rattle.mcf_limits.specs.declared.TheConstants.{MAX_TOTAL}
use Rattle.flow_solver.proofs.Routing.{no-loads, none-above, idle-hands}
use Rattle.flow_solver.proofs.search.new_search.Goals as goal

pub returns-clause-search : goal.returns-clause-search
returns-clause-search c =
    let net = c.args.net.now in
    let value = c.new.ensures.value in
    let items = c.in_ok-zeros.field-0.items in
    let zeros = c.in_ok-zeros.ensures in
    let cells = ap (λ (xs : List Cell). length xs) c.cells-cells.ensures.value in
    let count : length c.in_ok-new_hands.field-0.items ≡ c.args.workers = c.in_ok-new_hands.ensures.count in
    let again : length c.in_ok-new_hands-2.field-0.items ≡ c.args.workers = c.in_ok-new_hands-2.ensures.count in
    record {
      loads = zeros ∙ no-loads net (length c.cells-cells.result.now) cells;
      small = none-above items (length c.cells-cells.result.now) (0 * MAX_TOTAL) zeros;
      room = record {
        lengths = ap (λ (xs : List ℕ). length xs) c.in_ok-zeros-2.ensures ∙ length-replicate (length c.cells-cells.result.now) 0 ∙ cells;
        kept = tt;
        rows = record {
          demands = c.in_ok-source_rows.ensures.demands;
          each = All-weaker (IsBlank net.nodes) (IsRoom net.nodes) (λ row b. b.room) c.in_ok-source_rows.field-0.items c.in_ok-source_rows.ensures.blank;
        };
      };
      hands = record {
        last = idle-hands net c.in_ok-new_hands.field-0.items (omega (arith, count)) (omega (arith, count)) (λ k d l. c.in_ok-new_hands.ensures.fresh k d (omega (arith, count)));
        spare = idle-hands net c.in_ok-new_hands-2.field-0.items (omega (arith, again)) (omega (arith, again)) (λ k d l. c.in_ok-new_hands-2.ensures.fresh k d (omega (arith, again)));
        pairs = again ∙ sym count;
      };
      commodities = ap (λ (h : HistoryView). h.commodities) value;
      rows = subst (λ (h : HistoryView). AreRowsFor net h.history h.rows) (sym value) c.new.ensures.rows;
    }
