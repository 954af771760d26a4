use Rattle.std.proofs.Common.{◌≡◌, [], take, sym, ap, ◌∙◌, arith}
use Rattle.std.specs.Option.{option_map}
use Rattle.std.proofs.Math.ListN.{length-set}
use Rattle.cert_lines.specs.Forms.{words_in}
use Rattle.cert_lines.proofs.CellSteps.{cell_on, cell_unknown, cell_over, cells_end, split_is}
use Rattle.cert_lines.proofs.paths.cells_of.Goals as goal

pub returns-in-None-clause-exact : goal.returns-in-None-clause-exact
returns-in-None-clause-exact c =
    let e : words_in (option_map (λ w. w.now) c.ids.left) ≡ [] = ap (λ o. words_in (option_map (λ w. w.now) o)) c.in-None.is in
    cells_end c.args.names.now (take c.ids.count c.ids.cells) c.ids.count _ _ e c.ids.invariant.so_far

pub returns-then-count-ge-MAX_PATH_CELLS-clause-exact : goal.returns-then-count-ge-MAX_PATH_CELLS-clause-exact
returns-then-count-ge-MAX_PATH_CELLS-clause-exact c =
    let words = split_is (λ w. w.now) c.in-Some.line.now c.split_word.result.0.now c.split_word.result.1 c.split_word.ensures.words in
    let e = ap (λ o. words_in (option_map (λ w. w.now) o)) c.in-Some.is ∙ words in
    cell_over c.args.names.now (take c.ids.count c.ids.cells) c.ids.count _ _ c.split_word.result.0.now _ c.if-count-ge-MAX_PATH_CELLS.true e c.ids.invariant.so_far

pub returns-in-None-cell_named-clause-exact : goal.returns-in-None-cell_named-clause-exact
returns-in-None-cell_named-clause-exact c =
    let words = split_is (λ w. w.now) c.in-Some.line.now c.split_word.result.0.now c.split_word.result.1 c.split_word.ensures.words in
    let e = ap (λ o. words_in (option_map (λ w. w.now) o)) c.in-Some.is ∙ words in
    cell_unknown c.args.names.now (take c.ids.count c.ids.cells) c.ids.count _ _ c.split_word.result.0.now _ c.if-count-ge-MAX_PATH_CELLS.false e (sym c.in-None-cell_named.ensures) c.ids.invariant.so_far

pub ids-preserved : goal.ids-preserved
ids-preserved c =
    let words = split_is (λ w. w.now) c.in-Some.line.now c.split_word.result.0.now c.split_word.result.1 c.split_word.ensures.words in
    let e = ap (λ o. words_in (option_map (λ w. w.now) o)) c.in-Some.is ∙ words in
    record {
      so_far = cell_on c.args.names.now c.ids.cells c.ids.count _ _ c.split_word.result.0.now c.in-Some-cell_named.cell _ c.if-count-ge-MAX_PATH_CELLS.false c.ids.invariant.len e (sym c.in-Some-cell_named.ensures) c.ids.invariant.so_far;
      room = omega arith;
      len = simp length-set c.ids.invariant.len;
    }
