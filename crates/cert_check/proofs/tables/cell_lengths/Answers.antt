use Rattle.std.proofs.Common.{◌≡◌, take, ap, ◌∙◌, ◌<◌, ◌≤◌, length, get_or, eqb, arith}
use Rattle.std.specs.Prelude.{count_by}
use Rattle.std.proofs.lemmas.List.{length-set, take_all}
use Rattle.std.proofs.lemmas.List.FromFn.{fill_by_all}
use Rattle.flow_paths.specs.Certificate.{length_of}
use Rattle.std.proofs.lemmas.List.Elements.{All-set}
use Rattle.flow_paths.specs.DualRows.{no_length}
use Rattle.cert_check.proofs.Counting.{valued}
use Rattle.cert_check.proofs.tables.cell_lengths.Goals as goal
use Rattle.mcf_limits.specs.declared.TheConstants.{MAX_LENGTH}

pub loop-i-preserved : goal.loop-i-preserved
loop-i-preserved c =
    let rows = c.args.dual.now.lengths in
    let table = c.loop-i.table.items in
    let i = c.loop-i.i in
    let at = c.length-cell.result.0 in
    let lt : i < length rows = omega arith in
    let named : (get_or rows i no_length).cell < c.args.cells = c.requires.named i no_length lt in
    let inside : at < length table = omega arith in
    let once : count_by (λ r. eqb r.cell at) rows ≤ 1 = let h = c.requires.once at (omega arith) in omega arith in
    record {
      len = rw length-set c.loop-i.invariant.len;
      value = λ j below. valued (λ r. r.cell) (λ r. r.value) rows no_length table i at c.length-cell.result.1 j lt c.length-cell.ensures.cell c.length-cell.ensures.value inside once (c.loop-i.invariant.value j below);
      limit = All-set (λ n. n ≤ MAX_LENGTH) table at c.length-cell.result.1 c.length-cell.ensures.limit c.loop-i.invariant.limit;
    }

pub returns-clause-value : goal.returns-clause-value
returns-clause-value c =
    let rows = c.args.dual.now.lengths in
    let whole : take c.loop-i.i rows ≡ rows = take_all c.loop-i.i rows (omega arith) in
    fill_by_all (length_of rows) c.loop-i.table.items c.args.cells 0 c.loop-i.invariant.len (λ j lt. c.loop-i.invariant.value j lt ∙ ap (λ rs. length_of rs j) whole)
