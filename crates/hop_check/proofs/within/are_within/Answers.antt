use Rattle.std.proofs.Common.{◌≡◌, take, rules, arith}
use Rattle.std.proofs.lemmas.List.{take_all}
use Rattle.std.proofs.lemmas.List.Elements.{All-more}
use Rattle.flow_paths.specs.PathRows.{row_at, no_row}
use Rattle.hop_paths.specs.Allowed.{limit_at, IsWithin, AreWithin}
use Rattle.hop_check.proofs.within.are_within.Goals as goal

pub loop-row-preserved : goal.loop-row-preserved
loop-row-preserved c =
    let limits = c.args.limits.now in
    let here : IsWithin (limit_at limits (row_at c.args.paths.now c.loop-row.row).commodity) (row_at c.args.paths.now c.loop-row.row).walk = search rules in
    All-more (λ row. IsWithin (limit_at limits row.commodity) row.walk) c.args.paths.now c.loop-row.row no_row (omega arith) c.loop-row.invariant here

pub returns : goal.returns
returns c =
    let whole : take c.loop-row.row c.args.paths.now ≡ c.args.paths.now = take_all c.loop-row.row c.args.paths.now (omega arith) in
    let all : AreWithin c.args.limits.now c.args.paths.now = rw whole at c.loop-row.invariant in
    search rules
