use Rattle.std.proofs.Common.{◌≡◌, ◌∙◌, arith}
use Rattle.dual_bound.specs.Rows.{demands_of}
use Rattle.dual_bound.proofs.Demands.{demands-kept}
use Rattle.dual_bound.proofs.bounds.refill_rows.Goals as goal

pub returns-clause-demands : goal.returns-clause-demands
returns-clause-demands c =
    let old = c.args.rows.now in
    let blank = c.blank_all.new.rows in
    let new = c.fill_rows.new.rows in
    let first : demands_of blank ≡ demands_of old = demands-kept old blank (omega arith) (λ k d l. (c.blank_all.ensures k d l).source) (λ k d l. (c.blank_all.ensures k d l).targets) in
    demands-kept blank new (omega arith) (λ k d l. (c.fill_rows.ensures k d l).source) (λ k d l. (c.fill_rows.ensures k d l).targets) ∙ first
