use Rattle.std.proofs.Common.{◌≡◌, ◌*◌, ◌/◌, ◌^◌, ℕ, arith}
use Rattle.fixed_exp.specs.Kept.{HasExponentRate, cell_at}
use Rattle.fixed_exp.specs.declared.rates.Rate.{Rate}
use Rattle.fixed_exp.proofs.Passes.{rates_more}
use Rattle.fixed_exp.proofs.length_table.put_rates.Goals as goal

pub loop-i-preserved : goal.loop-i-preserved
loop-i-preserved c =
    let cells = c.args.cells.now in
    let P : ℕ → Rate → Type 0 = λ k r. r.length ≡ 2 ^ 52 * c.args.least / (cell_at cells k).cap in
    let Q : ℕ → Rate → Type 0 = λ k r. HasExponentRate c.args.scale.now.setting (cell_at cells k) r in
    record {
      done = rates_more P c.loop-i.into c.loop-i.i c.rate.result (omega arith) c.rate.ensures.length c.loop-i.invariant.done;
      exponents = rates_more Q c.loop-i.into c.loop-i.i c.rate.result (omega arith) c.rate.ensures.exponent c.loop-i.invariant.exponents;
    }

pub returns : goal.returns
returns c = record { count = omega arith; each = λ k l. c.loop-i.invariant.done k (omega arith); exponents = λ k l. c.loop-i.invariant.exponents k (omega arith) }
