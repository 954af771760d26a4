use Rattle.std.proofs.Common.{◌≡◌, ◌+◌, ◌≤◌, length, take}
use Rattle.std.specs.Prelude.{All}
use Rattle.std.specs.Option.{option_map}
use Rattle.mcf_limits.specs.declared.TheConstants.{MAX_LENGTH}
use Rattle.cert_lines.specs.Forms.{words_in}
use Rattle.cert_lines.specs.Rows.{potentials_from}
use Rattle.cert_lines.proofs.ValueSteps.{with_values}
use Rattle.cert_lines.proofs.potentials.potentials_of.Given as goal

abbrev pub invariant-values : goal.invariant-values
invariant-values l = record {
  so_far : with_values (take l.count l.values) (potentials_from (words_in (option_map (λ w. w.now) l.left))) ≡ potentials_from (words_in (option_map (λ w. w.now) l.fn.words));
  room : l.count + length (words_in (option_map (λ w. w.now) l.left)) ≡ length l.values;
  small : All (λ n. n ≤ MAX_LENGTH) (take l.count l.values);
}

abbrev pub decreases-values : goal.decreases-values
decreases-values l = length (words_in (option_map (λ w. w.now) l.left))
