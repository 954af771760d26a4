use Rattle.std.proofs.Common.{arith, sym, ◌∙◌, ◌≡◌, ℕ, Bool, cond, get_or, refl, subst}
use Rattle.std.specs.Prelude.{All}
use Rattle.hop_paths.specs.Allowed.{is_unlimited}
use Rattle.dual_bound.specs.Rows.{IsBlank, sources_of}
use Rattle.dual_bound.proofs.Sources.{sources-more}
use Rattle.hop_solve.proofs.unlimited.blank_rows.Goals as goal

pub loop-v-preserved : goal.loop-v-preserved
loop-v-preserved c =
    let on = c.args.on.now in
    let v = c.loop-v.v in
    let p : ℕ → Bool = is_unlimited on.net.now on.limits.now in
    let mark : get_or on.marks.now v 0 ≡ cond {A = ℕ} (p v) 1 0 = on.marks_are v (omega arith) in
    record {
      sources = c.in_ok-append_row.ensures.sources (p v) mark ∙ sources-more p v (sources_of c.loop-v.rows.items) (p v) refl c.loop-v.invariant.sources;
      blank = subst (λ (n : ℕ). All (IsBlank n) c.append_row.new.rows.items) c.nodes-nodes.ensures.value
          (c.in_ok-append_row.ensures.blank (subst (λ (n : ℕ). All (IsBlank n) c.loop-v.rows.items) (sym c.nodes-nodes.ensures.value) c.loop-v.invariant.blank));
    }
