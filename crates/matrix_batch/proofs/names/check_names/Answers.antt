use Rattle.std.proofs.Common.{◌≡◌, ℕ, ◌+◌, ◌∷◌, ◌++◌, [], List, Bor, None, refl, ap, sym, subst, ◌∙◌, map, drop}
use Rattle.sndlib_grammar.specs.Faults.{line_of, first_repeated}
use Rattle.sndlib_rows.specs.Views.{bytes_of}
use Rattle.sndlib_rows.proofs.Naming.{not_true, not_false, if_false}
use Rattle.matrix_batch.specs.declared.list_refusal.ListKind.TheVariants.{Duplicate}
use Rattle.matrix_batch.specs.Faults.{repeated}
use Rattle.matrix_batch.specs.declared.kept.DemandWords.{DemandWords}
use Rattle.matrix_batch.specs.declared.read_end.ReadListEnd.{ReadListEnd}
use Rattle.matrix_batch.specs.Lists.{at_line}
use Rattle.matrix_batch.specs.Names.{IsEnd}
use Rattle.matrix_batch.specs.Stored.{demand_ids}
use Rattle.matrix_batch.specs.ReadViews.{demand_view, entry_view}
use Rattle.matrix_batch.proofs.Naming.{new_name, old_name, repeated_id}
use Rattle.matrix_batch.proofs.names.check_names.Goals as goal

pub returns-then-not-added : goal.returns-then-not-added
returns-then-not-added c =
    let ms = c.args.matrices.now in
    let found = old_name c.loop-matrix.names.keys ms c.loop-matrix.matrix-index c.matrix-item.result c.loop-matrix-test.true c.matrix-item.is (not_false _ (sym c.in-Ok.ensures.added ∙ c.if-not-added.true)) in
    subst (λ (e : ReadListEnd). IsEnd Duplicate (repeated [] (map entry_view ms)) e) (sym c.duplicate.ensures)
    (ap (at_line Duplicate) (sym c.loop-matrix.invariant ∙ found))

pub returns-in-Err-check_ids : goal.returns-in-Err-check_ids
returns-in-Err-check_ids c =
    let ms = c.args.matrices.now in
    let m = c.matrix-item.result in
    let new = not_true _ (sym c.in-Ok.ensures.added ∙ c.if-not-added.false) in
    let own = line_of (first_repeated [] (demand_ids (map demand_view m.demands.items))) in
    let left = new_name c.loop-matrix.names.keys ms c.loop-matrix.matrix-index m own c.loop-matrix-test.true c.matrix-item.is new refl in
    repeated_id own _ _ c.in-Err-check_ids.e (sym c.loop-matrix.invariant ∙ left)
    (subst (λ (l : List DemandWords). IsEnd Duplicate (line_of (first_repeated [] (demand_ids (map demand_view l)))) c.in-Err-check_ids.e) c.deref.ensures.value c.in-Err-check_ids.ensures)

pub loop-matrix-preserved : goal.loop-matrix-preserved
loop-matrix-preserved c =
    let ms = c.args.matrices.now in
    let m = c.matrix-item.result in
    let i = c.loop-matrix.matrix-index in
    let known = c.loop-matrix.names.keys in
    let new = not_true _ (sym c.in-Ok.ensures.added ∙ c.if-not-added.false) in
    let keys : c.insert.new.self.keys ≡ known ++ m.name.text ∷ [] = c.in-Ok.ensures.keys ∙ if_false _ _ _ new in
    let none : line_of (first_repeated [] (demand_ids (map demand_view m.demands.items))) ≡ None = ap (λ (l : List DemandWords). line_of (first_repeated [] (demand_ids (map demand_view l)))) (sym c.deref.ensures.value) ∙ c.in-Ok-check_ids.ensures in
    ap (λ (ks : List (Bor (List ℕ))). repeated (bytes_of ks) (map entry_view (drop (i + 1) ms))) keys ∙ sym (new_name known ms i m None c.loop-matrix-test.true c.matrix-item.is new none) ∙ c.loop-matrix.invariant
