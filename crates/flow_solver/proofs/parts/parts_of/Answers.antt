use Rattle.std.proofs.Common.{◌≡◌, ◌++◌, ◌∷◌, [], List, All, Some, length, refl, sym, ap, ◌∙◌, subst, append_assoc, arith}
use Rattle.std.proofs.lemmas.List.Elements.{All-append}
use Rattle.std.specs.Arc.{arc_value}
use Rattle.dual_bound.specs.declared.rows.Row.{Row}
use Rattle.flow_solver.specs.declared.share.Share.TheVariants.{Part}
use Rattle.flow_solver.specs.Shares.{IsShareOf, rows_in}
use Rattle.flow_solver.proofs.Parting.{all-one, rows-push}
use Rattle.flow_solver.proofs.parts.parts_of.Goals as goal

pub loop-i-preserved : goal.loop-i-preserved
loop-i-preserved g c =
    let part = c.in_ok-part.part in
    let parts = c.loop-i.parts.items in
    let P = IsShareOf c.args.graph.now (arc_value c.args.lengths.now).items in
    let more = c.in_ok-push.ensures.items in
    let rows = c.last_part.new.rows.items in
    record {
      parts = subst (λ (ps : List _). All P ps) (sym more) (All-append P parts (Some (Part part) ∷ []) c.loop-i.invariant.parts (all-one P (Some (Part part)) c.in_ok-part.ensures.part));
      rows = ap (λ (ps : List _). rows ++ rows_in ps) more ∙ (ap (λ (rs : List Row). rows ++ rs) (rows-push parts (Some (Part part)))
          ∙ (sym (append_assoc rows part.rows.items (rows_in parts)) ∙ (ap (λ (rs : List Row). rs ++ rows_in parts) c.in_ok-part.ensures.rows ∙ c.loop-i.invariant.rows)));
      room = c.in_ok-part.ensures.room;
    }

-- what has no element
empty : {X : Type 0} (xs : List X) → length xs ≡ 0 → xs ≡ []
empty [] e = refl
empty (x ∷ xs) e = absurd (omega arith)

pub returns-clause-parts : goal.returns-clause-parts
returns-clause-parts g c =
    let rest = c.in_ok-rest.rest in
    let parts = c.loop-i.parts.items in
    let P = IsShareOf c.args.graph.now (arc_value c.args.lengths.now).items in
    subst (λ (ps : List _). All P ps) (sym c.in_ok-push-2.ensures.items) (All-append P parts (Some (Part rest) ∷ []) c.loop-i.invariant.parts (all-one P (Some (Part rest)) c.in_ok-rest.ensures.part))

pub returns-clause-rows : goal.returns-clause-rows
returns-clause-rows g c =
    let rest = c.in_ok-rest.rest in
    let parts = c.loop-i.parts.items in
    let none = empty c.last_part-2.new.rows.items (omega (arith, c.in_ok-rest.ensures.left, c.len-left.ensures)) in
    ap rows_in c.in_ok-push-2.ensures.items ∙ (rows-push parts (Some (Part rest))
    ∙ (ap (λ (rs : List Row). rs ++ rows_in parts) (sym (ap (λ (xs : List Row). xs ++ rest.rows.items) none) ∙ c.in_ok-rest.ensures.rows) ∙ c.loop-i.invariant.rows))
