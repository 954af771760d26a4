use Rattle.std.proofs.Common.{map, ap, ◌∙◌}
use Rattle.std.specs.Prelude.{Ok, Err, Result, OnErr}
use Rattle.std.proofs.lemmas.Result.{on_ok_weaker, on_err_weaker}
use Rattle.solver_run.specs.History.{routed_in}
use Rattle.flow_solver.specs.Rows.{phases_kept}
use Rattle.flow_solver.proofs.Named.{names_below, none_routed, same_phases, noted-whole, whole}
use Rattle.flow_solver.proofs.history.PathHistory.note_phase.Goals as goal

-- what holds whatever a call answers
on_err : {T E P : Type 0} (r : Result T E) → P → OnErr r P
on_err (Ok x) p = tt
on_err (Err e) p = p

pub returns-in_err-name_rows-clause-err : goal.returns-in_err-name_rows-clause-err
returns-in_err-name_rows-clause-err c =
    let old = c.args.self.now.rows in
    let new = c.name_rows.new.self.rows in
    let h = c.args.self.now.history in
    on_err c.from_residual-in_err-name_rows.result
    (ap (map (routed_in new)) c.name_rows.ensures.history ∙ same_phases old new h c.name_rows.ensures.keeps (names_below c.args.net.now old h c.requires.can.begun.before))

pub returns-clause-noted : goal.returns-clause-noted
returns-clause-noted c =
    let net = c.args.net.now in
    let old = c.args.self.now in
    let mid = c.name_rows.new.self in
    on_ok_weaker c.append_phase.result
    (λ is. noted-whole net c.args.places.now old mid c.append_phase.new.self c.name_rows.new.entries.items c.name_rows.ensures.history c.name_rows.ensures.keeps c.requires.can.begun.before c.in_ok-name_rows.ensures.begun (c.in_ok-name_rows.ensures.count ∙ c.requires.count)
    (λ hands are. c.in_ok-name_rows.ensures.named hands are (none_routed hands old.rows c.in_ok-entries.entries.items c.in_ok-entries.ensures.items))
    (is ∙ ap (whole mid) c.deref.ensures.value)) c.append_phase.ensures.ok

pub returns-clause-err : goal.returns-clause-err
returns-clause-err c =
    let old = c.args.self.now.rows in
    let new = c.name_rows.new.self.rows in
    let h = c.args.self.now.history in
    on_err_weaker c.append_phase.result
    (λ same. ap phases_kept same ∙ (ap (map (routed_in new)) c.name_rows.ensures.history ∙ same_phases old new h c.name_rows.ensures.keeps (names_below c.args.net.now old h c.requires.can.begun.before))) c.append_phase.ensures.err
