use Rattle.std.proofs.Common.{◌≤◌, inr, refl, rules}
use Rattle.cert_lines.specs.declared.net_line.TheConstants.{MAX_COUNT}
use Rattle.base_cmd.specs.declared.outcome.Outcome.TheVariants as outcomes
use Rattle.base_cmd.specs.Answer.{answer_of}
use Rattle.base_cmd.specs.Files.{AreTextRows}
use Rattle.hop_check.specs.Limits.{limits_of}
use Rattle.hops_cmd.specs.declared.solving.HopSolving.TheVariants.{Done, Refused, TooMuch}
use Rattle.net_solve.specs.Asked.{turn_options_for}
use Rattle.hops_cmd.specs.Hops.{IsHopSolving, asked_of, hops_answer}
use Rattle.hops_cmd.proofs.Made.{done_is}
use Rattle.hops_cmd.proofs.writing.solve_and_tell.Goals as goal

pub write_solved-requires-clause-of : goal.write_solved-requires-clause-of
write_solved-requires-clause-of g c =
    let rows = c.args.rows.now in
    let request = c.args.request.now in
    let done : IsHopSolving rows request.net (asked_of request) (Done c.in-Ok-Done.net c.in-Ok-Done.h) = search rules in
    record { well = c.requires.rows; options = request.net; scaled = (done_is rows request.net (asked_of request) c.in-Ok-Done.net c.in-Ok-Done.h done).0 }

pub write_solved-requires-clause-solved : goal.write_solved-requires-clause-solved
write_solved-requires-clause-solved g c =
    let rows = c.args.rows.now in
    let request = c.args.request.now in
    let net = c.in-Ok-Done.net in
    let done : IsHopSolving rows request.net (asked_of request) (Done net c.in-Ok-Done.h) = search rules in
    (limits_of rows net, turn_options_for net.net (asked_of request), (done_is rows request.net (asked_of request) net c.in-Ok-Done.h done).2)

pub returns-in-Ok-Done : goal.returns-in-Ok-Done
returns-in-Ok-Done g c =
    let rows = c.args.rows.now in
    let request = c.args.request.now in
    let few : rows.skipped ≤ MAX_COUNT = search rules in
    let told : AreTextRows rows = record { well = c.requires.rows; counted = few } in
    let is : IsHopSolving rows request.net (asked_of request) (Done c.in-Ok-Done.net c.in-Ok-Done.h) = search rules in
    (hops_answer rows c.in-Ok-Done.net c.in-Ok-Done.h, inr (Done c.in-Ok-Done.net c.in-Ok-Done.h, is, refl, told), c.write_solved.ensures)

pub returns-in-Ok-Refused : goal.returns-in-Ok-Refused
returns-in-Ok-Refused g c =
    let rows = c.args.rows.now in
    let request = c.args.request.now in
    let few : rows.skipped ≤ MAX_COUNT = search rules in
    let told : AreTextRows rows = record { well = c.requires.rows; counted = few } in
    let is : IsHopSolving rows request.net (asked_of request) (Refused c.in-Ok-Refused.refusal) = search rules in
    (answer_of (outcomes.NetRefused c.in-Ok-Refused.refusal), inr (Refused c.in-Ok-Refused.refusal, is, refl, told), c.tell.ensures)

pub returns-in-Ok-TooMuch : goal.returns-in-Ok-TooMuch
returns-in-Ok-TooMuch g c =
    let rows = c.args.rows.now in
    let request = c.args.request.now in
    let few : rows.skipped ≤ MAX_COUNT = search rules in
    let told : AreTextRows rows = record { well = c.requires.rows; counted = few } in
    let is : IsHopSolving rows request.net (asked_of request) (TooMuch c.in-Ok-TooMuch.work) = search rules in
    (answer_of (outcomes.TooMuch c.in-Ok-TooMuch.work), inr (TooMuch c.in-Ok-TooMuch.work, is, refl, told), c.tell-in-Ok-TooMuch.ensures)
