use Rattle.std.proofs.Common.{◌≤◌, inr, refl, rules}
use Rattle.cert_lines.specs.declared.net_line.TheConstants.{MAX_COUNT}
use Rattle.base_cmd.specs.declared.outcome.Outcome.TheVariants as outcomes
use Rattle.base_cmd.specs.Answer.{answer_of}
use Rattle.base_cmd.specs.Files.{AreTextRows}
use Rattle.throughput_cmd.specs.declared.solving.PartSolving.TheVariants.{Done, Refused, TooMuch}
use Rattle.net_solve.specs.Asked.{turn_options_for}
use Rattle.throughput_cmd.specs.Parts.{IsPartSolving, asked_of, part_answer}
use Rattle.throughput_cmd.proofs.Made.{done_is}
use Rattle.throughput_cmd.proofs.writing.solve_and_tell.Goals as goal

pub write_solved-requires-clause-of : goal.write_solved-requires-clause-of
write_solved-requires-clause-of g c =
    let rows = c.args.rows.now in
    let request = c.args.request.now in
    let done : IsPartSolving rows request.net (asked_of request) (Done c.in-Ok-Done.net c.in-Ok-Done.p) = search rules in
    record { well = c.requires.rows; options = request.net; scaled = (done_is rows request.net (asked_of request) c.in-Ok-Done.net c.in-Ok-Done.p done).0 }

pub write_solved-requires-clause-solved : goal.write_solved-requires-clause-solved
write_solved-requires-clause-solved g c =
    let rows = c.args.rows.now in
    let request = c.args.request.now in
    let net = c.in-Ok-Done.net in
    let done : IsPartSolving rows request.net (asked_of request) (Done net c.in-Ok-Done.p) = search rules in
    (turn_options_for net.net (asked_of request), (done_is rows request.net (asked_of request) net c.in-Ok-Done.p done).1)

pub returns-in-Ok-Done : goal.returns-in-Ok-Done
returns-in-Ok-Done g c =
    let rows = c.args.rows.now in
    let request = c.args.request.now in
    let few : rows.skipped ≤ MAX_COUNT = search rules in
    let told : AreTextRows rows = record { well = c.requires.rows; counted = few } in
    let is : IsPartSolving rows request.net (asked_of request) (Done c.in-Ok-Done.net c.in-Ok-Done.p) = search rules in
    (part_answer rows c.in-Ok-Done.net c.in-Ok-Done.p, inr (Done c.in-Ok-Done.net c.in-Ok-Done.p, is, refl, told), c.write_solved.ensures)

pub returns-in-Ok-Refused : goal.returns-in-Ok-Refused
returns-in-Ok-Refused g c =
    let rows = c.args.rows.now in
    let request = c.args.request.now in
    let few : rows.skipped ≤ MAX_COUNT = search rules in
    let told : AreTextRows rows = record { well = c.requires.rows; counted = few } in
    let is : IsPartSolving rows request.net (asked_of request) (Refused c.in-Ok-Refused.refusal) = search rules in
    (answer_of (outcomes.NetRefused c.in-Ok-Refused.refusal), inr (Refused c.in-Ok-Refused.refusal, is, refl, told), c.tell.ensures)

pub returns-in-Ok-TooMuch : goal.returns-in-Ok-TooMuch
returns-in-Ok-TooMuch g c =
    let rows = c.args.rows.now in
    let request = c.args.request.now in
    let few : rows.skipped ≤ MAX_COUNT = search rules in
    let told : AreTextRows rows = record { well = c.requires.rows; counted = few } in
    let is : IsPartSolving rows request.net (asked_of request) (TooMuch c.in-Ok-TooMuch.work) = search rules in
    (answer_of (outcomes.TooMuch c.in-Ok-TooMuch.work), inr (TooMuch c.in-Ok-TooMuch.work, is, refl, told), c.tell-in-Ok-TooMuch.ensures)
