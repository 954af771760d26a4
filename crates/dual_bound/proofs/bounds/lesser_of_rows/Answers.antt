use Rattle.std.proofs.Common.{◌≡◌, ◌<◌, ℕ, All, arith, get_or, length, refl}
use Rattle.std.proofs.lemmas.Result.{IfOk-weaker}
use Rattle.dual_bound.specs.declared.bounds.Bounded.{Bounded}
use Rattle.dual_bound.specs.declared.rows.Row.{Row}
use Rattle.dual_bound.specs.Bounds.{IsDistance, IsLesser, lesser}
use Rattle.dual_bound.specs.Rows.{AreRoom, KeepsRoom, IsFilledWith, bounded_of}
use Rattle.dual_bound.proofs.Bounding.{bound-makes}
use Rattle.dual_bound.proofs.Demands.{filled-room, room-kept, sources-in}
use Rattle.dual_bound.proofs.Weighing.{weighed, weight-small}
use Rattle.dual_bound.proofs.bounds.lesser_of_rows.Goals as goal

pub lesser-requires-clause-divides : goal.lesser-requires-clause-divides
lesser-requires-clause-divides c =
    let net = c.args.net.now in
    let filled : All (IsFilledWith net.nodes (IsDistance net.cells c.args.lengths.now)) c.args.rows.now = λ k d l. c.requires.distances k d l (c.if-are_filled.ensures.0 refl k d l) in
    (bound-makes net c.args.lengths.now c.args.rows.now c.cells-cells.ensures.net c.requires.lengths c.requires.empty (sources-in net c.args.rows.now c.requires.demands) filled).divides

pub lesser-requires-clause-weighted : goal.lesser-requires-clause-weighted
lesser-requires-clause-weighted c =
    let net = c.args.net.now in
    let filled : All (IsFilledWith net.nodes (IsDistance net.cells c.args.lengths.now)) c.args.rows.now = λ k d l. c.requires.distances k d l (c.if-are_filled.ensures.0 refl k d l) in
    weighed net c.args.rows.now (IsDistance net.cells c.args.lengths.now) c.cells-cells.ensures.net c.requires.demands filled

pub lesser-requires-clause-limit : goal.lesser-requires-clause-limit
lesser-requires-clause-limit c =
    let net = c.args.net.now in
    let filled : All (IsFilledWith net.nodes (IsDistance net.cells c.args.lengths.now)) c.args.rows.now = λ k d l. c.requires.distances k d l (c.if-are_filled.ensures.0 refl k d l) in
    weight-small net c.args.rows.now (IsDistance net.cells c.args.lengths.now) c.cells-cells.ensures.net c.requires.demands filled

pub returns-then-are_filled-clause-rows : goal.returns-then-are_filled-clause-rows
returns-then-are_filled-clause-rows c =
    let net = c.args.net.now in
    let rows = c.args.rows.now in
    let filled : All (IsFilledWith net.nodes (IsDistance net.cells c.args.lengths.now)) rows = λ k d l. c.requires.distances k d l (c.if-are_filled.ensures.0 refl k d l) in
    let room = filled-room net rows (IsDistance net.cells c.args.lengths.now) c.cells-cells.ensures.net c.requires.demands filled in
    let new = c.lesser.new.rows in
    let Kept : Type 0 = (k : ℕ) (d : Row) → k < length rows → KeepsRoom (get_or rows k d) (get_or new k d) in
    IfOk-weaker c.lesser.result (λ (b : Bounded). Kept) (λ (b : Bounded). AreRoom net new) (λ b kept. room-kept net rows new (omega arith) kept (record { demands = c.requires.demands; each = room })) c.lesser.ensures.rows

pub returns-then-are_filled-clause-lesser : goal.returns-then-are_filled-clause-lesser
returns-then-are_filled-clause-lesser c =
    let net = c.args.net.now in
    let lengths = c.args.lengths.now in
    let rows = c.args.rows.now in
    let filled : All (IsFilledWith net.nodes (IsDistance net.cells lengths)) rows = λ k d l. c.requires.distances k d l (c.if-are_filled.ensures.0 refl k d l) in
    let made = bound-makes net lengths rows c.cells-cells.ensures.net c.requires.lengths c.requires.empty (sources-in net rows c.requires.demands) filled in
    let later = bounded_of net lengths rows in
    IfOk-weaker c.lesser.result (λ (b : Bounded). b ≡ lesser c.args.earlier later) (λ (b : Bounded). IsLesser net lengths c.args.earlier b)
    (λ b e. (later, (made.dual, made.shows, refl), e)) c.lesser.ensures.lesser
