use Rattle.std.proofs.Common.{◌≡◌, List, sym, subst}
use Rattle.std.proofs.lemmas.Result.{IfOk-weaker}
use Rattle.dual_bound.specs.declared.rows.Row.{Row}
use Rattle.dual_bound.specs.Bounds.{IsDistance}
use Rattle.hop_check.specs.Layers.{HopDual}
use Rattle.hop_solve.specs.declared.bounds.HopBound.{HopBound}
use Rattle.hop_solve.specs.declared.layering.Numbers.TheVariants.{Lengths}
use Rattle.hop_solve.specs.Run.{IsHopBoundOf}
use Rattle.hop_solve.specs.Numbers.{IsNumber, hop_dual_of, CanWeigh}
use Rattle.hop_solve.proofs.Weighs.{AreMade, made_dual, bound-made, bound-weighs}
use Rattle.hop_solve.proofs.bounds.bound_of.Goals as goal

pub finished-requires-clause-weighs : goal.finished-requires-clause-weighs
finished-requires-clause-weighs c =
    let net = c.args.on.now.net.now in
    let limits = c.args.on.now.limits.now in
    let lengths = c.args.lengths.now in
    let layers = c.in_ok-layers.layers in
    let made : AreMade net limits (IsDistance net.cells lengths) (IsNumber Lengths net.cells lengths) c.in_ok-rows.rows.items layers =
    record { sources = c.in_ok-rows.ensures.sources; filled = c.in_ok-rows.ensures.filled; places = c.in_ok-layers.ensures.places; layered = c.in_ok-layers.ensures.layers } in
    subst (λ (rows : List Row). CanWeigh net limits lengths (made_dual lengths rows layers)) (sym c.deref.ensures.value)
    (bound-weighs net limits lengths c.in_ok-rows.rows.items layers c.nodes-nodes.ensures.net c.requires.limits c.requires.lengths c.requires.empty made)

pub returns-clause-dual : goal.returns-clause-dual
returns-clause-dual c =
    let net = c.args.on.now.net.now in
    let limits = c.args.on.now.limits.now in
    let lengths = c.args.lengths.now in
    let layers = c.in_ok-layers.layers in
    let made : AreMade net limits (IsDistance net.cells lengths) (IsNumber Lengths net.cells lengths) c.in_ok-rows.rows.items layers =
    record { sources = c.in_ok-rows.ensures.sources; filled = c.in_ok-rows.ensures.filled; places = c.in_ok-layers.ensures.places; layered = c.in_ok-layers.ensures.layers } in
    let bound : IsHopBoundOf net limits lengths (made_dual lengths c.deref.result.now layers) =
    subst (λ (rows : List Row). IsHopBoundOf net limits lengths (made_dual lengths rows layers)) (sym c.deref.ensures.value) (bound-made net limits lengths c.in_ok-rows.rows.items layers made) in
    IfOk-weaker c.finished.result (λ (b : HopBound). hop_dual_of b ≡ made_dual lengths c.deref.result.now layers) (λ (b : HopBound). IsHopBoundOf net limits lengths (hop_dual_of b))
    (λ b e. subst (λ (d : HopDual). IsHopBoundOf net limits lengths d) (sym e) bound) c.finished.ensures.dual
