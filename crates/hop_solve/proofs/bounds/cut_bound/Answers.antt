use Rattle.std.proofs.Common.{◌≡◌, ◌∙◌, ℕ, List, ap, sym, subst}
use Rattle.std.proofs.lemmas.Result.{IfOk-weaker}
use Rattle.flow_model.specs.declared.net.Cell.{Cell}
use Rattle.dual_bound.specs.declared.rows.Row.{Row}
use Rattle.dual_bound.specs.Bounds.{IsCutPotential, cut_lengths}
use Rattle.hop_check.specs.Layers.{HopDual}
use Rattle.hop_solve.specs.declared.bounds.HopBound.{HopBound}
use Rattle.hop_solve.specs.Run.{IsCutLayer, IsHopCutDual}
use Rattle.hop_solve.specs.Numbers.{hop_dual_of, CanWeigh}
use Rattle.hop_solve.proofs.Weighs.{AreMade, made_dual, marked-layers, cut-made, cut-weighs}
use Rattle.hop_solve.proofs.bounds.cut_bound.Goals as goal

pub finished-requires-clause-weighs : goal.finished-requires-clause-weighs
finished-requires-clause-weighs c =
    let net = c.args.on.now.net.now in
    let limits = c.args.on.now.limits.now in
    let layers = c.in_ok-layers.layers in
    let lengths : c.deref.result.now ≡ cut_lengths net.cells = c.deref.ensures.value ∙ (c.in_ok-cut.ensures ∙ ap (λ (cells : List Cell). cut_lengths cells) c.cells.ensures.value) in
    let made : AreMade net limits (IsCutPotential net.cells) (IsCutLayer net.cells) c.in_ok-rows.rows.items layers =
    record { sources = c.in_ok-rows.ensures.sources; filled = c.in_ok-rows.ensures.filled; places = c.in_ok-layers.ensures.places; layered = marked-layers net c.args.lengths.now layers c.in_ok-layers.ensures.layers } in
    let weighs = cut-weighs net limits c.in_ok-rows.rows.items layers c.cells.ensures.net c.requires.limits c.requires.cut made in
    subst (λ (ls : List ℕ). CanWeigh net limits ls (made_dual ls c.deref-2.result.now layers)) (sym lengths)
    (subst (λ (rows : List Row). CanWeigh net limits (cut_lengths net.cells) (made_dual (cut_lengths net.cells) rows layers)) (sym c.deref-2.ensures.value) weighs)

pub returns-clause-dual : goal.returns-clause-dual
returns-clause-dual c =
    let net = c.args.on.now.net.now in
    let limits = c.args.on.now.limits.now in
    let layers = c.in_ok-layers.layers in
    let lengths : c.deref.result.now ≡ cut_lengths net.cells = c.deref.ensures.value ∙ (c.in_ok-cut.ensures ∙ ap (λ (cells : List Cell). cut_lengths cells) c.cells.ensures.value) in
    let made : AreMade net limits (IsCutPotential net.cells) (IsCutLayer net.cells) c.in_ok-rows.rows.items layers =
    record { sources = c.in_ok-rows.ensures.sources; filled = c.in_ok-rows.ensures.filled; places = c.in_ok-layers.ensures.places; layered = marked-layers net c.args.lengths.now layers c.in_ok-layers.ensures.layers } in
    let dual : IsHopCutDual net limits (made_dual c.deref.result.now c.deref-2.result.now layers) =
    subst (λ (ls : List ℕ). IsHopCutDual net limits (made_dual ls c.deref-2.result.now layers)) (sym lengths)
    (subst (λ (rows : List Row). IsHopCutDual net limits (made_dual (cut_lengths net.cells) rows layers)) (sym c.deref-2.ensures.value) (cut-made net limits c.in_ok-rows.rows.items layers made)) in
    IfOk-weaker c.finished.result (λ (b : HopBound). hop_dual_of b ≡ made_dual c.deref.result.now c.deref-2.result.now layers) (λ (b : HopBound). IsHopCutDual net limits (hop_dual_of b))
    (λ b e. subst (λ (d : HopDual). IsHopCutDual net limits d) (sym e) dual) c.finished.ensures.dual
