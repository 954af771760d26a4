use Rattle.std.proofs.Common.{◌≡◌, ℕ, cond, List, length, sym, ap, ◌∙◌}
use Rattle.flow_model.specs.declared.net.Cell.{Cell}
use Rattle.gap_fraction.specs.Fraction.{Fraction}
use Rattle.flow_paths.specs.declared.fill.Fill.{Fill}
use Rattle.flow_paths.specs.Evaluation.{fill, fraction_le}
use Rattle.flow_paths.specs.Fullness.{fullness}
use Rattle.throughput.proofs.Loading.{cells-long, gates-long}
use Rattle.throughput.proofs.Fuller.{fill-append, fill-fits, fullness-of}
use Rattle.throughput.proofs.steps.fullest_of.Goals as goal

pub fullest-cells-requires : goal.fullest-cells-requires
fullest-cells-requires c =
    let has = c.requires.loaded in
    ap (λ (xs : List ℕ). length xs) c.deref.ensures.value ∙ (cells-long c.args.on.now.net.now has.0 c.args.loaded.now has.1 ∙ sym (ap (λ (xs : List Cell). length xs) c.cells.ensures.value))

pub fullest-requires : goal.fullest-requires
fullest-requires c =
    let has = c.requires.loaded in
    ap (λ (xs : List ℕ). length xs) c.deref-2.ensures.value ∙ (gates-long c.args.on.now.net.now has.0 c.args.loaded.now has.1 ∙ sym c.requires.on.gates_are.count)

pub returns-clause-value : goal.returns-clause-value
returns-clause-value c =
    let net = c.args.on.now.net.now in
    let gates = c.args.on.now.gates.now in
    let s = c.args.loaded.now in
    let has = c.requires.loaded in
    let first : fullness c.fullest-cells.result ≡ fill net.cells s.cells.items = c.fullest-cells.ensures ∙ (ap (λ (xs : List Cell). fill xs c.deref.result.now) c.cells.ensures.value ∙ ap (fill net.cells) c.deref.ensures.value) in
    let second : fullness c.fullest.result ≡ fill gates s.gates.items = c.fullest.ensures ∙ ap (fill gates) c.deref-2.ensures.value in
    ap (λ (f : Fill). fullness f) c.fuller.ensures ∙ (fullness-of (fraction_le (fullness c.fullest-cells.result) (fullness c.fullest.result)) c.fullest-cells.result c.fullest.result
    ∙ (ap (λ (f : Fraction). cond (fraction_le f (fullness c.fullest.result)) f (fullness c.fullest.result)) first
    ∙ (ap (λ (f : Fraction). cond (fraction_le (fill net.cells s.cells.items) f) (fill net.cells s.cells.items) f) second
    ∙ sym (fill-append net.cells gates s.cells.items s.gates.items (cells-long net has.0 s has.1)))))

pub returns-clause-fits : goal.returns-clause-fits
returns-clause-fits c =
    let net = c.args.on.now.net.now in
    let gates = c.args.on.now.gates.now in
    let s = c.args.loaded.now in
    let has = c.requires.loaded in
    let some = c.requires.some in
    let first : fullness c.fullest-cells.result ≡ fill net.cells s.cells.items = c.fullest-cells.ensures ∙ (ap (λ (xs : List Cell). fill xs c.deref.result.now) c.cells.ensures.value ∙ ap (fill net.cells) c.deref.ensures.value) in
    let second : fullness c.fullest.result ≡ fill gates s.gates.items = c.fullest.ensures ∙ ap (fill gates) c.deref-2.ensures.value in
    fill-fits net gates c.args.on.now.least s c.fuller.result c.requires.on has c.requires.small some.0 some.1 some.2
    (ap (λ (f : Fill). fullness f) c.fuller.ensures ∙ (fullness-of (fraction_le (fullness c.fullest-cells.result) (fullness c.fullest.result)) c.fullest-cells.result c.fullest.result
    ∙ (ap (λ (f : Fraction). cond (fraction_le f (fullness c.fullest.result)) f (fullness c.fullest.result)) first
    ∙ (ap (λ (f : Fraction). cond (fraction_le (fill net.cells s.cells.items) f) (fill net.cells s.cells.items) f) second
    ∙ sym (fill-append net.cells gates s.cells.items s.gates.items (cells-long net has.0 s has.1))))))
