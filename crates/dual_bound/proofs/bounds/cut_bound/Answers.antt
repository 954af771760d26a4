use Rattle.std.proofs.Common.{◌≡◌, ◌∙◌, ◌^◌, ◌≤◌, ℕ, List, None, ap, sym, subst}
use Rattle.std.specs.Prelude.{Result, IfOk}
use Rattle.flow_model.specs.Network.{Network}
use Rattle.std.proofs.lemmas.Result.{IfOk-weaker}
use Rattle.std.specs.declared.alloc.AllocError.{AllocError}
use Rattle.flow_model.specs.declared.net.Cell.{Cell}
use Rattle.flow_paths.specs.DualRows.{DualRows}
use Rattle.flow_paths.specs.Certificate.{upper_of}
use Rattle.dual_bound.specs.declared.bounds.Bounded.{Bounded}
use Rattle.dual_bound.specs.Bounds.{IsCutDual, IsCutPotential, IsDualWith, ShowsBound, cut_lengths, lesser}
use Rattle.dual_bound.specs.Rows.{AreWeighted, bounded_of, dual_of, weight_of}
use Rattle.dual_bound.specs.declared.rows.Row.{Row}
use Rattle.dual_bound.proofs.Bounding.{has-cut, cut-makes, makes-same, if-both, cut-zero}
use Rattle.dual_bound.proofs.Demands.{sources-in}
use Rattle.dual_bound.proofs.Weighing.{weighed, weight-small}
use Rattle.dual_bound.proofs.bounds.cut_bound.Goals as goal

-- with no earlier bound the lesser is that of these rows
dual-made : (r : Result Bounded AllocError) (net : Network) (lengths : List ℕ) (rows : List Row) → IfOk r (λ b. b ≡ lesser None (bounded_of net lengths rows)) → IfOk r (λ b. b.dual ≡ dual_of lengths rows)
dual-made r net lengths rows is = IfOk-weaker r (λ (b : Bounded). b ≡ lesser None (bounded_of net lengths rows)) (λ (b : Bounded). b.dual ≡ dual_of lengths rows) (λ b e. ap (λ (x : Bounded). x.dual) e) is

value-made : (r : Result Bounded AllocError) (net : Network) (lengths : List ℕ) (rows : List Row) → IfOk r (λ b. b ≡ lesser None (bounded_of net lengths rows)) → IfOk r (λ b. b.value ≡ upper_of net b.dual)
value-made r net lengths rows is = IfOk-weaker r (λ (b : Bounded). b ≡ lesser None (bounded_of net lengths rows)) (λ (b : Bounded). b.value ≡ upper_of net b.dual)
    (λ b e. ap (λ (x : Bounded). x.value) e ∙ ap (λ (x : Bounded). upper_of net x.dual) (sym e)) is

pub lesser-requires-clause-divides : goal.lesser-requires-clause-divides
lesser-requires-clause-divides c =
    let net = c.args.net.now in
    let lengths : c.deref.result.now ≡ cut_lengths net.cells = c.deref.ensures.value ∙ (c.in_ok-lengths.ensures ∙ ap (λ (cells : List Cell). cut_lengths cells) c.cells.ensures.value) in
    let made = cut-makes net c.in_ok-rows.rows.items c.cells.ensures.net (has-cut net c.requires.cut.0 c.requires.cut.1) (sources-in net c.in_ok-rows.rows.items c.in_ok-rows.ensures.demands) c.in_ok-rows.ensures.filled in
    (makes-same net (IsCutPotential net.cells) (cut_lengths net.cells) c.deref.result.now c.in_ok-rows.rows.items c.deref_mut.result.now lengths c.deref_mut.ensures.value made).divides

pub lesser-requires-clause-weighted : goal.lesser-requires-clause-weighted
lesser-requires-clause-weighted c =
    let net = c.args.net.now in
    subst (λ (rows : List Row). AreWeighted net rows) (sym c.deref_mut.ensures.value)
    (weighed net c.in_ok-rows.rows.items (IsCutPotential net.cells) c.cells.ensures.net c.in_ok-rows.ensures.demands c.in_ok-rows.ensures.filled)

pub lesser-requires-clause-limit : goal.lesser-requires-clause-limit
lesser-requires-clause-limit c =
    let net = c.args.net.now in
    subst (λ (rows : List Row). weight_of rows ≤ 2 ^ 108) (sym c.deref_mut.ensures.value)
    (weight-small net c.in_ok-rows.rows.items (IsCutPotential net.cells) c.cells.ensures.net c.in_ok-rows.ensures.demands c.in_ok-rows.ensures.filled)

pub returns-clause-dual : goal.returns-clause-dual
returns-clause-dual c =
    let net = c.args.net.now in
    let lengths : c.deref.result.now ≡ cut_lengths net.cells = c.deref.ensures.value ∙ (c.in_ok-lengths.ensures ∙ ap (λ (cells : List Cell). cut_lengths cells) c.cells.ensures.value) in
    let made = cut-makes net c.in_ok-rows.rows.items c.cells.ensures.net (has-cut net c.requires.cut.0 c.requires.cut.1) (sources-in net c.in_ok-rows.rows.items c.in_ok-rows.ensures.demands) c.in_ok-rows.ensures.filled in
    let same = makes-same net (IsCutPotential net.cells) (cut_lengths net.cells) c.deref.result.now c.in_ok-rows.rows.items c.deref_mut.result.now lengths c.deref_mut.ensures.value made in
    IfOk-weaker c.lesser.result (λ (b : Bounded). b.dual ≡ dual_of c.deref.result.now c.deref_mut.result.now) (λ (b : Bounded). IsCutDual net b.dual)
    (λ b e. subst (λ (d : DualRows). IsCutDual net d) (sym e) (subst (λ (xs : List _). IsDualWith net xs (IsCutPotential net.cells) (dual_of c.deref.result.now c.deref_mut.result.now)) lengths same.dual)) (dual-made c.lesser.result net c.deref.result.now c.deref_mut.result.now c.lesser.ensures.lesser)

pub returns-clause-shows : goal.returns-clause-shows
returns-clause-shows c =
    let net = c.args.net.now in
    let lengths : c.deref.result.now ≡ cut_lengths net.cells = c.deref.ensures.value ∙ (c.in_ok-lengths.ensures ∙ ap (λ (cells : List Cell). cut_lengths cells) c.cells.ensures.value) in
    let made = cut-makes net c.in_ok-rows.rows.items c.cells.ensures.net (has-cut net c.requires.cut.0 c.requires.cut.1) (sources-in net c.in_ok-rows.rows.items c.in_ok-rows.ensures.demands) c.in_ok-rows.ensures.filled in
    let same = makes-same net (IsCutPotential net.cells) (cut_lengths net.cells) c.deref.result.now c.in_ok-rows.rows.items c.deref_mut.result.now lengths c.deref_mut.ensures.value made in
    IfOk-weaker c.lesser.result (λ (b : Bounded). b.dual ≡ dual_of c.deref.result.now c.deref_mut.result.now) (λ (b : Bounded). ShowsBound net (cut_lengths net.cells) b.dual)
    (λ b e. subst (λ (d : DualRows). ShowsBound net (cut_lengths net.cells) d) (sym e) (subst (λ (xs : List _). ShowsBound net xs (dual_of c.deref.result.now c.deref_mut.result.now)) lengths same.shows)) (dual-made c.lesser.result net c.deref.result.now c.deref_mut.result.now c.lesser.ensures.lesser)

pub returns-clause-zero : goal.returns-clause-zero
returns-clause-zero c =
    let net = c.args.net.now in
    let lengths : c.deref.result.now ≡ cut_lengths net.cells = c.deref.ensures.value ∙ (c.in_ok-lengths.ensures ∙ ap (λ (cells : List Cell). cut_lengths cells) c.cells.ensures.value) in
    let made = cut-makes net c.in_ok-rows.rows.items c.cells.ensures.net (has-cut net c.requires.cut.0 c.requires.cut.1) (sources-in net c.in_ok-rows.rows.items c.in_ok-rows.ensures.demands) c.in_ok-rows.ensures.filled in
    let same = makes-same net (IsCutPotential net.cells) (cut_lengths net.cells) c.deref.result.now c.in_ok-rows.rows.items c.deref_mut.result.now lengths c.deref_mut.ensures.value made in
    let both = if-both Bounded AllocError c.lesser.result (λ (b : Bounded). b.dual ≡ dual_of c.deref.result.now c.deref_mut.result.now) (λ (b : Bounded). b.value ≡ upper_of net b.dual) (dual-made c.lesser.result net c.deref.result.now c.deref_mut.result.now c.lesser.ensures.lesser) (value-made c.lesser.result net c.deref.result.now c.deref_mut.result.now c.lesser.ensures.lesser) in
    IfOk-weaker c.lesser.result (λ (b : Bounded). (b.dual ≡ dual_of c.deref.result.now c.deref_mut.result.now) × (b.value ≡ upper_of net b.dual)) (λ (b : Bounded). b.value.num ≡ 0)
    (λ b e. cut-zero net c.deref.result.now b.dual b.value lengths (subst (λ (d : DualRows). ShowsBound net c.deref.result.now d) (sym e.0) same.shows) e.1) both
