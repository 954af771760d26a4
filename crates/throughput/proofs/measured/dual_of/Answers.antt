use Rattle.std.proofs.Common.{rules, ◌≡◌, ℕ, ◌<◌, List, length, get_or, sym, ap, subst, ◌∙◌, arith}
use Rattle.std.specs.Prelude.{All, IsTrue}
use Rattle.std.proofs.lemmas.List.{with_items_is}
use Rattle.std.proofs.lemmas.Result.{IfOk-weaker}
use Rattle.flow_model.specs.Network.{Network}
use Rattle.flow_paths.specs.DualRows.{DualRows}
use Rattle.dual_bound.specs.declared.rows.Row.{Row}
use Rattle.dual_bound.specs.Bounds.{IsBoundOf, IsDistance, ShowsBound}
use Rattle.dual_bound.specs.Rows.{Fills, dual_of, sources_of}
use Rattle.dual_bound.proofs.Demands.{sources-in}
use Rattle.dual_bound.proofs.Bounding.{Makes, lengths-small}
use Rattle.throughput.proofs.Measuring.{rows-make}
use Rattle.throughput.proofs.measured.dual_of.Goals as goal

pub assembled-requires-clause-small : goal.assembled-requires-clause-small
assembled-requires-clause-small c = lengths-small c.args.on.now.net.now.cells c.args.lengths.now c.requires.lengths c.requires.empty

pub returns-clause-dual : goal.returns-clause-dual
returns-clause-dual c =
    let net = c.args.on.now.net.now in
    let lengths = c.args.lengths.now in
    let old = c.deref_mut.result.now in
    let new = c.fill_rows.new.rows in
    let items = with_items_is c.in_ok-rows.rows new (omega arith) in
    let now : c.deref-2.result.now ≡ new = c.deref-2.ensures.value ∙ items in
    let yes : IsTrue c.are_filled.result = search rules in
    let all : All (λ (row : Row). IsTrue row.is_filled) new = subst (λ (rows : List Row). All (λ (row : Row). IsTrue row.is_filled) rows) (c.deref.ensures.value ∙ items) (c.are_filled.ensures.0 yes) in
    let fills : (k : ℕ) (d : Row) → k < length old → Fills net lengths (get_or old k d) (get_or new k d) =
    subst (λ (n : Network). (k : ℕ) (d : Row) → k < length old → Fills n lengths (get_or old k d) (get_or new k d)) c.args.on.now.graph_is c.fill_rows.ensures in
    let made : Makes net lengths (IsDistance net.cells lengths) new = rows-make net lengths old new c.cells-cells.ensures.net c.requires.lengths c.requires.empty (omega arith) (ap sources_of c.deref_mut.ensures.value ∙ sources-in net c.in_ok-rows.rows.items c.in_ok-rows.ensures.demands) fills all in
    IfOk-weaker c.assembled.result (λ (d : DualRows). d ≡ dual_of lengths c.deref-2.result.now) (IsBoundOf net lengths)
    (λ d e. subst (IsBoundOf net lengths) (sym (e ∙ ap (dual_of lengths) now)) made.dual) c.assembled.ensures

pub returns-clause-shows : goal.returns-clause-shows
returns-clause-shows c =
    let net = c.args.on.now.net.now in
    let lengths = c.args.lengths.now in
    let old = c.deref_mut.result.now in
    let new = c.fill_rows.new.rows in
    let items = with_items_is c.in_ok-rows.rows new (omega arith) in
    let now : c.deref-2.result.now ≡ new = c.deref-2.ensures.value ∙ items in
    let yes : IsTrue c.are_filled.result = search rules in
    let all : All (λ (row : Row). IsTrue row.is_filled) new = subst (λ (rows : List Row). All (λ (row : Row). IsTrue row.is_filled) rows) (c.deref.ensures.value ∙ items) (c.are_filled.ensures.0 yes) in
    let fills : (k : ℕ) (d : Row) → k < length old → Fills net lengths (get_or old k d) (get_or new k d) =
    subst (λ (n : Network). (k : ℕ) (d : Row) → k < length old → Fills n lengths (get_or old k d) (get_or new k d)) c.args.on.now.graph_is c.fill_rows.ensures in
    let made : Makes net lengths (IsDistance net.cells lengths) new = rows-make net lengths old new c.cells-cells.ensures.net c.requires.lengths c.requires.empty (omega arith) (ap sources_of c.deref_mut.ensures.value ∙ sources-in net c.in_ok-rows.rows.items c.in_ok-rows.ensures.demands) fills all in
    IfOk-weaker c.assembled.result (λ (d : DualRows). d ≡ dual_of lengths c.deref-2.result.now) (ShowsBound net lengths)
    (λ d e. subst (ShowsBound net lengths) (sym (e ∙ ap (dual_of lengths) now)) made.shows) c.assembled.ensures
