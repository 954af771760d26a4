use Rattle.std.proofs.Common.{◌≡◌, ◌∙◌, ℕ, ◌<◌, ◌≤◌, length, get_or, map, ap, arith}
use Rattle.std.specs.List.{range_with_len}
use Rattle.flow_model.specs.Network.{Network}
use Rattle.flow_model.specs.Groups.{group_count, group_sources}
use Rattle.cut_bound.specs.Cuts.{length_rows, side_lengths, side_potential}
use Rattle.cut_bound.specs.Search.{marked}
use Rattle.cut_bound.proofs.Making.{count-is, rows-all, rows-more, source-below}
use Rattle.cut_bound.proofs.made.side_dual.Goals as goal

pub side_values-requires : goal.side_values-requires
side_values-requires c =
    let net = c.args.net.now in
    let g = c.loop-g.g in
    let is : c.source-source.result ≡ get_or (group_sources net) g 0 = c.source-source.ensures ∙ ap (λ (n : Network). get_or (group_sources n) g 0) c.in_ok-groups.ensures in
    let inside : g < length (group_sources net) = omega (arith, c.count-g-end.ensures, ap group_count c.in_ok-groups.ensures, count-is net) in
    omega (arith, source-below net g inside)

pub loop-g-preserved : goal.loop-g-preserved
loop-g-preserved c =
    let net = c.args.net.now in
    let both = c.args.both in
    let side = marked c.args.side.now in
    let g = c.loop-g.g in
    let source = c.source-source.result in
    let is : source ≡ get_or (group_sources net) g 0 = c.source-source.ensures ∙ ap (λ (n : Network). get_or (group_sources n) g 0) c.in_ok-groups.ensures in
    let inside : g < length (group_sources net) = omega (arith, c.count-g-end.ensures, ap group_count c.in_ok-groups.ensures, count-is net) in
    rows-more net both side (length_rows 0 (side_lengths net side)) g source c.deref.result.now c.loop-g.dual c.push_row.new.self inside is
    (c.deref.ensures.value ∙ (c.in_ok-values.ensures.value ∙ ap (λ (n : ℕ). map (side_potential both side source) (range_with_len 0 n)) c.requires))
    c.loop-g.invariant c.in_ok-push_row.ensures.ok

pub returns : goal.returns
returns c =
    let net = c.args.net.now in
    let g = c.loop-g.g in
    let past : length (group_sources net) ≤ g = omega (arith, c.count-g-end.ensures, ap group_count c.in_ok-groups.ensures, count-is net) in
    rows-all net c.args.both (marked c.args.side.now) g c.loop-g.dual past c.loop-g.invariant
