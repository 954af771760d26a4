use Rattle.std.proofs.Common.{rules, ◌≡◌, ◌+◌, ◌<◌, ◌≤◌, List, [], ◌∷◌, ◌++◌, length, get_or, ap, ◌∙◌, subst, arith, length-append}
use Rattle.std.proofs.lemmas.List.Elements.{All-get_or}
use Rattle.std.proofs.lemmas.Option.{slice_get-get_or}
use Rattle.mcf_limits.specs.declared.TheConstants.{MAX_UNITS}
use Rattle.flow_model.specs.declared.net.Commodity.{Commodity}
use Rattle.flow_model.specs.Network.{IsCommodity}
use Rattle.flow_paths.specs.PathRows.{Adds}
use Rattle.solver_run.specs.declared.options.Entry.{Entry}
use Rattle.flow_solver.specs.Adding.{no_place, path_at}
use Rattle.flow_solver.proofs.Named.{can_add, adds_begun, adds_routed, adds_keep}
use Rattle.flow_solver.proofs.history.PathHistory.name_rows.Goals as goal

no_commodity : Commodity
no_commodity = record { from = 0; to = 0; amount = 0 }

pub add_path-requires : goal.add_path-requires
unfolding no_commodity
add_path-requires c =
    let net = c.args.net.now in
    let v = c.commodities-commodities.ensures.value in
    let k = c.loop-k.k in
    let l : k < length net.commodities = omega (arith, c.loop-k-test.true, c.requires.until) in
    let this = get_or net.commodities k no_commodity in
    let path = path_at c.args.places.now k in
    let small : this.amount ≤ MAX_UNITS = (All-get_or (IsCommodity net.nodes) net.commodities k no_commodity l c.commodities-commodities.ensures.net.commodities).amount in
    record {
      apart = c.loop-k.invariant.begun.apart;
      room = search rules;
      small = search rules;
      weight = rw v (can_add net c.args.self.now.history c.loop-k.entries.items c.loop-k.self.rows this path k c.loop-k.invariant.count c.loop-k.invariant.begun (slice_get-get_or net.commodities k no_commodity l) small c.requires.can.phases);
    }

pub returns-in_err-push-clause-keeps : goal.returns-in_err-push-clause-keeps
returns-in_err-push-clause-keeps c = adds_keep c.args.self.now.rows c.loop-k.self.rows c.add_path.new.self.rows (path_at c.args.places.now c.loop-k.k) c.loop-k.k c.in_ok-row.row _ c.loop-k.invariant.keeps c.in_ok-row.ensures.ok

pub loop-k-preserved : goal.loop-k-preserved
unfolding no_commodity
loop-k-preserved c =
    let net = c.args.net.now in
    let v = c.commodities-commodities.ensures.value in
    let k = c.loop-k.k in
    let l : k < length net.commodities = omega (arith, c.loop-k-test.true, c.requires.until) in
    let this = get_or net.commodities k no_commodity in
    let p = get_or c.args.places.now k no_place in
    let e : Entry = record { worker = p.hand; row = c.in_ok-row.row } in
    let es = c.loop-k.entries.items in
    let old = c.loop-k.self.rows in
    let new = c.add_path.new.self.rows in
    let path = path_at c.args.places.now k in
    let adds = subst (λ (t : List Commodity). Adds old new k path (get_or t k no_commodity).amount c.in_ok-row.row) v c.in_ok-row.ensures.ok in
    let pushed : c.push.new.self.items ≡ es ++ e ∷ [] = c.in_ok-push.ensures.items in
    record {
      count = ap (λ (t : List Entry). length t) pushed ∙ length-append es (e ∷ []) ∙ ap (λ n. n + 1) c.loop-k.invariant.count;
      commodities = c.in_ok-row.ensures.commodities ∙ c.loop-k.invariant.commodities;
      history = c.in_ok-row.ensures.history ∙ c.loop-k.invariant.history;
      keeps = adds_keep c.args.self.now.rows old new path k c.in_ok-row.row this.amount c.loop-k.invariant.keeps adds;
      begun = rw pushed (adds_begun net c.args.self.now.history es old new path this k c.in_ok-row.row p.hand c.loop-k.invariant.count c.loop-k.invariant.begun (slice_get-get_or net.commodities k no_commodity l) adds);
      named = λ hands are first. rw pushed (adds_routed net c.args.self.now.history hands c.args.places.now es old new k c.in_ok-row.row this.amount c.loop-k.invariant.count c.loop-k.invariant.begun adds (are k l) (c.loop-k.invariant.named hands are first));
    }
