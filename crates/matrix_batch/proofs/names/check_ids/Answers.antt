use Rattle.std.proofs.Common.{◌≡◌, ℕ, ◌+◌, ◌∷◌, ◌++◌, [], List, Bor, Option, ap, sym, subst, ◌∙◌, map, drop, get_or}
use Rattle.sndlib_grammar.specs.Grammar.{Word}
use Rattle.sndlib_grammar.specs.Faults.{line_of, first_repeated}
use Rattle.sndlib_rows.specs.Views.{bytes_of}
use Rattle.sndlib_rows.proofs.Naming.{not_true, not_false, if_false}
use Rattle.matrix_batch.specs.declared.list_refusal.ListKind.TheVariants.{Duplicate}
use Rattle.matrix_batch.specs.declared.read_end.ReadListEnd.{ReadListEnd}
use Rattle.matrix_batch.specs.Lists.{at_line}
use Rattle.matrix_batch.specs.Names.{IsEnd}
use Rattle.matrix_batch.specs.Stored.{demand_ids}
use Rattle.matrix_batch.specs.ReadViews.{demand_view}
use Rattle.matrix_batch.proofs.Naming.{no_demand, new_id, old_id}
use Rattle.matrix_batch.proofs.names.check_ids.Goals as goal

pub returns-then-not-added : goal.returns-then-not-added
returns-then-not-added c =
    let ds = c.args.demands.now in
    let known = c.loop-demand.ids.keys in
    let found = old_id known ds c.loop-demand.demand-index no_demand c.loop-demand-test.true (not_false _ (sym c.in-Ok.ensures.added ∙ c.if-not-added.true)) in
    subst (λ (e : ReadListEnd). IsEnd Duplicate (line_of (first_repeated [] (demand_ids (map demand_view ds)))) e) (sym c.duplicate.ensures)
    (ap (λ (o : Option Word). at_line Duplicate (line_of o)) (sym c.loop-demand.invariant ∙ found))

pub loop-demand-preserved : goal.loop-demand-preserved
loop-demand-preserved c =
    let ds = c.args.demands.now in
    let known = c.loop-demand.ids.keys in
    let i = c.loop-demand.demand-index in
    let new = not_true _ (sym c.in-Ok.ensures.added ∙ c.if-not-added.false) in
    let keys : c.insert.new.self.keys ≡ known ++ (get_or ds i no_demand).id.text ∷ [] = c.in-Ok.ensures.keys ∙ if_false _ _ _ new in
    ap (λ (ks : List (Bor (List ℕ))). first_repeated (bytes_of ks) (demand_ids (map demand_view (drop (i + 1) ds)))) keys ∙ new_id known ds i no_demand c.loop-demand-test.true new ∙ c.loop-demand.invariant
