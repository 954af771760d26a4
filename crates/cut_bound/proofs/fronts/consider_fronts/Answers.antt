use Rattle.std.proofs.Common.{◌≡◌, List, Option, length, map, sym, ap, subst, ◌∙◌, arith}
use Rattle.std.specs.Prelude.{All}
use Rattle.std.proofs.lemmas.List.{with_items_is}
use Rattle.cut_bound.specs.declared.choice.RowPlace.{RowPlace}
use Rattle.cut_bound.specs.declared.fronts.RowLeast.{RowLeast}
use Rattle.cut_bound.specs.Search.{row_at, seen, Considers, IsDualOf, IsRowPlace}
use Rattle.cut_bound.specs.Slots.{AreConsidered}
use Rattle.cut_bound.proofs.Owning.{seen-all}
use Rattle.cut_bound.proofs.Sharing.{on-ok, rows-went}
use Rattle.cut_bound.proofs.fronts.consider_fronts.Goals as goal

pub fill_all-requires-after_bounds : goal.fill_all-requires-after_bounds
fill_all-requires-after_bounds g c κs within = λ i lt.
    let net = c.args.net.now in
    let own = seen c.args.own.now in
    record {
      total = c.requires.total;
      cells = c.requires.demands;
      fits = seen-all (IsDualOf net) c.args.own.now c.requires.duals;
      there = omega (arith, ap length c.deref.ensures.value, c.in_ok-slots.ensures.len, c.deref_mut.ensures.len, c.len.ensures);
      places = subst (λ (rs : List RowPlace). All (IsRowPlace own) rs) (sym c.deref.ensures.value) c.in_ok-rows.ensures.places;
    }

pub returns : goal.returns
returns g c =
    let cells = c.args.net.now.cells in
    let demands = c.args.demands.now in
    let own = seen c.args.own.now in
    let rows = c.deref.result.now in
    let new = c.fill_all.new.slots in
    let whole : length new ≡ c.in_ok-slots.slots.len = omega arith in
    let same : c.deref-2.result.now ≡ new = c.deref-2.ensures.value ∙ with_items_is c.in_ok-slots.slots new whole in
    let count : length new ≡ length rows = omega (arith, ap length c.deref.ensures.value, c.in_ok-slots.ensures.len, c.len.ensures) in
    on-ok c.consider_slots.result (AreConsidered c.deref-2.result.now c.args.best.now c.consider_slots.new.best) (Considers cells demands own c.args.best.now c.consider_slots.new.best)
    (λ done. record {
      rows = rows;
      are_rows = ap (λ (rs : List RowPlace). map (row_at own) rs) c.deref.ensures.value ∙ c.in_ok-rows.ensures.rows;
      places = subst (λ (rs : List RowPlace). All (IsRowPlace own) rs) (sym c.deref.ensures.value) c.in_ok-rows.ensures.places;
      went = rows-went cells demands own rows new c.args.best.now c.consider_slots.new.best count (λ i lt. c.fill_all.ensures i (omega arith))
          (subst (λ (ss : List (Option RowLeast)). AreConsidered ss c.args.best.now c.consider_slots.new.best) same done);
    }) c.consider_slots.ensures
