use Rattle.std.proofs.Common.{◌≡◌, Bool, get_or, length, rules, arith, ap, ◌∙◌, ◌+◌, sym, subst}
use Rattle.std.specs.Slots.{slots_items}
use Rattle.flow_core.specs.Core.{Terms, State, cell_count}
use Rattle.load_table.specs.declared.view.View.{View}
use Rattle.load_table.specs.Rule.{MayClose, Closes}
use Rattle.load_table.specs.Places.{place}
use Rattle.load_table.specs.Seen.{LoadsView, PassView}
use Rattle.load_table.proofs.Keeps.{closes, copied, ends_several}
use Rattle.load_table.proofs.loads.Loads.close_shared.Goals as goal

pub loop-i-preserved : goal.loop-i-preserved
loop-i-preserved c = copied _ _ _ _ _ _ (omega arith) c.loop-i.invariant c.place_of.ensures c.word.ensures

pub returns : goal.returns
returns c =
    let terms = ap (λ (l : LoadsView). l.terms) c.self.view_is in
    let view = ap (λ (p : PassView). p.view) c.pass.view_is in
    let M : Terms × View → Type 0 = λ x. MayClose x.0 x.1 in
    let may = subst M (λ i. (sym terms i, sym view i)) c.requires.whole in
    let long : length c.loop-i.into ≡ cell_count c.self.inside.table.shared.key = (let r = c.requires.room in let a = c.loop-i.auto.into in let t = ap cell_count terms in omega arith) in
    let seen = ap (λ (p : PassView). p.seen) c.pass.view_is in
    let same : c.pass.inside.seat.me.0.view.terms ≡ c.self.inside.table.shared.key = search rules in
    let P : Terms × State × View → Type 0 = λ x. Closes x.0 x.1 x.2.hands c.loop-i.into in
    let e = ends_several _ _ _ _ _ (search rules) c.close_with-closed.ensures.values.2 in
    subst P (λ i. (terms i, seen i, view i)) (closes _ _ _ _ _ c.loop-i.into may same e.3 long (λ k inside. c.loop-i.invariant k (omega arith) ∙ (ap (λ (w : Bool). get_or (slots_items c.close_with-closed.result.words) (place w (k + 1)) 0) c.self.invariant.wide_is ∙ e.1.each (k + 1) (let n = e.2 in omega arith))))
