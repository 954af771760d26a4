use Rattle.std.proofs.Common.{◌≡◌, ℕ, ◌+◌, length, get_or, rules, arith, ap, ◌∙◌, sym, subst, List, add-one}
use Rattle.flow_core.specs.Core.{Terms, State, cell_count}
use Rattle.load_table.specs.declared.view.View.{View}
use Rattle.load_table.specs.Rule.{MayClose, Closes, words_of}
use Rattle.load_table.specs.Seen.{LoadsView, PassView, AreWordsOf}
use Rattle.load_table.proofs.Keeps.{closes, ends_alone}
use Rattle.load_table.proofs.Alone.{one_inside, own_rest}
use Rattle.load_table.proofs.loads.Loads.close_alone.Goals as goal

pub returns : goal.returns
returns c =
    let v = c.pass.inside.seat.me.0 in
    let t = c.self.inside.table.shared.key in
    let own : AreWordsOf v c.pass.inside.own.items = c.pass.invariant.1 (one_inside c.args.self c.args.pass _ v c.pass.view_is c.requires.of c.requires.one) in
    let terms = ap (λ (l : LoadsView). l.terms) c.self.view_is in
    let view = ap (λ (p : PassView). p.view) c.pass.view_is in
    let M : Terms × View → Type 0 = λ x. MayClose x.0 x.1 in
    let may = subst M (λ i. (sym terms i, sym view i)) c.requires.whole in
    let seen = ap (λ (p : PassView). p.seen) c.pass.view_is in
    let same : v.view.terms ≡ t = search rules in
    let one : t.workers ≡ 1 = search rules in
    let into : c.copy_from_slice.new.self ≡ v.seen.loads = c.copy_from_slice.ensures.after ∙ own_rest v.seen c.deref.result.now _ (c.deref.ensures.value ∙ own.words) (omega arith) in
    let count = own.count in
    let long : length c.copy_from_slice.new.self ≡ cell_count t = (let l = c.copy_from_slice.ensures.len in let r = c.requires.room in let s = ap cell_count terms in omega arith) in
    let each : (k : ℕ) → get_or c.copy_from_slice.new.self k 0 ≡ get_or (words_of v.seen) (k + 1) 0 = λ k. ap (λ (xs : List ℕ). get_or xs k 0) into ∙ ap (λ (n : ℕ). get_or (words_of v.seen) n 0) (sym (add-one k)) in
    let P : Terms × State × View → Type 0 = λ x. Closes x.0 x.1 x.2.hands c.copy_from_slice.new.self in
    subst P (λ i. (terms i, seen i, view i)) (closes t 0 v (words_of v.seen) _ c.copy_from_slice.new.self may same (ends_alone t _ v _ _ one c.close_with.ensures.values.2) long (λ k inside. each k))
