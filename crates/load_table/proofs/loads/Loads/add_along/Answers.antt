use Rattle.std.proofs.Common.{ℕ, ◌≡◌, ◌+◌, ◌<◌, ◌++◌, List, ap, take, drop, length, sym, ◌∙◌, subst, rules}
use Rattle.std.specs.Prelude.{All}
use Rattle.flow_model.specs.Least.{AreDifferent}
use Rattle.std.proofs.Math.Seq.{take-append_seam}
use Rattle.flow_core.specs.Core.{Terms, cell_count, amount_of}
use Rattle.load_table.specs.Reading.{OneWhere}
use Rattle.load_table.specs.Adding.{IsReadyFor, AreMoreAlong}
use Rattle.load_table.specs.declared.view.View.{View}
use Rattle.load_table.specs.Rule.{words_of, HasAddedAlong}
use Rattle.load_table.specs.Seen.{AreWordsOf}
use Rattle.load_table.proofs.Adding.{more_same}
use Rattle.load_table.proofs.Alone.{all_added, one_inside}
use Rattle.load_table.proofs.loads.Loads.add_along.Goals as goal

pub load-requires : goal.load-requires
load-requires g c =
    let t = c.self.inside.table.shared.key in
    let me = c.pass.inside.seat.me in
    let same : me.0.view.terms ≡ t = search rules in
    let ready : OneWhere (IsReadyFor t c.args.k) me.0.view.hands = search rules in
    let ready' : OneWhere (IsReadyFor t g.J.OfCommodity.commodity) me.0.view.hands = subst (λ (n : ℕ). OneWhere (IsReadyFor t n) me.0.view.hands) c.requires.named ready in
    let inside : All (λ d. d < cell_count t) c.args.path.now = search rules in
    (search rules, search rules, all_added t _ _ g.J.OfCommodity.commodity g.L.OfPath.path me (search rules) same ready' (subst (All (λ d. d < cell_count t)) c.requires.placed inside) (subst AreDifferent c.requires.placed c.requires.different))

pub invariant_of-pass : goal.invariant_of-pass
invariant_of-pass g c =
    let v = c.pass.inside.seat.me in
    let w = c.load.new.seat.me in
    let k = g.J.OfCommodity.commodity in
    let xs : List ℕ = c.pass.inside.own.items in
    let ys : List ℕ = c.put_along.new.own in
    let t = c.self.inside.table.shared.key in
    let y = c.args.amount in
    let same : v.0.view.terms ≡ t = search rules in
    let given : y ≡ amount_of t c.args.k = search rules in
    let own : AreWordsOf v.0 xs = c.pass.invariant.1 (one_inside c.args.self.now c.args.pass.now _ v.0 c.pass.view_is c.requires.of c.requires.one) in
    let told : HasAddedAlong k g.L.OfPath.path v w = c.load.ensures.2 in
    let long : length ys ≡ c.pass.inside.own.len = c.put_along.ensures.count ∙ c.deref_mut.ensures.len in
    let all : take c.pass.inside.own.len (ys ++ drop (length ys) xs) ≡ ys = ap (λ (n : ℕ). take n (ys ++ drop (length ys) xs)) (sym long) ∙ take-append_seam ys (drop (length ys) xs) in
    let amount : y ≡ amount_of v.0.view.terms k = given ∙ (λ i. amount_of (sym same i) (c.requires.named i)) in
    let was : c.deref_mut.result.now ≡ words_of v.0.seen = c.deref_mut.ensures.value ∙ own.words in
    let P : ℕ × List ℕ × List ℕ → Type 0 = λ z. AreMoreAlong z.0 z.1 z.2 ys in
    let put : AreMoreAlong (amount_of v.0.view.terms k) g.L.OfPath.path (words_of v.0.seen) ys = subst P (λ i. (amount i, c.requires.placed i, was i)) c.put_along.ensures in
    let terms = ap (λ (u : View). u.terms) told.view_is.2 in
    let now : AreWordsOf w.0 ys = record {
      words = more_same (amount_of v.0.view.terms k) g.L.OfPath.path (words_of v.0.seen) ys (words_of w.0.seen) put told.words;
      count = c.put_along.ensures.count ∙ (ap (λ (zs : List ℕ). length zs) c.deref_mut.ensures.value ∙ (own.count ∙ ap (λ (x : Terms). cell_count x + 1) (sym terms)));
      none_left = ap (λ (u : View). u.left) told.view_is.2 ∙ own.none_left;
    } in
    (told.rest_is ∙ c.pass.invariant.0, λ _. subst (AreWordsOf w.0) (sym all) now)
