use Rattle.std.proofs.Common.{◌≡◌, ℕ, List, ◌∷◌, ap, ◌∙◌, sym, subst, drop}
use Rattle.flow_core.specs.Core.{Terms}
use Rattle.load_table.specs.Places.{is_wide}
use Rattle.load_table.specs.Rule.{HasPlaced}
use Rattle.load_table.proofs.Keeps.{begins_at}
use Rattle.load_table.proofs.loads.Loads.new.Goals as goal

pub of_words-requires : goal.of_words-requires
of_words-requires c =
    let t : Terms = record { net = c.args.net.now; setting = c.args.setting; base = c.args.base.now; workers = c.args.workers } in
    let base : drop 1 c.of-2.result.value.items ≡ c.args.base.now = ap (λ v. drop 1 v.items) c.of-2.ensures ∙ ap (drop 1) c.in_ok-words.ensures in
    let P : List ℕ × List ℕ → Type 0 = λ z. HasPlaced (is_wide t) z.0 (0 ∷ z.1) in
    begins_at t _ _ (λ i. record { net = c.of.ensures i; setting = c.args.setting; base = base i; workers = c.args.workers }) (subst P (λ i. (sym c.as_slice.ensures.value i, c.shared_bases.ensures i)) c.in_ok-placed.ensures.placed) c.requires.start
