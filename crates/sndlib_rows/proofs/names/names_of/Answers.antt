use Rattle.std.proofs.Common.{◌≡◌, ℕ, ◌+◌, ◌++◌, ◌∷◌, [], get_or, drop, List, Bor, Option, ap, sym, ◌∙◌}
use Rattle.std.specs.Prelude.{map}
use Rattle.sndlib_grammar.specs.declared.refusal.NetKind.TheVariants as netkinds
use Rattle.sndlib_grammar.specs.Grammar.{Word}
use Rattle.sndlib_grammar.specs.Faults.{at_line, line_of, first_repeated}
use Rattle.sndlib_rows.specs.Views.{word_view, bytes_of}
use Rattle.sndlib_rows.proofs.Naming.{no_slice, new_name, old_name, more_names, not_true, not_false, if_false}
use Rattle.sndlib_rows.proofs.names.names_of.Goals as goal

pub returns-then-not-added : goal.returns-then-not-added
returns-then-not-added c =
    let r = c.in-Ok in
    let known = c.loop-id.names.keys in
    let found = old_name known c.args.ids.now c.loop-id.id-index c.loop-id-test.true (not_false _ (sym r.ensures.added ∙ c.if-not-added.true)) in
    ap (λ (o : Option Word). at_line netkinds.Duplicate (line_of o)) (sym c.loop-id.invariant.0 ∙ found)

pub loop-id-preserved : goal.loop-id-preserved
loop-id-preserved c =
    let r = c.in-Ok in
    let known = c.loop-id.names.keys in
    let ids = c.args.ids.now in
    let i = c.loop-id.id-index in
    let new = not_true _ (sym r.ensures.added ∙ c.if-not-added.false) in
    let keys : c.insert.new.self.keys ≡ known ++ (get_or ids i no_slice).text ∷ [] = r.ensures.keys ∙ if_false _ _ _ new in (
      ap (λ (ks : List (Bor (List ℕ))). first_repeated (bytes_of ks) (map word_view (drop (i + 1) ids))) keys ∙ new_name known ids i c.loop-id-test.true new ∙ c.loop-id.invariant.0,
      ap bytes_of keys ∙ more_names known ids i c.loop-id-test.true c.loop-id.invariant.1,
    )
