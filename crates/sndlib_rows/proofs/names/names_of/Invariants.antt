use Rattle.std.proofs.Common.{◌≡◌, [], take, drop}
use Rattle.std.specs.Prelude.{map}
use Rattle.sndlib_rows.specs.Views.{word_view}
use Rattle.sndlib_rows.specs.Names.{names_of}
use Rattle.sndlib_grammar.specs.Faults.{first_repeated, texts}
use Rattle.sndlib_rows.proofs.names.names_of.Given as goal

abbrev pub invariant-loop-id : goal.invariant-loop-id
invariant-loop-id l =
    (first_repeated (names_of l.names) (map word_view (drop l.id-index l.ids)) ≡ first_repeated [] (map word_view l.ids))
    × (names_of l.names ≡ texts (map word_view (take l.id-index l.ids)))
