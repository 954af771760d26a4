-- The parts of a word, without where they lie in memory.
use Rattle.sndlib_grammar.specs.declared.parse.NumberParts.{NumberParts}
use Rattle.sndlib_grammar.specs.Number.{Number}

abbrev pub number_view : NumberParts → Number
number_view p = record { whole = p.whole.now; fraction = p.fraction.now; up = p.up; down = p.down }
