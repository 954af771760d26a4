-- What is kept of a text, without where its words lie in memory.
use Rattle.std.specs.Prelude.{map}
use Rattle.sndlib_grammar.specs.Grammar.{Word, DemandEntry}
use Rattle.matrix_batch.specs.Grammar.{MatrixEntry}
use Rattle.matrix_batch.specs.declared.kept.Word.{Word as WordSlice}
use Rattle.matrix_batch.specs.declared.kept.DemandWords.{DemandWords}
use Rattle.matrix_batch.specs.declared.kept.MatrixWords.{MatrixWords}
use Rattle.matrix_batch.specs.declared.sofar.Draft.{Draft as DraftWords}
use Rattle.matrix_batch.specs.declared.sofar.Sofar.{Sofar as SofarWords}
use Rattle.matrix_batch.specs.Reading.{Draft}
use Rattle.matrix_batch.specs.Stored.{Stored}

abbrev pub word_view : WordSlice → Word
word_view w = record { text = w.text.now; line = w.line }

abbrev pub demand_view : DemandWords → DemandEntry
demand_view d = record {
  id = word_view d.id;
  source = word_view d.source;
  target = word_view d.target;
  unit = word_view d.unit;
  value = word_view d.value;
  longest = word_view d.longest;
}

abbrev pub entry_view : MatrixWords → MatrixEntry
entry_view m = record { name = word_view m.name; demands = map demand_view m.demands.items }

abbrev pub draft_view : DraftWords → Draft
draft_view d = record {
  id = word_view d.id;
  source = word_view d.source;
  target = word_view d.target;
  unit = word_view d.unit;
  value = word_view d.value;
}

abbrev pub sofar_view : SofarWords → Stored
sofar_view s = record {
  name = word_view s.name;
  draft = draft_view s.draft;
  demands = map demand_view s.demands.items;
  matrices = map entry_view s.matrices.items;
  count = s.count;
  extra_demand = s.extra_demand;
  extra_matrix = s.extra_matrix;
}
