-- What is kept of a text, without where its words lie in memory.
use Rattle.std.specs.Prelude.{map}
use Rattle.sndlib_read.specs.declared.kept.DemandWords.{DemandWords}
use Rattle.sndlib_read.specs.declared.kept.Kept.{Kept}
use Rattle.sndlib_read.specs.declared.sofar.Draft.{Draft as DraftWords}
use Rattle.sndlib_read.specs.declared.sofar.Sofar.{Sofar as SofarWords}
use Rattle.sndlib_grammar.specs.Grammar.{DemandEntry}
use Rattle.sndlib_grammar.specs.Reading.{Draft}
use Rattle.sndlib_rows.specs.Views.{word_view, slices_view, node_view, link_view}
use Rattle.sndlib_read.specs.Stored.{Stored, Partial}

abbrev pub demand_view : DemandWords → DemandEntry
demand_view d = record {
  id = word_view d.id;
  source = word_view d.source;
  target = word_view d.target;
  unit = word_view d.unit;
  value = word_view d.value;
  longest = word_view d.longest;
}

abbrev pub kept_view : Kept → Stored
kept_view k = record { nodes = map node_view k.nodes.items; links = map link_view k.links.items; demands = map demand_view k.demands.items; skipped = k.skipped }

abbrev pub draft_view : DraftWords → Draft
draft_view d = record {
  id = word_view d.id;
  source = word_view d.source;
  target = word_view d.target;
  first = word_view d.first;
  second = word_view d.second;
  third = word_view d.third;
  fourth = word_view d.fourth;
  capacity = word_view d.capacity;
}

abbrev pub sofar_view : SofarWords → Partial
sofar_view s = record { draft = draft_view s.draft; words = slices_view s.words; modules = slices_view s.modules; bad = s.bad; rows = kept_view s.rows }
