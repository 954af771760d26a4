-- What is kept of nodes and links, without where its words lie in memory.
use Rattle.std.specs.Prelude.{map, List, ℕ}
use Rattle.std.specs.Option.{option_map}
use Rattle.std.specs.declared.vec.Vec.{Vec}
use Rattle.std.specs.declared.alloc.Global.{Global}
use Rattle.std.specs.Borrow.{Bor}
use Rattle.sndlib_rows.specs.declared.kept.Word.{Word as WordSlice}
use Rattle.sndlib_rows.specs.declared.kept.NodeWords.{NodeWords}
use Rattle.sndlib_rows.specs.declared.kept.LinkWords.{LinkWords}
use Rattle.sndlib_grammar.specs.Grammar.{Word}
use Rattle.sndlib_rows.specs.Stored.{StoredNode, StoredLink}

abbrev pub word_view : WordSlice → Word
word_view w = record { text = w.text.now; line = w.line }

abbrev pub bytes_of : List (Bor (List ℕ)) → List (List ℕ)
bytes_of words = map (λ w. w.now) words

abbrev pub slices_view : Vec (Bor (List ℕ)) Global → List (List ℕ)
slices_view v = bytes_of v.items

abbrev pub node_view : NodeWords → StoredNode
node_view n = record { id = word_view n.id; place = option_map slices_view n.place }

abbrev pub link_view : LinkWords → StoredLink
link_view l = record {
  id = word_view l.id;
  source = word_view l.source;
  target = word_view l.target;
  installed = word_view l.installed;
  installed_cost = word_view l.installed_cost;
  routing_cost = word_view l.routing_cost;
  setup_cost = word_view l.setup_cost;
  modules = slices_view l.modules;
  bad = l.bad;
}
