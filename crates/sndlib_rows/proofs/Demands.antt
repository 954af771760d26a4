-- Rows of demands that are handed in, and their names.
use Rattle.std.proofs.Common.{◌≡◌, ℕ, List, [], ◌∷◌, refl, ap, sym, subst, ◌∙◌, Bor, Option, Some, None, Result, Ok, Err}
use Rattle.std.specs.Prelude.{map}
use Rattle.indexmap.specs.IndexSet.{IndexSet}
use Rattle.sndlib_grammar.specs.declared.refusal.NetKind.TheVariants as netkinds
use Rattle.sndlib_grammar.specs.declared.refusal.NetRefusal.{NetRefusal}
use Rattle.sndlib_grammar.specs.Grammar.{Word}
use Rattle.sndlib_grammar.specs.Faults.{texts, first_repeated, at_line, line_of}
use Rattle.sndlib_grammar.specs.Rows.{NetRows, NetDemand, AreDistinct, AreNetRows}
use Rattle.sndlib_grammar.proofs.TextSound.{none_repeated}
use Rattle.sndlib_rows.specs.declared.kept.Word.{Word as WordSlice}
use Rattle.sndlib_rows.specs.declared.part.NetPart.{NetPart}
use Rattle.sndlib_rows.specs.declared.refusal.ReadNetEnd.{ReadNetEnd}
use Rattle.sndlib_rows.specs.declared.refusal.ReadNetEnd.TheVariants.{Refused, Memory}
use Rattle.sndlib_rows.specs.declared.row.DemandRow.{DemandRow}
use Rattle.sndlib_rows.specs.Names.{AreNamed}
use Rattle.sndlib_rows.specs.Net.{AreRawParts}
use Rattle.sndlib_rows.specs.Parts.{id_of, rows_with}
use Rattle.sndlib_rows.specs.RowViews.{demand_row_view}
use Rattle.sndlib_rows.specs.Views.{word_view}

-- the id of a row, as a word that is kept
abbrev pub id_slice : DemandRow → WordSlice
id_slice d = record { text = d.id; line = d.line }

pub ids_are_words : (ds : List DemandRow) → map word_view (map id_slice ds) ≡ map id_of ds
ids_are_words [] = refl
ids_are_words (d ∷ ds) = ap (λ (ws : List Word). id_of d ∷ ws) (ids_are_words ds)

ids_are_texts : (ds : List DemandRow) → map (λ (d : NetDemand). d.id) (map demand_row_view ds) ≡ texts (map id_of ds)
ids_are_texts [] = refl
ids_are_texts (d ∷ ds) = ap (λ (ws : List (List ℕ)). d.id.now ∷ ws) (ids_are_texts ds)

none_twice : (ds : List DemandRow) → AreDistinct (map (λ (d : NetDemand). d.id) (map demand_row_view ds)) → first_repeated [] (map id_of ds) ≡ None
none_twice ds h = none_repeated [] (map id_of ds) (subst AreDistinct (ids_are_texts ds) h)

-- rows of which no id stands twice are not refused for one
pub not_refused : {S : Type 0} (ds : List DemandRow) (r : NetRefusal) (found : Result (IndexSet (Bor (List ℕ)) S) ReadNetEnd)
    → AreDistinct (map (λ (d : NetDemand). d.id) (map demand_row_view ds)) → AreNamed (map id_of ds) found → found ≡ Err (Refused r) → ⊥
not_refused ds r (Ok set) distinct h e = cc
not_refused ds r (Err Memory) distinct h e = cc
not_refused ds r (Err (Refused f)) distinct h e =
    let none : None ≡ Some f = sym (ap (λ (o : Option Word). at_line netkinds.Duplicate (line_of o)) (none_twice ds distinct)) ∙ h in
    cc

-- the part of a network, with other demands
pub other_demands : (p : NetPart) (old : List DemandRow) (old_names : List (List ℕ)) (rows : NetRows) (ds : List DemandRow) (names : List (List ℕ))
    → AreRawParts p old old_names → rows_with p old ≡ rows → AreNetRows (record rows { demands = map demand_row_view ds }) → names ≡ texts (map id_of ds) → AreRawParts p ds names
other_demands p old old_names rows ds names h is sound e = record {
  rows = subst (λ (r : NetRows). AreNetRows (record r { demands = map demand_row_view ds })) (sym is) sound;
  beside = record { node_names = h.beside.node_names; link_names = h.beside.link_names; link_ends = h.beside.link_ends };
  demand_names = e ∙ sym (ids_are_texts ds);
}
