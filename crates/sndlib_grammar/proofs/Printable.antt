-- The rows of every text are printable.
use Rattle.std.proofs.Common.{◌≡◌, ℕ, true, false, Bool, not, List, [], ◌∷◌, map, Option, Some, None, Result, Ok, Err, refl, subst}
use Rattle.std.specs.Prelude.{All, find, if◌then◌else◌}
use Rattle.std.specs.List.{flat_map, AllByRecursion}
use Rattle.sndlib_grammar.specs.Number.{is_number}
use Rattle.sndlib_grammar.specs.declared.refusal.NetRefusal.{NetRefusal}
use Rattle.sndlib_grammar.specs.Grammar.{Module, LinkEntry, Entries}
use Rattle.sndlib_grammar.specs.Faults.{texts, line_of, node_ids, is_bad, bad_module, bad_of_link, bad_of_demand, first_of, fault_of}
use Rattle.sndlib_grammar.specs.Rows.{NetLink, NetRows, module_words, net_link, net_rows}
use Rattle.sndlib_grammar.specs.Text.{end_of, read_of}
use Rattle.sndlib_grammar.specs.Net.{judged, rows_of, unless_fault}
use Rattle.sndlib_grammar.proofs.RowFacts.{first_none, second_none, sound_parts, all_none, text_rows_hold}
use Rattle.std.proofs.lemmas.List.Elements.{All-from_recursion}
use Rattle.sndlib_grammar.specs.Canonical.{AreModules, ArePrintable}

modules_are : (ms : List Module) → bad_module ms ≡ None → AreModules (flat_map module_words ms)
modules_are [] h = tt
modules_are (m ∷ ms) h =
    let go = elim (is_number m.capacity.text) as (λ (b : Bool). is_number m.capacity.text ≡ b → line_of (if not b then Some m.capacity else find is_bad (map (λ (x : Module). x.capacity) ms)) ≡ None → AreModules (flat_map module_words (m ∷ ms)))
    [ true ↦ λ e a. (e, modules_are ms a) | false ↦ λ e a. absurd cc ] in
    go refl h

links_are : (known : List (List ℕ)) (ls : List LinkEntry) → AllByRecursion (λ l. bad_of_link l ≡ None) ls → AllByRecursion (λ (l : NetLink). AreModules l.modules) (map (net_link known) ls)
links_are known [] all = tt
links_are known (l ∷ ls) all = (modules_are l.modules (second_none (line_of (find is_bad (l.installed ∷ []))) (bad_module l.modules) all.0), links_are known ls all.1)

entries_are : (end : ℕ) (e : Entries) → fault_of e ≡ None → All (λ (l : NetLink). AreModules l.modules) (net_rows end e).links
entries_are end e none =
    let sound = sound_parts e none in
    All-from_recursion (λ (l : NetLink). AreModules l.modules) (map (net_link (texts (node_ids e))) e.links) (links_are (texts (node_ids e)) e.links (all_none bad_of_link e.links (first_none (first_of bad_of_link e.links) (first_of bad_of_demand e.demands) sound.numbers)))

links_of_text : (text : List ℕ) (rows : NetRows) → rows_of text ≡ Ok rows → All (λ (l : NetLink). AreModules l.modules) rows.links
links_of_text text rows h =
    let go = elim (read_of text) as (λ (r : Result Entries NetRefusal). read_of text ≡ r → judged (end_of text) r ≡ Ok rows → All (λ (l : NetLink). AreModules l.modules) rows.links) [
      | Ok found ↦ λ e a.
          (let sound = elim (fault_of found) as (λ (o : Option NetRefusal). fault_of found ≡ o → unless_fault (end_of text) found o ≡ Ok rows → All (λ (l : NetLink). AreModules l.modules) rows.links) [
            | None ↦ λ none b. (let same : net_rows (end_of text) found ≡ rows = cc in subst (λ (r : NetRows). All (λ (l : NetLink). AreModules l.modules) r.links) same (entries_are (end_of text) found none))
            | Some r ↦ λ some b. absurd cc
          ] in
          sound refl a)
      | Err r ↦ λ e a. absurd cc
    ] in
    go refl h

pub text_printable : (text : List ℕ) (rows : NetRows) → rows_of text ≡ Ok rows → ArePrintable rows
text_printable text rows h = record { sound = text_rows_hold text rows h; modules = links_of_text text rows h }
