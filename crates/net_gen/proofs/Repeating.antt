-- What is read of a drawn text has that text as its canonical text.
use Rattle.std.proofs.Common.{◌≡◌, ℕ, List, [], ◌∷◌, ◌++◌, Result, Ok, sym, ap, ◌∙◌}
use Rattle.std.specs.Prelude.{codes}
use Rattle.std.proofs.lemmas.Simd.{map-map}
use Rattle.text_lines.specs.Lines.{Line, text_of}
use Rattle.sndlib_grammar.specs.declared.refusal.NetRefusal.{NetRefusal}
use Rattle.sndlib_grammar.specs.Net.{rows_of}
use Rattle.sndlib_grammar.specs.Rows.{NetRows, names_of_nodes}
use Rattle.sndlib_grammar.specs.Canonical.{canonical_text, closing_line, first_line, opening_line, section, node_line, link_line, demand_line, link_without_line, demand_without_line, without_lines}
use Rattle.sndlib_grammar.proofs.ReadBack.{reads_back}
use Rattle.net_gen.specs.Generated.{AreCounts, generated_rows, generated_text}
use Rattle.net_gen.proofs.Putting.{ap2}
use Rattle.net_gen.proofs.Printing.{rows_printable}

-- the canonical text says nothing of lines
forget : (rows : NetRows) → canonical_text (without_lines rows) ≡ canonical_text rows
forget rows =
    ap2 (λ (ls ds : List Line). text_of (first_line ∷ section (codes "NODES") node_line rows.nodes ++ ((opening_line (codes "LINKS") ∷ ls ++ closing_line ∷ []) ++ (opening_line (codes "DEMANDS") ∷ ds ++ closing_line ∷ []))))
    (map-map (link_line (names_of_nodes rows)) link_without_line rows.links) (map-map (demand_line (names_of_nodes rows)) demand_without_line rows.demands)

same_text : (a b : NetRows) → without_lines a ≡ without_lines b → canonical_text a ≡ canonical_text b
same_text a b e = sym (forget a) ∙ ap canonical_text e ∙ forget b

abbrev read : NetRows → Result NetRows NetRefusal
read rows = Ok rows

read_is : (a b : NetRows) → read a ≡ read b → a ≡ b
read_is a b e = cc

pub text_repeated : (seed nodes links demands : ℕ) (rows : NetRows) → AreCounts nodes links demands → rows_of (generated_text seed nodes links demands) ≡ Ok rows → canonical_text rows ≡ generated_text seed nodes links demands
text_repeated seed nodes links demands rows are e =
    let back = reads_back (generated_rows seed nodes links demands) (rows_printable seed nodes links demands are) in
    let found : rows ≡ back.found = read_is rows back.found (sym e ∙ back.reads) in
    ap canonical_text found ∙ same_text back.found (generated_rows seed nodes links demands) back.same
