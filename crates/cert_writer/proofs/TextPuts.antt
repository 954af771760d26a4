-- Parts of a text, put one after the other.
use Rattle.std.proofs.Common.{◌≡◌, ℕ, ◌<◌, List, [], ◌∷◌, ◌++◌, length, Result, refl, sym, ap, subst, ◌∙◌, append_assoc}
use Rattle.std.specs.Prelude.{All}
use Rattle.std.proofs.lemmas.List.Concat.{flat_map-cons}
use Rattle.std.proofs.lemmas.List.Elements.{All-from_recursion, All-weaker}
use Rattle.text_lines.specs.Lines.{Line, spelled, text_of}
use Rattle.mcf_base.specs.Sink.{SinkView}
use Rattle.text_lines.specs.Writing.{Puts, ended, failed}
use Rattle.text_lines.proofs.Putting.{puts_then, puts_stop}
use Rattle.flow_paths.specs.declared.certificate.Proof.{Proof}
use Rattle.cert_lines.specs.Sheet.{Sheet}
use Rattle.cert_lines.specs.Spelling.{FitsPath, FitsLength, FitsPotential}
use Rattle.cert_writer.specs.Text.{FitsProof, IsWritable}

text_of-both : (xs ys : List Line) → text_of xs ++ text_of ys ≡ text_of (xs ++ ys)
text_of-both [] ys = refl
text_of-both (x ∷ xs) ys =
    ap (λ (l : List ℕ). l ++ text_of ys) (flat_map-cons spelled x xs) ∙ append_assoc (spelled x) (text_of xs) (text_of ys)
    ∙ ap (λ (l : List ℕ). spelled x ++ l) (text_of-both xs ys) ∙ sym (flat_map-cons spelled x (xs ++ ys))

pub part_then : {E : Type 0} (a b c : SinkView) (u v w : List ℕ) (r : Result (Unit {0}) E) (xs ys : List Line) → Puts a b u v (ended (Unit {0}) E tt) (text_of xs) → Puts b c v w r (text_of ys) → Puts a c u w r (text_of (xs ++ ys))
part_then {E} a b c u v w r xs ys h k = subst (λ (t : List ℕ). Puts a c u w r t) (text_of-both xs ys) (puts_then a b c u v w tt r (text_of xs) (text_of ys) h k)

pub part_stops : {E : Type 0} (a b : SinkView) (u v : List ℕ) (e : E) (xs ys : List Line) → Puts a b u v (failed (Unit {0}) E e) (text_of xs) → Puts a b u v (failed (Unit {0}) E e) (text_of (xs ++ ys))
part_stops {E} a b u v e xs ys h = subst (λ (t : List ℕ). Puts a b u v (failed (Unit {0}) E e) t) (text_of-both xs ys) (puts_stop a b u v v e (text_of xs) (text_of ys) h)

-- a certificate that fits can be written
pub is_writable : (sheet : Sheet) (p : Proof) → FitsProof sheet p → IsWritable sheet p
is_writable sheet p h = record {
  lower = h.lower.micro;
  upper = h.upper.micro;
  commodities = All-weaker (FitsPath sheet) (λ r. r.commodity < length sheet.commodities) (λ r f. f.commodity) p.routing.paths (All-from_recursion (FitsPath sheet) p.routing.paths h.routing.paths);
  cells = All-weaker (FitsPath sheet) (λ r. All (λ c. c < length sheet.cells) r.walk) (λ r f. All-from_recursion (λ c. c < length sheet.cells) r.walk f.cells) p.routing.paths (All-from_recursion (FitsPath sheet) p.routing.paths h.routing.paths);
  lengths = All-weaker (FitsLength sheet) (λ r. r.cell < length sheet.cells) (λ r f. f.cell) p.dual.lengths (All-from_recursion (FitsLength sheet) p.dual.lengths h.lengths);
  potentials = All-weaker (FitsPotential sheet) (λ r. r.node < length sheet.nodes) (λ r f. f.node) p.dual.potentials (All-from_recursion (FitsPotential sheet) p.dual.potentials h.potentials);
}
