-- What `tighten` answers.
use Rattle.std.specs.Prelude.{◌≡◌, ℕ, Bool, true, false, List, [], ◌∷◌, Option, Some, None, if◌then◌else◌}
use Rattle.mcf_limits.specs.declared.TheConstants.{MAX_CERT_BYTES}
use Rattle.mcf_base.specs.Shelf.{ShelfView}
use Rattle.flow_paths.specs.declared.certificate.Proof.{Proof}
use Rattle.sndlib_grammar.specs.Rows.{NetRows}
use Rattle.unit_scale.specs.Scaling.{ScaledNet}
use Rattle.unit_scale.specs.declared.modes.LinkMode.{LinkMode}
use Rattle.unit_scale.specs.declared.modes.LinkMode.TheVariants.{Directed, Undirected, Bidirected}
use Rattle.cut_bound.specs.Tightened.{IsTightened}
use Rattle.cert_lines.specs.Sheet.{sheet_of}
use Rattle.cert_writer.specs.Text.{certificate_text}
use Rattle.cert_judge.specs.declared.certifying.Certified.{Certified}
use Rattle.cert_judge.specs.declared.certifying.Certified.TheVariants as firsts
use Rattle.cert_judge.specs.declared.second.Second.{Second as SecondRead}
use Rattle.cert_judge.specs.declared.second.Second.TheVariants as seconds
use Rattle.cert_judge.specs.Certified.{IsCertifiedText}
use Rattle.cert_judge.specs.Second.{IsSecondText, with_net}
use Rattle.base_cmd.specs.declared.outcome.FileKind.TheVariants.{Certificate, Second}
use Rattle.base_cmd.specs.declared.outcome.Outcome.TheVariants.{Judged, SecondRefused, SecondInvalid}
use Rattle.base_cmd.specs.Found.{nothing}
use Rattle.base_cmd.specs.Answer.{Answer, answer_of}
use Rattle.base_cmd.specs.Files.{Ends, OfFile, OfNet, OrMemory}

-- each cell goes both ways
abbrev pub go_both_ways : LinkMode → Bool
go_both_ways Directed = false
go_both_ways Undirected = true
go_both_ways Bidirected = false

-- it is the best certificate that these valid ones of the network give
abbrev pub IsBestOf : ScaledNet → Proof → List Proof → Proof → Type 0
IsBestOf net first others best = IsTightened net.net (go_both_ways net.options.links) first others best

-- the certificate in form 2, with status 0 where it is closed and 1 where it is open
abbrev pub best_answer : NetRows → ScaledNet → Proof → Answer
best_answer rows net best = record {
  status = if best.closed then 0 else 1;
  text = certificate_text (sheet_of rows net) best;
  found = nothing;
}

-- the answer is the text of the best certificate that these give
abbrev pub WritesBest : NetRows → ScaledNet → Proof → List Proof → Answer → Type 0
WritesBest rows net first others answer =
    (best : Proof) × IsBestOf net first others best × (answer ≡ best_answer rows net best)

-- a second certificate that is refused or invalid is told, and a valid one is taken in
abbrev pub OnBoth : NetRows → ScaledNet → Proof → SecondRead → Answer → Type 0
OnBoth rows net first (seconds.Refused r) answer = answer ≡ answer_of (SecondRefused r)
OnBoth rows net first (seconds.Invalid fault) answer = answer ≡ answer_of (SecondInvalid fault)
OnBoth rows net first (seconds.Valid proof) answer = WritesBest rows net first (proof ∷ []) answer

-- the answer of the second certificate's text behind a valid first one
abbrev pub OnSecond : NetRows → ScaledNet → Proof → List ℕ → Answer → Type 0
OnSecond rows net first text answer =
    (second : SecondRead) × IsSecondText rows net.options text (with_net net second)
    × OnBoth rows net first second answer

-- the answer behind a valid first certificate: of itself, or of the second file
abbrev pub OnFirst : NetRows → Option (List ℕ) → ScaledNet → Proof → ShelfView → ShelfView → Answer → Type 0
OnFirst rows None net first old new answer = Ends (WritesBest rows net first []) old new answer
OnFirst rows (Some name) net first old new answer =
    OfFile MAX_CERT_BYTES Second name (λ text. Ends (OnSecond rows net first text)) old new answer

-- a first certificate that is refused or invalid is told, and behind a valid one, and no other, the second file is
-- asked for
abbrev pub OnFirstRead : NetRows → Option (List ℕ) → Certified → ShelfView → ShelfView → Answer → Type 0
OnFirstRead rows second (firsts.Said judged) old new answer = (answer ≡ answer_of (Judged judged)) × (new ≡ old)
OnFirstRead rows second (firsts.Valid net first) old new answer = OnFirst rows second net first old new answer

-- the answer of the first certificate's text on the rows
abbrev pub OnFirstText : NetRows → Option (List ℕ) → List ℕ → ShelfView → ShelfView → Answer → Type 0
OnFirstText rows second text old new answer =
    (certified : Certified) × IsCertifiedText rows text certified × OnFirstRead rows second certified old new answer

-- the answer of the first certificate's file
abbrev pub OfFirst : NetRows → List ℕ → Option (List ℕ) → ShelfView → ShelfView → Answer → Type 0
OfFirst rows cert second old new answer =
    OfFile MAX_CERT_BYTES Certificate cert (λ text. OrMemory (OnFirstText rows second text)) old new answer

-- the answer of two or three files, in their order
abbrev pub OfTighten : List ℕ → List ℕ → Option (List ℕ) → ShelfView → ShelfView → Answer → Type 0
OfTighten net cert second old new answer = OfNet net (λ rows. OfFirst rows cert second) old new answer
