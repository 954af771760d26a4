-- What is written of a run for the greatest total is judged valid.
use Rattle.std.proofs.Common.{◌≡◌, ◌∙◌, ℕ, Bool, List, [], ◌∷◌, ◌++◌, Ok, refl, ap, sym, subst}
use Rattle.std.specs.Prelude.{codes}
use Rattle.text_lines.specs.Lines.{Line, lines_of}
use Rattle.text_lines.proofs.Laws.{ended, lines_of-text}
use Rattle.gap_fraction.specs.Fraction.{Fraction}
use Rattle.unit_scale.specs.Modes.{module_word, link_word}
use Rattle.unit_scale.specs.declared.modes.LinkMode.{LinkMode}
use Rattle.unit_scale.specs.declared.modes.LinkMode.TheVariants.{Directed, Undirected, Bidirected}
use Rattle.unit_scale.specs.declared.modes.ModuleMode.{ModuleMode}
use Rattle.unit_scale.specs.declared.modes.ModuleMode.TheVariants.{Ignore, Largest, Sum}
use Rattle.unit_scale.specs.declared.options.NetOptions.{NetOptions}
use Rattle.unit_scale.specs.Scaling.{ScaledNet}
use Rattle.cert_check.specs.declared.verdict.Fault.{Fault}
use Rattle.cert_check.specs.declared.verdict.Fault.TheVariants.{C1, C2, C3, C4, C5, C6, C7, C8, C9, C10}
use Rattle.cert_lines.specs.Sheet.{Sheet, IsOf, sheet_of}
use Rattle.cert_lines.specs.Spelling.{verdict_words, links_words, modules_words, counts_words}
use Rattle.cert_lines.specs.HeadLines.{verdict_line}
use Rattle.cert_lines.specs.declared.form.Form.TheVariants.{Second}
use Rattle.cert_text.specs.Whole.{link_mode_line, module_mode_line, modes_behind}
use Rattle.cert_judge.specs.declared.judged.Judged.{Judged}
use Rattle.cert_judge.specs.declared.judged.Judged.TheVariants.{NetRefused, CertRefused, Invalid, Feasible, Valid}
use Rattle.cert_judge.specs.Chain.{AreStages}
use Rattle.cert_judge.specs.Papers.{nothing_more}
use Rattle.cert_judge.specs.Judgement.{refused}
use Rattle.cert_judge.proofs.PaperFacts.{own_scaled}
use Rattle.cert_judge.proofs.Stages.{says, said_of}
use Rattle.cert_inverse.specs.Inverse.{IsCitable}
use Rattle.cert_inverse.proofs.HeadAgain.{verdict_again}
use Rattle.cert_inverse.proofs.HeadsAgain.{HasModes}
use Rattle.cert_inverse.proofs.JudgedTexts.{modes_of}
use Rattle.cert_inverse.proofs.NetworkWords.{citable}
use Rattle.cert_inverse.proofs.PlacesAgain.{place, next_again}
use Rattle.route_tally.specs.Conditions.{EachHolds}
use Rattle.throughput.specs.declared.part_proof.PartProof.{PartProof}
use Rattle.throughput.specs.Conditions.{PartHolds}
use Rattle.kind_texts.specs.Heads.{header_at, run_head}
use Rattle.kind_texts.specs.PartText.{part_text, part_lines, from_totals, FitsPart}
use Rattle.kind_inverse.proofs.CleanLines.{part_clean}
use Rattle.kind_inverse.proofs.TextsAgain.{part_read_back}
use Rattle.throughput_cmd.specs.Check.{SaysPart, rest_of}
use Rattle.net_solve.specs.Asked.{turn_options_for}
use Rattle.throughput_cmd.specs.Laws.{SolvedPartsCheck, valid_of}
use Rattle.throughput_cmd.proofs.Made.{done_is}
use Rattle.throughput_cmd.proofs.Written.{written}

-- ---- the first lines

link_again : (mode : LinkMode) → link_mode_line Second (codes "links" ∷ link_word mode ∷ []) ≡ Ok mode
unfolding link_mode_line
link_again Directed = refl
link_again Undirected = refl
link_again Bidirected = refl

module_again : (mode : ModuleMode) → module_mode_line (codes "modules" ∷ module_word mode ∷ []) ≡ Ok mode
unfolding module_mode_line
module_again Ignore = refl
module_again Largest = refl
module_again Sum = refl

header_again : (line : Line) (lines : List Line) → header_at (codes "mcf-throughput 1") ((codes "mcf-throughput" ∷ codes "1" ∷ []) ∷ line ∷ lines) ≡ Ok (place 2 (line ∷ lines))
unfolding header_at
header_again line lines = refl

head_again : (sheet : Sheet) (options : NetOptions) (closed : Bool) (line : Line) (rest : List Line) → HasModes sheet Second options
    → run_head (codes "mcf-throughput 1") ((codes "mcf-throughput" ∷ codes "1" ∷ []) ∷ verdict_words closed ∷ links_words sheet ∷ modules_words sheet ∷ line ∷ rest) ≡ Ok options
unfolding run_head modes_behind
head_again sheet options closed line rest m =
    let behind = links_words sheet ∷ modules_words sheet ∷ line ∷ rest in
    let verdict = next_again verdict_line 2 (verdict_words closed) behind closed refl (verdict_again closed) in
    let links = next_again (link_mode_line Second) 3 (links_words sheet) (modules_words sheet ∷ line ∷ rest) options.links refl
    (ap (λ (w : List ℕ). link_mode_line Second (codes "links" ∷ w ∷ [])) m.links ∙ link_again options.links) in
    let modules = next_again module_mode_line 4 (modules_words sheet) (line ∷ rest) options.modules refl
    (ap (λ (w : List ℕ). module_mode_line (codes "modules" ∷ w ∷ [])) m.modules ∙ module_again options.modules) in
    rw (header_again (verdict_words closed) behind, verdict, links, modules) refl

text_head : (sheet : Sheet) (options : NetOptions) (p : PartProof) → IsCitable sheet → HasModes sheet Second options → FitsPart sheet p → run_head (codes "mcf-throughput 1") (lines_of (part_text sheet p)) ≡ Ok options
text_head sheet options p own m fits =
    ap (run_head (codes "mcf-throughput 1")) (lines_of-text (part_lines sheet p) (part_clean sheet p own fits)) ∙ head_again sheet options p.closed (counts_words sheet) (from_totals sheet p ++ ended) m

-- ---- nothing else is said

holds : (Holds : Fault → Type 0) → EachHolds Holds → (fault : Fault) → Holds fault
holds Holds h C1 = h.0
holds Holds h C2 = h.1.0
holds Holds h C3 = h.1.1.0
holds Holds h C4 = h.1.1.1.0
holds Holds h C5 = h.1.1.1.1.0
holds Holds h C6 = h.1.1.1.1.1.0
holds Holds h C7 = h.1.1.1.1.1.1.0
holds Holds h C8 = h.1.1.1.1.1.1.1.0
holds Holds h C9 = h.1.1.1.1.1.1.1.1.0
holds Holds h C10 = h.1.1.1.1.1.1.1.1.1.0

alike : (o p : NetOptions) (b c : Bool) (l m u v : Fraction) → o ≡ p → b ≡ c → l ≡ m → u ≡ v → Valid o b l u ≡ Valid p c m v
alike o p b c l m u v e f g h = cc

only_valid : (net : ScaledNet) (p : PartProof) → EachHolds (PartHolds net.net p) → (judged : Judged) → SaysPart net p judged → judged ≡ valid_of net p
only_valid net p valid (Valid options closed lower upper) s = alike options _ closed _ lower _ upper _ s.0 s.1 s.2 s.3
only_valid net p valid (Invalid fault) s = absurd (s.1 (holds (PartHolds net.net p) valid fault))
only_valid net p valid (NetRefused r) s = absurd s
only_valid net p valid (CertRefused r) s = absurd s
only_valid net p valid (Feasible options value) s = absurd s

-- ---- the law

pub checked : SolvedPartsCheck
checked rows o asked net p judged well few n solving =
    let done = done_is rows o asked net p solving in
    let of : IsOf rows net = record { well = well; options = o; scaled = done.0 } in
    let sheet = sheet_of rows net in
    let fits = written rows net (turn_options_for net.net asked) p of n done.1 in
    let own = citable rows net of few in
    let lines = lines_of (part_text sheet p) in
    let stages : AreStages rows (λ (x : NetOptions). x) nothing_more (rest_of rows lines) (run_head (codes "mcf-throughput 1") lines) net p = record {
      head_of = net.options;
      head_read = text_head sheet net.options p own (modes_of rows net) fits;
      scaled = own_scaled rows net of;
      fits = refl;
      rest_read = part_read_back sheet p own fits;
    } in
    let all = done.1.valid in (
      λ said. only_valid net p all judged (said_of rows (λ (x : NetOptions). x) nothing_more (rest_of rows lines) (run_head (codes "mcf-throughput 1") lines) refused SaysPart judged net p stages said),
      λ is. says rows (λ (x : NetOptions). x) nothing_more (rest_of rows lines) (run_head (codes "mcf-throughput 1") lines) refused SaysPart judged net p stages
          (subst (SaysPart net p) (sym is) (refl, refl, refl, refl, all, done.1.certified)),
    )
