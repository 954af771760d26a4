-- Where the first lines of a certificate with hop limits or of a total are refused, and why.
use Rattle.std.proofs.Common.{◌≡◌, ℕ, Bool, true, List, [], ◌∷◌, ◌++◌, Result, Ok, Err, refl, sym, ap, ◌∙◌, append-nil, inl, inr, arith}
use Rattle.std.specs.Prelude.{codes}
use Rattle.std.specs.List.{AllByRecursion}
use Rattle.text_lines.specs.Lines.{Line, text_of, lines_of, IsLine}
use Rattle.unit_scale.specs.declared.modes.LinkMode.{LinkMode}
use Rattle.unit_scale.specs.declared.modes.LinkMode.TheVariants.{Directed, Undirected, Bidirected}
use Rattle.unit_scale.specs.declared.modes.ModuleMode.TheVariants.{Ignore}
use Rattle.unit_scale.specs.declared.options.NetOptions.{NetOptions}
use Rattle.cert_lines.specs.declared.form.Form.TheVariants.{Second}
use Rattle.cert_lines.specs.declared.refusal.CertRefusal.{CertRefusal}
use Rattle.cert_lines.specs.Forms.{◌>>=◌, is_fixed}
use Rattle.cert_lines.specs.HeadLines.{verdict_line}
use Rattle.cert_lines.specs.Spelling.{verdict_words}
use Rattle.cert_text.specs.declared.opening.Kind.TheVariants as kinds
use Rattle.cert_text.specs.Reading.{Place, has_more, next_line}
use Rattle.cert_text.specs.Whole.{link_mode_line, module_mode_line, modes_behind}
use Rattle.cert_text.proofs.LineSteps.{has_line}
use Rattle.cert_inverse.proofs.Clean.{Clean, clean}
use Rattle.cert_inverse.proofs.HeadTakes.{joined, verdict_takes}
use Rattle.cert_inverse.proofs.HeadAgain.{verdict_again}
use Rattle.cert_inverse.proofs.PlacesAgain.{next_again}
use Rattle.kind_texts.specs.Heads.{header_at, run_head}
use Rattle.cli_laws.specs.Heads.{links_line, modules_line}
use Rattle.cli_laws.specs.KindHeads.{lines_under, IsHeadedUnder, options_refused, IsHeadReasonUnder, IsHopsHeaded, IsTotalHeaded, IsHopsHeadRefusedFor, IsTotalHeadRefusedFor}
use Rattle.cli_laws.specs.LineRoles.{TextKind, verdict, links, modules, hops, total, head_line, StandsAt}
use Rattle.cli_laws.specs.Lines.{StopsAt}
use Rattle.cli_laws.specs.Refusals.{HasReason}
use Rattle.cli_laws.proofs.Steps.{done, Is, then_is, is_more}
use Rattle.cli_laws.proofs.Near.{Two, Steps, Any, AnyTwo, next_steps, steps_then}
use Rattle.cli_laws.proofs.NearKinds.{same_under}
use Rattle.cli_laws.proofs.Short.{Short, PartOf, Fits, stand_none, within, line_parses, go_on}
use Rattle.cli_laws.proofs.ShortKinds.{stuck_under}
use Rattle.cli_laws.proofs.Stuck.{of_part}
use Rattle.cli_laws.proofs.LineReasons.{no_verdict}
use Rattle.cli_laws.proofs.Reasons.{At, Reached, Anything, with_reason}
use Rattle.cli_laws.proofs.Heads.{options, HasWord, modes_steps, mode_lines, BehindHead, modes_on, link_again, module_again, clean_verdict, clean_links, clean_modules, lines_front}
use Rattle.cli_laws.proofs.HeadReasons.{IsHeadFault, Why, next_why, go, modes_why}
use Rattle.cli_laws.proofs.KindReasons.{refused_by}
use Rattle.cli_laws.proofs.KindStops.{Reading, stops_so}

-- the lines behind the header
abbrev rest_head : Place → Result NetOptions CertRefusal
rest_head p = next_line verdict_line p >>= λ v. modes_behind Second v.1 >>= λ m. done m.0

-- ---- where they stop

head_steps : (t : Two) → Steps t (AnyTwo {A = NetOptions}) (Any {A = NetOptions}) rest_head
head_steps t =
    let ok = AnyTwo {A = NetOptions} in
    let far = Any {A = NetOptions} in
    steps_then t ok far (next_line verdict_line) (λ v. modes_behind Second v.1 >>= λ m. done m.0) (next_steps t verdict_line)
    (λ v. steps_then t ok far (modes_behind Second) (λ m. done m.0) (modes_steps t Second) (λ m. record { near = λ p q n. inl (m, refl, tt); past = λ p h. tt }))

abbrev Said : Type 0
Said = Bool × NetOptions

abbrev behind_head : Said → List Line
behind_head x = verdict_words x.0 ∷ mode_lines Second x.1.links x.1.modules

head_part : (p : Place) → Is (Fits {X = NetOptions}) (Short (PartOf behind_head (Fits {X = Said})) p) (rest_head p)
head_part p =
    let lines = λ (v : Bool). verdict_words v ∷ [] in
    let some = options Directed Ignore in
    let front = PartOf behind_head (Fits {X = Said}) in
    go_on lines (Fits {X = Bool}) (Fits {X = NetOptions}) front p p [] (next_line verdict_line p) (λ v. modes_behind Second v.1 >>= λ m. done m.0) (stand_none p)
    (line_parses verdict_line verdict_words (Fits {X = Bool}) true tt verdict_takes (λ line v h. tt) p)
    (λ f is. ((is.0, some), tt, is.2 ++ mode_lines Second Directed Ignore, within [] (lines is.0) (mode_lines Second Directed Ignore) f is.2 (behind_head (is.0, some)) refl is.3))
    (λ v q fine st. then_is (Fits {X = NetOptions × Place}) (Short (BehindHead kinds.Certificate Second) p) (Fits {X = NetOptions}) (Short front p) (modes_behind Second q) (λ m. done m.0) (modes_on kinds.Certificate Second v p q st)
    (λ e s. of_part (BehindHead kinds.Certificate Second) front p e (λ f is. ((is.2, options is.0 is.1), tt, is.4, is.5)) s) (λ x h. tt))

has_word : (mode : LinkMode) → HasWord Second mode
has_word Directed = omega arith
has_word Undirected = omega arith
has_word Bidirected = omega arith

head_again : (header word : List ℕ) (closed : Bool) (o : NetOptions) (line : Line) (rest : List Line) → is_fixed header (word ∷ codes "1" ∷ []) ≡ true → run_head header (lines_under word closed o ++ line ∷ rest) ≡ Ok o
unfolding run_head header_at modes_behind
head_again header word closed o line rest known =
    let said = next_again verdict_line 2 (verdict_words closed) (mode_lines Second o.links o.modules ++ line ∷ rest) closed refl (verdict_again closed) in
    let link = next_again (link_mode_line Second) 3 (links_line Second o.links) (modules_line o.modules ∷ line ∷ rest) o.links refl (link_again Second o.links (has_word o.links)) in
    let last = next_again module_mode_line 4 (modules_line o.modules) (line ∷ rest) o.modules refl (module_again o.modules) in
    rw (known, said, link, last) refl

clean_under : (word : List ℕ) (closed : Bool) (o : NetOptions) → Clean word → AllByRecursion IsLine (lines_under word closed o)
clean_under word closed o w = ((w, (clean (codes "1") refl, tt)), (clean_verdict closed, (clean_links Second o.links, (clean_modules o.modules, tt))))

headed_again : (header word text : List ℕ) → Clean word → is_fixed header (word ∷ codes "1" ∷ []) ≡ true → IsHeadedUnder word text → (o : NetOptions) × (run_head header (lines_of text) ≡ Ok o)
headed_again header word text w known h = (h.options, ap (λ (t : List ℕ). run_head header (lines_of t)) h.spelled ∙ ap (run_head header) (lines_front (lines_under word h.closed h.options) h.more (clean_under word h.closed h.options w)) ∙ by (lines_of h.more) (has_line h.more))
  where
    by : (ls : List Line) → has_more ls ≡ true → run_head header (lines_under word h.closed h.options ++ ls) ≡ Ok h.options
    by [] e = absurd cc
    by (line ∷ rest) e = head_again header word h.closed h.options line rest known

head_reading : (header word : List ℕ) → header ≡ joined (word ∷ codes "1" ∷ []) → Clean word → is_fixed header (word ∷ codes "1" ∷ []) ≡ true → Reading {X = Said} {Y = NetOptions} (IsHeadedUnder word) (λ x. lines_under word x.0 x.1) (Fits {X = Said}) (run_head header)
unfolding run_head
head_reading header word same w known =
    let first : Line = word ∷ codes "1" ∷ [] in
    record {
      read = record { again = λ text is. headed_again header word text w known is; same = λ t before r count le k. same_under header rest_head head_steps t before r count le k };
      spelled = λ x fits. record { closed = x.0; options = x.1; more = []; spelled = sym (append-nil (text_of (lines_under word x.0 x.1))) };
      clean = λ x fits. clean_under word x.0 x.1 w;
      stuck = λ lines e k. stuck_under header first same behind_head (λ x. lines_under word x.0 x.1) (λ x. refl) (Fits {X = Said}) (true, options Directed Ignore) tt rest_head head_part lines e k;
    }

pub hops_head_stops : (text : List ℕ) (r : CertRefusal) → run_head (codes "mcf-hops 1") (lines_of text) ≡ options_refused r → StopsAt IsHopsHeaded text r.line
hops_head_stops text r e = stops_so IsHopsHeaded (λ (x : Said). lines_under (codes "mcf-hops") x.0 x.1) (Fits {X = Said}) (run_head (codes "mcf-hops 1")) (head_reading (codes "mcf-hops 1") (codes "mcf-hops") refl (clean (codes "mcf-hops") refl) refl) text r e

pub total_head_stops : (text : List ℕ) (r : CertRefusal) → run_head (codes "mcf-throughput 1") (lines_of text) ≡ options_refused r → StopsAt IsTotalHeaded text r.line
total_head_stops text r e = stops_so IsTotalHeaded (λ (x : Said). lines_under (codes "mcf-throughput") x.0 x.1) (Fits {X = Said}) (run_head (codes "mcf-throughput 1")) (head_reading (codes "mcf-throughput 1") (codes "mcf-throughput") refl (clean (codes "mcf-throughput") refl) refl) text r e

-- ---- and why

rest_why : (kind : TextKind) → StandsAt kind (head_line verdict) 2 → StandsAt kind (head_line links) 3 → StandsAt kind (head_line modules) 4 → (lines : List Line) (p : Place) → At lines p → p.at ≡ 2 → Is (Anything {X = NetOptions}) (Why lines kind Second) (rest_head p)
rest_why kind one two three lines p h is =
    go lines kind Second (Reached {X = Bool} lines 3) (Anything {X = NetOptions}) (next_line verdict_line p) (λ v. modes_behind Second v.1 >>= λ m. done m.0) (next_why lines kind Second verdict_line verdict (λ line k e. no_verdict line k e) 2 p h is one)
    (λ v hv. go lines kind Second (Anything {X = NetOptions × Place}) (Anything {X = NetOptions}) (modes_behind Second v.1) (λ m. done m.0) (modes_why lines kind Second 3 v.1 hv.0 hv.1 two three) (λ m hm. tt))

head_refused : (header : List ℕ) (kind : TextKind) → StandsAt kind (head_line verdict) 2 → StandsAt kind (head_line links) 3 → StandsAt kind (head_line modules) 4 → (lines : List Line) (r : CertRefusal) → has_more lines ≡ true → run_head header lines ≡ Err r → HasReason lines (IsHeadReasonUnder header kind lines) r
unfolding run_head
head_refused header kind one two three lines r m e =
    let Refused = λ (ls : List Line) (d : CertRefusal). HasReason ls (IsHeadReasonUnder header kind ls) d in
    refused_by header Refused rest_head
    (λ line rest no. record { before = []; line = line; after = rest; parts = refl; count = refl; reason = inl (refl, no, refl) })
    (λ line rest is none. record { before = []; line = line; after = rest; parts = refl; count = refl; reason = inr (refl, is, inl none) })
    (λ line rest p is h at. is_more (Anything {X = NetOptions}) (Why (line ∷ rest) kind Second) (Anything {X = NetOptions}) (Refused (line ∷ rest)) (rest_head p) (rest_why kind one two three (line ∷ rest) p h at)
    (λ d w. with_reason (line ∷ rest) (IsHeadFault kind Second) (IsHeadReasonUnder header kind (line ∷ rest)) (λ before l after d k. inr (k.0, is, k.1)) d w) (λ x k. k))
    lines r m e

pub hops_head_refused_for : (lines : List Line) (r : CertRefusal) → has_more lines ≡ true → run_head (codes "mcf-hops 1") lines ≡ Err r → IsHopsHeadRefusedFor lines r
hops_head_refused_for lines r m e = head_refused (codes "mcf-hops 1") hops (omega arith, refl) (omega arith, refl) (omega arith, refl) lines r m e

pub total_head_refused_for : (lines : List Line) (r : CertRefusal) → has_more lines ≡ true → run_head (codes "mcf-throughput 1") lines ≡ Err r → IsTotalHeadRefusedFor lines r
total_head_refused_for lines r m e = head_refused (codes "mcf-throughput 1") total (omega arith, refl) (omega arith, refl) (omega arith, refl) lines r m e
