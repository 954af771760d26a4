-- What is wrong with a line that is refused, by what it has to be.
use Rattle.std.proofs.Common.{◌≡◌, ◌≢◌, ◌⊎◌, ℕ, ◌<◌, ◌≤◌, Bool, true, false, cond, List, [], ◌∷◌, ◌++◌, length, Option, Some, None, Result, Ok, Err, refl, sym, ap, subst, ◌∙◌, inl, inr, arith}
use Rattle.std.specs.Prelude.{codes, map, nat_le, ◌&&◌}
use Rattle.std.specs.List.{AllByRecursion, join_with_byte}
use Rattle.std.specs.Str.{bytes_eq}
use Rattle.std.specs.Str.Parse.{digits_value}
use Rattle.std.proofs.lemmas.Bool.Decides.{nat_tests}
use Rattle.text_lines.specs.Lines.{Line}
use Rattle.gap_fraction.specs.declared.fraction.TheConstants.{MAX_PART}
use Rattle.cert_lines.specs.Sheet.{Sheet}
use Rattle.cert_lines.specs.declared.net_line.TheConstants.{MAX_COUNT}
use Rattle.cert_lines.specs.declared.refusal.CertKind.{CertKind}
use Rattle.cert_lines.specs.declared.refusal.CertKind.TheVariants.{Syntax, BadNumber, TooLarge, OtherNet}
use Rattle.cert_lines.specs.Forms.{◌>>=◌, or_fault, one_behind, is_fixed, begins}
use Rattle.cert_lines.specs.Numbers.{is_number, number_within}
use Rattle.cert_lines.specs.HeadLines.{verdict_line, behind_net, first_counts, last_counts, is_none_left, count_words, four_counts, three_counts, are_counts, counts_line, gap_line, phases_line, scale_line, value_line}
use Rattle.cert_lines.specs.Rows.{path_row, length_row, potential_row}
use Rattle.cert_lines.specs.Spelling.{verdict_words}
use Rattle.cert_text.specs.Reading.{mode_line, fixed_line}
use Rattle.cert_inverse.proofs.Words.{equal_bytes, one_again, full_word}
use Rattle.kind_texts.specs.HopsRead.{layer_row}
use Rattle.kind_texts.specs.PartRead.{threshold_line}
use Rattle.cli_laws.specs.CertKinds.{Sorted, number, IsRight, IsWrong, IsFirstWrong, IsLineFault}
use Rattle.cli_laws.specs.LineRoles.{verdict, links, modules, counts, gap, phases, scale, lower, upper, threshold, path, cell, node, layer, row_line, last, counts_in, as_counts, IsOtherNet, IsHeadFault, IsRoleFault}
use Rattle.cli_laws.proofs.LineKinds as faults

abbrev fine : {A : Type 0} → A → Result A CertKind
fine x = Ok x

abbrev passed : Result (Unit {0}) CertKind
passed = Ok tt

pub not_fixed : (text : List ℕ) (line : Line) → is_fixed text line ≡ false → join_with_byte 32 line ≢ text
not_fixed text line h same =
    let k : is_fixed text line ≡ true = ap (λ (w : List ℕ). bytes_eq w text) same ∙ equal_bytes text in
    absurd cc

abbrev SaysNoVerdict : Line → CertKind → Type 0
SaysNoVerdict line kind = (kind ≡ Syntax) × ((closed : Bool) → join_with_byte 32 line ≢ join_with_byte 32 (verdict_words closed))

pub no_verdict : (line : Line) (kind : CertKind) → verdict_line line ≡ Err kind → SaysNoVerdict line kind
no_verdict line kind e = by (is_fixed (codes "verdict closed") line) (is_fixed (codes "verdict open") line) refl refl e
  where
    neither : is_fixed (codes "verdict closed") line ≡ false → is_fixed (codes "verdict open") line ≡ false → (closed : Bool) → join_with_byte 32 line ≢ join_with_byte 32 (verdict_words closed)
    neither h k true = not_fixed (codes "verdict closed") line h
    neither h k false = not_fixed (codes "verdict open") line k

    by : (a b : Bool) → is_fixed (codes "verdict closed") line ≡ a → is_fixed (codes "verdict open") line ≡ b → cond a (fine true) (cond b (fine false) (Err Syntax)) ≡ Err kind → SaysNoVerdict line kind
    by true b h k s = absurd cc
    by false true h k s = absurd cc
    by false false h k s = let same : Syntax ≡ kind = cc in (sym same, neither h k)

pub verdict_fault : (sheet : Sheet) (line : Line) (kind : CertKind) → verdict_line line ≡ Err kind → IsHeadFault sheet verdict line kind
verdict_fault sheet line kind e = no_verdict line kind e

mode_kind : (key mode : List ℕ) (line : Line) (kind : CertKind) → mode_line key mode line ≡ Err kind → kind ≡ Syntax
unfolding mode_line
mode_kind key mode line kind e = by (one_behind key line) e
  where
    test : (b : Bool) → cond b passed (Err Syntax) ≡ Err kind → kind ≡ Syntax
    test true k = absurd cc
    test false k = let same : Syntax ≡ kind = cc in sym same

    by : (o : Option (List ℕ)) → (or_fault Syntax o >>= λ word. cond (bytes_eq word mode) passed (Err Syntax)) ≡ Err kind → kind ≡ Syntax
    by None k = let same : Syntax ≡ kind = cc in sym same
    by (Some word) k = test (bytes_eq word mode) k

mode_again : (key mode : List ℕ) → 0 < length mode → mode_line key mode (key ∷ mode ∷ []) ≡ Ok tt
unfolding mode_line
mode_again key mode some =
    ap (λ (o : Option (List ℕ)). or_fault Syntax o >>= λ word. cond (bytes_eq word mode) passed (Err Syntax)) (one_again key mode (full_word mode some))
    ∙ ap (λ (b : Bool). cond b passed (Err Syntax)) (equal_bytes mode)

mode_fault : (key mode : List ℕ) (line : Line) (kind : CertKind) → mode_line key mode line ≡ Err kind → (kind ≡ Syntax) × ¬ ((line ≡ key ∷ mode ∷ []) × (0 < length mode))
mode_fault key mode line kind e = (mode_kind key mode line kind e, λ (same, some). let k : passed ≡ Err kind = sym (ap (mode_line key mode) same ∙ mode_again key mode some) ∙ e in absurd cc)

pub links_fault : (sheet : Sheet) (line : Line) (kind : CertKind) → mode_line (codes "links") sheet.link_mode line ≡ Err kind → IsHeadFault sheet links line kind
links_fault sheet line kind e = mode_fault (codes "links") sheet.link_mode line kind e

pub modules_fault : (sheet : Sheet) (line : Line) (kind : CertKind) → mode_line (codes "modules") sheet.module_mode line ≡ Err kind → IsHeadFault sheet modules line kind
modules_fault sheet line kind e = mode_fault (codes "modules") sheet.module_mode line kind e

pub last_fault : (sheet : Sheet) (line : Line) (kind : CertKind) → fixed_line (codes "end") line ≡ Err kind → IsRoleFault sheet last line kind
last_fault sheet line kind e = by (is_fixed (codes "end") line) refl e
  where
    by : (b : Bool) → is_fixed (codes "end") line ≡ b → cond b passed (Err Syntax) ≡ Err kind → IsRoleFault sheet last line kind
    by true h k = absurd cc
    by false h k = let same : Syntax ≡ kind = cc in (sym same, not_fixed (codes "end") line h)

pub gap_fault : (sheet : Sheet) (line : Line) (kind : CertKind) → gap_line line ≡ Err kind → IsHeadFault sheet gap line kind
gap_fault sheet line kind e = faults.gap_fault line kind e

pub phases_fault : (sheet : Sheet) (line : Line) (kind : CertKind) → phases_line line ≡ Err kind → IsHeadFault sheet phases line kind
phases_fault sheet line kind e = faults.phases_fault line kind e

pub scale_fault : (sheet : Sheet) (line : Line) (kind : CertKind) → scale_line line ≡ Err kind → IsHeadFault sheet scale line kind
scale_fault sheet line kind e = faults.scale_fault line kind e

pub lower_fault : (sheet : Sheet) (most : ℕ) (line : Line) (kind : CertKind) → value_line (codes "lower") most line ≡ Err kind → IsHeadFault sheet (lower most) line kind
lower_fault sheet most line kind e = faults.value_fault (codes "lower") most line kind e

pub upper_fault : (sheet : Sheet) (line : Line) (kind : CertKind) → value_line (codes "upper") MAX_PART line ≡ Err kind → IsHeadFault sheet upper line kind
upper_fault sheet line kind e = faults.value_fault (codes "upper") MAX_PART line kind e

pub threshold_fault : (sheet : Sheet) (line : Line) (kind : CertKind) → threshold_line line ≡ Err kind → IsHeadFault sheet threshold line kind
threshold_fault sheet line kind e = faults.threshold_fault line kind e

pub path_fault : (sheet : Sheet) (line : Line) (kind : CertKind) → begins (codes "path") line ≡ true → path_row sheet line ≡ Err kind → IsRoleFault sheet (row_line path) line kind
path_fault sheet line kind h e = (h, faults.path_fault sheet line kind e)

pub cell_fault : (sheet : Sheet) (line : Line) (kind : CertKind) → begins (codes "length") line ≡ true → length_row sheet line ≡ Err kind → IsRoleFault sheet (row_line cell) line kind
cell_fault sheet line kind h e = (h, faults.length_fault sheet line kind e)

pub node_fault : (sheet : Sheet) (line : Line) (kind : CertKind) → begins (codes "potential") line ≡ true → potential_row sheet line ≡ Err kind → IsRoleFault sheet (row_line node) line kind
node_fault sheet line kind h e = (h, faults.potential_fault sheet line kind e)

pub layer_fault : (sheet : Sheet) (line : Line) (kind : CertKind) → begins (codes "layer") line ≡ true → layer_row sheet line ≡ Err kind → IsRoleFault sheet (row_line layer) line kind
layer_fault sheet line kind h e = (h, faults.layer_fault sheet line kind e)

abbrev Four : Type 0
Four = List ℕ × List ℕ × List ℕ × List ℕ × Line

abbrev Three : Type 0
Three = List ℕ × List ℕ × List ℕ × Line

abbrev failing : (X : Type 0) → CertKind → Result X CertKind
failing X k = Err k

err_is : (k kind : CertKind) → failing (Unit {0}) k ≡ failing (Unit {0}) kind → k ≡ kind
err_is k kind e = cc

-- ---- the counts

count_words_kind : (line : Line) (kind : CertKind) → count_words line ≡ Err kind → kind ≡ Syntax
unfolding count_words
count_words_kind line kind e = by (behind_net line) e
  where
    end : (x : Four × Three) (b : Bool) → cond b (fine x) (Err Syntax) ≡ Err kind → kind ≡ Syntax
    end x true k = absurd cc
    end x false k = let same : Syntax ≡ kind = cc in sym same

    three : (first : Four) (o : Option Three) → (or_fault Syntax o >>= λ l. cond (is_none_left l.3) (fine {A = Four × Three} (first, l)) (Err Syntax)) ≡ Err kind → kind ≡ Syntax
    three first None k = let same : Syntax ≡ kind = cc in sym same
    three first (Some l) k = end (first, l) (is_none_left l.3) k

    four : (o : Option Four) → (or_fault Syntax o >>= λ f. or_fault Syntax (last_counts f.4) >>= λ l. cond (is_none_left l.3) (fine {A = Four × Three} (f, l)) (Err Syntax)) ≡ Err kind → kind ≡ Syntax
    four None k = let same : Syntax ≡ kind = cc in sym same
    four (Some f) k = three f (last_counts f.4) k

    by : (o : Option Line) → (or_fault Syntax o >>= λ b. or_fault Syntax (first_counts b) >>= λ f. or_fault Syntax (last_counts f.4) >>= λ l. cond (is_none_left l.3) (fine {A = Four × Three} (f, l)) (Err Syntax)) ≡ Err kind → kind ≡ Syntax
    by None k = let same : Syntax ≡ kind = cc in sym same
    by (Some b) k = four (first_counts b) k

le_of : (x y : ℕ) → nat_le x y ≡ true → x ≤ y
le_of x y e = grind (arith, nat_tests)

lt_of : (x y : ℕ) → nat_le x y ≡ false → y < x
lt_of x y e = grind (arith, nat_tests)

abbrev Count : List ℕ → Sorted
Count word = (number MAX_COUNT, word)

-- a count that was read, or what is wrong with it
abbrev Counted : List ℕ → Result ℕ CertKind → Type 0
Counted word (Ok n) = IsRight (Count word) × (digits_value 10 word ≡ n)
Counted word (Err kind) = IsWrong (Count word) kind

counted : (word : List ℕ) → Counted word (number_within MAX_COUNT word)
unfolding number_within
counted word = by (is_number word) (nat_le (digits_value 10 word) MAX_COUNT) refl refl
  where
    by : (a b : Bool) → is_number word ≡ a → nat_le (digits_value 10 word) MAX_COUNT ≡ b → Counted word (cond a (cond b (fine (digits_value 10 word)) (Err TooLarge)) (Err BadNumber))
    by true true h k = ((h, le_of (digits_value 10 word) MAX_COUNT k), refl)
    by true false h k = (h, lt_of (digits_value 10 word) MAX_COUNT k)
    by false b h k = h

abbrev seven : Four × Three → List (List ℕ)
seven w = w.0.0 ∷ w.0.1 ∷ w.0.2 ∷ w.0.3 ∷ w.1.0 ∷ w.1.1 ∷ w.1.2 ∷ []

abbrev sorted : List (List ℕ) → List Sorted
sorted words = map (λ word. (number MAX_COUNT, word)) words

abbrev Reason : Sheet → Four × Three → CertKind → Type 0
Reason sheet w kind = IsFirstWrong (sorted (seven w)) kind ⊎ ((kind ≡ OtherNet) × AllByRecursion (λ word. IsRight (Count word)) (seven w) × (map (digits_value 10) (seven w) ≢ sheet.counts))

both_true : (a b : Bool) → a ≡ true → b ≡ true → (a && b) ≡ true
both_true a b h k = rw (h, k) refl

the_same : (a b c d e f g : ℕ) → are_counts (a ∷ b ∷ c ∷ d ∷ []) (e ∷ f ∷ g ∷ []) (a ∷ b ∷ c ∷ d ∷ e ∷ f ∷ g ∷ []) ≡ true
the_same a b c d e f g = both_true (bytes_eq (a ∷ b ∷ c ∷ d ∷ []) (a ∷ b ∷ c ∷ d ∷ [])) (bytes_eq (e ∷ f ∷ g ∷ []) (e ∷ f ∷ g ∷ [])) (equal_bytes (a ∷ b ∷ c ∷ d ∷ [])) (equal_bytes (e ∷ f ∷ g ∷ []))

counts_reason : (sheet : Sheet) (w : Four × Three) (kind : CertKind) → (four_counts w.0 >>= λ first. three_counts w.1 >>= λ last. cond (are_counts first last sheet.counts) passed (Err OtherNet)) ≡ Err kind → Reason sheet w kind
unfolding four_counts three_counts
counts_reason sheet w kind z =
    by (number_within MAX_COUNT w.0.0) (number_within MAX_COUNT w.0.1) (number_within MAX_COUNT w.0.2) (number_within MAX_COUNT w.0.3) (number_within MAX_COUNT w.1.0) (number_within MAX_COUNT w.1.1) (number_within MAX_COUNT w.1.2) (counted w.0.0) (counted w.0.1) (counted w.0.2) (counted w.0.3) (counted w.1.0) (counted w.1.1) (counted w.1.2) z
  where
    wrong : (before : List Sorted) (word : List ℕ) (after : List Sorted) (k : CertKind) → sorted (seven w) ≡ before ++ Count word ∷ after → AllByRecursion IsRight before → IsWrong (Count word) k → k ≡ kind → Reason sheet w kind
    wrong before word after k parts right is same = inl (record { before = before; word = Count word; after = after; parts = parts; right = right; wrong = subst (IsWrong (Count word)) same is })

    ended : (a b c d e f g : ℕ) → digits_value 10 w.0.0 ≡ a → digits_value 10 w.0.1 ≡ b → digits_value 10 w.0.2 ≡ c → digits_value 10 w.0.3 ≡ d → digits_value 10 w.1.0 ≡ e → digits_value 10 w.1.1 ≡ f → digits_value 10 w.1.2 ≡ g → AllByRecursion (λ word. IsRight (Count word)) (seven w) → (t : Bool) → are_counts (a ∷ b ∷ c ∷ d ∷ []) (e ∷ f ∷ g ∷ []) sheet.counts ≡ t → cond t passed (Err OtherNet) ≡ Err kind → Reason sheet w kind
    ended a b c d e f g pa pb pc pd pe pf pg right true h k = absurd cc
    ended a b c d e f g pa pb pc pd pe pf pg right false h k =
        let same : OtherNet ≡ kind = cc in
        inr (
          sym same,
          right,
          λ is.
              let values : map (digits_value 10) (seven w) ≡ a ∷ b ∷ c ∷ d ∷ e ∷ f ∷ g ∷ [] = cc in
              let yes : are_counts (a ∷ b ∷ c ∷ d ∷ []) (e ∷ f ∷ g ∷ []) sheet.counts ≡ true = ap (are_counts (a ∷ b ∷ c ∷ d ∷ []) (e ∷ f ∷ g ∷ [])) (sym is ∙ values) ∙ the_same a b c d e f g in
              absurd cc,
        )

    by : (a b c d e f g : Result ℕ CertKind) → Counted w.0.0 a → Counted w.0.1 b → Counted w.0.2 c → Counted w.0.3 d → Counted w.1.0 e → Counted w.1.1 f → Counted w.1.2 g
        → ((a >>= λ x. b >>= λ y. c >>= λ u. d >>= λ v. fine (x ∷ y ∷ u ∷ v ∷ [])) >>= λ first. (e >>= λ x. f >>= λ y. g >>= λ u. fine (x ∷ y ∷ u ∷ [])) >>= λ last. cond (are_counts first last sheet.counts) passed (Err OtherNet)) ≡ Err kind → Reason sheet w kind
    by (Err k) b c d e f g ha hb hc hd he hf hg q = wrong ([]) w.0.0 (Count w.0.1 ∷ Count w.0.2 ∷ Count w.0.3 ∷ Count w.1.0 ∷ Count w.1.1 ∷ Count w.1.2 ∷ []) k refl tt ha (err_is k kind q)
    by (Ok a) (Err k) c d e f g ha hb hc hd he hf hg q = wrong (Count w.0.0 ∷ []) w.0.1 (Count w.0.2 ∷ Count w.0.3 ∷ Count w.1.0 ∷ Count w.1.1 ∷ Count w.1.2 ∷ []) k refl (ha.0, tt) hb (err_is k kind q)
    by (Ok a) (Ok b) (Err k) d e f g ha hb hc hd he hf hg q = wrong (Count w.0.0 ∷ Count w.0.1 ∷ []) w.0.2 (Count w.0.3 ∷ Count w.1.0 ∷ Count w.1.1 ∷ Count w.1.2 ∷ []) k refl (ha.0, (hb.0, tt)) hc (err_is k kind q)
    by (Ok a) (Ok b) (Ok c) (Err k) e f g ha hb hc hd he hf hg q = wrong (Count w.0.0 ∷ Count w.0.1 ∷ Count w.0.2 ∷ []) w.0.3 (Count w.1.0 ∷ Count w.1.1 ∷ Count w.1.2 ∷ []) k refl (ha.0, (hb.0, (hc.0, tt))) hd (err_is k kind q)
    by (Ok a) (Ok b) (Ok c) (Ok d) (Err k) f g ha hb hc hd he hf hg q = wrong (Count w.0.0 ∷ Count w.0.1 ∷ Count w.0.2 ∷ Count w.0.3 ∷ []) w.1.0 (Count w.1.1 ∷ Count w.1.2 ∷ []) k refl (ha.0, (hb.0, (hc.0, (hd.0, tt)))) he (err_is k kind q)
    by (Ok a) (Ok b) (Ok c) (Ok d) (Ok e) (Err k) g ha hb hc hd he hf hg q = wrong (Count w.0.0 ∷ Count w.0.1 ∷ Count w.0.2 ∷ Count w.0.3 ∷ Count w.1.0 ∷ []) w.1.1 (Count w.1.2 ∷ []) k refl (ha.0, (hb.0, (hc.0, (hd.0, (he.0, tt))))) hf (err_is k kind q)
    by (Ok a) (Ok b) (Ok c) (Ok d) (Ok e) (Ok f) (Err k) ha hb hc hd he hf hg q = wrong (Count w.0.0 ∷ Count w.0.1 ∷ Count w.0.2 ∷ Count w.0.3 ∷ Count w.1.0 ∷ Count w.1.1 ∷ []) w.1.2 ([]) k refl (ha.0, (hb.0, (hc.0, (hd.0, (he.0, (hf.0, tt)))))) hg (err_is k kind q)
    by (Ok a) (Ok b) (Ok c) (Ok d) (Ok e) (Ok f) (Ok g) ha hb hc hd he hf hg q = ended a b c d e f g ha.1 hb.1 hc.1 hd.1 he.1 hf.1 hg.1 (ha.0, (hb.0, (hc.0, (hd.0, (he.0, (hf.0, (hg.0, tt))))))) (are_counts (a ∷ b ∷ c ∷ d ∷ []) (e ∷ f ∷ g ∷ []) sheet.counts) refl q

counts_by : (sheet : Sheet) (line : Line) (kind : CertKind) (r : Result (Four × Three) CertKind) → count_words line ≡ r → (r >>= λ w. four_counts w.0 >>= λ first. three_counts w.1 >>= λ last. cond (are_counts first last sheet.counts) passed (Err OtherNet)) ≡ Err kind
    → IsLineFault (as_counts (counts_in r)) kind ⊎ IsOtherNet sheet line kind
counts_by sheet line kind (Err k) e z = inl (sym (err_is k kind z) ∙ count_words_kind line k e)
counts_by sheet line kind (Ok w) e z = elim (counts_reason sheet w kind z) as (λ _. IsFirstWrong (sorted (seven w)) kind ⊎ IsOtherNet sheet line kind) [
  | inl h ↦ inl h
  | inr h ↦ inr (record { other = h.0; words = seven w; form = ap counts_in e; right = h.1; differs = h.2 })
]

pub counts_fault : (sheet : Sheet) (line : Line) (kind : CertKind) → counts_line sheet line ≡ Err kind → IsHeadFault sheet counts line kind
unfolding counts_line
counts_fault sheet line kind z =
    subst (λ (r : Result (Four × Three) CertKind). IsLineFault (as_counts (counts_in r)) kind ⊎ IsOtherNet sheet line kind) refl (counts_by sheet line kind (count_words line) refl z)
