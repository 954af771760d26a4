-- The line of counts: what is read was spelled so.
use Rattle.std.proofs.Common.{◌≡◌, ℕ, Bool, true, false, cond, List, [], ◌∷◌, ◌++◌, length, get_or, take, drop, Option, Some, None, Ok, Err, refl, sym, ap, subst, ◌∙◌, arith}
use Rattle.std.specs.Prelude.{codes, option_and_then}
use Rattle.std.specs.Fmt.{decimal}
use Rattle.std.specs.Str.{bytes_eq}
use Rattle.std.proofs.lemmas.List.{take-append-drop}
use Rattle.text_lines.specs.Lines.{Line}
use Rattle.cert_lines.specs.Sheet.{Sheet}
use Rattle.cert_lines.specs.declared.net_line.TheConstants.{MAX_COUNT}
use Rattle.cert_lines.specs.declared.refusal.CertKind.{CertKind}
use Rattle.cert_lines.specs.declared.refusal.CertKind.TheVariants.{Syntax, OtherNet}
use Rattle.cert_lines.specs.Forms.{◌>>=◌, or_fault, named_first}
use Rattle.cert_lines.specs.Numbers.{number_within}
use Rattle.cert_lines.specs.HeadLines.{first_counts, last_counts, behind_net, four_counts, three_counts, is_none_left, are_counts, count_words, counts_line}
use Rattle.cert_lines.specs.Spelling.{counts_words}
use Rattle.cert_lines.proofs.NumberLaws.{number_takes}
use Rattle.cert_lines.proofs.NumberSteps.{both_true}
use Rattle.cert_text.proofs.Steps.{bind_ok, done, ok_is, some_is, passed}
use Rattle.cert_inverse.proofs.Words.{same_bytes, named_takes}

-- the value of a step that is there
then_some : {A B : Type 0} (o : Option A) (f : A → Option B) (y : B) → option_and_then f o ≡ Some y → (x : A) × (o ≡ Some x) × (f x ≡ Some y)
then_some None f y e = absurd cc
then_some (Some x) f y e = (x, refl, e)

same_some : {A : Type 0} (x y : A) → Some x ≡ Some y → x ≡ y
same_some x y e = cc

abbrev Four : Type 0
Four = List ℕ × List ℕ × List ℕ × List ℕ × Line

abbrev Three : Type 0
Three = List ℕ × List ℕ × List ℕ × Line

abbrev first_words : Four → Line
first_words w = codes "nodes" ∷ w.0 ∷ codes "cells" ∷ w.1 ∷ codes "commodities" ∷ w.2 ∷ codes "decimals" ∷ w.3 ∷ w.4

abbrev last_words : Three → Line
last_words w = codes "skipped" ∷ w.0 ∷ codes "left" ∷ w.1 ∷ codes "hops" ∷ w.2 ∷ w.3

first_take : (line : Line) (w : Four) → first_counts line ≡ Some w → line ≡ first_words w
unfolding first_counts
first_take line w e =
    let a = then_some (named_first (codes "nodes") line) (λ a. option_and_then (λ b. option_and_then (λ c. option_and_then (λ d. Some (a.0, b.0, c.0, d.0, d.1)) (named_first (codes "decimals") c.1)) (named_first (codes "commodities") b.1)) (named_first (codes "cells") a.1)) w e in
    let b = then_some (named_first (codes "cells") a.0.1) (λ b. option_and_then (λ c. option_and_then (λ d. Some (a.0.0, b.0, c.0, d.0, d.1)) (named_first (codes "decimals") c.1)) (named_first (codes "commodities") b.1)) w a.2 in
    let c = then_some (named_first (codes "commodities") b.0.1) (λ c. option_and_then (λ d. Some (a.0.0, b.0.0, c.0, d.0, d.1)) (named_first (codes "decimals") c.1)) w b.2 in
    let d = then_some (named_first (codes "decimals") c.0.1) (λ d. Some (a.0.0, b.0.0, c.0.0, d.0, d.1)) w c.2 in
    named_takes (codes "nodes") line a.0 a.1
    ∙ ap (λ (l : Line). codes "nodes" ∷ a.0.0 ∷ l) (named_takes (codes "cells") a.0.1 b.0 b.1)
    ∙ ap (λ (l : Line). codes "nodes" ∷ a.0.0 ∷ codes "cells" ∷ b.0.0 ∷ l) (named_takes (codes "commodities") b.0.1 c.0 c.1)
    ∙ ap (λ (l : Line). codes "nodes" ∷ a.0.0 ∷ codes "cells" ∷ b.0.0 ∷ codes "commodities" ∷ c.0.0 ∷ l) (named_takes (codes "decimals") c.0.1 d.0 d.1)
    ∙ ap first_words (same_some (a.0.0, b.0.0, c.0.0, d.0.0, d.0.1) w d.2)

last_take : (line : Line) (w : Three) → last_counts line ≡ Some w → line ≡ last_words w
unfolding last_counts
last_take line w e =
    let a = then_some (named_first (codes "skipped") line) (λ a. option_and_then (λ b. option_and_then (λ c. Some (a.0, b.0, c.0, c.1)) (named_first (codes "hops") b.1)) (named_first (codes "left") a.1)) w e in
    let b = then_some (named_first (codes "left") a.0.1) (λ b. option_and_then (λ c. Some (a.0.0, b.0, c.0, c.1)) (named_first (codes "hops") b.1)) w a.2 in
    let c = then_some (named_first (codes "hops") b.0.1) (λ c. Some (a.0.0, b.0.0, c.0, c.1)) w b.2 in
    named_takes (codes "skipped") line a.0 a.1
    ∙ ap (λ (l : Line). codes "skipped" ∷ a.0.0 ∷ l) (named_takes (codes "left") a.0.1 b.0 b.1)
    ∙ ap (λ (l : Line). codes "skipped" ∷ a.0.0 ∷ codes "left" ∷ b.0.0 ∷ l) (named_takes (codes "hops") b.0.1 c.0 c.1)
    ∙ ap last_words (same_some (a.0.0, b.0.0, c.0.0, c.0.1) w c.2)

behind_takes : (line behind : Line) → behind_net line ≡ Some behind → line ≡ codes "net" ∷ behind
behind_takes [] behind e = absurd cc
behind_takes (word ∷ words) behind e = by (bytes_eq word (codes "net")) refl e
  where
    by : (b : Bool) → bytes_eq word (codes "net") ≡ b → cond b (Some words) None ≡ Some behind → word ∷ words ≡ codes "net" ∷ behind
    by true h k =
        let first = same_bytes word (codes "net") h in
        let rest = same_some words behind k in
        cc
    by false h k = absurd cc

none_left : (line : Line) → is_none_left line ≡ true → line ≡ []
none_left [] e = refl
none_left (word ∷ words) e = absurd cc

abbrev both_words : Four × Three → Line
both_words p = codes "net" ∷ first_words (p.0.0, p.0.1, p.0.2, p.0.3, last_words (p.1.0, p.1.1, p.1.2, []))

words_take : (line : Line) (p : Four × Three) → count_words line ≡ Ok p → line ≡ both_words p
unfolding count_words
words_take line p e =
    let made = λ (first : Four) (last : Three). cond (is_none_left last.3) (done {A = Four × Three} {E = CertKind} (first, last)) (Err Syntax) in
    let a = bind_ok (or_fault Syntax (behind_net line)) (λ behind. or_fault Syntax (first_counts behind) >>= λ first. or_fault Syntax (last_counts first.4) >>= λ last. made first last) p e in
    let b = bind_ok (or_fault Syntax (first_counts a.0)) (λ first. or_fault Syntax (last_counts first.4) >>= λ last. made first last) p a.2 in
    let c = bind_ok (or_fault Syntax (last_counts b.0.4)) (λ last. made b.0 last) p b.2 in
    let d = passed (is_none_left c.0.3) (done (b.0, c.0)) Syntax p c.2 in
    behind_takes line a.0 (some_is Syntax (behind_net line) a.0 a.1)
    ∙ ap (λ (l : Line). codes "net" ∷ l) (first_take a.0 b.0 (some_is Syntax (first_counts a.0) b.0 b.1))
    ∙ ap (λ (l : Line). codes "net" ∷ first_words (b.0.0, b.0.1, b.0.2, b.0.3, l)) (last_take b.0.4 c.0 (some_is Syntax (last_counts b.0.4) c.0 c.1))
    ∙ ap (λ (l : Line). codes "net" ∷ first_words (b.0.0, b.0.1, b.0.2, b.0.3, last_words (c.0.0, c.0.1, c.0.2, l))) (none_left c.0.3 d.0)
    ∙ ap both_words (ok_is {E = CertKind} (b.0, c.0) p d.1)

-- the words of these numbers
abbrev spelled_four : List ℕ → Four → Type 0
spelled_four ns w = (w.0 ≡ decimal (get_or ns 0 0)) × (w.1 ≡ decimal (get_or ns 1 0)) × (w.2 ≡ decimal (get_or ns 2 0)) × (w.3 ≡ decimal (get_or ns 3 0)) × (length ns ≡ 4)

abbrev spelled_three : List ℕ → Three → Type 0
spelled_three ns w = (w.0 ≡ decimal (get_or ns 0 0)) × (w.1 ≡ decimal (get_or ns 1 0)) × (w.2 ≡ decimal (get_or ns 2 0)) × (length ns ≡ 3)

count_takes : (word : List ℕ) (n : ℕ) → number_within MAX_COUNT word ≡ Ok n → word ≡ decimal n
count_takes word n e = (number_takes MAX_COUNT word n (omega arith) e).0

four_take : (w : Four) (ns : List ℕ) → four_counts w ≡ Ok ns → spelled_four ns w
unfolding four_counts
four_take w ns e =
    let made = λ (a b c d : ℕ). done {A = List ℕ} {E = CertKind} (a ∷ b ∷ c ∷ d ∷ []) in
    let a = bind_ok (number_within MAX_COUNT w.0) (λ a. number_within MAX_COUNT w.1 >>= λ b. number_within MAX_COUNT w.2 >>= λ c. number_within MAX_COUNT w.3 >>= λ d. made a b c d) ns e in
    let b = bind_ok (number_within MAX_COUNT w.1) (λ b. number_within MAX_COUNT w.2 >>= λ c. number_within MAX_COUNT w.3 >>= λ d. made a.0 b c d) ns a.2 in
    let c = bind_ok (number_within MAX_COUNT w.2) (λ c. number_within MAX_COUNT w.3 >>= λ d. made a.0 b.0 c d) ns b.2 in
    let d = bind_ok (number_within MAX_COUNT w.3) (λ d. made a.0 b.0 c.0 d) ns c.2 in
    subst (λ (ms : List ℕ). spelled_four ms w) (ok_is {E = CertKind} (a.0 ∷ b.0 ∷ c.0 ∷ d.0 ∷ []) ns d.2) (count_takes w.0 a.0 a.1, count_takes w.1 b.0 b.1, count_takes w.2 c.0 c.1, count_takes w.3 d.0 d.1, refl)

three_take : (w : Three) (ns : List ℕ) → three_counts w ≡ Ok ns → spelled_three ns w
unfolding three_counts
three_take w ns e =
    let made = λ (a b c : ℕ). done {A = List ℕ} {E = CertKind} (a ∷ b ∷ c ∷ []) in
    let a = bind_ok (number_within MAX_COUNT w.0) (λ a. number_within MAX_COUNT w.1 >>= λ b. number_within MAX_COUNT w.2 >>= λ c. made a b c) ns e in
    let b = bind_ok (number_within MAX_COUNT w.1) (λ b. number_within MAX_COUNT w.2 >>= λ c. made a.0 b c) ns a.2 in
    let c = bind_ok (number_within MAX_COUNT w.2) (λ c. made a.0 b.0 c) ns b.2 in
    subst (λ (ms : List ℕ). spelled_three ms w) (ok_is {E = CertKind} (a.0 ∷ b.0 ∷ c.0 ∷ []) ns c.2) (count_takes w.0 a.0 a.1, count_takes w.1 b.0 b.1, count_takes w.2 c.0 c.1, refl)

-- the numbers of a sheet are those that were read
counts_are : (first last counts : List ℕ) → are_counts first last counts ≡ true → counts ≡ first ++ last
counts_are first last counts e =
    let t = both_true (bytes_eq (take (length first) counts) first) (bytes_eq (drop (length first) counts) last) e in
    sym (take-append-drop (length first) counts) ∙ ap (λ (l : List ℕ). l ++ drop (length first) counts) (same_bytes (take (length first) counts) first t.0) ∙ ap (λ (l : List ℕ). first ++ l) (same_bytes (drop (length first) counts) last t.1)

abbrev spelled_counts : List ℕ → Line
spelled_counts ns = both_words ((decimal (get_or ns 0 0), decimal (get_or ns 1 0), decimal (get_or ns 2 0), decimal (get_or ns 3 0), []), (decimal (get_or ns 4 0), decimal (get_or ns 5 0), decimal (get_or ns 6 0), []))

spelled_both : (first last : List ℕ) (p : Four × Three) → spelled_four first p.0 → spelled_three last p.1 → both_words p ≡ spelled_counts (first ++ last)
spelled_both [] last p f l = absurd (omega (arith, f.4))
spelled_both (a ∷ []) last p f l = absurd (omega (arith, f.4))
spelled_both (a ∷ b ∷ []) last p f l = absurd (omega (arith, f.4))
spelled_both (a ∷ b ∷ c ∷ []) last p f l = absurd (omega (arith, f.4))
spelled_both (a ∷ b ∷ c ∷ d ∷ []) last p f l =
    ap (λ (w : List ℕ). both_words ((w, p.0.1, p.0.2, p.0.3, []), p.1)) f.0 ∙ ap (λ (w : List ℕ). both_words ((decimal a, w, p.0.2, p.0.3, []), p.1)) f.1
    ∙ ap (λ (w : List ℕ). both_words ((decimal a, decimal b, w, p.0.3, []), p.1)) f.2 ∙ ap (λ (w : List ℕ). both_words ((decimal a, decimal b, decimal c, w, []), p.1)) f.3
    ∙ ap (λ (w : List ℕ). both_words ((decimal a, decimal b, decimal c, decimal d, []), (w, p.1.1, p.1.2, []))) l.0
    ∙ ap (λ (w : List ℕ). both_words ((decimal a, decimal b, decimal c, decimal d, []), (decimal (get_or last 0 0), w, p.1.2, []))) l.1
    ∙ ap (λ (w : List ℕ). both_words ((decimal a, decimal b, decimal c, decimal d, []), (decimal (get_or last 0 0), decimal (get_or last 1 0), w, []))) l.2
spelled_both (a ∷ b ∷ c ∷ d ∷ e ∷ more) last p f l = absurd (omega (arith, f.4))

pub counts_take : (sheet : Sheet) (line : Line) (u : Unit {0}) → counts_line sheet line ≡ Ok u → line ≡ counts_words sheet
unfolding counts_line
counts_take sheet line u e =
    let made = λ (first last : List ℕ). cond (are_counts first last sheet.counts) (done {A = Unit {0}} {E = CertKind} tt) (Err OtherNet) in
    let a = bind_ok (count_words line) (λ parts. four_counts parts.0 >>= λ first. three_counts parts.1 >>= λ last. made first last) u e in
    let b = bind_ok (four_counts a.0.0) (λ first. three_counts a.0.1 >>= λ last. made first last) u a.2 in
    let c = bind_ok (three_counts a.0.1) (λ last. made b.0 last) u b.2 in
    let d = passed (are_counts b.0 c.0 sheet.counts) (done tt) OtherNet u c.2 in
    words_take line a.0 a.1 ∙ spelled_both b.0 c.0 a.0 (four_take a.0.0 b.0 b.1) (three_take a.0.1 c.0 c.1) ∙ ap spelled_counts (sym (counts_are b.0 c.0 sheet.counts d.0))
