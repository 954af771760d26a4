-- Words of a sheet, found again, and words behind a keyword.
use Rattle.std.proofs.Common.{◌≡◌, ℕ, zero, suc, ◌<◌, Bool, true, false, cond, ltb, List, [], ◌∷◌, length, get_or, Some, None, refl, ap, ◌∙◌, arith}
use Rattle.std.specs.Prelude.{nat_lt, ◌&&◌}
use Rattle.std.specs.List.{AllByRecursion, list_all}
use Rattle.std.specs.Str.{bytes_eq}
use Rattle.std.proofs.lemmas.Bool.Decides.{nat_tests}
use Rattle.std.proofs.lemmas.List.Quantifiers.{position-Some}
use Rattle.std.proofs.lemmas.List.Sums.{position_or_len_is}
use Rattle.std.proofs.lemmas.Option.{cond_some}
use Rattle.std.proofs.lemmas.Slice.Eq.{bytes_eq-Decides}
use Rattle.text_lines.specs.Lines.{Line}
use Rattle.cert_lines.specs.Sheet.{place_of, AreNames}
use Rattle.cert_lines.specs.Forms.{is_full, one_behind, two_behind, list_behind, row_behind, named_first}
use Rattle.cert_lines.proofs.NumberSteps.{both_true}

pub same_bytes : (a b : List ℕ) → bytes_eq a b ≡ true → a ≡ b
same_bytes a b e = (bytes_eq-Decides a b).0 e

pub equal_bytes : (a : List ℕ) → bytes_eq a a ≡ true
equal_bytes a = (bytes_eq-Decides a a).1 refl

-- ---- words by their places

pub place_takes : (words : List (List ℕ)) (word : List ℕ) (c : ℕ) → place_of words word ≡ Some c → word ≡ get_or words c []
place_takes words word c e = same_bytes word (get_or words c []) (position-Some (bytes_eq word) words c [] e).1

later : (word : List ℕ) (words : List (List ℕ)) (i : ℕ) → AllByRecursion (λ other. bytes_eq other word ≡ false) words → i < length words → bytes_eq (get_or words i []) word ≡ false
later word [] i h lt = absurd (omega arith)
later word (w ∷ ws) zero h lt = h.0
later word (w ∷ ws) (suc i) h lt = later word ws i h.1 (omega arith)

earlier : (names : List (List ℕ)) (i k : ℕ) → AreNames names → k < i → i < length names → bytes_eq (get_or names i []) (get_or names k []) ≡ false
earlier [] i k own lt within = absurd (omega arith)
earlier (name ∷ names) zero k own lt within = absurd (omega arith)
earlier (name ∷ names) (suc i) zero own lt within = later name names i own.1 (omega arith)
earlier (name ∷ names) (suc i) (suc k) own lt within = earlier names i k own.2 (omega arith) (omega arith)

pub place_again : (names : List (List ℕ)) (i : ℕ) → AreNames names → i < length names → place_of names (get_or names i []) ≡ Some i
place_again names i own lt =
    let word = get_or names i [] in
    let at = position_or_len_is (bytes_eq word) names i [] (omega arith) (λ k below. earlier names i k own below lt) (λ within. equal_bytes word) in
    let inside : ltb i (length names) ≡ true = grind (arith, nat_tests) in
    ap (λ (n : ℕ). cond (ltb n (length names)) (Some n) None) at ∙ ap (λ (b : Bool). cond b (Some i) None) inside

is_some : (n : ℕ) → 0 < n → nat_lt 0 n ≡ true
is_some n some = grind (arith, nat_tests)

pub full_word : (word : List ℕ) → 0 < length word → is_full word ≡ true
full_word word some = is_some (length word) some

pub full_name : (names : List (List ℕ)) (i : ℕ) → AreNames names → i < length names → is_full (get_or names i []) ≡ true
full_name [] i own lt = absurd (omega arith)
full_name (name ∷ names) zero own lt = full_word name own.0
full_name (name ∷ names) (suc i) own lt = full_name names i own.2 (omega arith)

-- ---- words behind a keyword

pub one_takes : (key : List ℕ) (line : Line) (word : List ℕ) → one_behind key line ≡ Some word → line ≡ key ∷ word ∷ []
one_takes key [] word e = absurd cc
one_takes key (a ∷ []) word e = absurd cc
one_takes key (a ∷ b ∷ []) word e =
    let s = cond_some (bytes_eq a key && is_full b) b word e in
    let k = same_bytes a key (both_true (bytes_eq a key) (is_full b) s.0).0 in
    let w : b ≡ word = s.1 in
    cc
one_takes key (a ∷ b ∷ c ∷ more) word e = absurd cc

pub one_again : (key word : List ℕ) → is_full word ≡ true → one_behind key (key ∷ word ∷ []) ≡ Some word
one_again key word full = rw (equal_bytes key, full) refl

pub two_takes : (key : List ℕ) (line : Line) (parts : List ℕ × List ℕ) → two_behind key line ≡ Some parts → line ≡ key ∷ parts.0 ∷ parts.1 ∷ []
two_takes key [] parts e = absurd cc
two_takes key (a ∷ []) parts e = absurd cc
two_takes key (a ∷ b ∷ []) parts e = absurd cc
two_takes key (a ∷ b ∷ c ∷ []) parts e =
    let s = cond_some (bytes_eq a key && is_full b && is_full c) (b, c) parts e in
    let k = same_bytes a key (both_true (bytes_eq a key) (is_full b) (both_true (bytes_eq a key && is_full b) (is_full c) s.0).0).0 in
    let first : b ≡ parts.0 = ap (λ (p : List ℕ × List ℕ). p.0) s.1 in
    let second : c ≡ parts.1 = ap (λ (p : List ℕ × List ℕ). p.1) s.1 in
    cc
two_takes key (a ∷ b ∷ c ∷ d ∷ more) parts e = absurd cc

pub two_again : (key first second : List ℕ) → is_full first ≡ true → is_full second ≡ true → two_behind key (key ∷ first ∷ second ∷ []) ≡ Some (first, second)
two_again key first second p q = rw (equal_bytes key, p, q) refl

pub list_takes : (key : List ℕ) (line : Line) (parts : List ℕ × Line) → list_behind key line ≡ Some parts → line ≡ key ∷ parts.0 ∷ parts.1
list_takes key [] parts e = absurd cc
list_takes key (a ∷ []) parts e = absurd cc
list_takes key (a ∷ b ∷ more) parts e =
    let s = cond_some (bytes_eq a key && list_all is_full (b ∷ more)) (b, more) parts e in
    let k = same_bytes a key (both_true (bytes_eq a key) (list_all is_full (b ∷ more)) s.0).0 in
    let first : b ≡ parts.0 = ap (λ (p : List ℕ × Line). p.0) s.1 in
    let rest : more ≡ parts.1 = ap (λ (p : List ℕ × Line). p.1) s.1 in
    cc

pub list_again : (key first : List ℕ) (others : Line) → is_full first ≡ true → list_all is_full others ≡ true → list_behind key (key ∷ first ∷ others) ≡ Some (first, others)
list_again key first others p q = rw (equal_bytes key, p, q) refl

pub row_takes : (key : List ℕ) (line : Line) (parts : List ℕ × List ℕ × Line) → row_behind key line ≡ Some parts → line ≡ key ∷ parts.0 ∷ parts.1 ∷ parts.2
row_takes key [] parts e = absurd cc
row_takes key (a ∷ []) parts e = absurd cc
row_takes key (a ∷ b ∷ []) parts e = absurd cc
row_takes key (a ∷ b ∷ c ∷ more) parts e =
    let s = cond_some (bytes_eq a key && list_all is_full (b ∷ c ∷ more)) (b, c, more) parts e in
    let k = same_bytes a key (both_true (bytes_eq a key) (list_all is_full (b ∷ c ∷ more)) s.0).0 in
    let first : b ≡ parts.0 = ap (λ (p : List ℕ × List ℕ × Line). p.0) s.1 in
    let second : c ≡ parts.1 = ap (λ (p : List ℕ × List ℕ × Line). p.1) s.1 in
    let rest : more ≡ parts.2 = ap (λ (p : List ℕ × List ℕ × Line). p.2) s.1 in
    cc

pub row_again : (key first second : List ℕ) (others : Line) → is_full first ≡ true → is_full second ≡ true → list_all is_full others ≡ true → row_behind key (key ∷ first ∷ second ∷ others) ≡ Some (first, second, others)
row_again key first second others p q r = rw (equal_bytes key, p, q, r) refl

pub named_takes : (name : List ℕ) (line : Line) (parts : List ℕ × Line) → named_first name line ≡ Some parts → line ≡ name ∷ parts.0 ∷ parts.1
named_takes name [] parts e = absurd cc
named_takes name (a ∷ []) parts e = absurd cc
named_takes name (a ∷ b ∷ more) parts e =
    let s = cond_some (bytes_eq a name && is_full b) (b, more) parts e in
    let k = same_bytes a name (both_true (bytes_eq a name) (is_full b) s.0).0 in
    let first : b ≡ parts.0 = ap (λ (p : List ℕ × Line). p.0) s.1 in
    let rest : more ≡ parts.1 = ap (λ (p : List ℕ × Line). p.1) s.1 in
    cc

pub named_again : (name value : List ℕ) (more : Line) → is_full value ≡ true → named_first name (name ∷ value ∷ more) ≡ Some (value, more)
named_again name value more full = rw (equal_bytes name, full) refl
