-- Nothing is wrong with the entries of a canonical text.
use Rattle.std.proofs.Common.{◌≡◌, ℕ, suc, ◌+◌, ◌<◌, Bool, true, false, ◌||◌, List, [], ◌∷◌, ◌++◌, length, get_or, map, Option, None, refl, sym, ap, subst, ◌∙◌, append_assoc, arith, length-append}
use Rattle.std.specs.Prelude.{codes}
use Rattle.std.specs.List.{AllByRecursion, list_any}
use Rattle.std.specs.Str.{bytes_eq}
use Rattle.std.proofs.lemmas.List.{get_or_append_left}
use Rattle.std.proofs.lemmas.List.Folds.{list_any_none, list_any_at}
use Rattle.std.proofs.lemmas.Slice.Eq.{bytes_eq-Decides}
use Rattle.std.proofs.Math.Seq.{get_or-append_seam}
use Rattle.sndlib_grammar.specs.Number.{is_number}
use Rattle.sndlib_grammar.specs.Grammar.{Word}
use Rattle.sndlib_grammar.specs.Faults.{texts, is_among, first_of, first_repeated, first_unknown, bad_module, bad_of_link, bad_of_demand}
use Rattle.sndlib_grammar.specs.Rows.{NetLink, NetDemand, AreDistinct}
use Rattle.sndlib_grammar.specs.Canonical.{AreModules, name_at}
use Rattle.sndlib_grammar.proofs.Entries.{word_on, modules_on, link_entry, demand_entry, on_lines}

-- ---- words that are the same and words that differ

pub bytes_same : (a : List ℕ) → bytes_eq a a ≡ true
bytes_same a = (bytes_eq-Decides a a).1 refl

tells : (a b : List ℕ) (t : Bool) → bytes_eq a b ≡ t → (a ≡ b → ⊥) → t ≡ false
tells a b true e ne = absurd (ne ((bytes_eq-Decides a b).0 e))
tells a b false e ne = refl

pub bytes_differ : (a b : List ℕ) → (a ≡ b → ⊥) → bytes_eq a b ≡ false
bytes_differ a b ne = tells a b (bytes_eq a b) refl ne

-- ---- no id twice

new_word : (known rest : List (List ℕ)) (w : List ℕ) → AreDistinct (known ++ w ∷ rest) → list_any (bytes_eq w) known ≡ false
new_word known rest w distinct = list_any_none (bytes_eq w) known (λ k d lt.
    let inside : length known < length (known ++ w ∷ rest) = omega (arith, length-append known (w ∷ rest)) in
    let apart = distinct k (length known) d lt inside in
    let here : get_or (known ++ w ∷ rest) (length known) d ≡ w = get_or-append_seam known w rest d in
    let there : get_or (known ++ w ∷ rest) k d ≡ get_or known k d = get_or_append_left known (w ∷ rest) d k lt in
    bytes_differ w (get_or known k d) (λ e. apart (there ∙ sym e ∙ sym here)))

pub none_repeated : (known : List (List ℕ)) (ws : List Word) → AreDistinct (known ++ texts ws) → first_repeated known ws ≡ None
none_repeated known [] distinct = refl
none_repeated known (w ∷ ws) distinct =
    rw (new_word known (texts ws) w.text distinct) (none_repeated (known ++ w.text ∷ []) ws (subst AreDistinct (sym (append_assoc known (w.text ∷ []) (texts ws))) distinct))

-- ---- ends are nodes

pub is_known : (known : List (List ℕ)) (i line : ℕ) → i < length known → is_among known (word_on line (name_at known i)) ≡ true
is_known known i line lt = list_any_at (bytes_eq (name_at known i)) known i [] lt (bytes_same (name_at known i))

pub ends_are_known : (known : List (List ℕ)) (s t line : ℕ) → s < length known → t < length known → first_unknown known (word_on line (name_at known s) ∷ word_on line (name_at known t) ∷ []) ≡ None
ends_are_known known s t line ls lt = rw (is_known known s line ls, is_known known t line lt) refl

-- ---- numbers are numbers

pub modules_good : (line : ℕ) (ms : List (List ℕ)) → AreModules ms → bad_module (modules_on line ms) ≡ None
modules_good line [] are = refl
modules_good line (capacity ∷ []) are = absurd are
modules_good line (capacity ∷ cost ∷ more) are = rw are.0 (modules_good line more are.1)

pub link_good : (known : List (List ℕ)) (line : ℕ) (l : NetLink) → is_number l.installed ≡ true → AreModules l.modules → bad_of_link (link_entry known line l) ≡ None
link_good known line l number are = rw (number, modules_good line l.modules are) refl

pub demand_good : (known : List (List ℕ)) (line : ℕ) (d : NetDemand) → is_number d.unit ≡ true → is_number d.value ≡ true → (bytes_eq d.longest (codes "UNLIMITED") || is_number d.longest) ≡ true
    → bad_of_demand (demand_entry known line d) ≡ None
demand_good known line d unit value longest = rw (unit, value, longest) refl

-- ---- all entries of a section

pub none_of_all : {X E : Type 0} (f : E → Option ℕ) (entry : ℕ → X → E) (line : ℕ) (xs : List X) → AllByRecursion (λ x. (k : ℕ) → f (entry k x) ≡ None) xs → first_of f (on_lines entry line xs) ≡ None
none_of_all f entry line [] are = refl
none_of_all f entry line (x ∷ xs) are = rw (are.0 line) (none_of_all f entry (line + 1) xs are.1)

pub ids_are : {X E : Type 0} (id : E → Word) (name : X → List ℕ) (entry : ℕ → X → E) (line : ℕ) (xs : List X) → ((k : ℕ) (x : X) → (id (entry k x)).text ≡ name x) → texts (map id (on_lines entry line xs)) ≡ map name xs
ids_are id name entry line [] same = refl
ids_are id name entry line (x ∷ xs) same = rw (same line x, ids_are id name entry (line + 1) xs same) refl

pub length-on_lines : {X E : Type 0} (entry : ℕ → X → E) (line : ℕ) (xs : List X) → length (on_lines entry line xs) ≡ length xs
length-on_lines entry line [] = refl
length-on_lines entry line (x ∷ xs) = ap suc (length-on_lines entry (line + 1) xs)
