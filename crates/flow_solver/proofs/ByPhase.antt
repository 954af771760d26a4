-- Entries phase by phase: how many there are, where they stand, one phase more, and all of them changed.
use Rattle.std.proofs.Common.{◌≡◌, ℕ, zero, suc, ◌+◌, ◌*◌, ◌<◌, ◌≤◌, List, [], ◌∷◌, ◌++◌, length, get_or, take, drop, map, refl, sym, ap, ◌∙◌, arith, length-drop, add-one, ◌-◌, Some}
use Rattle.std.specs.Prelude.{All, slice_get}
use Rattle.std.proofs.lemmas.List.{take-append-le, drop-append-le, drop-drop, get_or-drop, get_or-take, length-take-le, length-map, get_or-append_right, take-map, drop-map, take-append-drop, take_all, drop_all, append-nil}
use Rattle.std.proofs.lemmas.List.Elements.{All-append, All-head, All-tail, All-same, All-nil}
use Rattle.std.proofs.lemmas.Option.{slice_get-get_or}
use Rattle.std.proofs.lemmas.Nat.{row_fits}
use Rattle.std.proofs.Math.Seq.{take-length}
use Rattle.std.proofs.Math.Nat.{suc-mul}
use Rattle.solver_run.specs.declared.options.Entry.{Entry}
use Rattle.flow_solver.specs.Phases.{by_phase, NamesBelow}

pub count_by_phase : (w n : ℕ) (es : List Entry) → length (by_phase w n es) ≡ n
count_by_phase w zero es = refl
count_by_phase w (suc n) es = ap suc (count_by_phase w n (drop w es))

-- one phase more
pub push_by_phase : (w n : ℕ) (es new : List Entry) → length es ≡ n * w → length new ≡ w → by_phase w (suc n) (es ++ new) ≡ by_phase w n es ++ new ∷ []
push_by_phase w zero [] new e l = ap (λ (t : List Entry). t ∷ []) (ap (λ k. take k new) (sym l) ∙ take-length new)
push_by_phase w zero (x ∷ xs) new e l = absurd (omega arith)
push_by_phase w (suc n) es new e l =
    let s = suc-mul n w in
    let le : w ≤ length es = omega arith in
    let r : length (drop w es) ≡ n * w = rw (length-drop w es) (omega arith) in
    rw (take-append-le w es new le, drop-append-le w es new le) (ap (λ (t : List (List Entry)). take w es ∷ t) (push_by_phase w n (drop w es) new r l))

-- the phase of that number
pub phase_at : (w n p : ℕ) (es : List Entry) → p < n → get_or (by_phase w n es) p [] ≡ take w (drop (p * w) es)
phase_at w zero p es l = absurd (omega arith)
phase_at w (suc n) zero es l = let z : 0 ≡ 0 * w = omega arith in ap (λ k. take w (drop k es)) z
phase_at w (suc n) (suc p) es l =
    phase_at w n p (drop w es) (omega arith) ∙ ap (take w) (drop-drop (p * w) w es ∙ ap (λ k. drop k es) (omega (arith, suc-mul p w)))

-- the entry of that phase and commodity
pub entry_at : (w n p k : ℕ) (es : List Entry) (d : Entry) → length es ≡ n * w → p < n → k < w → slice_get (get_or (by_phase w n es) p []) k ≡ Some (get_or es (p * w + k) d)
entry_at w n p k es d e l h =
    let fits : p * w + w ≤ n * w = row_fits p w n w l (omega arith) in
    let long : length (take w (drop (p * w) es)) ≡ w = length-take-le w (drop (p * w) es) (rw (length-drop (p * w) es) (omega arith)) in
    rw (phase_at w n p es l)
    (slice_get-get_or (take w (drop (p * w) es)) k d (omega arith) ∙ ap Some (get_or-take w (drop (p * w) es) k d h ∙ get_or-drop (p * w) es k d))

-- all entries are changed alike
pub map_by_phase : (f : Entry → Entry) (w n : ℕ) (es : List Entry) → by_phase w n (map f es) ≡ map (map f) (by_phase w n es)
map_by_phase f w zero es = refl
map_by_phase f w (suc n) es =
    rw (take-map f w es, drop-map f w es) (ap (λ (t : List (List Entry)). map f (take w es) ∷ t) (map_by_phase f w n (drop w es)))

-- what holds of the entries of each phase holds of all entries
pub all_in_phases : (m w n : ℕ) (es : List Entry) → length es ≡ n * w → All (NamesBelow m) (by_phase w n es) → NamesBelow m es
all_in_phases m w zero [] e a = All-nil (λ (x : Entry). x.row < m)
all_in_phases m w zero (x ∷ xs) e a = absurd (omega arith)
all_in_phases m w (suc n) es e a =
    let s = suc-mul n w in
    let r : length (drop w es) ≡ n * w = rw (length-drop w es) (omega arith) in
    let rest = all_in_phases m w n (drop w es) r (All-tail (NamesBelow m) (take w es) (by_phase w n (drop w es)) a) in
    let front = All-head (NamesBelow m) (take w es) (by_phase w n (drop w es)) a in
    All-same (λ (x : Entry). x.row < m) es (take w es ++ drop w es) (sym (take-append-drop w es)) (All-append (λ (x : Entry). x.row < m) (take w es) (drop w es) front rest)

-- one phase more, counted as the code counts
pub one_phase_more : (w n : ℕ) (es new : List Entry) → length es ≡ n * w → length new ≡ w → by_phase w (n + 1) (es ++ new) ≡ by_phase w n es ++ new ∷ []
one_phase_more w n es new e l = rw (add-one n) (push_by_phase w n es new e l)

-- while entries are changed from the front, the next one is as before
pub not_yet : (f : Entry → Entry) (xs ys : List Entry) (i : ℕ) (d : Entry) → i < length xs → ys ≡ map f (take i xs) ++ drop i xs → get_or ys i d ≡ get_or xs i d
not_yet f xs ys i d l e =
    let m : length (map f (take i xs)) ≡ i = length-map (take i xs) f ∙ length-take-le i xs (omega arith) in
    rw e (get_or-append_right (map f (take i xs)) (drop i xs) i i d m (omega arith) ∙ get_or-drop i xs (i - i) d ∙ ap (λ k. get_or xs k d) (omega arith))

-- at the end all are changed
pub all_changed : (f : Entry → Entry) (xs ys : List Entry) (i : ℕ) → length xs ≤ i → ys ≡ map f (take i xs) ++ drop i xs → ys ≡ map f xs
all_changed f xs ys i l e = rw (e, take_all i xs l, drop_all i xs l) (append-nil (map f xs))
