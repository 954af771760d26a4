-- Potentials, read one after the other.
use Rattle.std.proofs.Common.{◌≡◌, ℕ, ◌+◌, ◌<◌, ◌≤◌, List, [], ◌∷◌, ◌++◌, length, take, Result, Ok, Err, refl, sym, ap, ◌∙◌, append_assoc}
use Rattle.std.specs.Prelude.{slice_set, All}
use Rattle.std.proofs.lemmas.List.{append-nil, take_more_set, take_all}
use Rattle.std.proofs.lemmas.List.Elements.{All-push}
use Rattle.mcf_limits.specs.declared.TheConstants.{MAX_LENGTH}
use Rattle.text_lines.specs.Lines.{Line}
use Rattle.cert_lines.specs.declared.refusal.CertKind.{CertKind}
use Rattle.cert_lines.specs.Forms.{◌>>=◌}
use Rattle.cert_lines.specs.Numbers.{number_within}
use Rattle.cert_lines.specs.Rows.{potentials_from}

-- what was read before, and what is still read
abbrev pub with_values : List ℕ → Result (List ℕ) CertKind → Result (List ℕ) CertKind
with_values front read = read >>= λ values. Ok (front ++ values)

regroup : (front : List ℕ) (v : ℕ) (read : Result (List ℕ) CertKind) → with_values front (read >>= λ values. Ok (v ∷ values)) ≡ with_values (front ++ v ∷ []) read
regroup front v (Ok values) = ap (λ (l : List ℕ). Ok l) (sym (append_assoc front (v ∷ []) values))
regroup front v (Err e) = refl

pub value_on : (values : List ℕ) (count : ℕ) (words rest : Line) (word : List ℕ) (v : ℕ) (total : Result (List ℕ) CertKind) → count < length values → words ≡ word ∷ rest → number_within MAX_LENGTH word ≡ Ok v
    → with_values (take count values) (potentials_from words) ≡ total → with_values (take (count + 1) (slice_set values count v)) (potentials_from rest) ≡ total
unfolding potentials_from
value_on values count words rest word v total lt e number so_far =
    let more = take_more_set values count v lt in
    let step : with_values (take count values) (potentials_from (word ∷ rest)) ≡ with_values (take count values ++ v ∷ []) (potentials_from rest) = rw number (regroup (take count values) v (potentials_from rest)) in
    ap (λ (l : List ℕ). with_values l (potentials_from rest)) more ∙ sym step ∙ sym (ap (λ (ws : Line). with_values (take count values) (potentials_from ws)) e) ∙ so_far

pub value_fails : (front : List ℕ) (words rest : Line) (word : List ℕ) (kind : CertKind) (total : Result (List ℕ) CertKind) → words ≡ word ∷ rest → number_within MAX_LENGTH word ≡ Err kind
    → with_values front (potentials_from words) ≡ total → Err kind ≡ total
unfolding potentials_from
value_fails front words rest word kind total e number so_far =
    let step : with_values front (potentials_from (word ∷ rest)) ≡ Err kind = rw number refl in
    sym step ∙ sym (ap (λ (ws : Line). with_values front (potentials_from ws)) e) ∙ so_far

pub values_end : (values : List ℕ) (count : ℕ) (words : Line) (total : Result (List ℕ) CertKind) → words ≡ [] → length values ≤ count → with_values (take count values) (potentials_from words) ≡ total → Ok values ≡ total
unfolding potentials_from
values_end values count words total e full so_far =
    ap (λ (l : List ℕ). Ok l) (sym (append-nil (take count values) ∙ take_all count values full)) ∙ sym (ap (λ (ws : Line). with_values (take count values) (potentials_from ws)) e) ∙ so_far

pub small_on : (values : List ℕ) (count v : ℕ) → count < length values → v ≤ MAX_LENGTH → All (λ n. n ≤ MAX_LENGTH) (take count values) → All (λ n. n ≤ MAX_LENGTH) (take (count + 1) (slice_set values count v))
small_on values count v lt small h = rw (take_more_set values count v lt) (All-push (λ n. n ≤ MAX_LENGTH) (take count values) v h small)

pub small_all : (values : List ℕ) (count : ℕ) → length values ≤ count → All (λ n. n ≤ MAX_LENGTH) (take count values) → All (λ n. n ≤ MAX_LENGTH) values
small_all values count full h = rw (take_all count values full) at h
