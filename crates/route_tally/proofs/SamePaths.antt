-- Rows of one commodity and path.
use Rattle.std.proofs.Common.{◌≡◌, ℕ, suc, ◌+◌, ◌<◌, Bool, true, false, cond, List, [], ◌∷◌, ◌++◌, length, get_or, refl, sym, ap, ◌∙◌, arith}
use Rattle.std.specs.Prelude.{◌==◌, ◌&&◌, ◌||◌}
use Rattle.std.specs.List.{list_any}
use Rattle.std.specs.Str.{bytes_eq}
use Rattle.std.proofs.lemmas.Bool.{and_parts, and_from, eqb-true, eq-eqb, false_from_ne_true, both_ways}
use Rattle.std.proofs.lemmas.Slice.Eq.{bytes_eq-Decides}
use Rattle.std.proofs.lemmas.List.Sums.{sum_by-cons, sum_by_push}
use Rattle.flow_model.specs.Routing.{Row}
use Rattle.flow_paths.specs.PathRows.{HasPath}
use Rattle.route_tally.specs.Tally.{same_path, routed_along}

pub same_parts : (a b : Row) → same_path a b ≡ true → (a.commodity ≡ b.commodity) × (a.walk ≡ b.walk)
same_parts a b h =
    let p = and_parts (a.commodity == b.commodity) (bytes_eq a.walk b.walk) h in
    (eqb-true a.commodity b.commodity p.0, (bytes_eq-Decides a.walk b.walk).0 p.1)

pub same_from : (a b : Row) → a.commodity ≡ b.commodity → a.walk ≡ b.walk → same_path a b ≡ true
same_from a b c w = and_from (a.commodity == b.commodity) (bytes_eq a.walk b.walk) (eq-eqb a.commodity b.commodity c) ((bytes_eq-Decides a.walk b.walk).1 w)

pub same_flip : (a b : Row) → same_path a b ≡ true → same_path b a ≡ true
same_flip a b h = let p = same_parts a b h in same_from b a (sym p.0) (sym p.1)

pub unlike_flip : (a b : Row) → same_path a b ≡ false → same_path b a ≡ false
unlike_flip a b e = false_from_ne_true (same_path b a) (λ h. both_ways (same_path a b) e (same_flip b a h))

pub unlike : (a b : Row) → ¬ (HasPath a.commodity a.walk b) → same_path a b ≡ false
unlike a b ne = false_from_ne_true (same_path a b) (λ h. let p = same_parts a b h in ne (sym p.0, sym p.1))

-- rows of one path are alike to every other
pub same_left : (a b c : Row) → a.commodity ≡ b.commodity → a.walk ≡ b.walk → same_path a c ≡ same_path b c
same_left a b c p q = ap (λ (k : ℕ). (k == c.commodity) && bytes_eq a.walk c.walk) p ∙ ap (λ (w : List ℕ). (b.commodity == c.commodity) && bytes_eq w c.walk) q

pub same_right : (a b c : Row) → a.commodity ≡ b.commodity → a.walk ≡ b.walk → same_path c a ≡ same_path c b
same_right a b c p q = ap (λ (k : ℕ). (c.commodity == k) && bytes_eq c.walk a.walk) p ∙ ap (λ (w : List ℕ). (c.commodity == b.commodity) && bytes_eq c.walk w) q

-- what is routed along a path depends on the commodity and the path alone
pub along_same : (turns : List Row) (a b : Row) → a.commodity ≡ b.commodity → a.walk ≡ b.walk → routed_along turns a ≡ routed_along turns b
along_same [] a b p q = refl
along_same (t ∷ turns) a b p q =
    let x = sum_by-cons (λ (turn : Row). cond (same_path turn a) turn.weight 0) t turns in
    let y = sum_by-cons (λ (turn : Row). cond (same_path turn b) turn.weight 0) t turns in
    let here : cond (same_path t a) t.weight 0 ≡ cond (same_path t b) t.weight 0 = ap (λ (s : Bool). cond s t.weight 0) (same_right a b t p q) in
    let rest = along_same turns a b p q in
    omega (arith, x, y, here, rest)

-- one more turn
pub along_more : (turns : List Row) (turn row : Row) → routed_along (turns ++ turn ∷ []) row ≡ routed_along turns row + cond (same_path turn row) turn.weight 0
along_more turns turn row = sum_by_push (λ (t : Row). cond (same_path t row) t.weight 0) turns turn

pub along_yes : (turns : List Row) (turn row : Row) → same_path turn row ≡ true → routed_along (turns ++ turn ∷ []) row ≡ routed_along turns row + turn.weight
along_yes turns turn row is = along_more turns turn row ∙ ap (λ (s : Bool). routed_along turns row + cond s turn.weight 0) is

pub along_no : (turns : List Row) (turn row : Row) → same_path turn row ≡ false → routed_along (turns ++ turn ∷ []) row ≡ routed_along turns row
along_no turns turn row is =
    let more : routed_along (turns ++ turn ∷ []) row ≡ routed_along turns row + 0 = along_more turns turn row ∙ ap (λ (s : Bool). routed_along turns row + cond s turn.weight 0) is in
    omega (arith, more)

-- where no turn has the path, nothing is routed along it
pub along_none : (turns : List Row) (row : Row) → ((i : ℕ) (d : Row) → i < length turns → same_path (get_or turns i d) row ≡ false) → routed_along turns row ≡ 0
along_none [] row none = refl
along_none (t ∷ turns) row none =
    let x = sum_by-cons (λ (turn : Row). cond (same_path turn row) turn.weight 0) t turns in
    let here : cond (same_path t row) t.weight 0 ≡ 0 = ap (λ (s : Bool). cond s t.weight 0) (none 0 t (omega arith)) in
    let rest = along_none turns row (λ i d l. none (suc i) d (omega arith)) in
    omega (arith, x, here, rest)

-- whether some row has the path depends on the commodity and the path alone
pub any_same : (rows : List Row) (a b : Row) → a.commodity ≡ b.commodity → a.walk ≡ b.walk → list_any (same_path a) rows ≡ list_any (same_path b) rows
any_same [] a b p q = refl
any_same (r ∷ rows) a b p q = ap (λ (s : Bool). s || list_any (same_path a) rows) (same_left a b r p q) ∙ ap (λ (s : Bool). same_path b r || s) (any_same rows a b p q)
