-- Rows by their numbers, and ends by their names.
use Rattle.std.proofs.Common.{◌≡◌, ℕ, zero, suc, ◌+◌, ◌<◌, List, [], ◌∷◌, length, get_or, refl, ap, sym, ◌∙◌, arith, Some, None, Bool, true, false}
use Rattle.std.specs.Prelude.{map, not, find, nat_lt, position, if◌then◌else◌, ◌||◌}
use Rattle.std.specs.List.{list_any, position_or_len}
use Rattle.std.specs.Option.{option_map}
use Rattle.std.specs.Str.{bytes_eq}
use Rattle.std.proofs.lemmas.List.{length-map}
use Rattle.std.proofs.lemmas.Bool.{ltb-true, ltb-false}
use Rattle.sndlib_grammar.specs.Grammar.{Word}
use Rattle.sndlib_grammar.specs.Faults.{is_among, line_of, first_unknown}
use Rattle.sndlib_grammar.specs.Rows.{NetNode, NetLink, node_number, no_node, no_link}
use Rattle.sndlib_rows.specs.declared.kept.NodeWords.{NodeWords}
use Rattle.sndlib_rows.specs.declared.kept.LinkWords.{LinkWords}
use Rattle.sndlib_rows.specs.declared.row.LinkRow.{LinkRow}
use Rattle.sndlib_rows.specs.declared.ends.Ends.{Ends}
use Rattle.sndlib_rows.specs.Numbering.{node_of, link_of, link_ends_of}
use Rattle.sndlib_rows.specs.Views.{node_view, link_view, slices_view}
use Rattle.sndlib_rows.specs.RowViews.{link_row_view}

-- ---- rows

pub mapped_at : {Y X : Type 0} (f : Y → X) (xs : List Y) (i : ℕ) (x : Y) (d : X) → i < length xs → x ≡ get_or xs i x → get_or (map f xs) i d ≡ f x
mapped_at f [] i x d lt is = absurd (omega arith)
mapped_at f (y ∷ ys) zero x d lt is = ap f (sym is)
mapped_at f (y ∷ ys) (suc i) x d lt is = let less : i < length ys = omega arith in mapped_at f ys i x d less is

twice_at : {Z Y X : Type 0} (f : Y → X) (g : Z → Y) (xs : List Z) (i : ℕ) (x : Z) (d : X) → i < length xs → x ≡ get_or xs i x → get_or (map f (map g xs)) i d ≡ f (g x)
twice_at f g xs i x d lt is =
    let less : i < length (map g xs) = omega (arith, length-map xs g) in
    mapped_at f (map g xs) i (g x) d less (sym (mapped_at g xs i x (g x) lt is))

-- the item itself, in a list that is a list of images
image_at : {Z Y X : Type 0} (f : Y → X) (g : Z → Y) (xs : List Z) (ends : List X) (i : ℕ) (x : Z) (e : X) → i < length xs → x ≡ get_or xs i x → ends ≡ map f (map g xs) → e ≡ get_or ends i e → e ≡ f (g x)
image_at f g xs ends i x e lt is all here = here ∙ ap (λ l. get_or l i e) all ∙ twice_at f g xs i x e lt is

pub node_id_at : (ns : List NodeWords) (i : ℕ) (n : NodeWords) → i < length ns → n ≡ get_or ns i n → (node_view n).id.text ≡ (get_or (map node_of (map node_view ns)) i no_node).id
node_id_at ns i n lt is = ap (λ (r : NetNode). r.id) (sym (twice_at node_of node_view ns i n no_node lt is))

pub node_place_at : (ns : List NodeWords) (i : ℕ) (n : NodeWords) → i < length ns → n ≡ get_or ns i n → option_map slices_view n.place ≡ (get_or (map node_of (map node_view ns)) i no_node).place
node_place_at ns i n lt is = ap (λ (r : NetNode). r.place) (sym (twice_at node_of node_view ns i n no_node lt is))

pub modules_at : (known : List (List ℕ)) (ls : List LinkWords) (i : ℕ) (l : LinkWords) → i < length ls → l ≡ get_or ls i l → slices_view l.modules ≡ (get_or (map (link_of known) (map link_view ls)) i no_link).modules
modules_at known ls i l lt is = ap (λ (r : NetLink). r.modules) (sym (twice_at (link_of known) link_view ls i l no_link lt is))

abbrev link_row : LinkWords → Ends → LinkRow
link_row l e = record { id = l.id.text; source = e.source; target = e.target; installed = l.installed.text; costs = l.installed_cost.text ∷ l.routing_cost.text ∷ l.setup_cost.text ∷ []; line = l.id.line }

pub link_at_is : (known : List (List ℕ)) (ls : List LinkWords) (ends : List Ends) (i : ℕ) (l : LinkWords) (e : Ends) → i < length ls → l ≡ get_or ls i l → ends ≡ map (link_ends_of known) (map link_view ls) → e ≡ get_or ends i e
    → link_row_view (link_row l e) (get_or (map (link_of known) (map link_view ls)) i no_link).modules ≡ get_or (map (link_of known) (map link_view ls)) i no_link
link_at_is known ls ends i l e lt is all here =
    let at = twice_at (link_of known) link_view ls i l no_link lt is in
    ap (λ (x : Ends). link_row_view (link_row l x) (get_or (map (link_of known) (map link_view ls)) i no_link).modules) (image_at (link_ends_of known) link_view ls ends i l e lt is all here)
    ∙ ap (λ (r : NetLink). link_row_view (link_row l (link_ends_of known (link_view l))) r.modules) at ∙ sym at

-- ---- ends

record IsFound (p : List ℕ → Bool) (xs : List (List ℕ)) (n : ℕ) : Type 0 where
  any : list_any p xs ≡ true
  place : n ≡ position_or_len p xs

any_before : (p : List ℕ → Bool) (xs : List (List ℕ)) → nat_lt (position_or_len p xs) (length xs) ≡ list_any p xs
any_before p [] = refl
any_before p (x ∷ xs) =
    elim (p x) as (λ (b : Bool). nat_lt (if not b then 1 + position_or_len p xs else 0) (length (x ∷ xs)) ≡ (b || list_any p xs))
    [ true ↦ within 0 (length xs) (omega arith) | false ↦ shifted (position_or_len p xs) (length xs) ∙ any_before p xs ]
  where
    within : (a b : ℕ) → a < suc b → nat_lt a (suc b) ≡ true
    within a b h = elim (nat_lt a (suc b)) as (λ (c : Bool). nat_lt a (suc b) ≡ c → c ≡ true) [ true ↦ λ e. refl | false ↦ λ e. (let le = ltb-false a (suc b) e in absurd (omega arith)) ] refl

    shifted : (a b : ℕ) → nat_lt (1 + a) (suc b) ≡ nat_lt a b
    shifted a b = elim (nat_lt a b) as (λ (c : Bool). nat_lt a b ≡ c → nat_lt (1 + a) (suc b) ≡ c) [
      | true ↦ λ e. (let lt = ltb-true a b e in within (1 + a) b (omega arith))
      | false ↦ λ e. (let le = ltb-false a b e in elim (nat_lt (1 + a) (suc b)) as (λ (c : Bool). nat_lt (1 + a) (suc b) ≡ c → c ≡ false) [ true ↦ λ f. (let lt = ltb-true (1 + a) (suc b) f in absurd (omega arith)) | false ↦ λ f. refl ] refl)
    ] refl

found_at : (p : List ℕ → Bool) (xs : List (List ℕ)) (n : ℕ) → position p xs ≡ Some n → IsFound p xs n
found_at p xs n h =
    let go = elim (nat_lt (position_or_len p xs) (length xs)) as (λ (b : Bool). nat_lt (position_or_len p xs) (length xs) ≡ b → (if b then Some (position_or_len p xs) else None) ≡ Some n → IsFound p xs n)
    [ true ↦ λ e a. record { any = sym (any_before p xs) ∙ e; place = (let same : position_or_len p xs ≡ n = cc in sym same) } | false ↦ λ e a. absurd cc ] in
    go refl h

not_found : (p : List ℕ → Bool) (xs : List (List ℕ)) → position p xs ≡ None → list_any p xs ≡ false
not_found p xs h =
    let go = elim (nat_lt (position_or_len p xs) (length xs)) as (λ (b : Bool). nat_lt (position_or_len p xs) (length xs) ≡ b → (if b then Some (position_or_len p xs) else None) ≡ None → list_any p xs ≡ false)
    [ true ↦ λ e a. absurd cc | false ↦ λ e a. sym (any_before p xs) ∙ e ] in
    go refl h

unknown_source : (known : List (List ℕ)) (source target : Word) (b : Bool) → is_among known source ≡ b → first_unknown known (source ∷ target ∷ []) ≡ line_of (if not b then Some source else find (λ w. not (is_among known w)) (target ∷ []))
unknown_source known source target b e = ap (λ (c : Bool). line_of (if not c then Some source else find (λ w. not (is_among known w)) (target ∷ []))) e

unknown_target : (known : List (List ℕ)) (target : Word) (b : Bool) → is_among known target ≡ b → line_of (find (λ w. not (is_among known w)) (target ∷ [])) ≡ line_of (if not b then Some target else None)
unknown_target known target b e = ap (λ (c : Bool). line_of (if not c then Some target else None)) e

pub source_unknown : (known : List (List ℕ)) (source target : Word) → position (bytes_eq source.text) known ≡ None → first_unknown known (source ∷ target ∷ []) ≡ Some source.line
source_unknown known source target h = unknown_source known source target false (not_found (bytes_eq source.text) known h)

pub target_unknown : (known : List (List ℕ)) (source target : Word) (n : ℕ) → position (bytes_eq source.text) known ≡ Some n → position (bytes_eq target.text) known ≡ None → first_unknown known (source ∷ target ∷ []) ≡ Some target.line
target_unknown known source target n h k =
    let s = found_at (bytes_eq source.text) known n h in
    unknown_source known source target true s.any ∙ unknown_target known target false (not_found (bytes_eq target.text) known k)

pub both_known : (known : List (List ℕ)) (source target : Word) (n m : ℕ) → position (bytes_eq source.text) known ≡ Some n → position (bytes_eq target.text) known ≡ Some m
    → (first_unknown known (source ∷ target ∷ []) ≡ None) × (let e : Ends = record { source = n; target = m } in e ≡ record { source = node_number known source; target = node_number known target })
both_known known source target n m h k =
    let s = found_at (bytes_eq source.text) known n h in
    let t = found_at (bytes_eq target.text) known m k in (
      unknown_source known source target true s.any ∙ unknown_target known target true t.any,
      ap (λ (a : ℕ). record { source = a; target = m }) s.place ∙ ap (λ (a : ℕ). record { source = node_number known source; target = a }) t.place,
    )
