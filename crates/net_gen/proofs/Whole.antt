-- A canonical text by its parts.
use Rattle.std.proofs.Common.{◌≡◌, ℕ, List, [], ◌∷◌, ◌++◌, map, sym, ap, ◌∙◌, append_assoc}
use Rattle.std.specs.Prelude.{codes}
use Rattle.std.proofs.lemmas.Grind.{flat_map-append}
use Rattle.std.proofs.lemmas.List.{append-nil}
use Rattle.text_lines.specs.Lines.{Line, spelled, text_of}
use Rattle.sndlib_grammar.specs.Rows.{NetRows, names_of_nodes}
use Rattle.sndlib_grammar.specs.Canonical.{canonical_text, closing_line, first_line, opening_line, section, node_line, link_line, demand_line}

-- a section: its opening, its entries, its closing
section_is : {X : Type 0} (name : List ℕ) (words : X → Line) (xs : List X) → text_of (section name words xs) ≡ spelled (opening_line name) ++ (text_of (map words xs) ++ spelled closing_line)
section_is name words xs = ap (λ (l : List ℕ). spelled (opening_line name) ++ l) (flat_map-append spelled (map words xs) (closing_line ∷ []) ∙ ap (λ (l : List ℕ). text_of (map words xs) ++ l) (append-nil (spelled closing_line)))

abbrev pub opens_nodes : List ℕ
opens_nodes = spelled first_line ++ spelled (opening_line (codes "NODES"))

abbrev pub opens_links : List ℕ
opens_links = spelled closing_line ++ spelled (opening_line (codes "LINKS"))

abbrev pub opens_demands : List ℕ
opens_demands = spelled closing_line ++ spelled (opening_line (codes "DEMANDS"))

regroup : (f n xs c l ys d zs : List ℕ) → f ++ ((n ++ (xs ++ c)) ++ ((l ++ (ys ++ c)) ++ (d ++ (zs ++ c)))) ≡ ((((((f ++ n) ++ xs) ++ (c ++ l)) ++ ys) ++ (c ++ d)) ++ zs) ++ c
regroup f n xs c l ys d zs = simp append_assoc

ap3 : (f : List ℕ → List ℕ → List ℕ → List ℕ) {a b c x y z : List ℕ} → a ≡ x → b ≡ y → c ≡ z → f a b c ≡ f x y z
ap3 f {b = b} {c = c} {x = x} {y = y} p q r = ap (λ t. f t b c) p ∙ ap (λ t. f x t c) q ∙ ap (λ t. f x y t) r

pub parts_are : (rows : NetRows) → (((((opens_nodes ++ text_of (map node_line rows.nodes)) ++ opens_links) ++ text_of (map (link_line (names_of_nodes rows)) rows.links)) ++ opens_demands) ++ text_of (map (demand_line (names_of_nodes rows)) rows.demands)) ++ spelled closing_line
    ≡ canonical_text rows
parts_are rows =
    let n = section (codes "NODES") node_line rows.nodes in
    let l = section (codes "LINKS") (link_line (names_of_nodes rows)) rows.links in
    let d = section (codes "DEMANDS") (demand_line (names_of_nodes rows)) rows.demands in
    let parts : canonical_text rows ≡ spelled first_line ++ (text_of n ++ (text_of l ++ text_of d)) = ap (λ (t : List ℕ). spelled first_line ++ t) (flat_map-append spelled n (l ++ d) ∙ ap (λ (t : List ℕ). text_of n ++ t) (flat_map-append spelled l d)) in
    let filled = ap3 (λ (x y z : List ℕ). spelled first_line ++ (x ++ (y ++ z))) (section_is (codes "NODES") node_line rows.nodes) (section_is (codes "LINKS") (link_line (names_of_nodes rows)) rows.links) (section_is (codes "DEMANDS") (demand_line (names_of_nodes rows)) rows.demands) in
    sym (parts ∙ filled ∙ regroup (spelled first_line) (spelled (opening_line (codes "NODES"))) (text_of (map node_line rows.nodes)) (spelled closing_line) (spelled (opening_line (codes "LINKS"))) (text_of (map (link_line (names_of_nodes rows)) rows.links)) (spelled (opening_line (codes "DEMANDS"))) (text_of (map (demand_line (names_of_nodes rows)) rows.demands)))

-- the text, grown by one part after the other
pub record Grown (rows : NetRows) (t0 t1 t2 t3 t4 t5 t6 t7 : List ℕ) : Type 0 where
  pub none : t0 ≡ []
  pub opened : t1 ≡ t0 ++ opens_nodes
  pub nodes : t2 ≡ t1 ++ text_of (map node_line rows.nodes)
  pub between : t3 ≡ t2 ++ opens_links
  pub links : t4 ≡ t3 ++ text_of (map (link_line (names_of_nodes rows)) rows.links)
  pub then : t5 ≡ t4 ++ opens_demands
  pub demands : t6 ≡ t5 ++ text_of (map (demand_line (names_of_nodes rows)) rows.demands)
  pub closed : t7 ≡ t6 ++ spelled closing_line

on : (part : List ℕ) {a b : List ℕ} → a ≡ b → a ++ part ≡ b ++ part
on part e = ap (λ (l : List ℕ). l ++ part) e

pub grown_whole : (rows : NetRows) (t0 t1 t2 t3 t4 t5 t6 t7 : List ℕ) → Grown rows t0 t1 t2 t3 t4 t5 t6 t7 → t7 ≡ canonical_text rows
grown_whole rows t0 t1 t2 t3 t4 t5 t6 t7 g =
    let one : t1 ≡ opens_nodes = g.opened ∙ on opens_nodes g.none in
    let two = g.nodes ∙ on (text_of (map node_line rows.nodes)) one in
    let three = g.between ∙ on opens_links two in
    let four = g.links ∙ on (text_of (map (link_line (names_of_nodes rows)) rows.links)) three in
    let five = g.then ∙ on opens_demands four in
    let six = g.demands ∙ on (text_of (map (demand_line (names_of_nodes rows)) rows.demands)) five in
    g.closed ∙ on (spelled closing_line) six ∙ parts_are rows
