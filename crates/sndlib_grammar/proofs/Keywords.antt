-- The names of the three sections of entries.
use Rattle.std.proofs.Common.{◌≡◌, ◌≢◌, List, ℕ, Bool, true, false, refl, ap}
use Rattle.std.specs.Prelude.{codes, if◌then◌else◌}
use Rattle.std.specs.Str.{bytes_eq}
use Rattle.std.proofs.lemmas.Slice.Eq.{bytes_eq-Decides}
use Rattle.sndlib_grammar.specs.declared.mode.Part.{Part}
use Rattle.sndlib_grammar.specs.declared.mode.Part.TheVariants as parts
use Rattle.sndlib_grammar.specs.Modes.{keyword_of}

abbrev pub IsKeyword : Part → List ℕ → Type 0
IsKeyword parts.Nodes w = w ≡ codes "NODES"
IsKeyword parts.Links w = w ≡ codes "LINKS"
IsKeyword parts.Demands w = w ≡ codes "DEMANDS"
IsKeyword parts.Rest w = (w ≢ codes "NODES") × (w ≢ codes "LINKS") × (w ≢ codes "DEMANDS")

differs : (v w : List ℕ) → bytes_eq v w ≡ false → v ≢ w
differs v w other same = let yes = (bytes_eq-Decides v w).1 same in absurd cc

pub keyword_is : (w : List ℕ) → IsKeyword (keyword_of w) w
keyword_is w =
    let a = elim (bytes_eq w (codes "NODES")) as (λ (b : Bool). bytes_eq w (codes "NODES") ≡ b → IsKeyword (if b then parts.Nodes else (if bytes_eq w (codes "LINKS") then parts.Links else (if bytes_eq w (codes "DEMANDS") then parts.Demands else parts.Rest))) w) [
      | true ↦ λ e. (bytes_eq-Decides w (codes "NODES")).0 e
      | false ↦ λ no_nodes.
          let b = elim (bytes_eq w (codes "LINKS")) as (λ (b : Bool). bytes_eq w (codes "LINKS") ≡ b → IsKeyword (if b then parts.Links else (if bytes_eq w (codes "DEMANDS") then parts.Demands else parts.Rest)) w) [
            | true ↦ λ e. (bytes_eq-Decides w (codes "LINKS")).0 e
            | false ↦ λ no_links.
                let c = elim (bytes_eq w (codes "DEMANDS")) as (λ (b : Bool). bytes_eq w (codes "DEMANDS") ≡ b → IsKeyword (if b then parts.Demands else parts.Rest) w) [
                  | true ↦ λ e. (bytes_eq-Decides w (codes "DEMANDS")).0 e
                  | false ↦ λ no_demands. (differs w (codes "NODES") no_nodes, differs w (codes "LINKS") no_links, differs w (codes "DEMANDS") no_demands)
                ] in
                c refl
          ] in
          b refl
    ] in
    a refl

pub is_keyword : (p : Part) (w : List ℕ) → IsKeyword p w → keyword_of w ≡ p
is_keyword parts.Nodes w h = ap keyword_of h
is_keyword parts.Links w h = ap keyword_of h
is_keyword parts.Demands w h = ap keyword_of h
is_keyword parts.Rest w h =
    let a : bytes_eq w (codes "NODES") ≡ false = other w (codes "NODES") h.0 in
    let b : bytes_eq w (codes "LINKS") ≡ false = other w (codes "LINKS") h.1 in
    let c : bytes_eq w (codes "DEMANDS") ≡ false = other w (codes "DEMANDS") h.2 in
    rw (a, b, c) refl
  where
    other : (v w : List ℕ) → v ≢ w → bytes_eq v w ≡ false
    other v w h = elim (bytes_eq v w) as (λ (b : Bool). bytes_eq v w ≡ b → b ≡ false) [ true ↦ λ e. absurd (h ((bytes_eq-Decides v w).0 e)) | false ↦ λ e. refl ] refl
