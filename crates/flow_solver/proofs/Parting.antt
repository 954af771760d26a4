-- Rows in parts, and all together.
use Rattle.std.proofs.Common.{◌≡◌, ℕ, zero, suc, ◌<◌, List, [], ◌∷◌, ◌++◌, All, length, get_or, Option, None, Some, refl, sym, ap, ◌∙◌, subst, append_assoc, append-nil, arith}
use Rattle.std.proofs.lemmas.List.{map-append}
use Rattle.std.proofs.lemmas.List.Elements.{All-append, All-nil}
use Rattle.claimed_calls.specs.Jobs.{IsWorked}
use Rattle.flow_model.specs.Network.{Network}
use Rattle.dual_bound.specs.declared.rows.Row.{Row}
use Rattle.dual_bound.specs.Rows.{Demands, HasDistances, demand_of, demands_of}
use Rattle.flow_solver.specs.declared.share.Share.{Share}
use Rattle.flow_solver.specs.declared.share.Share.TheVariants.{Turn, Part}
use Rattle.flow_solver.specs.Shares.{IsDoneOf, IsShareOf, rows_at, rows_in}

pub all-one : {X : Type 0} (P : X → Type 0) (x : X) → P x → All P (x ∷ [])
all-one P x p zero d l = p
all-one P x p (suc k) d l = absurd (omega arith)

pub demands-append : (xs ys : List Row) → demands_of (xs ++ ys) ≡ demands_of xs ++ demands_of ys
demands-append xs ys = map-append demand_of xs ys

module _ {G : Type 0} where
  -- one part more, which was cut off behind the others
  pub rows-push : (parts : List (Option (Share G))) (part : Option (Share G)) → rows_in (parts ++ part ∷ []) ≡ rows_at part ++ rows_in parts
  rows-push [] part = sym (append-nil (rows_at part))
  rows-push (p ∷ parts) part = ap (λ (rows : List Row). rows ++ rows_at p) (rows-push parts part) ∙ append_assoc (rows_at part) (rows_in parts) (rows_at p)

  -- a part that was filled
  filled-one : (net : Network) (lengths : List ℕ) (old new : Option (Share G)) → IsShareOf net lengths old → IsWorked IsDoneOf old new → (demands_of (rows_at new) ≡ demands_of (rows_at old)) × All (HasDistances net lengths) (rows_at new)
  filled-one net lengths None new of worked = absurd of
  filled-one net lengths (Some (Turn t)) new of worked = absurd of
  filled-one net lengths (Some (Part p)) None of worked = absurd worked
  filled-one net lengths (Some (Part p)) (Some (Turn t)) of worked = absurd worked
  filled-one net lengths (Some (Part p)) (Some (Part q)) of worked =
      let Q : Network × List ℕ → Type 0 = λ x. All (HasDistances x.0 x.1) q.rows.items in
      (worked.0, subst Q (λ i. (of.1 i, of.2 i)) worked.1)

  -- parts that were filled
  pub filled-all : (net : Network) (lengths : List ℕ) (old new : List (Option (Share G))) → length new ≡ length old → All (IsShareOf net lengths) old
      → ((k : ℕ) (d : Option (Share G)) → k < length old → IsWorked IsDoneOf (get_or old k d) (get_or new k d))
      → (demands_of (rows_in new) ≡ demands_of (rows_in old)) × All (HasDistances net lengths) (rows_in new)
  filled-all net lengths [] [] same of worked = (refl, All-nil (HasDistances net lengths))
  filled-all net lengths [] (y ∷ new) same of worked = absurd (omega arith)
  filled-all net lengths (x ∷ old) [] same of worked = absurd (omega arith)
  filled-all net lengths (x ∷ old) (y ∷ new) same of worked =
      let one = filled-one net lengths x y (of 0 x (omega arith)) (worked 0 x (omega arith)) in
      let rest = filled-all net lengths old new (omega arith) (λ k d l. of (suc k) d (omega arith)) (λ k d l. worked (suc k) d (omega arith)) in
      let Q : List Demands × List Demands → Type 0 = λ p. p.0 ++ p.1 ≡ demands_of (rows_in old) ++ demands_of (rows_at x) in (
        demands-append (rows_in new) (rows_at y) ∙ (subst Q (λ i. (sym rest.0 i, sym one.0 i)) refl ∙ sym (demands-append (rows_in old) (rows_at x))),
        All-append (HasDistances net lengths) (rows_in new) (rows_at y) rest.1 one.1,
      )

  -- the rows that were filled in parts and those that were filled beside them, all together
  pub filled-together : (net : Network) (lengths : List ℕ) (rows own filled : List Row) (old was new : List (Option (Share G))) → own ++ rows_in old ≡ rows → was ≡ old → length new ≡ length was → All (IsShareOf net lengths) old
      → ((k : ℕ) (d : Option (Share G)) → k < length was → IsWorked IsDoneOf (get_or was k d) (get_or new k d))
      → demands_of filled ≡ demands_of own → All (HasDistances net lengths) filled → (now : List (Option (Share G))) → now ≡ new → (all : List Row) → all ≡ filled ++ rows_in now
      → (demands_of all ≡ demands_of rows) × All (HasDistances net lengths) all
  filled-together net lengths rows own filled old was new cut is same of worked demands distances now moved all together =
      let parts = filled-all net lengths old new (same ∙ ap (λ (ps : List (Option (Share G))). length ps) is) of
      (λ k d l. subst (λ (ps : List (Option (Share G))). IsWorked IsDoneOf (get_or ps k d) (get_or new k d)) is (worked k d (let size = ap (λ (ps : List (Option (Share G))). length ps) is in omega arith))) in
      let whole : all ≡ filled ++ rows_in new = together ∙ ap (λ (ps : List (Option (Share G))). filled ++ rows_in ps) moved in
      let Q : List Demands × List Demands → Type 0 = λ p. p.0 ++ p.1 ≡ demands_of own ++ demands_of (rows_in old) in (
        ap demands_of whole ∙ (demands-append filled (rows_in new) ∙ (subst Q (λ i. (sym demands i, sym parts.0 i)) refl ∙ (sym (demands-append own (rows_in old)) ∙ ap demands_of cut))),
        subst (λ (rs : List Row). All (HasDistances net lengths) rs) (sym whole) (All-append (HasDistances net lengths) filled (rows_in new) distances parts.1),
      )
