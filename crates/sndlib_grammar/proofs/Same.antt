-- The entries of a canonical text are the rows again.
use Rattle.std.proofs.Common.{◌≡◌, ℕ, ◌+◌, ◌<◌, List, [], ◌∷◌, length, get_or, map, Option, Some, None, refl, sym, ap, arith}
use Rattle.std.specs.Prelude.{slice_index_or}
use Rattle.std.specs.List.{flat_map, AllByRecursion}
use Rattle.std.specs.Str.{bytes_eq}
use Rattle.std.proofs.lemmas.List.Sums.{position_or_len_is}
use Rattle.sndlib_grammar.specs.Faults.{texts}
use Rattle.sndlib_grammar.specs.Rows.{NetNode, NetLink, NetDemand, AreDistinct, module_words, node_number, net_node, net_link, net_demand}
use Rattle.sndlib_grammar.specs.Canonical.{AreModules, name_at, link_without_line, demand_without_line}
use Rattle.sndlib_grammar.proofs.Entries.{word_on, modules_on, node_entry, link_entry, demand_entry, on_lines}
use Rattle.sndlib_grammar.proofs.TextSound.{bytes_same, bytes_differ}

texts_on : (line : ℕ) (ws : List (List ℕ)) → texts (map (word_on line) ws) ≡ ws
texts_on line [] = refl
texts_on line (w ∷ ws) = ap (λ l. w ∷ l) (texts_on line ws)

pub node_again : (line : ℕ) (n : NetNode) → net_node (node_entry line n) ≡ n
node_again line n = placed n.place n.id
  where
    placed : (p : Option (List (List ℕ))) (id : List ℕ) → net_node (node_entry line (record { id = id; place = p })) ≡ record { id = id; place = p }
    placed None id = refl
    placed (Some ws) id = ap (λ ws. record { id = id; place = Some ws }) (texts_on line ws)

modules_again : (line : ℕ) (ms : List (List ℕ)) → AreModules ms → flat_map module_words (modules_on line ms) ≡ ms
modules_again line [] are = refl
modules_again line (capacity ∷ []) are = absurd are
modules_again line (capacity ∷ cost ∷ more) are = ap (λ l. capacity ∷ cost ∷ l) (modules_again line more are.1)

costs_again : (costs : List (List ℕ)) → length costs ≡ 3 → slice_index_or costs 0 [] ∷ slice_index_or costs 1 [] ∷ slice_index_or costs 2 [] ∷ [] ≡ costs
costs_again (a ∷ b ∷ c ∷ []) e = refl
costs_again [] e = absurd (omega arith)
costs_again (a ∷ []) e = absurd (omega arith)
costs_again (a ∷ b ∷ []) e = absurd (omega arith)
costs_again (a ∷ b ∷ c ∷ d ∷ more) e = absurd (omega arith)

-- the number of the node of that number's name
number_again : (known : List (List ℕ)) (i line : ℕ) → AreDistinct known → i < length known → node_number known (word_on line (name_at known i)) ≡ i
number_again known i line distinct lt = position_or_len_is (bytes_eq (name_at known i)) known i [] (omega arith)
    (λ k less. bytes_differ (name_at known i) (get_or known k []) (λ e. distinct k i [] less lt (sym e)))
    (λ _. bytes_same (name_at known i))

pub link_again : (known : List (List ℕ)) (line : ℕ) (l : NetLink) → AreDistinct known → l.source < length known → l.target < length known → length l.costs ≡ 3 → AreModules l.modules
    → link_without_line (net_link known (link_entry known line l)) ≡ link_without_line l
link_again known line l distinct s t e are =
    rw (number_again known l.source line distinct s, number_again known l.target line distinct t, costs_again l.costs e, modules_again line l.modules are) refl

pub demand_again : (known : List (List ℕ)) (line : ℕ) (d : NetDemand) → AreDistinct known → d.source < length known → d.target < length known → demand_without_line (net_demand known (demand_entry known line d)) ≡ demand_without_line d
demand_again known line d distinct s t = rw (number_again known d.source line distinct s, number_again known d.target line distinct t) refl

-- of all entries of a section
pub all_again : {X E : Type 0} (back : E → X) (view : X → X) (entry : ℕ → X → E) (line : ℕ) (xs : List X) → AllByRecursion (λ x. (k : ℕ) → view (back (entry k x)) ≡ view x) xs → map view (map back (on_lines entry line xs)) ≡ map view xs
all_again back view entry line [] are = refl
all_again back view entry line (x ∷ xs) are = rw (are.0 line, all_again back view entry (line + 1) xs are.1) refl

pub all_back : {X E : Type 0} (back : E → X) (entry : ℕ → X → E) (line : ℕ) (xs : List X) → ((k : ℕ) (x : X) → back (entry k x) ≡ x) → map back (on_lines entry line xs) ≡ xs
all_back back entry line [] same = refl
all_back back entry line (x ∷ xs) same = rw (same line x, all_back back entry (line + 1) xs same) refl
