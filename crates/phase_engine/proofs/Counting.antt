-- The hands have as many routes as there are commodities.
use Rattle.std.proofs.Common.{◌≡◌, ℕ, zero, suc, ◌+◌, ◌<◌, ◌≤◌, Bool, true, false, nat_eq, List, [], ◌∷◌, cond, length, get_or, refl, sym, ap, ◌∙◌, arith, eq-eqb, ne_eqb, inl, inr}
use Rattle.std.specs.List.{filter, range_with_len, sum_by}
use Rattle.std.proofs.lemmas.Bool.{cases_eq}
use Rattle.std.proofs.lemmas.List.{length-append, length-map}
use Rattle.std.proofs.lemmas.List.Sums.{sum_by-cons}
use Rattle.flow_model.specs.Network.{Network, IsNetwork}
use Rattle.flow_model.specs.Groups.{members_of, group_in, group_count}
use Rattle.flow_core.specs.declared.state.Entry.{Entry}
use Rattle.flow_core.specs.declared.state.Worker.{Worker}
use Rattle.flow_core.specs.Core.{idle, total, path_of}
use Rattle.flow_core.specs.Laws.{one_if, below, weigh}
use Rattle.flow_core.proofs.Places.{total-none}
use Rattle.flow_core.proofs.Whole.{in-groups}
use Rattle.phase_engine.specs.Routes.{Route}
use Rattle.phase_engine.specs.Work.{routes_in, routes_of}
use Rattle.phase_engine.proofs.Goings.{routes_more}
use Rattle.phase_engine.specs.declared.hand.Hand.{Hand}

-- sums over the numbers below n

below-front : (g : ℕ → ℕ) (n : ℕ) → below g (suc n) ≡ g 0 + below (λ k. g (suc k)) n
below-front g zero = omega arith
below-front g (suc n) = let r = below-front g n in omega arith

below-zero : (g : ℕ → ℕ) (n : ℕ) → ((k : ℕ) → k < n → g k ≡ 0) → below g n ≡ 0
below-zero g zero h = refl
below-zero g (suc n) h = let r = below-zero g n (λ k l. h k (omega arith)) in let a = h n (omega arith) in omega arith

below-sum : (f g s : ℕ → ℕ) (n : ℕ) → ((k : ℕ) → s k ≡ f k + g k) → below s n ≡ below f n + below g n
below-sum f g s zero h = refl
below-sum f g s (suc n) h = let r = below-sum f g s n h in let a = h n in omega arith

below-one : (x n : ℕ) → x < n → below (λ g. one_if (nat_eq x g)) n ≡ 1
below-one x zero l = absurd (omega arith)
below-one x (suc n) l =
    elim (cases_eq x n) [
      | inl e ↦
          let rest = below-zero (λ g. one_if (nat_eq x g)) n (λ k less. ap one_if (ne_eqb x k (λ same. omega arith))) in
          let here : one_if (nat_eq x n) ≡ 1 = ap one_if (eq-eqb x n e) in
          omega arith
      | inr other ↦
          let rest = below-one x n (omega arith) in
          let here : one_if (nat_eq x n) ≡ 0 = ap one_if (ne_eqb x n other) in
          omega arith
    ]

-- each number is in one group

more-members : (p : ℕ → Bool) (x : ℕ) (xs : List ℕ) → length (filter p (x ∷ xs)) ≡ one_if (p x) + length (filter p xs)
more-members p x xs = go (p x) (filter p xs)
  where
    go : (b : Bool) (rest : List ℕ) → length (cond b (x ∷ rest) rest) ≡ one_if b + length rest
    go true rest = omega arith
    go false rest = omega arith

in-one-group : (group : ℕ → ℕ) (n a m : ℕ) → ((k : ℕ) → a ≤ k → k < a + m → group k < n) → below (λ g. length (filter (λ k. nat_eq (group k) g) (range_with_len a m))) n ≡ m
in-one-group group n a zero h = below-zero (λ g. 0) n (λ k l. refl)
in-one-group group n a (suc m) h =
    let rest = in-one-group group n (a + 1) m (λ k low high. h k (omega arith) (omega arith)) in
    let one = below-one (group a) n (h a (omega arith) (omega arith)) in
    let both = below-sum (λ g. one_if (nat_eq (group a) g)) (λ g. length (filter (λ k. nat_eq (group k) g) (range_with_len (a + 1) m))) (λ g. length (filter (λ k. nat_eq (group k) g) (range_with_len a (suc m)))) n
    (λ g. more-members (λ k. nat_eq (group k) g) a (range_with_len (a + 1) m)) in
    omega arith

members-in-all : (net : Network) → IsNetwork net → below (λ g. length (members_of net g)) (group_count net) ≡ length net.commodities
members-in-all net n = in-one-group (group_in net) (group_count net) 0 (length net.commodities) (λ k low high. in-groups net k n (omega arith))

-- the routes of a log, of a list of workers and of the hands

routes-count : (net : Network) (log : List Entry) → length (routes_of net log) ≡ total (λ (e : Entry). length (members_of net e.ticket)) log
routes-count net [] = refl
routes-count net (e ∷ es) =
    let f : ℕ → Route = λ k. record { commodity = k; path = path_of k e.adds } in
    let rest = routes-count net es in
    let here = length-map (members_of net e.ticket) f in
    ap length (routes_more net es e) ∙ (length-append (routes_of net es) (routes_in net e) ∙ omega arith)

workers-sum : (f : Worker → ℕ) (ws : List Worker) (n : ℕ) → f idle ≡ 0 → ((k : ℕ) → n ≤ k → get_or ws k idle ≡ idle) → total f ws ≡ below (λ k. f (get_or ws k idle)) n
workers-sum f [] n none past = sym (below-zero (λ k. f idle) n (λ k l. none))
workers-sum f (w ∷ ws) zero none past = total-none f (w ∷ ws) idle (λ j l. ap f (past j (omega arith)) ∙ none)
workers-sum f (w ∷ ws) (suc n) none past =
    let rest = workers-sum f ws n none (λ k l. past (suc k) (omega arith)) in
    let front = below-front (λ k. f (get_or (w ∷ ws) k idle)) n in
    omega arith

hands-sum : (g : ℕ → ℕ) (hands : List Hand) → ((k : ℕ) (d : Hand) → k < length hands → length (get_or hands k d).routes ≡ g k) → sum_by (λ (h : Hand). length h.routes) hands ≡ below g (length hands)
hands-sum g [] each = refl
hands-sum g (h ∷ hs) each =
    let rest = hands-sum (λ k. g (suc k)) hs (λ k d l. each (suc k) d (omega arith)) in
    let front = below-front g (length hs) in
    let here = each 0 h (omega arith) in
    sum_by-cons (λ (h : Hand). length h.routes) h hs ∙ omega arith

-- as many as commodities, where the workers have routed all groups
pub routes-are-all : (net : Network) (hands : List Hand) (ws : List Worker) (given : ℕ) → IsNetwork net
    → ((k : ℕ) (d : Hand) → k < length hands → (get_or hands k d).routes ≡ routes_of net (get_or ws k idle).log)
    → ((k : ℕ) → length hands ≤ k → get_or ws k idle ≡ idle)
    → ((g : ℕ → ℕ) → total (weigh g) ws ≡ below g given) → given ≡ group_count net
    → sum_by (λ (h : Hand). length h.routes) hands ≡ length net.commodities
routes-are-all net hands ws given n routes past weighed all =
    let g : ℕ → ℕ = λ t. length (members_of net t) in
    hands-sum (λ k. weigh g (get_or ws k idle)) hands (λ k d l. ap length (routes k d l) ∙ routes-count net (get_or ws k idle).log)
    ∙ (sym (workers-sum (weigh g) ws (length hands) refl past)
    ∙ (weighed g ∙ (ap (below g) all ∙ members-in-all net n)))
