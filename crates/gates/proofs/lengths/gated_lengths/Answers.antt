use Rattle.std.proofs.Common.{◌≡◌, ◌≤◌, ℕ, List, ◌++◌, length, ap, sym, subst, ◌∙◌, arith}
use Rattle.flow_model.specs.declared.net.Cell.{Cell}
use Rattle.flow_model.specs.Lengths.{AreLengths, greatest_exponent, least_capacity, lengths_at}
use Rattle.fixed_exp.specs.Far.{EmptyAreFar}
use Rattle.fixed_exp.proofs.Passes.{empty-far}
use Rattle.gates.proofs.Appended.{least-append, greatest-append, lengths-append, lengths-within}
use Rattle.gates.proofs.lengths.gated_lengths.Goals as goal

pub returns-clause-value : goal.returns-clause-value
returns-clause-value c =
    let s = c.args.setting.now in
    let cells = c.args.net.now.cells in
    let gates = c.args.gates.now in
    let lc = c.args.loads.now.cells.now in
    let lg = c.args.loads.now.gates.now in
    let top = c.max-top.result in
    let least = c.min.result in
    let same : c.cells-cells.result.now ≡ cells = c.cells-cells.ensures.value in
    let long : length lc ≡ length cells = c.requires.loads.0 in
    let one : c.put_lengths.new.into ≡ lengths_at s top least cells lc = c.put_lengths.ensures ∙ ap (λ (cs : List Cell). lengths_at s top least cs lc) same in
    let two : c.put_lengths-2.new.into ≡ lengths_at s top least gates lg = c.put_lengths-2.ensures in
    let here : c.greatest_of.result ≡ greatest_exponent s cells lc = c.greatest_of.ensures ∙ ap (λ (cs : List Cell). greatest_exponent s cs lc) same in
    let there : c.greatest_of-2.result ≡ greatest_exponent s gates lg = c.greatest_of-2.ensures in
    let small : c.least_of.result ≡ least_capacity cells = c.least_of.ensures.value ∙ ap (λ (cs : List Cell). least_capacity cs) same in
    let tops : top ≡ greatest_exponent s (cells ++ gates) (lc ++ lg) = omega (arith, c.max-top.ensures, here, there, greatest-append s cells gates lc lg long) in
    let leasts : least ≡ least_capacity (cells ++ gates) = omega (arith, c.min.ensures, small, c.least_of-2.ensures.value, least-append cells gates) in
    ap (λ (xs : List ℕ). xs ++ c.put_lengths-2.new.into) one ∙ ap (λ (ys : List ℕ). lengths_at s top least cells lc ++ ys) two ∙ sym (lengths-append s top least cells gates lc lg long)
    ∙ ap (λ (t : ℕ). lengths_at s t least (cells ++ gates) (lc ++ lg)) tops ∙ ap (λ (l : ℕ). lengths_at s (greatest_exponent s (cells ++ gates) (lc ++ lg)) l (cells ++ gates) (lc ++ lg)) leasts

pub returns-clause-fits : goal.returns-clause-fits
returns-clause-fits c =
    let s = c.args.setting.now in
    let cells = c.args.net.now.cells in
    let lc = c.args.loads.now.cells.now in
    let top = c.max-top.result in
    let least = c.min.result in
    let same : c.cells-cells.result.now ≡ cells = c.cells-cells.ensures.value in
    let one : c.put_lengths.new.into ≡ lengths_at s top least cells lc = c.put_lengths.ensures ∙ ap (λ (cs : List Cell). lengths_at s top least cs lc) same in
    let small : c.least_of.result ≡ least_capacity cells = c.least_of.ensures.value ∙ ap (λ (cs : List Cell). least_capacity cs) same in
    let below : least ≤ least_capacity cells = omega (arith, c.min.ensures, small) in
    subst (λ (xs : List ℕ). AreLengths cells xs) (sym one) (lengths-within s top least cells lc c.requires.loads.0 below)

pub returns-clause-empty : goal.returns-clause-empty
returns-clause-empty c =
    let s = c.args.setting.now in
    let cells = c.args.net.now.cells in
    let lc = c.args.loads.now.cells.now in
    let top = c.max-top.result in
    let least = c.min.result in
    let same : c.cells-cells.result.now ≡ cells = c.cells-cells.ensures.value in
    let one : c.put_lengths.new.into ≡ lengths_at s top least cells lc = c.put_lengths.ensures ∙ ap (λ (cs : List Cell). lengths_at s top least cs lc) same in
    subst (λ (xs : List ℕ). EmptyAreFar cells xs) (sym one) (empty-far s top least cells lc c.requires.loads.0)
