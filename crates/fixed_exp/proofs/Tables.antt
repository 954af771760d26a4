-- What a table of lengths keeps.
use Rattle.std.proofs.Common.{◌≡◌, ℕ, ◌-◌, ◌^◌, ◌<◌, ◌≤◌, min, List, length, get_or, sym, ap, subst, ◌∙◌}
use Rattle.std.specs.Prelude.{All}
use Rattle.flow_model.specs.declared.net.Cell.{Cell}
use Rattle.flow_model.specs.declared.setting.Setting.{Setting}
use Rattle.flow_model.specs.Network.{Network, IsNetwork}
use Rattle.flow_model.specs.Lengths.{AreLengths, IsSetting, exponent, greatest_exponent, least_capacity, length_at, lengths_at, lengths_of}
use Rattle.mcf_limits.specs.declared.TheConstants.{MAX_LENGTH}
use Rattle.fixed_exp.specs.Far.{EmptyAreFar}
use Rattle.fixed_exp.specs.Kept.{cell_at, greatest, AreRates, AreRated, KeepsExponent}
use Rattle.fixed_exp.specs.declared.rates.Rate.{Rate}
use Rattle.fixed_exp.specs.LoadedNetwork.{IsLengthTable}
use Rattle.fixed_exp.proofs.Passes.{get_or-lengths_at, greatest_kept, lengths-fit, empty-far, least_bounds, greatest_bounds}

-- the length of each cell
pub ready-at : (net : Network) (s : Setting) (loads kept ready : List ℕ) (top least : ℕ) (rates : List Rate) (places : ℕ) → IsLengthTable net s loads kept ready top least rates places
    → (k : ℕ) → k < length net.cells → get_or ready k 0 ≡ length_at s top least (cell_at net.cells k) (get_or loads k 0)
ready-at net s loads kept ready top least rates places t k l =
    ap (λ (xs : List ℕ). get_or xs k 0) t.lengths ∙ (get_or-lengths_at s (greatest_exponent s net.cells loads) (least_capacity net.cells) net.cells loads k t.count l
    ∙ (ap (λ (n : ℕ). length_at s n (least_capacity net.cells) (cell_at net.cells k) (get_or loads k 0)) (sym t.top)
    ∙ ap (λ (n : ℕ). length_at s top n (cell_at net.cells k) (get_or loads k 0)) (sym t.least)))

-- the greatest exponent as far as it fits
pub top-kept : (net : Network) (s : Setting) (loads kept ready : List ℕ) (top least : ℕ) (rates : List Rate) (places : ℕ) → IsLengthTable net s loads kept ready top least rates places → greatest kept ≡ min top (2 ^ 64 - 1)
top-kept net s loads kept ready top least rates places t = greatest_kept s net.cells loads kept t.count t.exponents t.each ∙ ap (λ (n : ℕ). min n (2 ^ 64 - 1)) (sym t.top)

-- the table of other loads
pub table-of : (net : Network) (s : Setting) (loads kept ready : List ℕ) (top least : ℕ) (rates : List Rate) (places : ℕ) → IsNetwork net → IsSetting s → length loads ≡ length net.cells → All (λ x. x ≤ MAX_LENGTH) loads
    → least ≡ least_capacity net.cells → top ≡ greatest_exponent s net.cells loads → length kept ≡ length net.cells → ((k : ℕ) → k < length net.cells → KeepsExponent s net.cells loads kept k)
    → ready ≡ lengths_at s top least net.cells loads → AreRates s net.cells least rates → places ≡ length net.cells → IsLengthTable net s loads kept ready top least rates places
table-of net s loads kept ready top least rates places fits setting count small p q size each e rated room =
    let is : ready ≡ lengths_of net s loads = e ∙ (ap (λ (n : ℕ). lengths_at s n least net.cells loads) q ∙ ap (λ (n : ℕ). lengths_at s (greatest_exponent s net.cells loads) n net.cells loads) p) in
    record {
      fits = fits;
      setting = setting;
      count = count;
      small = small;
      least = p;
      top = q;
      exponents = size;
      each = each;
      lengths = is;
      long = subst (λ (xs : List ℕ). AreLengths net.cells xs) (sym is) (lengths-fit s (greatest_exponent s net.cells loads) net.cells loads count);
      empty = subst (λ (xs : List ℕ). EmptyAreFar net.cells xs) (sym is) (empty-far s (greatest_exponent s net.cells loads) (least_capacity net.cells) net.cells loads count);
      rated = rated;
      room = room;
    }

-- the least capacity is at most each positive one
pub least-below : (cells : List Cell) (least : ℕ) → least ≡ least_capacity cells → (k : ℕ) → k < length cells → 1 ≤ (cell_at cells k).cap → least ≤ (cell_at cells k).cap
least-below cells least e k l p = subst (λ (n : ℕ). n ≤ (cell_at cells k).cap) (sym e) (least_bounds cells k l p)

-- each exponent is at most the greatest
pub greatest-above : (s : Setting) (cells : List Cell) (loads : List ℕ) (top : ℕ) → length loads ≡ length cells → top ≡ greatest_exponent s cells loads → (k : ℕ) → k < length cells → exponent s (cell_at cells k) (get_or loads k 0) ≤ top
greatest-above s cells loads top count e k l = subst (λ (n : ℕ). exponent s (cell_at cells k) (get_or loads k 0) ≤ n) (sym e) (greatest_bounds s cells loads k count l)

-- cells of a network with their rates and their least capacity
pub are-rated : (net : Network) (s : Setting) (least : ℕ) (rates : List Rate) → IsNetwork net → AreRates s net.cells least rates → least ≡ least_capacity net.cells → AreRated s net.cells least rates
are-rated net s least rates fits rated e = record {
  caps = λ k d l. (fits.cells k d l).cap;
  rated = rated;
  below = least-below net.cells least e;
}
