-- The network in whole units of sound rows is within the limits, and its commodities are the demands that are kept.
use Rattle.std.proofs.Common.{◌≡◌, ℕ, ◌≤◌, Bool, true, false, List, [], ◌∷◌, length, refl, subst, arith}
use Rattle.std.specs.Prelude.{Option, Some, None, Ok, if◌then◌else◌}
use Rattle.std.specs.List.{filter_map, list_all}
use Rattle.flow_model.specs.Network.{IsNetwork}
use Rattle.sndlib_grammar.specs.Rows.{AreNetRows, NetDemand, NetRows}
use Rattle.sndlib_grammar.specs.declared.refusal.NetKind.{NetKind}
use Rattle.sndlib_grammar.specs.declared.refusal.NetKind.TheVariants.{TooFine, TooLarge, NoDemand}
use Rattle.unit_scale.specs.declared.options.NetOptions.{NetOptions}
use Rattle.unit_scale.specs.Sizes.{decimals_of, is_left_out, sizes}
use Rattle.unit_scale.specs.Scaling.{ScaledNet, commodity_of, first_large, first_line, is_large_link, no_demand, or_else, refusal, refused, scaled_of, scaled_with, too_fine, too_large}
use Rattle.unit_scale.specs.ScaledFacts.{IsScaledNet}
use Rattle.unit_scale.proofs.NetworkFacts.{kept_rows, kept_same_count, network_ok}
use Rattle.unit_scale.proofs.WholeScaling.{decimals_are}
use Rattle.cli_laws.proofs.Alike.{taken}

first_none : {X : Type 0} (a b : Option X) → or_else a b ≡ None → a ≡ None
first_none None b e = refl
first_none (Some x) b e = absurd cc

later_none : {X : Type 0} (a b : Option X) → or_else a b ≡ None → b ≡ None
later_none None b e = e
later_none (Some x) b e = absurd cc

not_refused : (kind : NetKind) (line : Option ℕ) → refused kind line ≡ None → line ≡ None
not_refused kind None e = refl
not_refused kind (Some n) e = absurd cc

not_all : (b : Bool) (line : ℕ) → (if b then Some line else None) ≡ None → b ≡ false
not_all true line e = absurd cc
not_all false line e = refl

kept_here : (s : ℕ) (ds : List NetDemand) → list_all is_left_out ds ≡ false → 1 ≤ length (filter_map (commodity_of s) ds)
kept_here s [] e = absurd cc
kept_here s (d ∷ ds) e = by (is_left_out d) refl (kept_here s ds)
  where
    by : (b : Bool) → is_left_out d ≡ b → (list_all is_left_out ds ≡ false → 1 ≤ length (filter_map (commodity_of s) ds)) → 1 ≤ length (filter_map (commodity_of s) (d ∷ ds))
    by true out rest = let more = rest (rw out at e) in rw out more
    by false kept rest = rw kept (omega arith)

pub net_is_sound : (rows : NetRows) (o : NetOptions) (net : ScaledNet) → AreNetRows rows → scaled_of rows o ≡ Ok net → IsNetwork net.net × IsScaledNet net
net_is_sound rows o net well e =
    let s = decimals_of (sizes o.modules rows) in
    let is = taken (scaled_with o s rows) net (refusal o.modules s rows) e in
    let fine = refused TooFine (too_fine o.modules rows) in
    let large = refused TooLarge (too_large o.modules s rows) in
    let last = refused NoDemand (no_demand rows) in
    let later : or_else large last ≡ None = later_none fine (or_else large last) is.0 in
    let links = first_line (is_large_link o.modules s) (λ l. l.line) rows.links in
    let small : too_large o.modules s rows ≡ None = not_refused TooLarge (too_large o.modules s rows) (first_none large last later) in
    let some : list_all is_left_out rows.demands ≡ false = not_all (list_all is_left_out rows.demands) rows.end_line (not_refused NoDemand (no_demand rows) (later_none large last later)) in
    let all = decimals_are (sizes o.modules rows) in
    let network : IsNetwork (scaled_with o s rows).net =
    network_ok rows o s well all (first_none links (first_large s 0 rows.demands) small) (later_none links (first_large s 0 rows.demands) small) (kept_here s rows.demands some) in
    let facts : IsScaledNet (scaled_with o s rows) =
    record { decimals = all.within; count = kept_same_count s 0 rows.demands; rows = kept_rows rows (scaled_with o s rows).kept well refl } in
    (subst (λ (n : ScaledNet). IsNetwork n.net) is.1 network, subst IsScaledNet is.1 facts)
