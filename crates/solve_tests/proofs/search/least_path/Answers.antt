use Rattle.std.proofs.Common.{◌≡◌, ◌<◌, ◌∙◌, ℕ, List, length, get_or, sym, ap, refl, arith, subst}
use Rattle.flow_model.specs.declared.net.Commodity.{Commodity}
use Rattle.flow_model.specs.Network.{IsCommodity}
use Rattle.flow_model.specs.Lengths.{lengths_of}
use Rattle.fixed_exp.specs.LoadedNetwork.{LoadedNetwork}
use Rattle.solve_tests.specs.Routed.{IsLeastPath}
use Rattle.solve_tests.proofs.LeastPaths.{path-is}
use Rattle.solve_tests.proofs.search.least_path.Goals as goal

pub returns : goal.returns
returns c =
    let net = c.args.net.now in
    let d : Commodity = record { from = 0; to = 0; amount = 0 } in
    let commodity : Commodity = get_or c.commodities.result.now c.args.k d in
    let is : commodity ≡ get_or net.commodities c.args.k d = ap (λ (xs : List Commodity). get_or xs c.args.k d) c.commodities.ensures.value in
    let fits : IsCommodity net.nodes commodity = subst (IsCommodity net.nodes) (sym is) (c.commodities.ensures.net.commodities c.args.k d c.requires.k) in
    let nodes : c.search.new.self.nodes ≡ net.nodes = c.search.ensures.nodes ∙ (c.in_ok-scratch.ensures.nodes ∙ c.nodes.ensures.value) in
    let inside : commodity.to < c.search.new.self.nodes = omega (arith, fits.to) in
    let table = c.in_ok-table.ensures in
    let n : c.update.new.self.net ≡ net = c.update.ensures.net ∙ ap (λ (t : LoadedNetwork). t.net) table in
    let s : c.update.new.self.setting ≡ c.args.setting.now = c.update.ensures.setting ∙ ap (λ (t : LoadedNetwork). t.setting) table in
    let lengths : c.lengths.result.now ≡ lengths_of net c.args.setting.now c.args.loads.now = c.lengths.ensures.value ∙ (λ i. lengths_of (n i) (s i) (c.update.ensures.loads i)) in
    let whole : IsLeastPath net c.args.setting.now c.args.loads.now c.args.k c.in-Some.path.now =
    path-is net c.in_ok-graph.graph c.args.setting.now c.args.loads.now c.lengths.result.now c.args.k d commodity c.search.new.self.nodes _ _ c.in-Some.path.now
    c.in_ok-graph.ensures lengths is (c.search.ensures.least commodity.to inside) (c.search.ensures.paths commodity.to inside) c.in-Some.ensures.value in
    rw c.in_ok-copy_of-in-Some.ensures whole
