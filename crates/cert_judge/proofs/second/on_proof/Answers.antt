use Rattle.std.proofs.Common.{rules, subst}
use Rattle.flow_model.specs.Network.{Network}
use Rattle.cert_check.specs.Verdict.{IsFirstFault}
use Rattle.cert_judge.proofs.second.on_proof.Goals as goal

pub returns-in-Invalid-clause-certificate : goal.returns-in-Invalid-clause-certificate
returns-in-Invalid-clause-certificate c =
    let first : IsFirstFault c.net.result.now c.args.proof c.in-Invalid.fault = search rules in
    λ rows own. subst (λ (n : Network). IsFirstFault n c.args.proof c.in-Invalid.fault) c.net.ensures.value first
