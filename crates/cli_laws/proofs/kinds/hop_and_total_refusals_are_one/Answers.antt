use Rattle.cli_laws.specs.KindTexts.{hops_header, total_header}
use Rattle.cli_laws.specs.LineRoles as roles
use Rattle.cli_laws.proofs.OneKind.{kind_one_under, head_one_under}
use Rattle.cli_laws.proofs.kinds.hop_and_total_refusals_are_one.Goals as goal

pub returns : goal.returns
returns c = record {
  hops = λ sheet lines r e h i same. kind_one_under hops_header sheet roles.hops lines r e h i same;
  totals = λ sheet lines r e h i same. kind_one_under total_header sheet roles.total lines r e h i same;
  hop_heads = λ lines r e h i same. head_one_under hops_header roles.hops lines r e h i same;
  total_heads = λ lines r e h i same. head_one_under total_header roles.total lines r e h i same;
}
