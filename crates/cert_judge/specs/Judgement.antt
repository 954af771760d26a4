-- What is said of a certificate's text on the rows of a network.
use Rattle.std.specs.Prelude.{◌≡◌, ℕ, List}
use Rattle.unit_scale.specs.declared.options.NetOptions.{NetOptions}
use Rattle.flow_model.specs.Network.{Network}
use Rattle.flow_model.specs.Routing.{IsFeasible}
use Rattle.flow_paths.specs.Certificate.{lower_of, upper_of, routing_of, IsValidRouting, IsValid, IsCertified}
use Rattle.sndlib_grammar.specs.Rows.{NetRows}
use Rattle.unit_scale.specs.Scaling.{ScaledNet}
use Rattle.cert_text.specs.declared.opening.Known.TheVariants.{Both}
use Rattle.cert_text.specs.declared.papers.Paper.{Paper}
use Rattle.cert_text.specs.declared.papers.Paper.TheVariants.{Routing, Full}
use Rattle.cert_check.specs.Verdict.{IsFirstRouteFault, IsFirstFault}
use Rattle.cert_judge.specs.declared.refusal.Refusal.{Refusal}
use Rattle.cert_judge.specs.declared.refusal.Refusal.TheVariants.{Net, Cert}
use Rattle.cert_judge.specs.declared.judged.Judged.{Judged}
use Rattle.cert_judge.specs.declared.judged.Judged.TheVariants.{NetRefused, CertRefused, Invalid, Feasible, Valid}
use Rattle.cert_judge.specs.Chain.{IsSaid}
use Rattle.cert_judge.specs.Papers.{paper_on}

-- feasible exactly where a routing's four conditions hold, valid exactly where a certificate's ten
-- do, else the first that fails
abbrev pub IsSaidOf : NetOptions → Network → Paper → Judged → Type 0
IsSaidOf o net (Routing r) (Feasible options value) = (options ≡ o) × (value ≡ lower_of r) × IsValidRouting net r × IsFeasible net (routing_of r) value.num value.den
IsSaidOf o net (Routing r) (Invalid fault) = IsFirstRouteFault net r fault
IsSaidOf o net (Full p) (Valid options closed lower upper) = (options ≡ o) × (closed ≡ p.closed) × (lower ≡ lower_of p.routing) × (upper ≡ upper_of net p.dual) × IsValid net p × IsCertified net p
IsSaidOf o net (Full p) (Invalid fault) = IsFirstFault net p fault
IsSaidOf o net _ _ = ⊥

-- a refusal, as it is said
abbrev pub refused : Refusal → Judged
refused (Net r) = NetRefused r
refused (Cert r) = CertRefused r

-- what is said of what was read on the network
abbrev pub OnPaper : ScaledNet → Paper → Judged → Type 0
OnPaper net paper judged = IsSaidOf net.options net.net paper judged

-- what is said of the text on these rows
abbrev pub IsJudgement : NetRows → List ℕ → Judged → Type 0
IsJudgement rows text judged = IsSaid refused OnPaper (paper_on Both rows text) judged
