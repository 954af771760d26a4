-- What it says of a text and of rows that the text is judged valid.
use Rattle.std.specs.Prelude.{◌≡◌, ℕ, List, Ok}
use Rattle.flow_paths.specs.declared.certificate.Routing.{Routing}
use Rattle.flow_paths.specs.declared.certificate.Proof.{Proof}
use Rattle.flow_model.specs.Routing.{IsFeasible}
use Rattle.flow_paths.specs.Certificate.{lower_of, upper_of, routing_of, IsValidRouting, IsValid, IsCertified}
use Rattle.sndlib_grammar.specs.Rows.{NetRows}
use Rattle.unit_scale.specs.Scaling.{ScaledNet, scaled_of}
use Rattle.cert_lines.specs.Sheet.{sheet_of, sheets_of}
use Rattle.cert_lines.specs.declared.form.Form.{Form}
use Rattle.cert_text.specs.declared.papers.Paper.TheVariants as papers
use Rattle.cert_writer.specs.Text.{FitsProof, FitsRouting}
use Rattle.cert_judge.specs.declared.judged.Judged.{Judged}
use Rattle.cert_judge.specs.declared.judged.Judged.TheVariants.{Feasible, Valid}
use Rattle.cert_inverse.specs.Inverse.{IsPaperText}

-- what is said of a valid certificate of this network
abbrev pub valid_of : ScaledNet → Proof → Judged
valid_of net p = Valid net.options p.closed (lower_of p.routing) (upper_of net.net p.dual)

-- what is said of a valid routing of this network
abbrev pub feasible_of : ScaledNet → Routing → Judged
feasible_of net r = Feasible net.options (lower_of r)

-- the text is that of a valid certificate for the network of the rows, in one of the forms; it can
-- be written in form 2, and this is said of it
pub record IsValidText (rows : NetRows) (text : List ℕ) (judged : Judged) : Type 0 where
  pub net : ScaledNet
  pub proof : Proof
  pub form : Form
  pub scaled : scaled_of rows net.options ≡ Ok net
  pub written : IsPaperText (sheets_of rows net) form text (papers.Full proof)
  pub fits : FitsProof (sheet_of rows net) proof
  pub valid : IsValid net.net proof
  pub certified : IsCertified net.net proof
  pub said : judged ≡ valid_of net proof

-- the text is that of a routing that is feasible for the network of the rows, in one of the forms;
-- it can be written in form 2, and this is said of it
pub record IsFeasibleText (rows : NetRows) (text : List ℕ) (judged : Judged) : Type 0 where
  pub net : ScaledNet
  pub routing : Routing
  pub form : Form
  pub scaled : scaled_of rows net.options ≡ Ok net
  pub written : IsPaperText (sheets_of rows net) form text (papers.Routing routing)
  pub fits : FitsRouting (sheet_of rows net) routing
  pub valid : IsValidRouting net.net routing
  pub feasible : IsFeasible net.net (routing_of routing) (lower_of routing).num (lower_of routing).den
  pub said : judged ≡ feasible_of net routing
