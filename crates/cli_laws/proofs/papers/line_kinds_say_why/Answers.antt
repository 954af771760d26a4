use Rattle.cli_laws.proofs.LineKinds.{gap_fault, phases_fault, scale_fault, value_fault, path_fault, length_fault, potential_fault}
use Rattle.cli_laws.proofs.papers.line_kinds_say_why.Goals as goal

pub returns : goal.returns
returns c = record {
  gap = gap_fault;
  phases = phases_fault;
  scale = scale_fault;
  values = value_fault;
  paths = path_fault;
  lengths = length_fault;
  potentials = potential_fault;
}
