-- What a run hands out beside its text.
use Rattle.std.specs.Prelude.{None, Some}
use Rattle.solver_run.specs.History.{SolvedView}
use Rattle.hop_check.specs.declared.hop_proof.HopProof.{HopProof}
use Rattle.throughput.specs.declared.part_proof.PartProof.{PartProof}
use Rattle.base_cmd.specs.declared.ended.Found.{Found}

abbrev pub nothing : Found
nothing = record { solved = None; hops = None; part = None }

-- a solve
abbrev pub found_solve : SolvedView → Found
found_solve solved = record { solved = Some solved; hops = None; part = None }

-- a certificate with hop limits
abbrev pub found_hops : HopProof → Found
found_hops proof = record { solved = None; hops = Some proof; part = None }

-- a certificate of a total
abbrev pub found_part : PartProof → Found
found_part proof = record { solved = None; hops = None; part = Some proof }
