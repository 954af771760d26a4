-- A certificate with hop limits or of a total that a run wrote, as the second file of a run of the command that judges it.
use Rattle.std.specs.Prelude.{◌≡◌, ℕ, List}
use Rattle.mcf_base.specs.Shelf.{Holding}
use Rattle.mcf_base.specs.Sink.{SinkView}
use Rattle.sndlib_grammar.specs.Rows.{NetRows}
use Rattle.unit_scale.specs.Scaling.{ScaledNet}
use Rattle.hop_check.specs.declared.hop_proof.HopProof.{HopProof}
use Rattle.hop_check.specs.Limits.{limits_of}
use Rattle.throughput.specs.declared.part_proof.PartProof.{PartProof}
use Rattle.mcf_words.specs.declared.request.Command.TheVariants.{CheckHops, CheckThroughput, Hops, Throughput}
use Rattle.mcf_words.specs.declared.request.Request.{Request}
use Rattle.base_cmd.specs.declared.ended.Ended.{Ended}
use Rattle.base_cmd.specs.Found.{found_hops, found_part}
use Rattle.hops_cmd.specs.declared.solving.HopSolving.TheVariants as hop_solvings
use Rattle.hops_cmd.specs.Hops as hop_runs
use Rattle.hops_cmd.specs.Laws as hop_laws
use Rattle.throughput_cmd.specs.declared.solving.PartSolving.TheVariants as part_solvings
use Rattle.throughput_cmd.specs.Parts as part_runs
use Rattle.throughput_cmd.specs.Laws as part_laws
use Rattle.mcf_cli.specs.Run.{file_at}
use Rattle.cli_laws.specs.Accepted.{IsNetFile}
use Rattle.cli_laws.specs.Checked.{IsJudgedRun, IsRunOf, IsToldAs}

-- The rows of the first run's network, and the run within their hop limits, under the options of its words, whose certificate it
-- handed out. The second run tells that certificate as valid.
pub record ChecksHopsAs (files : Holding) (request : Request) (first : Ended) (before after : SinkView) (second : Ended) : Type 0 where
  pub rows : NetRows
  pub net_file : IsNetFile files (file_at request 0) rows
  pub net : ScaledNet
  pub proof : HopProof
  pub done : hop_runs.IsHopSolving rows request.net (hop_runs.asked_of request) (hop_solvings.Done net proof)
  pub found : first.found ≡ found_hops proof
  pub told : IsToldAs (hop_laws.valid_of net (limits_of rows net) proof) before after second

-- whatever a run of `hops` wrote, `checkhops` calls valid
abbrev pub HopsRunsCheck : Type 0
HopsRunsCheck =
    (files again : Holding) (hops check : Request) (text : List ℕ) (first second : Ended) (before after : SinkView)
    → IsRunOf Hops 1 files hops text first → IsJudgedRun CheckHops files again hops check text before after second
    → ChecksHopsAs files hops first before after second

-- The rows of the first run's network, and the run for the greatest total, under the options of its words, whose certificate it
-- handed out. The second run tells that certificate as valid.
pub record ChecksPartAs (files : Holding) (request : Request) (first : Ended) (before after : SinkView) (second : Ended) : Type 0 where
  pub rows : NetRows
  pub net_file : IsNetFile files (file_at request 0) rows
  pub net : ScaledNet
  pub proof : PartProof
  pub done : part_runs.IsPartSolving rows request.net (part_runs.asked_of request) (part_solvings.Done net proof)
  pub found : first.found ≡ found_part proof
  pub told : IsToldAs (part_laws.valid_of net proof) before after second

-- whatever a run of `throughput` wrote, `checkthroughput` calls valid
abbrev pub ThroughputRunsCheck : Type 0
ThroughputRunsCheck =
    (files again : Holding) (throughput check : Request) (text : List ℕ) (first second : Ended) (before after : SinkView)
    → IsRunOf Throughput 1 files throughput text first → IsJudgedRun CheckThroughput files again throughput check text before after second
    → ChecksPartAs files throughput first before after second
