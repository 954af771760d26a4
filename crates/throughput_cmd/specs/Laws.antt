-- What `checkthroughput` says of what `throughput` writes.
use Rattle.std.specs.Prelude.{◌≡◌, ◌↔◌, ◌≤◌}
use Rattle.flow_model.specs.Network.{IsNetwork}
use Rattle.sndlib_grammar.specs.Rows.{NetRows, AreNetRows}
use Rattle.unit_scale.specs.declared.options.NetOptions.{NetOptions}
use Rattle.unit_scale.specs.Scaling.{ScaledNet}
use Rattle.cert_lines.specs.Sheet.{sheet_of}
use Rattle.cert_lines.specs.declared.net_line.TheConstants.{MAX_COUNT}
use Rattle.cert_judge.specs.declared.judged.Judged.{Judged}
use Rattle.cert_judge.specs.declared.judged.Judged.TheVariants.{Valid}
use Rattle.net_solve.specs.declared.asked.Asked.{Asked}
use Rattle.throughput.specs.declared.part_proof.PartProof.{PartProof}
use Rattle.throughput.specs.Partial.{part_lower_of, part_upper_of}
use Rattle.kind_texts.specs.PartText.{part_text}
use Rattle.throughput_cmd.specs.declared.solving.PartSolving.TheVariants.{Done}
use Rattle.throughput_cmd.specs.Check.{IsPartJudgement}
use Rattle.throughput_cmd.specs.Parts.{IsPartSolving}

-- that it is valid, under the options of the network, with its verdict and both fractions
abbrev pub valid_of : ScaledNet → PartProof → Judged
valid_of net p = Valid net.options p.closed (part_lower_of p.routing) (part_upper_of net.net p.bound)

-- of the text of what is solved of rows it is said on the same rows that it is valid, and nothing else
abbrev pub SolvedPartsCheck : Type 0
SolvedPartsCheck = (rows : NetRows) (o : NetOptions) (asked : Asked) (net : ScaledNet) (p : PartProof) (judged : Judged)
    → AreNetRows rows → rows.skipped ≤ MAX_COUNT
    → IsNetwork net.net → IsPartSolving rows o asked (Done net p)
    → IsPartJudgement rows (part_text (sheet_of rows net) p) judged ↔ (judged ≡ valid_of net p)
