-- What a run of `sweep` wrote.
use Rattle.std.specs.Prelude.{◌≡◌, ℕ, List}
use Rattle.mcf_base.specs.Shelf.{Holding}
use Rattle.flow_paths.specs.declared.certificate.Proof.{Proof}
use Rattle.flow_paths.specs.Certificate.{IsValid}
use Rattle.sndlib_grammar.specs.Rows.{NetRows, names_of_links}
use Rattle.unit_scale.specs.Closed.{caps_of, closed}
use Rattle.unit_scale.specs.Scaling.{ScaledNet}
use Rattle.cert_text.specs.declared.papers.Paper.TheVariants.{Full}
use Rattle.whatif.specs.Planned.{AreBounds}
use Rattle.sweep.specs.Sweep.{sweep_evaluation}
use Rattle.sweep.specs.Lines.{sweep_text}
use Rattle.mcf_words.specs.declared.request.Command.TheVariants.{Sweep}
use Rattle.mcf_words.specs.declared.request.Request.{Request}
use Rattle.base_cmd.specs.declared.ended.Ended.{Ended}
use Rattle.sweep_cmd.specs.Sweep.{worth_without}
use Rattle.mcf_cli.specs.Run.{file_at}
use Rattle.cli_laws.specs.Accepted.{IsNetFile, IsPaperFile}
use Rattle.cli_laws.specs.Checked.{IsRunOf}

-- a run of `sweep` that ended with status 0
abbrev pub IsSweptRun : Holding → Request → List ℕ → Ended → Type 0
IsSweptRun files request text ended = IsRunOf Sweep 0 files request text ended

-- What a run of `sweep` read and wrote: the rows of its network, and the valid certificate of their network in whole units of
-- which its second file is the text. It wrote a line for each link, in link order, with the link's id and two fractions. On the
-- network with that link closed the lower one is that of a feasible routing, and the upper one bounds every feasible routing.
pub record Sweeps (files : Holding) (request : Request) (text : List ℕ) : Type 0 where
  pub rows : NetRows
  pub net_file : IsNetFile files (file_at request 0) rows
  pub net : ScaledNet
  pub proof : Proof
  pub cert_file : IsPaperFile files (file_at request 1) rows net (Full proof)
  pub valid : IsValid net.net proof
  pub lines : text ≡ sweep_text (names_of_links rows) (worth_without rows net proof)
  pub bounds : (link : ℕ)
      → AreBounds (closed net.options.links net.net link) proof
      (sweep_evaluation net.options.links net.net proof (caps_of net.net) link)

-- each line of a run of `sweep` that ended with status 0 holds on the network with its link closed
abbrev pub SweptRunsAreBounds : Type 0
SweptRunsAreBounds =
    (files : Holding) (request : Request) (text : List ℕ) (ended : Ended) → IsSweptRun files request text ended → Sweeps files request text
