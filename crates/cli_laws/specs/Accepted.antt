-- When the words of a run are in the grammar, and each file that it reads is accepted.
use Rattle.std.specs.Prelude.{◌≡◌, ℕ, List, length, Option, Some, None, Ok, codes}
use Rattle.mcf_limits.specs.declared.TheConstants.{MAX_NET_BYTES, MAX_CERT_BYTES, MAX_LIST_BYTES, MAX_SCRIPT_BYTES}
use Rattle.mcf_base.specs.Shelf.{Holding}
use Rattle.text_lines.specs.Lines.{lines_of}
use Rattle.flow_paths.specs.declared.certificate.Proof.{Proof}
use Rattle.flow_paths.specs.Certificate.{IsValid}
use Rattle.sndlib_grammar.specs.Rows.{NetRows}
use Rattle.sndlib_grammar.specs.Net.{rows_of}
use Rattle.unit_scale.specs.Scaling.{ScaledNet, scaled_of}
use Rattle.unit_scale.specs.declared.options.NetOptions.{NetOptions}
use Rattle.cert_lines.specs.Sheet.{sheets_of}
use Rattle.cert_text.specs.declared.opening.CertHead.{CertHead}
use Rattle.cert_text.specs.declared.papers.Paper.{Paper}
use Rattle.cert_text.specs.declared.papers.Paper.TheVariants.{Full}
use Rattle.cert_text.specs.Whole.{head_in, paper_in}
use Rattle.cert_judge.specs.Papers.{nothing_more, options_of}
use Rattle.cert_judge.specs.Chain.{AreStages}
use Rattle.hop_check.specs.declared.hop_proof.HopProof.{HopProof}
use Rattle.throughput.specs.declared.part_proof.PartProof.{PartProof}
use Rattle.kind_texts.specs.Heads.{run_head}
use Rattle.hop_check.specs.Limits.{hop_refusal}
use Rattle.hops_cmd.specs.Check as hops
use Rattle.hops_cmd.specs.Hops as hop_runs
use Rattle.throughput_cmd.specs.Check as parts
use Rattle.throughput_cmd.specs.Parts as part_runs
use Rattle.net_solve.specs.Asked.{IsTooMuch}
use Rattle.sweep_cmd.specs.Asked.{IsSweepTooMuch}
use Rattle.matrix_batch.specs.Matrices.{Matrix}
use Rattle.matrix_batch.specs.Batch.{IsBatch, IsBatchTooMuch}
use Rattle.script.specs.declared.step.Step.{Step}
use Rattle.script.specs.Reading.{script_of}
use Rattle.mcf_words.specs.declared.request.Command.{Command}
use Rattle.mcf_words.specs.declared.request.Command.TheVariants.{Solve, Check, WhatIf, Upgrade, Tighten, Batch, Sweep, SweepSolve, CheckHops, CheckThroughput, Hops, Throughput, Print, Gen, Trial}
use Rattle.mcf_words.specs.declared.request.Request.{Request}
use Rattle.mcf_words.specs.Request.{request_of}
use Rattle.mcf_base.specs.Reading.{IsText}
use Rattle.mcf_cli.specs.Run.{file_at, file_if}
use Rattle.solve_cmd.specs.Solve.{asked_of}
use Rattle.solve_cmd.specs.Drawn.{net_drawn}

-- the file of that name is a network text within its limit, and these are its rows
pub record IsNetFile (files : Holding) (name : List ℕ) (rows : NetRows) : Type 0 where
  pub text : List ℕ
  pub given : IsText MAX_NET_BYTES (Some files) name text
  pub read : rows_of text ≡ Ok rows

-- the rows are a network in whole units under the options, and the work that is asked is within its limit
pub record IsSolvable (rows : NetRows) (request : Request) : Type 0 where
  pub net : ScaledNet
  pub scaled : scaled_of rows request.net ≡ Ok net
  pub work : (n : ℕ) → ¬ (IsTooMuch net.net (asked_of request) n)

-- the rows are a network in whole units under the options, and the work of solving it without each link is within its limit
pub record IsSweepSolvable (rows : NetRows) (request : Request) : Type 0 where
  pub net : ScaledNet
  pub scaled : scaled_of rows request.net ≡ Ok net
  pub work : (n : ℕ) → ¬ (IsSweepTooMuch (length rows.links) (length net.net.commodities) request.phases n)

-- The file of that name is the text of this certificate or routing within its limit, in either form: its head is read, the
-- rows are this network in whole units under the head's options, and the rest is read with the network's names.
pub record IsPaperFile (files : Holding) (name : List ℕ) (rows : NetRows) (net : ScaledNet) (paper : Paper) : Type 0 where
  pub text : List ℕ
  pub given : IsText MAX_CERT_BYTES (Some files) name text
  pub head : CertHead
  pub head_read : head_in (lines_of text) ≡ Ok head
  pub scaled : scaled_of rows (options_of head) ≡ Ok net
  pub rest_read : paper_in (sheets_of rows net) (lines_of text) ≡ Ok paper

-- the file of that name is a script within its limit, all of whose steps the network has and allows
pub record IsScriptFile (files : Holding) (name : List ℕ) (rows : NetRows) (net : ScaledNet) : Type 0 where
  pub text : List ℕ
  pub given : IsText MAX_SCRIPT_BYTES (Some files) name text
  pub steps : List Step
  pub read : script_of rows net text ≡ Ok steps

-- a network
abbrev pub AcceptsPrint : Holding → Request → Type 0
AcceptsPrint files request = (rows : NetRows) × IsNetFile files (file_at request 0) rows

-- a network that can be solved as asked
abbrev pub AcceptsSolve : Holding → Request → Type 0
AcceptsSolve files request = (rows : NetRows) × IsNetFile files (file_at request 0) rows × IsSolvable rows request

-- a network that can be solved as asked without each link
abbrev pub AcceptsSweepSolve : Holding → Request → Type 0
AcceptsSweepSolve files request =
    (rows : NetRows) × IsNetFile files (file_at request 0) rows × IsSweepSolvable rows request

-- a network, and a certificate or routing for it
abbrev pub AcceptsCheck : Holding → Request → Type 0
AcceptsCheck files request =
    (rows : NetRows) × IsNetFile files (file_at request 0) rows
    × (net : ScaledNet) × (paper : Paper) × IsPaperFile files (file_at request 1) rows net paper

-- a network, and a certificate for it
abbrev pub AcceptsUpgrade : Holding → Request → Type 0
AcceptsUpgrade files request =
    (rows : NetRows) × IsNetFile files (file_at request 0) rows
    × (net : ScaledNet) × (proof : Proof) × IsPaperFile files (file_at request 1) rows net (Full proof)

-- a network, a certificate for it, and, where that is valid, so that the script is read, a script
abbrev pub AcceptsWhatIf : Holding → Request → Type 0
AcceptsWhatIf files request =
    (rows : NetRows) × IsNetFile files (file_at request 0) rows
    × (net : ScaledNet) × (proof : Proof) × IsPaperFile files (file_at request 1) rows net (Full proof)
    × (IsValid net.net proof → IsScriptFile files (file_at request 2) rows net)

-- there is no second file, or it is a certificate for that network in units, and so under the same options
abbrev pub IsSecondFile : Holding → Option (List ℕ) → NetRows → ScaledNet → Type 0
IsSecondFile files None rows net = Unit {0}
IsSecondFile files (Some name) rows net = (proof : Proof) × IsPaperFile files name rows net (Full proof)

-- a network, a certificate for it, and, where that is valid, so that a second one is read, a second one for the same
abbrev pub AcceptsTighten : Holding → Request → Type 0
AcceptsTighten files request =
    (rows : NetRows) × IsNetFile files (file_at request 0) rows
    × (net : ScaledNet) × (proof : Proof) × IsPaperFile files (file_at request 1) rows net (Full proof)
    × (IsValid net.net proof → IsSecondFile files (file_if request 2) rows net)

-- The file of that name is a list within its limit, whose matrices are these networks in whole units on the rows under the
-- options, and the work that is asked is within its limit.
pub record IsListFile (files : Holding) (name : List ℕ) (rows : NetRows) (request : Request) : Type 0 where
  pub text : List ℕ
  pub given : IsText MAX_LIST_BYTES (Some files) name text
  pub batch : List Matrix
  pub read : IsBatch rows request.net text (Ok batch)
  pub work : (n : ℕ) → ¬ (IsBatchTooMuch batch request.phases n)

-- a network, and a list of demand matrices for it that can be solved as asked
abbrev pub AcceptsBatch : Holding → Request → Type 0
AcceptsBatch files request =
    (rows : NetRows) × IsNetFile files (file_at request 0) rows × IsListFile files (file_at request 1) rows request

-- The rows are a network in whole units under the options, no limit of hops is too far, and the work that is asked is within its
-- limit.
pub record IsHopSolvable (rows : NetRows) (request : Request) : Type 0 where
  pub net : ScaledNet
  pub scaled : scaled_of rows request.net ≡ Ok net
  pub near : hop_refusal rows ≡ None
  pub work : (n : ℕ) → ¬ (IsTooMuch net.net (hop_runs.asked_of request) n)

-- a network that can be solved within its hop limits as asked
abbrev pub AcceptsHops : Holding → Request → Type 0
AcceptsHops files request = (rows : NetRows) × IsNetFile files (file_at request 0) rows × IsHopSolvable rows request

-- the rows are a network in whole units under the options, and the work that is asked is within its limit
pub record IsPartSolvable (rows : NetRows) (request : Request) : Type 0 where
  pub net : ScaledNet
  pub scaled : scaled_of rows request.net ≡ Ok net
  pub work : (n : ℕ) → ¬ (IsTooMuch net.net (part_runs.asked_of request) n)

-- a network whose greatest total can be sought as asked
abbrev pub AcceptsThroughput : Holding → Request → Type 0
AcceptsThroughput files request = (rows : NetRows) × IsNetFile files (file_at request 0) rows × IsPartSolvable rows request

-- The file of that name is the text of this certificate with hop limits within its limit: its first lines are read, the rows are
-- this network in whole units under the options that they say, no limit is too far, and the rest is read with the network's names.
pub record IsHopsFile (files : Holding) (name : List ℕ) (rows : NetRows) (net : ScaledNet) (h : HopProof) : Type 0 where
  pub text : List ℕ
  pub given : IsText MAX_CERT_BYTES (Some files) name text
  pub read : AreStages rows (λ (o : NetOptions). o) (hops.too_far rows) (hops.rest_of rows (lines_of text))
      (run_head (codes "mcf-hops 1") (lines_of text)) net h

-- a network, and a certificate with hop limits for it
abbrev pub AcceptsCheckHops : Holding → Request → Type 0
AcceptsCheckHops files request =
    (rows : NetRows) × IsNetFile files (file_at request 0) rows
    × (net : ScaledNet) × (h : HopProof) × IsHopsFile files (file_at request 1) rows net h

-- The file of that name is the text of this certificate of a total within its limit: its first lines are read, the rows are this
-- network in whole units under the options that they say, and the rest is read with the network's names.
pub record IsPartFile (files : Holding) (name : List ℕ) (rows : NetRows) (net : ScaledNet) (p : PartProof) : Type 0 where
  pub text : List ℕ
  pub given : IsText MAX_CERT_BYTES (Some files) name text
  pub read : AreStages rows (λ (o : NetOptions). o) nothing_more (parts.rest_of rows (lines_of text))
      (run_head (codes "mcf-throughput 1") (lines_of text)) net p

-- a network, and a certificate of a total for it
abbrev pub AcceptsCheckThroughput : Holding → Request → Type 0
AcceptsCheckThroughput files request =
    (rows : NetRows) × IsNetFile files (file_at request 0) rows
    × (net : ScaledNet) × (p : PartProof) × IsPartFile files (file_at request 1) rows net p

-- no file is read; the work that is asked on the network that is drawn is within its limit
abbrev pub AcceptsTrial : Request → Type 0
AcceptsTrial request = (n : ℕ) → ¬ (IsTooMuch (net_drawn request).net (asked_of request) n)

-- each file that the command reads is accepted, and the work is within its limit
abbrev pub Accepts : Command → Holding → Request → Type 0
Accepts Solve files request = AcceptsSolve files request
Accepts Check files request = AcceptsCheck files request
Accepts WhatIf files request = AcceptsWhatIf files request
Accepts Upgrade files request = AcceptsUpgrade files request
Accepts Tighten files request = AcceptsTighten files request
Accepts Batch files request = AcceptsBatch files request
Accepts Sweep files request = AcceptsUpgrade files request
Accepts SweepSolve files request = AcceptsSweepSolve files request
Accepts Hops files request = AcceptsHops files request
Accepts Throughput files request = AcceptsThroughput files request
Accepts CheckHops files request = AcceptsCheckHops files request
Accepts CheckThroughput files request = AcceptsCheckThroughput files request
Accepts Print files request = AcceptsPrint files request
Accepts Gen files request = Unit {0}
Accepts Trial files request = AcceptsTrial request

-- the words are in the grammar, each file that the command reads is accepted, and the work is within its limit
pub record IsAccepted (files : Holding) (words : List (List ℕ)) : Type 0 where
  pub request : Request
  pub asked : request_of words ≡ Some request
  pub accepts : Accepts request.command files request
