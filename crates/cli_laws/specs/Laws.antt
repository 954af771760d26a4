-- What is said of all runs.
use Rattle.std.specs.Prelude.{◌≡◌, ◌≤◌, ℕ, List, Some}
use Rattle.mcf_base.specs.Shelf.{Holding, ShelfView}
use Rattle.mcf_base.specs.Sink.{SinkView}
use Rattle.base_cmd.specs.declared.ended.Ended.{Ended}
use Rattle.mcf_cli.specs.Run.{RunEnds}
use Rattle.cli_laws.specs.Accepted.{IsAccepted}
use Rattle.cli_laws.specs.Started.{StartsItsFiles}
use Rattle.cli_laws.specs.Whole.{HasNoFault, EndsWhole}

-- over files that the shelf tells, an accepted run without faults ends whole
abbrev pub AcceptedRunsAreWhole : Type 0
AcceptedRunsAreWhole =
    (files : Holding) (words : List (List ℕ)) (old new : ShelfView) (before after : SinkView) (ended : Ended) → old.holds ≡ Some files
    → RunEnds words old new before after ended → IsAccepted files words → HasNoFault old new before after → EndsWhole words old new before after ended

-- and a run that ends with status 0 or 1 is accepted
abbrev pub OnlyAcceptedRunsAre : Type 0
OnlyAcceptedRunsAre =
    (files : Holding) (words : List (List ℕ)) (old new : ShelfView) (before after : SinkView) (ended : Ended) → old.holds ≡ Some files
    → RunEnds words old new before after ended → ended.status ≤ 1 → IsAccepted files words

-- every run starts the files of its words alone
abbrev pub RunsStartTheirFiles : Type 0
RunsStartTheirFiles =
    (words : List (List ℕ)) (old new : ShelfView) (before after : SinkView) (ended : Ended) → RunEnds words old new before after ended
    → StartsItsFiles words old new before after ended
