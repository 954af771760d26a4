-- Which files a run starts.
use Rattle.std.specs.Prelude.{◌≡◌, ◌⊎◌, ℕ, ◌≤◌, List, [], ◌++◌, Contains, Option, Some, None, take}
use Rattle.mcf_base.specs.Faults.{Rose, FailedLast}
use Rattle.mcf_base.specs.Shelf.{ShelfView}
use Rattle.mcf_base.specs.Sink.{SinkView}
use Rattle.mcf_words.specs.declared.request.Request.{Request}
use Rattle.mcf_words.specs.Request.{request_of}
use Rattle.base_cmd.specs.declared.ended.Ended.{Ended}

-- the files that the words name; none where they ask for nothing
abbrev pub files_in : Option Request → List (List ℕ)
files_in None = []
files_in (Some request) = request.names

-- The shelf holds what it held, and no fault of it is forgotten. Of the files that are to be read some were started: from
-- the first on, each once.
pub record Starts (files : List (List ℕ)) (old new : ShelfView) : Type 0 where
  pub holds : new.holds ≡ old.holds
  pub later : old.faults.count ≤ new.faults.count
  pub count : ℕ
  pub names : new.names ≡ old.names ++ take count files

-- the shelf has counted one fault, at one of these files
pub record FailsAtOne (files : List (List ℕ)) (old new : ShelfView) : Type 0 where
  pub name : List ℕ
  pub one : Contains files name
  pub last : new.faults.last ≡ Some name
  pub rose : Rose old.faults.count new.faults.count

-- The run started files of its words alone. One of them failed, and the run ended with 4, or with 5 where the output failed as
-- well; or none did, and it ended with another than 4. The output failed, once and at its last write, and the run ended with 5;
-- or it did not fail, and the run ended with another.
pub record StartsItsFiles (words : List (List ℕ)) (old new : ShelfView) (before after : SinkView) (ended : Ended) : Type 0 where
  pub starts : Starts (files_in (request_of words)) old new
  pub shelf :
      (FailsAtOne (files_in (request_of words)) old new × ((ended.status ≡ 4) ⊎ (ended.status ≡ 5)))
      ⊎ (¬ (ended.status ≡ 4) × (new.faults ≡ old.faults))
  pub output :
      ((ended.status ≡ 5) × FailedLast before.faults after.faults)
      ⊎ (¬ (ended.status ≡ 5) × (after.faults.count ≡ before.faults.count))
