-- What contracts see of the loads and of a pass.
use Rattle.std.specs.Prelude.{◌≡◌, ℕ, ◌+◌, ◌==◌, Bool, List, length, if◌then◌else◌}
use Rattle.atomic_table.specs.Seated.{TableId}
use Rattle.flow_model.specs.Groups.{group_count}
use Rattle.flow_core.specs.Core.{Terms, State, Event, IsStart, cell_count}
use Rattle.load_table.specs.declared.view.View.{View}
use Rattle.load_table.specs.declared.view.Known.{Known}
use Rattle.load_table.specs.Places.{is_wide, place}
use Rattle.load_table.specs.Rule.{IsStep, words_of}

-- the table, and what the phase starts from
pub record LoadsView : Type 0 where
  pub table : TableId
  pub terms : Terms

-- the table, what the pass knows, and the words as they were right after its last step
pub record PassView : Type 0 where
  pub table : TableId
  pub view : View
  pub seen : State

-- how many cells have a word in the table: of one worker alone, which has the words in its pass, none
abbrev pub shared_cells : Terms → ℕ
shared_cells t = if t.workers == 1 then 0 else cell_count t

-- how the shared words are kept: a word of claims and one for each shared cell, with room up to where one more would lie, and
-- beside them the numbers of groups and of cells, whether there is one worker, and whether words lie apart
pub record IsLoads (table : TableId) (t : Terms) (groups cells : ℕ) (alone wide : Bool) : Type 0 where
  pub words : table.words ≡ place (is_wide t) (shared_cells t + 1)
  pub slots : table.slots ≡ 0
  pub is_start : IsStart t
  pub groups_are : groups ≡ group_count t.net
  pub cells_are : cells ≡ cell_count t
  pub alone_is : alone ≡ (t.workers == 1)
  pub wide_is : wide ≡ is_wide t

-- the words of a pass are those that it has seen, one of claims and one a cell, and no split is left: no other pass needs them
pub record AreWordsOf (v : Known) (own : List ℕ) : Type 0 where
  pub words : own ≡ words_of v.seen
  pub count : length own ≡ cell_count v.view.terms + 1
  pub none_left : v.view.left ≡ 0

-- one worker alone has the words in its pass
abbrev pub IsOwn : Known → List ℕ → Type 0
IsOwn v own = v.view.terms.workers ≡ 1 → AreWordsOf v own

-- the pass is of these loads
abbrev pub IsPassOf : LoadsView → PassView → Type 0
IsPassOf l p = (p.table ≡ l.table) × (p.view.terms ≡ l.terms)

-- the pass has taken this one step
abbrev pub HasStepped : LoadsView → PassView → PassView → (ℕ → Event) → ℕ → ℕ → Type 0
HasStepped l old new event word found = IsStep l.terms old.view.hands old.seen new.seen event word found
