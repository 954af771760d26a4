-- What is kept of a node and of a link: no lines of the words of places and modules.
use Rattle.std.specs.Prelude.{ℕ, List, Option}
use Rattle.sndlib_grammar.specs.Grammar.{Word}

pub record StoredNode : Type 0 where
  pub id : Word
  pub place : Option (List (List ℕ))

-- a link, and the line of the first capacity of a module that is no number
pub record StoredLink : Type 0 where
  pub id : Word
  pub source : Word
  pub target : Word
  pub installed : Word
  pub installed_cost : Word
  pub routing_cost : Word
  pub setup_cost : Word
  pub modules : List (List ℕ)
  pub bad : Option ℕ
