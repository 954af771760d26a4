-- A request names as many files as its command reads.
use Rattle.std.proofs.Common.{◌≡◌, ℕ, Bool, true, false, cond, List, [], ◌∷◌, length, Option, Some, None, refl, subst}
use Rattle.std.specs.Prelude.{◌==◌}
use Rattle.std.proofs.lemmas.Bool.{eqb-true}
use Rattle.mcf_words.specs.declared.request.Command.{Command}
use Rattle.mcf_words.specs.declared.request.Request.{Request}
use Rattle.mcf_words.specs.Items.{Items, items_of}
use Rattle.mcf_words.proofs.FileCounts.{counted, none_counted}
use Rattle.mcf_words.specs.Request.{◌>>=◌, Choices, IsFileCount, are_known, choices_of, command_of, least_files, files_of, numbers_of, reads_files, request_from, request_of}

some_is : {A : Type 0} (x y : A) → Some x ≡ Some y → x ≡ y
some_is x y e = cc

bind_some : {A B : Type 0} (o : Option A) (f : A → Option B) (y : B) → (o >>= f) ≡ Some y → (x : A) × (o ≡ Some x) × (f x ≡ Some y)
bind_some None f y e = absurd cc
bind_some (Some x) f y e = (x, refl, e)

count_is : (command : Command) (words names : List (List ℕ)) → files_of command words ≡ Some names → IsFileCount command (length names)
count_is command words names e = none (least_files command == 0) refl e
  where
    all : (b : Bool) → reads_files command (length words) ≡ b → cond b (Some words) None ≡ Some names → IsFileCount command (length names)
    all true is e = subst (λ (ns : List (List ℕ)). IsFileCount command (length ns)) (some_is words names e) (counted command (length words) is)
    all false is e = absurd cc

    none : (b : Bool) → (least_files command == 0) ≡ b → cond b (Some []) (cond (reads_files command (length words)) (Some words) None) ≡ Some names
        → IsFileCount command (length names)
    none true is e = subst (λ (ns : List (List ℕ)). IsFileCount command (length ns)) (some_is [] names e) (none_counted command (eqb-true (least_files command) 0 is))
    none false is e = all (reads_files command (length words)) refl e

module _ (command : Command) (items : Items) where
  abbrev with_names : Choices → List ℕ → List (List ℕ) → Request
  with_names choices numbers names = record { command = command; names = names; numbers = numbers; net = choices.net; gap = choices.gap; phases = choices.phases; workers = choices.workers; step = choices.step }

  abbrev named : Choices → List ℕ → Option Request
  named choices numbers = files_of command items.positional >>= λ names. Some (with_names choices numbers names)

  abbrev numbered : Choices → Option Request
  numbered choices = numbers_of command items.positional >>= named choices

  from_count : (request : Request) → request_from command items ≡ Some request → IsFileCount request.command (length request.names)
  unfolding request_from
  from_count request e = by (are_known command items.settings) e
    where
      by : (b : Bool) → cond b (choices_of items.settings >>= numbered) None ≡ Some request → IsFileCount request.command (length request.names)
      by false e = absurd cc
      by true e =
          let c = bind_some (choices_of items.settings) numbered request e in
          let n = bind_some (numbers_of command items.positional) (named c.0) request c.2 in
          let f = bind_some (files_of command items.positional) (λ names. Some (with_names c.0 n.0 names)) request n.2 in
          subst (λ (r : Request). IsFileCount r.command (length r.names)) (some_is (with_names c.0 n.0 f.0) request f.2) (count_is command items.positional f.0 f.1)

pub names_count : (words : List (List ℕ)) (request : Request) → request_of words ≡ Some request → IsFileCount request.command (length request.names)
names_count [] request e = absurd cc
names_count (word ∷ words) request e =
    let c = bind_some (command_of word) (λ command. items_of words >>= request_from command) request e in
    let i = bind_some (items_of words) (request_from c.0) request c.2 in
    from_count c.0 i.0 request i.2
