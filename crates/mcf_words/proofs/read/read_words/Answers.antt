use Rattle.std.proofs.Common.{rules, ◌≡◌, ◌∙◌, ◌∷◌, Some, map, string_bytes, subst}
use Rattle.clap.specs.Words.{found_of}
use Rattle.mcf_words.specs.Answers.{Answers}
use Rattle.mcf_words.specs.Request.{command_of}
use Rattle.mcf_words.proofs.Telling.{asked, requested}
use Rattle.mcf_words.proofs.read.read_words.Goals as goal

pub returns-clause-value : goal.returns-clause-value
returns-clause-value c =
    let split : map string_bytes c.args.words.now ≡ string_bytes c.in-Some.first.now ∷ map string_bytes c.in-Some.others.now = search rules in
    let is : command_of (string_bytes c.in-Some.first.now) ≡ Some c.in-Some-command_of.command = search rules in
    let others = map string_bytes c.in-Some.others.now in
    subst (Answers (λ r. r) c.request_from.result)
    (asked c.in-Some-command_of.command others (found_of c.in_ok-matches.matches) c.in_ok-matches.ensures
    ∙ requested (string_bytes c.in-Some.first.now) others (map string_bytes c.args.words.now) c.in-Some-command_of.command split is) c.request_from.ensures.value
