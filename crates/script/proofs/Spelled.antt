-- Commands, read one after the other.
use Rattle.std.proofs.Common.{◌≡◌, ℕ, ◌≤◌, List, [], ◌∷◌, ◌++◌, length, refl, ap, sym, ◌∙◌, arith, Ok, Err, Result, Bool, false, inl, inr, append_assoc, append-nil, get_or, set}
use Rattle.std.specs.Prelude.{nat_lt, if◌then◌else◌}
use Rattle.std.proofs.lemmas.Bool.Decides.{nat_tests}
use Rattle.mcf_limits.specs.declared.TheConstants.{MAX_WORD_BYTES}
use Rattle.sndlib_grammar.specs.Tokens.{Lexeme}
use Rattle.sndlib_grammar.specs.declared.token.TokenKind.{TokenKind}
use Rattle.script.specs.declared.refusal.ScriptKind.TheVariants.{Syntax}
use Rattle.script.specs.declared.refusal.ScriptRefusal.{ScriptRefusal}
use Rattle.script.specs.declared.step.Step.{Step}
use Rattle.script.specs.declared.step.Step.TheVariants.{Edit, Show}
use Rattle.script.specs.declared.word.Change.{Change}
use Rattle.script.specs.declared.word.Change.TheVariants.{Set, Add, Sub}
use Rattle.script.specs.declared.word.Expected.{Expected}
use Rattle.script.specs.declared.word.Expected.TheVariants.{Command, Link, Closing, Number}
use Rattle.script.specs.declared.word.Meaning.{Meaning}
use Rattle.script.specs.declared.word.Meaning.TheVariants.{Expects, Edits, Shows}
use Rattle.script.specs.Reading.{Terms, Sofar, scan, after, by_kind, meaning, command, linked, number, edits, go_on}
use Rattle.script.specs.Commands.{IsWord, IsShow, IsClose, IsChange, AreCommands, change_word}

not_long : (a b : ℕ) → b ≤ a → nat_lt a b ≡ false
not_long a b h = grind (arith, nat_tests)

abbrev pub state : Expected → List ℕ → List Step → Sofar
state e caps steps = record { expected = e; caps = caps; steps = steps }

-- a word with this meaning
word_means : (terms : Terms) (end : ℕ) (e : Expected) (caps : List ℕ) (acc : List Step) (t : Lexeme) (ts : List Lexeme) (m : Meaning) → IsWord t → meaning terms caps e t.text ≡ Ok m
    → scan terms end (state e caps acc) (t ∷ ts) ≡ scan terms end (after (state e caps acc) m) ts
word_means terms end e caps acc t ts m w is =
    let next : Meaning → Result (List Step) ScriptRefusal = λ x. scan terms end (after (state e caps acc) x) ts in
    ap (λ (b : Bool). go_on t.line next (if b then Err Syntax else by_kind terms (state e caps acc) t.text t.kind)) (not_long MAX_WORD_BYTES (length t.text) w.short)
    ∙ (ap (λ (k : TokenKind). go_on t.line next (by_kind terms (state e caps acc) t.text k)) w.kind ∙ ap (go_on t.line next) is)

change_command : (change : Change) → command (change_word change) ≡ Ok (Expects (Link change))
change_command Set = refl
change_command Add = refl
change_command Sub = refl

show_read : (terms : Terms) (end : ℕ) (caps : List ℕ) (acc : List Step) (tokens rest : List Lexeme) → IsShow tokens rest → scan terms end (state Command caps acc) tokens ≡ scan terms end (state Command caps (acc ++ Show ∷ [])) rest
show_read terms end caps acc tokens rest h =
    ap (scan terms end (state Command caps acc)) h.spelled ∙ word_means terms end Command caps acc h.verb rest Shows h.word (ap command h.shows)

close_read : (terms : Terms) (end : ℕ) (caps : List ℕ) (acc : List Step) (tokens rest : List Lexeme) (link : ℕ) → IsClose terms tokens rest link
    → scan terms end (state Command caps acc) tokens ≡ scan terms end (state Command (set caps link 0) (acc ++ Edit link 0 ∷ [])) rest
close_read terms end caps acc tokens rest link h =
    ap (scan terms end (state Command caps acc)) h.spelled
    ∙ (word_means terms end Command caps acc h.verb (h.id ∷ rest) (Expects Closing) h.word (ap command h.closes)
    ∙ word_means terms end Closing caps acc h.id rest (Edits link 0) h.id_word (ap (linked (λ c. Edits c 0)) h.names))

change_read : (terms : Terms) (end : ℕ) (caps : List ℕ) (acc : List Step) (change : Change) (tokens rest : List Lexeme) (link cap : ℕ) → IsChange terms caps change tokens rest link cap
    → scan terms end (state Command caps acc) tokens ≡ scan terms end (state Command (set caps link cap) (acc ++ Edit link cap ∷ [])) rest
change_read terms end caps acc change tokens rest link cap h =
    ap (scan terms end (state Command caps acc)) h.spelled
    ∙ (word_means terms end Command caps acc h.verb (h.id ∷ h.number ∷ rest) (Expects (Link change)) h.word (ap command h.changes ∙ change_command change)
    ∙ (word_means terms end (Link change) caps acc h.id (h.number ∷ rest) (Expects (Number change link)) h.id_word (ap (linked (λ c. Expects (Number change c))) h.names)
    ∙ word_means terms end (Number change link) caps acc h.number rest (Edits link cap) h.number_word (ap (number change link (get_or caps link 0)) h.reads ∙ ap (edits link) h.gives)))

-- the steps behind those so far
behind : (acc steps : List Step) (x : Step) (r : Result (List Step) ScriptRefusal) → r ≡ Ok ((acc ++ x ∷ []) ++ steps) → r ≡ Ok (acc ++ x ∷ steps)
behind acc steps x r e = e ∙ ap (λ (l : List Step). Ok l) (append_assoc acc (x ∷ []) steps)

all_read : (terms : Terms) (end : ℕ) (steps : List Step) (caps : List ℕ) (acc : List Step) (tokens : List Lexeme) → AreCommands terms caps tokens steps → scan terms end (state Command caps acc) tokens ≡ Ok (acc ++ steps)
all_read terms end [] caps acc tokens h = ap (scan terms end (state Command caps acc)) h ∙ ap (λ (l : List Step). Ok l) (sym (append-nil acc))
all_read terms end (Show ∷ steps) caps acc tokens (rest, here, more) =
    behind acc steps Show (scan terms end (state Command caps acc) tokens) (show_read terms end caps acc tokens rest here ∙ all_read terms end steps caps (acc ++ Show ∷ []) rest more)
all_read terms end (Edit link cap ∷ steps) caps acc tokens (rest, inl here, more) =
    let zeroed : scan terms end (state Command (set caps link 0) (acc ++ Edit link 0 ∷ [])) rest ≡ scan terms end (state Command (set caps link cap) (acc ++ Edit link cap ∷ [])) rest = ap (λ n. scan terms end (state Command (set caps link n) (acc ++ Edit link n ∷ [])) rest) (sym here.1) in
    behind acc steps (Edit link cap) (scan terms end (state Command caps acc) tokens) (close_read terms end caps acc tokens rest link here.0 ∙ (zeroed ∙ all_read terms end steps (set caps link cap) (acc ++ Edit link cap ∷ []) rest more))
all_read terms end (Edit link cap ∷ steps) caps acc tokens (rest, inr (change, here), more) =
    behind acc steps (Edit link cap) (scan terms end (state Command caps acc) tokens) (change_read terms end caps acc change tokens rest link cap here ∙ all_read terms end steps (set caps link cap) (acc ++ Edit link cap ∷ []) rest more)

pub commands_read : (terms : Terms) (end : ℕ) (caps : List ℕ) (tokens : List Lexeme) (steps : List Step) → AreCommands terms caps tokens steps → scan terms end (state Command caps []) tokens ≡ Ok steps
commands_read terms end caps tokens steps h = all_read terms end steps caps [] tokens h
