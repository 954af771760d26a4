-- What the text of a script stands for, or its first refusal.
use Rattle.std.specs.Prelude.{ℕ, ◌+◌, ◌-◌, ◌==◌, List, [], ◌∷◌, ◌++◌, length, map, codes, count_by, Option, Some, None, Result, Ok, Err, nat_le, nat_lt, if◌then◌else◌, slice_index, slice_set, position}
use Rattle.std.specs.Str.{bytes_eq}
use Rattle.std.specs.List.{range_with_len}
use Rattle.mcf_limits.specs.declared.TheConstants.{MAX_UNITS, MAX_WORD_BYTES}
use Rattle.unit_scale.specs.declared.modes.LinkMode.{LinkMode}
use Rattle.sndlib_grammar.specs.Tokens.{Lexeme, lexemes}
use Rattle.sndlib_grammar.specs.declared.token.TokenKind.{TokenKind}
use Rattle.sndlib_grammar.specs.declared.token.TokenKind.TheVariants.{LeftParen, RightParen, Word}
use Rattle.sndlib_grammar.specs.Number.{number_of}
use Rattle.sndlib_grammar.specs.Rows.{NetRows, names_of_links}
use Rattle.unit_scale.specs.declared.decimal.UnitFault.{UnitFault}
use Rattle.unit_scale.specs.declared.decimal.UnitFault.TheVariants as faults
use Rattle.unit_scale.specs.Units.{units_read}
use Rattle.unit_scale.specs.Scaling.{ScaledNet}
use Rattle.unit_scale.specs.Names.{cells_of}
use Rattle.unit_scale.specs.Closed.{caps_of}
use Rattle.script.specs.declared.refusal.ScriptKind.{ScriptKind}
use Rattle.script.specs.declared.refusal.ScriptKind.TheVariants.{Syntax, UnknownLink, BadNumber, TooFine, TooLarge, BelowZero}
use Rattle.script.specs.declared.refusal.ScriptRefusal.{ScriptRefusal}
use Rattle.script.specs.declared.step.Step.{Step}
use Rattle.script.specs.declared.step.Step.TheVariants.{Edit, Show}
use Rattle.script.specs.declared.word.Change.{Change}
use Rattle.script.specs.declared.word.Change.TheVariants.{Set, Add, Sub}
use Rattle.script.specs.declared.word.Expected.{Expected}
use Rattle.script.specs.declared.word.Expected.TheVariants.{Command, Link, Closing, Number}
use Rattle.script.specs.declared.word.Meaning.{Meaning}
use Rattle.script.specs.declared.word.Meaning.TheVariants.{Expects, Edits, Shows}

-- what words of a script refer to: the ids of links, and the decimals of a unit
pub record Terms : Type 0 where
  pub links : List (List ℕ)
  pub decimals : ℕ

-- ---- one word

-- where a command stands
abbrev pub command : List ℕ → Result Meaning ScriptKind
command w =
    if bytes_eq w (codes "set") then Ok (Expects (Link Set))
    else (if bytes_eq w (codes "add") then Ok (Expects (Link Add))
    else (if bytes_eq w (codes "sub") then Ok (Expects (Link Sub))
    else (if bytes_eq w (codes "close") then Ok (Expects Closing)
    else (if bytes_eq w (codes "show") then Ok Shows
    else Err Syntax))))

-- the number of the link of that id
abbrev pub link_of : Terms → List ℕ → Option ℕ
link_of terms w = position (bytes_eq w) terms.links

abbrev pub linked : (ℕ → Meaning) → Option ℕ → Result Meaning ScriptKind
linked f None = Err UnknownLink
linked f (Some link) = Ok (f link)

-- the capacity after a change by a number, or what is wrong with the number
abbrev pub changed : Change → ℕ → ℕ → Result ℕ ScriptKind
changed Set cap n = Ok n
changed Add cap n = if nat_le (cap + n) MAX_UNITS then Ok (cap + n) else Err TooLarge
changed Sub cap n = if nat_le n cap then Ok (cap - n) else Err BelowZero

abbrev pub edits : ℕ → Result ℕ ScriptKind → Result Meaning ScriptKind
edits link (Ok cap) = Ok (Edits link cap)
edits link (Err kind) = Err kind

-- where a number stands, of a link of that capacity
abbrev pub number : Change → ℕ → ℕ → Result ℕ UnitFault → Result Meaning ScriptKind
number change link cap (Ok n) = edits link (changed change cap n)
number change link cap (Err faults.NotNumber) = Err BadNumber
number change link cap (Err faults.TooFine) = Err TooFine
number change link cap (Err faults.TooLarge) = Err TooLarge

-- what a word means where that is expected, under these capacities of links, or what is wrong with it
abbrev pub meaning : Terms → List ℕ → Expected → List ℕ → Result Meaning ScriptKind
meaning terms caps Command w = command w
meaning terms caps (Link change) w = linked (λ link. Expects (Number change link)) (link_of terms w)
meaning terms caps Closing w = linked (λ link. Edits link 0) (link_of terms w)
meaning terms caps (Number change link) w = number change link (slice_index caps link) (units_read terms.decimals (number_of w))

-- ---- one token after the other

-- what is expected next, the capacities of the links as they are now, and the steps so far
pub record Sofar : Type 0 where
  pub expected : Expected
  pub caps : List ℕ
  pub steps : List Step

abbrev pub after : Sofar → Meaning → Sofar
after s (Expects e) = record s { expected = e }
after s (Edits link cap) = record { expected = Command; caps = slice_set s.caps link cap; steps = s.steps ++ Edit link cap ∷ [] }
after s Shows = record { expected = Command; caps = s.caps; steps = s.steps ++ Show ∷ [] }

-- what a token means: a parenthesis nothing, and a word of more than `MAX_WORD_BYTES` bytes neither
abbrev pub by_kind : Terms → Sofar → List ℕ → TokenKind → Result Meaning ScriptKind
by_kind terms s w LeftParen = Err Syntax
by_kind terms s w RightParen = Err Syntax
by_kind terms s w Word = meaning terms s.caps s.expected w

abbrev pub token_meaning : Terms → Sofar → Lexeme → Result Meaning ScriptKind
token_meaning terms s t = if nat_lt MAX_WORD_BYTES (length t.text) then Err Syntax else by_kind terms s t.text t.kind

abbrev pub refused : ScriptKind → ℕ → Result (List Step) ScriptRefusal
refused kind line = Err (record { line = line; kind = kind })

-- no command is left without its end
abbrev pub finished : ℕ → Sofar → Expected → Result (List Step) ScriptRefusal
finished end s Command = Ok s.steps
finished end s _ = refused Syntax end

abbrev pub go_on : ℕ → (Meaning → Result (List Step) ScriptRefusal) → Result Meaning ScriptKind → Result (List Step) ScriptRefusal
go_on line f (Ok m) = f m
go_on line f (Err kind) = refused kind line

-- the steps of the tokens, or the first token that is refused; `end` is the line of the end
abbrev pub scan : Terms → ℕ → Sofar → List Lexeme → Result (List Step) ScriptRefusal
scan terms end s [] = finished end s s.expected
scan terms end s (t ∷ ts) = go_on t.line (λ m. scan terms end (after s m) ts) (token_meaning terms s t)

-- ---- a text

abbrev pub terms_of : NetRows → ScaledNet → Terms
terms_of rows net = record { links = names_of_links rows; decimals = net.decimals }

-- the capacities of `links` links, each that of the link's first cell
abbrev pub link_caps : LinkMode → List ℕ → ℕ → List ℕ
link_caps mode caps links = map (λ link. slice_index caps (cells_of mode link)) (range_with_len 0 links)

-- before the first token
abbrev pub at_start : NetRows → ScaledNet → Sofar
at_start rows net = record {
  expected = Command;
  caps = link_caps net.options.links (caps_of net.net) (length rows.links);
  steps = [];
}

-- one more than the number of line feeds
abbrev pub end_of : List ℕ → ℕ
end_of text = count_by (λ b. b == 10) text + 1

-- the steps that the text stands for, on the network of these rows, or its first refusal
abbrev pub script_of : NetRows → ScaledNet → List ℕ → Result (List Step) ScriptRefusal
script_of rows net text = scan (terms_of rows net) (end_of text) (at_start rows net) (lexemes 0 text 0 1)
