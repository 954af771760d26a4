-- The line of a judgement, and its status.
use Rattle.std.specs.Prelude.{ℕ, Bool, true, false, List, [], ◌∷◌, codes}
use Rattle.std.specs.Fmt.{decimal}
use Rattle.text_lines.specs.Lines.{Line}
use Rattle.text_lines.specs.Spelling.{fraction_word, millionths_word}
use Rattle.gap_fraction.specs.Decimals.{millionths_down, millionths_up}
use Rattle.unit_scale.specs.Modes.{link_word, module_word}
use Rattle.sndlib_grammar.specs.declared.refusal.NetKind.{NetKind}
use Rattle.sndlib_grammar.specs.declared.refusal.NetKind.TheVariants as kinds
use Rattle.sndlib_grammar.specs.declared.refusal.NetRefusal.{NetRefusal}
use Rattle.cert_lines.specs.declared.refusal.CertKind.{CertKind}
use Rattle.cert_lines.specs.declared.refusal.CertKind.TheVariants as texts
use Rattle.cert_lines.specs.declared.refusal.CertRefusal.{CertRefusal}
use Rattle.matrix_batch.specs.declared.list_refusal.ListKind.{ListKind}
use Rattle.matrix_batch.specs.declared.list_refusal.ListKind.TheVariants as lists
use Rattle.matrix_batch.specs.declared.list_refusal.ListRefusal.{ListRefusal}
use Rattle.script.specs.declared.refusal.ScriptKind.{ScriptKind}
use Rattle.script.specs.declared.refusal.ScriptKind.TheVariants as scripts
use Rattle.script.specs.declared.refusal.ScriptRefusal.{ScriptRefusal}
use Rattle.cert_check.specs.declared.verdict.Fault.{Fault}
use Rattle.cert_check.specs.declared.verdict.Fault.TheVariants.{C1, C2, C3, C4, C5, C6, C7, C8, C9, C10}
use Rattle.cert_judge.specs.declared.judged.Judged.{Judged}
use Rattle.cert_judge.specs.declared.judged.Judged.TheVariants.{NetRefused, CertRefused, Invalid, Feasible, Valid}

-- the short name of each refusal of a network text
abbrev pub kind_word : NetKind → List ℕ
kind_word kinds.NoHeader = codes "N1"
kind_word kinds.LongWord = codes "N2"
kind_word kinds.Syntax = codes "N3"
kind_word kinds.TooMany = codes "N4"
kind_word kinds.Duplicate = codes "N5"
kind_word kinds.UnknownNode = codes "N6"
kind_word kinds.BadNumber = codes "N7"
kind_word kinds.TooFine = codes "N8"
kind_word kinds.TooLarge = codes "N9"
kind_word kinds.NoDemand = codes "N10"
kind_word kinds.HopTooFar = codes "N11"

-- the short name of each refusal of a certificate's text
abbrev pub cert_kind_word : CertKind → List ℕ
cert_kind_word texts.NoHeader = codes "K1"
cert_kind_word texts.Syntax = codes "K2"
cert_kind_word texts.UnknownName = codes "K3"
cert_kind_word texts.BadNumber = codes "K4"
cert_kind_word texts.TooLarge = codes "K5"
cert_kind_word texts.OtherNet = codes "K6"

-- the short name of each condition
abbrev pub fault_word : Fault → List ℕ
fault_word C1 = codes "C1"
fault_word C2 = codes "C2"
fault_word C3 = codes "C3"
fault_word C4 = codes "C4"
fault_word C5 = codes "C5"
fault_word C6 = codes "C6"
fault_word C7 = codes "C7"
fault_word C8 = codes "C8"
fault_word C9 = codes "C9"
fault_word C10 = codes "C10"

abbrev pub verdict_word : Bool → List ℕ
verdict_word true = codes "closed"
verdict_word false = codes "open"

abbrev pub net_refused : NetRefusal → Line
net_refused r = codes "refused" ∷ codes "net" ∷ kind_word r.kind ∷ codes "line" ∷ decimal r.line ∷ []

-- the short name of each refusal of a script
abbrev pub script_kind_word : ScriptKind → List ℕ
script_kind_word scripts.Syntax = codes "S1"
script_kind_word scripts.UnknownLink = codes "S2"
script_kind_word scripts.BadNumber = codes "S3"
script_kind_word scripts.TooFine = codes "S4"
script_kind_word scripts.TooLarge = codes "S5"
script_kind_word scripts.BelowZero = codes "S6"

-- the short name of each refusal of a list
abbrev pub list_kind_word : ListKind → List ℕ
list_kind_word lists.Syntax = codes "M1"
list_kind_word lists.TooMany = codes "M2"
list_kind_word lists.Duplicate = codes "M3"
list_kind_word lists.UnknownNode = codes "M4"
list_kind_word lists.BadNumber = codes "M5"
list_kind_word lists.TooFine = codes "M6"
list_kind_word lists.TooLarge = codes "M7"
list_kind_word lists.NoDemand = codes "M8"

abbrev pub list_refused : ListRefusal → Line
list_refused r = codes "refused" ∷ codes "list" ∷ list_kind_word r.kind ∷ codes "line" ∷ decimal r.line ∷ []

abbrev pub script_refused : ScriptRefusal → Line
script_refused r = codes "refused" ∷ codes "script" ∷ script_kind_word r.kind ∷ codes "line" ∷ decimal r.line ∷ []

-- a text of a certificate is refused, and this is how its file is named
abbrev pub text_refused : List ℕ → CertRefusal → Line
text_refused paper r = codes "refused" ∷ paper ∷ cert_kind_word r.kind ∷ codes "line" ∷ decimal r.line ∷ []

abbrev pub cert_refused : CertRefusal → Line
cert_refused r = text_refused (codes "cert") r

abbrev pub second_refused : CertRefusal → Line
second_refused r = text_refused (codes "cert2") r

-- a condition that a second certificate fails
abbrev pub second_invalid : Fault → Line
second_invalid fault = codes "invalid2" ∷ fault_word fault ∷ []

-- the words of the line: a fraction that is carried is rounded down, a bound is rounded up
abbrev pub judged_words : Judged → Line
judged_words (NetRefused r) = net_refused r
judged_words (CertRefused r) = cert_refused r
judged_words (Invalid fault) = codes "invalid" ∷ fault_word fault ∷ []
judged_words (Feasible o v) =
    codes "feasible" ∷ link_word o.links ∷ module_word o.modules
    ∷ fraction_word v.num v.den ∷ millionths_word (millionths_down v) ∷ []
judged_words (Valid o closed l u) =
    codes "valid" ∷ verdict_word closed ∷ link_word o.links ∷ module_word o.modules
    ∷ codes "lower" ∷ fraction_word l.num l.den ∷ millionths_word (millionths_down l)
    ∷ codes "upper" ∷ fraction_word u.num u.den ∷ millionths_word (millionths_up u) ∷ []

abbrev pub judged_status : Judged → ℕ
judged_status (NetRefused r) = 3
judged_status (CertRefused r) = 3
judged_status (Invalid fault) = 1
judged_status (Feasible o v) = 0
judged_status (Valid o closed l u) = 0
