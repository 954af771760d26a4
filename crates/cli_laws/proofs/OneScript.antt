-- A script that is refused for such a reason is refused so: for that reason alone.
use Rattle.std.proofs.Common.{◌≡◌, ◌≢◌, ◌⊎◌, ℕ, ◌+◌, ◌-◌, ◌<◌, ◌≤◌, List, [], ◌∷◌, ◌++◌, length, refl, sym, ap, ◌∙◌, arith, Ok, Err, Result, Option, Bool, true, false, cond, inl, inr, append_assoc, append-nil, get_or, set}
use Rattle.std.specs.Prelude.{codes, nat_lt, nat_le}
use Rattle.std.specs.Str.{bytes_eq}
use Rattle.std.proofs.lemmas.Bool.{cases_lt}
use Rattle.std.proofs.lemmas.Bool.Decides.{nat_tests}
use Rattle.std.proofs.lemmas.Slice.Eq.{bytes_eq-Decides}
use Rattle.mcf_limits.specs.declared.TheConstants.{MAX_UNITS, MAX_WORD_BYTES}
use Rattle.sndlib_grammar.specs.Tokens.{Lexeme}
use Rattle.sndlib_grammar.specs.declared.token.TokenKind.{TokenKind}
use Rattle.sndlib_grammar.specs.declared.token.TokenKind.TheVariants.{LeftParen, RightParen, Word}
use Rattle.sndlib_grammar.specs.Number.{Number as Numeral, number_of}
use Rattle.unit_scale.specs.declared.decimal.UnitFault.{UnitFault}
use Rattle.unit_scale.specs.declared.decimal.UnitFault.TheVariants as faults
use Rattle.unit_scale.specs.Units.{units_read, units_from}
use Rattle.script.specs.declared.refusal.ScriptKind.{ScriptKind}
use Rattle.script.specs.declared.refusal.ScriptKind.TheVariants.{Syntax, UnknownLink, BadNumber, TooFine, TooLarge, BelowZero}
use Rattle.script.specs.declared.refusal.ScriptRefusal.{ScriptRefusal}
use Rattle.script.specs.declared.step.Step.{Step}
use Rattle.script.specs.declared.step.Step.TheVariants.{Edit, Show}
use Rattle.script.specs.declared.word.Change.{Change}
use Rattle.script.specs.declared.word.Change.TheVariants.{Set, Add, Sub}
use Rattle.script.specs.declared.word.Expected.{Expected}
use Rattle.script.specs.declared.word.Expected.TheVariants.{Command, Link, Closing, Number}
use Rattle.script.specs.declared.word.Meaning.{Meaning}
use Rattle.script.specs.declared.word.Meaning.TheVariants.{Expects, Edits, Shows}
use Rattle.script.specs.Reading.{Terms, Sofar, scan, after, by_kind, command, meaning, token_meaning, linked, number, edits, go_on, refused, finished}
use Rattle.script.specs.Commands.{IsWord, AreCommands, change_word}
use Rattle.script.proofs.Spelled.{state}
use Rattle.cli_laws.specs.ScriptKinds.{caps_after, IsOpened, IsWithin, IsNoCommand, IsUnits, IsFault, IsOfToken, IsOfEnd}

not_long : (a b : ℕ) → b ≤ a → nat_lt a b ≡ false
not_long a b h = grind (arith, nat_tests)

short : (a b : ℕ) → nat_lt a b ≡ false → b ≤ a
short a b h = grind (arith, nat_tests)

at_most : (a b : ℕ) → a ≤ b → nat_le a b ≡ true
at_most a b h = grind (arith, nat_tests)

over : (a b : ℕ) → b < a → nat_le a b ≡ false
over a b h = grind (arith, nat_tests)

unlike : (w v : List ℕ) → w ≢ v → bytes_eq w v ≡ false
unlike w v other = by (bytes_eq w v) refl
  where
    by : (b : Bool) → bytes_eq w v ≡ b → b ≡ false
    by true h = absurd (other ((bytes_eq-Decides w v).0 h))
    by false h = refl

abbrev Read : Type 0
Read = Result Meaning ScriptKind

-- ---- the meaning of a token

word_reads : (terms : Terms) (e : Expected) (caps : List ℕ) (acc : List Step) (t : Lexeme) → IsWord t → token_meaning terms (state e caps acc) t ≡ meaning terms caps e t.text
word_reads terms e caps acc t w =
    ap (λ (b : Bool). cond b (Err Syntax) (by_kind terms (state e caps acc) t.text t.kind)) (not_long MAX_WORD_BYTES (length t.text) w.short) ∙ ap (by_kind terms (state e caps acc) t.text) w.kind

no_word_reads : (terms : Terms) (s : Sofar) (t : Lexeme) → ¬ (IsWord t) → token_meaning terms s t ≡ Err Syntax
no_word_reads terms s t none = by (nat_lt MAX_WORD_BYTES (length t.text)) t.kind refl refl
  where
    by : (b : Bool) (k : TokenKind) → nat_lt MAX_WORD_BYTES (length t.text) ≡ b → t.kind ≡ k → cond {A = Read} b (Err Syntax) (by_kind terms s t.text k) ≡ Err Syntax
    by true k h e = refl
    by false LeftParen h e = refl
    by false RightParen h e = refl
    by false Word h e = absurd (none (record { kind = e; short = short MAX_WORD_BYTES (length t.text) h }))

no_command : (text : List ℕ) → IsNoCommand text → command text ≡ Err Syntax
no_command text h =
    by (bytes_eq text (codes "set")) (bytes_eq text (codes "add")) (bytes_eq text (codes "sub")) (bytes_eq text (codes "close")) (bytes_eq text (codes "show"))
    (unlike text (codes "set") h.set) (unlike text (codes "add") h.add) (unlike text (codes "sub") h.sub) (unlike text (codes "close") h.close) (unlike text (codes "show") h.show)
  where
    by : (a b c d e : Bool) → a ≡ false → b ≡ false → c ≡ false → d ≡ false → e ≡ false
        → cond {A = Read} a (Ok (Expects (Link Set))) (cond b (Ok (Expects (Link Add))) (cond c (Ok (Expects (Link Sub))) (cond d (Ok (Expects Closing)) (cond e (Ok Shows) (Err Syntax))))) ≡ Err Syntax
    by false false false false false h i j k l = refl
    by true b c d e h i j k l = absurd cc
    by false true c d e h i j k l = absurd cc
    by false false true d e h i j k l = absurd cc
    by false false false true e h i j k l = absurd cc
    by false false false false true h i j k l = absurd cc

units_within : (terms : Terms) (t : Lexeme) (m : ℕ) → IsUnits terms t m → units_read terms.decimals (number_of t.text) ≡ cond {A = Result ℕ UnitFault} (nat_le m MAX_UNITS) (Ok m) (Err faults.TooLarge)
units_within terms t m h = ap (units_read terms.decimals) h.reads ∙ ap units_from h.whole

module _ (terms : Terms) (caps : List ℕ) (change : Change) (link : ℕ) (t : Lexeme) where
  abbrev cap : ℕ
  cap = get_or caps link 0

  abbrev read : Read
  read = number change link cap (units_read terms.decimals (number_of t.text))

  within : (m : ℕ) → IsUnits terms t m → m ≤ MAX_UNITS → read ≡ number change link cap (Ok m)
  within m h le = ap (number change link cap) (units_within terms t m h ∙ ap (λ (b : Bool). cond {A = Result ℕ UnitFault} b (Ok m) (Err faults.TooLarge)) (at_most m MAX_UNITS le))

  too_large : (m : ℕ) → IsUnits terms t m → MAX_UNITS < m → read ≡ Err TooLarge
  too_large m h far = ap (number change link cap) (units_within terms t m h ∙ ap (λ (b : Bool). cond {A = Result ℕ UnitFault} b (Ok m) (Err faults.TooLarge)) (over m MAX_UNITS far))

  added : (m : ℕ) → IsUnits terms t m → m ≤ MAX_UNITS → change ≡ Add → MAX_UNITS < cap + m → read ≡ Err TooLarge
  added m h le add far = within m h le ∙ (ap (λ (c : Change). number c link cap (Ok m)) add ∙ ap (λ (b : Bool). edits link (cond {A = Result ℕ ScriptKind} b (Ok (cap + m)) (Err TooLarge))) (over (cap + m) MAX_UNITS far))

  taken : (m : ℕ) → IsUnits terms t m → m ≤ MAX_UNITS → change ≡ Sub → cap < m → read ≡ Err BelowZero
  taken m h le sub few = within m h le ∙ (ap (λ (c : Change). number c link cap (Ok m)) sub ∙ ap (λ (b : Bool). edits link (cond {A = Result ℕ ScriptKind} b (Ok (cap - m)) (Err BelowZero))) (over m cap few))

  number_reads : (k : ScriptKind) → IsWord t → IsFault terms caps t (Number change link) k → read ≡ Err k
  number_reads Syntax word (inl none) = absurd (none word)
  number_reads Syntax word (inr (w, e, n)) = absurd (clash e)
    where
      clash : Number change link ≡ Command → ⊥
      clash h = cc
  number_reads UnknownLink word h = absurd h
  number_reads BadNumber word h = ap (λ (o : Option Numeral). number change link cap (units_read terms.decimals o)) h.1
  number_reads TooFine word h = ap (λ (o : Option Numeral). number change link cap (units_read terms.decimals o)) h.reads ∙ ap (λ (o : Option ℕ). number change link cap (units_from o)) h.fine
  number_reads TooLarge word (m, h, inl far) = too_large m h far
  number_reads TooLarge word (m, h, inr (add, far)) = elim (cases_lt MAX_UNITS m) as (λ _. read ≡ Err TooLarge) [ inl lt ↦ too_large m h lt | inr ge ↦ added m h (omega (arith, ge)) add far ]
  number_reads BelowZero word (m, h, le, sub, few) = taken m h le sub few

  word_of : (k : ScriptKind) → IsFault terms caps t (Number change link) k → IsWord t ⊎ ¬ (IsWord t)
  word_of Syntax (inl none) = inr none
  word_of Syntax (inr h) = inl h.0
  word_of UnknownLink h = absurd h
  word_of BadNumber h = inl h.0
  word_of TooFine h = inl h.word
  word_of TooLarge h = inl h.1.word
  word_of BelowZero h = inl h.1.word

  syntax : (k : ScriptKind) → ¬ (IsWord t) → IsFault terms caps t (Number change link) k → Syntax ≡ k
  syntax Syntax none h = refl
  syntax UnknownLink none h = absurd h
  syntax BadNumber none h = absurd (none h.0)
  syntax TooFine none h = absurd (none h.word)
  syntax TooLarge none h = absurd (none h.1.word)
  syntax BelowZero none h = absurd (none h.1.word)

  number_fault : (acc : List Step) (k : ScriptKind) → IsFault terms caps t (Number change link) k → token_meaning terms (state (Number change link) caps acc) t ≡ Err k
  number_fault acc k h = elim (word_of k h) as (λ _. token_meaning terms (state (Number change link) caps acc) t ≡ Err k) [
    | inl word ↦ word_reads terms (Number change link) caps acc t word ∙ number_reads k word h
    | inr none ↦ no_word_reads terms (state (Number change link) caps acc) t none ∙ ap (λ (x : ScriptKind). Err x) (syntax k none h)
  ]

fault_means : (terms : Terms) (next : Expected) (caps : List ℕ) (acc : List Step) (t : Lexeme) (k : ScriptKind) → IsFault terms caps t next k → token_meaning terms (state next caps acc) t ≡ Err k
fault_means terms Command caps acc t Syntax (inl none) = no_word_reads terms (state Command caps acc) t none
fault_means terms Command caps acc t Syntax (inr (word, e, h)) = word_reads terms Command caps acc t word ∙ no_command t.text h
fault_means terms Command caps acc t UnknownLink h = absurd h
fault_means terms Command caps acc t BadNumber h = absurd h
fault_means terms Command caps acc t TooFine h = absurd h
fault_means terms Command caps acc t TooLarge h = absurd h
fault_means terms Command caps acc t BelowZero h = absurd h
fault_means terms (Link change) caps acc t Syntax (inl none) = no_word_reads terms (state (Link change) caps acc) t none
fault_means terms (Link change) caps acc t Syntax (inr (word, e, h)) = absurd (clash e)
  where
    clash : Link change ≡ Command → ⊥
    clash h = cc
fault_means terms (Link change) caps acc t UnknownLink h = word_reads terms (Link change) caps acc t h.0 ∙ ap (linked (λ link. Expects (Number change link))) h.1
fault_means terms (Link change) caps acc t BadNumber h = absurd h
fault_means terms (Link change) caps acc t TooFine h = absurd h
fault_means terms (Link change) caps acc t TooLarge h = absurd h
fault_means terms (Link change) caps acc t BelowZero h = absurd h
fault_means terms Closing caps acc t Syntax (inl none) = no_word_reads terms (state Closing caps acc) t none
fault_means terms Closing caps acc t Syntax (inr (word, e, h)) = absurd (clash e)
  where
    clash : Closing ≡ Command → ⊥
    clash h = cc
fault_means terms Closing caps acc t UnknownLink h = word_reads terms Closing caps acc t h.0 ∙ ap (linked (λ link. Edits link 0)) h.1
fault_means terms Closing caps acc t BadNumber h = absurd h
fault_means terms Closing caps acc t TooFine h = absurd h
fault_means terms Closing caps acc t TooLarge h = absurd h
fault_means terms Closing caps acc t BelowZero h = absurd h
fault_means terms (Number change link) caps acc t k h = number_fault terms caps change link t acc k h

abbrev failed : ScriptKind → Read
failed k = Err k

kind_is : (k l : ScriptKind) → failed k ≡ failed l → k ≡ l
kind_is k l e = cc

-- two faults of one token have one kind
pub fault_one : (terms : Terms) (caps : List ℕ) (t : Lexeme) (next : Expected) (k l : ScriptKind) → IsFault terms caps t next k → IsFault terms caps t next l → k ≡ l
fault_one terms caps t next k l h i = kind_is k l (sym (fault_means terms next caps [] t k h) ∙ fault_means terms next caps [] t l i)

-- ---- commands, and what stands behind them

one_more : (terms : Terms) (end : ℕ) (e : Expected) (caps : List ℕ) (acc : List Step) (t : Lexeme) (ts : List Lexeme) (m : Meaning) → IsWord t → meaning terms caps e t.text ≡ Ok m
    → scan terms end (state e caps acc) (t ∷ ts) ≡ scan terms end (after (state e caps acc) m) ts
one_more terms end e caps acc t ts m w is = ap (go_on t.line (λ x. scan terms end (after (state e caps acc) x) ts)) (word_reads terms e caps acc t w ∙ is)

change_command : (change : Change) → command (change_word change) ≡ Ok (Expects (Link change))
change_command Set = refl
change_command Add = refl
change_command Sub = refl

-- reading stands behind the commands, with these capacities
Behind : Terms → ℕ → List ℕ → List Step → List ℕ → List Lexeme → List Lexeme → Type 0
Behind terms end caps acc now tokens tail = (steps : List Step) × (scan terms end (state Command caps acc) tokens ≡ scan terms end (state Command now steps) tail)

module _ (terms : Terms) (end : ℕ) where
  behind : (caps mid now : List ℕ) (acc more : List Step) (tokens rest tail : List Lexeme) → scan terms end (state Command caps acc) tokens ≡ scan terms end (state Command mid more) rest → Behind terms end mid more now rest tail → Behind terms end caps acc now tokens tail
  unfolding Behind
  behind caps mid now acc more tokens rest tail e h = (h.0, e ∙ h.1)

  commands_behind : (steps : List Step) (caps : List ℕ) (acc : List Step) (done tail : List Lexeme) → AreCommands terms caps done steps → Behind terms end caps acc (caps_after caps steps) (done ++ tail) tail
  unfolding Behind
  commands_behind [] caps acc done tail h = (acc, ap (λ (l : List Lexeme). scan terms end (state Command caps acc) (l ++ tail)) h)
  commands_behind (Show ∷ steps) caps acc done tail (rest, here, more) =
      behind caps caps (caps_after caps steps) acc (acc ++ Show ∷ []) (done ++ tail) (rest ++ tail) tail
      (ap (λ (l : List Lexeme). scan terms end (state Command caps acc) (l ++ tail)) here.spelled ∙ one_more terms end Command caps acc here.verb (rest ++ tail) Shows here.word (ap command here.shows))
      (commands_behind steps caps (acc ++ Show ∷ []) rest tail more)
  commands_behind (Edit link cap ∷ steps) caps acc done tail (rest, inl (here, zero), more) =
      let next = set caps link cap in
      behind caps next (caps_after next steps) acc (acc ++ Edit link cap ∷ []) (done ++ tail) (rest ++ tail) tail
      (ap (λ (l : List Lexeme). scan terms end (state Command caps acc) (l ++ tail)) here.spelled
      ∙ (one_more terms end Command caps acc here.verb (here.id ∷ rest ++ tail) (Expects Closing) here.word (ap command here.closes)
      ∙ (one_more terms end Closing caps acc here.id (rest ++ tail) (Edits link 0) here.id_word (ap (linked (λ c. Edits c 0)) here.names)
      ∙ ap (λ n. scan terms end (state Command (set caps link n) (acc ++ Edit link n ∷ [])) (rest ++ tail)) (sym zero))))
      (commands_behind steps next (acc ++ Edit link cap ∷ []) rest tail more)
  commands_behind (Edit link cap ∷ steps) caps acc done tail (rest, inr (change, here), more) =
      let next = set caps link cap in
      behind caps next (caps_after next steps) acc (acc ++ Edit link cap ∷ []) (done ++ tail) (rest ++ tail) tail
      (ap (λ (l : List Lexeme). scan terms end (state Command caps acc) (l ++ tail)) here.spelled
      ∙ (one_more terms end Command caps acc here.verb (here.id ∷ here.number ∷ rest ++ tail) (Expects (Link change)) here.word (ap command here.changes ∙ change_command change)
      ∙ (one_more terms end (Link change) caps acc here.id (here.number ∷ rest ++ tail) (Expects (Number change link)) here.id_word (ap (linked (λ c. Expects (Number change c))) here.names)
      ∙ one_more terms end (Number change link) caps acc here.number (rest ++ tail) (Edits link cap) here.number_word (ap (number change link (get_or caps link 0)) here.reads ∙ ap (edits link) here.gives))))
      (commands_behind steps next (acc ++ Edit link cap ∷ []) rest tail more)

  opened_reads : (next : Expected) (part tail : List Lexeme) (now : List ℕ) (acc : List Step) → IsOpened terms next part → scan terms end (state Command now acc) (part ++ tail) ≡ scan terms end (state next now acc) tail
  opened_reads Command part tail now acc h = ap (λ (l : List Lexeme). scan terms end (state Command now acc) (l ++ tail)) h
  opened_reads (Link change) part tail now acc (verb, e, v) =
      ap (λ (l : List Lexeme). scan terms end (state Command now acc) (l ++ tail)) e ∙ one_more terms end Command now acc verb tail (Expects (Link change)) v.word (ap command v.says ∙ change_command change)
  opened_reads Closing part tail now acc (verb, e, v) =
      ap (λ (l : List Lexeme). scan terms end (state Command now acc) (l ++ tail)) e ∙ one_more terms end Command now acc verb tail (Expects Closing) v.word (ap command v.says)
  opened_reads (Number change link) part tail now acc (verb, id, e, v, i) =
      ap (λ (l : List Lexeme). scan terms end (state Command now acc) (l ++ tail)) e
      ∙ (one_more terms end Command now acc verb (id ∷ tail) (Expects (Link change)) v.word (ap command v.says ∙ change_command change)
      ∙ one_more terms end (Link change) now acc id tail (Expects (Number change link)) i.word (ap (linked (λ c. Expects (Number change c))) i.names))

  within_reads : (caps now : List ℕ) (tokens tail : List Lexeme) (next : Expected) → IsWithin terms caps tokens next now → (acc : List Step) × (scan terms end (state Command caps []) (tokens ++ tail) ≡ scan terms end (state next now acc) tail)
  unfolding Behind
  within_reads caps now tokens tail next w =
      let g = commands_behind w.steps caps [] w.done (w.part ++ tail) w.commands in (
        g.0,
        ap (λ (l : List Lexeme). scan terms end (state Command caps []) (l ++ tail)) w.parts
            ∙ (ap (scan terms end (state Command caps [])) (append_assoc w.done w.part tail)
            ∙ (g.1 ∙ (ap (λ (c : List ℕ). scan terms end (state Command c g.0) (w.part ++ tail)) (sym w.left) ∙ opened_reads next w.part tail now g.0 w.opened))),
      )

  of_token : (caps : List ℕ) (tokens : List Lexeme) (r : ScriptRefusal) → IsOfToken terms caps tokens r → scan terms end (state Command caps []) tokens ≡ Err r
  of_token caps tokens r k =
      let w = within_reads caps k.now k.before (k.at ∷ k.after) k.next k.within in
      ap (scan terms end (state Command caps [])) k.parts
      ∙ (w.1 ∙ (ap (go_on k.at.line (λ x. scan terms end (after (state k.next k.now w.0) x) k.after)) (fault_means terms k.next k.now w.0 k.at r.kind k.fault) ∙ ap (λ (n : ℕ). refused r.kind n) (sym k.line)))

  ended : (e : Expected) (s : Sofar) → e ≢ Command → finished end s e ≡ refused Syntax end
  ended Command s other = absurd (other refl)
  ended (Link change) s other = refl
  ended Closing s other = refl
  ended (Number change link) s other = refl

  of_end : (caps : List ℕ) (tokens : List Lexeme) (r : ScriptRefusal) → IsOfEnd terms caps tokens end r → scan terms end (state Command caps []) tokens ≡ Err r
  of_end caps tokens r k =
      let w = within_reads caps k.now tokens [] k.next k.within in
      ap (scan terms end (state Command caps [])) (sym (append-nil tokens))
      ∙ (w.1 ∙ (ended k.next (state k.next k.now w.0) k.unfinished ∙ (ap (λ (x : ScriptKind). refused x end) (sym k.kind) ∙ ap (λ (n : ℕ). refused r.kind n) (sym k.line))))

  pub is_read : (caps : List ℕ) (tokens : List Lexeme) (r : ScriptRefusal) → IsOfToken terms caps tokens r ⊎ IsOfEnd terms caps tokens end r → scan terms end (state Command caps []) tokens ≡ Err r
  is_read caps tokens r (inl k) = of_token caps tokens r k
  is_read caps tokens r (inr k) = of_end caps tokens r k
