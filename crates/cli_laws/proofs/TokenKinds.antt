-- Tokens one after the other: what is wrong with the one that is refused.
use Rattle.std.proofs.Common.{◌≡◌, ◌≢◌, ◌⊎◌, ℕ, ◌+◌, ◌-◌, ◌<◌, ◌≤◌, List, [], ◌∷◌, ◌++◌, length, refl, sym, ap, subst, ◌∙◌, arith, Ok, Err, Result, Some, None, Option, Bool, true, false, cond, inl, inr, append_assoc, append-nil, get_or, set}
use Rattle.std.specs.Prelude.{codes, nat_lt, nat_le}
use Rattle.std.specs.Str.{bytes_eq}
use Rattle.std.proofs.lemmas.Bool.Decides.{nat_tests}
use Rattle.std.proofs.lemmas.Slice.Eq.{bytes_eq-Decides}
use Rattle.mcf_limits.specs.declared.TheConstants.{MAX_UNITS, MAX_WORD_BYTES}
use Rattle.sndlib_grammar.specs.Tokens.{Lexeme}
use Rattle.sndlib_grammar.specs.declared.token.TokenKind.{TokenKind}
use Rattle.sndlib_grammar.specs.declared.token.TokenKind.TheVariants.{LeftParen, RightParen, Word}
use Rattle.sndlib_grammar.specs.Number.{Number as Numeral, number_of}
use Rattle.unit_scale.specs.declared.decimal.UnitFault.TheVariants as faults
use Rattle.unit_scale.specs.Units.{units_read, units_from, units_of}
use Rattle.script.specs.declared.refusal.ScriptKind.{ScriptKind}
use Rattle.script.specs.declared.refusal.ScriptKind.TheVariants.{Syntax, TooLarge, BelowZero}
use Rattle.script.specs.declared.refusal.ScriptRefusal.{ScriptRefusal}
use Rattle.script.specs.declared.step.Step.{Step}
use Rattle.script.specs.declared.step.Step.TheVariants.{Edit, Show}
use Rattle.script.specs.declared.word.Change.{Change}
use Rattle.script.specs.declared.word.Change.TheVariants.{Set, Add, Sub}
use Rattle.script.specs.declared.word.Expected.{Expected}
use Rattle.script.specs.declared.word.Expected.TheVariants.{Command, Link, Closing, Number}
use Rattle.script.specs.declared.word.Meaning.{Meaning}
use Rattle.script.specs.declared.word.Meaning.TheVariants.{Expects, Edits, Shows}
use Rattle.script.specs.Reading.{Terms, Sofar, scan, after, by_kind, command, meaning, token_meaning, linked, link_of, number, edits, changed, go_on, refused, finished}
use Rattle.script.specs.Commands.{IsWord, AreCommands, change_word}
use Rattle.script.proofs.Spelled.{state}
use Rattle.cli_laws.specs.ScriptKinds.{caps_after, IsVerb, IsId, IsOpened, IsWithin, IsUnits, IsFault, IsOfToken, IsOfEnd}

same_word : (w v : List ℕ) → bytes_eq w v ≡ true → w ≡ v
same_word w v e = (bytes_eq-Decides w v).0 e

other_word : (w v : List ℕ) → bytes_eq w v ≡ false → w ≢ v
other_word w v e same = let k = (bytes_eq-Decides w v).1 same in absurd cc

le_of : (x y : ℕ) → nat_le x y ≡ true → x ≤ y
le_of x y h = grind (arith, nat_tests)

lt_of : (x y : ℕ) → nat_le x y ≡ false → y < x
lt_of x y h = grind (arith, nat_tests)

-- ---- what a token means, or what is wrong with it

-- what is known of a word with this meaning where that has to stand
abbrev Says : Terms → List ℕ → Lexeme → Expected → Result Meaning ScriptKind → Type 0
Says terms caps t next (Err kind) = IsFault terms caps t next kind
Says terms caps t Command (Ok (Expects (Link change))) = IsVerb t (change_word change)
Says terms caps t Command (Ok (Expects Closing)) = IsVerb t (codes "close")
Says terms caps t Command (Ok Shows) = IsVerb t (codes "show")
Says terms caps t (Link change) (Ok (Expects (Number other link))) = (other ≡ change) × IsId terms t link
Says terms caps t Closing (Ok (Edits link cap)) = (cap ≡ 0) × IsId terms t link
Says terms caps t (Number change link) (Ok (Edits l cap)) =
    (l ≡ link) × IsWord t × (count : ℕ) × (units_read terms.decimals (number_of t.text) ≡ Ok count) × (changed change (get_or caps link 0) count ≡ Ok cap)
Says terms caps t next _ = ⊥

command_says : (terms : Terms) (caps : List ℕ) (t : Lexeme) → IsWord t → Says terms caps t Command (command t.text)
command_says terms caps t word = by (bytes_eq t.text (codes "set")) (bytes_eq t.text (codes "add")) (bytes_eq t.text (codes "sub")) (bytes_eq t.text (codes "close")) (bytes_eq t.text (codes "show")) refl refl refl refl refl
  where
    is : (text : List ℕ) → bytes_eq t.text text ≡ true → IsVerb t text
    is text h = record { word = word; says = same_word t.text text h }

    by : (a b c d e : Bool) → bytes_eq t.text (codes "set") ≡ a → bytes_eq t.text (codes "add") ≡ b → bytes_eq t.text (codes "sub") ≡ c → bytes_eq t.text (codes "close") ≡ d → bytes_eq t.text (codes "show") ≡ e
        → Says terms caps t Command (cond a (Ok (Expects (Link Set))) (cond b (Ok (Expects (Link Add))) (cond c (Ok (Expects (Link Sub))) (cond d (Ok (Expects Closing)) (cond e (Ok Shows) (Err Syntax))))))
    by true b c d e h i j k l = is (codes "set") h
    by false true c d e h i j k l = is (codes "add") i
    by false false true d e h i j k l = is (codes "sub") j
    by false false false true e h i j k l = is (codes "close") k
    by false false false false true h i j k l = is (codes "show") l
    by false false false false false h i j k l = inr (
      word,
      refl,
      record {
        set = other_word t.text (codes "set") h;
        add = other_word t.text (codes "add") i;
        sub = other_word t.text (codes "sub") j;
        close = other_word t.text (codes "close") k;
        show = other_word t.text (codes "show") l;
      },
    )

link_says : (terms : Terms) (caps : List ℕ) (change : Change) (t : Lexeme) → IsWord t → Says terms caps t (Link change) (linked (λ link. Expects (Number change link)) (link_of terms t.text))
link_says terms caps change t word = by (link_of terms t.text) refl
  where
    by : (o : Option ℕ) → link_of terms t.text ≡ o → Says terms caps t (Link change) (linked (λ link. Expects (Number change link)) o)
    by None e = (word, e)
    by (Some link) e = (refl, record { word = word; names = e })

close_says : (terms : Terms) (caps : List ℕ) (t : Lexeme) → IsWord t → Says terms caps t Closing (linked (λ link. Edits link 0) (link_of terms t.text))
close_says terms caps t word = by (link_of terms t.text) refl
  where
    by : (o : Option ℕ) → link_of terms t.text ≡ o → Says terms caps t Closing (linked (λ link. Edits link 0) o)
    by None e = (word, e)
    by (Some link) e = (refl, record { word = word; names = e })

changed_says : (terms : Terms) (caps : List ℕ) (change : Change) (link count : ℕ) (t : Lexeme) → IsUnits terms t count → count ≤ MAX_UNITS → units_read terms.decimals (number_of t.text) ≡ Ok count
    → Says terms caps t (Number change link) (edits link (changed change (get_or caps link 0) count))
changed_says terms caps Set link count t units most reads = (refl, units.word, count, reads, refl)
changed_says terms caps Add link count t units most reads = by (nat_le (get_or caps link 0 + count) MAX_UNITS) refl
  where
    by : (b : Bool) → nat_le (get_or caps link 0 + count) MAX_UNITS ≡ b → Says terms caps t (Number Add link) (edits link (cond b (Ok (get_or caps link 0 + count)) (Err TooLarge)))
    by true h = (refl, units.word, count, reads, ap (λ (b : Bool). cond b (Ok (get_or caps link 0 + count)) (Err TooLarge)) h)
    by false h = (count, units, inr (refl, lt_of (get_or caps link 0 + count) MAX_UNITS h))
changed_says terms caps Sub link count t units most reads = by (nat_le count (get_or caps link 0)) refl
  where
    by : (b : Bool) → nat_le count (get_or caps link 0) ≡ b → Says terms caps t (Number Sub link) (edits link (cond b (Ok (get_or caps link 0 - count)) (Err BelowZero)))
    by true h = (refl, units.word, count, reads, ap (λ (b : Bool). cond b (Ok (get_or caps link 0 - count)) (Err BelowZero)) h)
    by false h = (count, units, most, refl, lt_of count (get_or caps link 0) h)

number_says : (terms : Terms) (caps : List ℕ) (change : Change) (link : ℕ) (t : Lexeme) → IsWord t → Says terms caps t (Number change link) (number change link (get_or caps link 0) (units_read terms.decimals (number_of t.text)))
number_says terms caps change link t word = by (number_of t.text) refl
  where
    limit : (n : Numeral) (m : ℕ) (b : Bool) → number_of t.text ≡ Some n → units_of terms.decimals n ≡ Some m → nat_le m MAX_UNITS ≡ b → Says terms caps t (Number change link) (number change link (get_or caps link 0) (cond b (Ok m) (Err faults.TooLarge)))
    limit n m true e f h =
        let reads : units_read terms.decimals (number_of t.text) ≡ Ok m = ap (units_read terms.decimals) e ∙ ap units_from f ∙ ap (λ (b : Bool). cond b (Ok m) (Err faults.TooLarge)) h in
        changed_says terms caps change link m t (record { word = word; value = n; reads = e; whole = f }) (le_of m MAX_UNITS h) reads
    limit n m false e f h = (m, record { word = word; value = n; reads = e; whole = f }, inl (lt_of m MAX_UNITS h))

    whole : (n : Numeral) (o : Option ℕ) → number_of t.text ≡ Some n → units_of terms.decimals n ≡ o → Says terms caps t (Number change link) (number change link (get_or caps link 0) (units_from o))
    whole n None e f = record { word = word; value = n; reads = e; fine = f }
    whole n (Some m) e f = limit n m (nat_le m MAX_UNITS) e f refl

    by : (o : Option Numeral) → number_of t.text ≡ o → Says terms caps t (Number change link) (number change link (get_or caps link 0) (units_read terms.decimals o))
    by None e = (word, e)
    by (Some n) e = whole n (units_of terms.decimals n) e refl

word_says : (terms : Terms) (caps : List ℕ) (next : Expected) (t : Lexeme) → IsWord t → Says terms caps t next (meaning terms caps next t.text)
word_says terms caps Command t word = command_says terms caps t word
word_says terms caps (Link change) t word = link_says terms caps change t word
word_says terms caps Closing t word = close_says terms caps t word
word_says terms caps (Number change link) t word = number_says terms caps change link t word

-- a token that is no word
no_word : (terms : Terms) (caps : List ℕ) (t : Lexeme) (next : Expected) → ¬ (IsWord t) → Says terms caps t next (Err Syntax)
no_word terms caps t Command none = inl none
no_word terms caps t (Link change) none = inl none
no_word terms caps t Closing none = inl none
no_word terms caps t (Number change link) none = inl none

token_says : (terms : Terms) (next : Expected) (caps : List ℕ) (acc : List Step) (t : Lexeme) → Says terms caps t next (token_meaning terms (state next caps acc) t)
token_says terms next caps acc t = by (nat_lt MAX_WORD_BYTES (length t.text)) t.kind refl refl
  where
    too_long : (a b : ℕ) → nat_lt a b ≡ true → a < b
    too_long a b h = grind (arith, nat_tests)

    short : (a b : ℕ) → nat_lt a b ≡ false → b ≤ a
    short a b h = grind (arith, nat_tests)

    by : (b : Bool) (k : TokenKind) → nat_lt MAX_WORD_BYTES (length t.text) ≡ b → t.kind ≡ k → Says terms caps t next (cond b (Err Syntax) (by_kind terms (state next caps acc) t.text k))
    by true k h e = no_word terms caps t next (λ w. absurd (omega (arith, w.short, too_long MAX_WORD_BYTES (length t.text) h)))
    by false LeftParen h e = no_word terms caps t next (λ w. let same : LeftParen ≡ Word = sym e ∙ w.kind in absurd cc)
    by false RightParen h e = no_word terms caps t next (λ w. let same : RightParen ≡ Word = sym e ∙ w.kind in absurd cc)
    by false Word h e = word_says terms caps next t (record { kind = e; short = short MAX_WORD_BYTES (length t.text) h })

-- ---- commands behind commands

commands_more : (terms : Terms) (caps : List ℕ) (done tail : List Lexeme) (steps more : List Step) → AreCommands terms caps done steps → AreCommands terms (caps_after caps steps) tail more → AreCommands terms caps (done ++ tail) (steps ++ more)
commands_more terms caps done tail [] more h k = subst (λ (d : List Lexeme). AreCommands terms caps (d ++ tail) more) (sym h) k
commands_more terms caps done tail (Show ∷ steps) more (rest, here, others) k = (
  rest ++ tail,
  record { verb = here.verb; spelled = ap (λ (l : List Lexeme). l ++ tail) here.spelled; word = here.word; shows = here.shows },
  commands_more terms caps rest tail steps more others k,
)
commands_more terms caps done tail (Edit link cap ∷ steps) more (rest, inl here, others) k = (
  rest ++ tail,
  inl (record { verb = here.0.verb; id = here.0.id; spelled = ap (λ (l : List Lexeme). l ++ tail) here.0.spelled; word = here.0.word; closes = here.0.closes; id_word = here.0.id_word; names = here.0.names }, here.1),
  commands_more terms (set caps link cap) rest tail steps more others k,
)
commands_more terms caps done tail (Edit link cap ∷ steps) more (rest, inr (change, here), others) k = (
  rest ++ tail,
  inr (
    change,
    record {
      verb = here.verb;
      id = here.id;
      number = here.number;
      spelled = ap (λ (l : List Lexeme). l ++ tail) here.spelled;
      word = here.word;
      changes = here.changes;
      id_word = here.id_word;
      names = here.names;
      number_word = here.number_word;
      count = here.count;
      reads = here.reads;
      gives = here.gives;
    },
  ),
  commands_more terms (set caps link cap) rest tail steps more others k,
)

after_more : (caps : List ℕ) (steps more : List Step) → caps_after caps (steps ++ more) ≡ caps_after (caps_after caps steps) more
after_more caps [] more = refl
after_more caps (Show ∷ steps) more = after_more caps steps more
after_more caps (Edit link cap ∷ steps) more = after_more (set caps link cap) steps more

-- a command is finished
finish : (terms : Terms) (caps now : List ℕ) (tokens : List Lexeme) (t : Lexeme) (next : Expected) (step : Step) → (w : IsWithin terms caps tokens next now) → AreCommands terms now (w.part ++ t ∷ []) (step ∷ []) → IsWithin terms caps (tokens ++ t ∷ []) Command (caps_after now (step ∷ []))
finish terms caps now tokens t next step w h = record {
  done = w.done ++ (w.part ++ t ∷ []);
  part = [];
  steps = w.steps ++ step ∷ [];
  parts = ap (λ (l : List Lexeme). l ++ t ∷ []) w.parts ∙ append_assoc w.done w.part (t ∷ []) ∙ sym (append-nil (w.done ++ (w.part ++ t ∷ [])));
  commands = commands_more terms caps w.done (w.part ++ t ∷ []) w.steps (step ∷ []) w.commands (subst (λ (c : List ℕ). AreCommands terms c (w.part ++ t ∷ []) (step ∷ [])) w.left h);
  opened = refl;
  left = ap (λ (c : List ℕ). caps_after c (step ∷ [])) w.left ∙ sym (after_more caps w.steps (step ∷ []));
}

-- a command goes on
grow : (terms : Terms) (caps now : List ℕ) (tokens : List Lexeme) (t : Lexeme) (next later : Expected) → (w : IsWithin terms caps tokens next now) → IsOpened terms later (w.part ++ t ∷ []) → IsWithin terms caps (tokens ++ t ∷ []) later now
grow terms caps now tokens t next later w h = record {
  done = w.done;
  part = w.part ++ t ∷ [];
  steps = w.steps;
  parts = ap (λ (l : List Lexeme). l ++ t ∷ []) w.parts ∙ append_assoc w.done w.part (t ∷ []);
  commands = w.commands;
  opened = h;
  left = w.left;
}

-- ---- one token more

abbrev Goes : Terms → List ℕ → List Lexeme → Sofar → Type 0
Goes terms caps tokens s = IsWithin terms caps tokens s.expected s.caps

goes : (terms : Terms) (caps now : List ℕ) (tokens : List Lexeme) (acc : List Step) (t : Lexeme) (next : Expected) (m : Meaning) → IsWithin terms caps tokens next now → Says terms now t next (Ok m) → Goes terms caps (tokens ++ t ∷ []) (after (state next now acc) m)
goes terms caps now tokens acc t Command (Expects (Link change)) w says = grow terms caps now tokens t Command (Link change) w (t, ap (λ (l : List Lexeme). l ++ t ∷ []) w.opened, says)
goes terms caps now tokens acc t Command (Expects Closing) w says = grow terms caps now tokens t Command Closing w (t, ap (λ (l : List Lexeme). l ++ t ∷ []) w.opened, says)
goes terms caps now tokens acc t Command Shows w says =
    finish terms caps now tokens t Command Show w ([], record { verb = t; spelled = ap (λ (l : List Lexeme). l ++ t ∷ []) w.opened; word = says.word; shows = says.says }, refl)
goes terms caps now tokens acc t (Link change) (Expects (Number other link)) w says =
    let o = w.opened in
    grow terms caps now tokens t (Link change) (Number other link) w (o.0, t, ap (λ (l : List Lexeme). l ++ t ∷ []) o.1, subst (λ (c : Change). IsVerb o.0 (change_word c)) (sym says.0) o.2, says.1)
goes terms caps now tokens acc t Closing (Edits link cap) w says =
    let o = w.opened in
    finish terms caps now tokens t Closing (Edit link cap) w ([], inl (record { verb = o.0; id = t; spelled = ap (λ (l : List Lexeme). l ++ t ∷ []) o.1; word = o.2.word; closes = o.2.says; id_word = says.1.word; names = says.1.names }, says.0), refl)
goes terms caps now tokens acc t (Number change link) (Edits l cap) w says =
    let o = w.opened in
    finish terms caps now tokens t (Number change link) (Edit l cap) w (
      [],
      inr (
        change,
        record {
          verb = o.0;
          id = o.1;
          number = t;
          spelled = ap (λ (l : List Lexeme). l ++ t ∷ []) o.2;
          word = o.3.word;
          changes = o.3.says;
          id_word = o.4.word;
          names = o.4.names ∙ ap (λ (n : ℕ). Some n) (sym says.0);
          number_word = says.1;
          count = says.2;
          reads = says.3;
          gives = ap (λ (n : ℕ). changed change (get_or now n 0) says.2) says.0 ∙ says.4;
        },
      ),
      refl,
    )
goes terms caps now tokens acc t Command (Expects Command) w says = absurd says
goes terms caps now tokens acc t Command (Expects (Number c l)) w says = absurd says
goes terms caps now tokens acc t Command (Edits l c) w says = absurd says
goes terms caps now tokens acc t (Link change) (Expects Command) w says = absurd says
goes terms caps now tokens acc t (Link change) (Expects (Link c)) w says = absurd says
goes terms caps now tokens acc t (Link change) (Expects Closing) w says = absurd says
goes terms caps now tokens acc t (Link change) (Edits l c) w says = absurd says
goes terms caps now tokens acc t (Link change) Shows w says = absurd says
goes terms caps now tokens acc t Closing (Expects e) w says = absurd says
goes terms caps now tokens acc t Closing Shows w says = absurd says
goes terms caps now tokens acc t (Number change link) (Expects e) w says = absurd says
goes terms caps now tokens acc t (Number change link) Shows w says = absurd says

-- ---- all tokens

abbrev Of : Terms → List ℕ → List Lexeme → ℕ → ScriptRefusal → Type 0
Of terms caps tokens end r = IsOfToken terms caps tokens r ⊎ IsOfEnd terms caps tokens end r

refusal_is : (kind : ScriptKind) (line : ℕ) (r : ScriptRefusal) → refused kind line ≡ Err r → record { line = line; kind = kind } ≡ r
refusal_is kind line r e = cc

at_end : (terms : Terms) (end : ℕ) (caps now : List ℕ) (tokens : List Lexeme) (acc : List Step) (next : Expected) (r : ScriptRefusal) → IsWithin terms caps tokens next now → finished end (state next now acc) next ≡ Err r → IsOfEnd terms caps tokens end r
at_end terms end caps now tokens acc next r w h = by next w h
  where
    made : (e : Expected) → IsWithin terms caps tokens e now → e ≢ Command → refused Syntax end ≡ Err r → IsOfEnd terms caps tokens end r
    made e v unlike k =
        let is = refusal_is Syntax end r k in
        record { next = e; now = now; within = v; unfinished = unlike; kind = sym (ap (λ (x : ScriptRefusal). x.kind) is); line = sym (ap (λ (x : ScriptRefusal). x.line) is) }

    by : (e : Expected) → IsWithin terms caps tokens e now → finished end (state next now acc) e ≡ Err r → IsOfEnd terms caps tokens end r
    by Command v k = absurd cc
    by (Link change) v k = made (Link change) v (λ same. absurd cc) k
    by Closing v k = made Closing v (λ same. absurd cc) k
    by (Number change link) v k = made (Number change link) v (λ same. absurd cc) k

kinds : (terms : Terms) (end : ℕ) (caps : List ℕ) (rest before tokens : List Lexeme) (next : Expected) (now : List ℕ) (acc : List Step) (r : ScriptRefusal) → IsWithin terms caps before next now → tokens ≡ before ++ rest → scan terms end (state next now acc) rest ≡ Err r → Of terms caps tokens end r
kinds terms end caps [] before tokens next now acc r w is h = inr (at_end terms end caps now tokens acc next r (subst (λ (l : List Lexeme). IsWithin terms caps l next now) (sym (is ∙ append-nil before)) w) h)
kinds terms end caps (t ∷ ts) before tokens next now acc r w is h =
    by (λ m v k. kinds terms end caps ts (before ++ t ∷ []) tokens (after (state next now acc) m).expected (after (state next now acc) m).caps (after (state next now acc) m).steps r v (is ∙ sym (append_assoc before (t ∷ []) ts)) k)
    (token_meaning terms (state next now acc) t) (token_says terms next now acc t) h
  where
    by : ((m : Meaning) → Goes terms caps (before ++ t ∷ []) (after (state next now acc) m) → scan terms end (after (state next now acc) m) ts ≡ Err r → Of terms caps tokens end r) → (m : Result Meaning ScriptKind) → Says terms now t next m
        → go_on t.line (λ x. scan terms end (after (state next now acc) x) ts) m ≡ Err r → Of terms caps tokens end r
    by more (Err kind) says k =
        let e = refusal_is kind t.line r k in
        inl (record {
          before = before;
          at = t;
          after = ts;
          parts = is;
          next = next;
          now = now;
          within = w;
          fault = subst (λ (x : ScriptRefusal). IsFault terms now t next x.kind) e says;
          line = sym (ap (λ (x : ScriptRefusal). x.line) e);
        })
    by more (Ok m) says k = more m (goes terms caps now before acc t next m w says) k

pub kind_of_refusal : (terms : Terms) (end : ℕ) (caps : List ℕ) (tokens : List Lexeme) (r : ScriptRefusal) → scan terms end (state Command caps []) tokens ≡ Err r → IsOfToken terms caps tokens r ⊎ IsOfEnd terms caps tokens end r
kind_of_refusal terms end caps tokens r h =
    kinds terms end caps tokens [] tokens Command caps [] r (record { done = []; part = []; steps = []; parts = refl; commands = refl; opened = refl; left = refl }) refl h
