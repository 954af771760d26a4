-- Where the first lines of a text are refused, it stops to begin as a certificate or a routing does.
use Rattle.std.proofs.Common.{Option, ◌≡◌, ℕ, ◌+◌, ◌<◌, ◌≤◌, Bool, true, false, cond, List, [], ◌∷◌, ◌++◌, length, Some, None, Result, Ok, Err, refl, sym, ap, subst, ◌∙◌, append_assoc, append-nil, inl, inr, arith}
use Rattle.std.specs.Prelude.{codes}
use Rattle.std.specs.List.{AllByRecursion}
use Rattle.std.specs.Str.{bytes_eq}
use Rattle.std.proofs.lemmas.List.Concat.{flat_map-cons}
use Rattle.text_lines.specs.Lines.{Line, spelled, text_of, lines_of, IsLine}
use Rattle.text_lines.proofs.Laws.{words_of-joined}
use Rattle.unit_scale.specs.Modes.{module_word, module_mode_of}
use Rattle.unit_scale.specs.declared.modes.LinkMode.{LinkMode}
use Rattle.unit_scale.specs.declared.modes.LinkMode.TheVariants.{Directed, Undirected, Bidirected}
use Rattle.unit_scale.specs.declared.modes.ModuleMode.{ModuleMode}
use Rattle.unit_scale.specs.declared.modes.ModuleMode.TheVariants.{Ignore, Largest, Sum}
use Rattle.unit_scale.specs.declared.options.NetOptions.{NetOptions}
use Rattle.cert_lines.specs.declared.form.Form.{Form}
use Rattle.cert_lines.specs.declared.form.Form.TheVariants.{First, Second}
use Rattle.cert_lines.specs.declared.refusal.CertKind.TheVariants.{Syntax}
use Rattle.cert_lines.specs.declared.refusal.CertRefusal.{CertRefusal}
use Rattle.cert_lines.specs.Forms.{◌>>=◌, or_fault, one_behind}
use Rattle.cert_lines.specs.HeadLines.{verdict_line}
use Rattle.cert_lines.specs.Spelling.{verdict_words}
use Rattle.cert_text.specs.declared.opening.Kind.{Kind}
use Rattle.cert_text.specs.declared.opening.Kind.TheVariants as kinds
use Rattle.cert_text.specs.declared.opening.Opening.{Opening}
use Rattle.cert_text.specs.declared.opening.CertHead.{CertHead}
use Rattle.cert_text.specs.Reading.{Place, next_line, bytes_of, has_more}
use Rattle.cert_text.specs.Papers.{header}
use Rattle.cert_text.specs.Whole.{mode_in, link_mode_line, module_mode_line, verdict_at, modes_behind, said_head, opened_by, head_by, head_in}
use Rattle.cert_text.proofs.LineSteps.{has_line}
use Rattle.cert_text.proofs.Steps.{bind_ok, some_is}
use Rattle.cert_inverse.specs.Inverse.{form_word, link_word_in, read_head}
use Rattle.cert_inverse.proofs.Words.{same_bytes, one_takes}
use Rattle.cert_inverse.proofs.Clean.{clean}
use Rattle.cert_inverse.proofs.HeadTakes.{joined, verdict_takes}
use Rattle.cert_inverse.proofs.HeadAgain.{verdict_again}
use Rattle.cert_inverse.proofs.Headers.{header_words, header_again, header_take}
use Rattle.cert_inverse.proofs.PlacesAgain.{next_again}
use Rattle.cert_inverse.proofs.Between.{text_of-both}
use Rattle.cli_laws.specs.Lines.{whole_lines, StopsAt}
use Rattle.cli_laws.specs.Heads.{verdict_lines, links_line, modules_line, head_lines, IsHeaded, refused_head}
use Rattle.cli_laws.proofs.Steps.{done, failed, Is, then_is}
use Rattle.cli_laws.proofs.Near.{Two, Goes, Both, Past, Steps, Any, AnyTwo, goes_then, next_steps, steps_then, steps_give}
use Rattle.cli_laws.proofs.NearPapers.{header_goes}
use Rattle.cli_laws.proofs.Short.{Stand, Short, Fits, FaultAt, stand_none, within, line_parses, go_on}
use Rattle.cli_laws.proofs.Stuck.{HeaderStands, header_at}
use Rattle.cli_laws.proofs.Stopping.{AreRead, one_line, clean_front, split_lines, stops_at}

-- ---- the same up to a line

abbrev pub options : LinkMode → ModuleMode → NetOptions
options links modules = record { links = links; modules = modules }

-- what the first lines say: the head, and the verdict, where there is one
abbrev pub Opened : Type 0
Opened = CertHead × Option Bool

-- the lines behind the header
abbrev pub opened_from : Opening → Place → Result (Opened × Place) CertRefusal
opened_from o p = verdict_at o.kind p >>= λ v. modes_behind o.form v.1 >>= λ modes. done ((said_head o modes.0, v.0), modes.1)

verdict_steps : (t : Two) (kind : Kind) → Steps t (Both {X = Option Bool} t) (Past {X = Option Bool} t) (verdict_at kind)
unfolding verdict_at
verdict_steps t kinds.Certificate = steps_then t (Both {X = Option Bool} t) (Past {X = Option Bool} t) (next_line verdict_line) (λ v. done (Some v.0, v.1)) (next_steps t verdict_line) (λ v. steps_give t (Some v))
verdict_steps t kinds.Routing = steps_give t None

pub modes_steps : (t : Two) (form : Form) → Steps t (Both {X = NetOptions} t) (Past {X = NetOptions} t) (modes_behind form)
unfolding modes_behind
modes_steps t form =
    steps_then t (Both {X = NetOptions} t) (Past {X = NetOptions} t) (next_line (link_mode_line form)) (λ links. next_line module_mode_line links.1 >>= λ modules. done (options links.0 modules.0, modules.1)) (next_steps t (link_mode_line form))
    (λ l. steps_then t (Both {X = NetOptions} t) (Past {X = NetOptions} t) (next_line module_mode_line) (λ modules. done (options l modules.0, modules.1)) (next_steps t module_mode_line) (λ m. steps_give t (options l m)))

opened_steps : (t : Two) (o : Opening) → Steps t (Both {X = Opened} t) (Past {X = Opened} t) (opened_from o)
opened_steps t o =
    steps_then t (Both {X = Opened} t) (Past {X = Opened} t) (verdict_at o.kind) (λ v. modes_behind o.form v.1 >>= λ modes. done ((said_head o modes.0, v.0), modes.1)) (verdict_steps t o.kind)
    (λ v. steps_then t (Both {X = Opened} t) (Past {X = Opened} t) (modes_behind o.form) (λ modes. done ((said_head o modes.0, v), modes.1)) (modes_steps t o.form) (λ m. steps_give t (said_head o m, v)))

same_refusal : (t : Two) (before : List Line) (r : CertRefusal) → length before + 1 ≡ t.number → r.line ≤ t.number → head_in (before ++ t.line ∷ t.one) ≡ Err r → head_in (before ++ t.line ∷ t.other) ≡ Err r
unfolding head_by opened_by
same_refusal t before r count le e =
    let next = λ (first : Opening × Place). opened_from first.0 first.1 in
    let last = λ (x : Opened × Place). done {A = CertHead} {E = CertRefusal} x.0.0 in
    let one = header (before ++ t.line ∷ t.one) in
    let other = header (before ++ t.line ∷ t.other) in
    by ((one >>= next) >>= last) ((other >>= next) >>= last) e
    (goes_then t (Both {X = Opened} t) (Past {X = Opened} t) (AnyTwo {A = CertHead}) (Any {A = CertHead}) (one >>= next) (other >>= next) last
    (goes_then t (Both {X = Opening} t) (Past {X = Opening} t) (Both {X = Opened} t) (Past {X = Opened} t) one other next (header_goes t before count)
    (λ x y k. subst (λ (z : Opening × Place). Goes t (Both {X = Opened} t) (Past {X = Opened} t) (next x) (next z)) (sym k.1) ((opened_steps t x.0).near x.1 k.0 k.2)) (λ x h. (opened_steps t x.0).past x.1 h))
    (λ x y k. inr tt) (λ x h. tt))
  where
    by : (one other : Result CertHead CertRefusal) → one ≡ Err r → Goes t (AnyTwo {A = CertHead}) (Any {A = CertHead}) one other → other ≡ Err r
    by (Ok x) other h g = absurd cc
    by (Err d) other h (inl k) = k ∙ h
    by (Err d) other h (inr k) = let same : d ≡ r = cc in absurd (omega (arith, ap (λ (x : CertRefusal). x.line) same))

-- ---- lines that were read

abbrev pub HasWord : Form → LinkMode → Type 0
HasWord form links = 0 < length (link_word_in form links)

abbrev Worded : Form → List ℕ → LinkMode → Type 0
Worded form word mode = (word ≡ link_word_in form mode) × HasWord form mode

word_says : (form : Form) (word text : List ℕ) (m mode : LinkMode) → bytes_eq word text ≡ true → text ≡ link_word_in form m → HasWord form m → Some m ≡ Some mode → Worded form word mode
word_says form word text m mode h is some e =
    let same : m ≡ mode = cc in
    subst (λ (x : LinkMode). Worded form word x) same (same_bytes word text h ∙ is, some)

link_word_is : (form : Form) (word : List ℕ) (mode : LinkMode) → mode_in form word ≡ Some mode → Worded form word mode
link_word_is First word mode e = by (bytes_eq word (codes "directed")) (bytes_eq word (codes "undirected")) refl refl e
  where
    by : (a b : Bool) → bytes_eq word (codes "directed") ≡ a → bytes_eq word (codes "undirected") ≡ b → cond a (Some Directed) (cond b (Some Undirected) None) ≡ Some mode → Worded First word mode
    by true b h k s = word_says First word (codes "directed") Directed mode h refl (omega arith) s
    by false true h k s = word_says First word (codes "undirected") Undirected mode k refl (omega arith) s
    by false false h k s = absurd cc
link_word_is Second word mode e = by (bytes_eq word (codes "directed")) (bytes_eq word (codes "undirected")) (bytes_eq word (codes "bidirected")) refl refl refl e
  where
    by : (a b c : Bool) → bytes_eq word (codes "directed") ≡ a → bytes_eq word (codes "undirected") ≡ b → bytes_eq word (codes "bidirected") ≡ c → cond a (Some Directed) (cond b (Some Undirected) (cond c (Some Bidirected) None)) ≡ Some mode → Worded Second word mode
    by true b c h k l s = word_says Second word (codes "directed") Directed mode h refl (omega arith) s
    by false true c h k l s = word_says Second word (codes "undirected") Undirected mode k refl (omega arith) s
    by false false true h k l s = word_says Second word (codes "bidirected") Bidirected mode l refl (omega arith) s
    by false false false h k l s = absurd cc

module_word_is : (word : List ℕ) (mode : ModuleMode) → module_mode_of word ≡ Some mode → word ≡ module_word mode
module_word_is word mode e = by (bytes_eq word (codes "none")) (bytes_eq word (codes "largest")) (bytes_eq word (codes "sum")) refl refl refl e
  where
    is : (text : List ℕ) (m : ModuleMode) → bytes_eq word text ≡ true → text ≡ module_word m → Some m ≡ Some mode → word ≡ module_word mode
    is text m h same s = let k : m ≡ mode = cc in same_bytes word text h ∙ same ∙ ap module_word k

    by : (a b c : Bool) → bytes_eq word (codes "none") ≡ a → bytes_eq word (codes "largest") ≡ b → bytes_eq word (codes "sum") ≡ c → cond a (Some Ignore) (cond b (Some Largest) (cond c (Some Sum) None)) ≡ Some mode → word ≡ module_word mode
    by true b c h k l s = is (codes "none") Ignore h refl s
    by false true c h k l s = is (codes "largest") Largest k refl s
    by false false true h k l s = is (codes "sum") Sum l refl s
    by false false false h k l s = absurd cc

pub links_take : (form : Form) (line : Line) (mode : LinkMode) → link_mode_line form line ≡ Ok mode → (line ≡ links_line form mode) × HasWord form mode
unfolding link_mode_line
links_take form line mode e =
    let a = bind_ok (or_fault Syntax (one_behind (codes "links") line)) (λ word. or_fault Syntax (mode_in form word)) mode e in
    let w = link_word_is form a.0 mode (some_is Syntax (mode_in form a.0) mode a.2) in
    (one_takes (codes "links") line a.0 (some_is Syntax (one_behind (codes "links") line) a.0 a.1) ∙ ap (λ (x : List ℕ). codes "links" ∷ x ∷ []) w.0, w.1)

modules_take : (line : Line) (mode : ModuleMode) → module_mode_line line ≡ Ok mode → line ≡ modules_line mode
unfolding module_mode_line
modules_take line mode e =
    let a = bind_ok (or_fault Syntax (one_behind (codes "modules") line)) (λ word. or_fault Syntax (module_mode_of word)) mode e in
    one_takes (codes "modules") line a.0 (some_is Syntax (one_behind (codes "modules") line) a.0 a.1) ∙ ap (λ (x : List ℕ). codes "modules" ∷ x ∷ []) (module_word_is a.0 mode (some_is Syntax (module_mode_of a.0) mode a.2))

first_word : (form : Form) → HasWord form Directed
first_word First = omega arith
first_word Second = omega arith

-- ---- what was read before a refusal

abbrev pub mode_lines : Form → LinkMode → ModuleMode → List Line
mode_lines form links modules = links_line form links ∷ modules_line modules ∷ []

-- what stands behind the header, up to some line
abbrev pub BehindHead : Kind → Form → List Line → Type 0
BehindHead kind form front = (links : LinkMode) × (modules : ModuleMode) × (closed : Bool) × HasWord form links × (back : List Line) × (verdict_lines kind closed ++ mode_lines form links modules ≡ front ++ back)

pub modes_on : (kind : Kind) (form : Form) (closed : Bool) (start p : Place) → Stand (verdict_lines kind closed) start p → Is (Fits {X = NetOptions × Place}) (Short (BehindHead kind form) start) (modes_behind form p)
unfolding modes_behind
modes_on kind form closed start p stand =
    let lead = verdict_lines kind closed in
    let link = λ (m : LinkMode). links_line form m ∷ [] in
    let module_of = λ (m : ModuleMode). modules_line m ∷ [] in
    let ok = Fits {X = NetOptions × Place} in
    go_on link (HasWord form) ok (BehindHead kind form) start p lead (next_line (link_mode_line form) p) (λ links. next_line module_mode_line links.1 >>= λ modules. done (options links.0 modules.0, modules.1)) stand
    (line_parses (link_mode_line form) (links_line form) (HasWord form) Directed (first_word form) (λ line m h. ap joined (links_take form line m h).0) (λ line m h. (links_take form line m h).1) p)
    (λ f is. (is.0, Ignore, closed, is.1, is.2 ++ module_of Ignore, within lead (link is.0) (module_of Ignore) f is.2 (lead ++ mode_lines form is.0 Ignore) refl is.3))
    (λ l q some st. go_on module_of (Fits {X = ModuleMode}) ok (BehindHead kind form) start q (lead ++ link l) (next_line module_mode_line q) (λ modules. done (options l modules.0, modules.1)) st
    (line_parses module_mode_line modules_line (Fits {X = ModuleMode}) Ignore tt (λ line m h. ap joined (modules_take line m h)) (λ line m h. tt) q)
    (λ f is. (l, is.0, closed, some, is.2 ++ [], within (lead ++ link l) (module_of is.0) [] f is.2 (lead ++ mode_lines form l is.0) (sym (append_assoc lead (link l) (module_of is.0 ++ []))) is.3))
    (λ m r fine st'. tt))

opened_on : (kind : Kind) (form : Form) (closed : Bool) (said : Option Bool) (start p : Place) → Stand (verdict_lines kind closed) start p
    → Is (Fits {X = Opened × Place}) (Short (BehindHead kind form) start) (modes_behind form p >>= λ modes. done ((said_head (record { kind = kind; form = form }) modes.0, said), modes.1))
opened_on kind form closed said start p stand =
    then_is (Fits {X = NetOptions × Place}) (Short (BehindHead kind form) start) (Fits {X = Opened × Place}) (Short (BehindHead kind form) start) (modes_behind form p) (λ modes. done ((said_head (record { kind = kind; form = form }) modes.0, said), modes.1))
    (modes_on kind form closed start p stand) (λ e s. s) (λ x h. tt)

joined_steps : (r : Result (Bool × Place) CertRefusal) (f : Option Bool × Place → Result (Opened × Place) CertRefusal) → (r >>= λ v. f (Some v.0, v.1)) ≡ ((r >>= λ v. done (Some v.0, v.1)) >>= f)
joined_steps (Ok x) f = refl
joined_steps (Err e) f = refl

opened_part : (kind : Kind) (form : Form) (p : Place) → Is (Fits {X = Opened × Place}) (Short (BehindHead kind form) p) (opened_from (record { kind = kind; form = form }) p)
unfolding verdict_at
opened_part kinds.Certificate form p =
    let verdict = λ (v : Bool). verdict_words v ∷ [] in
    let o : Opening = record { kind = kinds.Certificate; form = form } in
    let f = λ (v : Option Bool × Place). modes_behind form v.1 >>= λ modes. done {A = Opened × Place} {E = CertRefusal} ((said_head o modes.0, v.0), modes.1) in
    subst (Is (Fits {X = Opened × Place}) (Short (BehindHead kinds.Certificate form) p)) (joined_steps (next_line verdict_line p) f)
    (go_on verdict (Fits {X = Bool}) (Fits {X = Opened × Place}) (BehindHead kinds.Certificate form) p p [] (next_line verdict_line p) (λ v. f (Some v.0, v.1)) (stand_none p)
    (line_parses verdict_line verdict_words (Fits {X = Bool}) true tt verdict_takes (λ line v h. tt) p)
    (λ g is. (Directed, Ignore, is.0, first_word form, is.2 ++ mode_lines form Directed Ignore, within [] (verdict is.0) (mode_lines form Directed Ignore) g is.2 (verdict is.0 ++ mode_lines form Directed Ignore) refl is.3))
    (λ v q fine st. opened_on kinds.Certificate form v (Some v) p q st))
opened_part kinds.Routing form p = opened_on kinds.Routing form true None p p (stand_none p)

-- the lines before the refusal begin those of a head
record IsStuck (lines : List Line) (e : CertRefusal) : Type 0 where
  head : CertHead
  closed : Bool
  worded : HasWord head.form head.links
  front : List Line
  back : List Line
  whole : head_lines head closed ≡ front ++ back
  rest : List Line
  bytes : bytes_of lines ≡ text_of front ++ bytes_of rest
  line : e.line ≡ 1 + length front

stuck : (lines : List Line) (e : CertRefusal) → head_in lines ≡ Err e → IsStuck lines e
unfolding head_by opened_by
stuck lines e is = by (header lines) refl (header_at lines) is
  where
    some : CertHead
    some = record { kind = kinds.Routing; form = Second; links = Directed; modules = Ignore }

    at_first : (d : CertRefusal) → FaultAt 1 d → failed CertHead d ≡ failed CertHead e → IsStuck lines e
    at_first d first k =
        let same : d ≡ e = cc in
        record {
          head = some;
          closed = true;
          worded = omega arith;
          front = [];
          back = head_lines some true;
          whole = refl;
          rest = lines;
          bytes = refl;
          line = sym (ap (λ (x : CertRefusal). x.line) same) ∙ first;
        }

    behind : (x : Opening × Place) → header lines ≡ Ok x → HeaderStands x → Short (BehindHead x.0.kind x.0.form) x.1 e → IsStuck lines e
    behind x h at s =
        let first = header_words x.0.kind (form_word x.0.form) in
        let head : CertHead = record { kind = x.0.kind; form = x.0.form; links = s.is.0; modules = s.is.1 } in
        record {
          head = head;
          closed = s.is.2;
          worded = s.is.3;
          front = first ∷ s.front;
          back = s.is.4;
          whole = whole_is x.0.kind x.0.form s.is.0 s.is.1 s.is.2 (s.front ++ s.is.4) s.is.5;
          rest = s.rest;
          bytes =
              header_take lines x h ∙ ap (λ (l : List ℕ). spelled first ++ l) s.bytes
              ∙ sym (append_assoc (spelled first) (text_of s.front) (bytes_of s.rest)) ∙ ap (λ (l : List ℕ). l ++ bytes_of s.rest) (sym (flat_map-cons spelled first s.front));
          line = omega (arith, s.line, at);
        }
      where
        whole_is : (kind : Kind) (form : Form) (links : LinkMode) (modules : ModuleMode) (closed : Bool) (ls : List Line) → verdict_lines kind closed ++ mode_lines form links modules ≡ ls
            → head_lines (record { kind = kind; form = form; links = links; modules = modules }) closed ≡ header_words kind (form_word form) ∷ ls
        whole_is kinds.Certificate form links modules closed ls k = ap (λ (l : List Line). header_words kinds.Certificate (form_word form) ∷ l) k
        whole_is kinds.Routing form links modules closed ls k = ap (λ (l : List Line). header_words kinds.Routing (form_word form) ∷ l) k

    by : (r : Result (Opening × Place) CertRefusal) → header lines ≡ r → Is HeaderStands (FaultAt 1) r → ((r >>= λ first. opened_from first.0 first.1) >>= λ x. done {A = CertHead} {E = CertRefusal} x.0.0) ≡ Err e → IsStuck lines e
    by (Err d) h at k = at_first d at k
    by (Ok x) h at k = behind x h at (subst (Is (Fits {X = CertHead}) (Short (BehindHead x.0.kind x.0.form) x.1)) k
        (then_is (Fits {X = Opened × Place}) (Short (BehindHead x.0.kind x.0.form) x.1) (Fits {X = CertHead}) (Short (BehindHead x.0.kind x.0.form) x.1) (opened_from x.0 x.1) (λ y. done y.0.0) (opened_part x.0.kind x.0.form x.1) (λ d s. s) (λ m s. tt)))

-- ---- what is spelled so is read

pub link_again : (form : Form) (mode : LinkMode) → HasWord form mode → link_mode_line form (links_line form mode) ≡ Ok mode
unfolding link_mode_line
link_again First Directed some = refl
link_again First Undirected some = refl
link_again First Bidirected some = absurd (omega arith)
link_again Second Directed some = refl
link_again Second Undirected some = refl
link_again Second Bidirected some = refl

pub module_again : (mode : ModuleMode) → module_mode_line (modules_line mode) ≡ Ok mode
unfolding module_mode_line
module_again Ignore = refl
module_again Largest = refl
module_again Sum = refl

head_read : (kind : Kind) (form : Form) (links : LinkMode) (modules : ModuleMode) (closed : Bool) (line : Line) (rest : List Line) → HasWord form links
    → head_in (head_lines (record { kind = kind; form = form; links = links; modules = modules }) closed ++ line ∷ rest) ≡ read_head (record { kind = kind; form = form; links = links; modules = modules })
unfolding head_by opened_by verdict_at modes_behind
head_read kinds.Certificate form links modules closed line rest some =
    let behind = mode_lines form links modules ++ line ∷ rest in
    let verdict = next_again verdict_line 2 (verdict_words closed) behind closed refl (verdict_again closed) in
    let link = next_again (link_mode_line form) 3 (links_line form links) (modules_line modules ∷ line ∷ rest) links refl (link_again form links some) in
    let last = next_again module_mode_line 4 (modules_line modules) (line ∷ rest) modules refl (module_again modules) in
    rw (header_again kinds.Certificate form (form_word form) (verdict_words closed) behind refl, verdict, link, last) refl
head_read kinds.Routing form links modules closed line rest some =
    let link = next_again (link_mode_line form) 2 (links_line form links) (modules_line modules ∷ line ∷ rest) links refl (link_again form links some) in
    let last = next_again module_mode_line 3 (modules_line modules) (line ∷ rest) modules refl (module_again modules) in
    rw (header_again kinds.Routing form (form_word form) (links_line form links) (modules_line modules ∷ line ∷ rest) refl, link, last) refl

clean_header : (kind : Kind) (form : Form) → IsLine (header_words kind (form_word form))
clean_header kinds.Certificate First = (clean (codes "mcf-certificate") refl, (clean (codes "1") refl, tt))
clean_header kinds.Certificate Second = (clean (codes "mcf-certificate") refl, (clean (codes "2") refl, tt))
clean_header kinds.Routing First = (clean (codes "mcf-routing") refl, (clean (codes "1") refl, tt))
clean_header kinds.Routing Second = (clean (codes "mcf-routing") refl, (clean (codes "2") refl, tt))

pub clean_links : (form : Form) (mode : LinkMode) → IsLine (links_line form mode)
clean_links First Directed = (clean (codes "links") refl, (clean (codes "directed") refl, tt))
clean_links First Undirected = (clean (codes "links") refl, (clean (codes "undirected") refl, tt))
clean_links First Bidirected = (clean (codes "links") refl, (tt, tt))
clean_links Second Directed = (clean (codes "links") refl, (clean (codes "directed") refl, tt))
clean_links Second Undirected = (clean (codes "links") refl, (clean (codes "undirected") refl, tt))
clean_links Second Bidirected = (clean (codes "links") refl, (clean (codes "bidirected") refl, tt))

pub clean_modules : (mode : ModuleMode) → IsLine (modules_line mode)
clean_modules Ignore = (clean (codes "modules") refl, (clean (codes "none") refl, tt))
clean_modules Largest = (clean (codes "modules") refl, (clean (codes "largest") refl, tt))
clean_modules Sum = (clean (codes "modules") refl, (clean (codes "sum") refl, tt))

pub clean_verdict : (closed : Bool) → IsLine (verdict_words closed)
clean_verdict true = (clean (codes "verdict") refl, (clean (codes "closed") refl, tt))
clean_verdict false = (clean (codes "verdict") refl, (clean (codes "open") refl, tt))

clean_head : (kind : Kind) (form : Form) (links : LinkMode) (modules : ModuleMode) (closed : Bool) → AllByRecursion IsLine (head_lines (record { kind = kind; form = form; links = links; modules = modules }) closed)
clean_head kinds.Certificate form links modules closed = (clean_header kinds.Certificate form, (clean_verdict closed, (clean_links form links, (clean_modules modules, tt))))
clean_head kinds.Routing form links modules closed = (clean_header kinds.Routing form, (clean_links form links, (clean_modules modules, tt)))

-- lines, and what stands behind them
pub lines_front : (lines : List Line) (more : List ℕ) → AllByRecursion IsLine lines → lines_of (text_of lines ++ more) ≡ lines ++ lines_of more
lines_front [] more h = refl
lines_front (line ∷ lines) more h =
    let e : text_of (line ∷ lines) ++ more ≡ whole_lines [] ++ (joined line ++ 10 ∷ (text_of lines ++ more)) =
    ap (λ (l : List ℕ). l ++ more) (flat_map-cons spelled line lines) ∙ append_assoc (spelled line) (text_of lines) more ∙ append_assoc (joined line) (10 ∷ []) (text_of lines ++ more) in
    ap lines_of e ∙ split_lines [] (joined line) (text_of lines ++ more) tt (one_line line h.0) ∙ ap (λ (l : Line). l ∷ lines_of (text_of lines ++ more)) (words_of-joined line h.0)
    ∙ ap (λ (l : List Line). line ∷ l) (lines_front lines more h.1)

headed_read : (text : List ℕ) → (h : IsHeaded text) → head_in (lines_of text) ≡ read_head h.head
headed_read text h =
    let head = h.head in
    ap (λ (t : List ℕ). head_in (lines_of t)) h.spelled
    ∙ ap head_in (lines_front (head_lines head h.closed) h.more (clean_head head.kind head.form head.links head.modules h.closed))
    ∙ by (lines_of h.more) (has_line h.more)
  where
    by : (ls : List Line) → has_more ls ≡ true → head_in (head_lines h.head h.closed ++ ls) ≡ read_head h.head
    by [] e = absurd cc
    by (line ∷ rest) e = head_read h.head.kind h.head.form h.head.links h.head.modules h.closed line rest h.worded

are_read : AreRead IsHeaded head_in
are_read = record { again = λ text is. (is.head, headed_read text is); same = same_refusal }

pub head_stops : (text : List ℕ) (r : CertRefusal) → head_in (lines_of text) ≡ refused_head r → StopsAt IsHeaded text r.line
head_stops text r e =
    let s = stuck (lines_of text) r e in
    let head = s.head in
    let clean = subst (AllByRecursion IsLine) s.whole (clean_head head.kind head.form head.links head.modules s.closed) in
    let whole : text_of s.front ++ text_of s.back ≡ text_of (head_lines head s.closed) ++ [] = text_of-both s.front s.back ∙ ap text_of (sym s.whole) ∙ sym (append-nil (text_of (head_lines head s.closed))) in
    stops_at IsHeaded head_in are_read text r e s.front s.rest (clean_front s.front s.back clean) s.bytes s.line
    (text_of s.back, record { head = head; closed = s.closed; worded = s.worded; more = []; spelled = whole })
