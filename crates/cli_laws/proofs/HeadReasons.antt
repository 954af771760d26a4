-- Why the first lines of a text are refused at a line.
use Rattle.std.proofs.Common.{◌≡◌, ℕ, ◌+◌, Bool, true, false, cond, List, [], ◌∷◌, Option, Some, None, Result, Err, refl, sym, ap, subst, ◌∙◌, inl, inr, arith}
use Rattle.std.specs.Prelude.{codes}
use Rattle.text_lines.specs.Lines.{Line}
use Rattle.unit_scale.specs.declared.modes.LinkMode.{LinkMode}
use Rattle.unit_scale.specs.declared.modes.ModuleMode.{ModuleMode}
use Rattle.unit_scale.specs.declared.options.NetOptions.{NetOptions}
use Rattle.unit_scale.specs.Modes.{module_mode_of}
use Rattle.cert_lines.specs.declared.form.Form.{Form}
use Rattle.cert_lines.specs.declared.refusal.CertKind.{CertKind}
use Rattle.cert_lines.specs.declared.refusal.CertKind.TheVariants.{Syntax}
use Rattle.cert_lines.specs.declared.refusal.CertRefusal.{CertRefusal}
use Rattle.cert_lines.specs.Forms.{◌>>=◌, or_fault, one_behind}
use Rattle.cert_lines.specs.HeadLines.{verdict_line}
use Rattle.cert_text.specs.declared.opening.Kind.{Kind}
use Rattle.cert_text.specs.declared.opening.Kind.TheVariants as kinds
use Rattle.cert_text.specs.declared.opening.Opening.{Opening}
use Rattle.cert_text.specs.declared.opening.CertHead.{CertHead}
use Rattle.cert_text.specs.Reading.{Place, has_more, next_line}
use Rattle.cert_text.specs.Papers.{form_of, header_of, header, header_by}
use Rattle.cert_text.specs.Whole.{mode_in, link_mode_line, module_mode_line, verdict_at, modes_behind, said_head, opened_by, head_by, head_in}
use Rattle.cli_laws.specs.LineRoles.{TextKind, HeadRole, verdict, links, modules, head_line, paper, StandsAt}
use Rattle.cli_laws.specs.PaperKinds.{Says}
use Rattle.cli_laws.specs.HeadKinds.{SaysNothing, IsSilent, IsHeadReason, IsHeadRefusedFor}
use Rattle.cli_laws.specs.Refusals.{Reason, HasReason}
use Rattle.cli_laws.proofs.Steps.{done, Is, then_is, is_more}
use Rattle.cli_laws.proofs.LineReasons.{no_verdict}
use Rattle.cli_laws.proofs.Heads.{Opened, options, opened_from, link_again, module_again}
use Rattle.cli_laws.proofs.Reasons.{At, Reached, Anything, no_more, with_reason, next_of}

-- ---- a line that is refused

link_kind : (form : Form) (line : Line) (kind : CertKind) → link_mode_line form line ≡ Err kind → kind ≡ Syntax
unfolding link_mode_line
link_kind form line kind e = by (one_behind (codes "links") line) e
  where
    mode : (o : Option LinkMode) → or_fault Syntax o ≡ Err kind → kind ≡ Syntax
    mode None k = let same : Syntax ≡ kind = cc in sym same
    mode (Some m) k = absurd cc

    by : (o : Option (List ℕ)) → (or_fault Syntax o >>= λ word. or_fault Syntax (mode_in form word)) ≡ Err kind → kind ≡ Syntax
    by None k = let same : Syntax ≡ kind = cc in sym same
    by (Some word) k = mode (mode_in form word) k

module_kind : (line : Line) (kind : CertKind) → module_mode_line line ≡ Err kind → kind ≡ Syntax
unfolding module_mode_line
module_kind line kind e = by (one_behind (codes "modules") line) e
  where
    mode : (o : Option ModuleMode) → or_fault Syntax o ≡ Err kind → kind ≡ Syntax
    mode None k = let same : Syntax ≡ kind = cc in sym same
    mode (Some m) k = absurd cc

    by : (o : Option (List ℕ)) → (or_fault Syntax o >>= λ word. or_fault Syntax (module_mode_of word)) ≡ Err kind → kind ≡ Syntax
    by None k = let same : Syntax ≡ kind = cc in sym same
    by (Some word) k = mode (module_mode_of word) k

both_never : {X : Type 0} (x : X) (kind : CertKind) → done {A = X} {E = CertKind} x ≡ Err kind → ⊥
both_never x kind e = cc

abbrev Silent : Form → HeadRole → Line → CertKind → Type 0
Silent form role line kind = (kind ≡ Syntax) × SaysNothing form role line

no_links : (form : Form) (line : Line) (kind : CertKind) → link_mode_line form line ≡ Err kind → Silent form links line kind
no_links form line kind e = (
  link_kind form line kind e,
  λ mode (same, some). both_never mode kind (sym (ap (link_mode_line form) same ∙ link_again form mode some) ∙ e),
)

no_modules : (form : Form) (line : Line) (kind : CertKind) → module_mode_line line ≡ Err kind → Silent form modules line kind
no_modules form line kind e = (module_kind line kind e, λ mode same. both_never mode kind (sym (ap module_mode_line same ∙ module_again mode) ∙ e))

-- ---- lines behind the first one

-- why one of them is refused
abbrev pub IsHeadFault : TextKind → Form → Reason
IsHeadFault kind form before line after e = (e.kind ≡ Syntax) × IsSilent kind form line after e.line

abbrev pub Why : List Line → TextKind → Form → CertRefusal → Type 0
Why lines kind form e = HasReason lines (IsHeadFault kind form) e

module _ (lines : List Line) (kind : TextKind) (form : Form) where
  pub next_why : {X : Type 0} (read : Line → Result X CertKind) (role : HeadRole) → ((line : Line) (k : CertKind) → read line ≡ Err k → Silent form role line k) → (n : ℕ) (p : Place) → At lines p → p.at ≡ n
      → StandsAt kind (head_line role) n → Is (Reached {X = X} lines (n + 1)) (Why lines kind form) (next_line read p)
  next_why read role fault n p h is stands =
      next_of lines (IsHeadFault kind form) (λ before line at. (refl, inl refl)) read n p h is
      (λ line after k more e. let s = fault line k e in (s.0, inr (more, role, subst (StandsAt kind (head_line role)) (sym is) stands, s.1)))

  pub go : {A B : Type 0} (ok : A → Type 0) (ok' : B → Type 0) (r : Result A CertRefusal) (g : A → Result B CertRefusal) → Is ok (Why lines kind form) r → ((x : A) → ok x → Is ok' (Why lines kind form) (g x)) → Is ok' (Why lines kind form) (r >>= g)
  go ok ok' r g h next = then_is ok (Why lines kind form) ok' (Why lines kind form) r g h (λ e w. w) next

  pub modes_why : (n : ℕ) (p : Place) → At lines p → p.at ≡ n → StandsAt kind (head_line links) n → StandsAt kind (head_line modules) (n + 1) → Is (Anything {X = NetOptions × Place}) (Why lines kind form) (modes_behind form p)
  unfolding modes_behind
  modes_why n p h is s t =
      let last = λ (l : LinkMode) (m : ModuleMode × Place). done {A = NetOptions × Place} {E = CertRefusal} (options l m.0, m.1) in
      go (Reached {X = LinkMode} lines (n + 1)) (Anything {X = NetOptions × Place}) (next_line (link_mode_line form) p) (λ l. next_line module_mode_line l.1 >>= λ m. last l.0 m) (next_why (link_mode_line form) links (no_links form) n p h is s)
      (λ l hl. go (Reached {X = ModuleMode} lines (n + 1 + 1)) (Anything {X = NetOptions × Place}) (next_line module_mode_line l.1) (λ m. last l.0 m) (next_why module_mode_line modules (no_modules form) (n + 1) l.1 hl.0 hl.1 t) (λ m hm. tt))

behind_why : (lines : List Line) (o : Opening) (said : Option Bool) (n : ℕ) (p : Place) → At lines p → p.at ≡ n → StandsAt (paper o.kind) (head_line links) n → StandsAt (paper o.kind) (head_line modules) (n + 1)
    → Is (Anything {X = Opened × Place}) (Why lines (paper o.kind) o.form) (modes_behind o.form p >>= λ modes. done ((said_head o modes.0, said), modes.1))
behind_why lines o said n p h is s t = go lines (paper o.kind) o.form (Anything {X = NetOptions × Place}) (Anything {X = Opened × Place}) (modes_behind o.form p) (λ modes. done ((said_head o modes.0, said), modes.1)) (modes_why lines (paper o.kind) o.form n p h is s t) (λ m hm. tt)

opened_why : (lines : List Line) (kind : Kind) (form : Form) (p : Place) → At lines p → p.at ≡ 2 → Is (Anything {X = Opened × Place}) (Why lines (paper kind) form) (opened_from (record { kind = kind; form = form }) p)
unfolding verdict_at
opened_why lines kinds.Routing form p h is = behind_why lines (record { kind = kinds.Routing; form = form }) None 2 p h is (omega arith, refl) (omega arith, refl)
opened_why lines kinds.Certificate form p h is =
    let o : Opening = record { kind = kinds.Certificate; form = form } in
    let kind = paper kinds.Certificate in
    let back = λ (v : Option Bool × Place). modes_behind form v.1 >>= λ modes. done {A = Opened × Place} {E = CertRefusal} ((said_head o modes.0, v.0), modes.1) in
    let any = Anything {X = Opened × Place} in
    let first = next_line verdict_line p in
    go lines kind form (Reached {X = Option Bool} lines 3) any (first >>= λ v. done {A = Option Bool × Place} {E = CertRefusal} (Some v.0, v.1)) back
    (go lines kind form (Reached {X = Bool} lines 3) (Reached {X = Option Bool} lines 3) first (λ v. done (Some v.0, v.1)) (next_why lines kind form verdict_line verdict (λ line k e. no_verdict line k e) 2 p h is (omega arith, refl)) (λ v hv. hv))
    (λ v hv. behind_why lines o v.0 3 v.1 hv.0 hv.1 (omega arith, refl) (omega arith, refl))

-- ---- the first line

abbrev Started : List Line → Opening × Place → Type 0
Started lines x = At lines x.1 × (x.1.at ≡ 2) × Says lines x.0

header_why : (line : Line) (rest : List Line) → Is (Started (line ∷ rest)) (IsHeadRefusedFor (line ∷ rest)) (header (line ∷ rest))
unfolding header_by
header_why line rest = by (form_of line) refl
  where
    known : (o : Opening) (b : Bool) → has_more rest ≡ b → form_of line ≡ Some o → Is (Started (line ∷ rest)) (IsHeadRefusedFor (line ∷ rest)) (cond b (done (o, record { at = 2; rest = rest })) (Err (record { line = 1; kind = Syntax })))
    known o true m e = (record { front = line ∷ []; parts = refl; at = refl; more = m }, refl, e)
    known o false m e = record { before = []; line = line; after = rest; parts = refl; count = refl; reason = inr (refl, o, e, inl (no_more rest m)) }

    by : (o : Option Opening) → form_of line ≡ o → Is (Started (line ∷ rest)) (IsHeadRefusedFor (line ∷ rest)) (header_of o rest)
    by None e = record { before = []; line = line; after = rest; parts = refl; count = refl; reason = inl (refl, e, refl) }
    by (Some o) e = known o (has_more rest) refl e

pub head_refused_for : (lines : List Line) (r : CertRefusal) → has_more lines ≡ true → head_in lines ≡ Err r → IsHeadRefusedFor lines r
unfolding head_by opened_by
head_refused_for [] r m e = absurd cc
head_refused_for (line ∷ rest) r m e =
    let lines = line ∷ rest in
    let any = Anything {X = Opened × Place} in
    let head = Anything {X = CertHead} in
    subst (Is head (IsHeadRefusedFor lines)) e
    (then_is any (IsHeadRefusedFor lines) head (IsHeadRefusedFor lines) (header lines >>= λ first. opened_from first.0 first.1) (λ x. done {A = CertHead} {E = CertRefusal} x.0.0)
    (then_is (Started lines) (IsHeadRefusedFor lines) any (IsHeadRefusedFor lines) (header lines) (λ first. opened_from first.0 first.1) (header_why line rest) (λ d k. k)
    (λ x s. is_more any (Why lines (paper x.0.kind) x.0.form) any (IsHeadRefusedFor lines) (opened_from x.0 x.1) (opened_why lines x.0.kind x.0.form x.1 s.0 s.1) (λ d w. with_reason lines (IsHeadFault (paper x.0.kind) x.0.form) (IsHeadReason lines) (λ before line after d k. inr (k.0, x.0, s.2, k.1)) d w) (λ p k. k))) (λ d k. k) (λ x k. tt))
