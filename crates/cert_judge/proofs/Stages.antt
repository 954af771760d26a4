-- The chain of judging and its stages.
use Rattle.std.proofs.Common.{◌≡◌, Option, Some, None, Result, Ok, Err, refl, ap, sym, subst}
use Rattle.unit_scale.specs.declared.options.NetOptions.{NetOptions}
use Rattle.unit_scale.specs.Scaling.{ScaledNet, scaled_of}
use Rattle.sndlib_grammar.specs.Rows.{NetRows}
use Rattle.sndlib_grammar.specs.declared.refusal.NetRefusal.{NetRefusal}
use Rattle.cert_lines.specs.declared.refusal.CertRefusal.{CertRefusal}
use Rattle.cert_lines.specs.Forms.{◌>>=◌}
use Rattle.cert_judge.specs.declared.refusal.Refusal.{Refusal}
use Rattle.cert_judge.specs.Chain.{of_net, of_text, unless, read_on, IsSaid, AreStages}
use Rattle.cert_text.proofs.Steps.{bind_ok, done, ok_is}

net_ok : {A : Type 0} (r : Result A NetRefusal) (x : A) → of_net r ≡ Ok x → r ≡ Ok x
net_ok (Ok y) x e = ap (λ z. Ok z) (ok_is {E = Refusal} y x e)
net_ok (Err r) x e = absurd cc

text_ok : {A : Type 0} (r : Result A CertRefusal) (x : A) → of_text r ≡ Ok x → r ≡ Ok x
text_ok (Ok y) x e = ap (λ z. Ok z) (ok_is {E = Refusal} y x e)
text_ok (Err r) x e = absurd cc

nothing_refused : (o : Option NetRefusal) (u : Unit {0}) → of_net (unless o) ≡ Ok u → o ≡ None
nothing_refused None u e = refl
nothing_refused (Some r) u e = absurd cc

module _ {H A : Type 0} (rows : NetRows) (under : H → NetOptions) (more : ScaledNet → Option NetRefusal) (rest : ScaledNet → Result A CertRefusal) (head : Result H CertRefusal) where
  -- where each stage accepts, this is read
  pub stages_read : (net : ScaledNet) (value : A) → AreStages rows under more rest head net value → read_on rows under more rest head ≡ Ok (net, value)
  unfolding read_on
  stages_read net value s = rw (s.head_read, s.scaled, s.fits, s.rest_read) refl

  -- where this is read, each stage accepts
  pub read_stages : (net : ScaledNet) (value : A) → read_on rows under more rest head ≡ Ok (net, value) → AreStages rows under more rest head net value
  unfolding read_on
  read_stages net value e =
      let last = λ (n : ScaledNet) (v : A). done {A = ScaledNet × A} {E = Refusal} (n, v) in
      let a = bind_ok (of_text head) (λ h. of_net (scaled_of rows (under h)) >>= λ n. of_net (unless (more n)) >>= λ fits. of_text (rest n) >>= last n) (net, value) e in
      let b = bind_ok (of_net (scaled_of rows (under a.0))) (λ n. of_net (unless (more n)) >>= λ fits. of_text (rest n) >>= last n) (net, value) a.2 in
      let c = bind_ok (of_net (unless (more b.0))) (λ fits. of_text (rest b.0) >>= last b.0) (net, value) b.2 in
      let d = bind_ok (of_text (rest b.0)) (last b.0) (net, value) c.2 in
      let is = ok_is {E = Refusal} (b.0, d.0) (net, value) d.2 in
      subst (λ (q : ScaledNet × A). AreStages rows under more rest head q.0 q.1) is (record {
        head_of = a.0;
        head_read = text_ok head a.0 a.1;
        scaled = net_ok (scaled_of rows (under a.0)) b.0 b.1;
        fits = nothing_refused (more b.0) c.0 c.1;
        rest_read = text_ok (rest b.0) d.0 d.1;
      })

  module _ {F : Type 0} (refused : Refusal → F) (Of : ScaledNet → A → F → Type 0) (found : F) where
    -- where each stage accepts, what is said is of what was read
    pub said_of : (net : ScaledNet) (value : A) → AreStages rows under more rest head net value → IsSaid refused Of (read_on rows under more rest head) found → Of net value found
    said_of net value s said = subst (λ (r : Result (ScaledNet × A) Refusal). IsSaid refused Of r found) (stages_read net value s) said

    pub says : (net : ScaledNet) (value : A) → AreStages rows under more rest head net value → Of net value found → IsSaid refused Of (read_on rows under more rest head) found
    says net value s of = subst (λ (r : Result (ScaledNet × A) Refusal). IsSaid refused Of r found) (sym (stages_read net value s)) of

    -- where what is said is no refusal, each stage accepted
    pub accepted_by : ((r : Refusal) → found ≡ refused r → ⊥) → IsSaid refused Of (read_on rows under more rest head) found
        → (net : ScaledNet) × (value : A) × AreStages rows under more rest head net value × Of net value found
    accepted_by other said = by (read_on rows under more rest head) refl said
      where
        by : (r : Result (ScaledNet × A) Refusal) → read_on rows under more rest head ≡ r → IsSaid refused Of r found → (net : ScaledNet) × (value : A) × AreStages rows under more rest head net value × Of net value found
        by (Ok x) e s = (x.0, x.1, read_stages x.0 x.1 e, s)
        by (Err r) e s = absurd (other r s)
