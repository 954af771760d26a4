-- A chain of judging: the head of a text, the network in units under its options, what a command refuses of
-- the network, the rest of the text. It stops at the first refusal; of what was read something is said.
use Rattle.std.specs.Prelude.{◌≡◌, Option, Some, None, Result, Ok, Err}
use Rattle.unit_scale.specs.declared.options.NetOptions.{NetOptions}
use Rattle.unit_scale.specs.Scaling.{ScaledNet, scaled_of}
use Rattle.sndlib_grammar.specs.Rows.{NetRows}
use Rattle.sndlib_grammar.specs.declared.refusal.NetRefusal.{NetRefusal}
use Rattle.cert_lines.specs.declared.refusal.CertRefusal.{CertRefusal}
use Rattle.cert_lines.specs.Forms.{◌>>=◌}
use Rattle.cert_judge.specs.declared.refusal.Refusal.{Refusal}
use Rattle.cert_judge.specs.declared.refusal.Refusal.TheVariants.{Net, Cert}
use Rattle.cert_judge.specs.declared.refusal.ReadEnd.{ReadEnd}
use Rattle.cert_judge.specs.declared.refusal.ReadEnd.TheVariants.{Refused, Memory}

-- a stage that the network may be refused at
abbrev pub of_net : {A : Type 0} → Result A NetRefusal → Result A Refusal
of_net (Ok x) = Ok x
of_net (Err r) = Err (Net r)

-- a stage that the text may be refused at
abbrev pub of_text : {A : Type 0} → Result A CertRefusal → Result A Refusal
of_text (Ok x) = Ok x
of_text (Err r) = Err (Cert r)

-- nothing, or that refusal
abbrev pub unless : Option NetRefusal → Result (Unit {0}) NetRefusal
unless None = Ok tt
unless (Some r) = Err r

-- the network in units and the value that the text stands for, or the first refusal
unfoldable pub read_on : {H A : Type 0} → NetRows → (H → NetOptions) → (ScaledNet → Option NetRefusal)
    → (ScaledNet → Result A CertRefusal) → Result H CertRefusal → Result (ScaledNet × A) Refusal
read_on rows under more rest head = do
  h ← of_text head
  net ← of_net (scaled_of rows (under h))
  fits ← of_net (unless (more net))
  value ← of_text (rest net)
  Ok (net, value)

-- a refusal is said as it is, and this of a network and a value
abbrev pub IsSaid : {A F : Type 0} → (Refusal → F) → (ScaledNet → A → F → Type 0)
    → Result (ScaledNet × A) Refusal → F → Type 0
IsSaid refused Of (Err r) found = found ≡ refused r
IsSaid refused Of (Ok x) found = Of x.0 x.1 found

-- each stage accepts, and these are the network and the value
pub record AreStages {H A : Type 0} (rows : NetRows) (under : H → NetOptions)
    (more : ScaledNet → Option NetRefusal) (rest : ScaledNet → Result A CertRefusal)
    (head : Result H CertRefusal) (net : ScaledNet) (value : A) : Type 0 where
  pub head_of : H
  pub head_read : head ≡ Ok head_of
  pub scaled : scaled_of rows (under head_of) ≡ Ok net
  pub fits : more net ≡ None
  pub rest_read : rest net ≡ Ok value

-- what was read is what the chain gives, unless memory ran out
abbrev pub Ends : {A : Type 0} → ReadEnd → Result A Refusal → Type 0
Ends (Refused r) chain = chain ≡ Err r
Ends Memory chain = Unit {0}

abbrev pub Reads : {A : Type 0} → Result A ReadEnd → Result A Refusal → Type 0
Reads (Ok x) chain = chain ≡ Ok x
Reads (Err end) chain = Ends end chain
