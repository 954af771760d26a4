-- The first lines of a text, which say its kind, its form, and how links and modules are read.
use Rattle.std.specs.Prelude.{◌≡◌, ℕ, ◌<◌, Bool, List, [], ◌∷◌, ◌++◌, length, codes, Result, Err}
use Rattle.text_lines.specs.Lines.{Line, text_of}
use Rattle.unit_scale.specs.Modes.{module_word}
use Rattle.unit_scale.specs.declared.modes.LinkMode.{LinkMode}
use Rattle.unit_scale.specs.declared.modes.ModuleMode.{ModuleMode}
use Rattle.cert_lines.specs.declared.form.Form.{Form}
use Rattle.cert_lines.specs.declared.refusal.CertRefusal.{CertRefusal}
use Rattle.cert_lines.specs.Spelling.{verdict_words}
use Rattle.cert_text.specs.declared.opening.Kind.{Kind}
use Rattle.cert_text.specs.declared.opening.Kind.TheVariants.{Certificate, Routing}
use Rattle.cert_text.specs.declared.opening.CertHead.{CertHead}
use Rattle.cert_inverse.specs.Inverse.{form_word, link_word_in}

abbrev pub kind_word : Kind → List ℕ
kind_word Certificate = codes "mcf-certificate"
kind_word Routing = codes "mcf-routing"

-- a certificate has a verdict
abbrev pub verdict_lines : Kind → Bool → List Line
verdict_lines Certificate closed = verdict_words closed ∷ []
verdict_lines Routing closed = []

abbrev pub links_line : Form → LinkMode → Line
links_line form links = codes "links" ∷ link_word_in form links ∷ []

abbrev pub modules_line : ModuleMode → Line
modules_line modules = codes "modules" ∷ module_word modules ∷ []

-- the first lines that say this
abbrev pub head_lines : CertHead → Bool → List Line
head_lines head closed =
    (kind_word head.kind ∷ form_word head.form ∷ [])
    ∷ (verdict_lines head.kind closed ++ links_line head.form head.links ∷ modules_line head.modules ∷ [])

-- the text begins with lines that say a kind, a form and the modes, for which that form has words
pub record IsHeaded (text : List ℕ) : Type 0 where
  pub head : CertHead
  pub closed : Bool
  pub worded : 0 < length (link_word_in head.form head.links)
  pub more : List ℕ
  pub spelled : text ≡ text_of (head_lines head closed) ++ more

-- what reading the first lines answers where it refuses
abbrev pub refused_head : CertRefusal → Result CertHead CertRefusal
refused_head r = Err r
