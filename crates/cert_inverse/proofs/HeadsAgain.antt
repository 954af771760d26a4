-- The first lines of a text: they say the kind, the form and the options that it was written with.
use Rattle.std.proofs.Common.{◌≡◌, ℕ, ◌+◌, ◌<◌, List, [], ◌∷◌, ◌++◌, length, Bool, Ok, refl, ap, subst, ◌∙◌, arith}
use Rattle.std.specs.Prelude.{codes}
use Rattle.text_lines.specs.Lines.{Line, lines_of}
use Rattle.text_lines.proofs.Laws.{ended, lines_of-text}
use Rattle.unit_scale.specs.Modes.{module_word}
use Rattle.unit_scale.specs.declared.modes.LinkMode.{LinkMode}
use Rattle.unit_scale.specs.declared.modes.LinkMode.TheVariants.{Directed, Undirected, Bidirected}
use Rattle.unit_scale.specs.declared.modes.ModuleMode.{ModuleMode}
use Rattle.unit_scale.specs.declared.modes.ModuleMode.TheVariants.{Ignore, Largest, Sum}
use Rattle.unit_scale.specs.declared.options.NetOptions.{NetOptions}
use Rattle.cert_lines.specs.Sheet.{Sheet}
use Rattle.cert_lines.specs.declared.form.Form.{Form}
use Rattle.cert_lines.specs.declared.form.Form.TheVariants.{First, Second}
use Rattle.cert_lines.specs.HeadLines.{verdict_line}
use Rattle.cert_lines.specs.Spelling.{verdict_words, links_words, modules_words}
use Rattle.cert_text.specs.declared.papers.Paper.{Paper}
use Rattle.cert_text.specs.declared.papers.Paper.TheVariants as papers
use Rattle.cert_text.specs.declared.opening.Kind.TheVariants as kinds
use Rattle.cert_text.specs.Reading.{next_line}
use Rattle.cert_text.specs.Whole.{link_mode_line, module_mode_line, verdict_at, modes_behind, opened_by, head_by, head_in}
use Rattle.cert_writer.specs.Text.{certificate_lines, from_counts}
use Rattle.cert_judge.specs.Fits.{FitsPaper}
use Rattle.cert_inverse.specs.Inverse.{IsCitable, form_word, head_of, link_word_in, paper_lines, paper_text, read_head}
use Rattle.cert_inverse.proofs.HeadAgain.{verdict_again}
use Rattle.cert_inverse.proofs.Headers.{header_words, header_again}
use Rattle.cert_inverse.proofs.TextAgain.{paper_clean, text_is_of_lines}
use Rattle.cert_inverse.proofs.PlacesAgain.{place, next_again}

link_again : (form : Form) (mode : LinkMode) → 0 < length (link_word_in form mode) → link_mode_line form (codes "links" ∷ link_word_in form mode ∷ []) ≡ Ok mode
unfolding link_mode_line
link_again First Directed some = refl
link_again First Undirected some = refl
link_again First Bidirected some = absurd (omega arith)
link_again Second Directed some = refl
link_again Second Undirected some = refl
link_again Second Bidirected some = refl

module_again : (mode : ModuleMode) → module_mode_line (codes "modules" ∷ module_word mode ∷ []) ≡ Ok mode
unfolding module_mode_line
module_again Ignore = refl
module_again Largest = refl
module_again Sum = refl

-- the sheet has the words of this form and these options, and there is one for how links are read
pub record HasModes (sheet : Sheet) (form : Form) (options : NetOptions) : Type 0 where
  pub form_is : sheet.form ≡ form_word form
  pub links : sheet.link_mode ≡ link_word_in form options.links
  pub modules : sheet.module_mode ≡ module_word options.modules

module _ (sheet : Sheet) (form : Form) (options : NetOptions) (own : IsCitable sheet) (h : HasModes sheet form options) where
  links_read : (at : ℕ) (line : Line) (rest : List Line) → next_line (link_mode_line form) (place at (links_words sheet ∷ line ∷ rest)) ≡ Ok (options.links, place (at + 1) (line ∷ rest))
  links_read at line rest =
      let some = subst (λ (w : List ℕ). 0 < length w) h.links own.clear.full_modes.0 in
      next_again (link_mode_line form) at (links_words sheet) (line ∷ rest) options.links refl (ap (λ (w : List ℕ). link_mode_line form (codes "links" ∷ w ∷ [])) h.links ∙ link_again form options.links some)

  modules_read : (at : ℕ) (line : Line) (rest : List Line) → next_line module_mode_line (place at (modules_words sheet ∷ line ∷ rest)) ≡ Ok (options.modules, place (at + 1) (line ∷ rest))
  modules_read at line rest = next_again module_mode_line at (modules_words sheet) (line ∷ rest) options.modules refl (ap (λ (w : List ℕ). module_mode_line (codes "modules" ∷ w ∷ [])) h.modules ∙ module_again options.modules)

  full_head : (closed : Bool) (line : Line) (rest : List Line)
      → head_in (header_words kinds.Certificate sheet.form ∷ verdict_words closed ∷ links_words sheet ∷ modules_words sheet ∷ line ∷ rest) ≡ read_head (record { kind = kinds.Certificate; form = form; links = options.links; modules = options.modules })
  unfolding head_by opened_by verdict_at modes_behind
  full_head closed line rest =
      let behind = links_words sheet ∷ modules_words sheet ∷ line ∷ rest in
      let verdict = next_again verdict_line 2 (verdict_words closed) behind closed refl (verdict_again closed) in
      rw (header_again kinds.Certificate form sheet.form (verdict_words closed) behind h.form_is, verdict, links_read 3 (modules_words sheet) (line ∷ rest), modules_read 4 line rest) refl

  routing_head : (line : Line) (rest : List Line)
      → head_in (header_words kinds.Routing sheet.form ∷ links_words sheet ∷ modules_words sheet ∷ line ∷ rest) ≡ read_head (record { kind = kinds.Routing; form = form; links = options.links; modules = options.modules })
  unfolding head_by opened_by verdict_at modes_behind
  routing_head line rest =
      rw (header_again kinds.Routing form sheet.form (links_words sheet) (modules_words sheet ∷ line ∷ rest) h.form_is, links_read 2 (modules_words sheet) (line ∷ rest), modules_read 3 line rest) refl

lines_head : (sheet : Sheet) (form : Form) (options : NetOptions) (paper : Paper) → IsCitable sheet → HasModes sheet form options → head_in (paper_lines sheet paper ++ ended) ≡ read_head (head_of form options paper)
lines_head sheet form options (papers.Full p) own h = behind (from_counts sheet p ++ ended) refl
  where
    behind : (rest : List Line) → from_counts sheet p ++ ended ≡ rest → head_in (certificate_lines sheet p ++ ended) ≡ read_head (head_of form options (papers.Full p))
    behind [] e = absurd cc
    behind (line ∷ rest) e = ap (λ (ls : List Line). head_in (header_words kinds.Certificate sheet.form ∷ verdict_words p.closed ∷ links_words sheet ∷ modules_words sheet ∷ ls)) e ∙ full_head sheet form options own h p.closed line rest
lines_head sheet form options (papers.Routing r) own h = routing_head sheet form options own h _ _

pub heads_again : (sheet : Sheet) (form : Form) (options : NetOptions) (paper : Paper) → IsCitable sheet → FitsPaper sheet paper → HasModes sheet form options → head_in (lines_of (paper_text sheet paper)) ≡ read_head (head_of form options paper)
heads_again sheet form options paper own fits h =
    ap (λ (text : List ℕ). head_in (lines_of text)) (text_is_of_lines sheet paper)
    ∙ ap head_in (lines_of-text (paper_lines sheet paper) (paper_clean sheet form paper h.form_is own fits))
    ∙ lines_head sheet form options paper own h
