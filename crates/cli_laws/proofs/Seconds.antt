-- What is refused of a second text, by what its first lines say.
use Rattle.std.proofs.Common.{◌≡◌, ℕ, List, true, false, Result, Ok, Err, refl, sym, ap, ◌∙◌}
use Rattle.text_lines.specs.Lines.{Line, lines_of}
use Rattle.sndlib_grammar.specs.Rows.{NetRows}
use Rattle.unit_scale.specs.declared.options.NetOptions.{NetOptions}
use Rattle.cert_lines.specs.declared.refusal.CertRefusal.{CertRefusal}
use Rattle.cert_lines.specs.Forms.{◌>>=◌}
use Rattle.cert_text.specs.declared.opening.CertHead.{CertHead}
use Rattle.cert_text.specs.declared.opening.Known.TheVariants.{Certificates}
use Rattle.cert_text.specs.declared.papers.Paper.{Paper}
use Rattle.cert_text.specs.Whole.{head_by}
use Rattle.cert_judge.specs.declared.refusal.Refusal.TheVariants.{Cert}
use Rattle.cert_judge.specs.Chain.{read_on}
use Rattle.cert_judge.specs.Papers.{nothing_more, options_of, rest_on}
use Rattle.cert_judge.specs.Second.{head_under, other_at, same_links, same_modules, under}
use Rattle.cli_laws.specs.Seconds.{SecondsAreRefused}

-- what the first lines say goes on to the modes
head_is : (o : NetOptions) (lines : List Line) (r : Result CertHead CertRefusal) → head_by Certificates lines ≡ r → head_under o lines ≡ (r >>= λ (head : CertHead). under o head)
unfolding head_under
head_is o lines r e = ap (λ (x : Result CertHead CertRefusal). x >>= (λ (head : CertHead). under o head)) e

-- a refused head is the chain's refusal
refused_chain : (rows : NetRows) (text : List ℕ) (r : CertRefusal) → read_on {H = CertHead} {A = Paper} rows options_of nothing_more (rest_on rows text) (Err r) ≡ Err (Cert r)
unfolding read_on
refused_chain rows text r = refl

other_links : (o : NetOptions) (head : CertHead) → same_links head.links o.links ≡ false → under o head ≡ Err (other_at 3)
other_links o head e = rw e refl

other_modules : (o : NetOptions) (head : CertHead) → same_links head.links o.links ≡ true → same_modules head.modules o.modules ≡ false → under o head ≡ Err (other_at 4)
other_modules o head e f = rw (e, f) refl

same_modes : (o : NetOptions) (head : CertHead) → same_links head.links o.links ≡ true → same_modules head.modules o.modules ≡ true → under o head ≡ Ok head
same_modes o head e f = rw (e, f) refl

pub seconds_refused : SecondsAreRefused
seconds_refused rows o text = record {
  head = λ r e. chain (head_is o lines (Err r) e) ∙ refused_chain rows text r;
  links = λ head e l. chain (head_is o lines (Ok head) e ∙ other_links o head l) ∙ refused_chain rows text (other_at 3);
  modules = λ head e l m. chain (head_is o lines (Ok head) e ∙ other_modules o head l m) ∙ refused_chain rows text (other_at 4);
  alike = λ head e l m. chain (head_is o lines (Ok head) e ∙ (same_modes o head l m ∙ sym e));
}
  where
    lines : List Line
    lines = lines_of text

    chain : {a b : Result CertHead CertRefusal} → a ≡ b
        → read_on rows options_of nothing_more (rest_on rows text) a ≡ read_on rows options_of nothing_more (rest_on rows text) b
    chain e = ap (read_on rows options_of nothing_more (rest_on rows text)) e
