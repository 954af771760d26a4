-- Texts that begin as a routing does.
use Rattle.std.specs.Prelude.{◌≡◌, List}
use Rattle.text_lines.specs.Lines.{Line}
use Rattle.cert_text.specs.declared.opening.Kind.TheVariants.{Routing}
use Rattle.cert_text.specs.declared.opening.Opening.{Opening}
use Rattle.cli_laws.specs.PaperKinds.{Says}

-- the first line is the header of a routing, in one of the forms
abbrev pub SaysRouting : List Line → Type 0
SaysRouting lines = (o : Opening) × Says lines o × (o.kind ≡ Routing)
