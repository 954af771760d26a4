-- Places in a text, as the model sees them.
use Rattle.std.specs.Prelude.{Bool, Option, ◌+◌, ◌^◌, ◌<◌, length}
use Rattle.text_lines.specs.Lines.{lines_of}
use Rattle.cert_text.specs.declared.place.Place.{Place as PlaceIn}
use Rattle.cert_text.specs.declared.opening.CertHead.{CertHead}
use Rattle.cert_text.specs.declared.opening.Opened.{Opened}
use Rattle.cert_text.specs.Reading.{Place}

abbrev pub place_view : PlaceIn → Place
place_view p = record { at = p.at; rest = lines_of p.rest.now }

-- the numbers of the lines that are left stay within their type
pub record HasRoom (p : PlaceIn) : Type 0 where
  pub room : p.at + length p.rest.now < 2 ^ 32

-- a text whose first lines were read: what they say, the verdict, where there is one, and the place behind them
abbrev pub opened_view : Opened → (CertHead × Option Bool) × Place
opened_view o = ((o.head, o.closed), place_view o.rest)
