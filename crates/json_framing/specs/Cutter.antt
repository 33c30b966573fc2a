-- A cutter of a stream of either form.
use Rattle.std.specs.Prelude.{◌≡◌}
use Rattle.delimited_framing.specs.Front.{Form}
use Rattle.delimited_framing.specs.Frame.{delimited_form}
use Rattle.delimited_framing.specs.Splitter.{Held}
use Rattle.json_framing.specs.Lines.{line_form}
use Rattle.json_framing.specs.declared.cutter.Framing.{Framing}
use Rattle.json_framing.specs.declared.cutter.Framing.TheVariants as framing
use Rattle.json_framing.specs.declared.cutter.Cutter.{Cutter}
use Rattle.json_framing.specs.declared.cutter.Cutter.TheVariants as cutter

abbrev pub form_of : Framing → Form
form_of framing.Delimited = delimited_form
form_of framing.Lines = line_form

abbrev pub framing_of : Cutter → Framing
framing_of (cutter.Delimited s) = framing.Delimited
framing_of (cutter.Lines s) = framing.Lines

abbrev pub held : Cutter → Held
held (cutter.Delimited s) = s
held (cutter.Lines s) = s

-- the form and the limit stay
abbrev pub IsSame : Cutter → Cutter → Type 0
IsSame old new = (framing_of new ≡ framing_of old) × ((held new).limit ≡ (held old).limit)
