-- What the reader of an event answers. Assumes nothing.
use Rattle.std.specs.Prelude.{ℕ, Result}
use Rattle.spec_refusals.specs.Numbers.{Refusal}
use Rattle.read_bytes.specs.Read.{Read, said}
use Rattle.read_bytes.specs.Read.Read.{got}
use Rattle.spec_dump.specs.DumpTexts.{Event as Said, time, sign}
use Rattle.dump_lines.specs.declared.events.Event.{Event}
use Rattle.dump_lines.specs.declared.events.Event.TheVariants.{Time, Sign}

-- The event as the document tells it.
abbrev pub event_of : Event → Said
event_of (Time t) = time t
event_of (Sign x b) = sign x b

-- What the answer says.
abbrev pub event_says : Result (Event × ℕ) Refusal → Read Said
event_says = said (λ e. got (event_of e.0) e.1)
