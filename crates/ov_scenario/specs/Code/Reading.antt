-- How what a line says is read.
use Rattle.std.specs.Prelude.{◌≡◌, ℕ, Option, Some, None, IfSome, Result, Ok, Err}
use Rattle.ov_net.specs.declared.event.Event.{Event}
use Rattle.ov_net.specs.declared.event.Event.TheVariants as event
use Rattle.ov_scenario.specs.declared.numbered_events.Numbered.{Numbered}
use Rattle.ov_scenario.specs.declared.numbered_events.Numbered.TheVariants as kind
use Rattle.ov_scenario.specs.declared.statement_reading.Unstated.{Unstated}
use Rattle.ov_scenario.specs.declared.statement_reading.Unstated.TheVariants as unstated

-- what was read is what is said; if the line can't be read, nothing is said; and if memory was lacking, what is said
-- needs memory, or nothing is said
abbrev pub Reads : {A : Type 0} → (A → Type 0) → Result A Unstated → Option A → Type 0
Reads NeedsMemory (Ok x) said = said ≡ Some x
Reads NeedsMemory (Err (unstated.Unread unread)) said = said ≡ None
Reads NeedsMemory (Err unstated.OutOfMemory) said = IfSome said NeedsMemory

-- the event of this kind with this number behind the name of its line
abbrev pub numbered : Numbered → ℕ → Event
numbered kind.Deliver n = event.Deliver n
numbered kind.Lose n = event.Lose n
numbered kind.Repeat n = event.Repeat n
numbered kind.Crash n = event.Crash n
numbered kind.Shuffle n = event.Shuffle n
