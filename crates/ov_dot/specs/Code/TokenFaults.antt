-- What a fault of tokens says of the text that was to be read, and the fault of a DOT text that it becomes.
use Rattle.std.specs.Prelude.{ℕ, List}
use Rattle.ov_dot.specs.declared.fault.DotFault.{DotFault}
use Rattle.ov_dot.specs.declared.fault.DotFault.TheVariants as fault
use Rattle.ov_dot.specs.declared.fault.Why.TheVariants as why
use Rattle.ov_dot.specs.declared.token_reading.TextFault.{TextFault}
use Rattle.ov_dot.specs.declared.token_reading.TextFault.TheVariants as text
use Rattle.ov_dot.specs.Tokens.{HasNoTokensFrom, HasTornName}

-- the text has no tokens from this line on, or a torn name in it; out of memory says nothing of the text
abbrev pub Faults : List ℕ → TextFault → Type 0
Faults bytes (text.NoToken line) = HasNoTokensFrom bytes line
Faults bytes (text.TornName line) = HasTornName bytes line
Faults bytes text.OutOfMemory = Unit {0}

-- a line without a token, or with a torn name, is one that can't be read
abbrev pub fault_of : TextFault → DotFault
fault_of (text.NoToken line) = fault.UnreadLine line why.NoToken
fault_of (text.TornName line) = fault.UnreadLine line why.TornName
fault_of text.OutOfMemory = fault.OutOfMemory
