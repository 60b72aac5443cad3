-- The certificate file that is written behind a text.
use Rattle.std.specs.Prelude.{List, ℕ, ◌++◌, Option, Some, None}
use Rattle.ov_cert.specs.State.{CheckedState}
use Rattle.ov_run_meaning.specs.Printed.{file_text}
use Rattle.ov_run_meaning.specs.declared.run_fault.RunFault.{RunFault}
use Rattle.ov_run_meaning.specs.declared.run_fault.RunFault.TheVariants.{Write, OutOfMemory}

-- a text, and behind it the file of a certificate if there is one
abbrev pub with_file_of : List ℕ → Option CheckedState → List ℕ
with_file_of text None = text
with_file_of text (Some c) = text ++ file_text c.cert c.graph c.members 0

-- what the writing of a text returns: the writer failed, or out of memory
abbrev pub IsWritingFault : RunFault → Type 0
IsWritingFault Write = Unit {0}
IsWritingFault OutOfMemory = Unit {0}
IsWritingFault other = ⊥
