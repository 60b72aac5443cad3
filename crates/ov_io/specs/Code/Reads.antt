-- How the code counts the reads of a reader.
use Rattle.std.specs.Prelude.{◌==◌, if◌then◌else◌, ℕ, Result, Ok, Err}

-- how many ends one read adds: one if it had room for a byte and was answered by no byte
abbrev pub end_answers : {E : Type 0} → Result ℕ E → ℕ
end_answers (Ok count) = if count == 0 then 1 else 0
end_answers (Err e) = 0
