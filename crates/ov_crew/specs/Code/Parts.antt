-- A list that several threads make in parts.
use Rattle.std.specs.Prelude.{◌≡◌, ℕ, ◌*◌, List, slice_get, take, drop, Result, Some, IfOk, Vec}
use Rattle.std.specs.Global.{Global}
use Rattle.ov_ids.specs.declared.out_of_memory.OutOfMemory.{OutOfMemory}
use Rattle.ov_even.specs.declared.paths_by_ids.NamedPaths.{NamedPaths}

-- what a thread returns: its part of the list, or out of memory
abbrev pub Part : Type 0
Part = Result (Vec NamedPaths Global) OutOfMemory

-- part n, counted from 0, has the items from place n * size on, at most `size` of them
abbrev pub AreParts : ℕ → List NamedPaths → List Part → Type 0
AreParts size named parts = (n : ℕ) (part : Part) → slice_get parts n ≡ Some part
    → IfOk part (λ v. v.items ≡ take size (drop (n * size) named))
