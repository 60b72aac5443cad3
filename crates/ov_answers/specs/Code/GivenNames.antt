-- The names that an answer is told with, if they were read.
use Rattle.std.specs.Prelude.{◌≡◌, Bool, false, [], Option, Some, None}
use Rattle.ov_graphfile.specs.NamesState.{NamesState}

-- names of no node
abbrev pub no_names : NamesState
no_names = record { graph = record { nodes = []; links = [] }; told = [] }

-- the names that are given, or else names of no node
abbrev pub given_names : Option NamesState → NamesState
given_names None = no_names
given_names (Some names) = names

-- where lines with names are asked for, names are given
abbrev pub HasNames : Bool → Option NamesState → Type 0
HasNames named None = named ≡ false
HasNames named (Some names) = Unit {0}
