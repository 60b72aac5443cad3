-- What a planned change makes of a node's part of Plumtree.
use Rattle.std.specs.Prelude.{◌≤◌, Bool, true, false, vec_len}
use Rattle.std.specs.FinMap as map
use Rattle.std.specs.FinSet as set
use Rattle.ov_wire.specs.Messages.{AreSendsInRange}
use Rattle.ov_plum.specs.Notes.{noting, without_notes_of, without_oldest}
use Rattle.ov_plum.specs.PlumRows.{AllowedTree, HasPlumStep, PlumInput, most_sends_at}
use Rattle.ov_plum.specs.PlumState.{PlumState, makes_eager, makes_lazy}
use Rattle.ov_plum.specs.declared.plum_change.PlumChange.{PlumChange}
use Rattle.ov_plum.specs.declared.plum_change.PlumChange.TheVariants.{Nothing, Makes, Holds, Eager, Lazy, Awaits, Asks}
use Rattle.ov_plum.specs.declared.plum_change.PlumChange.TheVariants.{Clears}
use Rattle.ov_plum.specs.declared.plum_change.PlumPlan.{PlumPlan}
use Rattle.ov_plum.specs.declared.step_effects.Spread.{Spread}

-- what is kept after the planned change of t
abbrev pub plum_after : PlumState → PlumChange → PlumState
plum_after t Nothing = t
plum_after t (Makes id held next) = record t { held = map.insert t.held id held; made = next }
plum_after t (Holds id held s) = record t {
  branches = makes_eager s t.branches;
  held = map.insert t.held id held;
  notes = without_notes_of id t.notes;
  running = set.remove t.running id;
}
plum_after t (Eager s) = record t { branches = makes_eager s t.branches }
plum_after t (Lazy s) = record t { branches = makes_lazy s t.branches }
plum_after t (Awaits id s) = record t { notes = noting s id t.notes; running = set.insert t.running id }
plum_after t (Asks id s) = record t { branches = makes_eager s t.branches; notes = without_oldest id t.notes }
plum_after t (Clears id) = record t { notes = without_notes_of id t.notes; running = set.remove t.running id }

-- the planned change is that of a step: what it makes of t is what some step makes of it
abbrev pub IsPlumChange : PlumState → PlumChange → Type 0
IsPlumChange t plum_change = HasPlumStep t (plum_after t plum_change)

-- A step from t to u at this input, with these effects: it is allowed, each message that it sends is in range, and
-- there are at most `most_sends_at` of them
abbrev pub IsPlumStep : PlumState → PlumInput → PlumState → Spread → Type 0
IsPlumStep t input u effects =
    AllowedTree t input u effects.sends.items effects.delivered
    × AreSendsInRange effects.sends.items
    × (vec_len effects.sends ≤ most_sends_at input)

-- The plan is one for this input: its effects and its change are a step from t
abbrev pub IsPlumPlan : PlumState → PlumInput → PlumPlan → Type 0
IsPlumPlan t input plan = IsPlumStep t input (plum_after t plan.plum_change) plan.spread

-- whether a planned change may allocate
abbrev pub may_allocate : PlumChange → Bool
may_allocate Nothing = false
may_allocate (Makes id held next) = true
may_allocate (Holds id held s) = true
may_allocate (Eager s) = false
may_allocate (Lazy s) = false
may_allocate (Awaits id s) = true
may_allocate (Asks id s) = true
may_allocate (Clears id) = false
