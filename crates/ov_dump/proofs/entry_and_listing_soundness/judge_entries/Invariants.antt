-- the entries so far are sound, and their names were seen
use Rattle.std.proofs.Common.{take}
use Rattle.ov_dump.proofs.Sounding.{SoundSoFar}
use Rattle.ov_dump.proofs.entry_and_listing_soundness.judge_entries.Given as goal

abbrev pub invariant-loop-entry : goal.invariant-loop-entry
invariant-loop-entry l = SoundSoFar (take l.entry-index l.entries) l.seen
