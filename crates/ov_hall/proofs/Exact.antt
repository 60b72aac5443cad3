-- What is exact of the core that a log makes.
use Rattle.std.proofs.Common.{◌≡◌, ℕ, ◌+◌, ◌<◌, Bool, true, false, cond, List, [], ◌∷◌, length, length-append}
use Rattle.std.proofs.Common.{ap, ◌∙◌, arith}
use Rattle.ov_snap.specs.CoreState.{CoreState, IsSound, opening_core}
use Rattle.ov_snap.proofs.DriverLogs.{Steps}
use Rattle.ov_snap.proofs.Keeping.{sound_begun, sound_filed, sound_happened}
use Rattle.ov_snap.specs.Parts.{Each}
use Rattle.ov_snap.specs.Logs.{AreBelow, AreSteps, core_after, entry_drivers, report_drivers}
use Rattle.ov_hall.specs.Theorems.{EveryLogIsExact}
use Rattle.ov_snap.specs.declared.ghost_log_of_drivers.Mark.{Mark}

sound_step : (filed : Bool) (b u : CoreState) → IsSound b → Steps filed b u → IsSound u
sound_step true b u sound s = sound_filed b s.0 u sound s.1
sound_step false b u sound s = sound_happened b s.0 s.1 s.2 u sound s.3

sound_after : (b : CoreState) (log : List Mark) → IsSound b → AreSteps b log → IsSound (core_after b log)
sound_after b [] sound s = sound
sound_after b (m ∷ ms) sound s = sound_after m.after ms (sound_step m.filed b m.after sound s.0) s.1

-- one more item in the list of drivers, one more in the core
entry_step : (filed : Bool) (d : ℕ) (rest : List ℕ) (b u : CoreState) (n : ℕ) → Steps filed b u
    → length rest + length u.world.journal ≡ n → length (cond filed rest (d ∷ rest)) + length b.world.journal ≡ n
entry_step true d rest b u n s e =
    let same : length u.world.journal ≡ length b.world.journal =
    ap (λ (x : CoreState). length x.world.journal) s.1.reports in
    omega (arith, same, e)
entry_step false d rest b u n s e =
    let more : length u.world.journal ≡ length b.world.journal + 1 =
    ap length s.3.journal ∙ length-append b.world.journal (s.2 ∷ []) in
    omega (arith, more, e)

entries_long : (b : CoreState) (log : List Mark) → AreSteps b log
    → length (entry_drivers log) + length b.world.journal ≡ length (core_after b log).world.journal
entries_long b [] s = omega arith
entries_long b (m ∷ ms) s =
    entry_step m.filed m.driver (entry_drivers ms) b m.after (length (core_after m.after ms).world.journal) s.0
    (entries_long m.after ms s.1)

report_step : (filed : Bool) (d : ℕ) (rest : List ℕ) (b u : CoreState) (n : ℕ) → Steps filed b u
    → length rest + length u.reports ≡ n → length (cond filed (d ∷ rest) rest) + length b.reports ≡ n
report_step true d rest b u n s e =
    let more : length u.reports ≡ length b.reports + 1 =
    ap (λ (x : CoreState). length x.reports) s.1.reports ∙ length-append b.reports (s.0 ∷ []) in
    omega (arith, more, e)
report_step false d rest b u n s e =
    let same : length u.reports ≡ length b.reports = ap length s.3.reports in
    omega (arith, same, e)

reports_long : (b : CoreState) (log : List Mark) → AreSteps b log
    → length (report_drivers log) + length b.reports ≡ length (core_after b log).reports
reports_long b [] s = omega arith
reports_long b (m ∷ ms) s =
    report_step m.filed m.driver (report_drivers ms) b m.after (length (core_after m.after ms).reports) s.0
    (reports_long m.after ms s.1)

-- a driver that is in the list for one kind of mark alone
below_step : (n : ℕ) (filed : Bool) (d : ℕ) (rest : List ℕ) → d < n → Each (λ x. x < n) rest
    → Each (λ x. x < n) (cond filed rest (d ∷ rest)) × Each (λ x. x < n) (cond filed (d ∷ rest) rest)
below_step n true d rest low all = (all, (low, all))
below_step n false d rest low all = ((low, all), all)

makers_below : (n : ℕ) (log : List Mark) → AreBelow n log → Each (λ x. x < n) (entry_drivers log)
makers_below n [] a = tt
makers_below n (m ∷ ms) a = (below_step n m.filed m.driver (entry_drivers ms) a.0 (makers_below n ms a.1)).0

filers_below : (n : ℕ) (log : List Mark) → AreBelow n log → Each (λ x. x < n) (report_drivers log)
filers_below n [] a = tt
filers_below n (m ∷ ms) a = (below_step n m.filed m.driver (report_drivers ms) a.0 (filers_below n ms a.1)).1

pub every_log_is_exact : EveryLogIsExact
every_log_is_exact params n log h = record {
  is_true = (sound_after (opening_core params) log (sound_begun params) h.steps).is_true;
  makers = omega (arith, entries_long (opening_core params) log h.steps);
  filers = omega (arith, reports_long (opening_core params) log h.steps);
  makers_below = makers_below n log h.below;
  filers_below = filers_below n log h.below;
}
