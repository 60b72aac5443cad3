-- What is exact in a hall, in the words of this program.
use Rattle.std.specs.Prelude.{ℕ, List}
use Rattle.ov_cert.specs.Valid.{k_of}
use Rattle.ov_net.specs.declared.journal_entry_and_changes.Entry.{Entry}
use Rattle.ov_snap.specs.ReportState.{ReportState, IsTrueReport}
use Rattle.ov_hall.specs.Histories.{IsExact}
use Rattle.ov_hall.specs.declared.core_shared_by_drivers.Gathered.{Gathered}
use Rattle.example_programs.specs.Outcome.{IsFewestAt, IsOutcome}

-- a true report tells the fewest crashes
pub fewest_told : (journal : List Entry) (r : ReportState) → IsTrueReport journal r
    → IsFewestAt journal r.moment r.members (k_of r.cert)
fewest_told journal r holds = record {
  graph = r.graph;
  links = holds.links;
  fewest = holds.certificate.fewest;
}

-- so does each report of a hall that was gathered
pub all_told : (n : ℕ) (all : Gathered) → IsExact n all.core all.entry_drivers.items all.report_drivers.items
    → IsOutcome n all
all_told n all exact = record {
  reports = λ r filed. fewest_told all.core.world.journal r (exact.is_true r filed);
  makers = (exact.makers, exact.makers_below);
  filers = (exact.filers, exact.filers_below);
}
