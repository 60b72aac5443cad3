-- What was printed of a reader has the status of its outcome.
use Rattle.std.proofs.Common.{◌≡◌, inl, inr, ℕ, List, Option, Result, Ok, Err, IfOk, sym, subst}
use Rattle.ov_certfile.specs.declared.version.Version.{Version}
use Rattle.ov_check.specs.declared.arguments_and_exit_status.ProgramFault.{ProgramFault}
use Rattle.ov_check.specs.declared.arguments_and_exit_status.ProgramFault.TheVariants.{Usage, Judge}
use Rattle.ov_check.specs.Program.{exit_status}
use Rattle.ov_check.specs.Run.{Prints}
use Rattle.ov_check_program.specs.Status.{IsStatusOfRead, IsJudged, IsStatus}

pub printed : {R E : Type 0} (remaining : R → Option (List ℕ)) (newest : Version) (reader : R)
    (before after : Option (List ℕ))
    (result : Result ℕ E) → IfOk result (Prints newest (remaining reader) before after)
    → IfOk result (IsStatusOfRead remaining newest)
printed remaining newest reader before after (Ok status) p = record {
  reader = reader;
  outcome = p.outcome;
  judgement = p.judgement;
  answer = p.answer;
  exact = p.exact;
}
printed remaining newest reader before after (Err fault) p = tt

pub ended : {I F : Type 0} (input : I → Option (List ℕ)) (file : F → Option (List ℕ)) (newest : Version)
    (answer : Result ℕ ProgramFault) (status : ℕ) → IfOk answer (IsJudged input file newest)
    → status ≡ exit_status answer → IsStatus input file newest status
ended input file newest (Ok told) status h e = inl (subst (IsJudged input file newest) (sym e) h)
ended input file newest (Err Usage) status h e = inr (inr e)
ended input file newest (Err (Judge fault)) status h e = inr (inl e)
