-- Each call did its step, or was refused.
use Rattle.ov_even.specs.Turns.{ClaimsNext, LooksNext, SettlesNext}
use Rattle.ov_snap.specs.CoreState.{CoreState}
use Rattle.ov_snap.specs.Refusals.{DeskFilingJudged, FilingJudged, GroupOpeningJudged, OpeningJudged, TurnJudged}
use Rattle.ov_snap.proofs.Running.{done, taken, taken_at_once, went_on}
use Rattle.ov_snap.proofs.core_steps.take.Goals as goal

pub returns-in-OpenDesk-clause-took : goal.returns-in-OpenDesk-clause-took
returns-in-OpenDesk-clause-took c =
    let b : CoreState = c.args.core.now in
    let s = c.in-OpenDesk in
    let call = c.open_desk.ensures in
    went_on c.go_on.result _ c.args.step _ b c.open_desk.new.self s.is c.go_on.ensures.on
    (λ went. taken (OpeningJudged b s.moment s.workers) b c.open_desk.new.self c.open_desk.result _
    call.opened call.refused call.err went)

pub returns-in-OpenGroupDesk-clause-took : goal.returns-in-OpenGroupDesk-clause-took
returns-in-OpenGroupDesk-clause-took c =
    let b : CoreState = c.args.core.now in
    let s = c.in-OpenGroupDesk in
    let call = c.open_group_desk.ensures in
    went_on c.go_on-in-OpenGroupDesk.result _ c.args.step _ b c.open_group_desk.new.self s.is
    c.go_on-in-OpenGroupDesk.ensures.on
    (λ went. taken (GroupOpeningJudged b s.moment s.members.items s.workers) b c.open_group_desk.new.self
    c.open_group_desk.result _ call.opened call.refused call.err went)

pub returns-in-Claim-clause-took : goal.returns-in-Claim-clause-took
returns-in-Claim-clause-took c =
    let b : CoreState = c.args.core.now in
    let s = c.in-Claim in
    let call = c.claim.ensures in
    went_on c.go_on-in-Claim.result _ c.args.step _ b c.claim.new.self s.is c.go_on-in-Claim.ensures.on
    (λ went. taken (TurnJudged ClaimsNext b s.desk s.worker) b c.claim.new.self c.claim.result _
    call.claimed call.refused call.err went)

pub returns-in-Look-clause-took : goal.returns-in-Look-clause-took
returns-in-Look-clause-took c =
    let b : CoreState = c.args.core.now in
    let s = c.in-Look in
    let call = c.look.ensures in
    went_on c.go_on-in-Look.result _ c.args.step _ b c.look.new.self s.is c.go_on-in-Look.ensures.on
    (λ _. taken_at_once (TurnJudged LooksNext b s.desk s.worker) b c.look.new.self c.look.result _
    call.looked call.refused call.err)

pub returns-in-Settle-clause-took : goal.returns-in-Settle-clause-took
returns-in-Settle-clause-took c =
    let b : CoreState = c.args.core.now in
    let s = c.in-Settle in
    let call = c.settle.ensures in
    went_on c.go_on-in-Settle.result _ c.args.step _ b c.settle.new.self s.is c.go_on-in-Settle.ensures.on
    (λ went. done (TurnJudged SettlesNext b s.desk s.worker) b c.settle.new.self c.settle.result _
    call.settled call.refused call.err went)

pub returns-in-FileDesk-clause-took : goal.returns-in-FileDesk-clause-took
returns-in-FileDesk-clause-took c =
    let b : CoreState = c.args.core.now in
    let s = c.in-FileDesk in
    let call = c.file_desk.ensures in
    went_on c.go_on-in-FileDesk.result _ c.args.step _ b c.file_desk.new.self s.is c.go_on-in-FileDesk.ensures.on
    (λ went. done (DeskFilingJudged b s.desk) b c.file_desk.new.self c.file_desk.result _
    call.filed call.refused call.err went)

pub returns-in-File-clause-took : goal.returns-in-File-clause-took
returns-in-File-clause-took c =
    let b : CoreState = c.args.core.now in
    let s = c.in-File in
    let call = c.file.ensures in
    went_on c.go_on-in-File.result _ c.args.step _ b c.file.new.self s.is c.go_on-in-File.ensures.on
    (λ went. done (FilingJudged b s.report) b c.file.new.self c.file.result _
    call.filed call.refused call.err went)
