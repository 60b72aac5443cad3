-- What is printed of a node of the world, or of a certificate, is what the look prints.
use Rattle.std.proofs.Common.{◌⊎◌, [], inr, IfOk, refl, subst}
use Rattle.std.proofs.KnownBytes.{Appends-nil}
use Rattle.ov_net.specs.Net.{LivesAs}
use Rattle.ov_net.specs.World.{WorldState}
use Rattle.ov_peer.specs.PeerState.{PeerState}
use Rattle.ov_run_meaning.specs.Accepting.{HidesNode, ShowsLook, ShowsNode}
use Rattle.ov_run_meaning.specs.Ending.{BeginsLook, EndsLook}
use Rattle.ov_run_meaning.specs.Writing.{WritesOutcome}
use Rattle.ov_run_meaning.proofs.Writing.Outcomes.{begun_as, begun_so}
use Rattle.ov_run_meaning.proofs.line_output_writing.write_look.Goals as goal

pub returns-in-Show-clause-outcome : goal.returns-in-Show-clause-outcome
returns-in-Show-clause-outcome g c =
    let same =
    subst
    (λ (world : WorldState). IfOk c.write_node.result (WritesOutcome (ShowsNode world.net c.in-Show.id)
    (HidesNode world.net c.in-Show.id) (g.W.Write.contents c.args.sink.now.writer)
    (g.W.Write.contents c.write_node.new.sink.writer)))
    c.world.ensures.value c.write_node.ensures.outcome in
    rw (c.in-Show.is) same

pub returns-in-Show-clause-begun : goal.returns-in-Show-clause-begun
returns-in-Show-clause-begun g c =
    begun_as (ShowsNode c.world.result.now.net c.in-Show.id)
    (λ text. BeginsLook c.args.core.now c.args.look text ⊎ ShowsLook c.args.core.now c.args.look text) _ _
    c.write_node.result (λ text shows.
    let same = subst (λ (world : WorldState). ShowsNode world.net c.in-Show.id text) c.world.ensures.value shows in
    let here : ShowsLook c.args.core.now c.args.look text = rw (c.in-Show.is) same in
    inr here
    ) c.write_node.ensures.begun

pub returns-in-Show-clause-memory : goal.returns-in-Show-clause-memory
returns-in-Show-clause-memory g c memory =
    let lives =
    subst (λ (world : WorldState). (peer : PeerState) × LivesAs world.net c.in-Show.id peer) c.world.ensures.value
    (c.write_node.ensures.lives memory) in
    let ends : EndsLook c.args.core.now c.args.look [] = rw (c.in-Show.is) (lives, refl) in
    ([], ends, rw (c.write_node.ensures.nothing memory) (Appends-nil _))

pub returns-in_ok-write_certificate-in-Certificate-clause-outcome :
    goal.returns-in_ok-write_certificate-in-Certificate-clause-outcome
returns-in_ok-write_certificate-in-Certificate-clause-outcome g c =
    rw (c.in-Certificate.is) c.in_ok-write_certificate-in-Certificate.ensures.outcome

pub returns-in_err-write_certificate-in-Certificate-clause-begun :
    goal.returns-in_err-write_certificate-in-Certificate-clause-begun
returns-in_err-write_certificate-in-Certificate-clause-begun g c =
    let began = c.in_err-write_certificate-in-Certificate.ensures.begun in
    let here : ShowsLook c.args.core.now c.args.look began.0 = rw (c.in-Certificate.is) began.1 in
    begun_so (λ text. BeginsLook c.args.core.now c.args.look text ⊎ ShowsLook c.args.core.now c.args.look text) _ _
    c.from_residual.result (began.0, inr here, began.2)
