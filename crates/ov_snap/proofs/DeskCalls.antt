-- What the calls of desks do, from what their parts do: b is a core by its fields, and s the same as contracts see it.
use Rattle.std.proofs.Common.{◌≡◌, ℕ, ◌<◌, List, [], ◌∷◌, ◌++◌, length, get_or, set, Option, Some, None, IfSome}
use Rattle.std.proofs.Common.{is_some, true, inl, inr, refl, sym, ◌∙◌, subst}
use Rattle.std.proofs.lemmas.Option.{get_or_from_slice_get}
use Rattle.ov_ids.specs.Members.{Has}
use Rattle.ov_ids.specs.FaultOrder.{HoldsThen, Passed}
use Rattle.ov_ids.proofs.Stepping.{step_none}
use Rattle.ov_graph.specs.Links.{LinkGraph}
use Rattle.ov_net.specs.Journal.{AreLinks}
use Rattle.ov_board.specs.Theorems.{AllEnded}
use Rattle.ov_even.specs.Desk.{GroupDeskState}
use Rattle.ov_even.specs.SoundDesk.{IsSoundDesk}
use Rattle.ov_even.specs.Turns.{ClaimsNext, LooksNext, SettlesNext, WasClaimed, WasLookedAt, WasSettled}
use Rattle.ov_snap.specs.CoreState.{CoreState, HasDesk, HasReport, IsDeskOf, IsSound, most_desks}
use Rattle.ov_snap.specs.DeskSteps.{ClaimedAt, HasTurned, LookedAt, SettledAt}
use Rattle.ov_snap.specs.ReportState.{ReportState}
use Rattle.ov_snap.specs.Refusals.{DeskFilingJudged, FilingJudged, HoldsAt, IsFiled, TurnJudged}
use Rattle.ov_snap.specs.Snapshots.{IsMoment}
use Rattle.ov_snap.specs.declared.refused_core_call.CoreFault.{CoreFault}
use Rattle.ov_snap.specs.declared.refused_core_call.CoreFault.TheVariants.{AlreadyFiled, NoSuchDesk, NotEnded}
use Rattle.ov_snap.specs.declared.kept_snapshots.Snapshot.{Snapshot}
use Rattle.ov_snap.proofs.DeskKeeping.{desk_sound, sound_claimed_at, sound_looked_at, sound_more, sound_settled_at}

-- OPENING

-- one desk more
pub kept_sound : (b s : CoreState) (d : GroupDeskState) (desks : List GroupDeskState) → b ≡ s → IsSound b
    → length s.desks < most_desks → IsDeskOf s.world.journal d → desks ≡ b.desks ++ d ∷ []
    → IsSound (record b { desks = desks })
kept_sound b s d desks seen sound room own is =
    subst (λ (l : List GroupDeskState). IsSound (record b { desks = l })) (sym is)
    (sound_more b d sound (subst (λ (x : CoreState). length x.desks < most_desks) (sym seen) room)
    (subst (λ (x : CoreState). IsDeskOf x.world.journal d) (sym seen) own))

-- TURNS

-- what is read at the place of a desk is that desk
pub desk_read : (b s : CoreState) (i : ℕ) (read : GroupDeskState) (P : GroupDeskState → Type 0) → b ≡ s → HoldsAt s i P
    → read ≡ get_or b.desks i read → HasDesk b i read × P read
desk_read b s i read P seen h e =
    let k = subst (λ (x : CoreState). HoldsAt x i P) (sym seen) h in
    let same : k.0 ≡ read = sym (get_or_from_slice_get b.desks i k.0 read k.1) ∙ sym e in
    (subst (HasDesk b i) same k.1, subst P same k.2)

-- a turn was taken at the desk that was read
turned_at : (b s : CoreState) (i : ℕ) (d e : GroupDeskState) (P : GroupDeskState → Type 0)
    (Turn : GroupDeskState → GroupDeskState → Type 0) → b ≡ s → HoldsAt s i P → d ≡ get_or b.desks i d → Turn d e
    → HasTurned b i Turn (record b { desks = set b.desks i e })
turned_at b s i d e P Turn seen next read turn = record {
  before = d;
  has = (desk_read b s i d P seen next read).0;
  after = e;
  turn = turn;
  desks = refl;
}

-- a claim, as contracts see it; and the core stays sound
pub claimed : (b s : CoreState) (i w x : ℕ) (d e : GroupDeskState) → b ≡ s → IsSound b
    → TurnJudged ClaimsNext s i w None → HoldsAt s i (λ o. ClaimsNext o w) → d ≡ get_or b.desks i d
    → WasClaimed d w x e
    → ClaimedAt s i w x (record b { desks = set b.desks i e }) × IsSound (record b { desks = set b.desks i e })
claimed b s i w x d e seen sound judged next read turn =
    (subst (λ (y : CoreState). ClaimedAt y i w x u) seen own, sound_claimed_at b i w x u sound own)
  where
    u : CoreState
    u = record b { desks = set b.desks i e }

    own : ClaimedAt b i w x u
    own = record {
      judged = subst (λ (y : CoreState). TurnJudged ClaimsNext y i w None) (sym seen) judged;
      turned = turned_at b s i d e (λ o. ClaimsNext o w) (λ o p. WasClaimed o w x p) seen next read turn;
    }

-- the same of a look
pub looked : (b s : CoreState) (i w least : ℕ) (d e : GroupDeskState) → b ≡ s → IsSound b
    → TurnJudged LooksNext s i w None → HoldsAt s i (λ o. LooksNext o w) → d ≡ get_or b.desks i d
    → WasLookedAt d w least e
    → LookedAt s i w least (record b { desks = set b.desks i e }) × IsSound (record b { desks = set b.desks i e })
looked b s i w least d e seen sound judged next read turn =
    (subst (λ (y : CoreState). LookedAt y i w least u) seen own, sound_looked_at b i w least u sound own)
  where
    u : CoreState
    u = record b { desks = set b.desks i e }

    own : LookedAt b i w least u
    own = record {
      judged = subst (λ (y : CoreState). TurnJudged LooksNext y i w None) (sym seen) judged;
      turned = turned_at b s i d e (λ o. LooksNext o w) (λ o p. WasLookedAt o w least p) seen next read turn;
    }

own_links : (b : CoreState) (l : List Snapshot) (m : ℕ) (s : Snapshot) → l ≡ b.snapshots → IsSound b → Has l s
    → s.moment ≡ m → AreLinks b.world.journal m s.graph
own_links b l m s at sound h same =
    subst (λ n. AreLinks b.world.journal n s.graph) same
    (sound.snapshots.links s (subst (λ (x : List Snapshot). Has x s) at h))

-- what settling asks of the desk that was read: its moment has a snapshot, it is sound for that snapshot's links, and
-- the worker settles next
pub record MaySettle (l : List Snapshot) (w : ℕ) (d : GroupDeskState) : Type 0 where
  pub kept : (s : Snapshot) × Has l s × (s.moment ≡ d.moment)
  pub sound : (s : Snapshot) → Has l s → s.moment ≡ d.moment → IsSoundDesk s.graph d
  pub next : SettlesNext d w

pub may_settle : (b t : CoreState) (l : List Snapshot) (i w : ℕ) (d : GroupDeskState) → b ≡ t → IsSound b
    → l ≡ b.snapshots → HoldsAt t i (λ o. SettlesNext o w) → d ≡ get_or b.desks i d → MaySettle l w d
may_settle b t l i w d seen sound at next read = record {
  kept = subst (λ (x : List Snapshot). (s : Snapshot) × Has x s × (s.moment ≡ d.moment)) (sym at)
      (sound.snapshots.every d.moment (sound.desks i d own.0).moment);
  sound = λ s h same. desk_sound b.world.journal d s.graph (sound.desks i d own.0)
      (own_links b l d.moment s at sound h same);
  next = own.1;
}
  where
    own : HasDesk b i d × SettlesNext d w
    own = desk_read b t i d (λ o. SettlesNext o w) seen next read

-- the same of settling
pub settled : (b t : CoreState) (l : List Snapshot) (i w : ℕ) (d e : GroupDeskState) → b ≡ t → IsSound b
    → l ≡ b.snapshots → TurnJudged SettlesNext t i w None → HoldsAt t i (λ o. SettlesNext o w) → d ≡ get_or b.desks i d
    → ((s : Snapshot) × Has l s × (s.moment ≡ d.moment) × WasSettled s.graph d w e)
    → SettledAt t i w (record b { desks = set b.desks i e }) × IsSound (record b { desks = set b.desks i e })
settled b t l i w d e seen sound at judged next read turn =
    (subst (λ (y : CoreState). SettledAt y i w u) seen own, sound_settled_at b i w u sound own)
  where
    u : CoreState
    u = record b { desks = set b.desks i e }

    own : SettledAt b i w u
    own = record {
      judged = subst (λ (y : CoreState). TurnJudged SettlesNext y i w None) (sym seen) judged;
      graph = turn.0.graph;
      turned = turned_at b t i d e (λ o. SettlesNext o w)
          (λ o p. AreLinks b.world.journal o.moment turn.0.graph × WasSettled turn.0.graph o w p) seen next read
          (own_links b l d.moment turn.0 at sound turn.1 turn.2, turn.3);
    }

-- FILING

pub some_of : {X : Type 0} (P : X → Type 0) (o : Option X) → is_some o ≡ true → IfSome o P → (x : X) × P x
some_of P None is h = absurd cc
some_of P (Some x) is h = (x, h)

-- a report is filed for the moment and the group of a desk
pub desk_filed_again : (b : CoreState) (i : ℕ) (d : GroupDeskState) (m : ℕ) (q : List ℕ) (r : ReportState)
    → HasDesk b i d → AllEnded d.claims → m ≡ d.moment → q ≡ d.members → HasReport b m q r
    → DeskFilingJudged b i (Some AlreadyFiled)
desk_filed_again b i d m q r has ended at group h =
    inl ((d, has), inl ((d, has, ended), inr ((λ free. free (d, has, (r, own))), refl)))
  where
    own : HasReport b d.moment d.members r
    own = record { filed = h.filed; moment = h.moment ∙ at; members = h.members ∙ group }

-- a desk whose report may be filed
desk_filing_passed : (b : CoreState) (i : ℕ) (d : GroupDeskState) → HasDesk b i d → DeskFilingJudged b i None
    → ¬ IsFiled b d.moment d.members
desk_filing_passed b i d has h filed =
    let Filed : Type 0 = HoldsAt b i (λ o. IsFiled b o.moment o.members) in
    let Third : Option CoreFault → Type 0 = HoldsThen (¬ Filed) AlreadyFiled Passed in
    let Ended : Type 0 = HoldsAt b i (λ o. AllEnded o.claims) in
    let there = step_none ((o : GroupDeskState) × HasDesk b i o) NoSuchDesk (HoldsThen Ended NotEnded Third) h in
    let ended = step_none Ended NotEnded Third there.1 in
    let free = step_none (¬ Filed) AlreadyFiled Passed ended.1 in
    free.0 (d, has, filed)

-- the report of a desk may be filed
pub report_free : (b : CoreState) (i : ℕ) (d : GroupDeskState) (m : ℕ) (g : LinkGraph) (r : ReportState) → HasDesk b i d
    → DeskFilingJudged b i None → m ≡ d.moment → IsMoment b.world.journal m × AreLinks b.world.journal m g
    → r.moment ≡ m → r.graph ≡ g → r.members ≡ d.members → FilingJudged b r None
report_free b i d m g r has judged at h moment graph members =
    inl (
      subst (IsMoment b.world.journal) (sym moment) h.0,
      inl (
        subst (λ n. AreLinks b.world.journal n r.graph) (sym moment)
            (subst (AreLinks b.world.journal m) (sym graph) h.1),
        inl ((λ k. desk_filing_passed b i d has judged (k.0, own k.0 k.1)), refl),
      ),
    )
  where
    own : (x : ReportState) → HasReport b r.moment r.members x → HasReport b d.moment d.members x
    own x k = record { filed = k.filed; moment = k.moment ∙ moment ∙ at; members = k.members ∙ members }
