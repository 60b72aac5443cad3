-- A core stays sound, whatever happens at its desks.
use Rattle.std.proofs.Common.{◌≡◌, ℕ, ◌<◌, ◌≤◌, List, [], ◌∷◌, ◌++◌, length, length-append, length-set, set}
use Rattle.std.proofs.Common.{slice_get, Some, inl, inr, sym, ap, ◌∙◌, subst, arith}
use Rattle.std.proofs.lemmas.Bool.{cases_eq}
use Rattle.std.proofs.lemmas.Option.{same_Some, slice_get_within}
use Rattle.ov_ids.specs.Members.{Has}
use Rattle.ov_graph.specs.Links.{LinkGraph, IsGroup}
use Rattle.ov_net.specs.Journal.{AreLinks, Live}
use Rattle.ov_net.specs.declared.journal_entry_and_changes.Entry.{Entry}
use Rattle.ov_net.proofs.Links.OneGraph.{links_one}
use Rattle.ov_net.proofs.Steps.Places.{at_cases}
use Rattle.ov_ids.specs.Workers.{MayWork}
use Rattle.ov_even.proofs.AnalysisSteps.Assembling.{whole_group}
use Rattle.ov_even.proofs.AnalysisSteps.Slotted.{at_set_same, at_set_other}
use Rattle.ov_even.specs.Desk.{GroupDeskState}
use Rattle.ov_even.specs.SoundDesk.{IsSoundDesk}
use Rattle.ov_even.proofs.DeskTurns.Staying.{stays_sound}
use Rattle.ov_snap.specs.CoreState.{CoreState, HasDesk, HasReport, IsDeskOf, IsSound, most_desks}
use Rattle.ov_snap.specs.DeskSteps.{HasOneDeskMore, HasTurned, WasOpened, WasOpenedForGroup, ClaimedAt, LookedAt}
use Rattle.ov_snap.specs.DeskSteps.{DeskWasFiled, SettledAt}
use Rattle.ov_snap.specs.ReportState.{ReportState}
use Rattle.ov_snap.specs.Refusals.{IsGroupAt, WorkersJudged}
use Rattle.ov_snap.specs.Snapshots.{IsMoment}
use Rattle.ov_snap.proofs.Keeping.{sound_filed}
use Rattle.ov_snap.proofs.Refusing.{group_then, lived_then, workers_passed}

-- other desks, a few and each of the journal
sound_desks : (b : CoreState) (desks : List GroupDeskState) → IsSound b → length desks ≤ most_desks
    → ((i : ℕ) (d : GroupDeskState) → slice_get desks i ≡ Some d → IsDeskOf b.world.journal d)
    → IsSound (record b { desks = desks })
sound_desks b desks sound few each = record {
  snapshots = sound.snapshots;
  few_desks = few;
  desks = each;
  distinct = sound.distinct;
  one = λ m q r s k l. sound.one m q r s (was m q r k) (was m q s l);
  is_true = sound.is_true;
}
  where
    was : (m : ℕ) (q : List ℕ) (r : ReportState) → HasReport (record b { desks = desks }) m q r → HasReport b m q r
    was m q r k = record { filed = k.filed; moment = k.moment; members = k.members }

-- one desk more
pub sound_more : (b : CoreState) (d : GroupDeskState) → IsSound b → length b.desks < most_desks
    → IsDeskOf b.world.journal d → IsSound (record b { desks = b.desks ++ d ∷ [] })
sound_more b d sound room new =
    let count = length-append b.desks (d ∷ []) in
    sound_desks b (b.desks ++ d ∷ []) sound (omega (arith, room, count)) (λ i e h. elim (at_cases b.desks d i e h) [
      | inl was ↦ sound.desks i e was
      | inr last ↦ subst (IsDeskOf b.world.journal) last.1 new
    ])

-- another desk in the place of one
sound_turned : (b : CoreState) (i : ℕ) (d e : GroupDeskState) → IsSound b → HasDesk b i d → IsDeskOf b.world.journal e
    → IsSound (record b { desks = set b.desks i e })
sound_turned b i d e sound has new =
    let few : length b.desks ≤ most_desks = sound.few_desks in
    sound_desks b (set b.desks i e) sound
    (subst (λ n. n ≤ most_desks) (sym (length-set b.desks i e)) few)
    (λ j x h. elim (cases_eq j i) [
      | inl same ↦ subst (IsDeskOf b.world.journal)
          (same_Some e x (sym (at_set_same b.desks i e (slice_get_within b.desks i d has))
          ∙ subst (λ n. slice_get (set b.desks i e) n ≡ Some x) same h))
          new
      | inr other ↦ sound.desks j x (sym (at_set_other b.desks i j e (λ k. other (sym k))) ∙ h)
    ])

-- a desk of the same moment that is sound for its links
pub desk_turned : (journal : List Entry) (d e : GroupDeskState) (g : LinkGraph) → IsMoment journal d.moment
    → AreLinks journal d.moment g → e.moment ≡ d.moment → IsSoundDesk g e → IsDeskOf journal e
desk_turned journal d e g moment links same sound = record {
  moment = subst (IsMoment journal) (sym same) moment;
  graph = g;
  links = subst (λ n. AreLinks journal n g) (sym same) links;
  sound = sound;
}

-- a desk is sound for every graph that has the links of its moment
pub desk_sound : (journal : List Entry) (d : GroupDeskState) (g : LinkGraph) → IsDeskOf journal d
    → AreLinks journal d.moment g → IsSoundDesk g d
desk_sound journal d g h links =
    subst (λ (x : LinkGraph). IsSoundDesk x d) (links_one journal d.moment h.graph g h.links links) h.sound

-- a desk that was opened for a moment with these links
sound_opened : (b : CoreState) (g : LinkGraph) (m : ℕ) (q : List ℕ) (workers place : ℕ) (u : CoreState) → IsSound b
    → IsMoment b.world.journal m → AreLinks b.world.journal m g → IsGroup g q → length b.desks < most_desks
    → MayWork workers → HasOneDeskMore b g m q workers place u → IsSound u
sound_opened b g m q workers place u sound moment links group room may h =
    subst IsSound (sym h.desks) (sound_more b h.desk sound room (record {
      moment = subst (IsMoment b.world.journal) (sym same) moment;
      graph = g;
      links = subst (λ n. AreLinks b.world.journal n g) (sym same) links;
      sound = stays_sound.opened g m q workers h.desk group may h.opened;
    }))
  where
    same : h.desk.moment ≡ m
    same = ap (λ (d : GroupDeskState). d.moment) h.opened.desk

some_member : (ns : List ℕ) (a : ℕ) → Has ns a → 0 < length ns
some_member [] a h = absurd h
some_member (n ∷ ns) a h = omega arith

-- where somebody lived, all nodes of a moment are a group
pub group_of_all : (b : CoreState) (m a : ℕ) (g : LinkGraph) → AreLinks b.world.journal m g → Live b.world.journal m a
    → IsGroup g g.nodes
group_of_all b m a g links lives = whole_group g links.graph (some_member g.nodes a ((links.nodes a).1 lives))

-- a group of the nodes of a moment is one of every graph that has the moment's links
pub group_of_links : (b : CoreState) (m : ℕ) (q : List ℕ) (g : LinkGraph) → IsGroupAt b m q
    → AreLinks b.world.journal m g → IsGroup g q
group_of_links b m q g h links =
    subst (λ (x : LinkGraph). IsGroup x q) (links_one b.world.journal m h.0 g h.1 links) h.2

-- EACH STEP

pub sound_desk_opened : (b : CoreState) (m workers place : ℕ) (u : CoreState) → IsSound b
    → WasOpened b m workers place u → IsSound u
sound_desk_opened b m workers place u sound h =
    let lived = lived_then b m (WorkersJudged b workers) h.judged in
    let may = workers_passed b workers lived.2 in
    sound_opened b h.graph m h.graph.nodes workers place u sound lived.0 h.links
    (group_of_all b m lived.1.0 h.graph h.links lived.1.1) may.0 may.1 h.desk

pub sound_group_desk_opened : (b : CoreState) (m : ℕ) (q : List ℕ) (workers place : ℕ) (u : CoreState) → IsSound b
    → WasOpenedForGroup b m q workers place u → IsSound u
sound_group_desk_opened b m q workers place u sound h =
    let group = group_then b m q (WorkersJudged b workers) h.judged in
    let may = workers_passed b workers group.2 in
    sound_opened b h.graph m q workers place u sound group.0 h.links
    (group_of_links b m q h.graph group.1 h.links) may.0 may.1 h.desk

-- a turn was taken at a desk, after which it is sound for the links of its moment
sound_turn : (b : CoreState) (i : ℕ) (Turn : GroupDeskState → GroupDeskState → Type 0) (u : CoreState) (g : LinkGraph)
    → IsSound b → (t : HasTurned b i Turn u) → AreLinks b.world.journal t.before.moment g
    → t.after.moment ≡ t.before.moment → IsSoundDesk g t.after → IsSound u
sound_turn b i Turn u g sound t links same after =
    subst IsSound (sym t.desks) (sound_turned b i t.before t.after sound t.has
    (desk_turned b.world.journal t.before t.after g (sound.desks i t.before t.has).moment links same after))

pub sound_claimed_at : (b : CoreState) (i w x : ℕ) (u : CoreState) → IsSound b → ClaimedAt b i w x u → IsSound u
sound_claimed_at b i w x u sound h =
    let t = h.turned in
    let was = sound.desks i t.before t.has in
    sound_turn b i _ u was.graph sound t was.links (ap (λ (d : GroupDeskState). d.moment) t.turn.after)
    (stays_sound.claimed was.graph t.before t.after w x was.sound t.turn)

pub sound_looked_at : (b : CoreState) (i w least : ℕ) (u : CoreState) → IsSound b → LookedAt b i w least u → IsSound u
sound_looked_at b i w least u sound h =
    let t = h.turned in
    let was = sound.desks i t.before t.has in
    sound_turn b i _ u was.graph sound t was.links (ap (λ (d : GroupDeskState). d.moment) t.turn.after)
    (stays_sound.looked_at was.graph t.before t.after w least was.sound t.turn)

pub sound_settled_at : (b : CoreState) (i w : ℕ) (u : CoreState) → IsSound b → SettledAt b i w u → IsSound u
sound_settled_at b i w u sound h =
    let t = h.turned in
    sound_turn b i _ u h.graph sound t t.turn.0 (ap (λ (d : GroupDeskState). d.moment) t.turn.1.after)
    (stays_sound.settled h.graph t.before t.after w
    (desk_sound b.world.journal t.before h.graph (sound.desks i t.before t.has) t.turn.0) t.turn.1)

pub sound_desk_filed : (b : CoreState) (i : ℕ) (u : CoreState) → IsSound b → DeskWasFiled b i u → IsSound u
sound_desk_filed b i u sound h = sound_filed b h.report u sound h.filed
