-- The same event or analysis, accepted from two cores that are alike, makes cores that are alike, and prints the same.
use Rattle.std.proofs.Common.{◌≡◌, ◌∙◌, ℕ, List, [], ◌∷◌, ◌++◌, length, None}
use Rattle.std.proofs.Common.{inl, inr, refl, sym, ap, subst}
use Rattle.ov_ids.specs.FaultOrder.{HoldsThen, Passed}
use Rattle.ov_ids.specs.Members.{Has}
use Rattle.ov_ids.proofs.Stepping.{step_none}
use Rattle.ov_cert.specs.declared.cert.Cert.{Cert}
use Rattle.ov_cert.specs.declared.cert.Cert.TheVariants as cert
use Rattle.ov_certfile.specs.CertLine.{cert_text, short_text}
use Rattle.ov_even.specs.Answer.{IsAnswer}
use Rattle.ov_even.specs.Theorems.{AreAlike}
use Rattle.ov_even.proofs.EvenTest.Answering.{one_answer}
use Rattle.ov_net.specs.Journal.{AreLinks}
use Rattle.ov_net.specs.Theorems.{WorldStep}
use Rattle.ov_net.specs.World.{WorldState}
use Rattle.ov_net.specs.declared.event.Event.{Event}
use Rattle.ov_net.specs.declared.journal_entry_and_changes.Entry.{Entry}
use Rattle.ov_net.proofs.Links.OneGraph.{links_one}
use Rattle.ov_net.proofs.OneStep.OfWorld.{one_step}
use Rattle.ov_snap.specs.CoreState.{CoreState}
use Rattle.ov_snap.specs.ReportState.{ReportState}
use Rattle.ov_snap.specs.Refusals.{FilingJudged, IsFiled}
use Rattle.ov_snap.specs.Run.{Happened}
use Rattle.ov_snap.specs.Snapshots.{IsMoment, SnapshotsAfter}
use Rattle.ov_snap.specs.declared.refused_core_call.CoreFault.TheVariants.{NoSuchMoment, OtherGraph, AlreadyFiled}
use Rattle.ov_snap.specs.declared.kept_snapshots.Snapshot.{Snapshot}
use Rattle.ov_run_meaning.specs.Printed.{report_line}
use Rattle.ov_run_meaning.specs.Subjects.{members_of, WasAnalysed}
use Rattle.ov_scenario.specs.declared.scenario.Subject.{Subject}
use Rattle.ov_grow.specs.Alike.{AllSayTheSame, AreAlikeCores, SayTheSame}

-- ---- certificates and reports

alike_self : (c : Cert) → AreAlike c c
alike_self (cert.Linked k) = refl
alike_self (cert.Split c) = record { k = refl; cut = refl; near = refl; far = refl; side = refl }

says_itself : (r : ReportState) → SayTheSame r r
says_itself r = record { moment = refl; graph = refl; members = refl; certificates = alike_self r.cert }

all_say_themselves : (rs : List ReportState) → AllSayTheSame rs rs
all_say_themselves [] = tt
all_say_themselves (r ∷ rs) = (says_itself r, all_say_themselves rs)

-- every core is like itself
pub alike_itself : (b : CoreState) → AreAlikeCores b b
alike_itself b =
    record { world = refl; snapshots = refl; desks = refl; reports = all_say_themselves b.reports }

-- one report more on both sides
one_more : (rs ss : List ReportState) (r s : ReportState) → AllSayTheSame rs ss → SayTheSame r s
    → AllSayTheSame (rs ++ r ∷ []) (ss ++ s ∷ [])
one_more [] [] r s all more = (more, tt)
one_more [] (y ∷ ss) r s all more = absurd all
one_more (x ∷ rs) [] r s all more = absurd all
one_more (x ∷ rs) (y ∷ ss) r s all more = (all.0, one_more rs ss r s all.1 more)

-- a report on one side has one on the other side that says the same
pub other_side : (rs ss : List ReportState) (r : ReportState) → AllSayTheSame rs ss → Has rs r
    → (s : ReportState) × Has ss s × SayTheSame r s
other_side [] ss r all has = absurd has
other_side (x ∷ rs) [] r all has = absurd all
other_side (x ∷ rs) (y ∷ ss) r all (inl same) = (y, inl refl, subst (λ z. SayTheSame z y) same all.0)
other_side (x ∷ rs) (y ∷ ss) r all (inr has) =
    let found = other_side rs ss r all.1 has in (found.0, inr found.1, found.2)

-- certificates that are alike have one text
short_alike : (c d : Cert) → AreAlike c d → short_text c ≡ short_text d
unfolding short_text
short_alike (cert.Linked k) (cert.Linked l) same = ap (λ n. short_text (cert.Linked n)) same
short_alike (cert.Linked k) (cert.Split d) same = absurd same
short_alike (cert.Split c) (cert.Linked l) same = absurd same
short_alike (cert.Split c) (cert.Split d) same =
    λ j. short_text (cert.Split (record c {
      k = same.k j;
      cut = same.cut j;
      near = same.near j;
      far = same.far j;
      side = same.side j;
    }))

-- reports that say the same have one line
line_alike : (r s : ReportState) → SayTheSame r s
    → report_line r.moment r.cert r.graph r.members ≡ report_line s.moment s.cert s.graph s.members
unfolding report_line cert_text
line_alike r s same = rw (same.moment, same.graph, same.members, short_alike r.cert s.cert same.certificates) refl

-- ---- an event

-- what an event does to a world
world_step : (b : CoreState) (event : Event) (words : List ℕ) (e : Entry) (u : CoreState) → Happened b event words e u
    → WorldStep b.world event words u.world e
world_step b event words e u h = record { step = h.step; journal = h.journal; number = h.number }

-- the snapshots of one journal at one moment are one
snapshot_one : (journal : List Entry) (s t : Snapshot) → s.moment ≡ length journal → t.moment ≡ length journal
    → AreLinks journal s.moment s.graph → AreLinks journal t.moment t.graph → s ≡ t
snapshot_one journal s t at also links others =
    let moment : s.moment ≡ t.moment = at ∙ sym also in
    let graph : s.graph ≡ t.graph = links_one journal s.moment s.graph t.graph links
    (subst (λ m. AreLinks journal m t.graph) (sym moment) others) in
    λ j. record { moment = moment j; graph = graph j }

snapshots_one : (journal : List Entry) (what : Event) (old new now : List Snapshot)
    → SnapshotsAfter journal what old new → SnapshotsAfter journal what old now → new ≡ now
snapshots_one journal what old new now (inl (is, (s, at, links, new_is)))
    (inl (also, (t, at_also, others, now_is))) =
    let same = snapshot_one journal s t at at_also links others in
    new_is ∙ ap (λ x. old ++ x ∷ []) same ∙ sym now_is
snapshots_one journal what old new now (inl first) (inr second) = absurd (second.0 first.0)
snapshots_one journal what old new now (inr first) (inl second) = absurd (first.0 second.0)
snapshots_one journal what old new now (inr first) (inr second) = first.1 ∙ sym second.1

-- the cores after one event are alike, and its entries are one
pub same_event : (b d : CoreState) (event : Event) (words : List ℕ) (e g : Entry) (u v : CoreState) → AreAlikeCores b d
    → Happened b event words e u → Happened d event words g v → AreAlikeCores u v × (e ≡ g)
same_event b d event words e g u v alike h k = (
  record {
    world = both.0;
    snapshots = snapshots_one u.world.journal event b.snapshots u.snapshots v.snapshots h.snapshots after;
    desks = h.desks ∙ alike.desks ∙ sym k.desks;
    reports = subst (AllSayTheSame u.reports) (sym k.reports)
        (subst (λ rs. AllSayTheSame rs d.reports) (sym h.reports) alike.reports);
  },
  both.1,
) where
  other : WorldStep b.world event words v.world g
  other = subst (λ w. WorldStep w event words v.world g) (sym alike.world) (world_step d event words g v k)

  both : (u.world ≡ v.world) × (e ≡ g)
  both = one_step b.world event words u.world v.world e g (world_step b event words e u h) other

  after : SnapshotsAfter u.world.journal event b.snapshots v.snapshots
  after =
      subst (λ old. SnapshotsAfter u.world.journal event old v.snapshots) (sym alike.snapshots)
      (subst (λ (w : WorldState). SnapshotsAfter w.journal event d.snapshots v.snapshots) (sym both.0) k.snapshots)

-- ---- an analysis

-- the graph of a report that may be filed has the links of its moment
links_of : (b : CoreState) (r : ReportState) → FilingJudged b r None → AreLinks b.world.journal r.moment r.graph
links_of b r judged =
    let Links : Type 0 = AreLinks b.world.journal r.moment r.graph in
    let Free : Type 0 = ¬ IsFiled b r.moment r.members in
    let first = step_none (IsMoment b.world.journal r.moment) NoSuchMoment
    (HoldsThen Links OtherGraph (HoldsThen Free AlreadyFiled Passed)) judged in
    (step_none Links OtherGraph (HoldsThen Free AlreadyFiled Passed) first.1).0

-- reports of one subject in one world say the same
report_one : (b d : CoreState) (s : Subject) (r t : ReportState) (u v : CoreState) → b.world ≡ d.world
    → WasAnalysed b s r u → WasAnalysed d s t v → SayTheSame r t
report_one b d s r t u v same h k =
    record { moment = moment; graph = graph; members = members; certificates = certificates } where
      moment : r.moment ≡ t.moment
      moment = h.moment ∙ sym k.moment

      links : AreLinks b.world.journal r.moment r.graph
      links = links_of b r h.filed.judged

      others : AreLinks b.world.journal r.moment t.graph
      others =
          subst (λ m. AreLinks b.world.journal m t.graph) (sym moment)
          (subst (λ (w : WorldState). AreLinks w.journal t.moment t.graph) (sym same) (links_of d t k.filed.judged))

      graph : r.graph ≡ t.graph
      graph = links_one b.world.journal r.moment r.graph t.graph links others

      members : r.members ≡ t.members
      members = h.members ∙ ap (members_of s.group) graph ∙ sym k.members

      answer : IsAnswer r.graph r.members t.cert
      answer =
          subst (λ q. IsAnswer r.graph q t.cert) (sym members)
          (subst (λ g. IsAnswer g t.members t.cert) (sym graph) k.answer)

      certificates : AreAlike r.cert t.cert
      certificates = one_answer r.graph r.members r.cert t.cert links.graph h.answer answer

-- the cores after one analysis are alike, and the lines of its reports are one
pub same_analysis : (b d : CoreState) (s : Subject) (r t : ReportState) (u v : CoreState) → AreAlikeCores b d
    → WasAnalysed b s r u → WasAnalysed d s t v
    → AreAlikeCores u v
    × (report_line r.moment r.cert r.graph r.members ≡ report_line t.moment t.cert t.graph t.members)
same_analysis b d s r t u v alike h k =
    let one = report_one b d s r t u v alike.world h k in (
      record {
        world = ap (λ (x : CoreState). x.world) h.filed.reports ∙ alike.world
            ∙ sym (ap (λ (x : CoreState). x.world) k.filed.reports);
        snapshots = ap (λ (x : CoreState). x.snapshots) h.filed.reports ∙ alike.snapshots
            ∙ sym (ap (λ (x : CoreState). x.snapshots) k.filed.reports);
        desks = ap (λ (x : CoreState). x.desks) h.filed.reports ∙ alike.desks
            ∙ sym (ap (λ (x : CoreState). x.desks) k.filed.reports);
        reports = subst (AllSayTheSame u.reports) (sym (ap (λ (x : CoreState). x.reports) k.filed.reports))
            (subst (λ rs. AllSayTheSame rs (d.reports ++ t ∷ []))
            (sym (ap (λ (x : CoreState). x.reports) h.filed.reports))
            (one_more b.reports d.reports r t alike.reports one));
      },
      line_alike r t one,
    )
