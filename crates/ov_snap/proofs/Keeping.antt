-- A core stays sound, whatever happens and whatever is filed.
use Rattle.std.proofs.Common.{◌≡◌, ◌≢◌, ◌⊎◌, ℕ, ◌<◌, List, [], ◌∷◌, ◌++◌, length, length-append, Option, Some, None}
use Rattle.std.proofs.Common.{IfSome, IfNone, Result, Ok, Err, IfOk, OnOk, OnErr, true≢false, Bool, IsTrue, ◌↔◌, false}
use Rattle.std.proofs.Common.{inl, ◌≤◌, slice_get, inr, refl, sym, ap, ap₂, ◌∙◌, subst, arith}
use Rattle.std.proofs.lemmas.Option.{none-some}
use Rattle.ov_ids.specs.ParamsState.{ParamsState}
use Rattle.ov_ids.specs.Members.{Has, Ordered}
use Rattle.ov_ids.specs.FaultOrder.{HoldsThen, Passed}
use Rattle.ov_ids.proofs.Members.{has_append_cases, has_append_left, has_append_right}
use Rattle.ov_ids.proofs.Stepping.{step_none}
use Rattle.ov_graph.specs.Links.{LinkGraph}
use Rattle.ov_cert.specs.Valid.{IsValidForGroup}
use Rattle.ov_cert.proofs.Validity.Exact.{valid_means}
use Rattle.ov_net.specs.Journal.{AreLinks, AreSameSince}
use Rattle.ov_net.specs.declared.journal_entry_and_changes.Entry.{Entry}
use Rattle.ov_net.specs.declared.event.Event.{Event}
use Rattle.ov_net.specs.declared.event.Event.TheVariants as event
use Rattle.ov_net.specs.NetStep.{NetStep}
use Rattle.ov_net.specs.Refusals.{StepJudged}
use Rattle.ov_net.specs.declared.fault.NetFault.{NetFault}
use Rattle.ov_net.specs.World.{WorldState, opening_world}
use Rattle.ov_net.proofs.Links.OneGraph.{links_one}
use Rattle.ov_net.proofs.Journal.Resting.{links_rest}
use Rattle.ov_net.proofs.Journal.Telling.{links_stay}
use Rattle.ov_net.proofs.Steps.Places.{has_at}
use Rattle.ov_even.specs.Desk.{GroupDeskState}
use Rattle.ov_snap.specs.CoreState.{CoreState, HasReport, HasReportOfAll, IsDeskOf, IsSound}
use Rattle.ov_snap.specs.CoreState.{most_desks, opening_core}
use Rattle.ov_snap.specs.Code.Index.{ReportKey, key_of}
use Rattle.ov_snap.specs.ReportState.{IsTrueReport, ReportState}
use Rattle.ov_snap.specs.Refusals.{FilingJudged, IsFiled}
use Rattle.ov_snap.specs.Filing.{WasFiled}
use Rattle.ov_snap.specs.Run.{Happened}
use Rattle.ov_snap.specs.Snapshots.{AreSnapshots, IsMoment, IsSnapshot, SnapshotsAfter, WasBefore}
use Rattle.ov_snap.specs.declared.refused_core_call.CoreFault.{CoreFault}
use Rattle.ov_snap.specs.declared.refused_core_call.CoreFault.TheVariants.{NoSuchMoment, OtherGraph, AlreadyFiled}
use Rattle.ov_snap.specs.declared.kept_snapshots.Snapshot.{Snapshot}
use Rattle.ov_snap.proofs.Moments.{moment_cases, moment_new, moment_stays, moment_within, ordered_more}

no_moment : (m : ℕ) → ¬ IsMoment [] m
no_moment m h = none-some h.1 h.2

pub sound_begun : (params : ParamsState) → IsSound (opening_core params)
sound_begun params = record {
  snapshots = record {
    order = tt;
    moments = λ s h. absurd h;
    links = λ s h. absurd h;
    every = λ m h. absurd (no_moment m h);
  };
  few_desks = omega arith;
  desks = λ i d h. absurd (none-some d h);
  distinct = tt;
  one = λ m q r s h k. absurd h.filed;
  is_true = λ r h. absurd h;
}

-- the parts of a new core
pub sound_new : (params : ParamsState) (world : WorldState) (snapshots : List Snapshot) (desks : List GroupDeskState)
    (reports : List ReportState) → world ≡ opening_world params → snapshots ≡ [] → desks ≡ [] → reports ≡ []
    → IsSound (record { world = world; snapshots = snapshots; desks = desks; reports = reports })
sound_new params world snapshots desks reports w s d r = rw (w, s, d, r) (sound_begun params)

-- the snapshots of a journal with one more entry that is none
snapshots_rest : (journal : List Entry) (e : Entry) (snapshots : List Snapshot) → ¬ IsSnapshot e
    → AreSnapshots journal snapshots → AreSnapshots (journal ++ e ∷ []) snapshots
snapshots_rest journal e snapshots other h = record {
  order = h.order;
  moments = λ s k. moment_stays journal (e ∷ []) s.moment (h.moments s k);
  links = λ s k. links_stay journal (e ∷ []) s.moment s.graph (moment_within journal s.moment (h.moments s k))
      (h.links s k);
  every = λ m k. elim (moment_cases journal e m k) [ inl was ↦ h.every m was | inr new ↦ absurd (other new.0) ];
}

-- the snapshots of a journal with one more
snapshots_more : (journal : List Entry) (e : Entry) (snapshots : List Snapshot) (s : Snapshot) → IsSnapshot e
    → s.moment ≡ length (journal ++ e ∷ []) → AreLinks (journal ++ e ∷ []) s.moment s.graph
    → AreSnapshots journal snapshots → AreSnapshots (journal ++ e ∷ []) (snapshots ++ s ∷ [])
snapshots_more journal e snapshots s is last linked h = record {
  order = ordered_more WasBefore snapshots s h.order before;
  moments = λ t k. elim (has_append_cases snapshots (s ∷ []) t k) [
    | inl was ↦ moment_stays journal (e ∷ []) t.moment (h.moments t was)
    | inr (inl e') ↦ subst (λ (x : Snapshot). IsMoment (journal ++ e ∷ []) x.moment) e'
        (subst (IsMoment (journal ++ e ∷ [])) (sym last) (moment_new journal e is))
    | inr (inr none) ↦ absurd none
  ];
  links = λ t k. elim (has_append_cases snapshots (s ∷ []) t k) [
    | inl was ↦ links_stay journal (e ∷ []) t.moment t.graph (moment_within journal t.moment (h.moments t was))
        (h.links t was)
    | inr (inl e') ↦ subst (λ (x : Snapshot). AreLinks (journal ++ e ∷ []) x.moment x.graph) e' linked
    | inr (inr none) ↦ absurd none
  ];
  every = λ m k. elim (moment_cases journal e m k) [
    | inl was ↦ let r = h.every m was in (r.0, has_append_left snapshots (s ∷ []) r.0 r.1, r.2)
    | inr new ↦ (s, has_append_right snapshots (s ∷ []) s (inl refl), last ∙ sym new.1)
  ];
}
  where
    before : (t : Snapshot) → Has snapshots t → t.moment < s.moment
    before t k =
        let l = moment_within journal t.moment (h.moments t k) in
        let n = length-append journal (e ∷ []) in
        omega (arith, l, n, last)

-- the snapshots are those of the journal after each event
snapshots_kept : (journal : List Entry) (e : Entry) (what : Event) (old new : List Snapshot) → e.event ≡ what
    → SnapshotsAfter (journal ++ e ∷ []) what old new → AreSnapshots journal old
    → AreSnapshots (journal ++ e ∷ []) new
snapshots_kept journal e what old new is (inl k) h =
    subst (AreSnapshots (journal ++ e ∷ [])) (sym k.1.3) (snapshots_more journal e old k.1.0 (is ∙ k.0) k.1.1 k.1.2 h)
snapshots_kept journal e what old new is (inr k) h =
    subst (AreSnapshots (journal ++ e ∷ [])) (sym k.1) (snapshots_rest journal e old (λ s. k.0 (sym is ∙ s)) h)

-- what a report says stays true
report_stays_true :
    (journal more : List Entry) (r : ReportState) → IsTrueReport journal r → IsTrueReport (journal ++ more) r
report_stays_true journal more r h = record {
  moment = moment_stays journal more r.moment h.moment;
  links = links_stay journal more r.moment r.graph (moment_within journal r.moment h.moment) h.links;
  certificate = h.certificate;
  verdict = h.verdict;
}

-- a desk stays one of the journal
desk_stays : (journal more : List Entry) (d : GroupDeskState) → IsDeskOf journal d → IsDeskOf (journal ++ more) d
desk_stays journal more d h = record {
  moment = moment_stays journal more d.moment h.moment;
  graph = h.graph;
  links = links_stay journal more d.moment h.graph (moment_within journal d.moment h.moment) h.links;
  sound = h.sound;
}

pub sound_happened : (b : CoreState) (what : Event) (words : List ℕ) (e : Entry) (u : CoreState) → IsSound b
    → Happened b what words e u → IsSound u
sound_happened b what words e u sound h = record {
  snapshots = subst (λ (j : List Entry). AreSnapshots j u.snapshots) (sym h.journal)
      (snapshots_kept b.world.journal e what b.snapshots u.snapshots h.step.0
      (subst (λ (j : List Entry). SnapshotsAfter j what b.snapshots u.snapshots) h.journal h.snapshots)
      sound.snapshots);
  few_desks = subst (λ (l : List GroupDeskState). length l ≤ most_desks) (sym h.desks) sound.few_desks;
  desks = λ i d k. subst (λ (j : List Entry). IsDeskOf j d) (sym h.journal)
      (desk_stays b.world.journal (e ∷ []) d
      (sound.desks i d (subst (λ (l : List GroupDeskState). slice_get l i ≡ Some d) h.desks k)));
  distinct = subst (Ordered (λ (r s : ReportState). r ≢ s)) (sym h.reports) sound.distinct;
  one = λ m q r s k l. sound.one m q r s (was m q r k) (was m q s l);
  is_true = λ r k. subst (λ (j : List Entry). IsTrueReport j r) (sym h.journal)
      (report_stays_true b.world.journal (e ∷ []) r
      (sound.is_true r (subst (λ (l : List ReportState). Has l r) h.reports k)));
}
  where
    was : (m : ℕ) (q : List ℕ) (r : ReportState) → HasReport u m q r → HasReport b m q r
    was m q r k = record {
      filed = subst (λ (l : List ReportState). Has l r) h.reports k.filed;
      moment = k.moment;
      members = k.members;
    }

-- a report that passes every step
filing_passed : (b : CoreState) (r : ReportState) → FilingJudged b r None
    → IsMoment b.world.journal r.moment × AreLinks b.world.journal r.moment r.graph × (¬ IsFiled b r.moment r.members)
filing_passed b r h =
    let After : Option CoreFault → Type 0 = HoldsThen (¬ IsFiled b r.moment r.members) AlreadyFiled Passed in
    let first = step_none (IsMoment b.world.journal r.moment) NoSuchMoment
    (HoldsThen (AreLinks b.world.journal r.moment r.graph) OtherGraph After) h in
    let second = step_none (AreLinks b.world.journal r.moment r.graph) OtherGraph After first.1 in
    let third = step_none (¬ IsFiled b r.moment r.members) AlreadyFiled Passed second.1 in
    (first.0, second.0, third.0)

-- it is found by nothing that stands there
pub none_found : (b : CoreState) (r : ReportState) → FilingJudged b r None → (x : ReportState) → Has b.reports x
    → ¬ (key_of x ≡ key_of r)
none_found b r judged x h same = (filing_passed b r judged).2
    (x, record { filed = h; moment = ap (λ (k : ReportKey). k.0) same; members = ap (λ (k : ReportKey). k.1) same })

pub sound_filed : (b : CoreState) (r : ReportState) (u : CoreState) → IsSound b → WasFiled b r u → IsSound u
sound_filed b r u sound h = subst IsSound (sym h.reports) (record {
  snapshots = sound.snapshots;
  few_desks = sound.few_desks;
  desks = sound.desks;
  distinct = ordered_more (λ (x y : ReportState). x ≢ y) b.reports r sound.distinct
      (λ x k e. none_found b r h.judged x k (ap key_of e));
  one = λ m q x y k l. elim (there m q x k) [
    | inl new ↦ elim (there m q y l) [
      | inl too ↦ sym new.1 ∙ too.1
      | inr was ↦ absurd (none_found b r h.judged y was.filed (keys m q y was ∙ sym new.0))
    ]
    | inr was ↦ elim (there m q y l) [
      | inl new ↦ absurd (none_found b r h.judged x was.filed (keys m q x was ∙ sym new.0))
      | inr too ↦ sound.one m q x y was too
    ]
  ];
  is_true = λ x k. elim (has_append_cases b.reports (r ∷ []) x k) [
    | inl was ↦ sound.is_true x was
    | inr (inl e) ↦ subst (IsTrueReport b.world.journal) e own
    | inr (inr none) ↦ absurd none
  ];
})
  where
    keys : (m : ℕ) (q : List ℕ) (x : ReportState) → HasReport b m q x → key_of x ≡ (m, q)
    keys m q x k = ap₂ (λ (n : ℕ) (l : List ℕ). (n, l)) k.moment k.members

    there : (m : ℕ) (q : List ℕ) (x : ReportState)
        → HasReport (record b { reports = b.reports ++ r ∷ [] }) m q x
        → ((key_of r ≡ (m, q)) × (r ≡ x)) ⊎ HasReport b m q x
    there m q x k = elim (has_append_cases b.reports (r ∷ []) x k.filed) [
      | inl was ↦ inr (record { filed = was; moment = k.moment; members = k.members })
      | inr (inl e) ↦ inl (ap key_of e ∙ ap₂ (λ (n : ℕ) (l : List ℕ). (n, l)) k.moment k.members, e)
      | inr (inr none) ↦ absurd none
    ]

    passed : IsMoment b.world.journal r.moment × AreLinks b.world.journal r.moment r.graph
        × (¬ IsFiled b r.moment r.members)
    passed = filing_passed b r h.judged

    own : IsTrueReport b.world.journal r
    own = record {
      moment = passed.0;
      links = passed.1;
      certificate = valid_means r.graph r.members r.cert h.valid;
      verdict = h.valid;
    }

-- what each report of a sound core says is true
pub filed_so : (b u : CoreState) (l : List ReportState) → l ≡ b.reports → b ≡ u → IsSound b → (r : ReportState)
    → Has l r → IsTrueReport u.world.journal r
filed_so b u l at same sound r h =
    subst (λ (x : CoreState). IsTrueReport x.world.journal r) same
    (sound.is_true r (subst (λ (x : List ReportState). Has x r) at h))

-- a report of all nodes is that of the group of the moment's nodes, and the other way round
own_graph : (b : CoreState) (m : ℕ) (g : LinkGraph) (r : ReportState) → AreLinks b.world.journal m g → r.moment ≡ m
    → IsTrueReport b.world.journal r → r.graph ≡ g
own_graph b m g r links at so =
    links_one b.world.journal m r.graph g (subst (λ n. AreLinks b.world.journal n r.graph) at so.links) links

pub of_all : (b : CoreState) (m : ℕ) (g : LinkGraph) (ns : List ℕ) (r : ReportState) → AreLinks b.world.journal m g
    → ns ≡ g.nodes → HasReport b m ns r → IsTrueReport b.world.journal r → HasReportOfAll b m r
of_all b m g ns r links nodes h so = record {
  filed = h.filed;
  moment = h.moment;
  members = h.members ∙ nodes ∙ ap (λ (x : LinkGraph). x.nodes) (sym (own_graph b m g r links h.moment so));
}

pub none_of_all : (b : CoreState) (m : ℕ) (g : LinkGraph) (ns : List ℕ) → IsSound b → AreLinks b.world.journal m g
    → ns ≡ g.nodes → ((r : ReportState) → ¬ HasReport b m ns r) → (r : ReportState) → ¬ HasReportOfAll b m r
none_of_all b m g ns sound links nodes none r h = none r (record {
  filed = h.filed;
  moment = h.moment;
  members = h.members ∙ ap (λ (x : LinkGraph). x.nodes) (own_graph b m g r links h.moment (sound.is_true r h.filed))
      ∙ sym nodes;
})

-- if no snapshot was taken, none is filed
pub none_without : (b : CoreState) (m : ℕ) → IsSound b → ¬ IsMoment b.world.journal m → (r : ReportState)
    → ¬ HasReportOfAll b m r
none_without b m sound none r h = none (subst (IsMoment b.world.journal) h.moment (sound.is_true r h.filed).moment)

-- what follows of an answer from what is known of it
pub if_some : {X : Type 0} (P Q : X → Type 0) (o : Option X) → ((x : X) → P x → Q x) → IfSome o P → IfSome o Q
if_some P Q None f p = tt
if_some P Q (Some x) f p = f x p

pub if_both : {X : Type 0} (P Q R : X → Type 0) (o : Option X) → ((x : X) → P x → Q x → R x) → IfSome o P → IfSome o Q
    → IfSome o R
if_both P Q R None f p q = tt
if_both P Q R (Some x) f p q = f x p q

pub if_none : {X : Type 0} (P Q : Type 0) (o : Option X) → (P → Q) → IfNone o P → IfNone o Q
if_none P Q None f p = f p
if_none P Q (Some x) f p = tt

-- the parts of a core in which a report was filed
pub filed_sound : (b u : CoreState) (r : ReportState) (reports : List ReportState) → b ≡ u → IsSound b
    → IsValidForGroup r.graph r.members r.cert → FilingJudged u r None → reports ≡ b.reports ++ r ∷ []
    → IsSound (record b { reports = reports })
filed_sound b u r reports same sound valid judged is = sound_filed b r _ sound (record {
  judged = subst (λ (x : CoreState). FilingJudged x r None) (sym same) judged;
  valid = valid;
  reports = ap (λ (l : List ReportState). record b { reports = l }) is;
})

-- the links of a kept snapshot are those of now, if they are the same ones since its moment. So are those that share
-- its graph
pub links_shared : {E : Type 0} (b u : CoreState) (kept : List Snapshot) (i since : ℕ) (s : Snapshot)
    (shared : Result LinkGraph E) → b ≡ u → IsSound b → kept ≡ b.snapshots → Some s ≡ slice_get kept i
    → since ≤ s.moment → AreSameSince b.world.journal since → IfOk shared (λ g. g ≡ s.graph)
    → IfOk shared (λ g. AreLinks u.world.journal (length u.world.journal) g)
links_shared b u kept i since s (Ok g) seen sound are at from same is =
    let has = subst (λ (l : List Snapshot). Has l s) are (has_at kept i s (sym at)) in
    let own = same.links s.moment s.graph from (moment_within b.world.journal s.moment (sound.snapshots.moments s has))
    (sound.snapshots.links s has) in
    subst (λ (x : CoreState). AreLinks x.world.journal (length x.world.journal) g) seen
    (subst (AreLinks b.world.journal (length b.world.journal)) (sym is) own)
links_shared b u kept i since s (Err f) seen sound are at from same is = tt

-- a snapshot event, whose links were taken before it
pub snapshot_happened : (b : CoreState) (words : List ℕ) (e : Entry) (world : WorldState) (g : LinkGraph)
    (snapshots : List Snapshot)
    → StepJudged b.world.net (length b.world.journal) event.Snapshot None
    → NetStep b.world.net event.Snapshot words world.net e → world.journal ≡ b.world.journal ++ e ∷ []
    → e.number ≡ length world.journal → AreLinks b.world.journal (length b.world.journal) g
    → snapshots ≡ b.snapshots ++ record { moment = e.number; graph = g } ∷ []
    → Happened b event.Snapshot words e (record b { world = world; snapshots = snapshots })
snapshot_happened b words e world g snapshots judged step journal number links is = record {
  judged = judged;
  step = step;
  journal = journal;
  number = number;
  snapshots = inl (refl, (record { moment = e.number; graph = g }, number, linked, is));
  desks = refl;
  reports = refl;
}
  where
    linked : AreLinks world.journal e.number g
    linked = subst (λ n. AreLinks world.journal n g) (sym number) (subst (λ (j : List Entry). AreLinks j (length j) g)
        (sym journal) (links_rest b.world.journal e g step.2.1 links))

-- the same, as contracts see it; and the core stays sound
pub snapshot_taken : (b s : CoreState) (words : List ℕ) (e : Entry) (world : WorldState) (g : LinkGraph)
    (snapshots : List Snapshot) → b ≡ s → IsSound b
    → StepJudged b.world.net (length b.world.journal) event.Snapshot None
    → NetStep b.world.net event.Snapshot words world.net e → world.journal ≡ b.world.journal ++ e ∷ []
    → e.number ≡ length world.journal → AreLinks s.world.journal (length s.world.journal) g
    → snapshots ≡ b.snapshots ++ record { moment = e.number; graph = g } ∷ []
    → Happened s event.Snapshot words e (record b { world = world; snapshots = snapshots })
    × IsSound (record b { world = world; snapshots = snapshots })
snapshot_taken b s words e world g snapshots seen sound judged step journal number links is = (
  subst (λ (x : CoreState). Happened x event.Snapshot words e u) seen own,
  sound_happened b event.Snapshot words e u
      sound own,
)
  where
    u : CoreState
    u = record b { world = world; snapshots = snapshots }

    own : Happened b event.Snapshot words e u
    own = snapshot_happened b words e world g snapshots judged step journal number
        (subst (λ (x : CoreState). AreLinks x.world.journal (length x.world.journal) g) (sym seen) links) is

-- another event, accepted or refused
pub other_sound : (old world : WorldState) (snapshots : List Snapshot) (desks : List GroupDeskState)
    (reports : List ReportState) (what : Event) (words : List ℕ) (r : Result Entry NetFault) (b : Bool) → b ≡ false
    → (IsTrue b ↔ (what ≡ event.Snapshot)) → IfOk r (λ e. StepJudged old.net (length old.journal) what None)
    → IfOk r (λ e. NetStep old.net what words world.net e)
    → IfOk r (λ e. world.journal ≡ old.journal ++ e ∷ []) → IfOk r (λ e. e.number ≡ length world.journal)
    → OnErr r (world ≡ old) → IsSound (record { world = old; snapshots = snapshots; desks = desks; reports = reports })
    → IsSound (record { world = world; snapshots = snapshots; desks = desks; reports = reports })
other_sound old world snapshots desks reports what words (Ok e) b isnt test judged step journal number err sound =
    sound_happened (record { world = old; snapshots = snapshots; desks = desks; reports = reports }) what words e
    (record { world = world; snapshots = snapshots; desks = desks; reports = reports }) sound (record {
      judged = judged;
      step = step;
      journal = journal;
      number = number;
      snapshots = inr ((λ s. true≢false (sym (test.1 s) ∙ isnt)), refl);
      desks = refl;
      reports = refl;
    })
other_sound old world snapshots desks reports what words (Err f) b isnt test judged step journal number err sound =
    subst (λ (x : WorldState). IsSound (record { world = x; snapshots = snapshots; desks = desks; reports = reports }))
    (sym err) sound

-- so it is if no entry is returned: another event that was accepted happened
pub other_happened : {T : Type 0} (old world : WorldState) (snapshots : List Snapshot) (desks : List GroupDeskState)
    (reports : List ReportState) (what : Event) (words : List ℕ) (r : Result T NetFault) (b : Bool) → b ≡ false
    → (IsTrue b ↔ (what ≡ event.Snapshot)) → OnOk r (StepJudged old.net (length old.journal) what None)
    → OnOk r ((e : Entry) × NetStep old.net what words world.net e × (world.journal ≡ old.journal ++ e ∷ [])
    × (e.number ≡ length world.journal))
    → OnOk r ((e : Entry) × Happened (record { world = old; snapshots = snapshots; desks = desks; reports = reports })
    what words e (record { world = world; snapshots = snapshots; desks = desks; reports = reports }))
other_happened old world snapshots desks reports what words (Ok t) b isnt test judged (e, step, journal, number) = (
  e,
  record {
    judged = judged;
    step = step;
    journal = journal;
    number = number;
    snapshots = inr ((λ s. true≢false (sym (test.1 s) ∙ isnt)), refl);
    desks = refl;
    reports = refl;
  },
)
other_happened old world snapshots desks reports what words (Err f) b isnt test judged went = tt

-- and the core after it is sound
pub other_kept : {T : Type 0} (old world : WorldState) (snapshots : List Snapshot) (desks : List GroupDeskState)
    (reports : List ReportState) (what : Event) (words : List ℕ) (r : Result T NetFault)
    → OnOk r ((e : Entry) × Happened (record { world = old; snapshots = snapshots; desks = desks; reports = reports })
    what words e (record { world = world; snapshots = snapshots; desks = desks; reports = reports }))
    → OnErr r (world ≡ old) → IsSound (record { world = old; snapshots = snapshots; desks = desks; reports = reports })
    → IsSound (record { world = world; snapshots = snapshots; desks = desks; reports = reports })
other_kept old world snapshots desks reports what words (Ok t) (e, happened) err sound =
    sound_happened (record { world = old; snapshots = snapshots; desks = desks; reports = reports }) what words e
    (record { world = world; snapshots = snapshots; desks = desks; reports = reports }) sound happened
other_kept old world snapshots desks reports what words (Err f) went err sound =
    subst (λ (x : WorldState). IsSound (record { world = x; snapshots = snapshots; desks = desks; reports = reports }))
    (sym err) sound
