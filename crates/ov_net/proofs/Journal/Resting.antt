-- The links that both ends hold are the same after an entry that tells no change.
use Rattle.std.proofs.Common.{◌≡◌, ◌≢◌, ◌↔◌, ◌⊎◌, ◌≤◌, ◌+◌, ℕ, List, [], ◌∷◌, ◌++◌, length, take, inl, inr, sym, ap}
use Rattle.std.proofs.Common.{refl, ◌∙◌, subst, append-nil, append_assoc, length-append, arith}
use Rattle.std.proofs.Math.Seq.{take-length}
use Rattle.std.proofs.lemmas.Bool.{cases_eq}
use Rattle.ov_ids.specs.Members.{Has}
use Rattle.ov_graph.specs.Links.{LinkGraph, Linked}
use Rattle.ov_net.specs.Journal.{AreLinks, AreSameSince, HoldsAfter, LivesAfter, TellsChange, changes_of}
use Rattle.ov_net.specs.declared.journal_entry_and_changes.Change.{Change}
use Rattle.ov_net.specs.declared.journal_entry_and_changes.Entry.{Entry}
use Rattle.ov_net.proofs.Journal.Telling.{links_were}

changes_same : (journal : List Entry) (e : Entry) → e.changes ≡ [] → changes_of (journal ++ e ∷ []) ≡ changes_of journal
changes_same [] e none = append-nil e.changes ∙ none
changes_same (x ∷ xs) e none = ap (λ (l : List Change). x.changes ++ l) (changes_same xs e none)

same_changes : (journal longer : List Entry) (m n : ℕ) (g : LinkGraph)
    → changes_of (take m journal) ≡ changes_of (take n longer) → AreLinks journal m g → AreLinks longer n g
same_changes journal longer m n g same h = record {
  graph = h.graph;
  nodes = λ a. subst (λ (l : List Change). Has g.nodes a ↔ LivesAfter l a) same (h.nodes a);
  links = λ a b. subst (λ (l : List Change). Linked g a b
      ↔ (LivesAfter l a × LivesAfter l b × (a ≢ b) × HoldsAfter l a b × HoldsAfter l b a)) same (h.links a b);
}

pub links_rest : (journal : List Entry) (e : Entry) (g : LinkGraph) → e.changes ≡ []
    → AreLinks journal (length journal) g → AreLinks (journal ++ e ∷ []) (length (journal ++ e ∷ [])) g
links_rest journal e g none =
    same_changes journal (journal ++ e ∷ []) (length journal) (length (journal ++ e ∷ [])) g
    (ap changes_of (take-length journal) ∙ sym (changes_same journal e none)
    ∙ ap changes_of (sym (take-length (journal ++ e ∷ []))))

-- at the beginning the links were never others
pub same_begun : (journal : List Entry) → journal ≡ [] → AreSameSince journal 0
same_begun journal none = record {
  within = omega arith;
  told = inl refl;
  links = λ m g from within h.
      let empty : length journal ≡ 0 = ap length none in
      let last : m ≡ length journal = omega (arith, within, empty) in subst (λ n. AreLinks journal n g) last h;
}

-- an entry that tells a change still does with one more entry behind it
tells_more : (journal : List Entry) (e : Entry) (n : ℕ) → TellsChange journal n → TellsChange (journal ++ e ∷ []) n
tells_more journal e n t = record {
  early = t.early;
  entry = t.entry;
  late = t.late ++ e ∷ [];
  parts = ap (λ (j : List Entry). j ++ e ∷ []) t.parts ∙ append_assoc t.early (t.entry ∷ t.late) (e ∷ []);
  number = t.number;
  tells = t.tells;
}

-- the same of the entry since which the links are the same ones
told_more : (journal : List Entry) (e : Entry) (n : ℕ) → (n ≡ 0) ⊎ TellsChange journal n
    → (n ≡ 0) ⊎ TellsChange (journal ++ e ∷ []) n
told_more journal e n (inl none) = inl none
told_more journal e n (inr t) = inr (tells_more journal e n t)

-- a moment is that of the last of the entries, or within the others
last_or_within : (m n : ℕ) → m ≤ n + 1 → (m ≡ n + 1) ⊎ (m ≤ n)
last_or_within m n h = grind (arith, cases_eq m (n + 1), h)

-- after one more entry the links are the same since the same entry if it tells no change, and otherwise since itself
same_more : (journal : List Entry) (e : Entry) (before since : ℕ)
    → ((e.changes ≡ []) × (since ≡ before)) ⊎ ((e.changes ≢ []) × (since ≡ length journal + 1))
    → AreSameSince journal before → AreSameSince (journal ++ e ∷ []) since
same_more journal e before since (inl rests) same = record {
  told = subst (λ n. (n ≡ 0) ⊎ TellsChange (journal ++ e ∷ []) n) (sym rests.1)
      (told_more journal e before same.told);
  within = let n = length-append journal (e ∷ []) in let s = rests.1 in let w = same.within in omega (arith, n, s, w);
  links = λ m g from within h. by m g from h
      (last_or_within m (length journal) (subst (λ n. m ≤ n) (length-append journal (e ∷ [])) within));
}
  where
    by : (m : ℕ) (g : LinkGraph) → since ≤ m → AreLinks (journal ++ e ∷ []) m g
        → (m ≡ length journal + 1) ⊎ (m ≤ length journal)
        → AreLinks (journal ++ e ∷ []) (length (journal ++ e ∷ [])) g
    by m g from h (inl last) =
        subst (λ n. AreLinks (journal ++ e ∷ []) n g) (last ∙ sym (length-append journal (e ∷ []))) h
    by m g from h (inr old) =
        let s = rests.1 in
        links_rest journal e g rests.0
        (same.links m g (omega (arith, s, from)) old (links_were journal (e ∷ []) m g old h))
same_more journal e before since (inr tells) same = record {
  told = inr (record {
    early = journal;
    entry = e;
    late = [];
    parts = refl;
    number = tells.1;
    tells = tells.0;
  });
  within = let n = length-append journal (e ∷ []) in let new = tells.1 in omega (arith, n, new);
  links = λ m g from within h.
      let n = length-append journal (e ∷ []) in
      let new = tells.1 in
      let last : m ≡ length (journal ++ e ∷ []) = omega (arith, n, new, from, within) in
      subst (λ k. AreLinks (journal ++ e ∷ []) k g) last h;
}

-- the same, of the parts that the code has
pub same_after : (journal longer : List Entry) (e : Entry) (before since number : ℕ) → longer ≡ journal ++ e ∷ []
    → number ≡ length journal + 1 → ((e.changes ≡ []) × (since ≡ before)) ⊎ ((e.changes ≢ []) × (since ≡ number))
    → AreSameSince journal before → AreSameSince longer since
same_after journal longer e before since number is last told same =
    subst (λ (j : List Entry). AreSameSince j since) (sym is)
    (same_more journal e before since
    (subst (λ n. ((e.changes ≡ []) × (since ≡ before)) ⊎ ((e.changes ≢ []) × (since ≡ n))) last told) same)
