-- Lines that are read one after another.
use Rattle.std.proofs.Common.{◌≡◌, ◌∙◌, ◌↔◌, ℕ, List, [], ◌∷◌, ◌++◌, inl, inr, sym, ap, subst, refl}
use Rattle.std.proofs.Common.{append_assoc, append-nil}
use Rattle.std.specs.List.{flat_map}
use Rattle.ov_ids.specs.Members.{Has}
use Rattle.ov_lines.specs.Lines.{kept_lines}
use Rattle.ov_dump.specs.FirstEntries.{AreFirsts}
use Rattle.ov_dump.specs.declared.dump_and_graph_types.HostEntry.{HostEntry}
use Rattle.ov_dump.specs.declared.dump_and_graph_types.Listing.{Listing}
use Rattle.ov_dump.specs.Code.Reading.{FailsAtLine, TakesEnds, TakesEntry}
use Rattle.ov_dump.specs.EdgeLines.{IsBlankLine, IsEdge, IsReadable}
use Rattle.ov_dump.specs.Edges.{Edge, IsEdgesFault, IsUnreadAt, SayEdges, SaysEdges, ends_of}
use Rattle.ov_dump.specs.Edges.{listings_of}
use Rattle.ov_dump.specs.declared.reading_fault.DumpReadFault.{DumpReadFault}
use Rattle.ov_dump.specs.declared.reading_fault.DumpReadFault.TheVariants.{NotJson, NotViews, NoView, UnreadLine}
use Rattle.ov_dump.specs.declared.reading_fault.DumpReadFault.TheVariants.{OutOfMemory}
use Rattle.ov_dump.specs.declared.unread_edge_line_reason.Why.{Why}

-- ---- the first entries

-- it matters only which names were seen
firsts_same : (s t : List (List ℕ)) (all more : List HostEntry) → ((n : List ℕ) → Has s n ↔ Has t n)
    → AreFirsts s all more → AreFirsts t all more
firsts_same s t [] more same f = f
firsts_same s t (e ∷ all) more same f = elim f [
  | inl h ↦ inl ((same e.name).0 h.0, firsts_same s t all more same h.1)
  | inr h ↦ inr (
    h.0,
    (λ k. h.1 ((same e.name).1 k)),
    h.2,
    firsts_same (e.name ∷ s) (e.name ∷ t) all h.0 (λ n. (
      (λ k. elim k [ inl same_name ↦ inl same_name | inr m ↦ inr ((same n).0 m) ]),
      (λ k. elim k [ inl same_name ↦ inl same_name | inr m ↦ inr ((same n).1 m) ]),
    )) h.3,
  )
]

-- the entries so far, with those that are still to come behind the next one
firsts_next : (seen mid : List (List ℕ)) (entries between : List HostEntry) (e : HostEntry) (all more : List HostEntry)
    → TakesEntry seen entries e mid between → AreFirsts mid all more
    → (next : List HostEntry) × AreFirsts seen (e ∷ all) next × (entries ++ next ≡ between ++ more)
firsts_next seen mid entries between e all more takes f = elim takes [
  | inl h ↦ (
    more,
    inl (h.0, subst (λ (s : List (List ℕ)). AreFirsts s all more) h.1 f),
    ap (λ es. es ++ more) (sym h.2),
  )
  | inr h ↦ (
    e ∷ more,
    inr (more, h.0, refl, firsts_same mid (e.name ∷ seen) all more h.1 f),
    sym (append_assoc entries (e ∷ []) more) ∙ ap (λ es. es ++ more) (sym h.2),
  )
]

-- ---- the file

-- with what the lines that are left say, the file says the entries and the listings so far, and those. If one of the
-- lines that are left is the first that can't be read, it is the first of the file
pub record Gathers (bytes : List ℕ) (seen : List (List ℕ)) (entries : List HostEntry) (listings : List Listing)
    (left : List (ℕ × List ℕ)) : Type 0 where
  pub says : (edges : List Edge) (more : List HostEntry) → SayEdges left edges
      → AreFirsts seen (flat_map ends_of edges) more
      → SaysEdges bytes (record { entries = entries ++ more; listings = listings ++ flat_map listings_of edges })
  pub fails : (n : ℕ) (why : Why) → IsUnreadAt left n why → IsUnreadAt (kept_lines bytes) n why

pub begun : (bytes : List ℕ) (seen : List (List ℕ)) (entries : List HostEntry) (listings : List Listing)
    (left : List (ℕ × List ℕ)) → seen ≡ [] → entries ≡ [] → listings ≡ [] → left ≡ kept_lines bytes
    → Gathers bytes seen entries listings left
begun bytes seen entries listings left no_name no_entry no_listing all = record {
  says = λ edges more s f. record {
    edges = edges;
    said = subst (λ (ls : List (ℕ × List ℕ)). SayEdges ls edges) all s;
    entries = subst (λ (es : List HostEntry). AreFirsts [] (flat_map ends_of edges) (es ++ more)) (sym no_entry)
        (subst (λ (ns : List (List ℕ)). AreFirsts ns (flat_map ends_of edges) more) no_name f);
    listings = ap (λ ls. ls ++ flat_map listings_of edges) no_listing;
  };
  fails = λ n why f. subst (λ (ls : List (ℕ × List ℕ)). IsUnreadAt ls n why) all f;
}

-- a line that says nothing
pub passed : (bytes : List ℕ) (seen : List (List ℕ)) (entries : List HostEntry) (listings : List Listing)
    (left rest : List (ℕ × List ℕ)) (n : ℕ) (line : List ℕ)
    → Gathers bytes seen entries listings left → left ≡ (n, line) ∷ rest → IsBlankLine line
    → Gathers bytes seen entries listings rest
passed bytes seen entries listings left rest n line g first blank = record {
  says = λ edges more s f.
      g.says edges more (subst (λ (ls : List (ℕ × List ℕ)). SayEdges ls edges) (sym first) (inl (blank, s))) f;
  fails = λ m why f.
      g.fails m why (subst (λ (ls : List (ℕ × List ℕ)). IsUnreadAt ls m why) (sym first) (inr (inl blank, f)));
}

-- a line that says an edge
pub added : (bytes : List ℕ) (seen seen' : List (List ℕ)) (entries entries' : List HostEntry)
    (listings listings' : List Listing) (left rest : List (ℕ × List ℕ)) (n : ℕ) (line a b : List ℕ)
    → Gathers bytes seen entries listings left → left ≡ (n, line) ∷ rest → IsEdge line a b
    → TakesEnds seen entries (record { at = n; name = a }) (record { at = n; name = b }) seen' entries'
    → listings' ≡ listings ++ listings_of (record { line = n; a = a; b = b })
    → Gathers bytes seen' entries' listings' rest
added bytes seen seen' entries entries' listings listings' left rest n line a b g first said takes grown = record {
  says = λ edges more s f.
      let e : Edge = record { line = n; a = a; b = b } in
      let two = firsts_next takes.0 seen' takes.1 entries' (record { at = n; name = b }) (flat_map ends_of edges) more
      takes.3 f in
      let one = firsts_next seen takes.0 entries takes.1 (record { at = n; name = a })
      (record { at = n; name = b } ∷ flat_map ends_of edges) two.0 takes.2 two.1 in
      let whole = g.says (e ∷ edges) one.0
      (subst (λ (ls : List (ℕ × List ℕ)). SayEdges ls (e ∷ edges)) (sym first) (inr (a, b, edges, said, refl, s)))
      one.1 in
      let listings_are : listings ++ (listings_of e ++ flat_map listings_of edges)
      ≡ listings' ++ flat_map listings_of edges =
      sym (append_assoc listings (listings_of e) (flat_map listings_of edges))
      ∙ ap (λ ls. ls ++ flat_map listings_of edges) (sym grown) in
      subst (λ (es : List HostEntry). SaysEdges bytes
      (record { entries = es; listings = listings' ++ flat_map listings_of edges })) (one.2 ∙ two.2)
      (subst (λ (ls : List Listing). SaysEdges bytes (record { entries = entries ++ one.0; listings = ls }))
      listings_are
      whole);
  fails = λ m why f.
      g.fails m why (subst (λ (ls : List (ℕ × List ℕ)). IsUnreadAt ls m why) (sym first) (inr (inr (a, b, said), f)));
}

-- the next line can't be read
pub unread : (bytes : List ℕ) (seen : List (List ℕ)) (entries : List HostEntry) (listings : List Listing)
    (left rest : List (ℕ × List ℕ)) (n : ℕ) (line : List ℕ) (fault : DumpReadFault)
    → Gathers bytes seen entries listings left → left ≡ (n, line) ∷ rest → ¬ IsReadable line → FailsAtLine n line fault
    → IsEdgesFault bytes fault
unread bytes seen entries listings left rest n line (UnreadLine m why) g first none fails =
    g.fails m why
    (subst (λ (ls : List (ℕ × List ℕ)). IsUnreadAt ls m why) (sym first) (inl (none, fails.0, fails.1)))
unread bytes seen entries listings left rest n line NotJson g first none fails = absurd fails
unread bytes seen entries listings left rest n line NotViews g first none fails = absurd fails
unread bytes seen entries listings left rest n line (NoView entry name) g first none fails = absurd fails
unread bytes seen entries listings left rest n line OutOfMemory g first none fails = tt

-- no line is left
pub all_read : (bytes : List ℕ) (seen : List (List ℕ)) (entries : List HostEntry) (listings : List Listing)
    (left : List (ℕ × List ℕ)) → Gathers bytes seen entries listings left → left ≡ []
    → SaysEdges bytes (record { entries = entries; listings = listings })
all_read bytes seen entries listings left g none =
    subst (λ (es : List HostEntry). SaysEdges bytes (record { entries = es; listings = listings })) (append-nil entries)
    (subst (λ (ls : List Listing). SaysEdges bytes (record { entries = entries ++ []; listings = ls }))
    (append-nil listings)
    (g.says [] [] (subst (λ (ls : List (ℕ × List ℕ)). SayEdges ls []) (sym none) refl) refl))

pub no_memory : (bytes : List ℕ) (fault : DumpReadFault) → fault ≡ OutOfMemory → IsEdgesFault bytes fault
no_memory bytes fault e = subst (IsEdgesFault bytes) (sym e) tt
