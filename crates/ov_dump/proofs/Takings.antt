-- Names that are taken one after another.
use Rattle.std.proofs.Common.{◌≡◌, ◌∙◌, ◌↔◌, ◌⊎◌, ◌+◌, ◌≤◌, ◌<◌, inl, inr, List, [], ◌∷◌, ◌++◌, ℕ, sym, ap, subst}
use Rattle.std.proofs.Common.{refl, map, length, append_assoc, append-nil, arith, Bool, true, false, MatchBool}
use Rattle.std.proofs.Common.{if◌then◌else◌}
use Rattle.std.specs.List.{flat_map}
use Rattle.ov_ids.specs.Members.{Has, Ordered}
use Rattle.ov_ids.proofs.Members.{has_append_left, has_append_right, has_append_cases}
use Rattle.ov_graph.specs.Links.{most_of}
use Rattle.ov_dump.specs.Code.Taking.{Gains, RunsOver}
use Rattle.ov_dump.specs.Dumps.{HasEntry, IsNamed, IsTaken, ends_of, names_of}
use Rattle.ov_dump.specs.Faults.{IsDumpFault, IsSound, Naming, entry_namings, listing_namings, namings}
use Rattle.ov_dump.specs.Names.{ComesBefore}
use Rattle.ov_dump.specs.declared.dump_and_graph_types.Choice.{Choice}
use Rattle.ov_dump.specs.declared.dump_and_graph_types.Dump.{Dump}
use Rattle.ov_dump.specs.declared.dump_and_graph_types.HostEntry.{HostEntry}
use Rattle.ov_dump.specs.declared.dump_and_graph_types.Listing.{Listing}
use Rattle.ov_dump.specs.declared.graph_making_fault.DumpFault.{DumpFault}
use Rattle.ov_dump.specs.declared.graph_making_fault.DumpFault.TheVariants.{NameTwice, EmptyName}
use Rattle.ov_dump.specs.declared.graph_making_fault.DumpFault.TheVariants.{TooManyNodes, OutOfMemory}

-- ---- lists of names

abbrev pub texts : List Naming → List (List ℕ)
texts ms = map (λ m. m.1) ms

pub texts_append : (xs ys : List Naming) → texts (xs ++ ys) ≡ texts xs ++ texts ys
texts_append [] ys = refl
texts_append (x ∷ xs) ys = ap (λ ns. x.1 ∷ ns) (texts_append xs ys)

pub entries_append : (xs ys : List HostEntry) → entry_namings (xs ++ ys) ≡ entry_namings xs ++ entry_namings ys
entries_append [] ys = refl
entries_append (x ∷ xs) ys = ap (λ ms. (x.at, x.name) ∷ ms) (entries_append xs ys)

pub listings_append : (xs ys : List Listing)
    → flat_map listing_namings (xs ++ ys) ≡ flat_map listing_namings xs ++ flat_map listing_namings ys
listings_append [] ys = refl
listings_append (x ∷ xs) ys = ap (λ ms. (x.at, x.from) ∷ (x.at, x.to) ∷ ms) (listings_append xs ys)

-- ---- a set that gains names

pub gains_none : (most : ℕ) (names : List (List ℕ)) → length names ≤ most → Gains most names [] names
gains_none most names few = record {
  each = λ n. ((λ h. inl h), (λ h. elim h [ inl k ↦ k | inr k ↦ absurd k ]));
  few = few;
}

-- some names, and then others
pub gains_more : (most : ℕ) (old mid new : List (List ℕ)) (before more : List Naming) → Gains most old before mid
    → Gains most mid more new → Gains most old (before ++ more) new
gains_more most old mid new before more first second = record {
  each = λ n. (
    (λ h. elim ((second.each n).0 h) [
      | inl k ↦ elim ((first.each n).0 k) [
        | inl o ↦ inl o
        | inr b ↦ inr (subst (λ ns. Has ns n) (sym (texts_append before more))
            (has_append_left (texts before) (texts more) n b))
      ]
      | inr k ↦ inr (subst (λ ns. Has ns n) (sym (texts_append before more))
          (has_append_right (texts before) (texts more) n k))
    ]),
    (λ h. elim h [
      | inl o ↦ (second.each n).1 (inl ((first.each n).1 (inl o)))
      | inr k ↦ elim (has_append_cases (texts before) (texts more) n
          (subst (λ ns. Has ns n) (texts_append before more) k)) [
            | inl b ↦ (second.each n).1 (inl ((first.each n).1 (inr b)))
            | inr m ↦ (second.each n).1 (inr m)
          ]
    ]),
  );
  few = second.few;
}

-- a name that was taken before
pub gains_known : (most : ℕ) (names : List (List ℕ)) (at : ℕ) (name : List ℕ) → Has names name → length names ≤ most
    → Gains most names ((at, name) ∷ []) names
gains_known most names at name known few = record {
  each = λ n. (
    (λ h. inl h),
    (λ h. elim h [
      | inl k ↦ k
      | inr k ↦ elim k [ inl same ↦ subst (Has names) same known | inr none ↦ absurd none ]
    ]),
  );
  few = few;
}

-- a new name
pub gains_new : (most : ℕ) (old new : List (List ℕ)) (at : ℕ) (name : List ℕ)
    → ((n : List ℕ) → Has new n ↔ ((name ≡ n) ⊎ Has old n)) → length new ≡ length old + 1 → length old < most
    → Gains most old ((at, name) ∷ []) new
gains_new most old new at name grown longer few = record {
  each = λ n. (
    (λ h. elim ((grown n).0 h) [ inl same ↦ inr (inl same) | inr k ↦ inl k ]),
    (λ h. (grown n).1 (elim h [
      | inl k ↦ inr k
      | inr k ↦ elim k [ inl same ↦ inl same | inr none ↦ absurd none ]
    ])),
  );
  few = omega (arith, longer, few);
}

-- ---- one name too many

pub runs_here : (most : ℕ) (names : List (List ℕ)) (at limit : ℕ) (name copy : List ℕ) → limit ≡ most → copy ≡ name
    → Ordered ComesBefore names
    → length names ≤ most → most ≤ length names → ¬ Has names name
    → RunsOver most names ((at, name) ∷ []) (TooManyNodes at copy limit)
runs_here most names at limit name copy told same up few many another = (
  told,
  [],
  [],
  names,
  ap (λ n. (at, n) ∷ []) (sym same),
  gains_none most names few,
  record { ascend = up; full = omega (arith, few, many); another = λ h. another (subst (Has names) same h) },
)

pub no_memory : (most : ℕ) (old : List (List ℕ)) (more : List Naming) (fault : DumpFault) → fault ≡ OutOfMemory
    → RunsOver most old more fault
no_memory most old more fault e = subst (RunsOver most old more) (sym e) tt

-- after other names were taken
pub runs_after : (most : ℕ) (old mid : List (List ℕ)) (all before more rest : List Naming) (fault : DumpFault)
    → Gains most old before mid → all ≡ before ++ (more ++ rest) → RunsOver most mid more fault
    → RunsOver most old all fault
runs_after most old mid all before more rest (TooManyNodes at name limit) first whole
    (e, b, a, kept, split, gains, full) =
    let x : Naming = (at, name) in (
      e,
      before ++ b,
      a ++ rest,
      kept,
      whole ∙ ap (λ ms. before ++ (ms ++ rest)) split ∙ ap (λ ms. before ++ ms) (append_assoc b (x ∷ a) rest)
          ∙ sym (append_assoc before b (x ∷ (a ++ rest))),
      gains_more most old mid kept before b first gains,
      full,
    )
runs_after most old mid all before more rest OutOfMemory first whole r = tt
runs_after most old mid all before more rest (EmptyName at) first whole r = absurd r
runs_after most old mid all before more rest (NameTwice at name) first whole r = absurd r

pub runs_first : (most : ℕ) (old : List (List ℕ)) (all more rest : List Naming) (fault : DumpFault)
    → length old ≤ most → all ≡ more ++ rest → RunsOver most old more fault → RunsOver most old all fault
runs_first most old all more rest fault few whole r =
    runs_after most old old all [] more rest fault (gains_none most old few) whole r

-- ---- the names that are taken are those that the dump names

texts_of_entries : (entries : List HostEntry) → texts (entry_namings entries) ≡ names_of entries
texts_of_entries [] = refl
texts_of_entries (e ∷ entries) = ap (λ ns. e.name ∷ ns) (texts_of_entries entries)

abbrev pub IsEnd : List Listing → List ℕ → Type 0
IsEnd ls n = ((b : List ℕ) × Has (ends_of ls) (n, b)) ⊎ ((a : List ℕ) × Has (ends_of ls) (a, n))

is_end : (ls : List Listing) (n : List ℕ) → Has (texts (flat_map listing_namings ls)) n → IsEnd ls n
is_end [] n h = absurd h
is_end (l ∷ ls) n h = elim h [
  | inl e ↦ inl (l.to, inl (ap (λ (x : List ℕ). (x, l.to)) e))
  | inr k ↦ elim k [
    | inl e ↦ inr (l.from, inl (ap (λ (x : List ℕ). (l.from, x)) e))
    | inr m ↦ elim (is_end ls n m) [ inl r ↦ inl (r.0, inr r.1) | inr r ↦ inr (r.0, inr r.1) ]
  ]
]

end_is : (ls : List Listing) (n : List ℕ) → IsEnd ls n → Has (texts (flat_map listing_namings ls)) n
end_is [] n h = elim h [ inl r ↦ absurd r.1 | inr r ↦ absurd r.1 ]
end_is (l ∷ ls) n h = elim h [
  | inl r ↦ elim r.1 [
    | inl e ↦ inl (ap (λ (p : List ℕ × List ℕ). p.0) e)
    | inr k ↦ inr (inr (end_is ls n (inl (r.0, k))))
  ]
  | inr r ↦ elim r.1 [
    | inl e ↦ inr (inl (ap (λ (p : List ℕ × List ℕ). p.1) e))
    | inr k ↦ inr (inr (end_is ls n (inr (r.0, k))))
  ]
]

-- of this choice
abbrev pub chosen : Bool → Dump → List Naming
chosen only d = entry_namings d.entries ++ (if only then [] else flat_map listing_namings d.listings)

pub taken_named : (only : Bool) (d : Dump) (n : List ℕ)
    → Has (texts (chosen only d)) n ↔ MatchBool only (HasEntry d n) (IsNamed d n)
taken_named true d n =
    let e : texts (chosen true d) ≡ names_of d.entries =
    ap texts (append-nil (entry_namings d.entries)) ∙ texts_of_entries d.entries in
    ((λ h. subst (λ ns. Has ns n) e h), (λ h. subst (λ ns. Has ns n) (sym e) h))
taken_named false d n =
    let ends = flat_map listing_namings d.listings in
    let e : texts (chosen false d) ≡ names_of d.entries ++ texts ends =
    texts_append (entry_namings d.entries) ends ∙ ap (λ ns. ns ++ texts ends) (texts_of_entries d.entries) in (
      (λ h. elim (has_append_cases (names_of d.entries) (texts ends) n (subst (λ ns. Has ns n) e h)) [
        | inl k ↦ inl k
        | inr k ↦ inr (is_end d.listings n k)
      ]),
      (λ h. subst (λ ns. Has ns n) (sym e) (elim h [
        | inl k ↦ has_append_left (names_of d.entries) (texts ends) n k
        | inr k ↦ has_append_right (names_of d.entries) (texts ends) n (end_is d.listings n k)
      ])),
    )

-- a set that gained all names that are taken, and nothing else
pub all_taken : (choice : Choice) (d : Dump) (names : List (List ℕ))
    → Gains (most_of choice.limit) [] (namings choice d) names
    → (n : List ℕ) → Has names n ↔ IsTaken choice d n
all_taken choice d names gains n =
    let t = taken_named choice.entries_only d n in (
      (λ h. elim ((gains.each n).0 h) [ inl k ↦ absurd k | inr k ↦ t.0 k ]),
      (λ h. (gains.each n).1 (inr (t.1 h))),
    )

-- the names of a choice, by the cases of it
pub only_entries : (choice : Choice) (d : Dump) (names : List (List ℕ)) → choice.entries_only ≡ true
    → Gains (most_of choice.limit) [] (entry_namings d.entries) names
    → Gains (most_of choice.limit) [] (namings choice d) names
only_entries choice d names only gains =
    subst (λ (b : Bool). Gains (most_of choice.limit) [] (chosen b d) names) (sym only)
    (subst (λ (ms : List Naming). Gains (most_of choice.limit) [] ms names) (sym (append-nil
    (entry_namings d.entries))) gains)

pub ends_too : (choice : Choice) (d : Dump) (mid names : List (List ℕ)) → choice.entries_only ≡ false
    → Gains (most_of choice.limit) [] (entry_namings d.entries) mid
    → Gains (most_of choice.limit) mid (flat_map listing_namings d.listings) names
    → Gains (most_of choice.limit) [] (namings choice d) names
ends_too choice d mid names only first second =
    subst (λ (b : Bool). Gains (most_of choice.limit) [] (chosen b d) names) (sym only)
    (gains_more (most_of choice.limit) [] mid names (entry_namings d.entries)
    (flat_map listing_namings d.listings) first second)

pub over_in_entries : (choice : Choice) (d : Dump) (fault : DumpFault)
    → RunsOver (most_of choice.limit) [] (entry_namings d.entries) fault
    → RunsOver (most_of choice.limit) [] (namings choice d) fault
over_in_entries choice d fault r =
    runs_first (most_of choice.limit) [] (namings choice d) (entry_namings d.entries)
    (if choice.entries_only then [] else flat_map listing_namings d.listings) fault (omega arith) refl r

pub over_in_ends : (choice : Choice) (d : Dump) (mid : List (List ℕ)) (fault : DumpFault)
    → choice.entries_only ≡ false → Gains (most_of choice.limit) [] (entry_namings d.entries) mid
    → RunsOver (most_of choice.limit) mid (flat_map listing_namings d.listings) fault
    → RunsOver (most_of choice.limit) [] (namings choice d) fault
over_in_ends choice d mid fault only first r =
    let ends = flat_map listing_namings d.listings in
    subst (λ (b : Bool). RunsOver (most_of choice.limit) [] (chosen b d) fault) (sym only)
    (runs_after (most_of choice.limit) [] mid (entry_namings d.entries ++ ends)
    (entry_namings d.entries) ends [] fault first
    (ap (λ ms. entry_namings d.entries ++ ms) (sym (append-nil ends))) r)

-- the fault of a sound dump that has too many names
pub beyond : (choice : Choice) (d : Dump) (fault : DumpFault) → IsSound d
    → RunsOver (most_of choice.limit) [] (namings choice d) fault
    → IsDumpFault choice d fault
beyond choice d (TooManyNodes at name most) sound (limit, before, after, kept, split, gains, full) = (
  sound,
  limit,
  (
    before,
    after,
    split,
    kept,
    record {
      ascend = full.ascend;
      each = λ n. (
        (λ h. elim ((gains.each n).0 h) [ inl k ↦ absurd k | inr k ↦ k ]),
        (λ h. (gains.each n).1 (inr h)),
      );
      full = full.full ∙ sym limit;
      another = full.another;
    },
  ),
)
beyond choice d OutOfMemory sound r = tt
beyond choice d (EmptyName at) sound r = absurd r
beyond choice d (NameTwice at name) sound r = absurd r
