-- Entries and listings that are judged one after another.
use Rattle.std.proofs.Common.{◌≡◌, ◌≢◌, ◌↔◌, ◌⊎◌, inl, inr, List, [], ◌∷◌, ◌++◌, ℕ, sym, ap, subst, refl}
use Rattle.ov_ids.specs.Members.{Has, Ordered}
use Rattle.ov_ids.proofs.Members.{has_append_left, has_append_right, has_append_cases}
use Rattle.ov_dump.specs.Code.Judging.{EntryFails, ListingFails}
use Rattle.ov_dump.specs.Dumps.{names_of}
use Rattle.ov_dump.specs.Faults.{AreSoundEntries, AreSoundListings, IsDumpFault, IsEntryFlaw, IsFlaw, IsListingFlaw}
use Rattle.ov_dump.specs.Faults.{IsSoundListing}
use Rattle.ov_dump.specs.declared.dump_and_graph_types.Choice.{Choice}
use Rattle.ov_dump.specs.declared.dump_and_graph_types.Dump.{Dump}
use Rattle.ov_dump.specs.declared.dump_and_graph_types.HostEntry.{HostEntry}
use Rattle.ov_dump.specs.declared.dump_and_graph_types.Listing.{Listing}
use Rattle.ov_dump.specs.declared.graph_making_fault.DumpFault.{DumpFault}
use Rattle.ov_dump.specs.declared.graph_making_fault.DumpFault.TheVariants.{NameTwice, EmptyName}
use Rattle.ov_dump.specs.declared.graph_making_fault.DumpFault.TheVariants.{TooManyNodes, OutOfMemory}
use Rattle.ov_dump.proofs.Places.{ordered_more}

-- ---- entries

-- the entries so far are sound, and their names were seen
pub record SoundSoFar (before : List HostEntry) (seen : List (List ℕ)) : Type 0 where
  pub sound : AreSoundEntries before
  pub each : (n : List ℕ) → Has seen n ↔ Has (names_of before) n

pub begun : (seen : List (List ℕ)) → seen ≡ [] → SoundSoFar [] seen
begun seen none = record {
  sound = record { named = λ e h. absurd h; differ = tt };
  each = λ n. ((λ h. subst (λ s. Has s n) none h), (λ h. absurd h));
}

pub names_more : (before : List HostEntry) (e : HostEntry)
    → names_of (before ++ e ∷ []) ≡ names_of before ++ e.name ∷ []
names_more [] e = refl
names_more (x ∷ xs) e = ap (λ ns. x.name ∷ ns) (names_more xs e)

-- one entry more
pub more : (before : List HostEntry) (e : HostEntry) (seen later : List (List ℕ)) → SoundSoFar before seen → e.name ≢ []
    → ¬ Has seen e.name → ((n : List ℕ) → Has later n ↔ ((e.name ≡ n) ⊎ Has seen n))
    → SoundSoFar (before ++ e ∷ []) later
more before e seen later s named fresh grown =
    let names = names_of before in
    let longer = names_more before e in
    record {
      sound = record {
        named = λ x h. elim (has_append_cases before (e ∷ []) x h) [
          | inl k ↦ s.sound.named x k
          | inr k ↦ elim k [
            | inl same ↦ subst (λ (y : HostEntry). y.name ≢ []) same named
            | inr none ↦ absurd none
          ]
        ];
        differ = subst (Ordered (λ m n. m ≢ n)) (sym longer)
            (ordered_more (λ m n. m ≢ n) names e.name s.sound.differ
            (λ m h same. fresh ((s.each e.name).1 (subst (Has names) same h))));
      };
      each = λ n. (
        (λ h. subst (λ ns. Has ns n) (sym longer) (elim ((grown n).0 h) [
          | inl same ↦ has_append_right names (e.name ∷ []) n (inl same)
          | inr k ↦ has_append_left names (e.name ∷ []) n ((s.each n).0 k)
        ])),
        (λ h. (grown n).1 (elim (has_append_cases names (e.name ∷ []) n (subst (λ ns. Has ns n) longer h)) [
          | inl k ↦ inr ((s.each n).1 k)
          | inr k ↦ elim k [ inl same ↦ inl same | inr none ↦ absurd none ]
        ])),
      );
    }

-- the next entry is not sound
pub flaw : (entries before after : List HostEntry) (e : HostEntry) (seen : List (List ℕ)) (fault : DumpFault)
    → SoundSoFar before seen → entries ≡ before ++ e ∷ after → EntryFails seen e fault
    → (fault ≡ OutOfMemory) ⊎ IsEntryFlaw entries fault
flaw entries before after e seen (EmptyName at) s split f = inr (before, e, (after, split, s.sound), f.0, f.1)
flaw entries before after e seen (NameTwice at name) s split f =
    inr (
      before,
      e,
      (after, split, s.sound),
      f.0,
      f.1,
      subst (Has (names_of before)) (sym f.1) ((s.each e.name).0 f.2),
    )
flaw entries before after e seen OutOfMemory s split f = inl refl
flaw entries before after e seen (TooManyNodes at name most) s split f = absurd f

-- ---- listings

pub none_listed : AreSoundListings []
none_listed l h = absurd h

-- one listing more
pub more_listed : (before : List Listing) (l : Listing) → AreSoundListings before → IsSoundListing l
    → AreSoundListings (before ++ l ∷ [])
more_listed before l sound one x h = elim (has_append_cases before (l ∷ []) x h) [
  | inl k ↦ sound x k
  | inr k ↦ elim k [ inl same ↦ subst IsSoundListing same one | inr none ↦ absurd none ]
]

-- the next listing is not sound
pub flaw_listed : (listings before after : List Listing) (l : Listing) (fault : DumpFault)
    → AreSoundListings before → listings ≡ before ++ l ∷ after → ListingFails l fault
    → IsListingFlaw listings fault
flaw_listed listings before after l (EmptyName at) s split f = (l, (before, after, split, s), f.0, f.1)
flaw_listed listings before after l OutOfMemory s split f = absurd f
flaw_listed listings before after l (NameTwice at name) s split f = absurd f
flaw_listed listings before after l (TooManyNodes at name most) s split f = absurd f

-- ---- the dump

pub of_entries : (d : Dump) (fault : DumpFault) → (fault ≡ OutOfMemory) ⊎ IsEntryFlaw d.entries fault
    → (fault ≡ OutOfMemory) ⊎ IsFlaw d fault
of_entries d fault f = elim f [ inl e ↦ inl e | inr k ↦ inr (inl k) ]

pub of_listings : (d : Dump) (fault : DumpFault) → AreSoundEntries d.entries
    → IsListingFlaw d.listings fault
    → (fault ≡ OutOfMemory) ⊎ IsFlaw d fault
of_listings d fault sound f = inr (inr (sound, f))

-- what is wrong with a dump that is not sound is its fault
pub is_fault : (choice : Choice) (d : Dump) (fault : DumpFault) → (fault ≡ OutOfMemory) ⊎ IsFlaw d fault
    → IsDumpFault choice d fault
is_fault choice d OutOfMemory f = tt
is_fault choice d (EmptyName at) f = elim f [ inl e ↦ absurd (cc) | inr k ↦ k ]
is_fault choice d (NameTwice at name) f = elim f [ inl e ↦ absurd (cc) | inr k ↦ k ]
is_fault choice d (TooManyNodes at name most) f = elim f [
  | inl e ↦ absurd (cc)
  | inr k ↦ elim k [ inl m ↦ absurd m | inr m ↦ absurd m.1 ]
]
