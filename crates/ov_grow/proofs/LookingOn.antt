-- That the search for a crashed neighbour may go on where it was: nobody has one more than before, unless an entry
-- tells that a node took one into its active view.
use Rattle.std.proofs.Common.{◌≡◌, ◌≢◌, ◌<◌, ◌≤◌, ◌+◌, ◌∙◌, ℕ, zero, suc, List, [], ◌∷◌, ◌++◌, length, take, drop}
use Rattle.std.proofs.Common.{◌-◌, get_or, Option, Some, None, refl, sym, ap, subst, append_assoc, inl, inr, arith}
use Rattle.std.proofs.Common.{length-append}
use Rattle.std.proofs.lemmas.List.{drop_all, drop_more, length-drop}
use Rattle.std.proofs.Math.Seq.{drop-append_seam, take-length}
use Rattle.std.specs.FinMap as map
use Rattle.std.specs.Ordering.{nat_cmp}
use Rattle.ov_ids.specs.Members.{Has}
use Rattle.ov_ids.proofs.Members.{has_append_cases}
use Rattle.ov_net.specs.Journal.{HoldsAfter, changes_of}
use Rattle.ov_net.specs.Net.{Net}
use Rattle.ov_net.specs.World.{Stands}
use Rattle.ov_net.specs.declared.journal_entry_and_changes.Change.{Change}
use Rattle.ov_net.specs.declared.journal_entry_and_changes.Change.TheVariants.{Up}
use Rattle.ov_net.specs.declared.journal_entry_and_changes.Entry.{Entry}
use Rattle.ov_net.specs.declared.member.Member.{Member}
use Rattle.ov_net.specs.declared.member.Member.TheVariants.{Live, Gone}
use Rattle.ov_net.proofs.Journal.After.{holds_cases, holds_told}
use Rattle.ov_grow.specs.declared.phase_rules.PhaseRules.{PhaseRules}
use Rattle.ov_script.specs.declared.recordable_event.Act.TheVariants as act
use Rattle.ov_grow.specs.Growth.{Growth, AreLive, Does}
use Rattle.ov_grow.specs.Phases.{IsCrashedNeighbour}
use Rattle.ov_grow.specs.Turns.{RunOut}
use Rattle.ov_grow.specs.Code.Standing.{HasCrashed, HaveNone, TakeNoCrashed, TakesNoCrashed}
use Rattle.ov_grow.proofs.Keeping.{Keeps, KeepsNodes, keeps_trans, report_keeps, turns_keep}

-- ---- changes

changes_joined : (xs ys : List Entry) → changes_of (xs ++ ys) ≡ changes_of xs ++ changes_of ys
changes_joined [] ys = refl
changes_joined (x ∷ xs) ys =
    ap (λ l. x.changes ++ l) (changes_joined xs ys) ∙ sym (append_assoc x.changes (changes_of xs) (changes_of ys))

none_joined :
    (w : Net) (xs ys : List Change) → TakeNoCrashed w xs → TakeNoCrashed w ys → TakeNoCrashed w (xs ++ ys)
none_joined w xs ys first second c has = elim (has_append_cases xs ys c has) [
  | inl here ↦ first c here
  | inr there ↦ second c there
]

-- the first of the changes that are left, and the others
pub change_left :
    (w : Net) (changes : List Change) (i : ℕ) (d : Change) → i < length changes → TakesNoCrashed w (get_or changes i d)
    → TakeNoCrashed w (drop (i + 1) changes) → TakeNoCrashed w (drop i changes)
change_left w changes i d within one more =
    subst (TakeNoCrashed w) (sym (drop_more changes i d within)) (λ c has. by c has) where
      by : (c : Change) → Has (get_or changes i d ∷ drop (i + 1) changes) c → TakesNoCrashed w c
      by c (inl same) = subst (TakesNoCrashed w) same one
      by c (inr has) = more c has

-- none is left
pub no_change_left : (w : Net) (changes : List Change) (i : ℕ) → length changes ≤ i → TakeNoCrashed w (drop i changes)
no_change_left w changes i past = subst (TakeNoCrashed w) (sym (drop_all i changes past)) (λ c has. absurd has)

-- the first of the entries that are left, and the others
pub entry_left :
    (w : Net) (entries : List Entry) (i : ℕ) (d : Entry) → i < length entries
    → TakeNoCrashed w (get_or entries i d).changes → TakeNoCrashed w (changes_of (drop (i + 1) entries))
    → TakeNoCrashed w (changes_of (drop i entries))
entry_left w entries i d within one more =
    subst (λ es. TakeNoCrashed w (changes_of es)) (sym (drop_more entries i d within))
    (none_joined w (get_or entries i d).changes (changes_of (drop (i + 1) entries)) one more)

pub no_entry_left :
    (w : Net) (entries : List Entry) (i : ℕ) → length entries ≤ i → TakeNoCrashed w (changes_of (drop i entries))
no_entry_left w entries i past =
    subst (λ es. TakeNoCrashed w (changes_of es)) (sym (drop_all i entries past)) (λ c has. absurd has)

-- the entries from a place on are all that are left
pub tail_whole :
    (entries : List Entry) (n : ℕ) → take (length entries - n) (drop n entries) ≡ drop n entries
tail_whole entries n =
    subst (λ k. take k (drop n entries) ≡ drop n entries) (length-drop n entries) (take-length (drop n entries))

-- ---- nodes

-- who has crashed had crashed before
gone_before :
    (m n : map.FinMap nat_cmp Member) (b : ℕ) → KeepsNodes m n → map.get n b ≡ Some Gone → map.get m b ≡ Some Gone
gone_before m n b keeps gone = by (map.get m b) refl where
  by : (o : Option Member) → map.get m b ≡ o → map.get m b ≡ Some Gone
  by None none = absurd (keeps.born b (λ never. absurd (let e = sym gone ∙ never in cc)) none)
  by (Some (Live p)) lives = absurd (let (q, living) = keeps.live b p lives in let e = sym living ∙ gone in cc)
  by (Some Gone) is = is

-- who has a crashed neighbour had it before
crashed_before :
    (s u : Growth) (a b : ℕ) → Stands s.world → Stands u.world → Keeps s u
    → TakeNoCrashed u.world.net (changes_of (drop (length s.world.journal) u.world.journal))
    → IsCrashedNeighbour u a b → IsCrashedNeighbour s a b
crashed_before s u a b before after keeps none (q, lives, has, gone) =
    let (p, living, fewer) = keeps.nodes.made a q lives in
    let old = s.world.journal in
    let new = u.world.journal in
    let later : drop (length old) new ≡ keeps.more =
    ap (drop (length old)) keeps.journal ∙ drop-append_seam old keeps.more in
    let all : changes_of (take (length new) new) ≡ changes_of old ++ changes_of keeps.more =
    ap changes_of (take-length new ∙ keeps.journal) ∙ changes_joined old keeps.more in
    let holds : HoldsAfter (changes_of old ++ changes_of keeps.more) a b =
    subst (λ cs. HoldsAfter cs a b) all ((after.tells.held a b q lives).0 has) in
    let held : HoldsAfter (changes_of old) a b = elim (holds_cases (changes_of old) (changes_of keeps.more) a b holds) [
      | inl taken ↦
          absurd (subst (λ es. TakeNoCrashed u.world.net (changes_of es)) later none (Up a b)
          (holds_told (changes_of keeps.more) a b taken) gone)
      | inr kept ↦ kept.0
    ] in (
      p,
      living,
      (before.tells.held a b p living).1 (subst (λ es. HoldsAfter (changes_of es) a b) (sym (take-length old)) held),
      gone_before s.world.net.nodes u.world.net.nodes b keeps.nodes gone,
    )

-- ---- the search

-- the journal is no shorter
pub no_shorter : (s u : Growth) → Keeps s u → length s.world.journal ≤ length u.world.journal
no_shorter s u keeps =
    let long = ap (λ (es : List Entry). length es) keeps.journal ∙ length-append s.world.journal keeps.more in
    omega (arith, long)

-- the same nodes live
pub live_kept : (s u : Growth) (ids : List ℕ) → Keeps s u → AreLive s ids → AreLive u ids
live_kept s u ids keeps are = record {
  ascend = are.ascend;
  live = λ a has. let (p, lives) = are.live a has in keeps.nodes.live a p lives;
  each = λ a (q, lives). let (p, living, fewer) = keeps.nodes.made a q lives in are.each a (p, living);
}

-- none before the place from which the search goes on has a crashed neighbour
pub search_kept :
    (s u : Growth) (ids : List ℕ) (place from : ℕ) → Stands s.world → Stands u.world → Keeps s u
    → HaveNone (HasCrashed s) (take place ids) → (from ≢ 0 → from ≡ place)
    → (from ≢ 0 → TakeNoCrashed u.world.net (changes_of (drop (length s.world.journal) u.world.journal)))
    → HaveNone (HasCrashed u) (take from ids)
search_kept s u ids place zero before after keeps none same quiet = λ a has. absurd has
search_kept s u ids place (suc from) before after keeps none same quiet = λ a has (b, crashed).
    none a (subst (λ i. Has (take i ids) a) (same (λ e. absurd cc)) has)
    (b, crashed_before s u a b before after keeps (quiet (λ e. absurd cc)) crashed)

-- a report and its packets
pub reported_keeps :
    (rules : PhaseRules) (s t u : Growth) (node crashed : ℕ) → Does s (act.CrashReport node crashed) t → RunOut rules
    t u
    → Keeps s u
reported_keeps rules s t u node crashed did (n, turns, out) =
    keeps_trans s t u (report_keeps s t node crashed did) (turns_keep rules n t u turns)
