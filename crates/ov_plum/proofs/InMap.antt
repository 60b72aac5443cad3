-- The notes and the running timers that stand in a map of senders, and how they change with the map.
use Rattle.std.proofs.Common.{◌≡◌, ℕ, Bool, true, false, cond, not, ◌&&◌, ◌||◌, T, List, [], ◌∷◌, ◌++◌, drop, Option}
use Rattle.std.proofs.Common.{Some, None, is_some, refl, sym, ap, subst, ◌∙◌, arith, append-nil}
use Rattle.std.proofs.lemmas.Grind.{common_steps}
use Rattle.std.proofs.lemmas.Map.Views.{tells_apart}
use Rattle.std.specs.Prelude.{map as each, slice_get}
use Rattle.std.specs.FinMap as map
use Rattle.std.specs.FinMap.Entries.{below_all, find, is_sorted}
use Rattle.std.specs.FinSet as set
use Rattle.std.specs.List.{AllByRecursion}
use Rattle.std.specs.Option.{option_map, unwrap_or}
use Rattle.std.specs.Ordering.{is_eq, is_lt}
use Rattle.std.specs.declared.cmp.Ordering.TheVariants.{Less, Equal, Greater}
use Rattle.std.specs.Cmp.{tied_itself}
use Rattle.ov_ids.specs.Sets.{has, without}
use Rattle.ov_ids.specs.declared.id.MsgId.{MsgId}
use Rattle.ov_plum.specs.Ids.{id_cmp}
use Rattle.ov_plum.specs.Notes.{Note, is_after, senders, oldest}
use Rattle.ov_plum.specs.Code.Waiting.{WaitingState, notes_among, waiting_in, none_waited, waiting_noted, waiting_asked}
use Rattle.ov_plum.specs.Code.Waiting.{waiting_cleared, waiting_forgot}
use Rattle.ov_plum.proofs.Maps.{id_cmp_total, id_cmp_same, put_again}
use Rattle.ov_plum.proofs.Noting.{InOrder, same, by_id, pushing, same_notes, not_back, senders_append, senders_noted}
use Rattle.ov_plum.proofs.Noting.{senders_cleared, senders_asked, senders_gone}
use Rattle.ov_plum.proofs.InOrder.{All-append, Ordered-append, noted_in_order, cleared_in_order, asked_in_order}
use Rattle.ov_plum.proofs.InOrder.{gone_in_order}

-- the ids whose timers run, each with its senders
abbrev Entries : Type 0
Entries = List (MsgId × List ℕ)

abbrev Map : Type 0
Map = map.FinMap id_cmp (List ℕ)

-- the senders that stand at an id
abbrev pub at : Map → MsgId → List ℕ
at m q = unwrap_or (map.get m q) []

-- the parts of a test of two
both : (a b : Bool) → T (a && b) → T a × T b
both true b h = (tt, h)
both false b h = absurd h

is_true : (b : Bool) → T b → b ≡ true
is_true true h = refl
is_true false h = absurd h

-- an id that is below all ids of these entries is not found there
none_above : (q : MsgId) (es : Entries) → T (below_all id_cmp q es) → find id_cmp q es ≡ None
none_above q [] below = refl
none_above q (e ∷ es) below =
    elim (id_cmp q e.0) as (λ o. T (is_lt o && below_all id_cmp q es)
    → cond (is_eq o) (Some e.1) (find id_cmp q es) ≡ None) [
      | Less ↦ none_above q es
      | Equal ↦ λ never. absurd never
      | Greater ↦ λ never. absurd never
    ] below

-- the notes of these senders are all of their id
senders_each : (q id : MsgId) (xs : List ℕ) → senders q (each (λ s. (id, s)) xs) ≡ cond (same q id) xs []
senders_each q id [] = grind (arith, common_steps)
senders_each q id (x ∷ xs) = grind (arith, common_steps, senders_each q id xs)

-- at each id they are what is found there, since no id stands twice
found_in : (q : MsgId) (es : Entries) → T (is_sorted id_cmp es)
    → senders q (notes_among es) ≡ unwrap_or (find id_cmp q es) []
found_in q [] sorted = refl
found_in q (e ∷ es) sorted =
    let above = both (below_all id_cmp e.0 es) (is_sorted id_cmp es) sorted in
    senders_append q (each (λ s. (e.0, s)) e.1) (notes_among es)
    ∙ (λ i. senders_each q e.0 e.1 i ++ found_in q es above.1 i)
    ∙ elim (same q e.0) as (λ b. same q e.0 ≡ b
    → cond b e.1 [] ++ unwrap_or (find id_cmp q es) [] ≡ unwrap_or (cond b (Some e.1) (find id_cmp q es)) []) [
      | true ↦ λ is. ap (λ o. e.1 ++ unwrap_or o [])
          (none_above q es (subst (λ k. T (below_all id_cmp k es)) (sym (tells_apart id_cmp_same q e.0 is)) above.0))
          ∙ append-nil e.1
      | false ↦ λ _. refl
    ] refl

-- and they are in order
All-each : (P : Note → Type 0) (k : MsgId) (xs : List ℕ) → ((s : ℕ) → P (k, s))
    → AllByRecursion P (each (λ s. (k, s)) xs)
All-each P k [] f = tt
All-each P k (x ∷ xs) f = (f x, All-each P k xs f)

own_in_order : (k : MsgId) (xs : List ℕ) → InOrder (each (λ s. (k, s)) xs)
own_in_order k [] = tt
own_in_order k (x ∷ xs) = (All-each _ k xs (λ s. ap is_lt (tied_itself id_cmp_total k)), own_in_order k xs)

all_above : (k : MsgId) (s : ℕ) (es : Entries) → T (below_all id_cmp k es)
    → AllByRecursion (λ (n : Note). is_after n.0 (k, s) ≡ false) (notes_among es)
all_above k s [] h = tt
all_above k s (e ∷ es) h =
    let parts = both (is_lt (id_cmp k e.0)) (below_all id_cmp k es) h in
    All-append _ _ (notes_among es) (All-each _ e.0 e.1 (λ _. not_back k e.0 (is_true _ parts.0)))
    (all_above k s es parts.1)

in_order : (es : Entries) → T (is_sorted id_cmp es) → InOrder (notes_among es)
in_order [] sorted = tt
in_order (e ∷ es) sorted =
    let above = both (below_all id_cmp e.0 es) (is_sorted id_cmp es) sorted in
    Ordered-append _ _ (notes_among es) (own_in_order e.0 e.1) (in_order es above.1)
    (All-each _ e.0 e.1 (λ s. all_above e.0 s es above.0))

pub in_order_of : (m : Map) → InOrder (waiting_in m).notes
unfolding waiting_in
in_order_of m = in_order (map.entries m) (map.entries_sorted m)

-- these notes and timers are those of the map, of each id by itself
pub record Shows (m : Map) (w : WaitingState) : Type 0 where
  pub running : (q : MsgId) → set.contains w.running q ≡ map.contains_key m q
  pub notes : (q : MsgId) → senders q w.notes ≡ at m q

pub shown : (m : Map) → Shows m (waiting_in m)
unfolding waiting_in
shown m = record {
  running = λ q. set.contains-from_list id_cmp_total (map.keys m) q ∙ sym (map.contains_key-keys m q);
  notes = λ q. found_in q (map.entries m) (map.entries_sorted m) ∙ sym (ap (λ o. unwrap_or o []) (map.get-entries m q));
}

-- so they are those of the map, where they are in order
pub shown_is : (m : Map) (w : WaitingState) → InOrder w.notes → Shows m w → waiting_in m ≡ w
shown_is m w o s =
    let mine = shown m in
    let notes : (waiting_in m).notes ≡ w.notes =
    same_notes _ _ (in_order_of m) o (λ q. mine.notes q ∙ sym (s.notes q)) in
    let running : (waiting_in m).running ≡ w.running =
    set.same_set id_cmp_total id_cmp_same _ _ (λ q. mine.running q ∙ sym (s.running q)) in
    λ i. record { notes = notes i; running = running i }

pub none_is : waiting_in map.empty ≡ none_waited
none_is = shown_is map.empty none_waited tt (record {
  running = λ q. set.contains-empty id_cmp q ∙ sym (ap is_some (map.get-empty id_cmp q));
  notes = λ q. sym (ap (λ o. unwrap_or o []) (map.get-empty id_cmp q));
})

-- a map without an id
pub cleared_is : (m : Map) (id : MsgId) → waiting_in (map.remove m id) ≡ waiting_cleared id (waiting_in m)
cleared_is m id = shown_is _ _ (cleared_in_order id _ (in_order_of m)) (record {
  running = λ q.
      set.contains-remove id_cmp_total (waiting_in m).running id q
      ∙ elim (same q id) as (λ b. (not b && set.contains (waiting_in m).running q) ≡ is_some
      (cond b None (map.get m q))) [ true ↦ refl | false ↦ (shown m).running q ]
      ∙ sym (ap is_some (map.get-remove id_cmp_total m id q));
  notes = λ q.
      senders_cleared q id (waiting_in m).notes
      ∙ elim (same q id) as (λ b. cond b [] (senders q (waiting_in m).notes) ≡ unwrap_or (cond b None (map.get m q))
      []) [ true ↦ refl | false ↦ (shown m).notes q ]
      ∙ sym (ap (λ o. unwrap_or o []) (map.get-remove id_cmp_total m id q));
})

-- a map with other senders at an id
put_is : (m : Map) (id : MsgId) (xs : List ℕ) (w : WaitingState) → InOrder w.notes
    → ((q : MsgId) → set.contains w.running q ≡ (same q id || set.contains (waiting_in m).running q))
    → ((q : MsgId) → senders q w.notes ≡ cond (same q id) xs (senders q (waiting_in m).notes))
    → waiting_in (map.insert m id xs) ≡ w
put_is m id xs w o running notes = shown_is _ w o (record {
  running = λ q.
      running q
      ∙ elim (same q id) as (λ b. (b || set.contains (waiting_in m).running q) ≡ is_some
      (cond b (Some xs) (map.get m q))) [ true ↦ refl | false ↦ (shown m).running q ]
      ∙ sym (ap is_some (map.get-insert id_cmp_total m id xs q));
  notes = λ q.
      notes q
      ∙ elim (same q id) as (λ b. cond b xs (senders q (waiting_in m).notes) ≡ unwrap_or
      (cond b (Some xs) (map.get m q)) []) [ true ↦ refl | false ↦ (shown m).notes q ]
      ∙ sym (ap (λ o. unwrap_or o []) (map.get-insert id_cmp_total m id xs q));
})

-- one more sender at an id
pub noted_is : (m : Map) (id : MsgId) (s : ℕ)
    → waiting_in (map.insert m id (pushing s (at m id))) ≡ waiting_noted s id (waiting_in m)
noted_is m id s = put_is m id _ _ (noted_in_order s id _ (in_order_of m))
    (λ q. set.contains-insert id_cmp_total (waiting_in m).running id q)
    (λ q. senders_noted q id s (waiting_in m).notes
    ∙ ap (λ xs. cond (same q id) (pushing s xs) (senders q (waiting_in m).notes)) ((shown m).notes id))

-- the first, where there is none
pub first_noted : (m : Map) (id : MsgId) (s : ℕ) → map.get m id ≡ None
    → waiting_in (map.insert m id (s ∷ [])) ≡ waiting_noted s id (waiting_in m)
first_noted m id s e = ap (λ o. waiting_in (map.insert m id (pushing s (unwrap_or o [])))) (sym e) ∙ noted_is m id s

-- one more, where there are some
pub more_noted : (m : Map) (id : MsgId) (s : ℕ) (xs : List ℕ) → map.get m id ≡ Some xs → has xs s ≡ false
    → waiting_in (map.insert m id (xs ++ s ∷ [])) ≡ waiting_noted s id (waiting_in m)
more_noted m id s xs e new = ap (λ ys. waiting_in (map.insert m id ys)) (sym (ap (λ b. cond b xs (xs ++ s ∷ [])) new))
    ∙ ap (λ o. waiting_in (map.insert m id (pushing s (unwrap_or o [])))) (sym e) ∙ noted_is m id s

-- nothing, where it is there
pub again_noted : (m : Map) (id : MsgId) (s : ℕ) (xs : List ℕ) → map.get m id ≡ Some xs → has xs s ≡ true
    → waiting_in m ≡ waiting_noted s id (waiting_in m)
again_noted m id s xs e old =
    ap waiting_in (sym (put_again id_cmp_total id_cmp_same m id xs e)
    ∙ ap (map.insert m id) (sym (ap (λ b. cond b xs (xs ++ s ∷ [])) old)
    ∙ ap (λ o. pushing s (unwrap_or o [])) (sym e)))
    ∙ noted_is m id s

-- without the first sender at an id
pub asked_is : (m : Map) (id : MsgId) (xs : List ℕ) → map.get m id ≡ Some xs
    → waiting_in (map.insert m id (drop 1 xs)) ≡ waiting_asked id (waiting_in m)
asked_is m id xs e = put_is m id _ _ (asked_in_order id _ (in_order_of m))
    (λ q. by_id q id (λ k b. set.contains (waiting_in m).running k ≡ (b || set.contains (waiting_in m).running k))
    ((shown m).running id ∙ ap is_some e) (λ _. refl))
    (λ q. senders_asked q id (waiting_in m).notes
    ∙ ap (λ ys. cond (same q id) (drop 1 ys) (senders q (waiting_in m).notes))
    ((shown m).notes id ∙ ap (λ o. unwrap_or o []) e))

-- where nothing stands at an id, none of it goes
pub none_asked : (m : Map) (id : MsgId) → map.get m id ≡ None → waiting_in m ≡ waiting_asked id (waiting_in m)
none_asked m id e = shown_is m _ (asked_in_order id _ (in_order_of m)) (record {
  running = (shown m).running;
  notes = λ q.
      senders_asked q id (waiting_in m).notes
      ∙ by_id q id (λ k b. cond b (drop 1 (senders id (waiting_in m).notes)) (senders k (waiting_in m).notes) ≡ at m k)
      (ap (drop 1) (told) ∙ sym empty) (λ _. (shown m).notes q);
})
  where
    empty : at m id ≡ []
    empty = ap (λ o. unwrap_or o []) e

    told : senders id (waiting_in m).notes ≡ []
    told = (shown m).notes id ∙ empty

-- a map without a sender at any id
pub forgot_is : (m n : Map) (x : ℕ) → ((id : MsgId) → map.get n id ≡ option_map (without x) (map.get m id))
    → waiting_in n ≡ waiting_forgot x (waiting_in m)
forgot_is m n x is = shown_is n _ (gone_in_order x _ (in_order_of m)) (record {
  running = λ q. (shown m).running q ∙ kept (map.get m q) ∙ sym (ap is_some (is q));
  notes = λ q. senders_gone q x (waiting_in m).notes ∙ ap (without x) ((shown m).notes q) ∙ left (map.get m q)
      ∙ sym (ap (λ o. unwrap_or o []) (is q));
})
  where
    kept : (o : Option (List ℕ)) → is_some o ≡ is_some (option_map (without x) o)
    kept None = refl
    kept (Some notes) = refl

    left : (o : Option (List ℕ)) → without x (unwrap_or o []) ≡ unwrap_or (option_map (without x) o) []
    left None = refl
    left (Some notes) = refl

-- whether a timer runs, and whose note is the oldest
pub runs_in : (m : Map) (id : MsgId) → map.contains_key m id ≡ set.contains (waiting_in m).running id
runs_in m id = sym ((shown m).running id)

pub oldest_in : (m : Map) (id : MsgId) → oldest id (waiting_in m).notes ≡ slice_get (at m id) 0
oldest_in m id = ap (λ xs. slice_get xs 0) ((shown m).notes id)
