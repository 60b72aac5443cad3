-- A new desk is sound, and each turn keeps a sound desk sound.
use Rattle.std.proofs.Common.{◌≡◌, ◌≢◌, ◌⊎◌, ◌↔◌, ℕ, ◌<◌, false, cond, nat_lt, List, [], ◌∷◌}
use Rattle.std.proofs.Common.{◌++◌, length, set, Some, refl, sym, ap, ◌∙◌, subst, inl, inr, arith}
use Rattle.std.proofs.lemmas.Bool.{both_ways}
use Rattle.std.proofs.lemmas.List.{length-replicate}
use Rattle.std.proofs.lemmas.Option.{slice_get_within}
use Rattle.ov_ids.specs.Members.{Has}
use Rattle.ov_ids.specs.Sets.{adding}
use Rattle.ov_graph.specs.Links.{LinkGraph, IsGroup}
use Rattle.ov_fans.specs.Theorems.{IsNoCut}
use Rattle.ov_fans.specs.declared.piece_result.Found.{Found}
use Rattle.ov_fans.specs.declared.piece_result.Settled.{Settled}
use Rattle.ov_board.specs.Claims.{WorkerState, DeskState, HasWorker, IsLegal, fresh}
use Rattle.ov_ids.specs.Workers.{MayWork}
use Rattle.ov_board.specs.Steps.{claiming, looking, failing}
use Rattle.ov_board.proofs.Changing.{all_same}
use Rattle.ov_board.proofs.Staying.{stays_legal, has_added, has_self, has_still}
use Rattle.ov_even.proofs.PieceOrder.InOrder.{at_within}
use Rattle.ov_even.specs.declared.piece_in_hand.Hand.{Hand}
use Rattle.ov_even.specs.declared.piece_in_hand.Hand.TheVariants.{Nothing, Claimed, Looked}
use Rattle.ov_even.specs.Desk.{GroupDeskState, HaveBeenSettled, IsOpened}
use Rattle.ov_even.specs.SoundDesk.{IsSoundWorker, IsSoundDesk}
use Rattle.ov_even.specs.Turns.{WasClaimed, WasLookedAt, WasSettled}
use Rattle.ov_even.specs.DeskTheorems.{StaysSound}
use Rattle.ov_even.proofs.DeskTurns.Turned.{IsChangedAt, changed_by_set, changed_by_none, turned}
use Rattle.ov_even.proofs.DeskTurns.Workers.{fresh_sound, claimed_sound, looked_sound, settled_sound}

-- a new desk is sound
pub sound_opened : (g : LinkGraph) (m : ℕ) (q : List ℕ) (workers : ℕ) (d : GroupDeskState) → IsGroup g q
    → MayWork workers → IsOpened g m q workers d → IsSoundDesk g d
sound_opened g m q workers d group may o = subst (IsSoundDesk g) (sym o.desk) record {
  group = group;
  share = o.share;
  legal = stays_legal.opens o.total workers;
  may_work = subst MayWork (sym (length-replicate workers fresh)) may;
  hands = length-replicate workers Nothing ∙ sym (length-replicate workers fresh);
  settled = length-replicate workers none ∙ sym (length-replicate workers fresh);
  workers = λ w v hand pieces at has had.
      let a = all_same workers w fresh v at in
      let b = all_same workers w Nothing hand has in
      let c = all_same workers w none pieces had in
      let first = subst (IsSoundWorker g q fresh Nothing) (sym c) (fresh_sound g q) in
      let second = subst (λ (h : Hand). IsSoundWorker g q fresh h pieces) (sym b) first in
      subst (λ (z : WorkerState). IsSoundWorker g q z hand pieces) (sym a) second;
}
  where
    none : List Settled
    none = []

-- each worker of a sound desk has a list of settled pieces
pieces_of : (g : LinkGraph) (d : GroupDeskState) (w : ℕ) → IsSoundDesk g d → w < length d.claims.workers
    → (pieces : List Settled) × HaveBeenSettled d w pieces
pieces_of g d w s l = let e = s.settled in at_within d.settled w (omega (arith, l, e))

-- a worker that has not ended has skipped nothing
skipped_nothing : (s : DeskState) (w : ℕ) (v : WorkerState) → IsLegal s → HasWorker s w v → v.ended ≡ false
    → (x : ℕ) → ¬ (v.skipped ≡ Some x)
skipped_nothing s w v l at on x e = both_ways v.ended on ((l.workers w v at).skipped_ended x e)

-- the list of workers after one of them became z
workers_after : (s t : DeskState) (w : ℕ) (v z : WorkerState) → HasWorker s w v → t.workers ≡ set s.workers w z
    → IsChangedAt s.workers w z t.workers
workers_after s t w v z at e = subst (IsChangedAt s.workers w z) (sym e) (changed_by_set s.workers w z v at)

-- a claim keeps a sound desk sound
pub sound_claimed : (g : LinkGraph) (d e : GroupDeskState) (w x : ℕ) → IsSoundDesk g d → WasClaimed d w x e
    → IsSoundDesk g e
sound_claimed g d e w x s c = subst (IsSoundDesk g) (sym c.after) (turned g d e.claims hands d.settled w s record {
  worker = z;
  hand = hand;
  pieces = had.0;
  sound = claimed_sound g d.members x v had.0 (nat_lt x d.claims.total)
      (s.workers w v Nothing had.0 c.claims.has c.hand had.1) c.claims.goes_on new;
  total = ap (λ (t : DeskState). t.total) c.claims.after;
  legal = stays_legal.claims d.claims e.claims w x s.legal c.claims;
  workers = workers_after d.claims e.claims w v z c.claims.has (ap (λ (t : DeskState). t.workers) c.claims.after);
  hands = changed_by_set d.hands w hand Nothing c.hand;
  settled = changed_by_none d.settled w had.0 had.1;
})
  where
    v : WorkerState
    v = c.claims.worker

    z : WorkerState
    z = claiming d.claims.total x v

    hand : Hand
    hand = cond (nat_lt x d.claims.total) (Claimed x) Nothing

    hands : List Hand
    hands = set d.hands w hand

    had : (pieces : List Settled) × HaveBeenSettled d w pieces
    had = pieces_of g d w s (slice_get_within d.claims.workers w v c.claims.has)

    -- nobody claimed the next number before
    new : (y : ℕ) → Has v.claimed y → y ≢ x
    new y h k =
        let b = (s.legal.claimed y).0 (w, (v, c.claims.has, h)) in
        let next = c.claims.number in
        omega (arith, b.0, next, k)

-- a look keeps a sound desk sound
pub sound_looked_at : (g : LinkGraph) (d e : GroupDeskState) (w least : ℕ) → IsSoundDesk g d → WasLookedAt d w least e
    → IsSoundDesk g e
sound_looked_at g d e w x s c = subst (IsSoundDesk g) (sym c.after) (turned g d e.claims hands d.settled w s record {
  worker = z;
  hand = hand x;
  pieces = had.0;
  sound = subst (λ (i : ℕ). IsSoundWorker g d.members z (hand i) had.0) (sym c.told)
      (looked_sound g d.members c.number v had.0 (nat_lt d.claims.least c.number)
      (s.workers w v (Claimed c.number) had.0 c.claims.has c.hand had.1)
      (skipped_nothing d.claims w v s.legal c.claims.has c.claims.goes_on));
  total = ap (λ (t : DeskState). t.total) c.claims.after;
  legal = stays_legal.looks d.claims e.claims w c.number s.legal c.claims;
  workers = workers_after d.claims e.claims w v z c.claims.has (ap (λ (t : DeskState). t.workers) c.claims.after);
  hands = changed_by_set d.hands w (hand x) (Claimed c.number) c.hand;
  settled = changed_by_none d.settled w had.0 had.1;
})
  where
    v : WorkerState
    v = c.claims.worker

    z : WorkerState
    z = looking d.claims.least c.number v

    hand : ℕ → Hand
    hand i = cond (nat_lt i c.number) Nothing (Looked c.number)

    hands : List Hand
    hands = set d.hands w (hand x)

    had : (pieces : List Settled) × HaveBeenSettled d w pieces
    had = pieces_of g d w s (slice_get_within d.claims.workers w v c.claims.has)

-- if the result is a cut, the failed numbers are the earlier ones and x
failed_besides : (v : WorkerState) (x : ℕ) (found : Found) → ¬ IsNoCut found
    → (y : ℕ) → Has (failing x v).failed y ↔ (Has v.failed y ⊎ ((y ≡ x) × ¬ IsNoCut found))
failed_besides v x found cut y = (
  (λ h. elim (has_added x v.failed y h) [ inl e ↦ inr (e, cut) | inr k ↦ inl k ]),
  (λ h. elim h [
    | inl k ↦ has_still x v.failed y k
    | inr k ↦ subst (Has (adding x v.failed)) (sym k.0) (has_self x v.failed)
  ]),
)

-- if the result is no cut, the failed numbers stay the same
failed_still : (v : WorkerState) (x : ℕ) (found : Found) → IsNoCut found
    → (y : ℕ) → Has v.failed y ↔ (Has v.failed y ⊎ ((y ≡ x) × ¬ IsNoCut found))
failed_still v x found none y = ((λ h. inl h), (λ h. elim h [ inl k ↦ k | inr k ↦ absurd (k.1 none) ]))

-- worker v settles its piece and becomes z, which has failed at its number if the result is a cut. This keeps a sound
-- desk sound
sound_settles : (g : LinkGraph) (d e : GroupDeskState) (w : ℕ) (v z : WorkerState) → IsSoundDesk g d
    → (c : WasSettled g d w e) → HasWorker d.claims w v → e.claims.total ≡ d.claims.total → IsLegal e.claims
    → IsChangedAt d.claims.workers w z e.claims.workers → z.claimed ≡ v.claimed → z.skipped ≡ v.skipped
    → ((y : ℕ) → Has z.failed y ↔ (Has v.failed y ⊎ ((y ≡ c.number) × ¬ IsNoCut c.piece.found)))
    → IsSoundDesk g e
sound_settles g d e w v z s c at total legal workers claimed skipped failed =
    let was = s.workers w v (Looked c.number) c.before at c.hand c.had in
    let hands = set d.hands w Nothing in
    let pieces = c.before ++ c.piece ∷ [] in
    let on = was.goes_on c.number refl in
    subst (IsSoundDesk g) (sym c.after) (turned g d e.claims hands (set d.settled w pieces) w s record {
      worker = z;
      hand = Nothing;
      pieces = pieces;
      sound = settled_sound g d.members v z c.number c.before c.piece record {
        was = was;
        worked_on = skipped_nothing d.claims w v s.legal at on c.number;
        claimed = claimed;
        skipped = skipped;
        failed = failed;
        numbered = c.numbered;
        right = c.right;
      };
      total = total;
      legal = legal;
      workers = workers;
      hands = changed_by_set d.hands w Nothing (Looked c.number) c.hand;
      settled = changed_by_set d.settled w pieces c.before c.had;
    })

-- settling a piece keeps a sound desk sound, with a cut or without
pub sound_settled : (g : LinkGraph) (d e : GroupDeskState) (w : ℕ) → IsSoundDesk g d → WasSettled g d w e
    → IsSoundDesk g e
sound_settled g d e w s c = elim c.claims [
  | inl k ↦
      let there = slice_get_within d.hands w (Looked c.number) c.hand in
      let count = s.hands in
      let v = at_within d.claims.workers w (omega (arith, there, count)) in
      let rests = λ (t : DeskState). IsChangedAt d.claims.workers w v.0 t.workers in
      sound_settles g d e w v.0 v.0 s c v.1 (ap (λ (t : DeskState). t.total) k.1) (subst IsLegal (sym k.1) s.legal)
      (subst rests (sym k.1) (changed_by_none d.claims.workers w v.0 v.1)) refl refl
      (failed_still v.0 c.number c.piece.found k.0)
  | inr k ↦
      let v = k.1.worker in
      let z = failing c.number v in
      let legal = stays_legal.fails d.claims e.claims w c.number s.legal k.1 in
      sound_settles g d e w v z s c k.1.has (ap (λ (t : DeskState). t.total) k.1.after) legal
      (workers_after d.claims e.claims w v z k.1.has (ap (λ (t : DeskState). t.workers) k.1.after)) refl refl
      (failed_besides v c.number c.piece.found k.0)
]

-- the four parts of the theorem
pub stays_sound : StaysSound
stays_sound = record {
  opened = sound_opened;
  claimed = sound_claimed;
  looked_at = sound_looked_at;
  settled = sound_settled;
}
