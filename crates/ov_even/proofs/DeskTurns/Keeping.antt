-- A turn at the desk: worker w becomes z with this in its hand, and the other workers do not change.
use Rattle.std.proofs.Common.{◌≡◌, ℕ, ◌<◌, ◌≤◌, Bool, true, false, cond, nat_lt, List, [], ◌∷◌, ◌++◌}
use Rattle.std.proofs.Common.{length, set, get_or}
use Rattle.std.proofs.Common.{slice_get, Some, refl, sym, ap, ◌∙◌, subst, inl, inr, arith}
use Rattle.std.proofs.lemmas.List.{length-set, set-get_or}
use Rattle.std.proofs.lemmas.Bool.{lt-ltb, le-ltb}
use Rattle.std.proofs.lemmas.Option.{same_Some, slice_get_within, get_or_from_slice_get}
use Rattle.ov_even.proofs.PieceOrder.InOrder.{at_within}
use Rattle.ov_board.specs.Claims.{WorkerState, DeskState, HasWorker}
use Rattle.ov_ids.specs.Workers.{MayWork}
use Rattle.ov_board.specs.Steps.{claiming, looking, IsLast, Claims, Looks}
use Rattle.ov_board.proofs.Changing.{at_changed}
use Rattle.ov_even.specs.Desk.{GroupDeskState, HasHand}
use Rattle.ov_even.specs.Turns.{ClaimsNext, WasClaimed, WasLookedAt}
use Rattle.ov_even.specs.Code.KeptDesk.{IsKept, IsClaimedLast}
use Rattle.ov_even.specs.declared.piece_in_hand.Hand.{Hand}
use Rattle.ov_even.specs.declared.piece_in_hand.Hand.TheVariants.{Nothing, Claimed, Looked}

-- writing the item that already stands at a place changes nothing
pub written_again : {X : Type 0} (xs : List X) (w : ℕ) (x : X) → slice_get xs w ≡ Some x → set xs w x ≡ xs
written_again xs w x at = ap (set xs w) (sym (get_or_from_slice_get xs w x x at)) ∙ set-get_or xs w x

-- from desk d to desk e, worker w becomes z with this in its hand, and the other workers do not change
pub record IsTurn (d : GroupDeskState) (w : ℕ) (z : WorkerState) (hand : Hand) (e : GroupDeskState) : Type 0 where
  pub worker : w < length d.claims.workers
  pub claims : e.claims.workers ≡ set d.claims.workers w z
  pub hands : e.hands ≡ set d.hands w hand
  pub settled : length e.settled ≡ length d.settled
  pub claimed : IsClaimedLast z hand

-- a turn keeps the invariant of the desk
pub still_held : (d e : GroupDeskState) (w : ℕ) (z : WorkerState) (hand : Hand) → IsKept d → IsTurn d w z hand e
    → IsKept e
still_held d e w z hand h t =
    let many = ap length t.claims ∙ length-set d.claims.workers w z in
    let held = ap length t.hands ∙ length-set d.hands w hand in
    let hands = h.hands in
    let settled = h.settled in
    let brought = t.settled in
    record {
      may_work = subst MayWork (sym many) h.may_work;
      hands = omega (arith, hands, many, held);
      settled = omega (arith, settled, many, brought);
      claimed = λ u v k has at.
          let worker : slice_get (set d.claims.workers w z) u ≡ Some v =
          subst (λ (vs : List WorkerState). slice_get vs u ≡ Some v) t.claims has in
          let in_hand : slice_get (set d.hands w hand) u ≡ Some k =
          subst (λ (hs : List Hand). slice_get hs u ≡ Some k) t.hands at in
          elim (at_changed d.claims.workers w u z v worker) [
            | inl a ↦ elim (at_changed d.hands w u hand k in_hand) [
              | inl b ↦
                  subst (λ (y : WorkerState). IsClaimedLast y k) (sym a.1) (subst (IsClaimedLast z) (sym b.1) t.claimed)
              | inr b ↦ absurd (b.0 a.0)
            ]
            | inr a ↦ elim (at_changed d.hands w u hand k in_hand) [
              | inl b ↦ absurd (a.0 b.0)
              | inr b ↦ h.claimed u v k a.1 b.1
            ]
          ];
    }

-- whoever has a number in hand is a worker of the desk, and claimed the number last
pub its_worker : (d : GroupDeskState) (w : ℕ) (hand : Hand) → IsKept d → HasHand d w hand
    → (v : WorkerState) × HasWorker d.claims w v × IsClaimedLast v hand
its_worker d w hand h at =
    let within = slice_get_within d.hands w hand at in
    let hands = h.hands in
    let v = at_within d.claims.workers w (omega (arith, within, hands)) in
    (v.0, v.1, h.claimed w v.0 hand v.1 at)

-- what is in the hand of a worker that was given number x
abbrev pub taking : ℕ → ℕ → Hand
taking total x = cond (nat_lt x total) (Claimed x) Nothing

-- a claimed number is the last that its worker claimed
claimed_by : (x : ℕ) (v : WorkerState) (b : Bool) → v.ended ≡ false
    → IsClaimedLast (cond b (record v { claimed = v.claimed ++ x ∷ [] }) (record v { ended = true }))
    (cond b (Claimed x) Nothing)
claimed_by x v true on = λ y e. ((v.claimed, ap (λ (n : ℕ). v.claimed ++ n ∷ []) (sym e)), on)
claimed_by x v false on = λ y e. absurd e

-- the hand after a claim, given how the number compares with the total
pub takes : (s t : DeskState) (w x total : ℕ) → Claims s w x t → total ≡ t.total → x < total
    → Claimed x ≡ taking s.total x
takes s t w x total c e low =
    let same : t.total ≡ s.total = ap (λ (u : DeskState). u.total) c.after in
    ap (λ (b : Bool). cond b (Claimed x) Nothing) (sym (lt-ltb x s.total (omega (arith, low, e, same))))

pub takes_none : (s t : DeskState) (w x total : ℕ) → Claims s w x t → total ≡ t.total → total ≤ x
    → Nothing ≡ taking s.total x
takes_none s t w x total c e high =
    let same : t.total ≡ s.total = ap (λ (u : DeskState). u.total) c.after in
    ap (λ (b : Bool). cond b (Claimed x) Nothing) (sym (le-ltb x s.total (omega (arith, high, e, same))))

-- a claim keeps the invariant of the desk
pub claim_held : (d e : GroupDeskState) (w x : ℕ) → IsKept d → Claims d.claims w x e.claims
    → e.hands ≡ set d.hands w (taking d.claims.total x) → length e.settled ≡ length d.settled → IsKept e
claim_held d e w x h c hands settled =
    let v = c.worker in
    still_held d e w (claiming d.claims.total x v) (taking d.claims.total x) h record {
      worker = slice_get_within d.claims.workers w v c.has;
      claims = ap (λ (t : DeskState). t.workers) c.after;
      hands = hands;
      settled = settled;
      claimed = claimed_by x v (nat_lt x d.claims.total) c.goes_on;
    }

-- what is in the hand of a worker after a look for number x
abbrev pub keeping : ℕ → ℕ → Hand
keeping least x = cond (nat_lt least x) Nothing (Looked x)

-- a worker that goes on after its look has claimed its number last
looked_by : (x : ℕ) (v : WorkerState) (b : Bool) → IsLast v x → v.ended ≡ false
    → IsClaimedLast (cond b (record v { skipped = Some x; ended = true }) v) (cond b Nothing (Looked x))
looked_by x v true last on = λ y e. absurd e
looked_by x v false last on = λ y e. (subst (IsLast v) (sym e) last, on)

-- the step of a look, for the worker with x in hand
abbrev pub LooksAtLast : DeskState → ℕ → DeskState → Type 0
LooksAtLast s w t = (v : WorkerState) (x : ℕ) → HasWorker s w v → IsLast v x → Looks s w x t

-- a look keeps the invariant of the desk
pub look_held : (d e : GroupDeskState) (w x : ℕ) → IsKept d → HasHand d w (Claimed x) → LooksAtLast d.claims w e.claims
    → e.hands ≡ set d.hands w (keeping d.claims.least x) → length e.settled ≡ length d.settled → IsKept e
look_held d e w x h at looks hands settled =
    let v = its_worker d w (Claimed x) h at in
    let last = v.2 x refl in
    let c = looks v.0 x v.1 last.0 in
    let same : v.0 ≡ c.worker = same_Some v.0 c.worker (sym v.1 ∙ c.has) in
    still_held d e w (looking d.claims.least x c.worker) (keeping d.claims.least x) h record {
      worker = slice_get_within d.claims.workers w v.0 v.1;
      claims = ap (λ (t : DeskState). t.workers) c.after;
      hands = hands;
      settled = settled;
      claimed = looked_by x c.worker (nat_lt d.claims.least x)
          (subst (λ (y : WorkerState). IsLast y x) same last.0) c.goes_on;
    }

-- a worker with a claimed number in hand may look; it has claimed this number
pub may_look : (d : GroupDeskState) (w x : ℕ) → IsKept d → HasHand d w (Claimed x)
    → (v : WorkerState) × (n : ℕ) × HasWorker d.claims w v × (v.ended ≡ false) × IsLast v n
may_look d w x h at =
    let v = its_worker d w (Claimed x) h at in
    let last = v.2 x refl in
    (v.0, x, v.1, last.1, last.0)

-- a worker that goes on with a number may fail at it
pub may_fail : (d : GroupDeskState) (w x : ℕ) → IsKept d → HasHand d w (Looked x)
    → (v : WorkerState) × (n : ℕ) × HasWorker d.claims w v × IsLast v n
may_fail d w x h at =
    let v = its_worker d w (Looked x) h at in
    let last = v.2 x refl in
    (v.0, x, v.1, last.0)

-- a worker whose next turn is a claim has nothing in hand, and its hand stays empty if no number is left
pub still_empty : (d s : GroupDeskState) (w x total : ℕ) (t : DeskState) → d ≡ s → ClaimsNext s w
    → Claims d.claims w x t → total ≡ t.total → total ≤ x → d.hands ≡ set d.hands w (taking d.claims.total x)
still_empty d s w x total t seen next c e high =
    let empty : HasHand d w Nothing = subst (λ (u : GroupDeskState). HasHand u w Nothing) (sym seen) next.0 in
    sym (written_again d.hands w Nothing empty)
    ∙ ap (set d.hands w) (takes_none d.claims t w x total c e high)

-- a claim is the turn that the definition describes
pub claim_made : (d s : GroupDeskState) (w x : ℕ) (t : DeskState) (hands : List Hand) → d ≡ s → ClaimsNext s w
    → Claims d.claims w x t → hands ≡ set d.hands w (taking d.claims.total x)
    → WasClaimed s w x (record d { claims = t; hands = hands })
claim_made d s w x t hands seen next c e =
    subst (λ (u : GroupDeskState). WasClaimed u w x (record d { claims = t; hands = hands })) seen record {
      hand = subst (λ (u : GroupDeskState). HasHand u w Nothing) (sym seen) next.0;
      claims = c;
      after = ap (λ (k : List Hand). record d { claims = t; hands = k }) e;
    }

-- a look is the turn that the definition describes
pub look_made : (d s : GroupDeskState) (w x least : ℕ) (t : DeskState) (hand : Hand) → IsKept d → d ≡ s
    → HasHand d w (Claimed x) → LooksAtLast d.claims w t → least ≡ d.claims.least → hand ≡ keeping least x
    → WasLookedAt s w least (record d { claims = t; hands = set d.hands w hand })
look_made d s w x least t hand h seen at looks told e =
    let v = its_worker d w (Claimed x) h at in
    subst (λ (u : GroupDeskState). WasLookedAt u w least (record d { claims = t; hands = set d.hands w hand })) seen
    record {
      number = x;
      hand = at;
      told = told;
      claims = looks v.0 x v.1 (v.2 x refl).0;
      after = ap (λ (k : Hand). record d { claims = t; hands = set d.hands w k }) e;
    }

-- the hand after a look, given the test of the code
pub keeps_none : (least x : ℕ) → least < x → Nothing ≡ keeping least x
keeps_none least x l = ap (λ (b : Bool). cond b Nothing (Looked x)) (sym (lt-ltb least x l))

pub keeps : (least x : ℕ) → x ≤ least → Looked x ≡ keeping least x
keeps least x l = ap (λ (b : Bool). cond b Nothing (Looked x)) (sym (le-ltb least x l))

-- the hand read at a worker's place is its hand
pub in_hand : (d s : GroupDeskState) (w : ℕ) (known read hand : Hand) → d ≡ s → HasHand s w known
    → read ≡ get_or d.hands w read → read ≡ hand → HasHand d w hand
in_hand d s w known read hand seen at e is =
    let there : HasHand d w known = subst (λ (u : GroupDeskState). HasHand u w known) (sym seen) at in
    there ∙ ap Some (sym (get_or_from_slice_get d.hands w known read there) ∙ sym e ∙ is)
