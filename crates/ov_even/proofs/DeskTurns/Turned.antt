-- The desk after a turn of one worker: the other workers do not change.
use Rattle.std.proofs.Common.{◌≡◌, ◌≢◌, ℕ, List, length, set, slice_get, Some, refl, sym, ◌∙◌}
use Rattle.std.proofs.Common.{subst, inl, inr, arith}
use Rattle.std.proofs.lemmas.Bool.{cases_eq}
use Rattle.std.proofs.lemmas.List.{length-set}
use Rattle.std.proofs.lemmas.Option.{same_Some, slice_get_within}
use Rattle.ov_graph.specs.Links.{LinkGraph}
use Rattle.ov_fans.specs.declared.piece_result.Settled.{Settled}
use Rattle.ov_board.specs.Claims.{WorkerState, DeskState, HasWorker, IsLegal}
use Rattle.ov_ids.specs.Workers.{MayWork}
use Rattle.ov_even.proofs.AnalysisSteps.Slotted.{at_set_same, at_set_other}
use Rattle.ov_even.specs.declared.piece_in_hand.Hand.{Hand}
use Rattle.ov_even.specs.Desk.{GroupDeskState, HasHand, HaveBeenSettled, AreToShare}
use Rattle.ov_even.specs.SoundDesk.{IsSoundWorker, IsSoundDesk}

-- ys is xs with x at place w
pub record IsChangedAt {X : Type 0} (xs : List X) (w : ℕ) (x : X) (ys : List X) : Type 0 where
  pub count : length ys ≡ length xs
  pub here : (y : X) → slice_get ys w ≡ Some y → y ≡ x
  pub elsewhere : (u : ℕ) (y : X) → u ≢ w → slice_get ys u ≡ Some y → slice_get xs u ≡ Some y

-- a write at place w gives such a list
pub changed_by_set : {X : Type 0} (xs : List X) (w : ℕ) (x y : X) → slice_get xs w ≡ Some y
    → IsChangedAt xs w x (set xs w x)
changed_by_set xs w x y at = record {
  count = length-set xs w x;
  here = λ z h. same_Some z x (sym h ∙ at_set_same xs w x (slice_get_within xs w y at));
  elsewhere = λ u z n h. sym (at_set_other xs w u x (λ e. n (sym e))) ∙ h;
}

-- an unchanged list is such a list, if x stood at place w before
pub changed_by_none : {X : Type 0} (xs : List X) (w : ℕ) (x : X) → slice_get xs w ≡ Some x → IsChangedAt xs w x xs
changed_by_none xs w x at = record {
  count = refl;
  here = λ z h. same_Some z x (sym h ∙ at);
  elsewhere = λ u z n h. h;
}

-- the desk with these claims, these hands and these settled pieces
abbrev pub with_parts : GroupDeskState → DeskState → List Hand → List (List Settled) → GroupDeskState
with_parts d claims hands settled = record d { claims = claims; hands = hands; settled = settled }

-- worker w became another sound worker; the claims are legal and have the same total
pub record IsTurn (g : LinkGraph) (d : GroupDeskState) (w : ℕ) (e : GroupDeskState) : Type 0 where
  pub worker : WorkerState
  pub hand : Hand
  pub pieces : List Settled
  pub sound : IsSoundWorker g d.members worker hand pieces
  pub total : e.claims.total ≡ d.claims.total
  pub legal : IsLegal e.claims
  pub workers : IsChangedAt d.claims.workers w worker e.claims.workers
  pub hands : IsChangedAt d.hands w hand e.hands
  pub settled : IsChangedAt d.settled w pieces e.settled

-- the worker with this number is sound
abbrev IsSoundAt : LinkGraph → GroupDeskState → ℕ → Type 0
IsSoundAt g d w = (v : WorkerState) (hand : Hand) (pieces : List Settled) → HasWorker d.claims w v → HasHand d w hand
    → HaveBeenSettled d w pieces → IsSoundWorker g d.members v hand pieces

-- such a turn keeps a sound desk sound
pub turned : (g : LinkGraph) (d : GroupDeskState) (claims : DeskState) (hands : List Hand)
    (settled : List (List Settled)) (w : ℕ) → IsSoundDesk g d → IsTurn g d w (with_parts d claims hands settled)
    → IsSoundDesk g (with_parts d claims hands settled)
turned g d claims hands settled w s t =
    let n = t.workers.count in
    let k = s.hands in
    let m = s.settled in record {
      group = s.group;
      share = subst (AreToShare g d.members) (sym t.total) s.share;
      legal = t.legal;
      may_work = subst MayWork (sym n) s.may_work;
      hands = omega (arith, k, n, t.hands.count);
      settled = omega (arith, m, n, t.settled.count);
      workers = λ u v hand pieces at has had. elim (cases_eq u w) [
        | inl e ↦ subst (IsSoundAt g (with_parts d claims hands settled)) (sym e) its_own v hand pieces at has had
        | inr o ↦
            s.workers u v hand pieces (t.workers.elsewhere u v o at) (t.hands.elsewhere u hand o has)
            (t.settled.elsewhere u pieces o had)
      ];
    }
  where
    its_own : IsSoundAt g (with_parts d claims hands settled) w
    its_own v hand pieces at has had =
        let a = t.workers.here v at in
        let b = t.hands.here hand has in
        let c = t.settled.here pieces had in
        let first = subst (IsSoundWorker g d.members t.worker t.hand) (sym c) t.sound in
        let second = subst (λ (h : Hand). IsSoundWorker g d.members t.worker h pieces) (sym b) first in
        subst (λ (z : WorkerState). IsSoundWorker g d.members z hand pieces) (sym a) second
