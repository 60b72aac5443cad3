-- A worker settles a piece. d are the fields of the desk before the turn, and s is what contracts see of it.
use Rattle.std.proofs.Common.{◌≡◌, ◌⊎◌, ◌↔◌, ℕ, ◌<◌, Bool, false, not, IsTrue, List, [], ◌∷◌, ◌++◌, length, set}
use Rattle.std.proofs.Common.{Result, Ok, Err, OnErr}
use Rattle.std.proofs.Common.{get_or, slice_get, Some, refl, sym, ap, ◌∙◌, subst, inl, inr, arith}
use Rattle.std.specs.Option.{option_map}
use Rattle.std.proofs.Math.Seq.{map-set_same}
use Rattle.std.proofs.lemmas.Bool.{both_ways, not-true}
use Rattle.std.proofs.lemmas.List.{length-map, map-set}
use Rattle.std.proofs.lemmas.Option.{same_Some, slice_get_read, slice_get_within, slice_get-map}
use Rattle.ov_graph.specs.Links.{LinkGraph}
use Rattle.ov_fans.specs.Cuts.{IsRight}
use Rattle.ov_fans.specs.Theorems.{IsNoCut}
use Rattle.ov_fans.specs.declared.piece_result.Found.{Found}
use Rattle.ov_fans.specs.declared.piece_result.Settled.{Settled}
use Rattle.ov_board.specs.Claims.{WorkerState, DeskState, HasWorker}
use Rattle.ov_board.specs.Steps.{failing, IsLast, Fails}
use Rattle.ov_board.proofs.Turns.{own_last}
use Rattle.ov_even.specs.Order.{AreMoreThan, IsNumbered}
use Rattle.ov_even.specs.declared.worker_haul.Haul.{Haul}
use Rattle.ov_even.proofs.AnalysisSteps.FirstCut.{cut_or_not}
use Rattle.ov_even.proofs.PieceOrder.InOrder.{at_within}
use Rattle.ov_even.proofs.PieceNumbers.Numbering.{more_from_total}
use Rattle.ov_even.specs.declared.piece_in_hand.Hand.{Hand}
use Rattle.ov_even.specs.declared.piece_in_hand.Hand.TheVariants.{Nothing, Claimed, Looked}
use Rattle.ov_even.specs.Desk.{GroupDeskState, HasHand, HaveBeenSettled}
use Rattle.ov_even.specs.SoundDesk.{IsSoundDesk}
use Rattle.ov_even.specs.Turns.{IsWorkerOf, ClaimsNext, WasSettled}
use Rattle.ov_even.specs.Code.KeptDesk.{IsKept, pieces_in}
use Rattle.ov_even.proofs.DeskTurns.Deciding.{linked_or_apart}
use Rattle.ov_even.proofs.DeskTurns.Keeping.{still_held, its_worker, written_again}

-- the number with which a worker goes on is the number of a piece
pub number_shared : (g : LinkGraph) (d : GroupDeskState) (w x : ℕ) → IsSoundDesk g d → HasHand d w (Looked x)
    → AreMoreThan (length g.nodes) (length d.members) x
number_shared g d w x s at =
    let within = slice_get_within d.hands w (Looked x) at in
    let m = s.hands in
    let n = s.settled in
    let v = at_within d.claims.workers w (omega (arith, within, m)) in
    let pieces = at_within d.settled w (omega (arith, within, m, n)) in
    let last = (s.workers w v.0 (Looked x) pieces.0 v.1 at pieces.1).last x refl in
    let below = (s.legal.claimed x).0 (w, (v.0, v.1, own_last v.0 x last)) in
    elim (linked_or_apart g d.members s.group) [
      | inl all ↦ let none = s.share.none all in absurd (omega (arith, below.1, none))
      | inr apart ↦ more_from_total (length g.nodes) (length d.members) x d.claims.total (s.share.each apart) below.1
    ]

-- each worker with a hand has a haul
pub haul_within : (d : GroupDeskState) (hauls : List Haul) (w : ℕ) (hand : Hand) → IsKept d
    → d.settled ≡ pieces_in hauls → HasHand d w hand → w < length hauls
haul_within d hauls w hand h e at =
    let within = slice_get_within d.hands w hand at in
    let m = h.hands in
    let n = h.settled in
    let count : length hauls ≡ length d.settled =
    sym (length-map hauls (λ (haul : Haul). haul.pieces.items)) ∙ ap length (sym e) in
    omega (arith, within, m, n, count)

-- the pieces in a haul
abbrev of_haul : Haul → List Settled
of_haul haul = haul.pieces.items

-- the pieces read at a worker's place are the pieces that it settled
pub haul_read : (hauls : List Haul) (w : ℕ) (own : Haul) → w < length hauls → own ≡ get_or hauls w own
    → slice_get (pieces_in hauls) w ≡ Some own.pieces.items
haul_read hauls w own l read =
    slice_get-map of_haul hauls w
    ∙ ap (option_map of_haul) (slice_get_read hauls (length hauls) w own refl l read)

-- writing back a haul with the same pieces changes nothing
pub hauls_rest : (hauls : List Haul) (w : ℕ) (own new : Haul) → own ≡ get_or hauls w own
    → new.pieces.items ≡ own.pieces.items → pieces_in (set hauls w new) ≡ pieces_in hauls
hauls_rest hauls w own new read same = map-set_same of_haul hauls w new own (same ∙ ap of_haul read)

-- writing back a haul with one more piece adds that piece
pub hauls_more : (hauls : List Haul) (w : ℕ) (own new : Haul) (piece : Settled)
    → new.pieces.items ≡ own.pieces.items ++ piece ∷ []
    → pieces_in (set hauls w new) ≡ set (pieces_in hauls) w (own.pieces.items ++ piece ∷ [])
hauls_more hauls w own new piece more = map-set of_haul hauls w new ∙ ap (set (pieces_in hauls) w) more

-- the desk with these claims and these settled pieces
abbrev pub parted : GroupDeskState → DeskState → List (List Settled) → GroupDeskState
parted d claims settled = record d { claims = claims; settled = settled }

-- a desk with the same claims and the same settled pieces is the same desk
pub same_desk : (d : GroupDeskState) (t : DeskState) (settled : List (List Settled)) → t ≡ d.claims
    → settled ≡ d.settled → parted d t settled ≡ d
same_desk d t settled e f = λ i. parted d (e i) (f i)

-- a known fact holds also if a call fails
pub on_any_err : {T E P : Type 0} (r : Result T E) → P → OnErr r P
on_any_err (Ok x) p = tt
on_any_err (Err e) p = p

-- settling a piece without a cut leaves the claims alone; with a cut, the number fails
abbrev pub ClaimsSettled : DeskState → ℕ → ℕ → Found → DeskState → Type 0
ClaimsSettled s w x found t = (IsNoCut found × (t ≡ s)) ⊎ (¬ IsNoCut found × Fails s w x t)

-- the claims after the worker with x in hand has failed
abbrev pub FailsAtLast : DeskState → ℕ → DeskState → Type 0
FailsAtLast s w t = (v : WorkerState) (x : ℕ) → HasWorker s w v → IsLast v x → Fails s w x t

-- the claims are right after a piece was settled with a cut
pub claims_failed : (d : GroupDeskState) (w x : ℕ) (found : Found) (t : DeskState) → IsKept d → HasHand d w (Looked x)
    → ¬ IsNoCut found → FailsAtLast d.claims w t → ClaimsSettled d.claims w x found t
claims_failed d w x found t h at cut fails =
    let v = its_worker d w (Looked x) h at in
    inr (cut, fails v.0 x v.1 (v.2 x refl).0)

-- the claims are right after a piece was settled without a cut, given the test of the code
pub claims_stay : (s : DeskState) (w x : ℕ) (found : Found) (b : Bool) → (IsTrue b ↔ (¬ IsNoCut found)) → b ≡ false
    → ClaimsSettled s w x found s
claims_stay s w x found b test off = elim (cut_or_not found) [
  | inl none ↦ inl (none, refl)
  | inr cut ↦ absurd (both_ways b off (test.1 cut))
]

-- settling a piece keeps the invariant of the desk
pub settle_held : (d e : GroupDeskState) (w x : ℕ) (found : Found) → IsKept d → HasHand d w (Looked x)
    → ClaimsSettled d.claims w x found e.claims → e.hands ≡ set d.hands w Nothing
    → length e.settled ≡ length d.settled → IsKept e
settle_held d e w x found h at claims hands settled = elim claims [
  | inl k ↦
      let v = its_worker d w (Looked x) h at in
      still_held d e w v.0 Nothing h record {
        worker = slice_get_within d.claims.workers w v.0 v.1;
        claims = ap (λ (t : DeskState). t.workers) k.1 ∙ sym (written_again d.claims.workers w v.0 v.1);
        hands = hands;
        settled = settled;
        claimed = λ y n. absurd n;
      }
  | inr k ↦ still_held d e w (failing x k.1.worker) Nothing h record {
    worker = slice_get_within d.claims.workers w k.1.worker k.1.has;
    claims = ap (λ (t : DeskState). t.workers) k.1.after;
    hands = hands;
    settled = settled;
    claimed = λ y n. absurd n;
  }
]

-- a piece with its right result, for the number in hand
pub record IsFor (g : LinkGraph) (q : List ℕ) (x : ℕ) (piece : Settled) : Type 0 where
  pub numbered : IsNumbered (length g.nodes) (length q) x piece.piece
  pub right : IsRight g q piece

-- settling a piece is the turn that the definition describes
pub settle_made : (g : LinkGraph) (d s : GroupDeskState) (w x : ℕ) (t : DeskState) (piece : Settled)
    (before : List Settled) (settled : List (List Settled)) → d ≡ s → HasHand d w (Looked x) → IsFor g s.members x piece
    → ClaimsSettled d.claims w x piece.found t → HaveBeenSettled d w before
    → settled ≡ set d.settled w (before ++ piece ∷ [])
    → WasSettled g s w (record d { claims = t; hands = set d.hands w Nothing; settled = settled })
settle_made g d s w x t piece before settled seen at is claims had e =
    let same = subst (λ (u : GroupDeskState). IsFor g u.members x piece) (sym seen) is in
    let after = λ (pieces : List (List Settled)).
    record d { claims = t; hands = set d.hands w Nothing; settled = pieces } in
    subst (λ (u : GroupDeskState). WasSettled g u w (after settled)) seen record {
      number = x;
      hand = at;
      piece = piece;
      numbered = same.numbered;
      right = same.right;
      claims = claims;
      before = before;
      had = had;
      after = ap after e;
    }

-- the hand read at a worker's place is its hand
pub read_hand : (d s : GroupDeskState) (w : ℕ) (read hand : Hand) → d ≡ s → IsKept d → IsWorkerOf s w
    → read ≡ get_or d.hands w read → read ≡ hand → HasHand s w hand
read_hand d s w read hand seen h is at e =
    let worker : IsWorkerOf d w = subst (λ (u : GroupDeskState). IsWorkerOf u w) (sym seen) is in
    let hands = h.hands in
    let l : w < length d.hands = omega (arith, worker, hands) in
    subst (λ (u : GroupDeskState). HasHand u w hand) seen
    (slice_get_read d.hands (length d.hands) w read refl l at ∙ ap Some e)

-- a worker with nothing in hand claims next unless it has ended
pub claims_unless_ended : (d s : GroupDeskState) (w : ℕ) (b : Bool) → d ≡ s → IsWorkerOf s w → HasHand s w Nothing
    → ((v : WorkerState) → HasWorker d.claims w v → b ≡ v.ended) → IsTrue (not b) ↔ ClaimsNext s w
claims_unless_ended d s w b seen is hand told =
    let told_of =
    subst (λ (u : GroupDeskState). (v : WorkerState) → HasWorker u.claims w v → b ≡ v.ended) seen told in (
      (λ t.
          let v = at_within s.claims.workers w is in
          (hand, (v.0, v.1, sym (told_of v.0 v.1) ∙ not-true b t))),
      (λ k. ap not (told_of k.1.0 k.1.1 ∙ k.1.2)),
    )

-- a worker with a number in hand does not claim next
pub claims_not_full : (d : GroupDeskState) (w : ℕ) (hand : Hand) → HasHand d w hand
    → ((x : ℕ) × (hand ≡ Claimed x)) ⊎ ((x : ℕ) × (hand ≡ Looked x)) → ¬ ClaimsNext d w
claims_not_full d w hand at full next =
    let empty : Nothing ≡ hand = same_Some Nothing hand (sym next.0 ∙ at) in
    elim full [
      | inl k ↦ let e : Nothing ≡ Claimed k.0 = empty ∙ k.1 in absurd (cc)
      | inr k ↦ let e : Nothing ≡ Looked k.0 = empty ∙ k.1 in absurd (cc)
    ]
