-- One more piece of the level is settled.
use Rattle.std.proofs.Common.{◌≡◌, ◌∙◌, ◌++◌, ℕ, List, inl, inr, length, refl, sym, subst}
use Rattle.std.proofs.lemmas.Bool.{both_ways}
use Rattle.ov_fans.specs.Group.{SettlerState}
use Rattle.ov_fans.specs.Pieces.{IsPiece, IsPieceOf}
use Rattle.ov_fans.specs.declared.piece.Piece.{Piece}
use Rattle.ov_even.specs.Hauls.{IsKeptOf}
use Rattle.ov_even.specs.Code.Levels.{pieces_of_level}
use Rattle.ov_even.specs.declared.worker_haul.Haul.{Haul}
use Rattle.ov_even.proofs.AnalysisSteps.Trials.{seen_from, begun, behind, next_is, more_good, more_linked, more_kept}
use Rattle.ov_even.proofs.AnalysisSteps.Trials.{more_right, stopped, ended, linked_right, alone_right}
use Rattle.ov_even.proofs.AnalysisSteps.FirstMembers.{first_done}
use Rattle.ov_even.proofs.AnalysisSteps.FirstCut.{not_cut}
use Rattle.ov_even.proofs.level_trying.try_level.Goals.{In_ok-kept}
use Rattle.ov_even.proofs.level_trying.try_level.Goals as goal

pub loop-piece-init : goal.loop-piece-init
loop-piece-init g c =
    let s = c.args.settler.now in
    let first = pieces_of_level c.args.done c.args.level in
    let all = subst (λ (l : List Piece). pieces_of_level c.args.members c.args.level ≡ first ++ l)
    (sym c.into_iter-piece-iterator.ensures.into_iter_gives) c.behind-piece-items.ensures in
    record {
      stays = refl;
      way = begun c.args.keeping s.graph s.members c.args.level c.new-pieces.result.items first
          c.into_iter-piece-iterator.result c.new-pieces.ensures.items
          (subst (λ (m : ℕ). pieces_of_level m c.args.level ≡ first ++ c.into_iter-piece-iterator.result)
          c.requires.members all)
          (first_done c.args.keeping s.graph s.members c.args.level c.args.done c.requires.low c.requires.below
          c.requires.done);
    }

pub place_in_level-requires : goal.place_in_level-requires
place_in_level-requires g c =
    let s = c.args.settler.now in
    let is = next_is c.args.keeping s.graph s.members c.args.level c.loop-piece.pieces.items
    (seen_from c.args.done c.args.level c.loop-piece.yielded)
    c.loop-piece.piece-iterator c.next.new.self c.in-Some.piece c.requires.low c.requires.below
    c.loop-piece.invariant.way c.in-Some.ensures.steps in (
      length s.graph.nodes,
      subst (λ (m : ℕ). IsPieceOf (length s.graph.nodes) m c.in-Some.piece) (sym c.requires.members)
          (is.0),
    )

pub settle_keeping-requires : goal.settle_keeping-requires
settle_keeping-requires g c =
    let s = c.args.settler.now in
    let is = next_is c.args.keeping s.graph s.members c.args.level c.loop-piece.pieces.items
    (seen_from c.args.done c.args.level c.loop-piece.yielded)
    c.loop-piece.piece-iterator c.next.new.self c.in-Some.piece c.requires.low c.requires.below
    c.loop-piece.invariant.way c.in-Some.ensures.steps in
    subst (λ (x : SettlerState). IsPiece x.graph x.members c.in-Some.piece) (sym c.loop-piece.invariant.stays) is.0

-- what was kept of the piece
kept : (g : _) (c : In_ok-kept g) → IsKeptOf c.args.keeping c.args.settler.now.graph c.args.settler.now.members
    c.in-Some.piece c.in_ok-kept.kept
kept g c = subst (λ (x : SettlerState). IsKeptOf c.args.keeping x.graph x.members c.in-Some.piece c.in_ok-kept.kept)
    c.loop-piece.invariant.stays c.in_ok-kept.ensures.kept

pub loop-piece-preserved-in_default : goal.loop-piece-preserved-in_default
loop-piece-preserved-in_default g c =
    let s = c.args.settler.now in
    record {
      stays = c.in_ok-kept.ensures.stays ∙ c.loop-piece.invariant.stays;
      way = behind c.args.keeping s.graph s.members c.args.level c.loop-piece.pieces.items
          (pieces_of_level c.args.done c.args.level) c.loop-piece.yielded c.next.new.self c.in-Some.piece
          (more_good c.args.keeping s.graph s.members c.args.level c.loop-piece.pieces.items
          (seen_from c.args.done c.args.level c.loop-piece.yielded)
          c.loop-piece.piece-iterator c.next.new.self c.in-Some.piece c.loop-piece.invariant.way c.in-Some.ensures.steps
          (subst (IsKeptOf c.args.keeping s.graph s.members c.in-Some.piece) c.in_default.is
          (kept g (goal.at.loop-piece-preserved-in_default g c).In_ok-kept)));
    }

pub loop-piece-preserved-then-is_linked : goal.loop-piece-preserved-then-is_linked
loop-piece-preserved-then-is_linked g c =
    let s = c.args.settler.now in
    let t = c.in-Some-kept.settled in
    let own = subst (IsKeptOf c.args.keeping s.graph s.members c.in-Some.piece) c.in-Some-kept.is
    (kept g (goal.at.loop-piece-preserved-then-is_linked g c).In_ok-kept) in
    record {
      stays = c.in_ok-kept.ensures.stays ∙ c.loop-piece.invariant.stays;
      way = behind c.args.keeping s.graph s.members c.args.level c.loop-piece.pieces.items
          (pieces_of_level c.args.done c.args.level) c.loop-piece.yielded c.next.new.self c.in-Some.piece
          (more_linked c.args.keeping s.graph s.members c.args.level c.loop-piece.pieces.items
          (seen_from c.args.done c.args.level c.loop-piece.yielded)
          c.loop-piece.piece-iterator c.next.new.self c.in-Some.piece c.loop-piece.invariant.way c.in-Some.ensures.steps
          (linked_right s.graph s.members t c.in-Some.piece own.1 (c.is_linked.ensures.0 c.if-is_linked.true) own.0));
    }

pub loop-piece-preserved : goal.loop-piece-preserved
loop-piece-preserved g c =
    let s = c.args.settler.now in
    let t = c.in-Some-kept.settled in
    let own = subst (IsKeptOf c.args.keeping s.graph s.members c.in-Some.piece) c.in-Some-kept.is
    (kept g (goal.at.loop-piece-preserved g c).In_ok-kept) in
    let is = next_is c.args.keeping s.graph s.members c.args.level c.loop-piece.pieces.items
    (seen_from c.args.done c.args.level c.loop-piece.yielded)
    c.loop-piece.piece-iterator c.next.new.self c.in-Some.piece c.requires.low c.requires.below
    c.loop-piece.invariant.way c.in-Some.ensures.steps in
    record {
      stays = c.in_ok-kept.ensures.stays ∙ c.loop-piece.invariant.stays;
      way = behind c.args.keeping s.graph s.members c.args.level c.push.new.self.items
          (pieces_of_level c.args.done c.args.level) c.loop-piece.yielded c.next.new.self c.in-Some.piece
          (more_kept c.args.keeping s.graph s.members c.args.level c.loop-piece.pieces.items c.push.new.self.items
          (seen_from c.args.done c.args.level c.loop-piece.yielded) c.loop-piece.piece-iterator c.next.new.self
          c.in-Some.piece t c.loop-piece.invariant.way
          c.in-Some.ensures.steps own.0 c.requires.graph is.0 own.1
          (not_cut t.found (λ cut. both_ways c.is_cut-stops.result c.if-stops.false (c.is_cut-stops.ensures.1 cut)))
          c.in_ok-push.ensures.items);
    }

pub returns-then-stops-clause-right : goal.returns-then-stops-clause-right
returns-then-stops-clause-right g c =
    let s = c.args.settler.now in
    let t = c.in-Some-kept.settled in
    let own = subst (IsKeptOf c.args.keeping s.graph s.members c.in-Some.piece) c.in-Some-kept.is
    (kept g (goal.at.returns-then-stops-clause-right g c).In_ok-kept) in
    let is = next_is c.args.keeping s.graph s.members c.args.level c.loop-piece.pieces.items
    (seen_from c.args.done c.args.level c.loop-piece.yielded)
    c.loop-piece.piece-iterator c.next.new.self c.in-Some.piece c.requires.low c.requires.below
    c.loop-piece.invariant.way c.in-Some.ensures.steps in
    let haul : Haul = record { pieces = c.push.new.self } in
    alone_right s.graph s.members haul
    (more_right c.args.keeping s.graph s.members c.args.level c.loop-piece.pieces.items c.push.new.self.items
    (seen_from c.args.done c.args.level c.loop-piece.yielded) c.loop-piece.piece-iterator c.in-Some.piece t
    c.loop-piece.invariant.way own.0 is.0 own.1
    c.in_ok-push.ensures.items)

pub returns-then-stops-clause-tried : goal.returns-then-stops-clause-tried
returns-then-stops-clause-tried g c =
    let s = c.args.settler.now in
    let t = c.in-Some-kept.settled in
    let own = subst (IsKeptOf c.args.keeping s.graph s.members c.in-Some.piece) c.in-Some-kept.is
    (kept g (goal.at.returns-then-stops-clause-tried g c).In_ok-kept) in
    let is = next_is c.args.keeping s.graph s.members c.args.level c.loop-piece.pieces.items
    (seen_from c.args.done c.args.level c.loop-piece.yielded)
    c.loop-piece.piece-iterator c.next.new.self c.in-Some.piece c.requires.low c.requires.below
    c.loop-piece.invariant.way c.in-Some.ensures.steps in
    let haul : Haul = record { pieces = c.push.new.self } in
    inr (
      t,
      stopped c.args.keeping s.graph s.members c.args.level c.loop-piece.pieces.items haul
          (seen_from c.args.done c.args.level c.loop-piece.yielded)
          c.loop-piece.piece-iterator c.next.new.self c.in-Some.piece t c.loop-piece.invariant.way
          c.in-Some.ensures.steps own.0 is.1 (c.is_cut-stops.ensures.0 c.if-stops.true) c.in_ok-push.ensures.items,
    )

pub returns-clause-right : goal.returns-clause-right
returns-clause-right g c =
    let s = c.args.settler.now in
    let haul : Haul = record { pieces = c.loop-piece.pieces } in
    alone_right s.graph s.members haul c.loop-piece.invariant.way.right

pub returns-clause-tried : goal.returns-clause-tried
returns-clause-tried g c =
    let s = c.args.settler.now in
    let haul : Haul = record { pieces = c.loop-piece.pieces } in
    inl (ended c.args.keeping s.graph s.members c.args.level haul
    (seen_from c.args.done c.args.level c.loop-piece.yielded) c.loop-piece.piece-iterator
    c.loop-piece.invariant.way c.in-None.ensures.steps.0)
