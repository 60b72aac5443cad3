-- One more piece of the level is examined.
use Rattle.std.proofs.Common.{◌≡◌, ◌++◌, ◌∷◌, [], ℕ, length, map, sym, subst, arith}
use Rattle.std.proofs.lemmas.Bool.{both_ways}
use Rattle.std.specs.Option.{option_copied}
use Rattle.ov_fans.specs.Pieces.{IsPiece}
use Rattle.ov_fans.specs.Cuts.{AreRightPaths}
use Rattle.ov_fans.specs.declared.piece.Piece.{Piece}
use Rattle.ov_even.specs.Order.{ComesBefore}
use Rattle.ov_even.specs.Code.Levels.{pieces_of_level}
use Rattle.ov_even.specs.Code.Slots.{HaveSlots}
use Rattle.ov_even.specs.declared.paths_by_ids.FoundPaths.{FoundPaths}
use Rattle.ov_even.proofs.AnalysisSteps.Narrowing.{members_few}
use Rattle.ov_even.proofs.AnalysisSteps.Named.{AreNamed, NamesItself, named_pass, is_next, unlinked_put}
use Rattle.ov_even.proofs.AnalysisSteps.Named.{unlinked_all, holds_more, names_more, all_seen, listed_more}
use Rattle.ov_even.proofs.paths_wanted_by_certificate.found_pieces.Goals as goal

pub new-piece-items-requires-clause-members : goal.new-piece-items-requires-clause-members
new-piece-items-requires-clause-members c =
    let few = members_few c.args.graph.now c.args.group.now c.requires.group in
    let within = c.nodes.ensures.within in
    omega (arith, few, within)

pub is_linked_pair-requires : goal.is_linked_pair-requires
is_linked_pair-requires c =
    (is_next c.args.graph.now c.args.group.now c.args.level c.loop-piece.yielded c.loop-piece.piece-iterator
    c.next.new.self c.in-Some.piece c.requires.low c.requires.below c.loop-piece.invariant.listed
    c.in-Some.ensures.steps).0

pub loop-piece-preserved-then-is_linked_pair : goal.loop-piece-preserved-then-is_linked_pair
loop-piece-preserved-then-is_linked_pair c =
    let g = c.args.graph.now in
    let q = c.args.group.now in
    let i = c.loop-piece.invariant in
    let names = map (λ f. f.piece) c.loop-piece.found.items in
    record {
      listed = listed_more (pieces_of_level (length q) c.args.level) c.loop-piece.yielded c.loop-piece.piece-iterator
          c.next.new.self c.in-Some.piece i.listed c.in-Some.ensures.steps;
      named = named_pass ComesBefore (NamesItself g q) c.loop-piece.yielded names c.in-Some.piece i.named
          (λ x n. n.1 (c.is_linked_pair.ensures.0 c.if-is_linked_pair.true));
      found = i.found;
    }

pub paths_in_slot-paths-requires-clause-piece : goal.paths_in_slot-paths-requires-clause-piece
paths_in_slot-paths-requires-clause-piece c =
    (is_next c.args.graph.now c.args.group.now c.args.level c.loop-piece.yielded c.loop-piece.piece-iterator
    c.next.new.self c.in-Some.piece c.requires.low c.requires.below c.loop-piece.invariant.listed
    c.in-Some.ensures.steps).0

pub paths_in_slot-paths-requires-clause-slots : goal.paths_in_slot-paths-requires-clause-slots
paths_in_slot-paths-requires-clause-slots c =
    let g = c.args.graph.now in
    let q = c.args.group.now in
    let at = is_next g q c.args.level c.loop-piece.yielded c.loop-piece.piece-iterator c.next.new.self c.in-Some.piece
    c.requires.low c.requires.below c.loop-piece.invariant.listed c.in-Some.ensures.steps in
    subst (λ (l : ℕ). HaveSlots g q l (map (λ slot. option_copied slot) c.args.slots.now)) (sym at.1) c.requires.slots

pub loop-piece-preserved : goal.loop-piece-preserved
loop-piece-preserved c =
    let g = c.args.graph.now in
    let q = c.args.group.now in
    let p = c.in-Some.piece in
    let seen = c.loop-piece.yielded in
    let coming = c.loop-piece.piece-iterator in
    let rest = c.next.new.self in
    let i = c.loop-piece.invariant in
    let step = c.in-Some.ensures.steps in
    let at = is_next g q c.args.level seen coming rest p c.requires.low c.requires.below i.listed step in
    let f : FoundPaths = record { piece = p; paths = c.paths_in_slot-paths.result } in
    let old = c.loop-piece.found.items in
    let new = c.push.new.self.items in
    let put : new ≡ old ++ f ∷ [] = c.in_ok-push.ensures.items in
    let piece : FoundPaths → Piece = λ x. x.piece in
    record {
      listed = listed_more (pieces_of_level (length q) c.args.level) seen coming rest p i.listed step;
      named = subst (AreNamed ComesBefore (NamesItself g q) (seen ++ p ∷ [])) (sym (names_more piece old new f put))
          (unlinked_put g q c.args.level seen coming rest (map piece old) p i.listed step
          (λ l. both_ways c.is_linked_pair.result c.if-is_linked_pair.false (c.is_linked_pair.ensures.1 l)) i.named);
      found = holds_more (λ (x : FoundPaths). IsPiece g q x.piece × AreRightPaths g q x.piece x.paths.now) old new f put
          i.found (at.0, c.paths_in_slot-paths.ensures);
    }

pub returns-clause-pieces : goal.returns-clause-pieces
returns-clause-pieces c =
    let g = c.args.graph.now in
    let q = c.args.group.now in
    let names = map (λ f. f.piece) c.loop-piece.found.items in
    unlinked_all g q c.args.level names c.requires.low c.requires.below (all_seen ComesBefore (NamesItself g q)
    (pieces_of_level (length q) c.args.level) c.loop-piece.yielded c.loop-piece.piece-iterator names
    c.loop-piece.invariant.listed c.in-None.ensures.steps.0 c.loop-piece.invariant.named)
