-- The certificate with paths that an outline has: the pieces of the level below the deciding one are good, so they have
-- the paths that they ask for.
use Rattle.std.proofs.Common.{◌≡◌, inl, inr, ℕ, zero, suc, ◌<◌, ◌+◌, ◌-◌, List, [], ◌∷◌, map, length, refl, sym, subst}
use Rattle.std.proofs.Common.{arith}
use Rattle.ov_ids.specs.Members.{Has, Ordered}
use Rattle.ov_ids.proofs.Members.{all_member}
use Rattle.ov_graph.specs.Links.{LinkGraph, IsGraph, IsGroup, AreAllLinked}
use Rattle.ov_cert.specs.declared.cert.Cert.TheVariants as cert
use Rattle.ov_cert.specs.declared.cert.Split.{Split}
use Rattle.ov_cert.proofs.Validity.Exact.{valid_means}
use Rattle.ov_fans.specs.Pieces.{IsGood, IsLinkedPair, AreAskedPaths, level_of}
use Rattle.ov_fans.specs.declared.piece.Piece.{Piece}
use Rattle.ov_even.specs.Answer.{NamesFirstCut}
use Rattle.ov_even.specs.Levels.{IsLevelGood}
use Rattle.ov_even.specs.Naming.{AreUnlinkedPieces, AreWanted, HaveAskedPaths}
use Rattle.ov_even.specs.Order.{ComesBefore}
use Rattle.ov_even.specs.Outlines.{IsFullOf, IsOutline}
use Rattle.ov_even.specs.declared.paths_by_ids.NamedPaths.{NamedPaths}
use Rattle.ov_even.specs.Code.Entries.{with_entries}
use Rattle.ov_even.specs.Code.Levels.{pieces_of_level}
use Rattle.ov_even.proofs.AnalysisSteps.Entered.{AreOfLevel, have_paths, have_fans}
use Rattle.ov_even.proofs.AnalysisSteps.Named.{AreNamed, NamesItself, named_none, named_behind, named_first}
use Rattle.ov_even.proofs.AnalysisSteps.Named.{unlinked_all}
use Rattle.ov_even.proofs.AnalysisSteps.Trials.{unlisted}
use Rattle.ov_even.proofs.EvenTest.Answering.{split_valid, linked_valid}
use Rattle.ov_even.proofs.EvenTest.Cutting.{linked_pair_or_not}
use Rattle.ov_even.proofs.EvenTest.Firsts.{under_good}
use Rattle.ov_even.proofs.PieceOrder.Columns.{ordered_columns}
use Rattle.ov_even.proofs.PieceOrder.PieceLevels.{level_low, level_high}

-- paths for those of these pieces that are no linked pairs
record HavePathsFor (g : LinkGraph) (q : List ℕ) (pieces : List Piece) (named : List NamedPaths) : Type 0 where
  names : AreNamed ComesBefore (NamesItself g q) pieces (map (λ n. n.piece) named)
  asked : HaveAskedPaths g q named

asked_first : (g : LinkGraph) (q : List ℕ) (n : NamedPaths) (named : List NamedPaths)
    → AreAskedPaths g q n.piece n.paths → HaveAskedPaths g q named → HaveAskedPaths g q (n ∷ named)
asked_first g q n named here asked m h = elim h [
  | inl e ↦ subst (λ (x : NamedPaths). AreAskedPaths g q x.piece x.paths) e here
  | inr k ↦ asked m k
]

-- the paths of a piece that is good and no linked pair
good_paths : (g : LinkGraph) (q : List ℕ) (p : Piece) → IsGood g q p → ¬ IsLinkedPair g q p
    → (paths : List (List ℕ)) × AreAskedPaths g q p paths
good_paths g q p good apart = elim good [ inl l ↦ absurd (apart l) | inr r ↦ r ]

-- good pieces in order have paths
paths_for : (g : LinkGraph) (q : List ℕ) (pieces : List Piece) → Ordered ComesBefore pieces
    → ((p : Piece) → Has pieces p → IsGood g q p) → (named : List NamedPaths) × HavePathsFor g q pieces named
paths_for g q [] order good = (
  [],
  record { names = named_none ComesBefore (NamesItself g q) [] refl; asked = λ n h. absurd h },
)
paths_for g q (p ∷ pieces) order good =
    let rest = paths_for g q pieces order.1 (λ r h. good r (inr h)) in
    elim (linked_pair_or_not g q p) [
      | inl l ↦ (
        rest.0,
        record {
          names = named_behind ComesBefore (NamesItself g q) pieces (map (λ n. n.piece) rest.0) p rest.1.names
              (λ x n. n.1 l);
          asked = rest.1.asked;
        },
      )
      | inr apart ↦
          let paths = good_paths g q p (good p (inl refl)) apart in
          let n : NamedPaths = record { piece = p; paths = paths.0 } in (
            n ∷ rest.0,
            record {
              names = named_first ComesBefore (NamesItself g q) pieces (map (λ n. n.piece) rest.0) p p rest.1.names
                  (refl, apart) (λ y m. m.0)
                  (λ r y h m. subst (ComesBefore p) (sym m.0) (all_member (ComesBefore p) pieces r order.0 h));
              asked = asked_first g q n rest.0 paths.1 rest.1.asked;
            },
          )
    ]

-- the pieces of a good level that are no linked pairs, with paths
record HasLevelPaths (g : LinkGraph) (q : List ℕ) (level : ℕ) : Type 0 where
  named : List NamedPaths
  pieces : AreOfLevel g q level named
  asked : HaveAskedPaths g q named

level_paths : (g : LinkGraph) (q : List ℕ) (level : ℕ) → level < length g.nodes → IsLevelGood g q level
    → HasLevelPaths g q level
level_paths g q zero high good = record {
  named = [];
  pieces = record {
    order = tt;
    each = λ p. (
      (λ h. absurd h),
      (λ u.
          let low = level_low g q p u.0 in
          let none = u.1 in
          absurd (omega (arith, low, none))),
    );
  };
  asked = λ n h. absurd h;
}
level_paths g q (suc k) high good =
    let all = pieces_of_level (length q) (suc k) in
    let made = paths_for g q all (ordered_columns (suc k) 0 (length q))
    (λ p h. let u = unlisted g q (suc k) p (omega arith) high h in good p u.0 u.1) in
    record {
      named = made.0;
      pieces = unlinked_all g q (suc k) (map (λ n. n.piece) made.0) (omega arith) high made.1.names;
      asked = made.1.asked;
    }

-- a split that names the first cut, with the entries of the pieces of its level, is the answer and valid
full_with : (g : LinkGraph) (q : List ℕ) (c : Split) (named : List NamedPaths) → IsGraph g → IsGroup g q
    → ¬ AreAllLinked g q → NamesFirstCut g q c → AreOfLevel g q c.k named → HaveAskedPaths g q named
    → IsFullOf g q (cert.Split c) (cert.Split (with_entries q named c))
full_with g q c named graph group apart n pieces asked =
    let high = level_high g q n.piece n.first.piece in
    let level = n.level in
    let below : c.k < length g.nodes = omega (arith, high, level) in
    let names : NamesFirstCut g q (with_entries q named c) = record {
      piece = n.piece;
      first = n.first;
      level = n.level;
      parting = n.parting;
      parted = n.parted;
      names = record { cut = n.names.cut; near = n.names.near; far = n.names.far; side = n.names.side };
    } in
    record {
      valid = split_valid g q (with_entries q named c) graph group names
          (have_paths g q c.k named group below pieces asked) (have_fans g q c.k named group below pieces asked);
      answer = (apart, names);
      alike = record { k = refl; cut = refl; near = refl; far = refl; side = refl };
    }

-- The outline of a split becomes a full certificate by the entries of the pieces whose paths a certificate has: it is
-- then valid, is the answer, and agrees with the outline in everything but the paths.
pub entered_full : (g : LinkGraph) (q : List ℕ) (o : Split) (named : List NamedPaths) → IsGraph g → IsGroup g q
    → IsOutline g q (cert.Split o) → AreWanted g q (map (λ n. n.piece) named) → HaveAskedPaths g q named
    → IsFullOf g q (cert.Split o) (cert.Split (with_entries q named o))
entered_full g q o named graph group outline wanted asked =
    let n = outline.answer.1 in
    let level = n.level in
    let same : level_of n.piece - 1 ≡ o.k = omega (arith, level) in
    full_with g q o named graph group outline.answer.0 n
    (subst (λ (k : ℕ). AreUnlinkedPieces g q k (map (λ m. m.piece) named)) same (wanted n.piece n.first)) asked

-- a split that names the first cut, and has no paths
pub outlined : (g : LinkGraph) (q : List ℕ) (c : Split) → IsGraph g → IsGroup g q → ¬ AreAllLinked g q
    → NamesFirstCut g q c → c.pairs ≡ [] → c.fans ≡ [] → IsOutline g q (cert.Split c)
outlined g q c graph group apart n pairs fans =
    let high = level_high g q n.piece n.first.piece in
    let level = n.level in
    let below : c.k < length g.nodes = omega (arith, high, level) in
    let w = level_paths g q c.k below (under_good g q n.piece c.k n.first n.level) in
    let full = full_with g q c w.named graph group apart n w.pieces w.asked in
    let means = valid_means g q (cert.Split (with_entries q w.named c)) full.valid in
    let splits = means.reached in
    record {
      answer = (apart, n);
      no_paths = (pairs, fans);
      fewest = record {
        reached = record {
          nodes = splits.nodes;
          count = splits.count;
          near_survives = splits.near_survives;
          far_survives = splits.far_survives;
          differ = splits.differ;
          parted = splits.parted;
        };
        no_fewer = means.no_fewer;
        fewest = means.fewest;
      };
      full = (cert.Split (with_entries q w.named c), full);
    }

-- if every two members are linked, the certificate has no paths anyway
pub linked_outlined : (g : LinkGraph) (q : List ℕ) (k : ℕ) → IsGroup g q → AreAllLinked g q → length q ≡ k + 1
    → IsOutline g q (cert.Linked k)
linked_outlined g q k group all count =
    let valid = linked_valid g q k group all count in
    record {
      answer = (all, count);
      no_paths = tt;
      fewest = valid_means g q (cert.Linked k) valid;
      full = (cert.Linked k, record { valid = valid; answer = (all, count); alike = refl });
    }
