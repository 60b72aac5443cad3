-- The certificate names the cut of the deciding piece.
use Rattle.std.proofs.Common.{◌≡◌, ◌∙◌, ◌+◌, ◌-◌, ◌<◌, ℕ, length, map, sym, ap, subst}
use Rattle.ov_even.specs.Answer.{NamesParting}
use Rattle.ov_cert.specs.Valid.{HavePaths, HaveFans}
use Rattle.ov_fans.specs.Pieces.{level_of}
use Rattle.ov_even.specs.Naming.{AreUnlinkedPieces}
use Rattle.ov_even.proofs.EvenTest.Answering.{split_valid}
use Rattle.ov_even.proofs.AnalysisSteps.Entered.{named_pieces, have_paths, have_fans}
use Rattle.ov_even.proofs.AnalysisSteps.Assembling.{names_cut, level_under}
use Rattle.ov_even.proofs.assembly.split_cert.Goals as goal

pub returns-clause-answer : goal.returns-clause-answer
returns-clause-answer c =
    let g = c.args.graph.now in
    let q = c.args.group.now in
    let s = c.args.first.now in
    let split = c.in_ok-split_of.field-0 in
    let made = c.in_ok-split_of.ensures in
    let level = level_under g q s.piece c.level-k.result c.requires.first.first.piece c.level-k.ensures in
    let names = names_cut g q s c.in-Cut.parting split c.requires.first c.in-Cut.is
    (level.1 ∙ ap (λ (k : ℕ). k + 1) (sym made.k)) (subst (NamesParting split) c.deref.ensures made.names) in
    (c.requires.apart, names)

pub returns-clause-valid : goal.returns-clause-valid
returns-clause-valid c =
    let g = c.args.graph.now in
    let q = c.args.group.now in
    let s = c.args.first.now in
    let split = c.in_ok-split_of.field-0 in
    let made = c.in_ok-split_of.ensures in
    let level = level_under g q s.piece c.level-k.result c.requires.first.first.piece c.level-k.ensures in
    let names = names_cut g q s c.in-Cut.parting split c.requires.first c.in-Cut.is
    (level.1 ∙ ap (λ (k : ℕ). k + 1) (sym made.k)) (subst (NamesParting split) c.deref.ensures made.names) in
    let named = c.args.named.items in
    let same : level_of s.piece - 1 ≡ split.k = ap (λ (n : ℕ). n - 1) (sym c.level-k.ensures) ∙ sym made.k in
    let wanted = subst (λ (k : ℕ). AreUnlinkedPieces g q k (map (λ n. n.piece) named)) same
    (c.requires.wanted s.piece c.requires.first.first) in
    let below : split.k < length g.nodes = subst (λ (k : ℕ). k < length g.nodes) (sym made.k) level.0 in
    let entries = c.in_ok-entries.ensures in
    split_valid g q split c.nodes.ensures.graph c.requires.group names
    (subst (HavePaths g q split.k) (sym (made.pairs ∙ entries.pairs))
    (have_paths g q split.k named c.requires.group below wanted c.requires.asked))
    (subst (HaveFans g q split.k) (sym (made.fans ∙ entries.fans))
    (have_fans g q split.k named c.requires.group below wanted c.requires.asked))

pub entries_of-requires : goal.entries_of-requires
entries_of-requires c = named_pieces c.args.graph.now c.args.group.now (level_of c.args.first.now.piece - 1)
    c.args.named.items (c.requires.wanted c.args.first.now.piece c.requires.first.first)
