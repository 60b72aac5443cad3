-- The next block's items come behind those of this block.
use Rattle.std.proofs.Common.{◌≡◌, ◌∙◌, ◌+◌, ℕ, List, ◌++◌, length, length-append, get_or, set, ap, ap₂, sym, subst}
use Rattle.std.proofs.Common.{refl, arith}
use Rattle.std.specs.List.{AllByRecursion}
use Rattle.std.proofs.lemmas.List.{get_or_default, get_or-map, map-set}
use Rattle.std.proofs.lemmas.List.Edits.{get_or-remove_below}
use Rattle.ov_lists.specs.Code.Blocks.{Filled, joined, IsWhole}
use Rattle.ov_lists.specs.Code.Dense.{sizes}
use Rattle.ov_lists.proofs.Density.{sizes_without}
use Rattle.ov_lists.proofs.Joining.{joined_next, whole_next}
use Rattle.ov_lists.proofs.block_sequence.join.Given.{Over}
use Rattle.ov_lists.proofs.block_sequence.join.Goals as goal

-- the block that stays had its place before the next one was taken out
this : (g : Over) (c : goal.After-push_reserved g)
    → c.index_mut.result.now ≡ get_or c.args.full.now.items c.args.block c.index_mut.result.now
this g c =
    let i = c.args.block in
    let a = c.index_mut.result.now in
    c.index_mut.ensures.value ∙ ap (λ (xs : List (Filled g.row.T.Denot)). get_or xs i a) c.remove-next.ensures.items
    ∙ get_or-remove_below c.args.full.now.items (i + 1) a i (omega arith) c.requires.next

-- its items, and behind them the next one's
taken : (g : Over) (c : goal.After-push_reserved g)
    → c.append.new.self.items ≡ (get_or c.args.full.now.items c.args.block c.index_mut.result.now).items
    ++ (get_or c.args.full.now.items (c.args.block + 1) c.index_mut.result.now).items
taken g c =
    let a = c.index_mut.result.now in
    let next = c.remove-next.ensures.value
    ∙ get_or_default c.args.full.now.items (c.args.block + 1) c.remove-next.result a c.requires.next in
    c.append.ensures.items ∙ ap₂ (λ (x y : Filled g.row.T.Denot). x.items ++ y.items) (this g c) next

pub returns-clause-items : goal.returns-clause-items
returns-clause-items g c =
    let i = c.args.block in
    ap (λ (xs : List (Filled g.row.T.Denot)). joined (set xs i c.append.new.self)) c.remove-next.ensures.items
    ∙ joined_next c.args.full.now.items i (i + 1) c.index_mut.result.now c.append.new.self refl c.requires.next
    (taken g c)

pub returns-clause-whole : goal.returns-clause-whole
returns-clause-whole g c =
    let i = c.args.block in
    let a = c.index_mut.result.now in
    let memory = c.append.ensures.capacity ∙ ap (λ (x : Filled g.row.T.Denot). x.capacity) (this g c) in
    subst (λ (xs : List (Filled g.row.T.Denot)). AllByRecursion IsWhole (set xs i c.append.new.self))
    (sym {A = List (Filled g.row.T.Denot)} c.remove-next.ensures.items)
    (whole_next c.args.full.now.items i (i + 1) a c.append.new.self refl c.requires.next (taken g c)
    (c.requires.fits a) memory c.requires.whole)

pub returns-clause-sizes : goal.returns-clause-sizes
returns-clause-sizes g c =
    let full = c.args.full.now.items in
    let i = c.args.block in
    let a = c.index_mut.result.now in
    let b = c.append.new.self in
    let f : Filled g.row.T.Denot → ℕ = λ x. length x.items in
    let this = get_or-map f full i a 0 (omega (arith, c.requires.next)) in
    let next = get_or-map f full (i + 1) a 0 c.requires.next in
    let count = ap length (taken g c) ∙ length-append (get_or full i a).items (get_or full (i + 1) a).items
    ∙ ap₂ (λ (m n : ℕ). m + n) (sym this) (sym next) in
    let rest = ap sizes c.remove-next.ensures.items ∙ sizes_without full (i + 1) in
    map-set f c.remove-next.new.self.items i b ∙ ap₂ (λ (ns : List ℕ) (n : ℕ). set ns i n) rest count
