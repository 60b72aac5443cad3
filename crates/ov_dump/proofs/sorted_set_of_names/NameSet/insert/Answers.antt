-- The key is added, since it was no member.
use Rattle.std.proofs.Common.{◌≡◌, ◌∙◌, ◌↔◌, ◌⊎◌, List, ℕ, ap, sym, subst, length}
use Rattle.ov_ids.specs.Members.{Has}
use Rattle.ov_dump.proofs.NameLists.{inserted, longer}
use Rattle.ov_dump.proofs.NameSets.{key_added}
use Rattle.ov_dump.proofs.sorted_set_of_names.NameSet.insert.Goals as goal

pub returns-clause-members : goal.returns-clause-members
returns-clause-members c = λ n.
    let names = c.args.self.now in
    subst (λ (ks : List (List ℕ)). Has ks n ↔ ((c.args.name ≡ n) ⊎ Has names n))
    (sym (key_added c.self.inside.names.keys c.insert.new.self.keys names c.args.name c.in_ok-insert.field-0
    c.self.view_is c.requires.stranger c.in_ok-insert.ensures.added c.in_ok-insert.ensures.keys))
    (inserted names c.args.name n)

pub returns-clause-len : goal.returns-clause-len
returns-clause-len c =
    let names = c.args.self.now in
    ap length (key_added c.self.inside.names.keys c.insert.new.self.keys names c.args.name c.in_ok-insert.field-0
    c.self.view_is c.requires.stranger c.in_ok-insert.ensures.added c.in_ok-insert.ensures.keys)
    ∙ longer names c.args.name c.requires.stranger
