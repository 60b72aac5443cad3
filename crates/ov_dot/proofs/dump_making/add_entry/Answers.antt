-- the name that was inserted has an entry now
use Rattle.std.specs.BTreeSet.{contains}
use Rattle.std.specs.Prelude.{string_cmp}
use Rattle.ov_dot.proofs.Entries.{seen_more}
use Rattle.ov_dot.proofs.dump_making.add_entry.Goals as goal

pub returns-clause-seen : goal.returns-clause-seen
returns-clause-seen c =
    rw c.in_ok-push.ensures.items
    (seen_more (λ q. contains string_cmp c.args.seen.now q) (λ q. contains string_cmp c.insert.new.self q) c.args.text
    c.args.entries.now.items c.args.entry (λ q. c.requires.seen q) (λ q. c.in_ok-insert.ensures.updates.0 q)
    c.requires.name)
