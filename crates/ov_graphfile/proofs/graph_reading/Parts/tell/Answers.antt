-- The name is kept if there is room for it.
use Rattle.std.proofs.Common.{◌<◌, length, arith}
use Rattle.std.specs.Option.{option_copied}
use Rattle.ov_graphfile.proofs.GraphFiles.LineByLine.{one_kept, none_kept}
use Rattle.ov_graphfile.proofs.graph_reading.Parts.tell.Goals as goal

pub returns-in_ok-push-clause-told : goal.returns-in_ok-push-clause-told
returns-in_ok-push-clause-told c names are =
    let count = c.len.ensures in
    let less = c.if-len-most.true in
    let room : length c.args.self.now.told.items < c.args.most = omega (arith, count, less) in
    one_kept (λ t. option_copied t) c.args.most c.args.self.now.told.items c.push.new.self.items names c.args.name are
    room c.in_ok-push.ensures.items

pub returns-else-len-most-clause-told : goal.returns-else-len-most-clause-told
returns-else-len-most-clause-told c names are =
    let count = c.len.ensures in
    let more = c.if-len-most.false in
    let full : ¬ (length c.args.self.now.told.items < c.args.most) = omega (arith, count, more) in
    none_kept (λ t. option_copied t) c.args.most c.args.self.now.told.items names c.args.name are full
