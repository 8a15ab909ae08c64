use Rattle.std.proofs.Common.{vec_items}
use Rattle.std.proofs.lemmas.List.{take_rest}
use Rattle.index.proofs.Places.{start_more}
use Rattle.index.proofs.build.start_of.Goals as goal

pub returns : goal.returns
returns c =
    let p = c.args.port.now in
    let e = rw (c.deref.ensures.value, take_rest (vec_items p.moves) c.args.from) at c.below_front.ensures in
    start_more p c.args.from c.args.c c.below_front.result c.requires e.inside e.behind e.next
