use Rattle.uc_shelf.proofs.Places.{front_more}
use Rattle.uc_shelf.proofs.shelf.Shelf.same_one_by_one.Goals as goal

pub loop-k-preserved : goal.loop-k-preserved
loop-k-preserved c =
    let a = c.args.a.now.entries in
    let b = c.args.b.now.entries in
    let k = c.loop-k.k in
    record {
      long = c.loop-k.invariant.long;
      same = front_more a b k c.place-place.result.now.value c.place-other.result.now.value c.place-place.ensures.value c.place-other.ensures.value c.agree.ensures c.loop-k.invariant.same;
    }
